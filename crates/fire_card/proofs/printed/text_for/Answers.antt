-- With room for the longest card, only a refused record gets no card.
use Rattle.std.proofs.Common.{◌≤◌, length, take, sym, ap, ◌∙◌, arith}
use Rattle.fire_card.proofs.Cards.{card_length}
use Rattle.fire_card.proofs.Prints.{printed_card, printed_refusal}
use Rattle.fire_card.proofs.Texts.{text_stands, text_not_written}
use Rattle.fire_card.specs.Card.{text_of_card}
use Rattle.refusals.specs.Numbers.{line_number}
use Rattle.record.specs.Layouts.{panel_of}
use Rattle.record.specs.Refusals.{record_lines, record_refusal}
use Rattle.fire_card.proofs.printed.text_for.Goals as goal

pub slice_bounds-result-end : goal.slice_bounds-result-end
slice_bounds-result-end c =
    let b = c.args.bytes.now in
    let p = panel_of b in
    let h = text_stands (record_lines b) (text_of_card p) c.args.out.now tt c.in-Ok.k (sym c.in-Ok.ensures.value) in
    h.1.0 ∙ ap length (sym (ap (take c.in-Ok.k) c.in-Ok.ensures.out_after ∙ h.1.1))

pub returns-in-Ok : goal.returns-in-Ok
unfolding record_refusal
returns-in-Ok c =
    let b = c.args.bytes.now in
    let k = c.in-Ok.k in
    let h = text_stands (record_lines b) (text_of_card (panel_of b)) c.args.out.now tt k (sym c.in-Ok.ensures.value) in
    ap (take k) c.in-Ok.ensures.out_after ∙ h.1.1 ∙ printed_card b h.0

pub returns-in-Err : goal.returns-in-Err
unfolding record_refusal
returns-in-Err c =
    let b = c.args.bytes.now in
    let p = panel_of b in
    let n = line_number c.in-Err.refusal in
    let room : length (text_of_card p) ≤ length c.args.out.now = omega (arith, card_length p, c.requires) in
    let t = text_not_written (record_lines b) (text_of_card p) c.args.out.now tt room n (sym c.in-Err.ensures.value) in
    c.refusal_into.ensures ∙ printed_refusal b n t.0 t.1
