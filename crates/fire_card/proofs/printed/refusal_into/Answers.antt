-- There is room for the text of a refusal.
use Rattle.std.proofs.Common.{◌≤◌, ℕ, [], ◌∷◌, length, take, sym, ap, ◌∙◌, arith}
use Rattle.text_lines.proofs.Lengths.{length_line}
use Rattle.fire_card.proofs.Texts.{text_stands, text_not_written}
use Rattle.fire_card.specs.Card.{refusal_head, refusal_text}
use Rattle.fire_card.proofs.printed.refusal_into.Goals as goal

-- it is short
room : (n : ℕ) → length (refusal_text n) ≤ 249
room n = let long = length_line refusal_head (n ∷ []) in omega (arith, long)

pub slice_bounds-result-end : goal.slice_bounds-result-end
slice_bounds-result-end c =
    let h = text_stands [] (refusal_text c.from.result) c.args.out.now tt c.in-Ok.k (sym c.in-Ok.ensures.value) in
    h.1.0 ∙ ap length (sym (ap (take c.in-Ok.k) c.in-Ok.ensures.out_after ∙ h.1.1))

pub returns-in-Ok : goal.returns-in-Ok
returns-in-Ok c =
    let k = c.in-Ok.k in
    let h = text_stands [] (refusal_text c.from.result) c.args.out.now tt k (sym c.in-Ok.ensures.value) in
    ap (take k) c.in-Ok.ensures.out_after ∙ h.1.1 ∙ ap refusal_text c.from.ensures

pub returns-in-Err : goal.returns-in-Err
returns-in-Err c =
    let text = refusal_text c.from.result in
    let short : length text ≤ length c.args.out.now = omega (arith, room c.from.result, c.requires) in
    let t = text_not_written [] text c.args.out.now tt short _ (sym c.in-Err.ensures.value) in
    absurd (t.1 t.0)
