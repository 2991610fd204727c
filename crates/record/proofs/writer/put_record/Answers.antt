-- `record::writer::put_record` meets its contract: each part begins where the one before ends.
-- Assumes nothing.
use Prim.Native.Nat.{ℕ, ◌+◌, ◌-◌}
use Rattle.numbers.proofs.Lists.{rest_stored}
use Rattle.numbers.specs.Bytes.{join}
use Rattle.panel.proofs.Used.{length_lamellae_of}
use Rattle.panel.specs.Boards.{boards_of}
use Rattle.panel.specs.Lamellae.{lamellae}
use Rattle.panel.specs.declared.Panel.{Panel}
use Rattle.record.proofs.Lengths.{parts_stored, length_board_bytes, length_lamella_bytes}
use Rattle.record.specs.Layouts.{count_place, front_length, head_widths, head_length, head_numbers, board_bytes, tail_bytes}
use lib.ListN.{length, take, drop}
use lib.Seq.{sets, length-sets}
use mathlib.Core.List.{List}
use mathlib.Core.Path.{◌≡◌, ap, ap₂, ◌∙◌}
use native.Mathlib.Omega.{arith}
use Rattle.record.proofs.writer.put_record.Goals as goal

pub returns : goal.returns
returns c =
    let p = c.args.accepted in
    let same : c.panel-p.result ≡ p = c.panel-p.ensures.panel in
    let l = c.args.out.now in
    let bs = boards_of p.cladding in
    let front = c.front-front.result in
    let place = c.count_place-tail.result in
    let at-head : front ≡ front_length p.version = c.front-front.ensures.0 ∙ ap (λ (q : Panel). front_length q.version) same in
    let at-tail : place ≡ count_place p.version (length bs) =
    c.count_place-tail.ensures.0 ∙ ap₂ count_place c.layout_of.ensures.0 c.layout_of.ensures.1
    ∙ ap (λ (q : Panel). count_place q.version (length (boards_of q.cladding))) same in
    let head : List ℕ = join head_widths (head_numbers p) in
    let boards : List ℕ = board_bytes bs in
    let n₁ = c.put_front.auto.out in
    let e₂ = c.put.ensures ∙ ap (sets c.put_front.new.out front) (c.head.ensures ∙ ap (λ (q : Panel). join head_widths (head_numbers q)) same) in
    let n₂ = ap length e₂ ∙ length-sets c.put_front.new.out front head ∙ n₁ in
    let rest : List ℕ = take (length c.put.new.out - (front + head_length)) (drop (front + head_length) c.put.new.out) in
    let e₃ = rest_stored c.put.new.out c.put_cladding.new.out boards (front + head_length) (omega (arith, c.requires, at-head, n₂, length_board_bytes bs))
    (c.put_cladding.ensures ∙ ap (λ (q : Panel). sets rest 0 (board_bytes (boards_of q.cladding))) same) in
    let n₃ = ap length e₃ ∙ length-sets _ (front + head_length) boards ∙ n₂ in
    let e₄ = rest_stored _ c.put_tail.new.out (tail_bytes p) place
    (omega (arith, c.requires, n₃, at-tail, length_lamella_bytes (lamellae p), length_lamellae_of p.directions p.thicknesses p.count)) c.put_tail.ensures in
    parts_stored p l c.put_front.new.out c.put.new.out _ _ front place at-head at-tail c.put_front.ensures e₂ e₃ e₄
