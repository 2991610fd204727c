-- `record::writer::put_tail` meets its contract: the lamellae follow their number.
-- Assumes nothing.
use Prim.Native.Nat.{ℕ, ◌+◌, ◌-◌, ◌≤◌}
use Rattle.numbers.proofs.Lists.{rest_stored}
use Rattle.panel.proofs.Lent.{length_in}
use Rattle.panel.proofs.Used.{length_lamellae_of}
use Rattle.panel.specs.Lamellae.{Lamella, lamellae}
use Rattle.panel.specs.declared.Panel.{Panel}
use Rattle.record.proofs.Lengths.{length_lamella_bytes}
use Rattle.record.specs.Layouts.{count_length, lamella_bytes}
use lib.ListN.{length, take, drop, set, length-take, length-drop}
use lib.Seq.{sets}
use mathlib.Core.List.{List}
use mathlib.Core.Path.{ap, ◌∙◌}
use native.Mathlib.Omega.{arith}
use Rattle.record.proofs.writer.put_tail.Goals as goal

pub overflow_cast-p : goal.overflow_cast-p
overflow_cast-p c = omega (arith, c.panel-p.ensures.keeps.section.count)

pub put_lamellae-requires : goal.put_lamellae-requires
put_lamellae-requires c =
    let p = c.panel-p.result in
    let lent = c.lamellae.result in
    simp (length-take, length-drop)
    (omega (
      arith,
      c.requires,
      ap (λ (q : Panel). q.count) c.panel-p.ensures.panel,
      c.put.auto.out,
      ap length c.lamellae.ensures,
      length_in lent,
      length_lamellae_of p.directions p.thicknesses p.count,
    ))

pub returns : goal.returns
returns c =
    let p = c.panel-p.result in
    let ls : List Lamella = lamellae p in
    let l : List ℕ = c.put.new.out in
    let rest : List ℕ = take (length l - count_length) (drop count_length l) in
    let fits : count_length + length (lamella_bytes ls) ≤ length l =
    omega (
      arith,
      c.requires,
      ap (λ (q : Panel). q.count) c.panel-p.ensures.panel,
      c.put.auto.out,
      length_lamella_bytes ls,
      length_lamellae_of p.directions p.thicknesses p.count,
    ) in
    rest_stored l c.put_lamellae.new.out (lamella_bytes ls) count_length fits
    (c.put_lamellae.ensures ∙ ap (λ (xs : List Lamella). sets rest 0 (lamella_bytes xs)) c.lamellae.ensures)
    ∙ ap (λ (xs : List ℕ). sets xs count_length (lamella_bytes ls)) c.put.ensures
    ∙ ap (λ (q : Panel). sets (set c.args.out.now 0 q.count) count_length (lamella_bytes (lamellae q))) c.panel-p.ensures.panel
