-- `record::reader::lamellae_in` meets its contract: after i rounds the arrays hold the first i lamellae.
use Prim.Native.Nat.{ℕ, ◌+◌, ◌*◌, ◌<◌}
use Rattle.numbers.proofs.Words.{word_at}
use Rattle.panel.specs.Lamellae.{Lamella}
use Rattle.panel.proofs.Arrays.{filled_more}
use Rattle.record.specs.Layouts.{lamella_at, lamellae_in}
use Rattle.std.specs.Int.{w16}
use lib.ListN.{set}
use mathlib.Core.List.{List}
use mathlib.Core.Path.{ap₂, ◌∙◌}
use native.Mathlib.Omega.{arith}
use Rattle.record.proofs.reader.lamellae_in.Goals as goal

pub loop-i-preserved : goal.loop-i-preserved
unfolding lamellae_in
loop-i-preserved c =
    let u = c.args.u.now in
    let i = c.loop-i.i in
    let less : i < 9 = omega arith in
    let thickness = word_at w16 u (3 * i + 1) c.bytes_at.ensures c.from_be_bytes.ensures in (
      ap₂ (λ (l : List ℕ) (x : ℕ). set l i x) c.loop-i.invariant.0 c.byte_at.ensures ∙ filled_more (λ (l : Lamella). l.direction) (lamella_at u) i less,
      ap₂ (λ (l : List ℕ) (x : ℕ). set l i x) c.loop-i.invariant.1 thickness ∙ filled_more (λ (l : Lamella). l.thickness) (lamella_at u) i less,
    )
