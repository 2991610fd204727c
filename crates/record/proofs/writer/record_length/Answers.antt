-- `record::writer::record_length` meets its contract: an accepted panel has at most nine lamellae. Assumes nothing.
use mathlib.Core.Path.{ap, ap₂, ◌∙◌}
use native.Mathlib.Omega.{arith}
use Prim.Native.Nat.{ℕ}
use Rattle.record.proofs.Lengths.{front_within}
use Rattle.record.specs.Layouts.{record_length, length_with}
use Rattle.record.proofs.writer.record_length.Goals as goal

pub length_with-requires : goal.length_with-requires
length_with-requires c = omega (arith, c.panel-p.ensures.keeps.section.count)

pub returns : goal.returns
returns c =
    let p = c.panel-p.result in
    let layout = c.layout_of in (
      c.length_with.ensures
          ∙ ap₂ (λ (version boards : ℕ). length_with version boards p.count) layout.ensures.0 layout.ensures.1
          ∙ ap record_length c.panel-p.ensures.panel,
      omega (arith, c.length_with.ensures, layout.ensures.2, front_within layout.result.version, c.panel-p.ensures.keeps.section.count),
    )
