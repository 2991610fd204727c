-- `carried::carry::Carried::start` meets its contract: at depth 0 the section is worked out, and no lamella is begun. Assumes nothing.
use native.Mathlib.Omega.{arith}
use Rattle.panel.specs.Lamellae.{thickness}
use Rattle.carried.proofs.carry.Carried.start.Goals as goal

pub invariant_of-result : goal.invariant_of-result
unfolding thickness
invariant_of-result c =
    record {
      short = c.requires.thickness;
      each = c.requires.each;
      carried = c.section_in.ensures;
      within = omega arith;
      begun = omega arith;
      ends = omega arith;
      from = omega arith;
      to = omega arith;
      after = λ inside. absurd (let z : ⊥ = omega (arith, inside) in z);
    }
