-- THE CLAIM: every row of the starred table holds of the definitions. The tests are computed here; that a row whose test is true
-- holds is `all_tested`. Assumes nothing.
use Rattle.numbers.specs.Largest.{largest}
use Rattle.panel.specs.Lamellae.{lamellae_of, thickness}
use Rattle.section.specs.Sections.{counted_from, total, lowest, highest, section_of}
use Rattle.section.specs.Tests.{carries}
use Rattle.refusals.specs.Causes.{some}
use Rattle.refusals.specs.Refusals.{panel_refusal}
use Rattle.charring.specs.Rates.{failure_of, k2, clad, lines_from, bond_lines, line_end, intact_end, passed_end, first_end}
use Rattle.charring.specs.Way.{stretches, way, charred}
use Rattle.charring.specs.Depths.{char_at, effective_at}
use Rattle.load.specs.LoadMinute.{every_from, time_test}
use Rattle.load.specs.FailureTests.{fails_right_after}
use Rattle.panel.specs.Boards.{material_of}
use Rattle.panel.specs.Products.{rate_by}
use Rattle.layers.specs.Layers.{joint_of}
use Rattle.cases.proofs.SumsByBits.{sum_after_by_bits}
use Rattle.cases.specs.Cases.{EveryRowHolds}
use Rattle.cases.specs.Starred.{starred}
use Rattle.cases.proofs.Tested.{agree, all_tested}

pub starred_hold : EveryRowHolds starred
unfolding starred agree rate_by largest lamellae_of thickness counted_from total lowest highest section_of carries some panel_refusal material_of joint_of sum_after_by_bits failure_of k2 clad lines_from bond_lines line_end intact_end passed_end first_end stretches way charred char_at effective_at every_from time_test fails_right_after
starred_hold = all_tested starred tt
