-- THE CLAIM: every row of the further table holds of the definitions, as every starred one does. Assumes nothing.
use Rattle.numbers.specs.Largest.{largest}
use Rattle.panel.specs.Lamellae.{lamellae_of, thickness}
use Rattle.section.specs.Sections.{counted_from, total, lowest, highest, section_of}
use Rattle.section.specs.Tests.{carries}
use Rattle.panel.specs.Boards.{material_of}
use Rattle.panel.specs.Products.{thin_rate, rate_by}
use Rattle.refusals.specs.Causes.{some}
use Rattle.refusals.specs.Refusals.{panel_refusal}
use Rattle.record.specs.Taken.{g_bytes, taken_for}
use Rattle.record.specs.Layouts.{lamellae_in, panel_in, panel_of}
use Rattle.record.specs.Refusals.{record_refusal}
use Rattle.charring.specs.Rates.{failure_of, k2, clad, lines_from, bond_lines, line_end, intact_end, passed_end, first_end}
use Rattle.charring.specs.Way.{stretches, way, charred}
use Rattle.charring.specs.Depths.{char_at, effective_at}
use Rattle.phases.specs.Phases.{phase_on, phase_at}
use Rattle.load.specs.LoadMinute.{every_from, time_test}
use Rattle.load.specs.FailureTests.{fails_right_after}
use Rattle.layers.specs.Layers.{joint_of}
use Rattle.cases.proofs.SumsByBits.{sum_after_by_bits}
use Rattle.numbers.specs.Least.{least}
use Rattle.grades.specs.Grades.{greatest_to}
use Rattle.load.specs.Lasting.{lasts}
use Rattle.planing.specs.Cuts.{thickness_at, thinned}
use Rattle.cases.proofs.Planed.{first_by, none_below}
use Rattle.cases.proofs.Printed.{same_text, lines_after}
use Rattle.text_lines.specs.Text.{after, number_from, digits, text_fields}
use Rattle.cases.specs.Cases.{EveryRowHolds}
use Rattle.cases.specs.Further.{charring_rows, wood_board_rows, fire_rows, first_run_rows, rating_rows, cut_rows, lvl_rows, card_rows, further}
use Rattle.cases.proofs.Tested.{phase_number, agree, all_tested, both}

charring_rows_hold : EveryRowHolds charring_rows
unfolding charring_rows rate_by agree phase_number largest lamellae_of thickness counted_from total lowest highest section_of carries some material_of lamellae_in panel_of panel_in taken_for record_refusal panel_refusal failure_of k2 clad lines_from bond_lines line_end intact_end passed_end first_end stretches way charred char_at effective_at phase_on phase_at every_from time_test fails_right_after joint_of sum_after_by_bits
charring_rows_hold = all_tested charring_rows tt

wood_board_rows_hold : EveryRowHolds wood_board_rows
unfolding wood_board_rows rate_by agree phase_number largest lamellae_of thickness counted_from total lowest highest section_of carries some material_of lamellae_in panel_of panel_in taken_for record_refusal panel_refusal failure_of k2 clad lines_from bond_lines line_end intact_end passed_end first_end stretches way charred char_at effective_at phase_on phase_at every_from time_test fails_right_after joint_of sum_after_by_bits
wood_board_rows_hold = all_tested wood_board_rows tt

fire_rows_hold : EveryRowHolds fire_rows
unfolding fire_rows rate_by agree phase_number largest lamellae_of thickness counted_from total lowest highest section_of carries some material_of lamellae_in panel_of panel_in taken_for record_refusal panel_refusal failure_of k2 clad lines_from bond_lines line_end intact_end passed_end first_end stretches way charred char_at effective_at phase_on phase_at every_from time_test fails_right_after joint_of sum_after_by_bits
fire_rows_hold = all_tested fire_rows tt

first_run_rows_hold : EveryRowHolds first_run_rows
unfolding first_run_rows rate_by agree phase_number largest lamellae_of thickness counted_from total lowest highest section_of carries some material_of lamellae_in panel_of panel_in taken_for record_refusal panel_refusal failure_of k2 clad lines_from bond_lines line_end intact_end passed_end first_end stretches way charred char_at effective_at phase_on phase_at every_from time_test fails_right_after joint_of sum_after_by_bits
first_run_rows_hold = all_tested first_run_rows tt

rating_rows_hold : EveryRowHolds rating_rows
unfolding rating_rows rate_by agree least greatest_to lasts thickness_at thinned first_by none_below phase_number largest lamellae_of thickness counted_from total lowest highest section_of carries some material_of lamellae_in panel_of panel_in taken_for record_refusal panel_refusal failure_of k2 clad lines_from bond_lines line_end intact_end passed_end first_end stretches way charred char_at effective_at phase_on phase_at every_from time_test fails_right_after joint_of sum_after_by_bits
rating_rows_hold = all_tested rating_rows tt

cut_rows_hold : EveryRowHolds cut_rows
unfolding cut_rows rate_by agree least greatest_to lasts thickness_at thinned first_by none_below phase_number largest lamellae_of thickness counted_from total lowest highest section_of carries some material_of lamellae_in panel_of panel_in taken_for record_refusal panel_refusal failure_of k2 clad lines_from bond_lines line_end intact_end passed_end first_end stretches way charred char_at effective_at phase_on phase_at every_from time_test fails_right_after joint_of sum_after_by_bits
cut_rows_hold = all_tested cut_rows tt

lvl_rows_hold : EveryRowHolds lvl_rows
unfolding lvl_rows agree thin_rate rate_by least greatest_to lasts thickness_at thinned first_by none_below phase_number largest lamellae_of thickness counted_from total lowest highest section_of carries some material_of lamellae_in panel_of panel_in taken_for record_refusal panel_refusal failure_of k2 clad lines_from bond_lines line_end intact_end passed_end first_end stretches way charred char_at effective_at phase_on phase_at every_from time_test fails_right_after joint_of sum_after_by_bits
lvl_rows_hold = all_tested lvl_rows tt

card_rows_hold : EveryRowHolds card_rows
unfolding card_rows rate_by agree g_bytes least greatest_to same_text lines_after after number_from digits text_fields largest lamellae_of thickness counted_from total lowest highest section_of carries some material_of lamellae_in panel_of panel_in taken_for record_refusal panel_refusal failure_of k2 clad lines_from bond_lines line_end intact_end passed_end first_end stretches way charred char_at effective_at every_from time_test joint_of sum_after_by_bits
card_rows_hold = all_tested card_rows tt

pub further_hold : EveryRowHolds further
further_hold =
    both charring_rows _ charring_rows_hold
    (both wood_board_rows _ wood_board_rows_hold
    (both fire_rows _ fire_rows_hold
    (both first_run_rows _ first_run_rows_hold
    (both rating_rows _ rating_rows_hold (both cut_rows _ cut_rows_hold (both lvl_rows _ lvl_rows_hold card_rows_hold))))))
