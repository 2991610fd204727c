-- What the open calls of this crate answer, by document 01's number.
use Rattle.std.specs.Prelude.{ℕ, Result}
use Rattle.panel.specs.declared.Panel.{Panel}
use Rattle.refusals.specs.Lines.{unless_refused}
use Rattle.refusals.specs.Refusals.{panel_refusal}
use Rattle.layers.specs.Layers.{printed_ei, least_sum}

-- the sum of the layer times, thousandths of a minute
unfoldable pub ei_sum_answer : Panel → Result ℕ ℕ
ei_sum_answer p = unless_refused (panel_refusal p) (least_sum p)

-- EI in whole minutes
unfoldable pub ei_answer : Panel → Result ℕ ℕ
ei_answer p = unless_refused (panel_refusal p) (printed_ei p)
