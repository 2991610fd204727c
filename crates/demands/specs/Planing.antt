-- Document 02, 7/14, of records: what the number says that the function for C answers.
use Rattle.std.specs.Prelude.{ℕ, zero, suc, ◌/◌, ◌%◌, ◌≡◌, List, pos}
use Rattle.panel.specs.declared.Panel.{Panel}
use Rattle.record.specs.Layouts.{panel_of}
use Rattle.record.specs.Refusals.{record_refusal}
use Rattle.planing.specs.LeastCut.{IsLeastCut, NoneLowers}
use Rattle.card_c.specs.Planing.{record_planing, exported_cut}

-- 0: "no such cut of any lamella lowers the grade". Else the thousands are the lamella's place and the rest the tenths of mm: that cut
-- lowers the grade, no smaller cut of any lamella does, and none as small nearer the fire
abbrev pub SaysOf : Panel → ℕ → Type 0
SaysOf p zero = NoneLowers p
SaysOf p (suc n) = IsLeastCut p (record { place = suc n / 1000; tenths = suc n % 1000 })

-- for the bytes b of every accepted record a number that is not negative is answered, and says this
pub record PlaningOf (b : List ℕ) : Type 0 where
  pub number : ℕ
  pub answered : exported_cut (record_planing b) ≡ pos number
  pub says : SaysOf (panel_of b) number

abbrev pub PlaningOfC : Type 0
PlaningOfC = (b : List ℕ) → record_refusal b ≡ 0 → PlaningOf b
