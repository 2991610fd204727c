-- Document 01, "Layer times", and document 02, 1/14 and 8/14: the basic times, in thousandths of a minute, rounded down; thicknesses in tenths
-- of mm. The parts of a minute are a parameter of what follows, so that the same in other parts can be compared.
use Rattle.std.specs.Prelude.{ℕ, ◌*◌, ◌^◌, Bool, leb}
use Rattle.numbers.specs.Largest.{largest}
use Rattle.panel.specs.declared.Material.{Material}
use Rattle.panel.specs.declared.Material.TheVariants.{Gypsum, Wood, Osb, ParticleBoard}
use Rattle.basic_times.specs.declared.Role.{Role}
use Rattle.basic_times.specs.declared.Role.TheVariants.{Protection, Insulation}

-- "Basic times and layer times are kept in thousandths of a minute"
abbrev pub parts_per_minute : ℕ
parts_per_minute = 1000

-- no layer lasts longer, in so many parts to the minute
abbrev pub longest_in : ℕ → ℕ
longest_in parts = 150 * parts

abbrev pub longest_time : ℕ
longest_time = longest_in parts_per_minute

-- base·(h/reference)^(power/root): the base in minutes, the reference in tenths of mm
pub record Rule : Type 0 where
  pub base : ℕ
  pub reference : ℕ
  pub power : ℕ
  pub root : ℕ

abbrev pub rule : ℕ → ℕ → ℕ → ℕ → Rule
rule base reference power root = record { base = base; reference = reference; power = power; root = root }

-- v parts keep to the rule at the thickness h, both sides raised to the root: "the largest whole number whose fifth or tenth power keeps to
-- the rule"
abbrev pub keeps : ℕ → Rule → ℕ → ℕ → Bool
keeps parts r h v = leb (v ^ r.root * r.reference ^ r.power) ((r.base * parts) ^ r.root * h ^ r.power)

-- the largest whole number that keeps to the rule
unfoldable pub largest_time : ℕ → Rule → ℕ → ℕ
largest_time parts r h = largest (keeps parts r h) (longest_in parts)

-- the rules of the tables, one for each
abbrev pub rule_of : Role → Material → Rule
-- "Gypsum: protection 30·(h/15)^1.2, insulation 24·(h/15)^1.4."
rule_of Protection Gypsum = rule 30 150 6 5
rule_of Insulation Gypsum = rule 24 150 7 5
-- "Lamella of either direction, as solid wood board: 30·(h/20)^1.1 and 19·(h/20)^1.4; h in mm."
rule_of Protection Wood = rule 30 200 11 10
rule_of Insulation Wood = rule 19 200 7 5
-- "Protection is 23·(h/20)^1.1 for O and 33·(h/20)^1.1 for P, insulation 16·(h/20)^1.4 .. and 22·(h/20)^1.4."
rule_of Protection Osb = rule 23 200 11 10
rule_of Insulation Osb = rule 16 200 7 5
rule_of Protection ParticleBoard = rule 33 200 11 10
rule_of Insulation ParticleBoard = rule 22 200 7 5

-- the basic time of a layer in so many parts to the minute, by what it is counted for and made of, at a thickness
abbrev pub basic_time_in : ℕ → Role → Material → ℕ → ℕ
basic_time_in parts role m h = largest_time parts (rule_of role m) h

-- the basic time, in thousandths of a minute
abbrev pub basic_time : Role → Material → ℕ → ℕ
basic_time = basic_time_in parts_per_minute
