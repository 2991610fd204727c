-- The tables of basic times as lists, in a form that antt computes, so that a constant of the code is held to its rule by computing it. It is
-- not the meaning, which is `basic_time`; Entries in proofs/ says that each entry is that.
use Rattle.std.specs.Prelude.{ℕ, zero, suc, ◌+◌, ◌-◌, ◌≤◌, List, [], ◌∷◌, get_or}
use Rattle.numbers.specs.ByBits.{by_bits}
use Rattle.panel.specs.declared.Material.{Material}
use Rattle.panel.specs.Materials.{thinnest, thickest}
use Rattle.basic_times.specs.declared.Role.{Role}
use Rattle.basic_times.specs.Rules.{parts_per_minute, Rule, keeps, rule_of}

-- `longest_time` is below 2^18
abbrev pub bits : ℕ
bits = 18

-- the times by a rule, in thousandths of a minute, at n thicknesses from h on
abbrev pub times : Rule → ℕ → ℕ → List ℕ
times r h zero = []
times r h (suc n) = by_bits (keeps parts_per_minute r h) bits 0 ∷ times r (suc h) n

-- "one table entry for each tenth of mm allowed"
abbrev pub table_of : Role → Material → List ℕ
table_of role m = times (rule_of role m) (thinnest m) (suc (thickest m) - thinnest m)

-- a place in the tables of a material, which begin with its thinnest layer
abbrev pub InTable : Material → ℕ → Type 0
InTable m place = thinnest m + place ≤ thickest m

abbrev pub entry_at : Role → Material → ℕ → ℕ
entry_at role m place = get_or (table_of role m) place 0
