-- What the open call of this crate answers, by document 01's number: "A bare thickness outside its table meets 8 for a board and 11 for a
-- lamella".
use Rattle.std.specs.Prelude.{ℕ, true, false, Result, Ok, Err}
use Rattle.panel.specs.declared.Material.{Material}
use Rattle.panel.specs.declared.Material.TheVariants.{Gypsum, Wood, Osb, ParticleBoard}
use Rattle.panel.specs.Materials.{bad_thickness}
use Rattle.basic_times.specs.declared.Role.{Role}
use Rattle.basic_times.specs.Rules.{basic_time}

-- the line that a bare thickness meets, by the place of such a layer
abbrev pub bare_line : Material → ℕ
bare_line Gypsum = 8
bare_line Wood = 11
bare_line Osb = 8
bare_line ParticleBoard = 8

-- the basic time at a thickness of its table, or the refusal's number
unfoldable pub time_answer : Role → Material → ℕ → Result ℕ ℕ
time_answer role m h = elim (bad_thickness m h) [ true ↦ Err (bare_line m) | false ↦ Ok (basic_time role m h) ]
