-- What is kept of one panel's layers for others. It is true in itself, and says nothing of the panel that it is used for.
use Rattle.std.specs.Prelude.{ℕ, ◌+◌, ◌*◌, ◌≤◌, ◌≡◌, min, map}
use Rattle.panel.specs.declared.Cladding.{Cladding}
use Rattle.panel.specs.declared.Material.TheVariants.{Wood}
use Rattle.panel.specs.Boards.{boards_of}
use Rattle.panel.specs.Lamellae.{lamella}
use Rattle.basic_times.specs.declared.Role.{Role}
use Rattle.basic_times.specs.declared.Role.TheVariants.{Protection}
use Rattle.basic_times.specs.Rules.{longest_time}
use Rattle.limits.specs.Keeps.{ThicknessKeeps, CladdingKeeps}
use Rattle.layers.specs.Layers.{board_layer, lamella_layer, with_layer, protected_after}

-- the sum with a lamella of a thickness more, "of either direction"
pub record WithLamella (role : Role) (before thickness after : ℕ) : Type 0 where
  pub sum : (g : ℕ) → after ≡ with_layer role before (lamella_layer (lamella g thickness))
  pub most : after ≤ before + longest_time

-- it is that where the sum before it and the thickness are such as layers have; a place of thickness 0 says nothing
abbrev pub GivesAfter : ℕ → ℕ → ℕ → Type 0
GivesAfter before thickness after = before ≤ 10 * longest_time → ThicknessKeeps Wood thickness → WithLamella Protection before thickness after

-- the sum of the boards of a cladding
pub record WithBoards (c : Cladding) (after : ℕ) : Type 0 where
  pub sum : after ≡ protected_after 0 (map board_layer (boards_of c))
  pub most : after ≤ 2 * longest_time

abbrev pub GivesBoards : Cladding → ℕ → Type 0
GivesBoards c after = CladdingKeeps c → WithBoards c after

-- two sums are the same, or each is enough
abbrev pub SameUpTo : ℕ → ℕ → ℕ → Type 0
SameUpTo enough a b = min a enough ≡ min b enough
