-- `charring::values::is_clad` meets its contract: only an unclad panel has no boards. Assumes nothing.
use mathlib.Core.Bool.{true}
use mathlib.Core.Path.{◌≡◌, refl}
use Rattle.panel.specs.declared.Cladding.{Cladding}
use Rattle.panel.specs.declared.Cladding.TheVariants.{Unclad, One, Two}
use Rattle.charring.specs.Rates.{clad}
use Rattle.charring.proofs.values.is_clad.Goals.{in-Unclad, in_default}
use Rattle.charring.proofs.values.is_clad.Goals as goal

with_boards : (c : Cladding) → (c ≡ Unclad → ⊥) → true ≡ clad c
unfolding clad
with_boards Unclad h = absurd (h refl)
with_boards (One b) h = refl
with_boards (Two outer inner) h = refl

pub returns : goal.returns
unfolding clad
returns c =
    elim c.match-matches.branch [
      | in-Unclad w ↦ rw (w.matches-is, w.in-Unclad.is)
      | in_default w ↦ rw w.matches-is (with_boards c.args.c w.in_default.not-Unclad)
    ]
