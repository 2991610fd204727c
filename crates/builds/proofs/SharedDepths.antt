-- Panels of the same build have the same depths: none of them looks at version, strength or moment.
use Prim.Native.Nat.{ℕ}
use mathlib.Core.Path.{◌≡◌, refl}
use Rattle.panel.specs.declared.Panel.{Panel}
use Rattle.builds.specs.Builds.{SameBuild}
use Rattle.builds.proofs.Builds.{same_shared}
use Rattle.charring.specs.Rates.{failure_of, intact_end, first_end, bond_lines}
use Rattle.charring.specs.Way.{way}
use Rattle.charring.specs.Depths.{char_at, effective_at, tenths_at}
use Rattle.charring.proofs.Unused.{char_same, tenths_same}

module _ (a b : Panel) (h : SameBuild a b) where
  pub char_shared : (n q : ℕ) → char_at a n q ≡ char_at b n q
  unfolding char_at way first_end intact_end failure_of bond_lines
  char_shared n q = same_shared (λ (p : Panel). char_at p n q) (λ p r k. char_same p r k n q) (λ p version strength moment. refl) a b h

  pub tenths_shared : (n q : ℕ) → tenths_at a n q ≡ tenths_at b n q
  unfolding effective_at char_at way first_end intact_end failure_of bond_lines
  tenths_shared n q = same_shared (λ (p : Panel). tenths_at p n q) (λ p r k. tenths_same p r k n q) (λ p version strength moment. refl) a b h
