-- Unused places do not matter: panels that differ at most there have the same depths.
use Prim.Native.Nat.{ℕ}
use mathlib.Core.Path.{◌≡◌, refl, ap}
use mathlib.Core.List.{List, []}
use mathlib.Core.Bool.{true, false}
use lib.Dec.{eqb}
use Rattle.panel.specs.declared.Panel.{Panel}
use Rattle.panel.specs.Lamellae.{Lamella, cleared, SameUsed}
use Rattle.panel.proofs.Used.{lamellae_cleared, unused}
use Rattle.charring.specs.Rates.{failure_of, intact_end, first_end, lines_from, bond_lines}
use Rattle.charring.specs.Way.{way}
use Rattle.panel.proofs.Rates.{rate_cleared}
use Rattle.charring.specs.Depths.{char_at, effective_at, tenths_at}

-- With unused places 0

lines_cleared : (p : Panel) → bond_lines (cleared p) ≡ bond_lines p
unfolding bond_lines
lines_cleared p =
    ap (λ (ls : List Lamella). elim (eqb p.bond 1) as (λ _. List ℕ) [ true ↦ lines_from 0 ls | false ↦ [] ]) (lamellae_cleared p)

pub way_cleared : (p : Panel) → way (cleared p) ≡ way p
unfolding way first_end intact_end failure_of
way_cleared p = rw (lines_cleared p, rate_cleared p, lamellae_cleared p) refl

pub char_cleared : (p : Panel) (n m : ℕ) → char_at (cleared p) n m ≡ char_at p n m
unfolding char_at failure_of
char_cleared p n m = rw (way_cleared p, rate_cleared p, lamellae_cleared p) refl

tenths_cleared : (p : Panel) (n m : ℕ) → tenths_at (cleared p) n m ≡ tenths_at p n m
unfolding effective_at
tenths_cleared p n m = rw (char_cleared p n m, lamellae_cleared p) refl

-- Depths

pub char_same : (p q : Panel) → SameUsed p q → (n m : ℕ) → char_at p n m ≡ char_at q n m
char_same p q h n m = unused (λ (p : Panel). char_at p n m) (λ p. char_cleared p n m) p q h

pub tenths_same : (p q : Panel) → SameUsed p q → (n m : ℕ) → tenths_at p n m ≡ tenths_at q n m
tenths_same p q h n m = unused (λ (p : Panel). tenths_at p n m) (λ p. tenths_cleared p n m) p q h
