-- Where the search may stop: the amounts that were tried decide.
use Prim.Native.Nat.{ℕ, suc, ◌≤◌, ◌<◌}
use mathlib.Core.Path.{◌≡◌, refl, sym, ap}
use mathlib.Core.Bool.{true, false}
use Rattle.std.proofs.Common.{Option, Some, None}
use Rattle.std.specs.Option.{MatchOption}
use native.Mathlib.Omega.{arith}
use native.Mathlib.Nat.{le_refl}
use borrow.Author.Tests.{lt-ltb, le-ltb}
use lib.Dec.{ltb}
use Rattle.numbers.proofs.LeastKept.{least_is}
use Rattle.panel.specs.declared.Panel.{Panel}
use Rattle.planing.specs.Answers.{place_on, cut_behind, lowering, first_behind, most_cut, least_tenths, planing_of}

-- no lamella can have so many tenths taken off that the grade falls
abbrev pub NoneFor : Panel → ℕ → Type 0
NoneFor p tenths = ltb (first_behind p tenths) p.count ≡ false

-- taking nothing off is no cut
pub none_for_zero : (p : Panel) → NoneFor p 0
unfolding first_behind
none_for_zero p =
    let none = least_is (λ (behind : ℕ). lowering p (cut_behind p 0 behind)) p.count p.count (le_refl p.count) (λ k l. refl)
    (λ l. absurd (let z : ⊥ = omega arith in z)) in
    le-ltb (first_behind p 0) p.count (omega (arith, none))

module _ (p : Panel) (tenths : ℕ) (before : (k : ℕ) → k < tenths → NoneFor p k) where
  -- the first amount for which a lamella is found is answered
  pub found_is :
      (place : ℕ) → tenths ≤ most_cut → first_behind p tenths < p.count → place ≡ place_on p.face p.count (first_behind p tenths)
      → Some (record { place = place; tenths = tenths }) ≡ planing_of p
  unfolding planing_of least_tenths
  found_is place most here e =
      let least : least_tenths p ≡ tenths =
      least_is (λ (n : ℕ). ltb (first_behind p n) p.count) (suc most_cut) tenths (omega arith) before
      (λ _. lt-ltb (first_behind p tenths) p.count here) in
      rw (least, lt-ltb tenths (suc most_cut) (omega arith)) (ap (λ (n : ℕ). Some (record { place = n; tenths = tenths })) e)

  -- past the last amount none is
  pub none_is : tenths ≡ suc most_cut → None ≡ planing_of p
  unfolding planing_of least_tenths
  none_is end =
      let least : least_tenths p ≡ suc most_cut =
      least_is (λ (n : ℕ). ltb (first_behind p n) p.count) (suc most_cut) (suc most_cut) (le_refl (suc most_cut))
      (λ k l. before k (omega arith)) (λ l. absurd (let z : ⊥ = omega arith in z)) in
      rw least refl

-- What is tried for one amount

abbrev pub Lowers : Panel → ℕ → ℕ → Type 0
Lowers p tenths behind = lowering p (cut_behind p tenths behind) ≡ true

abbrev pub LowersNot : Panel → ℕ → ℕ → Type 0
LowersNot p tenths behind = lowering p (cut_behind p tenths behind) ≡ false

-- the first from the fire on that lowers the grade, or none
pub first_found :
    (p : Panel) (tenths : ℕ) (r : Option ℕ)
    → MatchOption r ((k : ℕ) → 0 ≤ k → k < p.count → LowersNot p tenths k)
    (λ i. (0 ≤ i) × (i < p.count) × Lowers p tenths i × ((k : ℕ) → 0 ≤ k → k < i → LowersNot p tenths k))
    → MatchOption r (first_behind p tenths ≡ p.count) (λ behind. (behind ≡ first_behind p tenths) × (behind < p.count))
unfolding first_behind
first_found p tenths None none =
    least_is (λ (k : ℕ). lowering p (cut_behind p tenths k)) p.count p.count (le_refl p.count) (λ k u. none k (omega arith) u)
    (λ u. absurd (let z : ⊥ = omega arith in z))
first_found p tenths (Some i) found =
    let within = found.1 in
    (sym (least_is (λ (k : ℕ). lowering p (cut_behind p tenths k)) p.count i (omega arith) (λ k u. found.3 k (omega arith) u) (λ _. found.2)), within)
