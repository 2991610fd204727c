-- Every depth from one to another: what the test says, and that it is split at any depth between. Assumes nothing.
use Rattle.std.proofs.lemmas.Bool.{false_from_ne_true}
use Prim.Native.Nat.{ℕ, zero, suc, ◌+◌, ◌-◌, ◌≤◌, ◌<◌}
use mathlib.Core.Path.{◌≡◌, refl, sym, ap, ◌∙◌}
use mathlib.Core.Bool.{Bool, true, false, ◌&&◌}
use mathlib.Core.Logic.{◌↔◌, ⊎_elim}
use native.Mathlib.Omega.{arith}
use native.Mathlib.Nat.{eq-or-lt_of_le}
use native.Mathlib.Decide.{dec_le}
use Rattle.numbers.proofs.Booleans.{and_left, and_right, not_both}
use Rattle.load.specs.Failure.{EveryTenthPasses}
use Rattle.load.specs.LoadMinute.{every_from, every_through}

-- each depth from `first` to `last` passes
abbrev pub EachPasses : (ℕ → Bool) → ℕ → ℕ → Type 0
EachPasses passes first last = (depth : ℕ) → first ≤ depth → depth ≤ last → passes depth ≡ true

every_from_lem : (passes : ℕ → Bool) (first more : ℕ) → (every_from passes first more ≡ true) ↔ EachPasses passes first (first + more)
unfolding every_from
every_from_lem passes first zero = (λ e d l u. ap passes (let z : d ≡ first = omega arith in z) ∙ e, λ h. h first (omega arith) (omega arith))
every_from_lem passes first (suc more) = (sound (every_from_lem passes (suc first) more).0, complete (every_from_lem passes (suc first) more).1)
  where
    sound :
        (every_from passes (suc first) more ≡ true → EachPasses passes (suc first) (suc first + more))
        → (passes first && every_from passes (suc first) more) ≡ true → EachPasses passes first (first + suc more)
    sound rest e d l u =
        ⊎_elim (λ (same : first ≡ d). ap passes (sym same) ∙ and_left (passes first) (every_from passes (suc first) more) e)
        (λ (less : first < d). rest (and_right (passes first) (every_from passes (suc first) more) e) d less (omega arith))
        (eq-or-lt_of_le l)

    complete :
        (EachPasses passes (suc first) (suc first + more) → every_from passes (suc first) more ≡ true)
        → EachPasses passes first (first + suc more) → (passes first && every_from passes (suc first) more) ≡ true
    complete rest h =
        ap (λ (t : Bool). t && every_from passes (suc first) more) (h first (omega arith) (omega arith))
        ∙ rest (λ d l u. h d (omega arith) (omega arith))

-- from depth 0 on
pub every_tenth : (passes : ℕ → Bool) (deepest : ℕ) → (every_from passes 0 deepest ≡ true) ↔ EveryTenthPasses passes deepest
every_tenth passes deepest =
    let s = every_from_lem passes 0 deepest in
    (λ e d u. s.0 e d (omega arith) (omega arith), λ h. s.1 (λ d l u. h d (omega arith)))

pub zero_through : (passes : ℕ → Bool) (last : ℕ) → every_through passes 0 last ≡ every_from passes 0 last
zero_through passes last = ap (every_from passes 0) (let z : last - 0 ≡ last = omega arith in z)

-- From one depth through another

module _ (passes : ℕ → Bool) (first last : ℕ) (order : first ≤ last) where
  through_lem : (every_through passes first last ≡ true) ↔ EachPasses passes first last
  through_lem =
      let s = every_from_lem passes first (last - first) in
      (λ e d l u. s.0 e d l (omega arith), λ h. s.1 (λ d l u. h d l (omega arith)))

  pub each_through : EachPasses passes first last → every_through passes first last ≡ true
  each_through = through_lem.1

  pub through_each : every_through passes first last ≡ true → EachPasses passes first last
  through_each = through_lem.0

  -- a depth that does not pass decides
  pub one_fails : (depth : ℕ) → first ≤ depth → depth ≤ last → passes depth ≡ false → every_through passes first last ≡ false
  one_fails depth l u e =
      false_from_ne_true (every_through passes first last) (λ t. not_both (passes depth) (through_each t depth l u) e)

-- a single depth
pub through_one : (passes : ℕ → Bool) (first last : ℕ) → first ≡ last → every_through passes first last ≡ passes first
unfolding every_from
through_one passes first last e = ap (every_from passes first) (let z : last - first ≡ 0 = omega arith in z)

-- it is split at any depth between, which is the end of the one part and the beginning of the other
pub through_split :
    (passes : ℕ → Bool) (first middle last : ℕ) → first ≤ middle → middle ≤ last
    → every_through passes first last ≡ (every_through passes first middle && every_through passes middle last)
through_split passes first middle last l u =
    go (every_through passes first middle) (every_through passes middle last) refl refl
  where
    go :
        (a b : Bool) → every_through passes first middle ≡ a → every_through passes middle last ≡ b
        → every_through passes first last ≡ (a && b)
    go true true e f =
        each_through passes first last (omega arith) (λ d k m. half d k m (dec_le d middle))
      where
        half : (d : ℕ) → first ≤ d → d ≤ last → Dec (d ≤ middle) → passes d ≡ true
        half d k m (yes n) = through_each passes first middle l e d k n
        half d k m (no n) = through_each passes middle last u f d (omega arith) m
    go true false e f =
        false_from_ne_true (every_through passes first last)
        (λ t.
        not_both (every_through passes middle last)
        (each_through passes middle last u (λ d k m. through_each passes first last (omega arith) t d (omega arith) m)) f)
    go false b e f =
        false_from_ne_true (every_through passes first last)
        (λ t.
        not_both (every_through passes first middle)
        (each_through passes first middle l (λ d k m. through_each passes first last (omega arith) t d k (omega arith))) e)
