-- The phase by cases: what each of its tests gives, as equations.
use Prim.Native.Nat.{ℕ, ◌+◌, ◌-◌, ◌*◌, ◌/◌, ◌≤◌, ◌<◌}
use mathlib.Core.Path.{◌≡◌, refl, ap, ◌∙◌}
use mathlib.Core.List.{List, ◌∷◌}
use mathlib.Core.Bool.{Bool, true, false}
use native.Mathlib.Omega.{arith}
use native.Mathlib.Decide.{dec_le}
use lib.Dec.{ltb, leb}
use borrow.Author.Tests.{lt-ltb, le-ltb, le-leb, lt-leb}
use Rattle.panel.specs.declared.Panel.{Panel}
use Rattle.phases.specs.declared.Phase.{Phase}
use Rattle.phases.specs.declared.Phase.TheVariants.{Untouched, UnderCladding, Fast, Settled}
use Rattle.charring.specs.Rates.{start_of, failure_of, plain_rate, back_face}
use Rattle.charring.specs.Way.{Stretch, way, fast_part, settled_part}
use Rattle.charring.specs.Depths.{char_at}
use Rattle.phases.specs.Phases.{phase_on, phase_at}

-- what a phase is not
pub fast_not_settled : (f : Phase) (e : ℕ) → f ≡ Fast e → f ≡ Settled → ⊥
fast_not_settled f e h k = let z : ◌≡◌ {A = ℕ} 0 1 = cc in omega arith

pub untouched_not_settled : (f : Phase) → f ≡ Untouched → f ≡ Settled → ⊥
untouched_not_settled f h k = let z : ◌≡◌ {A = ℕ} 0 1 = cc in omega arith

pub untouched_not_fast : (f : Phase) (e : ℕ) → f ≡ Untouched → f ≡ Fast e → ⊥
untouched_not_fast f e h k = let z : ◌≡◌ {A = ℕ} 0 1 = cc in omega arith

pub under_not_settled : (f : Phase) → f ≡ UnderCladding → f ≡ Settled → ⊥
under_not_settled f h k = let z : ◌≡◌ {A = ℕ} 0 1 = cc in omega arith

pub under_not_fast : (f : Phase) (e : ℕ) → f ≡ UnderCladding → f ≡ Fast e → ⊥
under_not_fast f e h k = let z : ◌≡◌ {A = ℕ} 0 1 = cc in omega arith

pub fast_end : (f : Phase) (d e : ℕ) → f ≡ Fast d → f ≡ Fast e → d ≡ e
fast_end f d e h k = cc

-- one phase or another, by a test
abbrev pub branch : Bool → Phase → Phase → Phase
branch b f g = elim b [ true ↦ f | false ↦ g ]

yes_branch : (b : Bool) (f g : Phase) → b ≡ true → branch b f g ≡ f
yes_branch b f g e = ap (λ (c : Bool). branch c f g) e

no_branch : (b : Bool) (f g : Phase) → b ≡ false → branch b f g ≡ g
no_branch b f g e = ap (λ (c : Bool). branch c f g) e

-- On a way: before the end of the first fast part, of the first stretch, and past it

module _ (s : Stretch) (ss : List Stretch) (x q : ℕ) where
  settles : Phase
  settles =
      branch (ltb x (q * fast_part s + 2 * q * settled_part s)) Settled (phase_on ss (x - q * fast_part s - 2 * q * settled_part s) q)

  on_cons : phase_on (s ∷ ss) x q ≡ branch (ltb x (q * fast_part s)) (Fast (s.end / 10000)) settles
  unfolding phase_on settles
  on_cons = refl

  pub on_fast : x < q * fast_part s → phase_on (s ∷ ss) x q ≡ Fast (s.end / 10000)
  on_fast h = on_cons ∙ yes_branch (ltb x (q * fast_part s)) (Fast (s.end / 10000)) settles (lt-ltb x (q * fast_part s) h)

  on_later : q * fast_part s ≤ x → phase_on (s ∷ ss) x q ≡ settles
  on_later h = on_cons ∙ no_branch (ltb x (q * fast_part s)) (Fast (s.end / 10000)) settles (le-ltb x (q * fast_part s) h)

  pub on_settled : q * fast_part s ≤ x → x < q * fast_part s + 2 * q * settled_part s → phase_on (s ∷ ss) x q ≡ Settled
  unfolding settles
  on_settled h k =
      on_later h
      ∙ yes_branch (ltb x (q * fast_part s + 2 * q * settled_part s)) Settled
      (phase_on ss (x - q * fast_part s - 2 * q * settled_part s) q) (lt-ltb x (q * fast_part s + 2 * q * settled_part s) k)

  pub on_rest :
      q * fast_part s + 2 * q * settled_part s ≤ x
      → phase_on (s ∷ ss) x q ≡ phase_on ss (x - q * fast_part s - 2 * q * settled_part s) q
  unfolding settles
  on_rest h =
      on_later (past (q * fast_part s) (2 * q * settled_part s) x h)
      ∙ no_branch (ltb x (q * fast_part s + 2 * q * settled_part s)) Settled
      (phase_on ss (x - q * fast_part s - 2 * q * settled_part s) q) (le-ltb x (q * fast_part s + 2 * q * settled_part s) h)
    where
      past : (a b x : ℕ) → a + b ≤ x → a ≤ x
      past a b x h = omega arith

-- At a time

module _ (p : Panel) (n q : ℕ) where
  on_way : Phase
  on_way = phase_on (way p) (2 * plain_rate p * (1000 * n - q * failure_of p)) q

  clears : Phase
  clears = branch (ltb (1000 * n) (q * failure_of p)) UnderCladding on_way

  starts : Phase
  starts = branch (ltb (1000 * n) (q * start_of p)) Untouched clears

  at_all : phase_at p n q ≡ branch (leb (2 * q * back_face p) (char_at p n q)) Settled starts
  unfolding phase_at starts clears on_way
  at_all = refl

  pub at_through : 2 * q * back_face p ≤ char_at p n q → phase_at p n q ≡ Settled
  at_through h =
      at_all ∙ yes_branch (leb (2 * q * back_face p) (char_at p n q)) Settled starts (le-leb (2 * q * back_face p) (char_at p n q) h)

  at_starts : char_at p n q < 2 * q * back_face p → phase_at p n q ≡ starts
  at_starts h =
      at_all ∙ no_branch (leb (2 * q * back_face p) (char_at p n q)) Settled starts (lt-leb (2 * q * back_face p) (char_at p n q) h)

  pub at_untouched : char_at p n q < 2 * q * back_face p → 1000 * n < q * start_of p → phase_at p n q ≡ Untouched
  unfolding starts
  at_untouched h k =
      at_starts h ∙ yes_branch (ltb (1000 * n) (q * start_of p)) Untouched clears (lt-ltb (1000 * n) (q * start_of p) k)

  at_clears : char_at p n q < 2 * q * back_face p → q * start_of p ≤ 1000 * n → phase_at p n q ≡ clears
  unfolding starts
  at_clears h k =
      at_starts h ∙ no_branch (ltb (1000 * n) (q * start_of p)) Untouched clears (le-ltb (1000 * n) (q * start_of p) k)

  pub at_under :
      char_at p n q < 2 * q * back_face p → q * start_of p ≤ 1000 * n → 1000 * n < q * failure_of p → phase_at p n q ≡ UnderCladding
  unfolding clears
  at_under h k l =
      at_clears h k ∙ yes_branch (ltb (1000 * n) (q * failure_of p)) UnderCladding on_way (lt-ltb (1000 * n) (q * failure_of p) l)

  pub at_way :
      char_at p n q < 2 * q * back_face p → q * start_of p ≤ 1000 * n → q * failure_of p ≤ 1000 * n
      → phase_at p n q ≡ phase_on (way p) (2 * plain_rate p * (1000 * n - q * failure_of p)) q
  unfolding clears on_way
  at_way h k l =
      at_clears h k ∙ no_branch (ltb (1000 * n) (q * failure_of p)) UnderCladding on_way (le-ltb (1000 * n) (q * failure_of p) l)

-- where the panel is at n/q
pub data Where (p : Panel) (n q : ℕ) : Type 0 where
  through : 2 * q * back_face p ≤ char_at p n q → phase_at p n q ≡ Settled → Where p n q
  untouched : char_at p n q < 2 * q * back_face p → 1000 * n < q * start_of p → phase_at p n q ≡ Untouched → Where p n q
  under :
      char_at p n q < 2 * q * back_face p → q * start_of p ≤ 1000 * n → 1000 * n < q * failure_of p → phase_at p n q ≡ UnderCladding
      → Where p n q
  onward :
      char_at p n q < 2 * q * back_face p → q * start_of p ≤ 1000 * n → q * failure_of p ≤ 1000 * n
      → phase_at p n q ≡ phase_on (way p) (2 * plain_rate p * (1000 * n - q * failure_of p)) q → Where p n q

pub where_at : (p : Panel) (n q : ℕ) → Where p n q
where_at p n q = go (dec_le (2 * q * back_face p) (char_at p n q)) (dec_le (q * start_of p) (1000 * n)) (dec_le (q * failure_of p) (1000 * n))
  where
    go :
        Dec (2 * q * back_face p ≤ char_at p n q) → Dec (q * start_of p ≤ 1000 * n) → Dec (q * failure_of p ≤ 1000 * n) → Where p n q
    go (yes h) b c = through h (at_through p n q h)
    go (no h) (no k) c = untouched (omega arith) (omega arith) (at_untouched p n q (omega arith) (omega arith))
    go (no h) (yes k) (no l) = under (omega arith) k (omega arith) (at_under p n q (omega arith) k (omega arith))
    go (no h) (yes k) (yes l) = onward (omega arith) k l (at_way p n q (omega arith) k l)

-- and where on a way
pub data WhereOn (s : Stretch) (ss : List Stretch) (x q : ℕ) : Type 0 where
  fast : x < q * fast_part s → phase_on (s ∷ ss) x q ≡ Fast (s.end / 10000) → WhereOn s ss x q
  settled :
      q * fast_part s ≤ x → x < q * fast_part s + 2 * q * settled_part s → phase_on (s ∷ ss) x q ≡ Settled → WhereOn s ss x q
  rest :
      q * fast_part s + 2 * q * settled_part s ≤ x
      → phase_on (s ∷ ss) x q ≡ phase_on ss (x - q * fast_part s - 2 * q * settled_part s) q → WhereOn s ss x q

pub where_on : (s : Stretch) (ss : List Stretch) (x q : ℕ) → WhereOn s ss x q
where_on s ss x q =
    go (q * fast_part s) (2 * q * settled_part s) (on_fast s ss x q) (on_settled s ss x q) (on_rest s ss x q)
    fast settled rest (dec_le (q * fast_part s) x) (dec_le (q * fast_part s + 2 * q * settled_part s) x)
  where
    go :
        {F S R W : Type 0} (a b : ℕ) → (x < a → F) → (a ≤ x → x < a + b → S) → (a + b ≤ x → R)
        → (x < a → F → W) → (a ≤ x → x < a + b → S → W) → (a + b ≤ x → R → W) → Dec (a ≤ x) → Dec (a + b ≤ x) → W
    go a b f s r F S R (no h) d = F (omega arith) (f (omega arith))
    go a b f s r F S R (yes h) (no k) = S h (omega arith) (s h (omega arith))
    go a b f s r F S R (yes h) (yes k) = R k (r k)
