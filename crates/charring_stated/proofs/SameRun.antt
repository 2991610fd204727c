-- Which run a depth lies in: where the way starts, at a line, and that two depths with no line between them lie in the same one.
use Prim.Native.Nat.{ℕ, ◌*◌, ◌/◌, ◌≤◌, ◌<◌}
use mathlib.Core.Path.{◌≡◌, refl, sym, ap, ◌∙◌}
use mathlib.Core.List.Memᴰ
use mathlib.Core.List.{List, [], ◌∷◌, ◌++◌, Memᴰ}
use native.Mathlib.Omega.{arith}
use native.Mathlib.Decide.{dec_lt}
use native.Mathlib.Nat.{mul-le-mul_left, mul-lt-mul_of_pos_left}
use Rattle.phases.specs.declared.Phase.TheVariants.{Fast, Settled}
use Rattle.charring.specs.Rates.{line_end}
use Rattle.charring.specs.Way.{Stretch, stretches}
use Rattle.phases.proofs.PhaseCases.{fast_not_settled, fast_end}
use Rattle.charring.proofs.WayLaws.{Exact, exact_whole, AllExact, none, both, exact_line_end}
use Rattle.charring.proofs.WalkLaws.{to_line, past_line_lem}
use Rattle.charring_stated.proofs.PhaseOfDepth.{in_run, run_fast, run_settled, phase_of_depth, deep_within, deep_rest}
use Rattle.charring_stated.specs.Charring.{Deeper, next}
use Rattle.charring_stated.proofs.Lines.{deeper_back, deeper_line, line_end_deeper}

-- a stretch to a line or to the back face
to : (from end mark : ℕ) → Stretch
to from end mark = record { from = from; end = end; to = mark }

-- a deeper mark is deeper at every q
marks : (q a b : ℕ) → 0 < q → a < b → 2 * q * a < 2 * q * b
marks q a b pos h = omega (arith, mul-lt-mul_of_pos_left h pos)

marks_le : (q a b : ℕ) → a ≤ b → 2 * q * a ≤ 2 * q * b
marks_le q a b h = omega (arith, mul-le-mul_left q h)

-- an end that is named e is e hundred-thousandths of a millimetre
exact_named : (end e : ℕ) → Exact end → end / 10000 ≡ e → end ≡ 10000 * e
exact_named end e x h = sym (exact_whole end x) ∙ ap (λ (k : ℕ). 10000 * k) h

-- Where a run starts

-- a way that starts at no line starts in its own run
pub way_starts :
    (from end : ℕ) (lines : List ℕ) (back q : ℕ) → 0 < q → from < back → ((l : ℕ) → Memᴰ l lines → from ≡ l → ⊥)
    → phase_of_depth (stretches from end lines back) (2 * q * from) q ≡ in_run end (2 * q * from) q
unfolding stretches to
way_starts from end [] back q pos h free = deep_within (to from end back) [] (2 * q * from) q (marks q from back pos h)
way_starts from end (l ∷ lines) back q pos h free =
    go (dec_lt l from) (dec_lt from l) (way_starts from end lines back q pos h (λ k m. free k (Memᴰ.tail m)))
  where
    go :
        Dec (l < from) → Dec (from < l) → phase_of_depth (stretches from end lines back) (2 * q * from) q ≡ in_run end (2 * q * from) q
        → phase_of_depth (stretches from end (l ∷ lines) back) (2 * q * from) q ≡ in_run end (2 * q * from) q
    go (yes k) _ later = rw (past_line_lem from end l lines back k) later
    go (no k) (yes i) later =
        rw (to_line from end l lines back (let j : from ≤ l = omega arith in j))
        (deep_within (to from end l) (stretches l (line_end l lines) lines back) (2 * q * from) q (marks q from l pos i))
    go (no k) (no i) later = absurd (free l (Memᴰ.head refl) (omega arith))

-- at a line that is not passed by then, its run starts
pub way_line :
    (top from end : ℕ) (above : List ℕ) (l : ℕ) (below : List ℕ) (back q : ℕ) → 0 < q → Deeper top (above ++ (l ∷ below)) back → from ≤ l
    → phase_of_depth (stretches from end (above ++ (l ∷ below)) back) (2 * q * l) q ≡ Fast (line_end l below / 10000)
unfolding to
way_line top from end [] l below back q pos (next h d) reached =
    rw (to_line from end l below back reached)
    (deep_rest (to from end l) (stretches l (line_end l below) below back) (2 * q * l) q (omega arith)
    ∙ way_starts l (line_end l below) below back q pos (deeper_back d)
    (λ k m e. let i : l < k = deeper_line d k m in let z : ⊥ = omega arith in z)
    ∙ run_fast (line_end l below) (2 * q * l) q (marks q l (line_end l below) pos (line_end_deeper d)))
way_line top from end (a ∷ above) l below back q pos (next h d) reached =
    go (dec_lt a from) (way_line a from end above l below back q pos d reached)
    (way_line a a (line_end a (above ++ (l ∷ below))) above l below back q pos d (omega (arith, deep)))
  where
    deep : a < l
    deep = deeper_line d l (Memᴰ.append_right above (Memᴰ.head refl))

    lines : List ℕ
    lines = above ++ (l ∷ below)

    go :
        Dec (a < from)
        → phase_of_depth (stretches from end lines back) (2 * q * l) q ≡ Fast (line_end l below / 10000)
        → phase_of_depth (stretches a (line_end a lines) lines back) (2 * q * l) q ≡ Fast (line_end l below / 10000)
        → phase_of_depth (stretches from end (a ∷ lines) back) (2 * q * l) q ≡ Fast (line_end l below / 10000)
    go (yes k) passed later = rw (past_line_lem from end a lines back k) passed
    go (no k) passed later =
        rw (to_line from end a lines back (let i : from ≤ a = omega arith in i))
        (deep_rest (to from end a) (stretches a (line_end a lines) lines back) (2 * q * l) q
        (marks_le q a l (let i : a ≤ l = omega (arith, deep) in i))
        ∙ later)

-- The same run

-- two depths that lie in one run
pub record SameRun (ss : List Stretch) (d₁ d₂ q : ℕ) : Type 0 where
  pub end : ℕ
  pub exact : Exact end
  pub first : phase_of_depth ss d₁ q ≡ in_run end d₁ q
  pub second : phase_of_depth ss d₂ q ≡ in_run end d₂ q

pub same_run :
    (from end : ℕ) (lines : List ℕ) (back d₁ d₂ q : ℕ) → Exact end → AllExact lines → d₁ ≤ d₂ → d₂ < 2 * q * back
    → ((l : ℕ) → Memᴰ l lines → d₁ < 2 * q * l → d₂ < 2 * q * l) → SameRun (stretches from end lines back) d₁ d₂ q
unfolding stretches to
same_run from end [] back d₁ d₂ q x none le short free =
    record {
      end = end;
      exact = x;
      first = deep_within (to from end back) [] d₁ q (omega arith);
      second = deep_within (to from end back) [] d₂ q short;
    }
same_run from end (l ∷ lines) back d₁ d₂ q x (both y ys) le short free =
    go (dec_lt l from) (dec_lt d₁ (2 * q * l)) (same_run from end lines back d₁ d₂ q x ys le short (λ k m. free k (Memᴰ.tail m)))
    (same_run l (line_end l lines) lines back d₁ d₂ q (exact_line_end l lines y ys) ys le short (λ k m. free k (Memᴰ.tail m)))
  where
    after : List Stretch
    after = stretches l (line_end l lines) lines back

    go :
        Dec (l < from) → Dec (d₁ < 2 * q * l) → SameRun (stretches from end lines back) d₁ d₂ q → SameRun after d₁ d₂ q
        → SameRun (stretches from end (l ∷ lines) back) d₁ d₂ q
    go (yes k) _ passed later = rw (past_line_lem from end l lines back k) passed
    go (no k) (yes i) passed later =
        rw (to_line from end l lines back (let j : from ≤ l = omega arith in j))
        (record {
          end = end;
          exact = x;
          first = deep_within (to from end l) after d₁ q i;
          second = deep_within (to from end l) after d₂ q (free l (Memᴰ.head refl) i);
        })
    go (no k) (no i) passed later =
        rw (to_line from end l lines back (let j : from ≤ l = omega arith in j))
        (record {
          end = later.end;
          exact = later.exact;
          first = deep_rest (to from end l) after d₁ q (omega arith) ∙ later.first;
          second = deep_rest (to from end l) after d₂ q (omega arith) ∙ later.second;
        })

module _ (ss : List Stretch) (d₁ d₂ q : ℕ) (r : SameRun ss d₁ d₂ q) where
  -- a fast phase names the run's end
  names : (e : ℕ) → phase_of_depth ss d₁ q ≡ Fast e → r.end ≡ 10000 * e
  names e f = go (dec_lt d₁ (2 * q * r.end))
    where
      go : Dec (d₁ < 2 * q * r.end) → r.end ≡ 10000 * e
      go (yes h) =
          exact_named r.end e r.exact (fast_end (phase_of_depth ss d₁ q) (r.end / 10000) e (r.first ∙ run_fast r.end d₁ q h) f)
      go (no h) =
          absurd (fast_not_settled (phase_of_depth ss d₁ q) e f (r.first ∙ run_settled r.end d₁ q (let i : 2 * q * r.end ≤ d₁ = omega arith in i)))

  pub still_fast : (e : ℕ) → phase_of_depth ss d₁ q ≡ Fast e → d₂ < 2 * q * (10000 * e) → phase_of_depth ss d₂ q ≡ Fast e
  still_fast e f h =
      let same : r.end ≡ 10000 * e = names e f in
      let named : r.end / 10000 ≡ e = omega arith in
      r.second ∙ run_fast r.end d₂ q (rw same h) ∙ ap Fast named

  pub fast_over : (e : ℕ) → phase_of_depth ss d₁ q ≡ Fast e → 2 * q * (10000 * e) ≤ d₂ → phase_of_depth ss d₂ q ≡ Settled
  fast_over e f h = r.second ∙ run_settled r.end d₂ q (rw (names e f) h)

  pub still_settled : d₁ ≤ d₂ → phase_of_depth ss d₁ q ≡ Settled → phase_of_depth ss d₂ q ≡ Settled
  still_settled le f = go (dec_lt d₁ (2 * q * r.end))
    where
      go : Dec (d₁ < 2 * q * r.end) → phase_of_depth ss d₂ q ≡ Settled
      go (yes h) = absurd (fast_not_settled (phase_of_depth ss d₁ q) (r.end / 10000) (r.first ∙ run_fast r.end d₁ q h) f)
      go (no h) = r.second ∙ run_settled r.end d₂ q (let i : 2 * q * r.end ≤ d₂ = omega arith in i)
