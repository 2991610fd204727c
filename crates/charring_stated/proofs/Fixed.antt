-- Document 01's "Charring" fixes the char depth and the phase of an accepted panel: two of each that keep it are the same at every time,
-- and so are those of the definitions.
use Prim.Native.Nat.{ℕ, zero, suc, ◌+◌, ◌-◌, ◌*◌, ◌≤◌, ◌<◌, min}
use mathlib.Core.Path.{◌≡◌, refl, sym, ap, ◌∙◌}
use mathlib.Core.Logic.{◌⊎◌, inl, inr}
use native.Mathlib.Omega.{arith}
use native.Mathlib.Decide.{dec_le, dec_lt}
use native.Mathlib.Nat.{mul-pos, mul-le-mul_left, mul-le-mul_right, min-eq_left}
use native.Mathlib.Nat.{min-eq_right, mul-lt-mul_of_pos_left, le_of_mul-le-mul_right, lt_of_mul-lt-mul_left, eq_of_mul-eq-mul_left}
use Rattle.panel.specs.declared.Panel.{Panel}
use Rattle.refusals.specs.Refusals.{panel_refusal}
use Rattle.phases.specs.declared.Phase.{Phase}
use Rattle.phases.specs.declared.Phase.TheVariants.{Fast, Settled}
use Rattle.charring.specs.Rates.{start_of, failure_of, plain_rate, back_face, bond_lines, line_end}
use Rattle.charring.specs.Depths.{char_at}
use Rattle.phases.specs.Phases.{phase_at}
use Rattle.charring_stated.specs.Charring.{Charring, FastUpTo, NoLineAt}
use Rattle.charring.proofs.Accepted.{fire_fits, rate_least_lem}
use Rattle.charring_stated.proofs.Lines.{lines_deeper, deeper_after, line_end_deeper}
use Rattle.charring_stated.proofs.FirstEnds.{first_fixed}
use Rattle.charring_stated.proofs.Marks.{NextMark, next_mark, LineAt, line_at, Course, fast, settled, course_rate, UpToMark, up_to_mark}
use Rattle.charring_stated.proofs.Stated.{charring_stated}

-- Equal times

module _ (p : Panel) (depth : ℕ → ℕ → ℕ) (phase : ℕ → ℕ → Phase) (c : Charring p depth phase) where
  depth_rises : (n m q : ℕ) → 0 < q → n ≤ m → depth n q ≤ depth m q
  depth_rises n m q pos h = le_of_mul-le-mul_right (c.rises n q m q pos pos (mul-le-mul_right q h)) pos

  depth_scaled : (k n q : ℕ) → 0 < k → 0 < q → depth (k * n) (k * q) ≡ k * depth n q
  depth_scaled k n q h pos =
      let here : 0 < k * q = mul-pos h pos in
      let up : depth n q * (k * q) ≤ depth (k * n) (k * q) * q = c.rises n q (k * n) (k * q) pos here (omega arith) in
      let down : depth (k * n) (k * q) * q ≤ depth n q * (k * q) = c.rises (k * n) (k * q) n q here pos (omega arith) in
      eq_of_mul-eq-mul_left q pos (depth (k * n) (k * q)) (k * depth n q) (omega arith)

  phase_scaled : (k n q : ℕ) → 0 < k → 0 < q → phase (k * n) (k * q) ≡ phase n q
  phase_scaled k n q h pos = c.same (k * n) (k * q) n q (mul-pos h pos) pos (omega arith)

-- Two that keep it

module _
    (p : Panel) (accepted : panel_refusal p ≡ 0) (depth₁ : ℕ → ℕ → ℕ) (phase₁ : ℕ → ℕ → Phase) (c₁ : Charring p depth₁ phase₁)
    (depth₂ : ℕ → ℕ → ℕ) (phase₂ : ℕ → ℕ → Phase) (c₂ : Charring p depth₂ phase₂) where
  record Agree (n q : ℕ) : Type 0 where
    depths : depth₁ n q ≡ depth₂ n q
    phases : phase₁ n q ≡ phase₂ n q

  unscaled : (k n q : ℕ) → 0 < k → 0 < q → Agree (k * n) (k * q) → Agree n q
  unscaled k n q h pos a =
      record {
        depths =
            eq_of_mul-eq-mul_left k h (depth₁ n q) (depth₂ n q)
            (sym (depth_scaled p depth₁ phase₁ c₁ k n q h pos) ∙ a.depths ∙ depth_scaled p depth₂ phase₂ c₂ k n q h pos);
        phases = sym (phase_scaled p depth₁ phase₁ c₁ k n q h pos) ∙ a.phases ∙ phase_scaled p depth₂ phase₂ c₂ k n q h pos;
      }

  -- charred through, or on one course
  data Ahead (n q : ℕ) : Type 0 where
    over : 2 * q * back_face p ≤ depth₁ n q → Ahead n q
    on :
        (rate end : ℕ) (f : Phase) → Course p rate end f → phase₁ n q ≡ f → phase₂ n q ≡ f → depth₁ n q < 2 * q * end → Ahead n q

  -- both at n/q, at or after t_f
  record State (n q : ℕ) : Type 0 where
    past : q * failure_of p ≤ 1000 * n
    depths : depth₁ n q ≡ depth₂ n q
    ahead : Ahead n q

  -- a course starts where both are fast up to one end, or both settled
  starts_fast :
      (n q end : ℕ) → 0 < q → FastUpTo (phase₁ n q) end → FastUpTo (phase₂ n q) end → depth₁ n q < 2 * q * end
      → depth₁ n q < 2 * q * back_face p → Ahead n q
  starts_fast n q end pos a b h short =
      let named : b.named ≡ a.named = omega (arith, a.exact, b.exact) in
      on (4000 * plain_rate p) (min (10000 * a.named) (back_face p)) (Fast a.named) (fast a.named refl refl refl) a.is
      (b.is ∙ ap Fast named) (nearer (10000 * a.named) (back_face p) (rw a.exact h) short)
    where
      nearer : (a b : ℕ) → depth₁ n q < 2 * q * a → depth₁ n q < 2 * q * b → depth₁ n q < 2 * q * min a b
      nearer a b h k = go (dec_le a b)
        where
          go : Dec (a ≤ b) → depth₁ n q < 2 * q * min a b
          go (yes l) = rw (min-eq_left l) h
          go (no l) = rw (min-eq_right {n = b} {m = a} (let i : b ≤ a = omega arith in i)) k

  starts_settled : (n q : ℕ) → phase₁ n q ≡ Settled → phase₂ n q ≡ Settled → depth₁ n q < 2 * q * back_face p → Ahead n q
  starts_settled n q a b short = on (2000 * plain_rate p) (back_face p) Settled (settled refl refl refl) a b short

  -- at a depth that both have come to: through, at a line, or at no line
  comes_to :
      (n q : ℕ) → 0 < q → q * failure_of p ≤ 1000 * n → depth₁ n q ≡ depth₂ n q
      → (depth₁ n q < 2 * q * back_face p → NoLineAt p (depth₁ n q) q → Ahead n q) → State n q
  comes_to n q pos past same otherwise =
      record { past = past; depths = same; ahead = go (dec_lt (depth₁ n q) (2 * q * back_face p)) (line_at (bond_lines p) (depth₁ n q) q) }
    where
      go : Dec (depth₁ n q < 2 * q * back_face p) → LineAt (bond_lines p) (depth₁ n q) q ⊎ NoLineAt p (depth₁ n q) q → Ahead n q
      go (no h) _ = over (omega arith)
      go (yes h) (inr free) = otherwise h free
      go (yes h) (inl a) =
          let deeper : a.l < line_end a.l a.below = line_end_deeper (deeper_after a.above (rw a.split at (lines_deeper p accepted))) in
          starts_fast n q (line_end a.l a.below) pos
          (c₁.bond_line n q pos past a.above a.l a.below a.split a.at)
          (c₂.bond_line n q pos past a.above a.l a.below a.split (sym same ∙ a.at))
          (omega (arith, a.at, mul-lt-mul_of_pos_left deeper pos)) h

  -- charred through, both stay so
  stays : (n m q : ℕ) → 0 < q → depth₁ n q ≡ depth₂ n q → 2 * q * back_face p ≤ depth₁ n q → n ≤ m → Agree m q
  stays n m q pos same h le =
      let rises₁ = depth_rises p depth₁ phase₁ c₁ n m q pos le in
      let rises₂ = depth_rises p depth₂ phase₂ c₂ n m q pos le in
      record {
        depths = omega (arith, c₁.most m q pos, c₂.most m q pos);
        phases = c₁.through m q pos (omega arith) ∙ sym (c₂.through m q pos (omega arith));
      }

  -- from n/q on both follow one up_to_mark, to its mark at (n + gap)/q and from there on
  along :
      (n q rate mark gap : ℕ) (f : Phase) → 0 < q → 0 < rate → q * failure_of p ≤ 1000 * n → depth₁ n q ≡ depth₂ n q
      → UpToMark p depth₁ phase₁ n q rate mark f → UpToMark p depth₂ phase₂ n q rate mark f → depth₁ n q + rate * gap ≡ 2 * q * mark
      → (State (n + gap) q → depth₁ (n + gap) q ≡ 2 * q * mark → (m : ℕ) → n + gap ≤ m → Agree m q) → (m : ℕ) → n ≤ m → Agree m q
  along n q rate mark gap f pos some past same next₁ next₂ there later m le = go (dec_lt m (n + gap))
    where
      go : Dec (m < n + gap) → Agree m q
      go (yes h) =
          let d : ℕ = depth₁ n q + rate * (m - n) in
          let short : d < 2 * q * mark = omega (arith, mul-lt-mul_of_pos_left (let i : m - n < gap = omega arith in i) some) in
          let first : depth₁ m q ≡ d = next₁.grows m d le refl (omega arith) in
          let second : depth₂ m q ≡ d = next₂.grows m d le (omega arith) (omega arith) in
          record { depths = first ∙ sym second; phases = next₁.lasts m le (omega arith) ∙ sym (next₂.lasts m le (omega arith)) }
      go (no h) =
          let step : 2 * q * mark ≡ depth₁ n q + rate * (n + gap - n) = sym there ∙ ap (λ (t : ℕ). depth₁ n q + rate * t) (omega arith) in
          let first : depth₁ (n + gap) q ≡ 2 * q * mark = next₁.grows (n + gap) (2 * q * mark) (omega arith) step (omega arith) in
          let second : depth₂ (n + gap) q ≡ 2 * q * mark = next₂.grows (n + gap) (2 * q * mark) (omega arith) (omega arith) (omega arith) in
          later
          (comes_to (n + gap) q pos (omega arith) (first ∙ sym second)
          (λ short free.
          let inner : mark < back_face p = lt_of_mul-lt-mul_left (2 * q) (let i : 2 * q * mark < 2 * q * back_face p = omega arith in i) in
          starts_settled (n + gap) q (next₁.ends (n + gap) (omega arith) first inner free)
          (next₂.ends (n + gap) (omega arith) second inner (λ l m e. free l m (first ∙ sym second ∙ e))) short))
          first m (omega arith)

  -- what is ahead, where the back face is at most k below a mark that is reached
  abbrev Follows : ℕ → Type 0
  Follows k =
      (a n q : ℕ) → 0 < q → State n q → 2 * q * a ≤ depth₁ n q → back_face p ≤ a + k → (m : ℕ) → n ≤ m → Agree m q

  -- one course, then the rest: at rate · n out of rate · q the time at the mark is whole
  course :
      (k : ℕ) → Follows k → (a n q : ℕ) → 0 < q → State n q → 2 * q * a ≤ depth₁ n q → back_face p ≤ a + suc k
      → (rate end : ℕ) (f : Phase) → Course p rate end f → phase₁ n q ≡ f → phase₂ n q ≡ f → depth₁ n q < 2 * q * end
      → (m : ℕ) → n ≤ m → Agree m q
  course k later a n q pos s low far rate end f run is₁ is₂ short m le =
      let some : 0 < rate = course_rate run (omega (arith, rate_least_lem p accepted)) in
      let here : 0 < rate * q = mul-pos some pos in
      let d : ℕ = depth₁ (rate * n) (rate * q) in
      let scaled : d ≡ rate * depth₁ n q = depth_scaled p depth₁ phase₁ c₁ rate n q some pos in
      let same : depth₂ (rate * n) (rate * q) ≡ d =
      depth_scaled p depth₂ phase₂ c₂ rate n q some pos ∙ ap (λ (d : ℕ). rate * d) (sym s.depths) ∙ sym scaled in
      let next : NextMark (bond_lines p) d (rate * q) end =
      next_mark (bond_lines p) d (rate * q) end (omega (arith, mul-lt-mul_of_pos_left short some)) in
      let below : depth₁ n q < 2 * q * next.mark =
      lt_of_mul-lt-mul_left rate (let h : rate * depth₁ n q < rate * (2 * q * next.mark) = omega (arith, next.deeper) in h) in
      let deeper : a < next.mark = lt_of_mul-lt-mul_left (2 * q) (let h : 2 * q * a < 2 * q * next.mark = omega arith in h) in
      let gap : ℕ = 2 * q * next.mark - depth₁ n q in
      let whole : depth₁ n q + gap ≡ 2 * q * next.mark = omega arith in
      let there : rate * (depth₁ n q + gap) ≡ rate * (2 * q * next.mark) = ap (λ (d : ℕ). rate * d) whole in
      unscaled rate m q some pos
      (along (rate * n) (rate * q) rate next.mark gap f here some (omega (arith, mul-le-mul_left rate s.past)) (sym same)
      (up_to_mark p depth₁ phase₁ c₁ (rate * n) (rate * q) d end here refl next run (phase_scaled p depth₁ phase₁ c₁ rate n q some pos ∙ is₁))
      (up_to_mark p depth₂ phase₂ c₂ (rate * n) (rate * q) d end here same next run (phase_scaled p depth₂ phase₂ c₂ rate n q some pos ∙ is₂))
      (omega arith)
      (λ s at. later next.mark (rate * n + gap) (rate * q) here s (omega arith) (omega arith)) (rate * m) (mul-le-mul_left rate le))

  follow : (k : ℕ) → Follows k
  follow zero a n q pos s low far m le =
      stays n m q pos s.depths (omega (arith, mul-le-mul_left q (let h : back_face p ≤ a = omega arith in h))) le
  follow (suc k) a n q pos s low far m le = go s.ahead (follow k)
    where
      go : Ahead n q → Follows k → Agree m q
      go (over h) later = stays n m q pos s.depths h le
      go (on rate end f c is₁ is₂ short) later = course k later a n q pos s low far rate end f c is₁ is₂ short m le

  -- from t_ch to t_f
  same_under : (n q : ℕ) → 0 < q → q * start_of p ≤ 1000 * n → 1000 * n ≤ q * failure_of p → depth₁ n q ≡ depth₂ n q
  same_under n q pos begun early = c₁.under n q pos begun early ∙ sym (c₂.under n q pos begun early)

  -- at t_f
  at_failure : (n q : ℕ) → 0 < q → 1000 * n ≡ q * failure_of p → State n q
  at_failure n q pos time =
      let order = (fire_fits p accepted).order in
      let same : depth₁ n q ≡ depth₂ n q = same_under n q pos (omega (arith, mul-le-mul_left q order)) (omega arith) in
      let deep : depth₁ (failure_of p) 1000 ≡ depth₂ (failure_of p) 1000 =
      same_under (failure_of p) 1000 (omega arith) (mul-le-mul_left 1000 order) (omega arith) in
      comes_to n q pos (omega arith) same (λ short free. go (dec_lt (depth₁ n q) (2 * q * c₁.end)) same short free
      (first_fixed p (depth₁ (failure_of p) 1000) c₁.end c₂.end order c₁.first (rw deep c₂.first)))
    where
      go :
          Dec (depth₁ n q < 2 * q * c₁.end) → depth₁ n q ≡ depth₂ n q → depth₁ n q < 2 * q * back_face p → NoLineAt p (depth₁ n q) q
          → c₁.end ≡ c₂.end → Ahead n q
      go (yes h) same short free ends =
          starts_fast n q c₁.end pos (c₁.starts n q pos time short free h)
          (rw ends
          (c₂.starts n q pos time (rw (← same) short) (λ l m e. free l m (same ∙ e)) (rw (← same, ← ends) h)))
          h short
      go (no h) same short free ends =
          starts_settled n q (c₁.starts_not n q pos time short free (omega arith))
          (c₂.starts_not n q pos time (rw (← same) short) (λ l m e. free l m (same ∙ e)) (rw (← same, ← ends) (omega arith))) short

  -- THE LAW, between any two
  agree : (n q : ℕ) → 0 < q → Agree n q
  agree n q pos = go (dec_lt (1000 * n) (q * start_of p)) (dec_lt (1000 * n) (q * failure_of p))
    where
      go : Dec (1000 * n < q * start_of p) → Dec (1000 * n < q * failure_of p) → Agree n q
      go (yes h) _ =
          record {
            depths = c₁.before n q pos (omega arith) ∙ sym (c₂.before n q pos (omega arith));
            phases = c₁.untouched n q pos h ∙ sym (c₂.untouched n q pos h);
          }
      go (no h) (yes k) =
          let begun : q * start_of p ≤ 1000 * n = omega arith in
          let same : depth₁ n q ≡ depth₂ n q = same_under n q pos begun (omega arith) in
          record { depths = same; phases = by_back (dec_lt (depth₁ n q) (2 * q * back_face p)) begun same }
        where
          by_back :
              Dec (depth₁ n q < 2 * q * back_face p) → q * start_of p ≤ 1000 * n → depth₁ n q ≡ depth₂ n q → phase₁ n q ≡ phase₂ n q
          by_back (yes l) begun same = c₁.under_cladding n q pos begun k l ∙ sym (c₂.under_cladding n q pos begun k (omega arith))
          by_back (no l) begun same = c₁.through n q pos (omega arith) ∙ sym (c₂.through n q pos (omega arith))
      go (no h) (no k) =
          unscaled 1000 n q (omega arith) pos
          (follow (back_face p) 0 (q * failure_of p) (1000 * q) (omega arith) (at_failure (q * failure_of p) (1000 * q) (omega arith) (omega arith))
          (omega arith) (omega arith) (1000 * n) (omega arith))

-- THE LAW: document 01's "Charring" and the definitions say the same
pub charring_fixed :
    (p : Panel) → panel_refusal p ≡ 0 → (depth : ℕ → ℕ → ℕ) (phase : ℕ → ℕ → Phase) → Charring p depth phase
    → (n q : ℕ) → 0 < q → (depth n q ≡ char_at p n q) × (phase n q ≡ phase_at p n q)
charring_fixed p accepted depth phase c n q pos =
    let same = agree p accepted depth phase c (char_at p) (phase_at p) (charring_stated p accepted) n q pos in
    (same.depths, same.phases)
