-- The defined char depth and phase of an accepted panel keep every sentence of document 01's "Charring".
use Prim.Native.Nat.{ℕ, ◌+◌, ◌-◌, ◌*◌, ◌/◌, ◌≤◌, ◌<◌, min}
use mathlib.Core.Path.{◌≡◌, refl, sym, ap, ◌∙◌}
use mathlib.Core.List.{List, [], ◌∷◌, ◌++◌}
use native.Mathlib.Omega.{arith}
use native.Mathlib.Decide.{dec_lt}
use native.Mathlib.Nat.{le_trans, mul-le-mul_left, lt_of_mul-lt-mul_left, le_of_mul-le-mul_left, mul-lt-mul_of_pos_left}
use Rattle.panel.specs.declared.Panel.{Panel}
use Rattle.refusals.specs.Refusals.{panel_refusal}
use Rattle.phases.specs.declared.Phase.{Phase}
use Rattle.phases.specs.declared.Phase.TheVariants.{Fast, Settled}
use Rattle.charring.specs.Rates.{start_of, failure_of, plain_rate, slow_rate, back_face, depth_at_failure, first_end, bond_lines, line_end}
use Rattle.charring.specs.Way.{stretches, way, charred}
use Rattle.charring.specs.Depths.{under_at, after_at, char_at}
use Rattle.phases.specs.Phases.{phase_at}
use Rattle.charring_stated.specs.Charring.{Charring, FastUpTo, NoLineWithin, NoLineUpTo, NoLineAt, Deeper}
use Rattle.charring.proofs.Accepted.{fire_fits}
use Rattle.charring.proofs.DepthLaws.{char_ramp, char_no_less}
use Rattle.charring.proofs.DepthBounds.{char_within}
use Rattle.phases.proofs.PhaseCases.{Where, through, untouched, under, onward, where_at, at_through, at_under, at_way}
use Rattle.phases.proofs.PhaseCases.{fast_not_settled, untouched_not_settled, untouched_not_fast, under_not_settled, under_not_fast}
use Rattle.charring.proofs.WayLaws.{Exact, exact_whole, AllExact, both, exact_first, exact_bond, exact_line_end}
use Rattle.charring.proofs.DepthParts.{char_parts, under_full}
use Rattle.charring_stated.proofs.PhaseLaws.{char_until_failure, under_part, no_char, untouched_before, base_rises, base_step, way_step}
use Rattle.charring_stated.proofs.PhaseOfDepth.{in_run, run_fast, run_settled, phase_of_depth, phase_of_depth_lem}
use Rattle.charring_stated.proofs.Lasting.{lasting, persists}
use Rattle.charring_stated.proofs.Lines.{thick, lines_deeper, deeper_back, deeper_after}
use Rattle.charring_stated.proofs.FirstEnds.{char_at_failure, first_end_lem}
use Rattle.charring_stated.proofs.SameRun.{SameRun, same_run, still_fast, fast_over, still_settled, way_starts, way_line}
use Rattle.charring_stated.proofs.Growth.{depth_on, fast_to, settled_to}

-- past t_f and short of the back face
record OnWay (p : Panel) (n q : ℕ) : Type 0 where
  short : char_at p n q < 2 * q * back_face p
  begun : q * start_of p ≤ 1000 * n
  past : q * failure_of p ≤ 1000 * n

fast_on : (p : Panel) (n q e : ℕ) → phase_at p n q ≡ Fast e → OnWay p n q
fast_on p n q e f = go (where_at p n q)
  where
    go : Where p n q → OnWay p n q
    go (through h k) = absurd (fast_not_settled (phase_at p n q) e f k)
    go (untouched h l k) = absurd (untouched_not_fast (phase_at p n q) e k f)
    go (under h l m k) = absurd (under_not_fast (phase_at p n q) e k f)
    go (onward h l m k) = record { short = h; begun = l; past = m }

settled_on : (p : Panel) (n q : ℕ) → phase_at p n q ≡ Settled → char_at p n q < 2 * q * back_face p → OnWay p n q
settled_on p n q f short = go (where_at p n q)
  where
    go : Where p n q → OnWay p n q
    go (through h k) = absurd (let z : ⊥ = omega arith in z)
    go (untouched h l k) = absurd (untouched_not_settled (phase_at p n q) k f)
    go (under h l m k) = absurd (under_not_settled (phase_at p n q) k f)
    go (onward h l m k) = record { short = h; begun = l; past = m }

-- what has gone on since t_f
abbrev pub base : Panel → ℕ → ℕ → ℕ
base p n q = 2 * plain_rate p * (1000 * n - q * failure_of p)

module _ (p : Panel) (n q : ℕ) (o : OnWay p n q) where
  by_depth : phase_at p n q ≡ phase_of_depth (way p) (char_at p n q) q
  by_depth = phase_of_depth_lem p n q o.short o.begun o.past

  deep_on : char_at p n q ≡ depth_on p (base p n q) q
  deep_on = char_parts p n q o.short ∙ ap (λ (u : ℕ). u + after_at p n q) (under_full p n q o.past)

-- Lasting

module _ (p : Panel) (n m q : ℕ) (o : OnWay p n q) (le : n ≤ m) (short : char_at p m q < 2 * q * back_face p) where
  later : OnWay p m q
  later =
      let more : 1000 * n ≤ 1000 * m = mul-le-mul_left 1000 le in
      record { short = short; begun = le_trans o.begun more; past = le_trans o.past more }

  same_at : NoLineUpTo p (char_at p n q) (char_at p m q) q → SameRun (way p) (char_at p n q) (char_at p m q) q
  unfolding way
  same_at free =
      same_run (depth_at_failure p) (first_end p) (bond_lines p) (back_face p) (char_at p n q) (char_at p m q) q (exact_first p) (exact_bond p)
      ((char_ramp p).rises n m q le) short free

fast_lasts_lem :
    (p : Panel) (n m q e : ℕ) → n ≤ m → phase_at p n q ≡ Fast e → char_at p m q < 2 * q * (10000 * e)
    → NoLineUpTo p (char_at p n q) (char_at p m q) q → char_at p m q < 2 * q * back_face p → phase_at p m q ≡ Fast e
fast_lasts_lem p n m q e le f before free short =
    let o = fast_on p n q e f in
    by_depth p m q (later p n m q o le short)
    ∙ still_fast (way p) (char_at p n q) (char_at p m q) q (same_at p n m q o le short free) e (sym (by_depth p n q o) ∙ f) before

fast_ends_lem :
    (p : Panel) (n m q e : ℕ) → n ≤ m → phase_at p n q ≡ Fast e → char_at p m q ≡ 2 * q * (10000 * e)
    → NoLineUpTo p (char_at p n q) (char_at p m q) q → char_at p m q < 2 * q * back_face p → phase_at p m q ≡ Settled
fast_ends_lem p n m q e le f there free short =
    let o = fast_on p n q e f in
    by_depth p m q (later p n m q o le short)
    ∙ fast_over (way p) (char_at p n q) (char_at p m q) q (same_at p n m q o le short free) e (sym (by_depth p n q o) ∙ f) (omega arith)

settled_lasts_lem :
    (p : Panel) (n m q : ℕ) → n ≤ m → phase_at p n q ≡ Settled → NoLineUpTo p (char_at p n q) (char_at p m q) q
    → char_at p m q < 2 * q * back_face p → phase_at p m q ≡ Settled
settled_lasts_lem p n m q le f free short =
    let rises = (char_ramp p).rises n m q le in
    let o = settled_on p n q f (omega arith) in
    by_depth p m q (later p n m q o le short)
    ∙ still_settled (way p) (char_at p n q) (char_at p m q) q (same_at p n m q o le short free) rises (sym (by_depth p n q o) ∙ f)

-- Growth

-- from n/q to m/q, at a rate that the way keeps
grown :
    (p : Panel) (c k n m q d : ℕ) → c * 2000 ≡ k → OnWay p n q → n ≤ m → d ≡ char_at p n q + k * plain_rate p * (m - n)
    → d ≤ 2 * q * back_face p
    → (d ≡ depth_on p (base p n q) q + c * (base p m q - base p n q)
    → charred (way p) (base p m q) q ≡ charred (way p) (base p n q) q + c * (base p m q - base p n q))
    → char_at p m q ≡ d
unfolding char_at
grown p c k n m q d times o le is inside run =
    lowest (under_at p m q + after_at p m q) (2 * q * back_face p) d
    (way_step p c k n m q times le o.past o.short
    (run
    (step (char_at p n q) (depth_on p (base p n q) q) c k (plain_rate p) (m - n) (base p m q - base p n q) d times (deep_on p n q o) is
    (base_step p n m q le o.past)))
    ∙ sym is)
    inside
  where
    lowest : (a b d : ℕ) → a ≡ d → d ≤ b → min a b ≡ d
    lowest a b d e h = omega arith

    step : (a b c k r t z d : ℕ) → c * 2000 ≡ k → a ≡ b → d ≡ a + k * r * t → z ≡ 2000 * r * t → d ≡ b + c * z
    step a b c k r t z d times e is f =
        let g : c * 2000 * r * t ≡ k * r * t = ap (λ (i : ℕ). i * r * t) times in
        let h : c * z ≡ c * (2000 * r * t) = ap (λ (i : ℕ). c * i) f in
        omega arith

fast_grows_lem :
    (p : Panel) (n m q e d : ℕ) → n ≤ m → phase_at p n q ≡ Fast e → d ≡ char_at p n q + 4000 * plain_rate p * (m - n)
    → d ≤ 2 * q * (10000 * e) → NoLineWithin p (char_at p n q) d q → d ≤ 2 * q * back_face p → char_at p m q ≡ d
fast_grows_lem p n m q e d le f is end free inside =
    let o = fast_on p n q e f in
    grown p 2 4000 n m q d refl o le is inside
    (λ same.
    fast_to p (base p n q) (base p m q) q d (base_rises p n m q le) inside (λ l i h. free l i (rw (deep_on p n q o) h)) e
    (sym (at_way p n q o.short o.begun o.past) ∙ f) same end)

settled_grows_lem :
    (p : Panel) (n m q d : ℕ) → n ≤ m → phase_at p n q ≡ Settled → d ≡ char_at p n q + 2000 * plain_rate p * (m - n)
    → NoLineWithin p (char_at p n q) d q → d ≤ 2 * q * back_face p → char_at p m q ≡ d
settled_grows_lem p n m q d le f is free inside = go (dec_lt (char_at p n q) (2 * q * back_face p))
  where
    go : Dec (char_at p n q < 2 * q * back_face p) → char_at p m q ≡ d
    go (no h) = omega (arith, (char_ramp p).rises n m q le, char_within p m q)
    go (yes h) =
        let o = settled_on p n q f h in
        grown p 1 2000 n m q d refl o le is inside
        (λ same.
        settled_to p (base p n q) (base p m q) q d (base_rises p n m q le) inside (λ l i h. free l i (rw (deep_on p n q o) h))
        (sym (at_way p n q o.short o.begun o.past) ∙ f) same (rw (deep_on p n q o) at h))

-- Where a run starts

-- an end that is exact is what it is named
up_to : (f : Phase) (end : ℕ) → Exact end → f ≡ Fast (end / 10000) → FastUpTo f end
up_to f end x is = record { named = end / 10000; is = is; exact = exact_whole end x }

-- at t_f, at no line, the panel is in the run of the first end
at_failure :
    (p : Panel) (n q : ℕ) → start_of p ≤ failure_of p → 0 < q → 1000 * n ≡ q * failure_of p → char_at p n q < 2 * q * back_face p
    → NoLineAt p (char_at p n q) q → phase_at p n q ≡ in_run (first_end p) (char_at p n q) q
unfolding way
at_failure p n q order pos time short free =
    let begun : q * start_of p ≤ q * failure_of p = mul-le-mul_left q order in
    let o : OnWay p n q = record { short = short; begun = omega arith; past = omega arith } in
    let deep : char_at p n q ≡ 2 * q * depth_at_failure p = omega (arith, char_at_failure p n q time) in
    by_depth p n q o
    ∙ ap (λ (d : ℕ). phase_of_depth (way p) d q) deep
    ∙ way_starts (depth_at_failure p) (first_end p) (bond_lines p) (back_face p) q pos
    (lt_of_mul-lt-mul_left (2 * q) (rw deep at short))
    (λ l m e. free l m (deep ∙ ap (λ (a : ℕ). 2 * q * a) e))
    ∙ ap (λ (d : ℕ). in_run (first_end p) d q) (sym deep)

exact_after : (above : List ℕ) (l : ℕ) (below : List ℕ) → AllExact (above ++ (l ∷ below)) → Exact (line_end l below)
exact_after [] l below (both x xs) = exact_line_end l below x xs
exact_after (a ∷ above) l below (both x xs) = exact_after above l below xs

-- at a line, in the run of that line
at_line :
    (p : Panel) → panel_refusal p ≡ 0 → (n q : ℕ) → 0 < q → q * failure_of p ≤ 1000 * n → (above : List ℕ) (l : ℕ) (below : List ℕ)
    → bond_lines p ≡ above ++ (l ∷ below) → char_at p n q ≡ 2 * q * l → FastUpTo (phase_at p n q) (line_end l below)
unfolding way
at_line p e n q pos past above l below split deep =
    let d : Deeper 0 (above ++ (l ∷ below)) (back_face p) = rw split at (lines_deeper p e) in
    let begun : q * start_of p ≤ q * failure_of p = mul-le-mul_left q (fire_fits p e).order in
    let inside : q * l < q * back_face p = mul-lt-mul_of_pos_left (deeper_back (deeper_after above d)) pos in
    let o : OnWay p n q = record { short = omega arith; begun = omega arith; past = past } in
    let reached : depth_at_failure p ≤ l = cancel_le q (depth_at_failure p) l pos (omega (arith, deep_on p n q o)) in
    up_to (phase_at p n q) (line_end l below) (exact_after above l below (rw split at (exact_bond p)))
    (by_depth p n q o
    ∙ ap (λ (d : ℕ). phase_of_depth (way p) d q) deep
    ∙ ap (λ (ls : List ℕ). phase_of_depth (stretches (depth_at_failure p) (first_end p) ls (back_face p)) (2 * q * l) q) split
    ∙ way_line 0 (depth_at_failure p) (first_end p) above l below (back_face p) q pos d reached)
  where
    cancel_le : (q a b : ℕ) → 0 < q → 2 * q * a ≤ 2 * q * b → a ≤ b
    cancel_le q a b pos h = le_of_mul-le-mul_left h (let k : 0 < 2 * q = omega arith in k)

-- "From t_ch to t_f the rate is k2·β", up to the thickness
slow_depth :
    (p : Panel) (n q : ℕ) → q * start_of p ≤ 1000 * n → 1000 * n ≤ q * failure_of p
    → char_at p n q ≡ min (2 * slow_rate p * (1000 * n - q * start_of p)) (2 * q * back_face p)
slow_depth p n q h k = char_until_failure p n q k ∙ ap (λ (a : ℕ). min a (2 * q * back_face p)) (under_part p n q h k)

-- a time is not later than itself: a phase lasts as far
same_phase : (p : Panel) (n q r s : ℕ) → 0 < q → 0 < s → n * s ≡ r * q → phase_at p n q ≡ phase_at p r s
same_phase p n q r s pos here time =
    let e : lasting p * (n * s) ≡ lasting p * (r * q) = ap (λ (i : ℕ). lasting p * i) time in
    sym (persists p n q pos r s here (omega arith) (omega arith))

-- THE LAW
pub charring_stated : (p : Panel) → panel_refusal p ≡ 0 → Charring p (char_at p) (phase_at p)
charring_stated p e =
    let order = (fire_fits p e).order in
    record {
      same = same_phase p;
      rises = λ n q r s _ _ h. char_no_less p n q r s h;
      before = λ n q _ h. no_char p n q order h;
      under = λ n q _ h k. slow_depth p n q h k;
      end = first_end p;
      first = first_end_lem p e;
      starts = λ n q pos time short free h.
          up_to (phase_at p n q) (first_end p) (exact_first p)
          (at_failure p n q order pos time short free ∙ run_fast (first_end p) (char_at p n q) q h);
      starts_not = λ n q pos time short free h.
          at_failure p n q order pos time short free ∙ run_settled (first_end p) (char_at p n q) q h;
      bond_line = at_line p e;
      fast_grows = λ n m q e d _. fast_grows_lem p n m q e d;
      fast_lasts = λ n m q e _. fast_lasts_lem p n m q e;
      fast_ends = λ n m q e _. fast_ends_lem p n m q e;
      settled_grows = λ n m q d _. settled_grows_lem p n m q d;
      settled_lasts = λ n m q _. settled_lasts_lem p n m q;
      most = λ n q _. char_within p n q;
      untouched = λ n q _ h. untouched_before p n q order (thick p e) h;
      under_cladding = λ n q _ h k l. at_under p n q l h k;
      through = λ n q _ h. at_through p n q h;
    }
