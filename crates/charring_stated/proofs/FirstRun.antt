-- THE THEOREMS of document 02, 6/14, about the first run, at t_f. Assumes nothing.
use Prim.Native.Nat.{ℕ, zero, suc, ◌-◌, ◌*◌, ◌≤◌, ◌<◌, min}
use mathlib.Core.Path.{◌≡◌, ap, ap₂}
use mathlib.Core.List.Memᴰ
use mathlib.Core.List.{List, ◌∷◌, Memᴰ}
use mathlib.Core.Bool.{Bool}
use mathlib.Core.Logic.{◌⊎◌, inl, inr}
use native.Mathlib.Omega.{arith}
use native.Mathlib.Nat.{mul-lt-mul_of_pos_left, mul-le-mul_left}
use Rattle.panel.specs.declared.Panel.{Panel}
use Rattle.panel.specs.Faces.{turned, fires_on, least_of}
use Rattle.panel.proofs.Turning.{every_holds}
use Rattle.refusals.specs.Refusals.{panel_refusal}
use Rattle.charring.specs.Rates.{start_of, failure_of, slow_rate, back_face, depth_at_failure, bond_lines, line_end, intact_end, passed_end, first_end}
use Rattle.charring.specs.Way.{Stretch, way_to, way}
use Rattle.charring.specs.Depths.{char_on, char_at, effective_from, effective_at, in_tenths}
use Rattle.phases.specs.Phases.{phase_after, phase_from, phase_at}
use Rattle.section.specs.Tests.{depth_passes}
use Rattle.load.specs.Failure.{seconds_per_minute}
use Rattle.load.specs.LoadMinute.{every_from, time_test, whole_part, load_minute, load_seconds}
use Rattle.charring_stated.specs.Charring.{NonePassed, DeepestPassed, NoLineAt}
use Rattle.charring_stated.specs.FirstRun.{intact_way, intact_test, Intact, IntactInEvery, PastLine, FirstRun, intact, past_line}
use Rattle.charring.proofs.ByThickness.{lines_none}
use Rattle.charring.proofs.FirstRun.{none_passed}
use Rattle.charring_stated.proofs.Lines.{lines_deeper, deeper_above, deeper_after, line_end_short}
use Rattle.charring_stated.proofs.FirstEnds.{char_at_failure, passed_short, intact_end_lem, deepest_end, DeepestOrNone, none_of, deepest_of, deepest_or_none}
use Rattle.charring_stated.proofs.Stated.{charring_stated}

-- The former rule

-- the rest follows from the end
as_intact : (p : Panel) → first_end p ≡ intact_end p → Intact p
unfolding way char_at phase_at effective_at time_test load_minute load_seconds
as_intact p e =
    let same : way p ≡ intact_way p = ap (way_to p) e in
    let test : time_test p ≡ intact_test p =
    ap (λ (ss : List Stretch). λ (n q : ℕ). every_from (depth_passes p) 0 (in_tenths p (effective_from p (char_on p ss n q) n q) q)) same in
    record {
      end = e;
      depth = λ n q. ap (λ (ss : List Stretch). char_on p ss n q) same;
      phase = λ n q. ap (λ (ss : List Stretch). phase_from p (char_on p ss n q) (back_face p) (phase_after p ss n q) n q) same;
      minute = ap (λ (f : ℕ → ℕ → Bool). whole_part f 1) test;
      second = ap (λ (f : ℕ → ℕ → Bool). whole_part f seconds_per_minute) test;
    }

-- where the bond does not fall, no line matters
pub bond_holds : (p : Panel) → (p.bond ≡ 1 → ⊥) → Intact p
unfolding first_end passed_end
bond_holds p holds = as_intact p (ap (passed_end (depth_at_failure p) (intact_end p)) (lines_none p holds))

-- "Depths and minutes of holding panels are unchanged.": for every face
pub bond_holds_in_every : (p : Panel) → (p.bond ≡ 1 → ⊥) → IntactInEvery p
bond_holds_in_every p holds =
    let here = bond_holds p holds in
    let last = bond_holds (turned p) holds in
    record {
      each = every_holds Intact p.face p here last;
      minutes = least_both load_minute (λ (fire : Panel). whole_part (intact_test fire) 1) p.face here.minute last.minute;
      seconds = least_both load_seconds (λ (fire : Panel). whole_part (intact_test fire) seconds_per_minute) p.face here.second last.second;
    }
  where
    least_both :
        (f g : Panel → ℕ) (face : ℕ) → f p ≡ g p → f (turned p) ≡ g (turned p) → least_of f (fires_on face p) ≡ least_of g (fires_on face p)
    least_both f g zero h k = h
    least_both f g (suc zero) h k = k
    least_both f g (suc (suc face)) h k = ap₂ (λ (a b : ℕ). min a b) h k

-- "Where no line was passed the former rule holds."
pub none_was_passed : (p : Panel) → panel_refusal p ≡ 0 → NonePassed (char_at p (failure_of p) 1000) (bond_lines p) → Intact p
none_was_passed p accepted ahead = as_intact p (intact_end_lem p accepted ahead)

-- as with boards that fail when charring starts, and with none
pub fails_at_once : (p : Panel) → start_of p ≡ failure_of p → Intact p
fails_at_once p e = as_intact p (none_passed p (λ l m. nothing (slow_rate p) (failure_of p - start_of p) l (omega arith)))
  where
    nothing : (r t l : ℕ) → t ≡ 0 → r * t ≤ l
    nothing r t l z = let k : r * t ≡ r * 0 = ap (λ (t : ℕ). r * t) z in omega arith

-- Lines passed

module _
    (p : Panel) (accepted : panel_refusal p ≡ 0) (l : ℕ) (below : List ℕ) (d : DeepestPassed (char_at p (failure_of p) 1000) (bond_lines p) l below) where
  -- a line lies above the char at t_f, or past the end
  line_place : (m : ℕ) → Memᴰ m (bond_lines p) → (m < depth_at_failure p) ⊎ (line_end l below ≤ m)
  line_place m i = by_place (Memᴰ.append_cases d.above (rw d.split at i))
    where
      at_or_below : (m ≡ l) ⊎ Memᴰ m below → (m < depth_at_failure p) ⊎ (line_end l below ≤ m)
      at_or_below (inl e) = inl (rw e (passed_short p accepted l d.passed))
      at_or_below (inr j) = inr (line_end_short (deeper_after d.above (rw d.split at (lines_deeper p accepted))) m j)

      by_place : Memᴰ m d.above ⊎ Memᴰ m (l ∷ below) → (m < depth_at_failure p) ⊎ (line_end l below ≤ m)
      by_place (inl j) =
          let short : m < l = deeper_above d.above l below (rw d.split at (lines_deeper p accepted)) m j in
          inl (omega (arith, passed_short p accepted l d.passed))
      by_place (inr j) = at_or_below (Memᴰ.cases_cons j)

  -- so where the end is not reached at t_f, there is no line
  no_line : (n q : ℕ) → 0 < q → 1000 * n ≡ q * failure_of p → char_at p n q < 2 * q * back_face p → char_at p n q < 2 * q * line_end l below
      → NoLineAt p (char_at p n q) q
  no_line n q pos time short before m i here = go (line_place m i)
    where
      go : (m < depth_at_failure p) ⊎ (line_end l below ≤ m) → ⊥
      go (inl h) =
          numbers (2 * q * m) (2 * q * depth_at_failure p) (2 * q * back_face p) (char_at p n q) here (char_at_failure p n q time) short
          (omega (arith, mul-lt-mul_of_pos_left h pos))
        where
          numbers : (a d b c : ℕ) → c ≡ a → c ≡ min d b → c < b → a < d → ⊥
          numbers a d b c e f h k = omega arith
      go (inr h) = omega (arith, mul-le-mul_left q h)

  -- "the fast run at t_f now ends, and names its end, 25 mm past the deepest such line or at the next line, whichever is nearer, and doesn't
  -- start if that depth is already passed"
  pub lines_were_passed : PastLine p l below
  lines_were_passed =
      let c = charring_stated p accepted in
      let e : c.end ≡ line_end l below = c.first.deepest l below d in
      record {
        end = deepest_end p accepted l below d;
        starts = λ n q pos time short before.
            rw (← e) (c.starts n q pos time short (no_line n q pos time short before) (rw e before));
        starts_not = λ n q pos time short free reached. c.starts_not n q pos time short free (rw e reached);
      }

pub first_run : (p : Panel) → panel_refusal p ≡ 0 → FirstRun p
first_run p accepted = go (deepest_or_none (char_at p (failure_of p) 1000) (bond_lines p))
  where
    go : DeepestOrNone (char_at p (failure_of p) 1000) (bond_lines p) → FirstRun p
    go (none_of rest) = intact rest (none_was_passed p accepted rest)
    go (deepest_of l below d) = past_line l below d (lines_were_passed p accepted l below d)
