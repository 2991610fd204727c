-- Each row has a test that computes, and a row whose test is true holds: for any row, not only those of the tables.
use Prim.Native.Nat.{ℕ, zero, suc, ◌+◌, ◌*◌, ◌≤◌, ◌<◌}
use mathlib.Core.Path.{◌≡◌, refl, sym, ap, ap₂, ◌∙◌}
use mathlib.Core.List.{List, [], ◌∷◌, ◌++◌}
use mathlib.Core.Bool.{Bool, true, false, not, ◌&&◌, ◌||◌}
use mathlib.Core.Logic.{⊎_elim}
use native.Mathlib.Omega.{arith}
use borrow.Author.Tests.{lt-ltb}
use lib.Dec.{T, leb, ltb, eqb, leb→le, ltb→lt, eqb→eq}
use Rattle.std.specs.Prelude.{Option}
use Rattle.planing.specs.declared.Cut.{Cut}
use Rattle.numbers.proofs.Booleans.{IsTrue-true, IsTrue-false, IsTrue-left, IsTrue-right, not_both, IsTrue-either}
use Rattle.panel.specs.declared.Panel.{Panel}
use Rattle.numbers.proofs.LargestKept.{largest_greatest}
use Rattle.panel.specs.Faces.{fires, least_of}
use Rattle.refusals.specs.Refusals.{panel_refusal}
use Rattle.refusals.proofs.PanelTable.{accepted_before_section}
use Rattle.load.specs.LoadMinute.{time_test, whole_part, load_minute, load_seconds, minutes_in, seconds_over}
use Rattle.load.specs.FailureTests.{fails_right_after}
use Rattle.load.proofs.LoadMinutes.{whole_found}
use Rattle.load.proofs.ExactFailure.{exact_failure}
use Rattle.phases.specs.declared.Phase.{Phase}
use Rattle.phases.specs.declared.Phase.TheVariants.{Untouched, UnderCladding, Fast, Settled}
use Rattle.phases.specs.Phases.{phase_at}
use Rattle.panel.specs.declared.Material.{Material}
use Rattle.panel.specs.Materials.{thickest}
use Rattle.basic_times.specs.declared.Role.{Role}
use Rattle.basic_times.proofs.Entries.{basic_by_bits}
use Rattle.layers.specs.Layers.{ei_sum, printed_ei}
use Rattle.cases.proofs.SumsByBits.{time_by_bits, sum_by_bits, sum_by_bits_lem, ei_by_bits, ei_by_bits_lem}
use Rattle.grades.specs.Grades.{rei_of}
use Rattle.cases.specs.Cases.{Case, gives, bears, bears_for, failure_time, in_phase, basic, adds_up, separates, rated, planed, prints, Rated, Holds, EveryRowHolds}
use Rattle.record.specs.Layouts.{panel_of}
use Rattle.record.specs.Refusals.{record_refusal}
use Rattle.fire_card.specs.Card.{text_of_card}
use Rattle.fire_card.proofs.Prints.{printed_card}
use Rattle.cases.proofs.Printed.{same_text, same_text_lem, load_said, seconds_said, ei_said, text_by, text_found}
use Rattle.cases.proofs.Planed.{planing_by, planing_by_grade, answer_test, answer_found}

-- phases are told apart by a number each
unfoldable pub phase_number : Phase → ℕ
phase_number Untouched = 0
phase_number UnderCladding = 1
phase_number Settled = 2
phase_number (Fast e) = suc (suc (suc e))

numbered : ℕ → Phase
numbered zero = Untouched
numbered (suc zero) = UnderCladding
numbered (suc (suc zero)) = Settled
numbered (suc (suc (suc e))) = Fast e

phase_numbered : (f : Phase) → numbered (phase_number f) ≡ f
unfolding phase_number numbered
phase_numbered Untouched = refl
phase_numbered UnderCladding = refl
phase_numbered Settled = refl
phase_numbered (Fast e) = refl

same_number : (f g : Phase) → phase_number f ≡ phase_number g → f ≡ g
same_number f g e = sym (phase_numbered f) ∙ ap numbered e ∙ phase_numbered g

-- m parts of which `unit` make a minute pass, and they are 360 minutes or one more does not
abbrev pub last_part : ℕ → Panel → ℕ → Bool
last_part unit p m = leb m (360 * unit) && time_test p m unit && not (ltb m (360 * unit) && time_test p (suc m) unit)

-- m parts pass in each fire, and in one of them they are 360 minutes or one more does not
abbrev pub pass_in_every : ℕ → List Panel → ℕ → Bool
pass_in_every unit [] m = true
pass_in_every unit (fire ∷ more) m = time_test fire m unit && pass_in_every unit more m

abbrev pub last_in_one : ℕ → List Panel → ℕ → Bool
last_in_one unit [] m = false
last_in_one unit (fire ∷ []) m = last_part unit fire m
last_in_one unit (fire ∷ next ∷ more) m =
    (last_part unit fire m && pass_in_every unit (next ∷ more) m) || (time_test fire m unit && last_in_one unit (next ∷ more) m)

-- a panel is accepted, and R is m
abbrev pub bears_test : Panel → ℕ → Bool
bears_test p m = eqb (panel_refusal p) 0 && last_in_one 1 (fires p) m

abbrev pub rated_test : Panel → ℕ → ℕ → ℕ → Bool
rated_test p r ei grade = bears_test p r && (eqb (ei_by_bits p) ei && eqb (rei_of r ei).minutes grade)

-- the printed time is so many minutes and seconds
abbrev pub bears_for_test : Panel → ℕ → ℕ → Bool
bears_for_test p minutes seconds = eqb (panel_refusal p) 0 && (ltb seconds 60 && last_in_one 60 (fires p) (60 * minutes + seconds))

-- the numbers that the text says are the panel's, and make this text
abbrev pub prints_test : Panel → List ℕ → ℕ → ℕ → ℕ → Bool
prints_test p text r seconds ei = bears_test p r && (bears_for_test p r seconds && (eqb (ei_by_bits p) ei && same_text (text_by p r seconds ei) text))

-- a failure time is tested by the depth reached then
abbrev pub test : Case → Bool
test (gives worked said) = eqb worked said
test (bears p m) = bears_test p m
test (bears_for p minutes seconds) = bears_for_test p minutes seconds
test (failure_time p n q) = fails_right_after p n q
test (in_phase p n q f) = eqb (phase_number (phase_at p n q)) (phase_number f)
test (basic role m h t) = leb h (thickest m) && eqb (time_by_bits role m h) t
test (adds_up p n) = eqb (panel_refusal p) 0 && eqb (sum_by_bits p) n
test (separates p minute) = eqb (panel_refusal p) 0 && eqb (ei_by_bits p) minute
test (rated p r ei grade) = rated_test p r ei grade
test (planed p r ei grade answer) = rated_test p r ei grade && answer_test grade p answer
test (prints b text) = eqb (record_refusal b) 0 && prints_test (panel_of b) text (load_said text) (seconds_said text) (ei_said text)

-- every row's test is true
unfoldable pub agree : List Case → Bool
agree [] = true
agree (c ∷ cs) = test c && agree cs

module _ (unit : ℕ) (positive : 0 < unit) where
  -- the whole part of the failure time in a fire, by its definition
  abbrev part : Panel → ℕ
  part fire = whole_part (time_test fire) unit

  last_part_lem : (p : Panel) (m : ℕ) → T (last_part unit p m) → part p ≡ m
  last_part_lem p m t =
      let (a, b, c) = each (leb m (360 * unit)) (time_test p m unit) (not (ltb m (360 * unit) && time_test p (suc m) unit)) t in
      whole_found p unit positive m (leb→le m (360 * unit) a) (IsTrue-true (time_test p m unit) b)
      (λ l. next (ltb m (360 * unit)) (time_test p (suc m) unit) (lt-ltb m (360 * unit) l)
      (IsTrue-false (ltb m (360 * unit) && time_test p (suc m) unit) c))
    where
      each : (a b c : Bool) → T (a && b && c) → T a × T b × T c
      each true true true t = (tt, tt, tt)
      each false b c t = elim t [ ]
      each true false c t = elim t [ ]
      each true true false t = elim t [ ]

      next : (a b : Bool) → a ≡ true → (a && b) ≡ false → b ≡ false
      next true b e f = f
      next false b e f = absurd (not_both false e refl)

  part_most : (p : Panel) (m : ℕ) → T (last_part unit p m) → m ≤ 360 * unit
  part_most p m t = leb→le m (360 * unit) (search (IsTrue-left, IsTrue-right))

  -- where so many parts pass the whole part is no less, and so is the least
  part_least : (fire : Panel) (m : ℕ) → m ≤ 360 * unit → T (time_test fire m unit) → m ≤ part fire
  unfolding whole_part
  part_least fire m h t = largest_greatest (λ (k : ℕ). time_test fire k unit) (360 * unit) m h (IsTrue-true (time_test fire m unit) t)

  every_least :
      (fire : Panel) (more : List Panel) (m : ℕ) → m ≤ 360 * unit → T (pass_in_every unit (fire ∷ more) m) → m ≤ least_of part (fire ∷ more)
  every_least fire [] m h t = part_least fire m h (IsTrue-left (time_test fire m unit) true t)
  every_least fire (next ∷ more) m h t =
      let first = part_least fire m h (IsTrue-left (time_test fire m unit) (pass_in_every unit (next ∷ more) m) t) in
      let rest = every_least next more m h (IsTrue-right (time_test fire m unit) (pass_in_every unit (next ∷ more) m) t) in
      omega arith

  -- the least over fires is m
  least_part : (fires : List Panel) (m : ℕ) → T (last_in_one unit fires m) → (m ≤ 360 * unit) × (least_of part fires ≡ m)
  least_part (fire ∷ []) m t = (part_most fire m t, last_part_lem fire m t)
  least_part (fire ∷ next ∷ more) m t =
      ⊎_elim
      (λ here.
      let h = IsTrue-left (last_part unit fire m) (pass_in_every unit (next ∷ more) m) here in
      let most = part_most fire m h in
      let e = last_part_lem fire m h in
      let rest = every_least next more m most (IsTrue-right (last_part unit fire m) (pass_in_every unit (next ∷ more) m) here) in
      (most, omega arith))
      (λ there.
      let rest = least_part (next ∷ more) m (IsTrue-right (time_test fire m unit) (last_in_one unit (next ∷ more) m) there) in
      let first = part_least fire m rest.0 (IsTrue-left (time_test fire m unit) (last_in_one unit (next ∷ more) m) there) in
      let e = rest.1 in
      (rest.0, omega arith))
      (IsTrue-either (last_part unit fire m && pass_in_every unit (next ∷ more) m) (time_test fire m unit && last_in_one unit (next ∷ more) m) t)
  least_part [] m t = elim t [ ]

bears_tested : (p : Panel) (m : ℕ) → T (test (bears p m)) → Holds (bears p m)
unfolding load_minute
bears_tested p m t = (
  eqb→eq (panel_refusal p) 0 (IsTrue-left (eqb (panel_refusal p) 0) (last_in_one 1 (fires p) m) t),
  (least_part 1 (omega arith) (fires p) m (IsTrue-right (eqb (panel_refusal p) 0) (last_in_one 1 (fires p) m) t)).1,
)

bears_for_tested : (p : Panel) (minutes seconds : ℕ) → T (test (bears_for p minutes seconds)) → Holds (bears_for p minutes seconds)
unfolding load_seconds
bears_for_tested p minutes seconds t =
    let more = IsTrue-right (eqb (panel_refusal p) 0) (ltb seconds 60 && last_in_one 60 (fires p) (60 * minutes + seconds)) t in
    let below = ltb→lt seconds 60 (IsTrue-left (ltb seconds 60) (last_in_one 60 (fires p) (60 * minutes + seconds)) more) in
    let e = (least_part 60 (omega arith) (fires p) (60 * minutes + seconds)
    (IsTrue-right (ltb seconds 60) (last_in_one 60 (fires p) (60 * minutes + seconds)) more)).1 in (
      eqb→eq (panel_refusal p) 0 (IsTrue-left (eqb (panel_refusal p) 0) (ltb seconds 60 && last_in_one 60 (fires p) (60 * minutes + seconds)) t),
      (ap minutes_in e ∙ omega arith, ap seconds_over e ∙ omega arith),
    )

basic_tested : (role : Role) (m : Material) (h t : ℕ) → T (test (basic role m h t)) → Holds (basic role m h t)
basic_tested role m h t k =
    let within = leb→le h (thickest m) (IsTrue-left (leb h (thickest m)) (eqb (time_by_bits role m h) t) k) in
    sym (basic_by_bits role m h within) ∙ eqb→eq (time_by_bits role m h) t (IsTrue-right (leb h (thickest m)) (eqb (time_by_bits role m h) t) k)

-- an accepted panel of which something found bit by bit is n
accepted_tested : (p : Panel) (f g : Panel → ℕ) (n : ℕ) → (panel_refusal p ≡ 0 → g p ≡ f p) → T (eqb (panel_refusal p) 0 && eqb (g p) n)
    → (panel_refusal p ≡ 0) × (f p ≡ n)
accepted_tested p f g n same t =
    let e = eqb→eq (panel_refusal p) 0 (IsTrue-left (eqb (panel_refusal p) 0) (eqb (g p) n) t) in
    (e, sym (same e) ∙ eqb→eq (g p) n (IsTrue-right (eqb (panel_refusal p) 0) (eqb (g p) n) t))

rated_tested : (p : Panel) (r ei grade : ℕ) → T (rated_test p r ei grade) → Rated p r ei grade
rated_tested p r ei grade t =
    let load = bears_tested p r (IsTrue-left (bears_test p r) (eqb (ei_by_bits p) ei && eqb (rei_of r ei).minutes grade) t) in
    let more = IsTrue-right (bears_test p r) (eqb (ei_by_bits p) ei && eqb (rei_of r ei).minutes grade) t in
    let e = sym (ei_by_bits_lem p (accepted_before_section p load.0)) ∙ eqb→eq (ei_by_bits p) ei (IsTrue-left (eqb (ei_by_bits p) ei) (eqb (rei_of r ei).minutes grade) more) in
    let g = eqb→eq (rei_of r ei).minutes grade (IsTrue-right (eqb (ei_by_bits p) ei) (eqb (rei_of r ei).minutes grade) more) in
    (load.0, (load.1, (e, ap₂ (λ (a b : ℕ). (rei_of a b).minutes) load.1 e ∙ g)))

planed_tested : (p : Panel) (r ei grade : ℕ) (answer : Option Cut) → T (test (planed p r ei grade answer)) → Holds (planed p r ei grade answer)
planed_tested p r ei grade answer t =
    let h = rated_tested p r ei grade (IsTrue-left (rated_test p r ei grade) (answer_test grade p answer) t) in
    let e = answer_found grade p answer (IsTrue-right (rated_test p r ei grade) (answer_test grade p answer) t) in
    (h, planing_by_grade p h.0 ∙ ap (λ (g : ℕ). planing_by g p) h.1.1.1 ∙ e)

card_tested : (p : Panel) (text : List ℕ) (r seconds ei : ℕ) → T (prints_test p text r seconds ei) → text_of_card p ≡ text
card_tested p text r seconds ei t =
    let load = bears_tested p r (IsTrue-left (bears_test p r) _ t) in
    let more = IsTrue-right (bears_test p r) _ t in
    let time = bears_for_tested p r seconds (IsTrue-left (bears_for_test p r seconds) _ more) in
    let rest = IsTrue-right (bears_for_test p r seconds) _ more in
    let e = sym (ei_by_bits_lem p (accepted_before_section p load.0)) ∙ eqb→eq (ei_by_bits p) ei (IsTrue-left (eqb (ei_by_bits p) ei) _ rest) in
    text_found p r seconds ei load.1 time.1.0 time.1.1 e
    ∙ same_text_lem (text_by p r seconds ei) text (IsTrue-right (eqb (ei_by_bits p) ei) _ rest)

prints_tested : (b text : List ℕ) → T (test (prints b text)) → Holds (prints b text)
prints_tested b text t =
    let e = eqb→eq (record_refusal b) 0 (IsTrue-left (eqb (record_refusal b) 0) _ t) in
    (e, sym (printed_card b e) ∙ card_tested (panel_of b) text _ _ _ (IsTrue-right (eqb (record_refusal b) 0) _ t))

pub tested : (c : Case) → T (test c) → Holds c
tested (gives worked said) t = eqb→eq worked said t
tested (bears p m) t = bears_tested p m t
tested (bears_for p minutes seconds) t = bears_for_tested p minutes seconds t
tested (failure_time p n q) t = exact_failure p n q t
tested (in_phase p n q f) t = same_number (phase_at p n q) f (eqb→eq (phase_number (phase_at p n q)) (phase_number f) t)
tested (basic role m h t) k = basic_tested role m h t k
tested (adds_up p n) t = accepted_tested p ei_sum sum_by_bits n (sum_by_bits_lem p) t
tested (separates p minute) t = accepted_tested p printed_ei ei_by_bits minute (λ e. ei_by_bits_lem p (accepted_before_section p e)) t
tested (rated p r ei grade) t = rated_tested p r ei grade t
tested (planed p r ei grade answer) t = planed_tested p r ei grade answer t
tested (prints b text) t = prints_tested b text t

pub all_tested : (cs : List Case) → T (agree cs) → EveryRowHolds cs
unfolding agree
all_tested [] t = tt
all_tested (c ∷ cs) t = (tested c (IsTrue-left (test c) (agree cs) t), all_tested cs (IsTrue-right (test c) (agree cs) t))

-- the rows of two tables, one after the other
pub both : (cs ds : List Case) → EveryRowHolds cs → EveryRowHolds ds → EveryRowHolds (cs ++ ds)
both [] ds a b = b
both (c ∷ cs) ds a b = (a.0, both cs ds a.1 b)
