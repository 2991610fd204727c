-- A table of lines: the refusal is the first line that fits.
use Prim.Native.Nat.{ℕ, zero, suc, ◌<◌, ◌≤◌}
use mathlib.Core.Path.{◌≡◌, refl, sym, ap, ◌∙◌}
use mathlib.Core.List.{List, [], ◌∷◌, ◌++◌}
use mathlib.Core.Bool.{Bool, true, false, cond}
use mathlib.Core.Logic.{◌↔◌}
use native.Mathlib.Omega.{arith}
use lib.Dec.{T, eqb, ltb, ltb→lt}
use borrow.Author.Tests.{ltb-false}
use Rattle.numbers.specs.Choice.{pick}
use Rattle.numbers.proofs.Booleans.{IsTrue-left, IsTrue-right}
use Rattle.std.specs.Prelude.{Result, Ok, Err, IsErrAnd}
use Rattle.std.proofs.lemmas.Result.{err_from_is_err_and}
use Rattle.refusals.specs.declared.refusal.Refusal.{Refusal}
use Rattle.refusals.specs.declared.refusal.Refusal.TheVariants.{
  Length,
  Version,
  Face,
  BondOrGap,
  Rate,
  Load,
  BoardCount,
  BoardTypes,
  Boards,
  FailureTime,
  LamellaCount,
  Lamellae,
  Lvl,
  NoneAlong,
  Section,
  Space,
  Minute,
}
use Rattle.refusals.specs.Numbers.{line_number, by_number, refused_if}
use Rattle.refusals.specs.Lines.{Line, line, refusal, cause_of, NoneFits, numbered, answer, unless_refused, checked, First}

pick_none : (c : Bool) (n below : ℕ) → T (ltb 0 n) → pick c n below ≡ 0 → (c ≡ false) × (below ≡ 0)
pick_none true n below t e = absurd (let h : 0 < n = ltb→lt 0 n t in let z : ⊥ = omega arith in z)
pick_none false n below t e = (refl, e)

-- where nothing is refused, no line fits
first_none : (ls : List Line) → T (numbered ls) → refusal ls ≡ 0 → NoneFits ls
first_none [] t e = tt
first_none (l ∷ ls) t e =
    let h = pick_none l.fits l.number (refusal ls) (IsTrue-left (ltb 0 l.number) (numbered ls) t) e in
    (h.0, first_none ls (IsTrue-right (ltb 0 l.number) (numbered ls) t) h.1)

none_first : (ls : List Line) → NoneFits ls → refusal ls ≡ 0
none_first [] h = refl
none_first (l ∷ ls) h = rw h.0 (none_first ls h.1)

-- a table refuses nothing exactly when no line of it fits
pub accepted_iff : (ls : List Line) → T (numbered ls) → (refusal ls ≡ 0) ↔ NoneFits ls
accepted_iff ls t = (first_none ls t, none_first ls)

none_cause : (n : ℕ) (ls : List Line) → NoneFits ls → cause_of n ls ≡ false
none_cause n [] h = refl
none_cause n (l ∷ ls) h = go (eqb l.number n) (none_cause n ls h.1)
  where
    go : (c : Bool) → cause_of n ls ≡ false → cond c l.fits (cause_of n ls) ≡ false
    go true rest = h.0
    go false rest = rest

-- where nothing is refused, the line of any number does not fit
pub cause_none : (ls : List Line) → T (numbered ls) → refusal ls ≡ 0 → (n : ℕ) → cause_of n ls ≡ false
cause_none ls t e n = none_cause n ls (first_none ls t e)

-- a refusal is the first line that fits
pub refusal_first : (ls : List Line) → (refusal ls ≡ 0 → ⊥) → First ls (refusal ls)
refusal_first [] ne = absurd (ne refl)
refusal_first (l ∷ ls) ne = go l.fits refl (refusal_first ls) ne
  where
    go :
        (c : Bool)
        → l.fits ≡ c
        → ((refusal ls ≡ 0 → ⊥) → First ls (refusal ls))
        → (pick c l.number (refusal ls) ≡ 0 → ⊥)
        → First (l ∷ ls) (pick c l.number (refusal ls))
    go true e rest k = record { before = []; this = l; after = ls; split = refl; none = tt; fits = e; number = refl }
    go false e rest k =
        let f = rest k in
        record {
          before = l ∷ f.before;
          this = f.this;
          after = f.after;
          split = ap (λ (xs : List Line). l ∷ xs) f.split;
          none = (e, f.none);
          fits = f.fits;
          number = f.number;
        }

-- A table, then the lines of a call: any table, and any further lines

fits_above : (table further : List Line) → (refusal table ≡ 0 → ⊥) → refusal (table ++ further) ≡ refusal table
fits_above [] further ne = absurd (ne refl)
fits_above (l ∷ ls) further ne = go l.fits (fits_above ls further) ne
  where
    go :
        (c : Bool)
        → ((refusal ls ≡ 0 → ⊥) → refusal (ls ++ further) ≡ refusal ls)
        → (pick c l.number (refusal ls) ≡ 0 → ⊥)
        → pick c l.number (refusal (ls ++ further)) ≡ pick c l.number (refusal ls)
    go true rest k = refl
    go false rest k = rest k

none_above : (table further : List Line) → NoneFits table → refusal (table ++ further) ≡ refusal further
none_above [] further h = refl
none_above (l ∷ ls) further h = rw h.0 (none_above ls further h.1)

-- where a line of the table fits, that is the refusal
pub refused_by_table : (table further : List Line) {n : ℕ} → n ≡ refusal table → (n ≡ 0 → ⊥) → n ≡ refusal (table ++ further)
refused_by_table table further e ne = e ∙ sym (fits_above table further (λ z. ne (e ∙ z)))

-- open above: where none fits, the further lines decide
pub left_by_table :
    (table further : List Line) → T (numbered table) → {n m : ℕ} → n ≡ refusal table → n ≡ 0 → m ≡ refusal further → m ≡ refusal (table ++ further)
left_by_table table further t e z e' = e' ∙ sym (none_above table further (first_none table t (sym e ∙ z)))

-- open in both: where nothing is refused, neither the table nor the further lines refuse
pub accepted_by_both :
    (table further : List Line) → T (numbered table) → refusal (table ++ further) ≡ 0 → (refusal table ≡ 0) × (refusal further ≡ 0)
accepted_by_both [] further t e = (refl, e)
accepted_by_both (l ∷ ls) further t e =
    let h = pick_none l.fits l.number (refusal (ls ++ further)) (IsTrue-left (ltb 0 l.number) (numbered ls) t) e in
    let rest = accepted_by_both ls further (IsTrue-right (ltb 0 l.number) (numbered ls) t) h.1 in
    (rw h.0 rest.0, rest.1)

-- Answers

-- a refusal is answered by its number
pub refused {ℓ} : {A : Type ℓ} (n : ℕ) (f : ℕ → A) (value : A) → (n ≡ 0 → ⊥) → f n ≡ answer n f value
refused zero f value ne = absurd (ne refl)
refused (suc n) f value ne = refl

-- no refusal: the value is answered
pub answered {ℓ} : {A : Type ℓ} (n : ℕ) (f : ℕ → A) (value : A) → n ≡ 0 → value ≡ answer n f value
answered n f value e = rw e

-- Where n is what a check found, as `panel_refusal`: a call that is refused answers it

pub answers_refusal {ℓ} : {A : Type ℓ} {n m : ℕ} (f : ℕ → A) (value : A) → n ≡ m → (n ≡ 0 → ⊥) → f n ≡ answer m f value
answers_refusal {m} f value e ne = ap f e ∙ refused m f value (λ z. ne (e ∙ z))

-- and one that is let through answers its value
pub answers_value {ℓ} : {A : Type ℓ} {n m : ℕ} {x value : A} (f : ℕ → A) → n ≡ m → n ≡ 0 → x ≡ value → x ≡ answer m f value
answers_value {m} {value} f e z e' = e' ∙ answered m f value (sym e ∙ z)

-- Of a call that answers its value or the refusal's number

-- the refusal's number, 0 for a value
number_in : {A : Type 0} → Result A ℕ → ℕ
number_in (Ok value) = 0
number_in (Err n) = n

value_or : {A : Type 0} → A → Result A ℕ → A
value_or other (Ok value) = value
value_or other (Err n) = other

-- a value is answered where nothing is refused
pub accepted_with : {A : Type 0} {n : ℕ} {x value : A} → Ok x ≡ unless_refused n value → (n ≡ 0) × (x ≡ value)
unfolding value_or number_in
accepted_with {n = zero} {x} e = (refl, ap (value_or x) e)
accepted_with {n = suc n} e = absurd (let z : 0 ≡ suc n = ap number_in e in let no : ⊥ = omega arith in no)

-- and the refusal's number where something is
pub refused_with : {A : Type 0} {n k : ℕ} (value : A) → Err k ≡ unless_refused n value → (k ≡ n) × (n ≡ 0 → ⊥)
unfolding number_in
refused_with {n = zero} {k} value e = absurd (no k (sym e))
  where
    no : (k : ℕ) → Ok value ≡ Err k → ⊥
    no k e = cc
refused_with {n = suc n} value e = (ap number_in e, λ z. let no : ⊥ = omega arith in no)

-- what a call hands on with `?`: a refusal is answered as the check answers it
pub passed_on : {A B : Type 0} {k : ℕ} (n : ℕ) (value : A) (other : Result B ℕ) → Err k ≡ unless_refused n value → Err k ≡ answer n Err other
passed_on n value other e = let h = refused_with value e in ap Err h.0 ∙ refused n Err other h.1

-- and where the check accepts, the rest of the call decides
pub goes_on : {A B : Type 0} {x : A} {y other : Result B ℕ} (n : ℕ) (value : A) → Ok x ≡ unless_refused n value → y ≡ other → y ≡ answer n Err other
goes_on {y} {other} n value e e' = rw (accepted_with e).0 e'

-- where a table refuses, so does it with further lines below, and the call hands it on; where it does not, they decide
pub refused_above :
    {A B : Type 0} {k : ℕ} (table further : List Line) (value : A) (other : Result B ℕ) → Err k ≡ unless_refused (refusal table) value
    → Err k ≡ answer (refusal (table ++ further)) Err other
refused_above {k} table further value other e =
    let h = refused_with value e in
    let some : k ≡ 0 → ⊥ = λ z. h.1 (sym h.0 ∙ z) in
    answers_refusal Err other (refused_by_table table further h.0 some) some

pub checked_below : (table further : List Line) → T (numbered table) → refusal table ≡ 0 → checked further ≡ checked (table ++ further)
checked_below table further t z = ap (λ (n : ℕ). unless_refused n tt) (sym (none_above table further (first_none table t z)))

-- every refusal has a number other than 0
number_told : (r : Refusal) → ◌≡◌ {A = Result Unit ℕ} (Err (line_number r)) (unless_refused (line_number r) tt)
number_told =
    elim [
      | Length ↦ refl
      | Version ↦ refl
      | Face ↦ refl
      | BondOrGap ↦ refl
      | Rate ↦ refl
      | Load ↦ refl
      | BoardCount ↦ refl
      | BoardTypes ↦ refl
      | Boards ↦ refl
      | FailureTime ↦ refl
      | LamellaCount ↦ refl
      | Lamellae ↦ refl
      | Lvl ↦ refl
      | NoneAlong ↦ refl
      | Section ↦ refl
      | Space ↦ refl
      | Minute ↦ refl
    ]

line_alone : (fits : Bool) (r : Refusal) → by_number (refused_if fits r) ≡ checked (line (line_number r) fits ∷ [])
line_alone true r = number_told r
line_alone false r = refl

-- a line of the call below a table that does not refuse
pub call_line :
    (table : List Line) → T (numbered table) → refusal table ≡ 0 → (fits : Bool) (r : Refusal) {x : Result Unit Refusal} → x ≡ refused_if fits r
    → by_number x ≡ checked (table ++ (line (line_number r) fits ∷ []))
call_line table t z fits r e = ap by_number e ∙ line_alone fits r ∙ checked_below table (line (line_number r) fits ∷ []) t z

-- a line that does not refuse does not fit
pub not_fitting : (fits : Bool) (refusal : Refusal) → Ok tt ≡ refused_if fits refusal → fits ≡ false
not_fitting true refusal e = cc
not_fitting false refusal e = refl

-- a line about too few that does not refuse: there are enough
pub enough : (some wanted : ℕ) (refusal : Refusal) → Ok tt ≡ refused_if (ltb some wanted) refusal → wanted ≤ some
enough some wanted refusal e = ltb-false some wanted (not_fitting (ltb some wanted) refusal e)

-- what is worked out of what was accepted is what the call answers
pub worked_out : {A B : Type 0} (n : ℕ) (f : A → B) (value : A) {x : A} {y : B} → Ok x ≡ unless_refused n value → y ≡ f x → Ok y ≡ unless_refused n (f value)
worked_out n f value e e' = goes_on n value e (ap Ok (e' ∙ ap f (accepted_with e).1))

-- what `?` hands on is the refusal, and what that is for the call
pub handed : {B : Type 0} (e : Refusal) (r : Result B Refusal) → IsErrAnd r (λ y. y ≡ e) → by_number r ≡ Err (line_number e)
handed e r h = let p = err_from_is_err_and r h in rw (p.1, p.2) refl

pub handed_on :
    {A B : Type 0} (n : ℕ) (value : A) (other : Result B ℕ) (e : Refusal) (r : Result B Refusal) → IsErrAnd r (λ y. y ≡ e)
    → Err (line_number e) ≡ unless_refused n value → by_number r ≡ answer n Err other
handed_on n value other e r h k = handed e r h ∙ passed_on n value other k

-- the same of a table, with further lines below it
pub handed_above :
    {A B : Type 0} (table further : List Line) (value : A) (other : Result B ℕ) (e : Refusal) (r : Result B Refusal) → IsErrAnd r (λ y. y ≡ e)
    → Err (line_number e) ≡ unless_refused (refusal table) value → by_number r ≡ answer (refusal (table ++ further)) Err other
handed_above table further value other e r h k = handed e r h ∙ refused_above table further value other k
