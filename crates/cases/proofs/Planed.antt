-- The search for the least cut, by a test that computes: neither R nor EI's grade of a cut panel is worked out, and so many minutes are
-- asked of it in their place. Of an accepted panel it is the search that is promised. Assumes nothing.
use Prim.Native.Nat.{ℕ, zero, suc, ◌<◌}
use mathlib.Core.Path.{◌≡◌, refl, sym, ap, ◌∙◌}
use mathlib.Core.Bool.{Bool, true, false, not, ◌&&◌, ◌||◌}
use native.Mathlib.Omega.{arith}
use native.Mathlib.Decide.{dec_lt}
use borrow.Author.Tests.{lt-ltb, le-ltb}
use lib.Dec.{T, leb, ltb, eqb, eqb→eq, leb→le, ltb→lt}
use Rattle.std.specs.Prelude.{Option, Some, None}
use Rattle.numbers.specs.Least.{least}
use Rattle.numbers.proofs.Booleans.{IsTrue-true, IsTrue-left, IsTrue-right}
use Rattle.numbers.proofs.LeastKept.{least_is}
use Rattle.panel.specs.declared.Panel.{Panel}
use Rattle.refusals.specs.Refusals.{panel_refusal, refusal_before_section}
use Rattle.load.specs.Lasting.{lasts}
use Rattle.layers.specs.Layers.{printed_ei}
use Rattle.ratings.specs.Answers.{rei_grade}
use Rattle.planing.specs.declared.Cut.{Cut}
use Rattle.planing.specs.Cuts.{cut_panel, allowed, lowers, lowered}
use Rattle.planing.specs.Answers.{place_on, cut_behind, lowering, first_behind, most_cut, least_tenths, planing_if, planing_of}
use Rattle.cases.proofs.SumsByBits.{ei_by_bits, ei_by_bits_lem}
use Rattle.planing.proofs.CutPanels.{cut_before_section}
use Rattle.planing.proofs.Lowering.{rei_is_grade, fails_lowered, lasting_by_ei}

-- a panel has less than so many minutes, by an EI that computes
abbrev pub less_than : ℕ → Panel → Bool
less_than minutes q = not (lasts q minutes) || ltb (ei_by_bits q) minutes

abbrev pub lowering_by : ℕ → Panel → Cut → Bool
lowering_by minutes p c = allowed p c && less_than minutes (cut_panel p c)

-- the search, as it is promised
unfoldable pub first_by : ℕ → Panel → ℕ → ℕ
first_by minutes p tenths = least (λ (behind : ℕ). lowering_by minutes p (cut_behind p tenths behind)) p.count

unfoldable pub tenths_by : ℕ → Panel → ℕ
tenths_by minutes p = least (λ (tenths : ℕ). ltb (first_by minutes p tenths) p.count) (suc most_cut)

unfoldable pub planing_by : ℕ → Panel → Option Cut
planing_by minutes p =
    planing_if (ltb (tenths_by minutes p) (suc most_cut)) (cut_behind p (tenths_by minutes p) (first_by minutes p (tenths_by minutes p)))

lowered_by : (p q : Panel) → refusal_before_section q ≡ 0 → lowered (rei_grade p).minutes q ≡ less_than (rei_grade p).minutes q
lowered_by p q above =
    go (lasts q (rei_grade p).minutes) refl
    ∙ ap (λ (n : ℕ). not (lasts q (rei_grade p).minutes) || ltb n (rei_grade p).minutes) (sym (ei_by_bits_lem q above))
  where
    go : (b : Bool) → lasts q (rei_grade p).minutes ≡ b → lowered (rei_grade p).minutes q ≡ (not b || ltb (printed_ei q) (rei_grade p).minutes)
    go true e = lasting_by_ei (rei_grade p).minutes q (rei_is_grade p).0 (rei_is_grade p).1 above e
    go false e = fails_lowered (rei_grade p).minutes q (rei_is_grade p).0 (rei_is_grade p).1 above e

module _ (p : Panel) (e : panel_refusal p ≡ 0) where
  abbrev g : ℕ
  g = (rei_grade p).minutes

  same_test : (c : Cut) → lowering p c ≡ lowering_by g p c
  same_test c = go (allowed p c) refl
    where
      go : (b : Bool) → allowed p c ≡ b → (b && lowers p c) ≡ (b && less_than g (cut_panel p c))
      go true a = lowered_by p (cut_panel p c) (cut_before_section p c e a)
      go false a = refl

  same_first : (tenths : ℕ) → first_behind p tenths ≡ first_by g p tenths
  unfolding first_behind first_by
  same_first tenths = λ i. least (λ (behind : ℕ). same_test (cut_behind p tenths behind) i) p.count

  same_tenths : least_tenths p ≡ tenths_by g p
  unfolding least_tenths tenths_by
  same_tenths = λ i. least (λ (tenths : ℕ). ltb (same_first tenths i) p.count) (suc most_cut)

  pub planing_by_grade : planing_of p ≡ planing_by g p
  unfolding planing_of planing_by
  planing_by_grade =
      ap
      (λ (tenths : ℕ). planing_if (ltb tenths (suc most_cut)) (cut_behind p tenths (first_behind p tenths)))
      same_tenths
      ∙ ap (λ (behind : ℕ). planing_if (ltb (tenths_by g p) (suc most_cut)) (cut_behind p (tenths_by g p) behind)) (same_first (tenths_by g p))

-- A test of an answer, which computes with the numbers that a row gives

-- no cut of fewer tenths of mm serves
unfoldable pub none_below : ℕ → Panel → ℕ → Bool
none_below minutes p zero = true
none_below minutes p (suc tenths) = leb p.count (first_by minutes p tenths) && none_below minutes p tenths

-- and the nearest lamella off which so many are enough stands at the place
abbrev pub first_at : ℕ → Panel → Cut → Bool
first_at minutes p c =
    ltb (first_by minutes p c.tenths) p.count && eqb (place_on p.face p.count (first_by minutes p c.tenths)) c.place

abbrev pub answer_test : ℕ → Panel → Option Cut → Bool
answer_test minutes p None = none_below minutes p (suc most_cut)
answer_test minutes p (Some c) = ltb c.tenths (suc most_cut) && (none_below minutes p c.tenths && first_at minutes p c)

module _ (g : ℕ) (p : Panel) where
  abbrev serves : ℕ → Bool
  serves tenths = ltb (first_by g p tenths) p.count

  fewer_fail : (bound : ℕ) → T (none_below g p bound) → (n : ℕ) → n < bound → serves n ≡ false
  unfolding none_below
  fewer_fail zero t n h = absurd (let z : ⊥ = omega arith in z)
  fewer_fail (suc bound) t n h =
      go (dec_lt n bound) (fewer_fail bound (IsTrue-right (leb p.count (first_by g p bound)) (none_below g p bound) t) n)
    where
      go : Dec (n < bound) → (n < bound → serves n ≡ false) → serves n ≡ false
      go (yes k) before = before k
      go (no k) before =
          let here : n ≡ bound = omega arith in
          let least = leb→le p.count (first_by g p bound) (IsTrue-left (leb p.count (first_by g p bound)) (none_below g p bound) t) in
          ap serves here ∙ le-ltb (first_by g p bound) p.count least

  pub answer_found : (answer : Option Cut) → T (answer_test g p answer) → planing_by g p ≡ answer
  unfolding planing_by tenths_by
  answer_found None t =
      let e = least_is serves (suc most_cut) (suc most_cut) (omega arith) (fewer_fail (suc most_cut) t) (λ h. absurd (let z : ⊥ = omega arith in z)) in
      ap (λ (tenths : ℕ). planing_if (ltb tenths (suc most_cut)) (cut_behind p tenths (first_by g p tenths))) e
  answer_found (Some c) t =
      let within = IsTrue-left (ltb c.tenths (suc most_cut)) (none_below g p c.tenths && first_at g p c) t in
      let more = IsTrue-right (ltb c.tenths (suc most_cut)) (none_below g p c.tenths && first_at g p c) t in
      let below = IsTrue-left (none_below g p c.tenths) (first_at g p c) more in
      let at = IsTrue-right (none_below g p c.tenths) (first_at g p c) more in
      let here = IsTrue-true (serves c.tenths) (IsTrue-left (serves c.tenths) (eqb (place_on p.face p.count (first_by g p c.tenths)) c.place) at) in
      let place = eqb→eq (place_on p.face p.count (first_by g p c.tenths)) c.place
      (IsTrue-right (serves c.tenths) (eqb (place_on p.face p.count (first_by g p c.tenths)) c.place) at) in
      let less = ltb→lt c.tenths (suc most_cut) within in
      let e = least_is serves (suc most_cut) c.tenths (omega arith) (fewer_fail c.tenths below) (λ h. here) in
      ap (λ (tenths : ℕ). planing_if (ltb tenths (suc most_cut)) (cut_behind p tenths (first_by g p tenths))) e
      ∙ ap (λ (b : Bool). planing_if b (cut_behind p c.tenths (first_by g p c.tenths))) (lt-ltb c.tenths (suc most_cut) less)
      ∙ (λ i. Some (record { place = place i; tenths = c.tenths }))
