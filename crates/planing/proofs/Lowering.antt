-- A panel that no line above 13 refuses has less than a grade where it does not pass through the grade's minutes, or EI is below them.
use Prim.Native.Nat.{ℕ, ◌≤◌, min}
use mathlib.Core.Path.{◌≡◌, refl, sym, ap, ◌∙◌}
use mathlib.Core.Bool.{Bool, true, false, not}
use native.Mathlib.Omega.{arith}
use borrow.Author.Tests.{leb-true, leb-false, lt-ltb}
use lib.Dec.{ltb}
use Rattle.numbers.specs.Choice.{pick}
use Rattle.panel.specs.declared.Panel.{Panel}
use Rattle.refusals.specs.Causes.{last_minute, bad_section}
use Rattle.refusals.specs.Refusals.{panel_refusal, refusal_before_section}
use Rattle.refusals.proofs.PanelTable.{section_decides}
use Rattle.layers.specs.Layers.{printed_ei}
use Rattle.grades.specs.Grades.{grades, grade_of}
use Rattle.grades.proofs.Greatest.{greatest_within, greatest_again, grade_below}
use Rattle.load.specs.LoadMinute.{printed_load}
use Rattle.load.specs.Lasting.{lasts}
use Rattle.load.proofs.EveryFire.{printed_most}
use Rattle.load.proofs.LastingLaws.{lasts_by_minute, lasts_passes}
use Rattle.ratings.specs.Answers.{rei_grade}
use Rattle.planing.specs.Cuts.{lowered}
use Rattle.numbers.proofs.Lesser.{below_lesser}

-- a panel's grade is at most 360 minutes, and the grade of its own minutes
pub rei_is_grade : (p : Panel) → ((rei_grade p).minutes ≤ last_minute) × ((grade_of (rei_grade p).minutes).minutes ≡ (rei_grade p).minutes)
rei_is_grade p =
    let within = greatest_within (min (printed_load p) (printed_ei p)) grades in
    (omega (arith, within, printed_most p), greatest_again (min (printed_load p) (printed_ei p)) grades)

module _ (minutes : ℕ) (q : Panel) (most : minutes ≤ last_minute) (grade : (grade_of minutes).minutes ≡ minutes) where
  -- of an accepted panel R and EI are compared with the grade themselves
  by_minutes : panel_refusal q ≡ 0 → lowered minutes q ≡ ltb (min (printed_load q) (printed_ei q)) minutes
  by_minutes e = rw e (grade_below minutes (min (printed_load q) (printed_ei q)) grade)

  pub fails_lowered : refusal_before_section q ≡ 0 → lasts q minutes ≡ false → lowered minutes q ≡ true
  fails_lowered above fails = go (bad_section q) (section_decides q above)
    where
      go : (bad : Bool) → panel_refusal q ≡ pick bad 13 0 → lowered minutes q ≡ true
      go true e = rw e refl
      go false e =
          let less = leb-false minutes (printed_load q) (sym (lasts_by_minute q minutes e most) ∙ fails) in
          by_minutes e ∙ lt-ltb (min (printed_load q) (printed_ei q)) minutes (omega arith)

  -- where it passes through the minute, line 13 does not fit either
  pub lasting_accepted : refusal_before_section q ≡ 0 → lasts q minutes ≡ true → panel_refusal q ≡ 0
  lasting_accepted above lasting =
      section_decides q above ∙ ap (λ (passes : Bool). pick (not passes) 13 0) (lasts_passes q minutes lasting)

  pub lasting_by_ei : refusal_before_section q ≡ 0 → lasts q minutes ≡ true → lowered minutes q ≡ ltb (printed_ei q) minutes
  lasting_by_ei above lasting =
      let e = lasting_accepted above lasting in
      let enough = leb-true minutes (printed_load q) (sym (lasts_by_minute q minutes e most) ∙ lasting) in
      by_minutes e ∙ below_lesser minutes (printed_load q) (printed_ei q) enough
