-- The ratings on a card are what the papers say of them, of what is printed and of the calls. Assumes nothing.
use Prim.Native.Nat.{ℕ, min}
use mathlib.Core.Path.{◌≡◌, sym, ap₂, subst}
use Rattle.panel.specs.declared.Panel.{Panel}
use Rattle.refusals.specs.Refusals.{panel_refusal}
use Rattle.layers.specs.Layers.{printed_ei}
use Rattle.grades.specs.Grades.{IsGradeOf}
use Rattle.grades.proofs.Greatest.{grade_is}
use Rattle.load.specs.LoadMinute.{printed_load}
use Rattle.ratings.specs.Answers.{load_grade, ei_grade, rei_grade}
use Rattle.fire_card.specs.Card.{text_of_card}
use Rattle.demands.proofs.EveryCard.{of_every_card}
use Rattle.demands.proofs.ReadBack.{minute_read, load_grade_read, ei_read, ei_grade_read, rei_read}
use Rattle.demands.specs.Ratings.{RatingsOf, PrintedRatings}

-- what is read back are a minute and its grade if what was written are
read_grade : (minute grade : ℕ) {read : ℕ} {beside : ℕ} → read ≡ minute → beside ≡ grade → IsGradeOf minute grade → IsGradeOf read beside
read_grade minute grade {read} {beside} e f h =
    subst (λ (m : ℕ). IsGradeOf m beside) (sym e) (subst (IsGradeOf minute) (sym f) h)

of_panel : (p : Panel) → panel_refusal p ≡ 0 → RatingsOf p (text_of_card p)
of_panel p e =
    let r = printed_load p in
    let ei = printed_ei p in
    record {
      ei = ei_read p;
      load_grade = read_grade r (load_grade p).minutes (minute_read p) (load_grade_read p) (grade_is r);
      ei_grade = read_grade ei (ei_grade p).minutes (ei_read p) (ei_grade_read p) (grade_is ei);
      rei = read_grade (min r ei) (rei_grade p).minutes (ap₂ min (minute_read p) (ei_read p)) (rei_read p) (grade_is (min r ei));
      planed = rei_read p;
    }

pub printed_ratings : PrintedRatings
printed_ratings = of_every_card RatingsOf of_panel
