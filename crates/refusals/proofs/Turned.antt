-- A turned panel meets the lines that the panel meets, whatever they are; in particular depth 0 passes from one face exactly when from the
-- other. So what is asked of an accepted panel may be asked of each of its fires.
use mathlib.Core.Path.{◌≡◌, refl, ap, ◌∙◌}
use mathlib.Core.List.{List, [], ◌∷◌, reverse, reverse-cons}
use mathlib.Core.Bool.{Bool, ◌||◌, or_comm}
use Rattle.panel.specs.declared.Panel.{Panel}
use Rattle.panel.specs.Lamellae.{Lamella, lamellae, across, along}
use Rattle.panel.specs.Faces.{turned, shown, fires, InEvery}
use Rattle.panel.proofs.Turning.{turned_lamellae, turned_count, thickness_reverse, shown_holds, every_holds}
use Rattle.section.proofs.Mirroring.{zero_turned}
use Rattle.refusals.specs.Lines.{Line, refusal, down_to}
use Rattle.refusals.specs.Causes.{bad_lamella, some}
use Rattle.refusals.specs.Refusals.{panel_lines, panel_refusal, refusal_before_section}
use Rattle.refusals.proofs.Tests.{some_more}

some_reverse : (test : Lamella → Bool) (ls : List Lamella) → some test (reverse ls) ≡ some test ls
unfolding some
some_reverse test [] = refl
some_reverse test (l ∷ ls) =
    ap (some test) (reverse-cons l ls)
    ∙ some_more test (reverse ls) l
    ∙ ap (λ (t : Bool). t || test l) (some_reverse test ls)
    ∙ or_comm (some test ls) (test l)

pub lines_turned : (p : Panel) → panel_lines (turned p) ≡ panel_lines p
lines_turned p =
    rw (
      zero_turned p,
      turned_lamellae p,
      turned_count p,
      some_reverse bad_lamella (lamellae p),
      some_reverse across (lamellae p),
      some_reverse along (lamellae p),
      thickness_reverse (lamellae p),
    )
    refl

pub refusal_turned : (p : Panel) → panel_refusal (turned p) ≡ panel_refusal p
unfolding panel_refusal
refusal_turned p = ap refusal (lines_turned p)

pub to12_turned : (p : Panel) → refusal_before_section (turned p) ≡ refusal_before_section p
unfolding refusal_before_section
to12_turned p = ap (λ (ls : List Line). refusal (down_to 12 ls)) (lines_turned p)

-- the fire that is shown of an accepted panel is that of an accepted one
pub shown_accepted : (p : Panel) → panel_refusal p ≡ 0 → panel_refusal (shown p) ≡ 0
shown_accepted p e = shown_holds (λ q. panel_refusal q ≡ 0) p.face p e (refusal_turned p ∙ e)

-- what holds of every accepted panel holds in every fire of one: turned it is accepted too
pub in_every_fire : (Holds : Panel → Type 0) → ((p : Panel) → panel_refusal p ≡ 0 → Holds p) → (p : Panel) → panel_refusal p ≡ 0 → InEvery Holds (fires p)
in_every_fire Holds holds p e = every_holds Holds p.face p (holds p e) (holds (turned p) (refusal_turned p ∙ e))
