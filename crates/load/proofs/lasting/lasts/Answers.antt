-- `load::lasting::lasts` meets its contract: each fire of a panel that no line above 13 refuses is that of such a panel.
-- Assumes nothing.
use Rattle.std.proofs.lemmas.Bool.{false_from_ne_true}
use Rattle.charring.proofs.Accepted.{fire_part}
use Rattle.charring.specs.Fits.{CharringFits}
use Rattle.limits.proofs.Accepted.{to12_keeps}
use Rattle.refusals.proofs.Turned.{to12_turned}
use Rattle.refusals.specs.Refusals.{refusal_before_section}
use Rattle.load.specs.Lasting.{lasts}
use Rattle.load.specs.LoadMinute.{time_test}
use Rattle.numbers.proofs.Booleans.{not_both}
use Rattle.panel.proofs.Turning.{shown_holds, every_one, every_two, every_shown}
use Rattle.panel.specs.Faces.{turned, shown}
use Rattle.panel.specs.declared.Panel.{Panel}
use Rattle.section.specs.Tests.{SectionFits}
use mathlib.Core.Bool.{Bool, ◌&&◌}
use mathlib.Core.Path.{◌≡◌, sym, ap, ap₂, subst, ◌∙◌}
use Rattle.load.proofs.lasting.lasts.Goals as goal
use Rattle.load.proofs.lasting.lasts.Goals.{After-fire_lasts}

-- what a fire asks for
abbrev Fits : Panel → Type 0
Fits p = SectionFits p × CharringFits p

fits : (p : Panel) → refusal_before_section p ≡ 0 → Fits p
fits p e = ((to12_keeps p e).section, fire_part p (to12_keeps p e))

turned_fits : (p : Panel) → refusal_before_section p ≡ 0 → Fits (turned p)
turned_fits p e = fits (turned p) (to12_turned p ∙ e)

-- what is answered of the fire that is shown
first : (c : After-fire_lasts) → c.fire_lasts.result ≡ time_test (shown c.args.p) c.args.minute 1
first c = c.fire_lasts.ensures ∙ ap (λ (fire : Panel). time_test fire c.args.minute 1) c.shown.ensures

pub fire_lasts-requires : goal.fire_lasts-requires
fire_lasts-requires c =
    let p = c.args.p in
    subst Fits (sym c.shown.ensures) (shown_holds Fits p.face p (fits p c.requires) (turned_fits p c.requires))

pub returns-then-not-fire_lasts : goal.returns-then-not-fire_lasts
unfolding lasts
returns-then-not-fire_lasts c =
    let p = c.args.p in
    let minute = c.args.minute in
    let fails = sym (first (goal.at.returns-then-not-fire_lasts c).After-fire_lasts) ∙ c.if-not-fire_lasts.true in
    sym
    (false_from_ne_true (lasts p minute)
    (λ t. not_both (time_test (shown p) minute 1) (every_shown (λ fire. time_test fire minute 1) p.face p t) fails))

pub returns-then-p-lt2 : goal.returns-then-p-lt2
unfolding lasts
returns-then-p-lt2 c =
    sym c.if-not-fire_lasts.false
    ∙ first (goal.at.returns-then-p-lt2 c).After-fire_lasts
    ∙ every_one (λ fire. time_test fire c.args.minute 1) c.args.p.face c.args.p c.if-p-lt2.true

pub fire_lasts-requires-2 : goal.fire_lasts-requires-2
fire_lasts-requires-2 c =
    subst Fits (sym c.turned.ensures) (turned_fits c.args.p c.requires)

pub returns : goal.returns
unfolding lasts
returns c =
    let passes = λ (fire : Panel). time_test fire c.args.minute 1 in
    ap₂ (λ (a b : Bool). a && b) (sym c.if-not-fire_lasts.false ∙ first (goal.at.returns c).After-fire_lasts)
    (c.fire_lasts-2.ensures ∙ ap passes c.turned.ensures)
    ∙ every_two passes c.args.p.face c.args.p c.if-p-lt2.false

pub shown-requires : goal.shown-requires
shown-requires c = (to12_keeps c.args.p c.requires).section.count

pub turned-requires : goal.turned-requires
turned-requires c = (to12_keeps c.args.p c.requires).section.count
