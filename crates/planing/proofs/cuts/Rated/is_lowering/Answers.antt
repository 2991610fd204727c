-- `planing::cuts::Rated::is_lowering` meets its contract: the panel that it makes differs from the cut one at most in unused places.
-- Assumes nothing.
use Prim.Native.Nat.{ℕ, suc, ◌+◌, ◌<◌, ◌≤◌}
use Rattle.grades.specs.Grades.{grade_of}
use Rattle.grades.specs.declared.Grade.{Grade}
use Rattle.refusals.proofs.Unused.{to12_unused}
use Rattle.refusals.specs.Causes.{last_minute}
use Rattle.panel.specs.declared.Panel.{Panel}
use Rattle.planing.proofs.CutArrays.{allowed_at}
use Rattle.planing.proofs.CutPanels.{cut_before_section}
use Rattle.planing.proofs.Lowering.{rei_is_grade}
use Rattle.planing.proofs.Unused.{lowered_same}
use Rattle.planing.specs.Answers.{place_on, cut_behind, lowering}
use Rattle.planing.specs.declared.Cut.{Cut}
use Rattle.planing.specs.Cuts.{cut_panel, least_kept, allowed, lowered}
use Rattle.ratings.specs.Answers.{rei_grade}
use borrow.Author.Tests.{le-leb, lt-leb}
use lib.ListN.{get_or}
use mathlib.Core.Bool.{Bool, true, false, ◌&&◌}
use mathlib.Core.Path.{◌≡◌, sym, ap, subst, ◌∙◌}
use native.Mathlib.Omega.{arith}
use Rattle.planing.proofs.cuts.Rated.is_lowering.Goals as goal

-- the cut at an index
abbrev cut_of : ℕ → ℕ → Cut
cut_of at tenths = record { place = suc at; tenths = tenths }

-- what is answered of the cut at an index is said of the lamella behind so many
placed : (p : Panel) (tenths behind at : ℕ) → at + 1 ≡ place_on p.face p.count behind → lowering p (cut_of at tenths) ≡ lowering p (cut_behind p tenths behind)
placed p tenths behind at e =
    let place : suc at ≡ place_on p.face p.count behind = omega arith in
    ap (λ (n : ℕ). lowering p (record { place = n; tenths = tenths })) place

-- the test of the array decides whether it is allowed
module _ (p : Panel) (at tenths : ℕ) (h : at < p.count) (some : 0 < tenths) where
  thick_enough : least_kept + tenths ≤ get_or p.thicknesses at 0 → allowed p (cut_of at tenths) ≡ true
  thick_enough l = sym (allowed_at p at tenths h some) ∙ le-leb (least_kept + tenths) (get_or p.thicknesses at 0) l

  too_thin : get_or p.thicknesses at 0 < least_kept + tenths → allowed p (cut_of at tenths) ≡ false
  too_thin l = sym (allowed_at p at tenths h some) ∙ lt-leb (least_kept + tenths) (get_or p.thicknesses at 0) l

pub index_behind-at-requires : goal.index_behind-at-requires
index_behind-at-requires c =
    let x = c.args.self.now in c.requires.behind_lt_count

pub returns-then-self-at : goal.returns-then-self-at
returns-then-self-at c =
    let p = c.args.self.now.panel in
    let at = c.index_behind-at in
    sym
    (ap (λ (b : Bool). b && lowered (rei_grade p).minutes (cut_panel p (cut_of at.result c.args.tenths)))
    (too_thin p at.result c.args.tenths at.ensures.within.0 c.requires.tenths_nonzero.0 c.if-self-at.true))
    ∙ placed p c.args.tenths c.args.behind at.result at.ensures.place

pub cut_panel-requires : goal.cut_panel-requires
cut_panel-requires c =
    let x = c.args.self.now in record {
      within = (c.index_behind-at.ensures.within.0, x.nine);
      tenths_bound = omega (arith, c.if-self-at.false);
    }

pub of-requires : goal.of-requires
of-requires c =
    subst (λ (g : Grade). g.minutes ≤ last_minute) (sym c.args.self.now.by_rei) (rei_is_grade c.args.self.now.panel).0

pub is_lowered-requires : goal.is_lowered-requires
is_lowered-requires c =
    let x = c.args.self.now in
    let at = c.index_behind-at in
    let cut = cut_of at.result c.args.tenths in
    let kept = thick_enough x.panel at.result c.args.tenths at.ensures.within.0 c.requires.tenths_nonzero.0 c.if-self-at.false in record {
      minutes_of_grade = rw c.of.ensures (subst (λ (g : Grade). (grade_of g.minutes).minutes ≡ g.minutes) (sym x.by_rei) (rei_is_grade x.panel).1);
      q_value = to12_unused c.cut_panel.result (cut_panel x.panel cut) c.cut_panel.ensures ∙ cut_before_section x.panel cut x.accepted kept;
    }

pub returns : goal.returns
returns c =
    let x = c.args.self.now in
    let p = x.panel in
    let at = c.index_behind-at in
    let cut = cut_of at.result c.args.tenths in
    let kept = thick_enough p at.result c.args.tenths at.ensures.within.0 c.requires.tenths_nonzero.0 c.if-self-at.false in
    c.is_lowered.ensures
    ∙ lowered_same _ c.cut_panel.result (cut_panel p cut) c.cut_panel.ensures
    ∙ ap (λ (m : ℕ). lowered m (cut_panel p cut)) (c.of.ensures ∙ ap (λ (g : Grade). g.minutes) x.by_rei)
    ∙ sym (ap (λ (b : Bool). b && lowered (rei_grade p).minutes (cut_panel p cut)) kept)
    ∙ placed p c.args.tenths c.args.behind at.result at.ensures.place
