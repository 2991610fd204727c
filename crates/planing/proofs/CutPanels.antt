-- A cut panel: an allowed cut of an accepted panel meets no line but 13.
use Rattle.std.proofs.lemmas.Bool.{or_parts, or_from}
use Prim.Native.Nat.{ℕ, ◌+◌, ◌≤◌, ◌<◌}
use mathlib.Core.Path.{◌≡◌, refl, ap, ◌∙◌}
use mathlib.Core.Bool.{Bool, true, false, not, ◌&&◌, ◌||◌}
use mathlib.Core.Logic.{◌⊎◌, inl, inr}
use native.Mathlib.Omega.{arith}
use borrow.Author.Tests.{leb-true, ltb-true, ltb-false, le-ltb}
use lib.Dec.{eqb, leb, ltb}
use Rattle.numbers.specs.Choice.{pick}
use Rattle.numbers.proofs.Booleans.{and_left, and_right}
use Rattle.panel.specs.declared.Panel.{Panel}
use Rattle.panel.specs.Lamellae.{lamellae, lies, thickness}
use Rattle.panel.specs.Products.{product_of, is_lvl, lvl_rate}
use Rattle.panel.proofs.Used.{lamellae_with, length_lamellae_of}
use Rattle.refusals.specs.Lines.{down_to}
use Rattle.refusals.specs.Causes.{bad_count, bad_lamella, bad_lamellae, bad_lvl, none_along, bad_section, some}
use Rattle.refusals.specs.Refusals.{panel_lines, panel_refusal, refusal_before_section}
use Rattle.refusals.proofs.FirstLine.{accepted_iff}
use Rattle.refusals.proofs.PanelTable.{accepted_cause, section_decides}
use Rattle.planing.specs.declared.Cut.{Cut}
use Rattle.planing.specs.Cuts.{thickness_at, thinned, cut_panel, least_kept, allowed}
use Rattle.planing.proofs.Thinned.{thinned_length, thinned_thickness, thinned_lie, thinned_good, place_within, thickness_most}

-- what is allowed, as inequalities
pub record Allowed (p : Panel) (c : Cut) : Type 0 where
  pub some : 0 < c.tenths
  pub kept : least_kept + c.tenths ≤ thickness_at c.place (lamellae p)

pub allowed_means : (p : Panel) (c : Cut) → allowed p c ≡ true → Allowed p c
allowed_means p c e =
    let within = leb (least_kept + c.tenths) (thickness_at c.place (lamellae p)) in
    record {
      some = ltb-true 0 c.tenths (and_left (ltb 0 c.tenths) within e);
      kept = leb-true (least_kept + c.tenths) (thickness_at c.place (lamellae p)) (and_right (ltb 0 c.tenths) within e);
    }

cut_count : (p : Panel) (c : Cut) → (cut_panel p c).count ≡ p.count
cut_count p c = thinned_length c.place c.tenths (lamellae p) ∙ length_lamellae_of p.directions p.thicknesses p.count

cut_lamellae : (p : Panel) (c : Cut) → lamellae (cut_panel p c) ≡ thinned c.place c.tenths (lamellae p)
cut_lamellae p c = lamellae_with p (thinned c.place c.tenths (lamellae p))

-- line 11
cut_good : (p : Panel) (c : Cut) → bad_lamellae p ≡ false → Allowed p c → bad_lamellae (cut_panel p c) ≡ false
cut_good p c e a =
    let both = or_parts (some bad_lamella (lamellae p)) (ltb 4000 (thickness (lamellae p))) e in
    let less = thinned_thickness c.place c.tenths (lamellae p) in
    let most = ltb-false 4000 (thickness (lamellae p)) both.1 in
    rw (cut_lamellae p c)
    (or_from (some bad_lamella (thinned c.place c.tenths (lamellae p))) (ltb 4000 (thickness (thinned c.place c.tenths (lamellae p))))
    (thinned_good c.place c.tenths (lamellae p) a.kept both.0)
    (le-ltb 4000 (thickness (thinned c.place c.tenths (lamellae p))) (omega arith)))

-- lines 12 and 17: a cut lamella lies as it did
cut_lie : (d : ℕ) (p : Panel) (c : Cut) → some (lies d) (lamellae (cut_panel p c)) ≡ some (lies d) (lamellae p)
cut_lie d p c = ap (some (lies d)) (cut_lamellae p c) ∙ thinned_lie d c.place c.tenths (lamellae p)

cut_along : (p : Panel) (c : Cut) → none_along p ≡ false → none_along (cut_panel p c) ≡ false
cut_along p c e = ap not (cut_lie 1 p c) ∙ e

cut_lvl : (p : Panel) (c : Cut) → bad_lvl p ≡ false → bad_lvl (cut_panel p c) ≡ false
cut_lvl p c e =
    ap (λ (across : Bool). is_lvl (product_of p.bond) && (across || not (eqb p.rate lvl_rate))) (cut_lie 0 p c) ∙ e

-- no line above 13 refuses an accepted panel that is cut as allowed
pub cut_before_section : (p : Panel) (c : Cut) → panel_refusal p ≡ 0 → allowed p c ≡ true → refusal_before_section (cut_panel p c) ≡ 0
unfolding refusal_before_section
cut_before_section p c e a =
    let none = accepted_cause p e in
    let count = ap bad_count (cut_count p c) ∙ none 10 in
    let good = cut_good p c (none 11) (allowed_means p c a) in
    (accepted_iff (down_to 12 (panel_lines (cut_panel p c))) tt).1
    (refl, (none 2, (none 16, (none 3, (none 4, (none 5, (refl, (none 7, (none 8, (none 9, (count, (good, (cut_lvl p c (none 17), (cut_along p c (none 12), tt))))))))))))))

-- THE LAW: an allowed cut of an accepted panel meets no line but 13
pub cut_meets : (p : Panel) (c : Cut) → panel_refusal p ≡ 0 → allowed p c ≡ true
    → (panel_refusal (cut_panel p c) ≡ 0) ⊎ (panel_refusal (cut_panel p c) ≡ 13)
cut_meets p c e a = go (bad_section (cut_panel p c)) (section_decides (cut_panel p c) (cut_before_section p c e a))
  where
    go : (bad : Bool) → panel_refusal (cut_panel p c) ≡ pick bad 13 0 → (panel_refusal (cut_panel p c) ≡ 0) ⊎ (panel_refusal (cut_panel p c) ≡ 13)
    go true h = inr h
    go false h = inl h

-- of an accepted panel an allowed cut is of one of its lamellae, and takes off at most 50.0 mm
pub record Within (p : Panel) (c : Cut) : Type 0 where
  pub first : 0 < c.place
  pub last : c.place ≤ p.count
  pub most : c.tenths ≤ 500

pub allowed_within : (p : Panel) (c : Cut) → panel_refusal p ≡ 0 → allowed p c ≡ true → Within p c
allowed_within p c e a =
    let h = allowed_means p c a in
    let kept = h.kept in
    let place = place_within c.place (lamellae p) (omega arith) in
    let good = (or_parts (some bad_lamella (lamellae p)) (ltb 4000 (thickness (lamellae p))) (accepted_cause p e 11)).0 in
    let most = thickness_most c.place (lamellae p) good in
    record {
      first = place.0;
      last = omega (arith, place.1, length_lamellae_of p.directions p.thicknesses p.count);
      most = omega arith;
    }
