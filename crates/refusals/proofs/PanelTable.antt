-- The table of a panel: a refusal is the first line that fits, and what is known of each line where nothing is refused.
use Rattle.std.proofs.lemmas.Bool.{or_parts}
use Prim.Native.Nat.{ℕ}
use mathlib.Core.Path.{◌≡◌, refl, sym, ap, ◌∙◌}
use mathlib.Core.List.{[], ◌∷◌}
use mathlib.Core.Bool.{true, false}
use mathlib.Core.Logic.{◌↔◌}
use borrow.Author.Tests.{ltb-false, not-false}
use lib.Dec.{ltb}
use Rattle.numbers.specs.Choice.{pick, outside}
use Rattle.numbers.proofs.Booleans.{in_range}
use Rattle.panel.specs.declared.Panel.{Panel}
use Rattle.panel.specs.Lamellae.{lamellae, thickness}
use Rattle.section.specs.Tests.{SectionFits, depth_passes}
use Rattle.refusals.specs.declared.ByteFaults.{ByteFaults}
use Rattle.refusals.specs.Lines.{line, refusal, NoneFits, cause_of, down_to, First}
use Rattle.refusals.specs.Causes.{bad_load, bad_count, bad_lamella, bad_lamellae, bad_section, some}
use Rattle.refusals.specs.Refusals.{no_bytes, table_lines, panel_lines, panel_refusal, refusal_before_section}
use Rattle.refusals.proofs.FirstLine.{accepted_iff, refusal_first, cause_none, left_by_table, accepted_by_both}

-- what lines 5, 10 and 11 leave: the section test fits its numbers
pub section_fits : (p : Panel) → bad_load p ≡ false → bad_count p.count ≡ false → bad_lamellae p ≡ false → SectionFits p
section_fits p five ten eleven =
    let load = or_parts (outside 1 400 p.strength) (ltb 1000000 p.moment) five in
    record {
      strength = (in_range 1 400 p.strength load.0).1;
      moment = ltb-false 1000000 p.moment load.1;
      count = (in_range 1 9 p.count ten).1;
      thickness =
          ltb-false 4000 (thickness (lamellae p)) (or_parts (some bad_lamella (lamellae p)) (ltb 4000 (thickness (lamellae p))) eleven).1;
    }

-- Accepted panels

-- "the first refusal .. that fits": a panel is accepted exactly when no line fits, and a refusal is the first line that does
pub panel_accepted_iff : (p : Panel) → (panel_refusal p ≡ 0) ↔ NoneFits (panel_lines p)
unfolding panel_refusal
panel_accepted_iff p = accepted_iff (panel_lines p) tt

pub panel_first : (p : Panel) → (panel_refusal p ≡ 0 → ⊥) → First (panel_lines p) (panel_refusal p)
unfolding panel_refusal
panel_first p ne = refusal_first (panel_lines p) ne

-- an accepted panel meets no line, whatever its number
pub accepted_cause : (p : Panel) → panel_refusal p ≡ 0 → (n : ℕ) → cause_of n (panel_lines p) ≡ false
unfolding panel_refusal
accepted_cause p e = cause_none (panel_lines p) tt e

-- the lines above 13 refuse no accepted panel
pub accepted_before_section : (p : Panel) → panel_refusal p ≡ 0 → refusal_before_section p ≡ 0
unfolding panel_refusal refusal_before_section
accepted_before_section p e = (accepted_by_both (down_to 12 (panel_lines p)) (line 13 (bad_section p) ∷ []) tt e).0

-- where they do not refuse a panel, line 13 decides
pub section_decides : (p : Panel) → refusal_before_section p ≡ 0 → panel_refusal p ≡ pick (bad_section p) 13 0
unfolding panel_refusal refusal_before_section
section_decides p e = sym (left_by_table (down_to 12 (panel_lines p)) (line 13 (bad_section p) ∷ []) tt refl e refl)

-- an accepted panel passes at depth 0
pub accepted_passes : (p : Panel) → panel_refusal p ≡ 0 → depth_passes p 0 ≡ true
accepted_passes p e = not-false (depth_passes p 0) (accepted_cause p e 13)

-- where the table of a panel in its bytes refuses nothing, the panel alone is accepted
pub table_accepted : (f : ByteFaults) (p : Panel) → refusal (table_lines f p) ≡ 0 → panel_refusal p ≡ 0
unfolding panel_refusal
table_accepted f p e =
    let none = cause_none (table_lines f p) tt e in
    let ten = or_parts f.lamella_count (bad_count p.count) (none 10) in
    let same : no_bytes ≡ f = sym (λ i. record { length = none 1 i; board_count = none 6 i; lamella_count = ten.0 i }) in
    ap (λ (g : ByteFaults). refusal (table_lines g p)) same ∙ e
