-- Document 02, 7/14, "How much may the planer take": a cut, "tenths of mm .. taken off one lamella alone", "named by its place in the
-- record, from 1", and whether it lowers the REI grade.
use Rattle.std.specs.Prelude.{ℕ, zero, suc, ◌+◌, ◌-◌, List, [], ◌∷◌, Bool, ◌&&◌, ◌||◌, eqb, leb, ltb}
use Rattle.panel.specs.declared.Panel.{Panel}
use Rattle.planing.specs.declared.Cut.{Cut}
use Rattle.panel.specs.Lamellae.{Lamella, lamella, lamellae, with_lamellae}
use Rattle.refusals.specs.Refusals.{panel_refusal}
use Rattle.ratings.specs.Answers.{rei_grade}

-- the thickness of the lamella at a place; 0 where there is none
unfoldable pub thickness_at : ℕ → List Lamella → ℕ
thickness_at place [] = 0
thickness_at zero (l ∷ ls) = 0
thickness_at (suc zero) (l ∷ ls) = l.thickness
thickness_at (suc (suc place)) (l ∷ ls) = thickness_at (suc place) ls

-- lamellae with so many tenths of mm less at a place
unfoldable pub thinned : ℕ → ℕ → List Lamella → List Lamella
thinned place tenths [] = []
thinned zero tenths (l ∷ ls) = l ∷ ls
thinned (suc zero) tenths (l ∷ ls) = lamella l.direction (l.thickness - tenths) ∷ ls
thinned (suc (suc place)) tenths (l ∷ ls) = l ∷ thinned (suc place) tenths ls

-- the cut panel
abbrev pub cut_panel : Panel → Cut → Panel
cut_panel p c = with_lamellae p (thinned c.place c.tenths (lamellae p))

-- "the lamella keeps at least 10.0 mm"
abbrev pub least_kept : ℕ
least_kept = 100

-- whether a cut takes something off and leaves the lamella that much
abbrev pub allowed : Panel → Cut → Bool
allowed p c = ltb 0 c.tenths && leb (least_kept + c.tenths) (thickness_at c.place (lamellae p))

-- whether a panel has less than a grade. "A cut panel that meets refusal 13 counts as lowered."
abbrev pub lowered : ℕ → Panel → Bool
lowered minutes q = eqb (panel_refusal q) 13 || ltb (rei_grade q).minutes minutes

-- "lowers the REI grade"; "Face 2 is judged by its printed grade."
abbrev pub lowers : Panel → Cut → Bool
lowers p c = lowered (rei_grade p).minutes (cut_panel p c)
