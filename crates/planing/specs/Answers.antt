-- What the open call of this crate answers, by a search: by tenths of mm from the least on, and for each from the fire on. That it is what
-- `IsPlaning` means is a theorem (Planing in proofs/).
use Rattle.std.specs.Prelude.{ℕ, zero, suc, ◌-◌, Bool, true, false, ◌&&◌, ltb, Option, Some, None, Result}
use Rattle.numbers.specs.Least.{least}
use Rattle.panel.specs.declared.Panel.{Panel}
use Rattle.panel.specs.declared.Material.TheVariants.{Wood}
use Rattle.panel.specs.Materials.{thickest}
use Rattle.refusals.specs.Lines.{unless_refused}
use Rattle.refusals.specs.Refusals.{panel_refusal}
use Rattle.planing.specs.declared.Cut.{Cut}
use Rattle.planing.specs.Cuts.{least_kept, allowed, lowers}

-- the place of the lamella behind so many others as seen from the fire, of `count` lamellae
abbrev pub place_on : ℕ → ℕ → ℕ → ℕ
place_on zero count behind = suc behind
place_on (suc zero) count behind = count - behind
place_on (suc (suc face)) count behind = suc behind

abbrev pub cut_behind : Panel → ℕ → ℕ → Cut
cut_behind p tenths behind = record { place = place_on p.face p.count behind; tenths = tenths }

-- whether a cut is allowed and lowers the grade
abbrev pub lowering : Panel → Cut → Bool
lowering p c = allowed p c && lowers p c

-- how many lamellae stand between the fire and the nearest one off which so many tenths may be taken and lower the grade; the count where
-- there is none
unfoldable pub first_behind : Panel → ℕ → ℕ
first_behind p tenths = least (λ (behind : ℕ). lowering p (cut_behind p tenths behind)) p.count

-- no allowed cut takes off more
abbrev pub most_cut : ℕ
most_cut = thickest Wood - least_kept

-- the least tenths for which there is one; above `most_cut` where there are none
unfoldable pub least_tenths : Panel → ℕ
least_tenths p = least (λ (tenths : ℕ). ltb (first_behind p tenths) p.count) (suc most_cut)

abbrev pub planing_if : Bool → Cut → Option Cut
planing_if true c = Some c
planing_if false c = None

-- of an accepted panel
unfoldable pub planing_of : Panel → Option Cut
planing_of p = planing_if (ltb (least_tenths p) (suc most_cut)) (cut_behind p (least_tenths p) (first_behind p (least_tenths p)))

unfoldable pub planing_answer : Panel → Result (Option Cut) ℕ
planing_answer p = unless_refused (panel_refusal p) (planing_of p)
