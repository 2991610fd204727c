-- The section of an accepted panel is what is carried from depth to depth.
use Prim.Native.Nat.{ℕ}
use mathlib.Core.Path.{◌≡◌, ◌∙◌}
use mathlib.Core.List.{List, [], ◌∷◌}
use native.Mathlib.Omega.{arith}
use Rattle.panel.specs.declared.Panel.{Panel}
use Rattle.panel.specs.Lamellae.{Lamella, lamellae}
use Rattle.panel.specs.Faces.{turned}
use Rattle.section.specs.Tests.{section_at}
use Rattle.carried.specs.Carried.{carried}
use Rattle.carried.specs.Carrying.{EachThick, LamellaeFit}
use Rattle.carried.proofs.Carrying.{carried_section}
use Rattle.carried.proofs.Lent.{own_lamellae}
use Rattle.limits.specs.Keeps.{LamellaeKeep}
use Rattle.refusals.specs.Refusals.{panel_refusal}
use Rattle.limits.proofs.Accepted.{accepted_keeps, accepted_fits}
use Rattle.refusals.proofs.Turned.{refusal_turned}

-- a lamella that line 11 lets through is counted until it is cut
each_thick : (ls : List Lamella) → LamellaeKeep ls → EachThick ls
each_thick [] keep = tt
each_thick (l ∷ ls) keep = (omega (arith, keep.0.thickness.least), each_thick ls keep.1)

pub accepted_thick : (p : Panel) → panel_refusal p ≡ 0 → EachThick (lamellae p)
accepted_thick p e = each_thick (lamellae p) (accepted_keeps p e).each

-- the lamellae of an accepted panel are what may be carried along
pub accepted_lamellae : (p : Panel) → panel_refusal p ≡ 0 → LamellaeFit (lamellae p)
accepted_lamellae p e = own_lamellae p (accepted_fits p e) (accepted_thick p e)

-- N, P, Q, lo and hi as carried equal the definition's at every depth, also past the panel's thickness, where nothing is left
abbrev pub CarriesSection : Panel → Type 0
CarriesSection fire = (depth : ℕ) → carried (lamellae fire) depth ≡ section_at fire depth

-- THE THEOREM of document 02, 4/14: "In either fire, at every depth to the panel's thickness, they equal the definition's, lo and hi where N
-- is above 0." The fire on the last face is that of the turned panel
pub carried_in_either_fire : (p : Panel) → panel_refusal p ≡ 0 → CarriesSection p × CarriesSection (turned p)
carried_in_either_fire p e = (in_fire p e, in_fire (turned p) (refusal_turned p ∙ e))
  where
    in_fire : (fire : Panel) → panel_refusal fire ≡ 0 → CarriesSection fire
    in_fire fire f depth = carried_section (lamellae fire) (accepted_thick fire f) depth
