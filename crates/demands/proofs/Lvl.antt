-- What the product decides of a panel follows from line 17 and from what factor, rate and lines are. Assumes nothing.
use Prim.Native.Nat.{ℕ, ◌≤◌, ◌<◌}
use mathlib.Core.Path.{◌≡◌, refl, ap, subst, ◌∙◌}
use mathlib.Core.List.{[]}
use native.Mathlib.Omega.{arith}
use borrow.Author.Tests.{ne_eqb, lt-ltb, le-ltb}
use Rattle.panel.specs.declared.Panel.{Panel}
use Rattle.panel.specs.declared.Product.{Product}
use Rattle.panel.specs.declared.Product.TheVariants.{Clt, Lvl}
use Rattle.panel.specs.Lamellae.{lamellae, thickness}
use Rattle.panel.specs.Faces.{turned}
use Rattle.panel.specs.Products.{product_of, is_lvl, factor_of, thin_rate, rate_by, rate_of, IsThinRate}
use Rattle.panel.proofs.Rates.{thin_is, thin_one}
use Rattle.section.specs.Tests.{carries, section_at}
use Rattle.refusals.specs.Refusals.{panel_refusal}
use Rattle.panel.proofs.Turning.{every_holds}
use Rattle.refusals.proofs.Turned.{refusal_turned}
use Rattle.limits.proofs.Accepted.{accepted_keeps, accepted_least}
use Rattle.record.specs.Layouts.{panel_of}
use Rattle.record.proofs.Records.{record_panel}
use Rattle.charring.specs.Rates.{failure_of, bond_lines, intact_end, first_end}
use Rattle.charring.specs.Way.{way}
use Rattle.charring.specs.Depths.{char_at}
use Rattle.charring.proofs.ByThickness.{lines_none}
use Rattle.phases.specs.Phases.{phase_at}
use Rattle.layers.specs.Layers.{ei_sum_in}
use Rattle.demands.specs.Lvl.{TestedWith, as_clt, LvlPanel, CltPanel, EveryProduct}

lvl_bond : (p : Panel) → p.bond ≡ 2 → product_of p.bond ≡ Lvl
lvl_bond p e = ap product_of e

clt_bond : (p : Panel) → (p.bond ≡ 2 → ⊥) → product_of p.bond ≡ Clt
clt_bond p ne = rw (product_of, ne_eqb p.bond 2 ne) refl

tested_with : (p : Panel) (product : Product) → product_of p.bond ≡ product → TestedWith (factor_of product) p
tested_with p product e moment depth = ap (λ (kind : Product). carries (factor_of kind) moment p.strength (section_at p depth)) e

-- Of an LVL panel

module _ (p : Panel) (e : product_of p.bond ≡ Lvl) where
  thin_lem : thickness (lamellae p) < 200 → thin_rate (thickness (lamellae p)) ≡ rate_of p
  unfolding rate_by
  thin_lem h = rw (e, lt-ltb (thickness (lamellae p)) 200 h) refl

  thick_lem : 200 ≤ thickness (lamellae p) → rate_of p ≡ p.rate
  unfolding rate_by
  thick_lem h = rw (e, le-ltb (thickness (lamellae p)) 200 h) refl

-- of CLT of a rate
clt_rate : (r : ℕ) (p : Panel) → rate_of (as_clt r p) ≡ r
unfolding rate_by
clt_rate r p = refl

module _ (p : Panel) (bond : p.bond ≡ 2) where
  none : bond_lines p ≡ []
  none = lines_none p (λ e. let z : ⊥ = omega (arith, bond, e) in z)

  none_of_clt : bond_lines (as_clt (rate_of p) p) ≡ []
  none_of_clt = lines_none (as_clt (rate_of p) p) (λ e. let z : ⊥ = omega (arith, e) in z)

  depths_lem : (n q : ℕ) → char_at p n q ≡ char_at (as_clt (rate_of p) p) n q
  unfolding char_at way first_end intact_end failure_of
  depths_lem n q = rw (none, none_of_clt, clt_rate (rate_of p) p) refl

  phases_lem : (n q : ℕ) → phase_at p n q ≡ phase_at (as_clt (rate_of p) p) n q
  unfolding phase_at char_at way first_end intact_end failure_of
  phases_lem n q = rw (none, none_of_clt, clt_rate (rate_of p) p) refl

lvl_panel : (p : Panel) → panel_refusal p ≡ 0 → p.bond ≡ 2 → LvlPanel p
unfolding ei_sum_in
lvl_panel p a bond =
    let e = lvl_bond p bond in
    let k = accepted_keeps p a in
    let lvl = k.lvl (ap is_lvl e) in
    let thick = accepted_least p a in
    let rate = λ (h : thickness (lamellae p) < 200). thin_lem p e h in
    record {
      along = lvl.along;
      rate_byte = lvl.rate;
      no_lines = none p bond;
      factor = tested_with p Lvl e;
      thin = λ h. subst (IsThinRate (thickness (lamellae p))) (rate h) (thin_is (thickness (lamellae p)) thick);
      one = λ h n is. thin_one (thickness (lamellae p)) n _ is (thin_is (thickness (lamellae p)) thick) ∙ rate h;
      thick = λ h. thick_lem p e h ∙ lvl.rate;
      depths = depths_lem p bond;
      phases = phases_lem p bond;
      layers = refl;
    }

clt_panel : (p : Panel) → (p.bond ≡ 2 → ⊥) → CltPanel p
unfolding rate_by
clt_panel p ne =
    let e = clt_bond p ne in
    record { rate = rw e refl; factor = tested_with p Clt e }

-- the fires of a panel are of its bond
pub of_product : EveryProduct
of_product b e =
    let p = panel_of b in
    let a = record_panel b e in
    let turned_accepted = refusal_turned p ∙ a in
    record {
      lvl = λ bond. every_holds LvlPanel p.face p (lvl_panel p a bond) (lvl_panel (turned p) turned_accepted bond);
      clt = λ ne. every_holds CltPanel p.face p (clt_panel p ne) (clt_panel (turned p) ne);
    }
