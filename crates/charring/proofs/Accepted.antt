-- An accepted panel keeps the limits within which its depths fit 64 bits.
use Prim.Native.Nat.{ℕ, ◌+◌, ◌-◌, ◌*◌, ◌≤◌}
use mathlib.Core.Path.{◌≡◌, refl}
use mathlib.Core.Bool.{Bool, true, false}
use native.Mathlib.Omega.{arith}
use lib.Dec.{eqb}
use Rattle.numbers.specs.Choice.{pick}
use Rattle.panel.specs.declared.Board.{Board}
use Rattle.panel.specs.declared.Cladding.{Cladding}
use Rattle.panel.specs.declared.Cladding.TheVariants.{Unclad, One, Two}
use Rattle.panel.specs.declared.Panel.{Panel}
use Rattle.panel.specs.Boards.{wood_based, material_of, gap_loss, inner_gain, is_f, type_f, char_through, charring_start}
use Rattle.panel.proofs.Thicknesses.{gypsum_else, thickest_most}
use Rattle.panel.specs.Lamellae.{lamellae, thickness}
use Rattle.panel.specs.Products.{product_of, rate_of}
use Rattle.panel.proofs.Rates.{rate_within}
use Rattle.refusals.specs.Refusals.{panel_refusal}
use Rattle.limits.specs.Keeps.{TypesKeep, BoardKeeps, CladdingKeeps, Keeps}
use Rattle.limits.proofs.Accepted.{accepted_keeps}
use Rattle.charring.specs.Rates.{start_of, failure_of}
use Rattle.charring.proofs.DepthLaws.{k2_bound}
use Rattle.charring.specs.Fits.{CharringFits}
use Rattle.numbers.proofs.Products.{times}

loss_least : (gap : ℕ) → 14000 ≤ gap_loss gap
loss_least gap = go (eqb gap 1)
  where
    go : (t : Bool) → 14000 ≤ pick t 23000 14000
    go true = omega arith
    go false = omega arith

gain_most : (b : Board) → inner_gain b ≤ 224
gain_most b = go (is_f b)
  where
    go : (t : Bool) → pick t 224 140 ≤ 224
    go true = omega arith
    go false = omega arith

gypsum_most : (b : Board) → BoardKeeps b → wood_based b ≡ false → b.thickness ≤ 250
gypsum_most b k e = rw (gypsum_else b e) at k.thickness.most

start_most : (gap : ℕ) (c : Cladding) → TypesKeep c → CladdingKeeps c → charring_start gap c ≤ 112000
start_most gap Unclad l k = omega arith
start_most gap (One b) l k = go (wood_based b) refl
  where
    go : (w : Bool) → wood_based b ≡ w → pick w (char_through b) (280 * b.thickness - gap_loss gap) ≤ 112000
    go true e = omega (arith, k.thickness.most, thickest_most (material_of b.kind))
    go false e = omega (arith, gypsum_most b k e)
start_most gap (Two outer inner) l k =
    let inside : inner_gain inner * inner.thickness ≤ 224 * 250 =
    times (inner_gain inner) 224 inner.thickness 250 (gain_most inner) (gypsum_most inner k.1 l.1) in
    sum outer.thickness (inner_gain inner * inner.thickness) (gap_loss gap) (gypsum_most outer k.0 l.0) inside (loss_least gap)
  where
    sum : (h g l : ℕ) → h ≤ 250 → g ≤ 224 * 250 → 14000 ≤ l → 280 * h + g - l ≤ 112000
    sum h g l a b d = omega arith

failure_within :
    (f : Bool) (start given : ℕ) → (f ≡ true → (start ≤ given) × (given ≤ 360000)) → start ≤ 112000
    → (start ≤ pick f given start) × (pick f given start ≤ 360000)
failure_within true start given k h = k refl
failure_within false start given k h = (omega arith, omega arith)

-- the limits that charring asks for are among those that a panel keeps
pub fire_part : (p : Panel) → Keeps p → CharringFits p
unfolding failure_of
fire_part p k =
    let start = start_most p.gap p.cladding k.types k.boards in
    let failure = failure_within (type_f p.cladding) (start_of p) p.failure_time k.given start in
    record {
      rate = (rate_within (product_of p.bond) p.rate (thickness (lamellae p)) k.rate_least k.rate_most).1;
      start = start;
      failure = failure.1;
      order = failure.0;
      slow = k2_bound p.cladding;
      least = k.count_least;
      count = k.section.count;
      thick = k.section.thickness;
    }

pub fire_fits : (p : Panel) → panel_refusal p ≡ 0 → CharringFits p
fire_fits p e = fire_part p (accepted_keeps p e)

-- and it chars
pub rate_least_lem : (p : Panel) → panel_refusal p ≡ 0 → 50 ≤ rate_of p
rate_least_lem p e =
    let k = accepted_keeps p e in
    (rate_within (product_of p.bond) p.rate (thickness (lamellae p)) k.rate_least k.rate_most).0
