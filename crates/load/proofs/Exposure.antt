-- More exposure never enlarges the remaining section, whatever the panel and the two times.
use Prim.Native.Nat.{ℕ, ◌+◌, ◌*◌, ◌≤◌, ◌<◌}
use mathlib.Core.Path.{◌≡◌, refl}
use mathlib.Core.Bool.{Bool, true, false}
use mathlib.Core.List.{List, [], ◌∷◌}
use mathlib.Core.Logic.{inl, inr}
use native.Mathlib.Omega.{arith}
use native.Mathlib.Nat.{le_refl}
use Rattle.numbers.proofs.Booleans.{not_both}
use Rattle.panel.specs.declared.Panel.{Panel}
use Rattle.panel.specs.Lamellae.{Lamella, lamellae}
use Rattle.section.proofs.Shrinking.{counts_shallower}
use Rattle.section.specs.Sections.{Part, rest, counts, keep_if, counted_from}
use Rattle.charring.specs.Depths.{tenths_at}
use Rattle.charring.proofs.DepthLaws.{effective_no_less, tenths_later}
use Rattle.load.specs.Exposure.{InsideOne, EachInsideOne, NotEnlarged}

-- more parts to lie inside
inside_more : (b : Bool) (x y : Part) (ys : List Part) → InsideOne x ys → InsideOne x (keep_if b y ys)
inside_more true x y ys h = inr h
inside_more false x y ys h = h

each_more : (b : Bool) (xs : List Part) (y : Part) (ys : List Part) → EachInsideOne xs ys → EachInsideOne xs (keep_if b y ys)
each_more b [] y ys h = tt
each_more b (x ∷ xs) y ys h = (inside_more b x y ys h.0, each_more b xs y ys h.1)

-- each part counted at a deeper depth lies inside one counted at a depth
pub parts_inside :
    (depth deeper top : ℕ) (ls : List Lamella) → depth ≤ deeper → EachInsideOne (counted_from deeper top ls) (counted_from depth top ls)
unfolding counted_from
parts_inside depth deeper top [] h = tt
parts_inside depth deeper top (l ∷ ls) h = go (counts deeper top l) refl (parts_inside depth deeper (top + l.thickness) ls h)
  where
    xs : List Part
    xs = counted_from deeper (top + l.thickness) ls

    ys : List Part
    ys = counted_from depth (top + l.thickness) ls

    first : (b : Bool) → b ≡ true → EachInsideOne xs ys → EachInsideOne (rest deeper top l ∷ xs) (keep_if b (rest depth top l) ys)
    first true e k = (inl (omega arith, le_refl (top + l.thickness)), each_more true xs (rest depth top l) ys k)
    first false e k = absurd (not_both false e refl)

    go :
        (b : Bool)
        → counts deeper top l ≡ b
        → EachInsideOne xs ys
        → EachInsideOne (keep_if b (rest deeper top l) xs) (keep_if (counts depth top l) (rest depth top l) ys)
    go true e k = first (counts depth top l) (counts_shallower depth deeper top l h e) k
    go false e k = each_more (counts depth top l) xs (rest depth top l) ys k

pub not_enlarged : (p : Panel) (n q r s : ℕ) → 0 < q → 0 < s → n * s ≤ r * q → NotEnlarged p n q r s
not_enlarged p n q r s h k l =
    record {
      deeper = effective_no_less p n q r s l;
      inside = parts_inside (tenths_at p n q) (tenths_at p r s) 0 (lamellae p) (tenths_later p n q r s h k l);
    }
