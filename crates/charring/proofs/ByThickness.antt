-- Bond lines by thicknesses alone: directions do not matter.
use Prim.Native.Nat.{ℕ, ◌+◌, ◌*◌, ◌<◌, ◌≤◌, min}
use mathlib.Core.Path.{◌≡◌, refl, sym, ap}
use mathlib.Core.List.{List, [], ◌∷◌, map}
use native.Mathlib.Omega.{arith}
use lib.ListN.{length, take, get_or}
use borrow.Author.Tests.{ne_eqb}
use Rattle.panel.proofs.Used.{thicknesses_lamellae_of}
use Rattle.panel.specs.declared.Panel.{Panel}
use Rattle.panel.specs.Lamellae.{Lamella, lamellae, thickness}
use Rattle.charring.specs.Rates.{tenth, fast_run, lines_from, line_end, bond_lines}
use Rattle.charring.specs.Lines.{by_thickness}

-- The lines below a depth, from lamella to lamella

pub none_left : (top : ℕ) (ts : List ℕ) → length ts < 2 → lines_from top (by_thickness ts) ≡ []
unfolding lines_from
none_left top [] h = refl
none_left top (t ∷ []) h = refl
none_left top (t ∷ u ∷ us) h = absurd (omega arith)

pub one_more : (top t next : ℕ) (all ts : List ℕ) → next ≡ top + tenth * t → all ≡ t ∷ ts → 0 < length ts
    → lines_from top (by_thickness all) ≡ next ∷ lines_from next (by_thickness ts)
unfolding lines_from
one_more top t next all [] n e h = absurd (omega arith)
one_more top t next all (u ∷ us) n e h = rw (n, e)

pub thickness_more : (t : ℕ) (all ts : List ℕ) → all ≡ t ∷ ts → thickness (by_thickness all) ≡ t + thickness (by_thickness ts)
unfolding thickness
thickness_more t all ts e = rw e

-- where a run ends
pub end_far : (line : ℕ) (ts : List ℕ) → length ts < 2 → line + fast_run ≡ line_end line (lines_from line (by_thickness ts))
unfolding line_end
end_far line ts h = rw (none_left line ts h)

pub end_near : (line r : ℕ) (ts : List ℕ) → 1 < length ts → r ≡ min (line + fast_run) (line + tenth * get_or ts 0 0)
    → r ≡ line_end line (lines_from line (by_thickness ts))
unfolding line_end
end_near line r [] h e = absurd (omega arith)
end_near line r (t ∷ ts) h e = rw (one_more line t (line + tenth * t) (t ∷ ts) ts refl refl (omega arith)) e

-- Those of a panel

abbrev pub thicknesses : List Lamella → List ℕ
thicknesses ls = map (λ (l : Lamella). l.thickness) ls

same_lines : (top : ℕ) (ls : List Lamella) → lines_from top (by_thickness (thicknesses ls)) ≡ lines_from top ls
unfolding lines_from
same_lines top [] = refl
same_lines top (l ∷ []) = refl
same_lines top (l ∷ m ∷ ls) = ap (λ (xs : List ℕ). (top + tenth * l.thickness) ∷ xs) (same_lines (top + tenth * l.thickness) (m ∷ ls))

same_thickness : (ls : List Lamella) → thickness (by_thickness (thicknesses ls)) ≡ thickness ls
unfolding thickness
same_thickness [] = refl
same_thickness (l ∷ ls) = ap (λ (x : ℕ). l.thickness + x) (same_thickness ls)

module _ (p : Panel) (h : p.count ≤ length p.thicknesses) where
  pub within_panel : thickness (lamellae p) ≤ 4000 → 0 + tenth * thickness (by_thickness (take p.count p.thicknesses)) ≤ 400000000000
  within_panel k =
      rw (← thicknesses_lamellae_of p.directions p.thicknesses p.count h, same_thickness (lamellae p))
      (omega (arith, k))

  pub lines_of_panel : p.bond ≡ 1 → lines_from 0 (by_thickness (take p.count p.thicknesses)) ≡ bond_lines p
  unfolding bond_lines
  lines_of_panel e = rw (e, ← thicknesses_lamellae_of p.directions p.thicknesses p.count h) (same_lines 0 (lamellae p))

-- where the bond does not fall, no line matters
pub lines_none : (p : Panel) → (p.bond ≡ 1 → ⊥) → bond_lines p ≡ []
unfolding bond_lines
lines_none p h = rw (bond_lines, ne_eqb p.bond 1 h)

pub no_lines : (p : Panel) → (p.bond ≡ 1 → ⊥) → lines_from 0 (by_thickness []) ≡ bond_lines p
unfolding lines_from
no_lines p h = sym (lines_none p h)

pub nothing_within : 0 + tenth * thickness (by_thickness []) ≤ 400000000000
unfolding thickness
nothing_within = omega arith
