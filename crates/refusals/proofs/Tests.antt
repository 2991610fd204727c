-- Tests over lamellae as the chains of the code answer them.
use Prim.Native.Nat.{ℕ}
use mathlib.Core.Path.{◌≡◌, refl, ap, ◌∙◌}
use mathlib.Core.List.{List, [], ◌∷◌, ◌++◌, map}
use mathlib.Core.Bool.{Bool, ◌||◌, or-false}
use Rattle.numbers.proofs.Booleans.{or_assoc}
use lib.Dec.{eqb}
use Rattle.std.specs.List.{list_any}
use Rattle.panel.specs.Lamellae.{Lamella, lies}
use Rattle.refusals.specs.Causes.{some}

-- some lamella, where lamellae are made of other things: a test of some of these
pub some_map : {A : Type 0} (test : Lamella → Bool) (at : A → Lamella) (xs : List A) → some test (map at xs) ≡ list_any (λ x. test (at x)) xs
unfolding some
some_map test at [] = refl
some_map test at (x ∷ xs) = ap (λ (t : Bool). test (at x) || t) (some_map test at xs)

-- some lamella lies in a direction: some direction is that one
pub lying_some : (d : ℕ) (ls : List Lamella) → some (lies d) ls ≡ list_any (λ g. eqb g d) (map (λ (l : Lamella). l.direction) ls)
unfolding some
lying_some d [] = refl
lying_some d (l ∷ ls) = ap (λ (t : Bool). lies d l || t) (lying_some d ls)

-- some lamella of one more: some of the former, or the last
pub some_more : (test : Lamella → Bool) (ls : List Lamella) (l : Lamella) → some test (ls ++ (l ∷ [])) ≡ (some test ls || test l)
unfolding some
some_more test [] l = or-false (test l)
some_more test (x ∷ ls) l = ap (λ (t : Bool). test x || t) (some_more test ls l) ∙ or_assoc (test x) (some test ls) (test l)
