-- Laws of turning, for every panel: what it keeps, that turned twice a panel is itself, and that unused places do not matter.
use Prim.Native.Nat.{ℕ, zero, suc, ◌-◌, ◌<◌, ◌≤◌, min}
use mathlib.Core.Path.{◌≡◌, refl, sym, ap, ap₂, subst, ◌∙◌}
use mathlib.Core.List.{List, [], ◌∷◌, ◌++◌, map, map-append, reverse, reverse-cons, reverse-reverse}
use mathlib.Core.Bool.{Bool, true, ◌&&◌}
use native.Mathlib.Omega.{arith}
use lib.ListN.{length, take, replicate, length-map, length-reverse}
use Rattle.numbers.proofs.Booleans.{and_left}
use Rattle.panel.specs.declared.Panel.{Panel}
use Rattle.panel.specs.Lamellae.{Lamella, lamellae, with_lamellae, nine, cleared, SameUsed, thickness}
use Rattle.panel.specs.Faces.{turned, fires_on, fires, shown_on, shown, InEvery, in_every, least_of}
use Rattle.panel.proofs.Used.{length_lamellae_of, lamellae_with, lamellae_cleared, thickness_append, unused}

-- What turning keeps

pub turned_lamellae : (p : Panel) → lamellae (turned p) ≡ reverse (lamellae p)
turned_lamellae p = lamellae_with p (reverse (lamellae p))

pub turned_count : (p : Panel) → (turned p).count ≡ p.count
turned_count p = length-reverse (lamellae p) ∙ length_lamellae_of p.directions p.thicknesses p.count

-- TURNING TWICE gives the panel back, its unused places 0
pub turned_twice : (p : Panel) → turned (turned p) ≡ cleared p
turned_twice p = ap (with_lamellae p) (ap reverse (turned_lamellae p) ∙ reverse-reverse (lamellae p))

pub thickness_reverse : (ls : List Lamella) → thickness (reverse ls) ≡ thickness ls
unfolding thickness
thickness_reverse [] = refl
thickness_reverse (l ∷ ls) =
    ap thickness (reverse-cons l ls)
    ∙ omega (arith, thickness_append (reverse ls) (l ∷ []), thickness_reverse ls)

-- an array of nine that holds a number of each lamella, and then those of the turned panel
pub turned_places :
    (f : Lamella → ℕ) (ls : List Lamella) (xs : List ℕ) (n : ℕ) → map f ls ≡ take n xs → length ls ≡ n
    → reverse (take n xs) ++ replicate (9 - n) 0 ≡ nine (map f (reverse ls))
turned_places f ls xs n e long =
    ap₂ (λ (ys : List ℕ) (k : ℕ). ys ++ replicate (9 - k) 0) (ap reverse (sym e) ∙ sym (map_reverse f ls))
    (sym (length-map (reverse ls) f ∙ length-reverse ls ∙ long))
  where
    map_reverse : (f : Lamella → ℕ) (ls : List Lamella) → map f (reverse ls) ≡ reverse (map f ls)
    map_reverse f [] = refl
    map_reverse f (l ∷ ls) =
        ap (map f) (reverse-cons l ls)
        ∙ map-append f (reverse ls) (l ∷ [])
        ∙ ap (λ (xs : List ℕ). xs ++ (f l ∷ [])) (map_reverse f ls)
        ∙ sym (reverse-cons (f l) (map f ls))

-- The fire that is shown, and the least and a test over all fires

-- of a face other than the last the first is shown
pub shown_first : (face : ℕ) (p : Panel) → (face ≡ 1 → ⊥) → p ≡ shown_on face p
shown_first zero p ne = refl
shown_first (suc zero) p ne = absurd (ne refl)
shown_first (suc (suc face)) p ne = refl

-- one fire: the one that is shown
pub one_fire : (minute : Panel → ℕ) (face : ℕ) (p : Panel) → face < 2 → minute (shown_on face p) ≡ least_of minute (fires_on face p)
one_fire minute zero p h = refl
one_fire minute (suc zero) p h = refl
one_fire minute (suc (suc face)) p h = absurd (let z : ⊥ = omega arith in z)

-- two fires: the one that is shown, and the other
pub two_fires :
    (minute : Panel → ℕ) (face : ℕ) (p : Panel) → 2 ≤ face
    → min (minute (shown_on face p)) (minute (turned p)) ≡ least_of minute (fires_on face p)
two_fires minute zero p h = absurd (let z : ⊥ = omega arith in z)
two_fires minute (suc zero) p h = absurd (let z : ⊥ = omega arith in z)
two_fires minute (suc (suc face)) p h = refl

-- the same of a test
pub every_one : (test : Panel → Bool) (face : ℕ) (p : Panel) → face < 2 → test (shown_on face p) ≡ in_every test (fires_on face p)
every_one test zero p h = refl
every_one test (suc zero) p h = refl
every_one test (suc (suc face)) p h = absurd (let z : ⊥ = omega arith in z)

pub every_two :
    (test : Panel → Bool) (face : ℕ) (p : Panel) → 2 ≤ face
    → (test (shown_on face p) && test (turned p)) ≡ in_every test (fires_on face p)
every_two test zero p h = absurd (let z : ⊥ = omega arith in z)
every_two test (suc zero) p h = absurd (let z : ⊥ = omega arith in z)
every_two test (suc (suc face)) p h = refl

-- the fire that is shown is one of them
pub every_shown : (test : Panel → Bool) (face : ℕ) (p : Panel) → in_every test (fires_on face p) ≡ true → test (shown_on face p) ≡ true
every_shown test zero p e = e
every_shown test (suc zero) p e = e
every_shown test (suc (suc face)) p e = and_left (test p) (test (turned p)) e

-- what holds of a panel and of the same turned holds of the fire that is shown and in every fire
pub shown_holds : (Holds : Panel → Type 0) (face : ℕ) (p : Panel) → Holds p → Holds (turned p) → Holds (shown_on face p)
shown_holds Holds zero p h k = h
shown_holds Holds (suc zero) p h k = k
shown_holds Holds (suc (suc face)) p h k = h

pub every_holds : (Holds : Panel → Type 0) (face : ℕ) (p : Panel) → Holds p → Holds (turned p) → InEvery Holds (fires_on face p)
every_holds Holds zero p h k = h
every_holds Holds (suc zero) p h k = k
every_holds Holds (suc (suc face)) p h k = (h, k)

-- the lesser of two fires is no less where each is no less
pub least_rises : (f g : Panel → ℕ) (ps : List Panel) → InEvery (λ p. f p ≤ g p) ps → least_of f ps ≤ least_of g ps
least_rises f g [] h = omega arith
least_rises f g (p ∷ []) h = h
least_rises f g (p ∷ q ∷ ps) h = omega (arith, h.0, least_rises f g (q ∷ ps) h.1)

-- panels that are alike, of the same face and alike when turned, have alike fires
module _ (Alike : Panel → Panel → Type 0) (faces : (p q : Panel) → Alike p q → p.face ≡ q.face)
    (turns : (p q : Panel) → Alike p q → Alike (turned p) (turned q)) where
  shown_on_lem : (face : ℕ) (p q : Panel) → Alike p q → Alike (shown_on face p) (shown_on face q)
  shown_on_lem zero p q h = h
  shown_on_lem (suc zero) p q h = turns p q h
  shown_on_lem (suc (suc face)) p q h = h

  pub shown_alike : (p q : Panel) → Alike p q → Alike (shown p) (shown q)
  shown_alike p q h = subst (λ (face : ℕ). Alike (shown_on face p) (shown q)) (sym (faces p q h)) (shown_on_lem q.face p q h)

  least_on :
      (f : Panel → ℕ) → ((p q : Panel) → Alike p q → f p ≡ f q) → (face : ℕ) (p q : Panel) → Alike p q
      → least_of f (fires_on face p) ≡ least_of f (fires_on face q)
  least_on f same zero p q h = same p q h
  least_on f same (suc zero) p q h = same (turned p) (turned q) (turns p q h)
  least_on f same (suc (suc face)) p q h = ap₂ min (same p q h) (same (turned p) (turned q) (turns p q h))

  pub least_alike : (f : Panel → ℕ) → ((p q : Panel) → Alike p q → f p ≡ f q) → (p q : Panel) → Alike p q
      → least_of f (fires p) ≡ least_of f (fires q)
  least_alike f same p q h = ap (λ (face : ℕ). least_of f (fires_on face p)) (faces p q h) ∙ least_on f same q.face p q h

-- UNUSED PLACES do not matter: turned panels have none that are not 0
pub turned_same : (p q : Panel) → SameUsed p q → turned p ≡ turned q
turned_same = unused turned (λ p. ap (λ (ls : List Lamella). with_lamellae p (reverse ls)) (lamellae_cleared p))

face_same : (p q : Panel) → SameUsed p q → p.face ≡ q.face
face_same p q h = ap (λ (r : Panel). r.face) h

pub shown_same : (p q : Panel) → SameUsed p q → SameUsed (shown p) (shown q)
shown_same = shown_alike SameUsed face_same (λ p q h. ap cleared (turned_same p q h))

pub least_same :
    (f : Panel → ℕ) → ((p q : Panel) → SameUsed p q → f p ≡ f q) → (p q : Panel) → SameUsed p q → least_of f (fires p) ≡ least_of f (fires q)
least_same = least_alike SameUsed face_same (λ p q h. ap cleared (turned_same p q h))
