-- A panel's lamellae come from the used places of its arrays, and a panel may be given others.
use Prim.Native.Nat.{ℕ, zero, suc, ◌+◌, ◌-◌, ◌<◌, ◌≤◌}
use mathlib.Core.Path.{◌≡◌, refl, sym, ap, ap₂, ◌∙◌}
use mathlib.Core.List.{List, [], ◌∷◌, ◌++◌, map, map-append}
use mathlib.Core.Logic.{⊎_elim}
use native.Mathlib.Nat.{eq-or-lt_of_le}
use native.Mathlib.Omega.{arith}
use Rattle.std.proofs.lemmas.List.{get_or-take, get_or-drop}
use lib.ListN.{length, get_or, take, drop, take-append-drop, length-drop, length-map, get_or-append, get_or-map, replicate}
use lib.Seq.{drop-cons, take-suc}
use Rattle.numbers.proofs.FirstValues.{length_firsts, firsts_agree, firsts_get_or, get_or_firsts}
use Rattle.panel.specs.declared.Panel.{Panel}
use Rattle.panel.specs.Lamellae.{
  Lamella,
  lamella,
  lamellae_of,
  lamellae,
  nine,
  directions_of,
  thicknesses_of,
  with_lamellae,
  cleared,
  SameUsed,
  thickness,
}

-- there are as many lamellae as the count says
pub length_lamellae_of : (gs ts : List ℕ) (n : ℕ) → length (lamellae_of gs ts n) ≡ n
unfolding lamellae_of
length_lamellae_of gs ts n = length_firsts (λ (i : ℕ). lamella (get_or gs i 0) (get_or ts i 0)) n

-- lamella i comes from place i
pub get_or_lamellae_of :
    (gs ts : List ℕ) (n i : ℕ) → i < n → get_or (lamellae_of gs ts n) i (lamella 0 0) ≡ lamella (get_or gs i 0) (get_or ts i 0)
unfolding lamellae_of
get_or_lamellae_of gs ts n i h = get_or_firsts (λ (i : ℕ). lamella (get_or gs i 0) (get_or ts i 0)) n i (lamella 0 0) h

-- the lamellae from place i on
pub rest_of :
    (gs ts : List ℕ) (n i : ℕ) → i < n
    → drop i (lamellae_of gs ts n) ≡ lamella (get_or gs i 0) (get_or ts i 0) ∷ drop (suc i) (lamellae_of gs ts n)
rest_of gs ts n i h =
    drop-cons (lamellae_of gs ts n) i (lamella 0 0) (omega (arith, length_lamellae_of gs ts n))
    ∙ ap (λ (l : Lamella). l ∷ drop (suc i) (lamellae_of gs ts n)) (get_or_lamellae_of gs ts n i h)

-- the first places of two arrays, lent, are the first lamellae
pub lamellae_taken : (gs ts : List ℕ) (n m : ℕ) → m ≡ n → lamellae_of (take n gs) (take n ts) m ≡ lamellae_of gs ts n
unfolding lamellae_of
lamellae_taken gs ts n m e =
    ap (lamellae_of (take n gs) (take n ts)) e
    ∙ firsts_agree (λ (i : ℕ). lamella (get_or (take n gs) i 0) (get_or (take n ts) i 0)) (λ (i : ℕ). lamella (get_or gs i 0) (get_or ts i 0)) n
    (λ i h. ap₂ lamella (get_or-take n gs i 0 h) (get_or-take n ts i 0 h))

-- those from a place on are the lamellae from there on
pub lamellae_dropped :
    (gs ts : List ℕ) (k n m : ℕ) → m ≡ n - k → lamellae_of (drop k gs) (drop k ts) m ≡ drop k (lamellae_of gs ts n)
unfolding lamellae_of
lamellae_dropped gs ts k n m e =
    let ls = lamellae_of gs ts n in
    let long : m ≡ length (drop k ls) = omega (arith, length-drop k ls, length_lamellae_of gs ts n) in
    ap (lamellae_of (drop k gs) (drop k ts)) long
    ∙ firsts_get_or (λ (i : ℕ). lamella (get_or (drop k gs) i 0) (get_or (drop k ts) i 0)) (drop k ls) (lamella 0 0)
    (λ i h.
    let there : k + i < n = omega (arith, length-drop k ls, length_lamellae_of gs ts n) in
    ap₂ lamella (get_or-drop k gs i 0) (get_or-drop k ts i 0)
    ∙ sym (get_or-drop k ls i (lamella 0 0) ∙ get_or_lamellae_of gs ts n (k + i) there))

-- the numbers of the first lamellae are those at the first places
pub directions_lamellae_of :
    (gs ts : List ℕ) (n : ℕ) → n ≤ length gs → map (λ (l : Lamella). l.direction) (lamellae_of gs ts n) ≡ take n gs
unfolding lamellae_of
directions_lamellae_of gs ts zero h = refl
directions_lamellae_of gs ts (suc n) h =
    map-append (λ (l : Lamella). l.direction) (lamellae_of gs ts n) (lamella (get_or gs n 0) (get_or ts n 0) ∷ [])
    ∙ ap (λ (xs : List ℕ). xs ++ (get_or gs n 0 ∷ [])) (directions_lamellae_of gs ts n (omega arith))
    ∙ sym (take-suc gs n 0 h)

pub thicknesses_lamellae_of :
    (gs ts : List ℕ) (n : ℕ) → n ≤ length ts → map (λ (l : Lamella). l.thickness) (lamellae_of gs ts n) ≡ take n ts
unfolding lamellae_of
thicknesses_lamellae_of gs ts zero h = refl
thicknesses_lamellae_of gs ts (suc n) h =
    map-append (λ (l : Lamella). l.thickness) (lamellae_of gs ts n) (lamella (get_or gs n 0) (get_or ts n 0) ∷ [])
    ∙ ap (λ (xs : List ℕ). xs ++ (get_or ts n 0 ∷ [])) (thicknesses_lamellae_of gs ts n (omega arith))
    ∙ sym (take-suc ts n 0 h)

-- an array of nine that was filled from lamellae holds their numbers
get_or_nine :
    (f : Lamella → ℕ) (ls : List Lamella) (i : ℕ) (d : Lamella) → f d ≡ 0 → i < length ls → get_or (nine (map f ls)) i 0 ≡ f (get_or ls i d)
get_or_nine f ls i d e h =
    get_or-append (map f ls) (replicate (9 - length (map f ls)) 0) 0 i (simp length-map h)
    ∙ ap (get_or (map f ls) i) (sym e)
    ∙ get_or-map f ls i d

-- the lamellae of a panel with other lamellae are these
pub lamellae_with : (p : Panel) (ls : List Lamella) → lamellae (with_lamellae p ls) ≡ ls
unfolding lamellae_of
lamellae_with p ls =
    firsts_get_or (λ (i : ℕ). lamella (get_or (directions_of ls) i 0) (get_or (thicknesses_of ls) i 0)) ls (lamella 0 0)
    (λ i h.
    ap₂ lamella (get_or_nine (λ (l : Lamella). l.direction) ls i (lamella 0 0) refl h)
    (get_or_nine (λ (l : Lamella). l.thickness) ls i (lamella 0 0) refl h))

-- Unused places

pub lamellae_cleared : (p : Panel) → lamellae (cleared p) ≡ lamellae p
lamellae_cleared p = lamellae_with p (lamellae p)

pub count_cleared : (p : Panel) → (cleared p).count ≡ p.count
count_cleared p = length_lamellae_of p.directions p.thicknesses p.count

-- a panel and the same with its unused places 0 differ at most there
pub cleared_same : (p : Panel) → SameUsed (cleared p) p
cleared_same p = ap (with_lamellae p) (lamellae_cleared p)

-- what does not change when unused places become 0 is the same for panels that differ at most there
pub unused {ℓ} : {A : Type ℓ} (f : Panel → A) → ((p : Panel) → f (cleared p) ≡ f p) → (p q : Panel) → SameUsed p q → f p ≡ f q
unused f e p q h = sym (e p) ∙ ap f h ∙ e q

-- panels that agree in all but their lamellae, in the count and at every used place differ at most in their unused places
pub agree_same :
    (p q : Panel) → with_lamellae p [] ≡ with_lamellae q [] → p.count ≡ q.count
    → ((i : ℕ) → i < p.count → get_or p.directions i 0 ≡ get_or q.directions i 0)
    → ((i : ℕ) → i < p.count → get_or p.thicknesses i 0 ≡ get_or q.thicknesses i 0)
    → SameUsed p q
unfolding lamellae_of
agree_same p q rest count directions thicknesses =
    ap₂ with_lamellae rest
    (firsts_agree (λ (i : ℕ). lamella (get_or p.directions i 0) (get_or p.thicknesses i 0))
    (λ (i : ℕ). lamella (get_or q.directions i 0) (get_or q.thicknesses i 0)) p.count
    (λ i k. ap₂ lamella (directions i k) (thicknesses i k))
    ∙ ap (lamellae_of q.directions q.thicknesses) count)

-- Thickness of runs of lamellae

pub thickness_append : (ls ms : List Lamella) → thickness (ls ++ ms) ≡ thickness ls + thickness ms
unfolding thickness
thickness_append [] ms = omega arith
thickness_append (l ∷ ls) ms = omega (arith, thickness_append ls ms)

-- where a run of lamellae in two arrays ends, with one more
pub thickness_more : (gs ts : List ℕ) (i : ℕ)
    → thickness (lamellae_of gs ts (suc i)) ≡ thickness (lamellae_of gs ts i) + get_or ts i 0
unfolding lamellae_of thickness
thickness_more gs ts i = omega (arith, thickness_append (lamellae_of gs ts i) (lamella (get_or gs i 0) (get_or ts i 0) ∷ []))

-- a longer run of lamellae is no thinner
pub thickness_prefix : (gs ts : List ℕ) (i n : ℕ) → i ≤ n → thickness (lamellae_of gs ts i) ≤ thickness (lamellae_of gs ts n)
thickness_prefix gs ts zero zero h = omega arith
thickness_prefix gs ts (suc i) zero h = absurd (omega arith)
thickness_prefix gs ts i (suc n) h =
    ⊎_elim
    (λ same. rw same (omega arith))
    (λ (below : i < suc n). omega (arith, thickness_more gs ts n, thickness_prefix gs ts i n (omega arith)))
    (eq-or-lt_of_le h)

-- where the first lamellae of a run end, with one more
pub thickness_next : (ls : List Lamella) (i : ℕ) → i < length ls
    → thickness (take (suc i) ls) ≡ thickness (take i ls) + (get_or ls i (lamella 0 0)).thickness
unfolding thickness
thickness_next ls i h =
    let l = get_or ls i (lamella 0 0) in
    omega (arith, ap thickness (take-suc ls i (lamella 0 0) h), thickness_append (take i ls) (l ∷ []))

-- a run of lamellae is as thick as its first ones and those that follow
pub thickness_parts : (ls : List Lamella) (i : ℕ) → thickness (take i ls) + thickness (drop i ls) ≡ thickness ls
thickness_parts ls i = sym (thickness_append (take i ls) (drop i ls)) ∙ ap thickness (take-append-drop i ls)
