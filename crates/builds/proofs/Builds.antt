-- Same build: the test says that what it compares is equal, and panels of the same build differ at most in version,
-- strength and moment.
use Prim.Native.Nat.{ℕ}
use mathlib.Core.Path.{◌≡◌, refl, sym, ap, ap₂, ◌∙◌}
use mathlib.Core.Logic.{◌↔◌}
use mathlib.Core.List.{List, [], ◌∷◌}
use mathlib.Core.Bool.{true}
use borrow.Author.Tests.{eqb-true, eq-eqb}
use Rattle.std.specs.Bool.{Decides}
use Rattle.numbers.proofs.Booleans.{and_left, and_right}
use Rattle.panel.specs.declared.Board.{Board}
use Rattle.panel.specs.declared.Cladding.{Cladding}
use Rattle.panel.specs.declared.Cladding.TheVariants.{Unclad, One, Two}
use Rattle.panel.specs.declared.Panel.{Panel}
use Rattle.panel.specs.Boards.{boards_of}
use Rattle.panel.specs.Lamellae.{Lamella, lamellae, with_lamellae, SameUsed}
use Rattle.builds.specs.Builds.{
  same_board,
  same_cladding,
  same_lamella,
  same_lamellae,
  same_build,
  SameBuild,
  with_uncompared,
}

-- of tests joined by "and", each holds
ruleset joined = (and_left, and_right)

-- What is the same by the test is equal, and a thing is the same as itself

board_equal : (a b : Board) → same_board a b ≡ true → a ≡ b
board_equal a b e =
    let kind = eqb-true a.kind b.kind (search joined) in
    let thickness = eqb-true a.thickness b.thickness (search joined) in
    let joint = eqb-true a.joint b.joint (search joined) in
    λ i. record { kind = kind i; thickness = thickness i; joint = joint i }

board_itself : (b : Board) → same_board b b ≡ true
board_itself b =
    rw (eq-eqb b.kind b.kind refl, eq-eqb b.thickness b.thickness refl, eq-eqb b.joint b.joint refl)

cladding_equal : (x y : Cladding) → same_cladding x y ≡ true → x ≡ y
cladding_equal Unclad Unclad e = refl
cladding_equal Unclad (One b) e = cc
cladding_equal Unclad (Two b b') e = cc
cladding_equal (One a) Unclad e = cc
cladding_equal (One a) (One b) e = ap One (board_equal a b e)
cladding_equal (One a) (Two b b') e = cc
cladding_equal (Two a a') Unclad e = cc
cladding_equal (Two a a') (One b) e = cc
cladding_equal (Two a a') (Two b b') e =
    ap₂ Two (board_equal a b (search joined)) (board_equal a' b' (search joined))

cladding_itself : (x : Cladding) → same_cladding x x ≡ true
cladding_itself Unclad = refl
cladding_itself (One b) = board_itself b
cladding_itself (Two outer inner) = rw (board_itself outer, board_itself inner)

lamella_equal : (a b : Lamella) → same_lamella a b ≡ true → a ≡ b
lamella_equal a b e =
    let direction = eqb-true a.direction b.direction (search joined) in
    let thickness = eqb-true a.thickness b.thickness (search joined) in
    λ i. record { direction = direction i; thickness = thickness i }

lamellae_equal : (xs ys : List Lamella) → same_lamellae xs ys ≡ true → xs ≡ ys
unfolding same_lamellae
lamellae_equal [] [] e = refl
lamellae_equal [] (y ∷ ys) e = cc
lamellae_equal (x ∷ xs) [] e = cc
lamellae_equal (x ∷ xs) (y ∷ ys) e =
    ap₂ ◌∷◌ (lamella_equal x y (and_left (same_lamella x y) (same_lamellae xs ys) e))
    (lamellae_equal xs ys (and_right (same_lamella x y) (same_lamellae xs ys) e))

lamellae_themselves : (xs : List Lamella) → same_lamellae xs xs ≡ true
unfolding same_lamellae
lamellae_themselves [] = refl
lamellae_themselves (x ∷ xs) =
    rw (eq-eqb x.direction x.direction refl, eq-eqb x.thickness x.thickness refl) (lamellae_themselves xs)

pub same_decides : (xs ys : List Lamella) → Decides (same_lamellae xs ys) (xs ≡ ys)
same_decides xs ys = (lamellae_equal xs ys, λ e. ap (λ (zs : List Lamella). same_lamellae zs ys) e ∙ lamellae_themselves ys)

-- the boards tell the cladding
abbrev cladding_of : List Board → Cladding
cladding_of [] = Unclad
cladding_of (b ∷ []) = One b
cladding_of (outer ∷ inner ∷ bs) = Two outer inner

cladding_back : (x : Cladding) → cladding_of (boards_of x) ≡ x
cladding_back Unclad = refl
cladding_back (One b) = refl
cladding_back (Two outer inner) = refl

boards_tell : (x y : Cladding) → boards_of x ≡ boards_of y → x ≡ y
boards_tell x y e = sym (cladding_back x) ∙ ap cladding_of e ∙ cladding_back y

-- "EXACTLY WHEN": the test passes exactly where boards, lamellae, face, bond, rate, gap and failure time are equal

pub same_exactly : (a b : Panel) → (same_build a b ≡ true) ↔ SameBuild a b
same_exactly a b = (says, passes)
  where
    says : same_build a b ≡ true → SameBuild a b
    says e =
        record {
          boards = ap boards_of (cladding_equal a.cladding b.cladding (search joined));
          lamellae = lamellae_equal (lamellae a) (lamellae b) (search joined);
          face = eqb-true a.face b.face (search joined);
          bond = eqb-true a.bond b.bond (search joined);
          rate = eqb-true a.rate b.rate (search joined);
          gap = eqb-true a.gap b.gap (search joined);
          failure_time = eqb-true a.failure_time b.failure_time (search joined);
        }

    passes : SameBuild a b → same_build a b ≡ true
    passes h =
        rw (
          boards_tell a.cladding b.cladding h.boards,
          h.lamellae,
          cladding_itself b.cladding,
          lamellae_themselves (lamellae b),
          eq-eqb a.face b.face h.face,
          eq-eqb a.bond b.bond h.bond,
          eq-eqb a.rate b.rate h.rate,
          eq-eqb a.gap b.gap h.gap,
          eq-eqb a.failure_time b.failure_time h.failure_time,
        )

-- An equivalence

pub build_reflexive : (p : Panel) → SameBuild p p
build_reflexive p = record { boards = refl; lamellae = refl; face = refl; bond = refl; rate = refl; gap = refl; failure_time = refl }

pub build_symmetric : (a b : Panel) → SameBuild a b → SameBuild b a
build_symmetric a b h =
    record {
      boards = sym h.boards;
      lamellae = sym h.lamellae;
      face = sym h.face;
      bond = sym h.bond;
      rate = sym h.rate;
      gap = sym h.gap;
      failure_time = sym h.failure_time;
    }

pub build_transitive : (a b c : Panel) → SameBuild a b → SameBuild b c → SameBuild a c
build_transitive a b c h k =
    record {
      boards = h.boards ∙ k.boards;
      lamellae = h.lamellae ∙ k.lamellae;
      face = h.face ∙ k.face;
      bond = h.bond ∙ k.bond;
      rate = h.rate ∙ k.rate;
      gap = h.gap ∙ k.gap;
      failure_time = h.failure_time ∙ k.failure_time;
    }

-- Panels of the same build differ at most in version, strength and moment, and in their unused places

pub same_but_uncompared : (a b : Panel) → SameBuild a b → SameUsed (with_uncompared a b.version b.strength b.moment) b
same_but_uncompared a b h =
    let cladding = boards_tell a.cladding b.cladding h.boards in
    let alike : with_lamellae (with_uncompared a b.version b.strength b.moment) [] ≡ with_lamellae b [] =
    λ i. record (with_lamellae b []) { face = h.face i; bond = h.bond i; rate = h.rate i; gap = h.gap i; failure_time = h.failure_time i; cladding = cladding i } in
    ap₂ with_lamellae alike h.lamellae

-- what looks neither at these three nor at unused places is the same for panels of the same build
pub same_shared {ℓ} :
    {A : Type ℓ} (f : Panel → A) → ((p q : Panel) → SameUsed p q → f p ≡ f q)
    → ((p : Panel) (version strength moment : ℕ) → f (with_uncompared p version strength moment) ≡ f p)
    → (a b : Panel) → SameBuild a b → f a ≡ f b
same_shared f unused rest a b h =
    sym (rest a b.version b.strength b.moment)
    ∙ unused (with_uncompared a b.version b.strength b.moment) b (same_but_uncompared a b h)
