-- Same build, a term of document 01. Document 02, 2/14: "two panels are the same build exactly when boards and lamellae and also bond,
-- rate, gap and failure time agree. Strength and moment still don't count." And 3/14: "Panels of different face are different builds; the
-- version isn't looked at."
use Rattle.std.specs.Prelude.{ℕ, ◌≡◌, List, [], ◌∷◌, Bool, true, false, ◌&&◌, eqb}
use Rattle.panel.specs.declared.Board.{Board}
use Rattle.panel.specs.declared.Cladding.{Cladding}
use Rattle.panel.specs.declared.Cladding.TheVariants.{Unclad, One, Two}
use Rattle.panel.specs.declared.Panel.{Panel}
use Rattle.panel.specs.Boards.{boards_of}
use Rattle.panel.specs.Lamellae.{Lamella, lamellae}

-- type, thickness and joint coefficient agree
abbrev pub same_board : Board → Board → Bool
same_board a b = eqb a.kind b.kind && eqb a.thickness b.thickness && eqb a.joint b.joint

abbrev pub same_cladding : Cladding → Cladding → Bool
same_cladding Unclad Unclad = true
same_cladding Unclad (One b) = false
same_cladding Unclad (Two b b') = false
same_cladding (One a) Unclad = false
same_cladding (One a) (One b) = same_board a b
same_cladding (One a) (Two b b') = false
same_cladding (Two a a') Unclad = false
same_cladding (Two a a') (One b) = false
same_cladding (Two a a') (Two b b') = same_board a b && same_board a' b'

-- direction and thickness agree
abbrev pub same_lamella : Lamella → Lamella → Bool
same_lamella a b = eqb a.direction b.direction && eqb a.thickness b.thickness

unfoldable pub same_lamellae : List Lamella → List Lamella → Bool
same_lamellae [] [] = true
same_lamellae [] (y ∷ ys) = false
same_lamellae (x ∷ xs) [] = false
same_lamellae (x ∷ xs) (y ∷ ys) = same_lamella x y && same_lamellae xs ys

-- "boards and lamellae agree, in order"
abbrev pub same_layers : Panel → Panel → Bool
same_layers a b = same_cladding a.cladding b.cladding && same_lamellae (lamellae a) (lamellae b)

-- "bond, rate, gap and failure time agree", the failure time that was given; and the face
abbrev pub same_numbers : Panel → Panel → Bool
same_numbers a b =
    eqb a.face b.face
    && eqb a.bond b.bond
    && eqb a.rate b.rate
    && eqb a.gap b.gap
    && eqb a.failure_time b.failure_time

abbrev pub same_build : Panel → Panel → Bool
same_build a b = same_layers a b && same_numbers a b

-- what the test says: the boards are the same list, the lamellae are, and the five numbers are equal
pub record SameBuild (a b : Panel) : Type 0 where
  pub boards : boards_of a.cladding ≡ boards_of b.cladding
  pub lamellae : Rattle.panel.specs.Lamellae.lamellae a ≡ Rattle.panel.specs.Lamellae.lamellae b
  pub face : a.face ≡ b.face
  pub bond : a.bond ≡ b.bond
  pub rate : a.rate ≡ b.rate
  pub gap : a.gap ≡ b.gap
  pub failure_time : a.failure_time ≡ b.failure_time

-- a panel of another version and another strength under another moment, which are not compared: nothing else of it changes
abbrev pub with_uncompared : Panel → ℕ → ℕ → ℕ → Panel
with_uncompared p version strength moment = record p { version = version; strength = strength; moment = moment }
