-- How many bytes the parts of a record take, and one lamella's bytes more.
use Prim.Native.Nat.{ℕ, ◌+◌, ◌*◌, ◌≤◌}
use mathlib.Core.Path.{◌≡◌, refl, ap, ◌∙◌}
use mathlib.Core.Bool.{Bool, true, false}
use mathlib.Core.List.{List, [], ◌∷◌, ◌++◌, append_assoc}
use borrow.Author.Tests.{eq-eqb, ne_eqb}
use native.Mathlib.Omega.{arith}
use native.Mathlib.Nat.{zero-add}
use lib.Dec.{eqb}
use lib.ListN.{length, drop, length-append}
use lib.Seq.{sets, sets-eq}
use Rattle.numbers.specs.Bytes.{bytes, join, span}
use Rattle.numbers.proofs.Digits.{Filled, length_join}
use Rattle.numbers.proofs.FirstValues.{length_firsts}
use Rattle.numbers.proofs.Lists.{then_put}
use Rattle.panel.specs.declared.Board.{Board}
use Rattle.panel.specs.declared.Panel.{Panel}
use Rattle.panel.specs.Lamellae.{Lamella, lamellae}
use Rattle.panel.proofs.Used.{length_lamellae_of}
use Rattle.panel.specs.Boards.{boards_of}
use Rattle.record.specs.Layouts.{only_if, front_widths, head_widths, lamella_widths, front_length, head_length, board_length, lamella_length, count_place, record_length, front_numbers, head_numbers, lamella_numbers, lamella_at, lamellae_in, board_bytes, lamella_bytes, tail_bytes, encode}

-- the front is 3 or 4 bytes long
pub front_within : (version : ℕ) → (3 ≤ front_length version) × (front_length version ≤ 4)
front_within version = go (eqb version 2)
  where
    go : (t : Bool) → (3 ≤ span (2 ∷ 1 ∷ only_if t (1 ∷ []))) × (span (2 ∷ 1 ∷ only_if t (1 ∷ [])) ≤ 4)
    go true = (omega arith, omega arith)
    go false = (omega arith, omega arith)

pub front_length_two : (version : ℕ) → version ≡ 2 → front_length version ≡ 4
front_length_two version e = rw (eq-eqb version 2 e) refl

-- and has a number for each width
pub front_filled : (p : Panel) → Filled (front_widths p.version) (front_numbers p)
front_filled p = go (eqb p.version 2)
  where
    go : (t : Bool) → Filled (only_if t (1 ∷ [])) (only_if t (p.face ∷ []))
    go true = tt
    go false = tt

-- its bytes, in version 2 and in any other
pub front_two : (p : Panel) → p.version ≡ 2
    → join (front_widths p.version) (front_numbers p) ≡ bytes 2 (record_length p) ++ bytes 1 p.version ++ bytes 1 p.face
front_two p e = rw (eq-eqb p.version 2 e) refl

pub front_one : (p : Panel) → (p.version ≡ 2 → ⊥)
    → join (front_widths p.version) (front_numbers p) ≡ bytes 2 (record_length p) ++ bytes 1 p.version
front_one p ne = rw (ne_eqb p.version 2 ne) refl

pub length_front : (p : Panel) → length (join (front_widths p.version) (front_numbers p)) ≡ front_length p.version
length_front p = length_join (front_widths p.version) (front_numbers p) (front_filled p)

pub length_lamellae_in : (u : List ℕ) (n : ℕ) → length (lamellae_in u n) ≡ n
unfolding lamellae_in
length_lamellae_in u n = length_firsts (lamella_at u) n

pub length_lamella_bytes : (ls : List Lamella) → length (lamella_bytes ls) ≡ lamella_length * length ls
unfolding lamella_bytes
length_lamella_bytes [] = refl
length_lamella_bytes (l ∷ ls) = omega (arith, length_lamella_bytes ls)

pub length_board_bytes : (bs : List Board) → length (board_bytes bs) ≡ board_length * length bs
unfolding board_bytes
length_board_bytes [] = refl
length_board_bytes (b ∷ bs) = omega (arith, length_board_bytes bs)

pub lamella_bytes_more :
    (ls : List Lamella) (l : Lamella)
    → lamella_bytes (ls ++ (l ∷ [])) ≡ lamella_bytes ls ++ join lamella_widths (lamella_numbers l)
unfolding lamella_bytes
lamella_bytes_more [] l = refl
lamella_bytes_more (x ∷ ls) l =
    ap (λ (r : List ℕ). join lamella_widths (lamella_numbers x) ++ r) (lamella_bytes_more ls l)

pub length_encode : (p : Panel) → length (encode p) ≡ record_length p
unfolding encode
length_encode p =
    simp length-append
    (omega (
      arith,
      length_front p,
      length_board_bytes (boards_of p.cladding),
      length_lamella_bytes (lamellae p),
      length_lamellae_of p.directions p.thicknesses p.count,
    ))

-- a record stored at the start of a space: the record, and the old bytes after it
pub stored_record : (p : Panel) (space : List ℕ) → record_length p ≤ length space → sets space 0 (encode p) ≡ encode p ++ drop (record_length p) space
stored_record p space h =
    sets-eq (encode p) space 0 (omega (arith, length_encode p))
    ∙ ap (λ (k : ℕ). encode p ++ drop k space) (zero-add (length (encode p)) ∙ length_encode p)

-- the parts of a record stored one after the other are the record
pub parts_stored :
    (p : Panel) (l l₁ l₂ l₃ l₄ : List ℕ) (until at : ℕ) → until ≡ front_length p.version → at ≡ count_place p.version (length (boards_of p.cladding))
    → l₁ ≡ sets l 0 (join (front_widths p.version) (front_numbers p))
    → l₂ ≡ sets l₁ until (join head_widths (head_numbers p))
    → l₃ ≡ sets l₂ (until + head_length) (board_bytes (boards_of p.cladding))
    → l₄ ≡ sets l₃ at (tail_bytes p)
    → l₄ ≡ sets l 0 (encode p)
unfolding encode
parts_stored p l l₁ l₂ l₃ l₄ until at f e e₁ e₂ e₃ e₄ =
    let front : List ℕ = join (front_widths p.version) (front_numbers p) in
    let head : List ℕ = join head_widths (head_numbers p) in
    let bs : List ℕ = board_bytes (boards_of p.cladding) in
    let after_front : until ≡ 0 + length front = omega (arith, length_front p) in
    let after-head : until + head_length ≡ 0 + length (front ++ head) = simp length-append (omega (arith, length_front p)) in
    let after-boards : at ≡ 0 + length (front ++ head ++ bs) =
    simp length-append (omega (arith, length_front p, length_board_bytes (boards_of p.cladding))) in
    then_put l l₃ l₄ 0 (front ++ head ++ bs) at (tail_bytes p)
    (then_put l l₂ l₃ 0 (front ++ head) (until + head_length) bs (then_put l l₁ l₂ 0 front until head e₁ after_front e₂) after-head e₃)
    after-boards e₄
    ∙ ap (sets l 0) (append_assoc (front ++ head) bs (tail_bytes p) ∙ append_assoc front head (bs ++ tail_bytes p))
