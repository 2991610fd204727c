-- Reading what was written gives the panel with its unused places 0: for every panel that the writer takes.
use Prim.Native.Nat.{ℕ, zero, suc, ◌+◌, ◌*◌, ◌<◌, ◌≤◌, min}
use mathlib.Core.Path.{◌≡◌, refl, sym, ap, ap₂, ◌∙◌}
use mathlib.Core.List.{List, [], ◌∷◌, ◌++◌, append_assoc}
use mathlib.Core.Bool.{Bool, true, false}
use native.Mathlib.Omega.{arith}
use lib.Dec.{eqb}
use lib.ListN.{length, get_or, drop, length-append}
use lib.Seq.{drop_at}
use Rattle.numbers.specs.Bytes.{fields, join}
use Rattle.numbers.proofs.Digits.{fields_after, length_join, fields_join}
use Rattle.numbers.proofs.FirstValues.{firsts_get_or}
use Rattle.panel.specs.declared.Board.{Board}
use Rattle.panel.specs.declared.Cladding.{Cladding}
use Rattle.panel.specs.declared.Cladding.TheVariants.{Unclad, One, Two}
use Rattle.panel.specs.declared.Panel.{Panel}
use Rattle.panel.specs.Lamellae.{Lamella, lamella, lamellae, cleared}
use Rattle.panel.proofs.Used.{count_cleared}
use Rattle.panel.specs.Boards.{boards_of}
use Rattle.record.specs.Layouts.{
  only_if,
  front_widths,
  head_widths,
  board_widths,
  count_widths,
  lamella_widths,
  front_length,
  head_length,
  board_length,
  lamella_length,
  count_place,
  lamella_place,
  version_of,
  front_of,
  body,
  head_of,
  count_of_boards,
  count_of_lamellae,
  lamella_part,
  board_from,
  board_at,
  cladding_at,
  lamella_from,
  lamella_at,
  lamellae_in,
  record_lamellae,
  arrays_of,
  panel_from,
  panel_in,
  record_length,
  front_numbers,
  head_numbers,
  board_numbers,
  lamella_numbers,
  board_bytes,
  lamella_bytes,
  tail_bytes,
  encode,
}
use Rattle.record.proofs.Lengths.{front_filled, length_front, length_board_bytes}

-- Parts

-- lamella i of the bytes of lamellae is lamella i
lamella_there : (ls : List Lamella) (i : ℕ) (d : Lamella) → i < length ls → lamella_at (lamella_bytes ls) i ≡ get_or ls i d
unfolding lamella_bytes
lamella_there [] i d h = absurd (let z : ⊥ = omega arith in z)
lamella_there (l ∷ ls) zero d h = ap lamella_from (fields_join lamella_widths (lamella_numbers l) (lamella_bytes ls) tt)
lamella_there (l ∷ ls) (suc i) d h =
    let x : List ℕ = join lamella_widths (lamella_numbers l) in
    let e : lamella_length * suc i ≡ length x + lamella_length * i = omega arith in
    ap (λ (k : ℕ). lamella_from (fields lamella_widths (x ++ lamella_bytes ls) k)) e
    ∙ ap lamella_from (fields_after lamella_widths x (lamella_bytes ls) (lamella_length * i))
    ∙ lamella_there ls i d (omega arith)

lamellae_there : (ls : List Lamella) → lamellae_in (lamella_bytes ls) (length ls) ≡ ls
unfolding lamellae_in
lamellae_there ls = firsts_get_or (lamella_at (lamella_bytes ls)) ls (lamella 0 0) (λ i h. lamella_there ls i (lamella 0 0) h)

-- a board is read where it was written, whatever stands before and after it
board_there :
    (before : List ℕ) (b : Board) (after : List ℕ) (i : ℕ) → length before ≡ head_length + board_length * i
    → board_at (before ++ (join board_widths (board_numbers b) ++ after)) i ≡ b
board_there before b after i e =
    let bytes : List ℕ = join board_widths (board_numbers b) ++ after in
    let at : head_length + board_length * i ≡ length before + 0 = omega arith in
    ap board_from
    (ap (fields board_widths (before ++ bytes)) at ∙ fields_after board_widths before bytes 0 ∙ fields_join board_widths (board_numbers b) after tt)

cladding_there :
    (c : Cladding) (head after : List ℕ) → length head ≡ head_length
    → cladding_at (length (boards_of c)) (head ++ (board_bytes (boards_of c) ++ after)) ≡ c
unfolding board_bytes
cladding_there Unclad head after e = refl
cladding_there (One b) head after e = ap One (board_there head b after 0 e)
cladding_there (Two outer inner) head after e =
    let x : List ℕ = join board_widths (board_numbers outer) in
    let y : List ℕ = join board_widths (board_numbers inner) ++ after in
    ap₂ Two (board_there head outer y 0 e)
    (ap (λ (t : List ℕ). board_at t 1) (sym (append_assoc head x y))
    ∙ board_there (head ++ x) inner after 1 (length-append head x ∙ ap (λ (k : ℕ). k + board_length) e))

-- The record of a panel

module _ (p : Panel) where
  abbrev front : List ℕ
  front = join (front_widths p.version) (front_numbers p)

  abbrev head : List ℕ
  head = join head_widths (head_numbers p)

  abbrev boards : List ℕ
  boards = board_bytes (boards_of p.cladding)

  -- what stands before the number of lamellae
  abbrev before : List ℕ
  before = front ++ (head ++ boards)

  length_before : length before ≡ count_place p.version (length (boards_of p.cladding))
  length_before = simp length-append (omega (arith, length_front p, length_board_bytes (boards_of p.cladding)))

  encode_before : encode p ≡ before ++ tail_bytes p
  unfolding encode
  encode_before =
      sym (append_assoc front (head ++ boards) (tail_bytes p) ∙ ap (λ (xs : List ℕ). front ++ xs) (append_assoc head boards (tail_bytes p)))

  pub version_there : version_of (encode p) ≡ p.version
  unfolding encode
  version_there = refl

  pub front_there : front_of (encode p) ≡ front_numbers p
  unfolding encode
  front_there = fields_join (front_widths p.version) (front_numbers p) (head ++ (boards ++ tail_bytes p)) (front_filled p)

  body_there : body (encode p) ≡ head ++ (boards ++ tail_bytes p)
  unfolding encode
  body_there = drop_at front (head ++ (boards ++ tail_bytes p)) (front_length p.version) (length_front p)

  head_there : head_of (encode p) ≡ head_numbers p
  head_there =
      ap (λ (t : List ℕ). fields head_widths t 0) body_there ∙ fields_join head_widths (head_numbers p) (boards ++ tail_bytes p) tt

  pub board_count_there : count_of_boards (encode p) ≡ length (boards_of p.cladding)
  board_count_there = ap (λ (vs : List ℕ). get_or vs 5 0) head_there

  boards_there : cladding_at (count_of_boards (encode p)) (body (encode p)) ≡ p.cladding
  boards_there =
      ap₂ cladding_at board_count_there body_there
      ∙ cladding_there p.cladding head (tail_bytes p) (length_join head_widths (head_numbers p) tt)

  pub count_there : count_of_lamellae (encode p) ≡ p.count
  count_there =
      let at : count_place p.version (length (boards_of p.cladding)) ≡ length before + 0 = omega (arith, length_before) in
      (λ i. get_or (fields count_widths (encode_before i) (count_place (version_there i) (board_count_there i))) 0 0)
      ∙ ap (λ (vs : List ℕ). get_or vs 0 0)
      (ap (fields count_widths (before ++ tail_bytes p)) at
      ∙ fields_after count_widths before (tail_bytes p) 0
      ∙ fields_join count_widths (p.count ∷ []) (lamella_bytes (lamellae p)) tt)

  part_there : lamella_part (encode p) ≡ lamella_bytes (lamellae p)
  part_there =
      let count : List ℕ = join count_widths (p.count ∷ []) in
      let parts : encode p ≡ (before ++ count) ++ lamella_bytes (lamellae p) =
      encode_before ∙ sym (append_assoc before count (lamella_bytes (lamellae p))) in
      (λ i. drop (lamella_place (version_there i) (board_count_there i)) (parts i))
      ∙ drop_at (before ++ count) (lamella_bytes (lamellae p)) (lamella_place p.version (length (boards_of p.cladding)))
      (length-append before count ∙ omega (arith, length_before))

  record_lamellae_there : p.count ≤ 9 → record_lamellae (encode p) ≡ lamellae p
  record_lamellae_there h =
      let least : min p.count 9 ≡ p.count = omega arith in
      ap₂ lamellae_in part_there (ap (λ (n : ℕ). min n 9) count_there ∙ least ∙ sym (count_cleared p)) ∙ lamellae_there (lamellae p)

  -- the face, of which version 1 says nothing
  face_there : (t : Bool) → (t ≡ false → p.face ≡ 0) → get_or (record_length p ∷ p.version ∷ only_if t (p.face ∷ [])) 2 0 ≡ p.face
  face_there true zero_else = refl
  face_there false zero_else = sym (zero_else refl)

  pub panel_there : p.count ≤ 9 → (eqb p.version 2 ≡ false → p.face ≡ 0) → panel_in (encode p) ≡ cleared p
  unfolding panel_in
  panel_there h zero_else =
      (λ i.
      panel_from (front_there i) (head_there i) (boards_there i) ((count_there ∙ sym (count_cleared p)) i) (arrays_of (record_lamellae_there h i)))
      ∙ ap
      (λ (face : ℕ).
      panel_from (record_length p ∷ p.version ∷ face ∷ []) (head_numbers p) p.cladding (cleared p).count (arrays_of (lamellae p)))
      (face_there (eqb p.version 2) zero_else)
