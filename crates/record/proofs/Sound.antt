-- What bytes say that meet no line, as they are.
use Rattle.std.proofs.lemmas.Bool.{or_parts}
use Prim.Native.Nat.{ℕ, zero, suc, ◌≤◌, min}
use mathlib.Core.Path.{◌≡◌, refl, sym, ap, ◌∙◌}
use mathlib.Core.List.{List, [], ◌∷◌}
use mathlib.Core.Bool.{Bool, true, false, not}
use native.Mathlib.Omega.{arith}
use borrow.Author.Tests.{ltb-false, eqb-true, not-false}
use lib.ListN.{length, get_or}
use lib.Dec.{ltb, eqb}
use Rattle.numbers.specs.Choice.{outside}
use Rattle.numbers.specs.Bytes.{fields}
use Rattle.panel.specs.Lamellae.{lamellae, lamellae_of, directions_of, thicknesses_of}
use Rattle.panel.proofs.Used.{lamellae_with}
use Rattle.refusals.specs.Lines.{refusal}
use Rattle.refusals.specs.Causes.{bad_count}
use Rattle.refusals.proofs.FirstLine.{cause_none}
use Rattle.numbers.proofs.Booleans.{in_range}
use Rattle.panel.specs.Boards.{boards_of}
use Rattle.record.specs.Layouts.{
  only_if,
  length_with,
  shortest,
  longest,
  version_of,
  front_of,
  body,
  count_of_boards,
  count_of_lamellae,
  lamella_part,
  cladding_at,
  lamellae_in,
  panel_in,
  record_length,
  front_numbers,
}
use Rattle.record.specs.Refusals.{bad_whole, lines_in}
use Rattle.record.proofs.Lengths.{length_lamellae_in}

-- of bytes that meet no line
pub record Sound (b : List ℕ) : Type 0 where
  pub within : (shortest ≤ length b) × (length b ≤ longest)
  pub front : front_numbers (panel_in b) ≡ front_of b
  pub boards : count_of_boards b ≤ 2
  pub count : count_of_lamellae b ≤ 9
  pub whole : length b ≡ length_with (version_of b) (count_of_boards b) (count_of_lamellae b)

-- the panel of a record with at most two boards has as many boards as the record says
pub boards_counted : (c : ℕ) (t : List ℕ) → c ≤ 2 → length (boards_of (cladding_at c t)) ≡ c
boards_counted zero t h = refl
boards_counted (suc zero) t h = refl
boards_counted (suc (suc zero)) t h = refl
boards_counted (suc (suc (suc c))) t h = absurd (let z : ⊥ = omega arith in z)

-- the face that is written is the one that was read, in version 2 alone
face_told : (t : Bool) (b : List ℕ) (x y : ℕ) → only_if t (get_or (x ∷ y ∷ fields (only_if t (1 ∷ [])) b 3) 2 0 ∷ []) ≡ fields (only_if t (1 ∷ [])) b 3
face_told true b x y = refl
face_told false b x y = refl

pub accepted_sound : (b : List ℕ) → refusal (lines_in b) ≡ 0 → Sound b
unfolding panel_in
accepted_sound b e =
    let none = cause_none (lines_in b) tt e in
    let said : ℕ = get_or (front_of b) 0 0 in
    let version = version_of b in
    let whole : ℕ = length_with version (count_of_boards b) (count_of_lamellae b) in
    let one = or_parts (outside shortest longest (length b)) (not (eqb said (length b))) (none 1) in
    let six = or_parts (ltb 2 (count_of_boards b)) (ltb (length b) (length_with version (count_of_boards b) 1)) (none 6) in
    let ten = or_parts (bad_whole b) (bad_count (count_of_lamellae b)) (none 10) in
    let same : length b ≡ whole = eqb-true (length b) whole (not-false (eqb (length b) whole) ten.0) in
    let boards : count_of_boards b ≤ 2 = ltb-false 2 (count_of_boards b) six.0 in
    let length-said : record_length (panel_in b) ≡ said =
    ap (λ (c : ℕ). length_with version c (count_of_lamellae b)) (boards_counted (count_of_boards b) (body b) boards)
    ∙ sym same
    ∙ sym (eqb-true said (length b) (not-false (eqb said (length b)) one.1))
    in
    record {
      within = in_range shortest longest (length b) one.0;
      front = λ i. length-said i ∷ version ∷ face_told (eqb version 2) b said version i;
      boards = boards;
      count = (in_range 1 9 (count_of_lamellae b) ten.1).1;
      whole = same;
    }

-- the lamellae of the panel are those of the lamella bytes
pub lamellae_read : (b : List ℕ) → count_of_lamellae b ≤ 9 → lamellae (panel_in b) ≡ lamellae_in (lamella_part b) (count_of_lamellae b)
unfolding panel_in
lamellae_read b h =
    let n = count_of_lamellae b in
    let u = lamella_part b in
    let least : min n 9 ≡ n = omega arith in
    ap (λ (k : ℕ). lamellae_of (directions_of (lamellae_in u k)) (thicknesses_of (lamellae_in u k)) n) least
    ∙ ap (lamellae_of (directions_of (lamellae_in u n)) (thicknesses_of (lamellae_in u n))) (sym (length_lamellae_in u n))
    ∙ lamellae_with (panel_in b) (lamellae_in u n)
