-- The record of an accepted panel is accepted.
use Rattle.std.proofs.lemmas.Bool.{or_from}
use Prim.Native.Nat.{ℕ, ◌≤◌}
use mathlib.Core.List.{List}
use mathlib.Core.Path.{◌≡◌, sym, ap, ap₂, ◌∙◌}
use mathlib.Core.Bool.{false, not}
use native.Mathlib.Omega.{arith}
use borrow.Author.Tests.{le-ltb, eq-eqb, eqb-false}
use lib.ListN.{length, get_or}
use lib.Dec.{ltb, eqb}
use Rattle.numbers.specs.Choice.{outside}
use Rattle.panel.specs.declared.Cladding.{Cladding}
use Rattle.panel.specs.declared.Cladding.TheVariants.{Unclad, One, Two}
use Rattle.panel.specs.declared.Panel.{Panel}
use Rattle.panel.specs.Lamellae.{cleared}
use Rattle.panel.proofs.Used.{cleared_same}
use Rattle.refusals.specs.Lines.{refusal}
use Rattle.refusals.specs.declared.ByteFaults.{ByteFaults}
use Rattle.refusals.specs.Refusals.{no_bytes, table_lines, panel_refusal}
use Rattle.numbers.proofs.Booleans.{in_range}
use Rattle.refusals.proofs.PanelTable.{accepted_cause}
use Rattle.limits.proofs.Accepted.{accepted_keeps}
use Rattle.refusals.proofs.Unused.{refusal_unused}
use Rattle.panel.specs.Boards.{boards_of}
use Rattle.record.specs.Layouts.{length_with, shortest, longest, version_of, front_of, count_of_boards, count_of_lamellae, encode}
use Rattle.record.specs.Refusals.{bad_length, bad_board_count, bad_whole, byte_faults, lines_in, record_refusal}
use Rattle.record.specs.Taken.{taken_for}
use Rattle.record.proofs.TakenBytes.{taken_some}
use Rattle.record.proofs.Lengths.{front_within, length_encode}
use Rattle.record.proofs.DecodeEncoded.{version_there, front_there, board_count_there, count_there, panel_there}

at_most_two : (c : Cladding) → length (boards_of c) ≤ 2
at_most_two Unclad = omega arith
at_most_two (One b) = omega arith
at_most_two (Two outer inner) = omega arith

-- Lines about the bytes, for the record of a panel whose count is within limits

module _ (p : Panel) (least : 1 ≤ p.count) (most : p.count ≤ 9) where
  line_one : bad_length (encode p) ≡ false
  line_one =
      let n : ℕ = length (encode p) in
      let said : ℕ = get_or (front_of (encode p)) 0 0 in
      let boards = at_most_two p.cladding in
      let front = front_within p.version in
      let low : shortest ≤ n = omega (arith, length_encode p) in
      let high : n ≤ longest = omega (arith, length_encode p) in
      or_from (outside shortest longest n) (not (eqb said n))
      (or_from (ltb n shortest) (ltb longest n) (le-ltb n shortest low) (le-ltb longest n high))
      (ap not (eq-eqb said n (ap (λ (vs : List ℕ). get_or vs 0 0) (front_there p) ∙ sym (length_encode p))))

  line_six : bad_board_count (encode p) ≡ false
  line_six =
      let c : ℕ = count_of_boards (encode p) in
      let boards : c ≤ 2 = rw (board_count_there p) (at_most_two p.cladding) in
      let same : length_with (version_of (encode p)) c 1 ≡ length_with p.version (length (boards_of p.cladding)) 1 =
      λ i. length_with (version_there p i) (board_count_there p i) 1 in
      or_from (ltb 2 c) (ltb (length (encode p)) (length_with (version_of (encode p)) c 1)) (le-ltb 2 c boards)
      (le-ltb (length (encode p)) (length_with (version_of (encode p)) c 1) (omega (arith, same, length_encode p)))

  line_ten : bad_whole (encode p) ≡ false
  line_ten =
      let n : ℕ = length_with (version_of (encode p)) (count_of_boards (encode p)) (count_of_lamellae (encode p)) in
      ap not
      (eq-eqb (length (encode p)) n
      (length_encode p ∙ sym (λ i. length_with (version_there p i) (board_count_there p i) (count_there p i))))

  -- so its bytes have no fault
  faultless : byte_faults (encode p) ≡ no_bytes
  faultless = λ i. record { length = line_one i; board_count = line_six i; lamella_count = line_ten i }

-- an accepted panel's version is 2, or its face is 0
pub zero_else : (p : Panel) → panel_refusal p ≡ 0 → eqb p.version 2 ≡ false → p.face ≡ 0
zero_else p e other =
    let k = accepted_keeps p e in
    let ne = eqb-false p.version 2 other in
    k.first_face (omega (arith, k.version_least, k.version_most))

-- the bytes of its record are taken for themselves
pub taken_encode : (p : Panel) → encode p ≡ taken_for (encode p)
taken_encode p = taken_some (encode p) (λ z. absurd (let w : ⊥ = omega (arith, length_encode p, (front_within p.version).0, z) in w))

pub encode_accepted : (p : Panel) → panel_refusal p ≡ 0 → record_refusal (encode p) ≡ 0
unfolding record_refusal panel_refusal
encode_accepted p e =
    let count = in_range 1 9 p.count (accepted_cause p e 10) in
    sym (ap (λ (b : List ℕ). refusal (lines_in b)) (taken_encode p))
    ∙ ap₂ (λ (f : ByteFaults) (q : Panel). refusal (table_lines f q)) (faultless p count.0 count.1) (panel_there p count.1 (zero_else p e))
    ∙ refusal_unused (cleared p) p (cleared_same p)
    ∙ e
