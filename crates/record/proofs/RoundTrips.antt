-- Demand 2: "Records are read and written by the layout, and each gives back the other, a panel's unused places as 0."
-- Both theorems are about the definitions, which `read` and `write` are proved equal to.
use Prim.Native.Nat.{ℕ, ◌≤◌}
use mathlib.Core.Path.{◌≡◌, sym, ap, ap₂, ◌∙◌}
use mathlib.Core.List.{List, [], ◌∷◌, ◌++◌}
use native.Mathlib.Omega.{arith}
use lib.ListN.{length, take, drop}
use Rattle.std.specs.Prelude.{Ok, Err}
use lib.Seq.{take_at}
use Rattle.numbers.specs.Bytes.{AreBytes}
use Rattle.panel.specs.declared.Panel.{Panel}
use Rattle.panel.specs.Lamellae.{cleared}
use Rattle.refusals.specs.Refusals.{panel_refusal}
use Rattle.refusals.proofs.FirstLine.{answered, accepted_with}
use Rattle.limits.proofs.Accepted.{accepted_fits}
use Rattle.record.specs.Taken.{g_bytes, taken_for}
use Rattle.record.specs.Layouts.{record_length, panel_in, panel_of, encode}
use Rattle.record.specs.Refusals.{record_refusal, write_refusal}
use Rattle.record.specs.Answers.{decode, write_answer, space_after, WrittenAs}
use Rattle.record.proofs.Lengths.{front_within, length_encode}
use Rattle.record.proofs.Writes.{write_taken, write_accepted}
use Rattle.record.proofs.Records.{record_panel}
use Rattle.record.proofs.Sound.{accepted_sound}
use Rattle.record.proofs.DecodeEncoded.{panel_there}
use Rattle.record.proofs.Accepting.{zero_else, taken_encode, encode_accepted}
use Rattle.record.proofs.EncodeDecoded.{encode_back}
use Rattle.record.proofs.Worked.{g_written, none_panel, none_accepted}

-- a panel's record is read as the panel with its unused places 0
pub decode_encode : (p : Panel) → panel_refusal p ≡ 0 → decode (encode p) ≡ Ok (cleared p)
unfolding decode panel_of
decode_encode p e =
    sym (answered (record_refusal (encode p)) Err (Ok (panel_of (encode p))) (encode_accepted p e))
    ∙ ap (λ (b : List ℕ). Ok (panel_in b)) (sym (taken_encode p))
    ∙ ap Ok (panel_there p (accepted_fits p e).count (zero_else p e))

-- Reading what was written gives the panel with its unused places 0: for every panel and space that the writer takes, reading
-- the bytes that it says it wrote.
pub read_written :
    (p : Panel) (space : List ℕ) → write_refusal p space ≡ 0
    → decode (take (record_length p) (space_after p space)) ≡ Ok (cleared p)
unfolding space_after
read_written p space e =
    ap (λ (l : List ℕ). decode (take (record_length p) l))
    (sym (answered (write_refusal p space) (λ (n : ℕ). space) (encode p ++ drop (record_length p) space) e))
    ∙ ap decode (take_at (encode p) (drop (record_length p) space) (record_length p) (length_encode p))
    ∙ decode_encode p (write_taken p space e)

-- an accepted panel is written as its record
written : (p : Panel) (b space : List ℕ) → panel_refusal p ≡ 0 → encode p ≡ b → length b ≤ length space → WrittenAs p b space
unfolding write_answer space_after
written p b space e back room =
    let len : record_length p ≡ length b = sym (length_encode p) ∙ ap length back in
    let z : write_refusal p space ≡ 0 = write_accepted p space e (omega arith) in
    record {
      answer = sym (answered (write_refusal p space) Err (Ok (record_length p)) z) ∙ ap Ok len;
      left =
          sym (answered (write_refusal p space) (λ (n : ℕ). space) (encode p ++ drop (record_length p) space) z)
          ∙ ap₂ (λ (l : List ℕ) (n : ℕ). l ++ drop n space) back len;
    }

-- Writing what was read gives the bytes: "the way back from bytes is promised for records of at least one byte"
pub written_read :
    (b space : List ℕ) → AreBytes b → record_refusal b ≡ 0 → 1 ≤ length b → length b ≤ length space → WrittenAs (panel_of b) b space
unfolding record_refusal panel_of taken_for
written_read [] space h e some room = absurd (let z : ⊥ = omega arith in z)
written_read (x ∷ xs) space h e some room =
    let b : List ℕ = x ∷ xs in
    written (panel_of b) b space (record_panel b e) (encode_back b h (accepted_sound b e)) room

-- "Writing the panel so obtained gives its full version 1 record"
pub none_written : (space : List ℕ) → 27 ≤ length space → WrittenAs (panel_of []) g_bytes space
unfolding g_bytes
none_written space room = written (panel_of []) g_bytes space (record_panel [] none_accepted) (ap encode none_panel ∙ g_written) room

-- "and never the empty one": no panel at all is written as no byte, into whatever space
pub never_empty : (p : Panel) (space : List ℕ) → WrittenAs p [] space → ⊥
unfolding write_answer
never_empty p space h = let z : ⊥ = omega (arith, (front_within p.version).0, (accepted_with (sym h.answer)).1) in z

-- so that of records of no byte too the way back could not be promised
pub not_of_none : ((b space : List ℕ) → AreBytes b → record_refusal b ≡ 0 → length b ≤ length space → WrittenAs (panel_of b) b space) → ⊥
not_of_none promised = never_empty (panel_of []) [] (promised [] [] (λ i. omega arith) none_accepted (omega arith))
