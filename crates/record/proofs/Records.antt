-- What the lines about a record say: of what its bytes are taken for, and of the bytes given.
use Prim.Native.Nat.{ℕ, ◌≤◌, ◌<◌}
use mathlib.Core.Path.{◌≡◌, refl}
use mathlib.Core.List.{List, [], ◌∷◌}
use mathlib.Core.Logic.{◌↔◌, ◌⊎◌, inl, inr}
use native.Mathlib.Omega.{arith}
use borrow.Author.Tests.{lt-ltb, le-ltb}
use lib.ListN.{length}
use Rattle.refusals.specs.Lines.{NoneFits, First}
use Rattle.refusals.specs.Refusals.{panel_refusal}
use Rattle.refusals.proofs.FirstLine.{accepted_iff, refusal_first}
use Rattle.refusals.proofs.PanelTable.{table_accepted}
use Rattle.record.specs.Taken.{taken_for}
use Rattle.record.specs.Layouts.{shortest, longest, panel_of}
use Rattle.record.specs.Refusals.{byte_faults, record_lines, record_refusal}
use Rattle.record.proofs.Sound.{accepted_sound}

-- a record is accepted exactly when no line about it fits, and a refusal is the first line that does
pub record_accepted_iff : (b : List ℕ) → (record_refusal b ≡ 0) ↔ NoneFits (record_lines b)
unfolding record_refusal
record_accepted_iff b = accepted_iff (record_lines b) tt

pub record_first : (b : List ℕ) → (record_refusal b ≡ 0 → ⊥) → First (record_lines b) (record_refusal b)
unfolding record_refusal
record_first b ne = refusal_first (record_lines b) ne

-- the panel of an accepted record is accepted
pub record_panel : (b : List ℕ) → record_refusal b ≡ 0 → panel_refusal (panel_of b) ≡ 0
unfolding record_refusal panel_of
record_panel b e = table_accepted (byte_faults (taken_for b)) (panel_of b) e

-- Lengths

-- an accepted record is empty, or has 21 to 54 bytes
pub accepted_length : (b : List ℕ) → record_refusal b ≡ 0 → (b ≡ []) ⊎ ((21 ≤ length b) × (length b ≤ 54))
unfolding record_refusal taken_for
accepted_length [] e = inl refl
accepted_length (x ∷ xs) e = inr (accepted_sound (x ∷ xs) e).within

-- "One to 20 bytes still meet refusal 1"
pub too_short : (b : List ℕ) → 1 ≤ length b → length b ≤ 20 → record_refusal b ≡ 1
unfolding record_refusal taken_for
too_short [] some h = absurd (let z : ⊥ = omega arith in z)
too_short (x ∷ xs) some h = rw (lt-ltb (length (x ∷ xs)) shortest (omega arith)) refl

-- an input longer than any record meets line 1, whatever it says of its length
pub too_long : (b : List ℕ) → longest < length b → record_refusal b ≡ 1
unfolding record_refusal taken_for
too_long [] h = absurd (let z : ⊥ = omega arith in z)
too_long (x ∷ xs) h = rw (le-ltb (length (x ∷ xs)) shortest (omega arith), lt-ltb longest (length (x ∷ xs)) h) refl
