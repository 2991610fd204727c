-- The reserve: a difference of two minutes within 32 bits, and what its sign means.
use Prim.Native.Nat.{ℕ, zero, suc, ◌+◌, ◌-◌, ◌≤◌, ◌<◌}
use mathlib.Core.Path.{◌≡◌, refl, sym, ap, ap₂, subst, ◌∙◌}
use mathlib.Core.Bool.{Bool, cond}
use mathlib.Core.Logic.{◌↔◌}
use native.Mathlib.Omega.{arith}
use native.Mathlib.Decide.{dec_le}
use native.Mathlib.Nat.{lt_of_not-le}
use borrow.Author.Tests.{lt-ltb, le-ltb}
use lib.Dec.{le→leb}
use lib.IntN.{ℤ, pos, negsuc, sub_ℕ, ◌-ℤ◌}
use lib.Signed.{◌≤ℤ◌, le_z_yes}
use mir.Syntax.{w32}
use mir.Val.{SFits, to_z}
use mir.Facts.{to_z_pos}
use Rattle.panel.specs.declared.Panel.{Panel}
use Rattle.refusals.specs.Refusals.{panel_refusal}
use Rattle.load.specs.Failure.{EveryFirePasses, PassesUpTo}
use Rattle.load.specs.LoadMinute.{printed_load}
use Rattle.load.specs.Answers.{reserve_of}
use Rattle.load.proofs.WholeParts.{whole_exactly}
use Rattle.load.proofs.EveryFire.{printed_close}

difference : (a b : ℕ) → pos a -ℤ pos b ≡ sub_ℕ a b
difference a zero = ap pos (let e : a + 0 ≡ a - 0 = omega arith in e)
    ∙ ap (λ (t : Bool). cond t (negsuc (0 - suc a)) (pos (a - 0))) (sym (le-ltb a 0 (omega arith)))
difference a (suc b) = refl

-- where the panel lasts as long as wanted, the reserve is the minutes left over
pub reserve_over : (load wanted : ℕ) → wanted ≤ load → reserve_of wanted load ≡ pos (load - wanted)
reserve_over load wanted h =
    difference load wanted ∙ ap (λ (t : Bool). cond t (negsuc (wanted - suc load)) (pos (load - wanted))) (le-ltb load wanted h)

-- where it falls short, minus the minutes that are missing
pub reserve_short : (load wanted : ℕ) → load < wanted → reserve_of wanted load ≡ negsuc (wanted - suc load)
reserve_short load wanted h =
    difference load wanted ∙ ap (λ (t : Bool). cond t (negsuc (wanted - suc load)) (pos (load - wanted))) (lt-ltb load wanted h)

-- either way, a claim about the reserve
by_cases : (P : ℤ → Type 0) (load wanted : ℕ) → (wanted ≤ load → P (pos (load - wanted)))
    → (load < wanted → P (negsuc (wanted - suc load))) → P (reserve_of wanted load)
by_cases P load wanted over short = go (dec_le wanted load)
  where
    go : Dec (wanted ≤ load) → P (reserve_of wanted load)
    go (yes h) = subst P (sym (reserve_over load wanted h)) (over h)
    go (no h) = subst P (sym (reserve_short load wanted (lt_of_not-le h))) (short (lt_of_not-le h))

-- "An i32 reserve from -360 to 360"
pub reserve_within : (load wanted : ℕ) → load ≤ 360 → wanted ≤ 360 → (negsuc 359 ≤ℤ reserve_of wanted load) × (reserve_of wanted load ≤ℤ pos 360)
reserve_within load wanted h k =
    by_cases (λ z. (negsuc 359 ≤ℤ z) × (z ≤ℤ pos 360)) load wanted (λ l. (le_z_yes tt, le_z_yes (le→leb (load - wanted) 360 (omega arith))))
    (λ l. (le_z_yes (le→leb (wanted - suc load) 359 (omega arith)), le_z_yes tt))

-- it is 0 or more exactly when the load minute is not below the wanted one
pub reserve_sign : (load wanted : ℕ) → (pos 0 ≤ℤ reserve_of wanted load) ↔ (wanted ≤ load)
reserve_sign load wanted =
    by_cases (λ z. (pos 0 ≤ℤ z) ↔ (wanted ≤ load)) load wanted (λ l. (λ z. l, λ z. le_z_yes (le→leb 0 (load - wanted) (omega arith))))
    (λ l. (λ z. absurd z.le, λ k. absurd (let e : ⊥ = omega arith in e)))

-- and so, of an accepted panel, exactly when it passes through the wanted minute in every fire
pub reserve_meaning : (p : Panel) (wanted : ℕ) → panel_refusal p ≡ 0 → wanted ≤ 360
    → (pos 0 ≤ℤ reserve_of wanted (printed_load p)) ↔ PassesUpTo (EveryFirePasses p) wanted 1
reserve_meaning p wanted e k =
    let sign = reserve_sign (printed_load p) wanted in
    let exactly = whole_exactly (EveryFirePasses p) 1 (printed_load p) (printed_close p e).whole wanted k in
    (λ z. exactly.0 (sign.0 z), λ all. sign.1 (exactly.1 all))

-- Bits

pub reserve_fits : (load wanted : ℕ) → load ≤ 360 → wanted ≤ 360 → SFits w32 (reserve_of wanted load)
reserve_fits load wanted h k = by_cases (SFits w32) load wanted (λ l. record { sfits = omega arith }) (λ l. record { sfits = omega arith })

-- the difference of two minutes as the machine takes it
pub bits_difference : (load wanted : ℕ) → load ≤ 360 → wanted ≤ 360 → to_z w32 load -ℤ to_z w32 wanted ≡ reserve_of wanted load
bits_difference load wanted h k =
    ap₂ (λ (a b : ℤ). a -ℤ b) (to_z_pos w32 {n = load} (omega arith)) (to_z_pos w32 {n = wanted} (omega arith))
