-- On a panel's way the char deepens at the rate of its phase up to the run's end, the next line and the back face.
use Prim.Native.Nat.{ℕ, zero, suc, ◌+◌, ◌-◌, ◌*◌, ◌≤◌, ◌<◌}
use mathlib.Core.Path.{◌≡◌, sym, ◌∙◌}
use mathlib.Core.List.{Memᴰ}
use native.Mathlib.Omega.{arith}
use native.Mathlib.Decide.{dec_le, dec_lt}
use Rattle.panel.specs.declared.Panel.{Panel}
use Rattle.phases.specs.declared.Phase.TheVariants.{Fast, Settled}
use Rattle.charring.specs.Rates.{back_face, depth_at_failure, first_end, bond_lines}
use Rattle.charring.specs.Way.{way, charred}
use Rattle.phases.specs.Phases.{phase_on}
use Rattle.phases.proofs.PhaseCases.{fast_not_settled}
use Rattle.charring.proofs.WayRamps.{charred_ramp}
use Rattle.charring.proofs.WayLaws.{exact_first, exact_bond, way_chain}
use Rattle.charring.proofs.DepthParts.{reach, reached}
use Rattle.charring_stated.proofs.Runs.{fast_run_lem, settled_run}
use Rattle.charring_stated.proofs.PhaseOfDepth.{phase_of_depth, way_depth}
use Rattle.charring_stated.proofs.SameRun.{SameRun, same_run, still_fast, still_settled}

-- how deep the char is after as much as z on the way
abbrev pub depth_on : Panel → ℕ → ℕ → ℕ
depth_on p z q = 2 * q * depth_at_failure p + charred (way p) z q

on_depth : (p : Panel) (z q : ℕ) → phase_on (way p) z q ≡ phase_of_depth (way p) (depth_on p z q) q
on_depth p z q = way_depth (depth_at_failure p) (back_face p) (way p) z q (way_chain p)

-- settled from x on up to z
abbrev pub SettledUntil : Panel → ℕ → ℕ → ℕ → Type 0
SettledUntil p x q z = (w : ℕ) → x ≤ w → w < z → phase_on (way p) w q ≡ Settled

-- up to a depth d, from x on: no line lies between, nor the back face
module _
    (p : Panel) (x y q d : ℕ) (le : x ≤ y) (inside : d ≤ 2 * q * back_face p)
    (free : (l : ℕ) → Memᴰ l (bond_lines p) → depth_on p x q < 2 * q * l → d ≤ 2 * q * l) where
  same_on : (z : ℕ) → x ≤ z → depth_on p z q < d → SameRun (way p) (depth_on p x q) (depth_on p z q) q
  unfolding way
  same_on z h k =
      same_run (depth_at_failure p) (first_end p) (bond_lines p) (back_face p) (depth_on p x q) (depth_on p z q) q (exact_first p) (exact_bond p)
      (omega (arith, (charred_ramp (way p)).rises x z q h)) (omega arith)
      (λ l m i. let j : d ≤ 2 * q * l = free l m i in omega arith)

  pub fast_to : (e : ℕ) → phase_on (way p) x q ≡ Fast e → d ≡ depth_on p x q + 2 * (y - x) → d ≤ 2 * q * (10000 * e)
      → charred (way p) y q ≡ charred (way p) x q + 2 * (y - x)
  fast_to e f is end =
      fast_run_lem (way p) x y q le
      (λ z h k s.
      let before : depth_on p z q < d = omega (arith, (charred_ramp (way p)).slow x z (z - x) q (omega arith)) in
      fast_not_settled (phase_on (way p) z q) e
      (on_depth p z q
      ∙ still_fast (way p) (depth_on p x q) (depth_on p z q) q (same_on z h before) e (sym (on_depth p x q) ∙ f) (omega arith))
      s)

  module _ (f : phase_on (way p) x q ≡ Settled) (is : d ≡ depth_on p x q + 1 * (y - x)) where
    settled_at : (z : ℕ) → x ≤ z → z < y → z ≤ reach (way p) q → SettledUntil p x q z → phase_on (way p) z q ≡ Settled
    settled_at z h k short until =
        let at : charred (way p) z q ≡ charred (way p) x q + 1 * (z - x) = settled_run (way p) x z q h short until in
        let before : depth_on p z q < d = omega arith in
        on_depth p z q
        ∙ still_settled (way p) (depth_on p x q) (depth_on p z q) q (same_on z h before) (omega (arith, (charred_ramp (way p)).rises x z q h))
        (sym (on_depth p x q) ∙ f)

    settled_until : (z : ℕ) → z ≤ y → z ≤ reach (way p) q → SettledUntil p x q z
    settled_until zero h k w i j = absurd (let v : ⊥ = omega arith in v)
    settled_until (suc z) h k w i j = go (dec_lt w z) (settled_until z (omega arith) (omega arith))
      where
        go : Dec (w < z) → SettledUntil p x q z → phase_on (way p) w q ≡ Settled
        go (yes l) until = until w i l
        go (no l) until = let e : w ≡ z = omega arith in rw e (settled_at z (omega arith) (omega arith) (omega arith) until)

    pub settled_to : depth_on p x q < 2 * q * back_face p → charred (way p) y q ≡ charred (way p) x q + 1 * (y - x)
    settled_to short = go (dec_le y (reach (way p) q)) (dec_le x (reach (way p) q))
      where
        over : (z : ℕ) → reach (way p) q ≤ z → 2 * q * back_face p ≤ depth_on p z q
        over z h = reached (depth_at_failure p) (back_face p) (way p) z q (way_chain p) h

        go : Dec (y ≤ reach (way p) q) → Dec (x ≤ reach (way p) q) → charred (way p) y q ≡ charred (way p) x q + 1 * (y - x)
        go (yes h) _ = settled_run (way p) x y q le h (settled_until y (omega arith) h)
        go (no h) (no k) = absurd (let z : ⊥ = omega (arith, over x (omega arith)) in z)
        go (no h) (yes k) =
            let z : ℕ = reach (way p) q in
            let at : charred (way p) z q ≡ charred (way p) x q + 1 * (z - x) =
            settled_run (way p) x z q k (omega arith) (settled_until z (omega arith) (omega arith)) in
            absurd (let v : ⊥ = omega (arith, over z (omega arith)) in v)
