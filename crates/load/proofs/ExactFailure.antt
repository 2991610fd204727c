-- A failure time by computation: where `fails_right_after` holds of n/q minutes, they are the failure time.
use Prim.Native.Nat.{ℕ, suc, ◌+◌, ◌*◌, ◌≤◌, ◌<◌}
use mathlib.Core.Path.{◌≡◌}
use mathlib.Core.Bool.{Bool, true, false, not, ◌&&◌}
use native.Mathlib.Omega.{arith}
use native.Mathlib.Nat.{le_trans, mul-pos, mul-lt-mul_of_pos_left}
use lib.Dec.{T, leb, ltb, eqb, leb→le, ltb→lt, eqb→eq}
use Rattle.numbers.proofs.Booleans.{IsTrue-true, IsTrue-false, IsTrue-left, IsTrue-right, not_both}
use Rattle.panel.specs.declared.Panel.{Panel}
use Rattle.panel.specs.Products.{rate_of}
use Rattle.panel.specs.Lamellae.{lamellae, thickness}
use Rattle.section.specs.Tests.{depth_passes}
use Rattle.charring.specs.Rates.{tenth, failure_of}
use Rattle.charring.specs.Depths.{full_at, effective_at, tenths_at}
use Rattle.charring.proofs.DepthLaws.{tenths_later}
use Rattle.charring.proofs.Rising.{tenths_rise}
use Rattle.load.specs.Failure.{EveryTenthPasses, TimePasses, IsFailureTime}
use Rattle.load.specs.LoadMinute.{every_from}
use Rattle.load.specs.FailureTests.{on_tenth, last_depth, fails_right_after}
use Rattle.load.proofs.EveryDepth.{every_tenth}

-- What the two tests say

record OnTenth (p : Panel) (n q k : ℕ) : Type 0 where
  whole : 0 < q
  rate : 0 < rate_of p
  past : q * failure_of p ≤ 1000 * n
  short : k < thickness (lamellae p)
  exact : effective_at p n q ≡ k * (2 * tenth * (q * full_at p))

on_tenth_lem : (p : Panel) (n q k : ℕ) → T (on_tenth p n q k) → OnTenth p n q k
on_tenth_lem p n q k t =
    let (a, b, c, d, e) =
    each (ltb 0 q) (ltb 0 (rate_of p)) (leb (q * failure_of p) (1000 * n)) (ltb k (thickness (lamellae p)))
    (eqb (effective_at p n q) (k * (2 * tenth * (q * full_at p)))) t in
    record {
      whole = ltb→lt 0 q a;
      rate = ltb→lt 0 (rate_of p) b;
      past = leb→le (q * failure_of p) (1000 * n) c;
      short = ltb→lt k (thickness (lamellae p)) d;
      exact = eqb→eq (effective_at p n q) (k * (2 * tenth * (q * full_at p))) e;
    }
  where
    each : (a b c d e : Bool) → T (a && b && c && d && e) → T a × T b × T c × T d × T e
    each true true true true true t = (tt, tt, tt, tt, tt)
    each false b c d e t = elim t [ ]
    each true false c d e t = elim t [ ]
    each true true false d e t = elim t [ ]
    each true true true false e t = elim t [ ]
    each true true true true false t = elim t [ ]

record LastDepth (passes : ℕ → Bool) (k : ℕ) : Type 0 where
  every : EveryTenthPasses passes k
  next : passes (suc k) ≡ false

last_depth_lem : (passes : ℕ → Bool) (k : ℕ) → T (last_depth passes k) → LastDepth passes k
last_depth_lem passes k t =
    record {
      every = (every_tenth passes k).0 (IsTrue-true (every_from passes 0 k) (IsTrue-left (every_from passes 0 k) (not (passes (suc k))) t));
      next = IsTrue-false (passes (suc k)) (IsTrue-right (every_from passes 0 k) (not (passes (suc k))) t);
    }

-- up to n/q no depth past k is reached, and at any later time, between it and n/q, the next one is
pub exact_failure : (p : Panel) (n q : ℕ) → T (fails_right_after p n q) → IsFailureTime (TimePasses p) n q
unfolding fails_right_after
exact_failure p n q t =
    record {
      whole = here.whole;
      not_above = λ r s pos up d l. there.every d (le_trans l (tenths_later p r s n q pos here.whole up));
      last = λ r s pos later. record {
        over = n * s + r * q;
        under = 2 * q * s;
        whole = positive s pos;
        earlier = before r s pos later;
        fails = λ passes.
            not_both (depth_passes p (suc k))
            (passes (suc k)
            (tenths_rise p n q (n * s + r * q) (2 * q * s) k here.whole (positive s pos) here.rate here.past (after r s later)
            here.short here.exact))
            there.next;
      };
    }
  where
    k : ℕ
    k = tenths_at p n q

    here : OnTenth p n q k
    here = on_tenth_lem p n q k (IsTrue-left (on_tenth p n q k) (last_depth (depth_passes p) k) t)

    there : LastDepth (depth_passes p) k
    there = last_depth_lem (depth_passes p) k (IsTrue-right (on_tenth p n q k) (last_depth (depth_passes p) k) t)

    positive : (s : ℕ) → 0 < s → 0 < 2 * q * s
    positive s pos =
        let z : 0 < q * s = mul-pos here.whole pos in
        omega arith

    before : (r s : ℕ) → 0 < s → n * s < r * q → (n * s + r * q) * s < r * (2 * q * s)
    before r s pos h =
        let l : s * (n * s) < s * (r * q) = mul-lt-mul_of_pos_left h pos in
        omega arith

    after : (r s : ℕ) → n * s < r * q → n * (2 * q * s) < (n * s + r * q) * q
    after r s h =
        let l : q * (n * s) < q * (r * q) = mul-lt-mul_of_pos_left h here.whole in
        omega arith
