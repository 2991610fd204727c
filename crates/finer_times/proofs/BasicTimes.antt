-- Basic times in finer parts of a minute, of every rule: those in coarser parts are these rounded down. Nothing of a table is looked at.
use Prim.Native.Nat.{ℕ, ◌+◌, ◌*◌, ◌<◌, ◌≤◌}
use mathlib.Core.Path.{◌∙◌}
use mathlib.Core.Bool.{Bool}
use native.Mathlib.Omega.{arith}
use native.Mathlib.Nat.{mul-pos}
use Rattle.numbers.specs.Largest.{IsLargest}
use Rattle.panel.specs.declared.Material.{Material}
use Rattle.panel.specs.Materials.{thickest}
use Rattle.basic_times.specs.declared.Role.{Role}
use Rattle.basic_times.specs.Rules.{Rule, keeps, rule_of, basic_time_in}
use Rattle.basic_times.proofs.Rule.{keeps_down, kept_alike, basic_largest}
use Rattle.numbers.proofs.LargestKept.{no_less, below_unkept}
use Rattle.finer_times.proofs.RoundedDown.{RoundedDown}

-- what is largest in coarser parts stays kept, c times as great, in the finer ones, and the next number, as great, stays above
rule_rounded :
    (parts c : ℕ) → 0 < c → (r : Rule) (h v v' : ℕ) → IsLargest (keeps parts r h) v → IsLargest (keeps (c * parts) r h) v' → RoundedDown c v v'
rule_rounded parts c positive r h v v' l k =
    record {
      least = no_less test v' (c * v) k (kept_alike parts c positive r h v ∙ l.kept);
      below = omega (arith, next);
    }
  where
    test : ℕ → Bool
    test = keeps (c * parts) r h

    next : v' < c * (v + 1)
    next =
        below_unkept test (keeps_down (c * parts) r h) v' (c * (v + 1)) k
        (kept_alike parts c positive r h (v + 1) ∙ l.beyond (v + 1) (omega arith))

pub basic_times_rounded :
    (parts c : ℕ) → 0 < parts → 0 < c → (role : Role) (m : Material) (h : ℕ) → h ≤ thickest m
    → RoundedDown c (basic_time_in parts role m h) (basic_time_in (c * parts) role m h)
basic_times_rounded parts c some positive role m h l =
    rule_rounded parts c positive (rule_of role m) h (basic_time_in parts role m h) (basic_time_in (c * parts) role m h)
    (basic_largest parts some role m h l) (basic_largest (c * parts) (mul-pos positive some) role m h l)
