-- The tables as lists: each entry is the basic time at its thickness, for any rule.
use Prim.Native.Nat.{ℕ, zero, suc, ◌+◌, ◌-◌, ◌^◌, ◌<◌, ◌≤◌}
use mathlib.Core.Path.{◌≡◌, sym, ap, ◌∙◌}
use mathlib.Core.List.{List}
use native.Mathlib.Omega.{arith}
use native.Mathlib.Nat.{add-zero, add-suc, suc-add}
use lib.Dec.{T}
use lib.ListN.{get_or}
use Rattle.numbers.specs.Largest.{IsLargest}
use Rattle.numbers.specs.ByBits.{by_bits}
use Rattle.numbers.proofs.ByBits.{bits_largest}
use Rattle.numbers.proofs.LargestKept.{largest_unique}
use Rattle.panel.specs.declared.Material.{Material}
use Rattle.panel.specs.Materials.{thinnest, thickest}
use Rattle.limits.specs.Keeps.{ThicknessKeeps}
use Rattle.basic_times.specs.declared.Role.{Role}
use Rattle.basic_times.specs.Rules.{parts_per_minute, longest_time, Rule, keeps, rule_of, basic_time}
use Rattle.basic_times.specs.Tables.{bits, times, table_of, InTable, entry_at}
use Rattle.basic_times.proofs.Rule.{keeps_down, bounded, zero_kept, longer_not_kept, all_bounded, basic_largest, time_kept}

-- bit by bit the largest time is found, by any rule
time_largest :
    (r : Rule) (top : ℕ) → T (bounded r top) → (h : ℕ) → h ≤ top
    → IsLargest (keeps parts_per_minute r h) (by_bits (keeps parts_per_minute r h) bits 0)
time_largest r top t h l =
    bits_largest (keeps parts_per_minute r h) (keeps_down parts_per_minute r h) bits 0 (zero_kept parts_per_minute r top t h)
    (longer_not_kept parts_per_minute (omega arith) r top t h l (2 ^ bits) (omega arith))

-- so the basic time is
pub basic_by_bits :
    (role : Role) (m : Material) (h : ℕ) → h ≤ thickest m → by_bits (keeps parts_per_minute (rule_of role m) h) bits 0 ≡ basic_time role m h
basic_by_bits role m h within =
    let r = rule_of role m in
    largest_unique (keeps parts_per_minute r h) (by_bits (keeps parts_per_minute r h) bits 0) (basic_time role m h)
    (time_largest r (thickest m) (all_bounded role m) h within) (basic_largest parts_per_minute (omega arith) role m h within)

-- an entry of the list
times_entry : (r : Rule) (h n place : ℕ) → place < n → get_or (times r h n) place 0 ≡ by_bits (keeps parts_per_minute r (h + place)) bits 0
times_entry r h zero place l = absurd (let z : ⊥ = omega arith in z)
times_entry r h (suc n) zero l = rw (add-zero h)
times_entry r h (suc n) (suc place) l =
    times_entry r (suc h) n place (omega arith)
    ∙ ap (λ (k : ℕ). by_bits (keeps parts_per_minute r k) bits 0) (suc-add h place ∙ sym (add-suc h place))

-- THE RULE: each entry of a table is the basic time at its thickness
pub table_entry :
    (role : Role) (m : Material) (place : ℕ) → InTable m place → entry_at role m place ≡ basic_time role m (thinnest m + place)
table_entry role m place within =
    times_entry (rule_of role m) (thinnest m) (suc (thickest m) - thinnest m) place (omega arith) ∙ basic_by_bits role m (thinnest m + place) within

-- what is read of a table that is held to its rule
pub time_read :
    (role : Role) (m : Material) (h place : ℕ) (entries : List ℕ) → entries ≡ table_of role m → ThicknessKeeps m h → place ≡ h - thinnest m
    → (get_or entries place 0 ≡ basic_time role m h) × (get_or entries place 0 ≤ longest_time)
time_read role m h place entries e keep at =
    let least = keep.least in
    let most = keep.most in
    time_kept role m h
    (ap (λ (xs : List ℕ). get_or xs place 0) e ∙ table_entry role m place (omega arith) ∙ ap (λ (k : ℕ). basic_time role m k) (omega arith))
