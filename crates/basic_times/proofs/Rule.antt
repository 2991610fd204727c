-- "Each entry is the largest whole number whose fifth or tenth power keeps to the rule", for every thickness of each table and whatever the
-- parts of a minute: one law for any rule, and that no rule gives more than `longest_in`.
use Prim.Native.Nat.{zero, ℕ, suc, ◌*◌, ◌^◌, ◌<◌, ◌≤◌}
use mathlib.Core.Path.{◌≡◌, sym, ap, ap₂, ◌∙◌}
use mathlib.Core.Bool.{Bool, true, false, not, ◌&&◌}
use native.Mathlib.Omega.{arith}
use native.Mathlib.Nat.{zero-mul, mul-one, mul_assoc, mul_left_comm, pow-succ', one-le-pow, mul-le-mul_left, mul-le-mul_right, pow-le-pow_left, le_trans}
use borrow.Author.Tests.{le-leb, leb-true, leb-false, lt-leb}
use lib.Dec.{T, leb, ltb, ltb→lt}
use Rattle.numbers.proofs.Booleans.{IsTrue-false, IsTrue-left, IsTrue-right}
use Rattle.numbers.specs.Largest.{IsLargest}
use Rattle.numbers.proofs.LargestKept.{largest_found, largest_within}
use Rattle.numbers.proofs.Products.{power_of_product, leb_scaled}
use Rattle.panel.specs.declared.Material.{Material}
use Rattle.panel.specs.Materials.{thickest}
use Rattle.panel.proofs.Thicknesses.{every_material}
use Rattle.basic_times.specs.declared.Role.{Role}
use Rattle.basic_times.specs.declared.Role.TheVariants.{Protection, Insulation}
use Rattle.basic_times.specs.Rules.{parts_per_minute, longest_in, longest_time, Rule, keeps, largest_time, rule_of, basic_time_in, basic_time}

-- a smaller number keeps to a rule too
pub keeps_down : (parts : ℕ) (r : Rule) (h m n : ℕ) → m ≤ n → keeps parts r h n ≡ true → keeps parts r h m ≡ true
keeps_down parts r h m n l e =
    let most = (r.base * parts) ^ r.root * h ^ r.power in
    let scale = r.reference ^ r.power in
    le-leb (m ^ r.root * scale) most
    (le_trans (mul-le-mul_right scale (pow-le-pow_left l r.root)) (leb-true (n ^ r.root * scale) most e))

-- 0 keeps to every rule with a root
keeps_zero : (parts : ℕ) (r : Rule) (h : ℕ) → 0 < r.root → keeps parts r h 0 ≡ true
keeps_zero parts r h pos =
    le-leb (0 ^ r.root * r.reference ^ r.power) ((r.base * parts) ^ r.root * h ^ r.power)
    (omega (arith, none r.root (r.reference ^ r.power) pos))
  where
    none : (root scale : ℕ) → 0 < root → 0 ^ root * scale ≡ 0
    none (suc root) scale pos = ap (λ (k : ℕ). k * scale) (pow-succ' 0 root ∙ zero-mul (0 ^ root)) ∙ zero-mul scale
    none zero scale pos = elim pos [ ]

-- what does not keep to a rule at the greatest thickness keeps to it at no smaller one, and nor does a greater number
fails_on : (parts : ℕ) (r : Rule) (h top n m : ℕ) → h ≤ top → n ≤ m → keeps parts r top n ≡ false → keeps parts r h m ≡ false
fails_on parts r h top n m hh nm e =
    let base = (r.base * parts) ^ r.root in
    let scale = r.reference ^ r.power in
    let far : base * top ^ r.power < n ^ r.root * scale = leb-false (n ^ r.root * scale) (base * top ^ r.power) e in
    let less : base * h ^ r.power ≤ base * top ^ r.power = mul-le-mul_left base (pow-le-pow_left hh r.power) in
    let more : n ^ r.root * scale ≤ m ^ r.root * scale = mul-le-mul_right scale (pow-le-pow_left nm r.root) in
    lt-leb (m ^ r.root * scale) (base * h ^ r.power) (omega arith)

-- in c times as many parts to the minute, c times a number keeps to a rule exactly when the number does: both sides gain c^root
pub kept_alike : (parts c : ℕ) → 0 < c → (r : Rule) (h v : ℕ) → keeps (c * parts) r h (c * v) ≡ keeps parts r h v
kept_alike parts c positive r h v =
    ap₂ leb (out_of_power v (r.reference ^ r.power))
    (ap (λ (x : ℕ). x ^ r.root * h ^ r.power) (mul_left_comm r.base c parts) ∙ out_of_power (r.base * parts) (h ^ r.power))
    ∙ leb_scaled (c ^ r.root) (v ^ r.root * r.reference ^ r.power) ((r.base * parts) ^ r.root * h ^ r.power) (one-le-pow r.root c positive)
  where
    out_of_power : (x scale : ℕ) → (c * x) ^ r.root * scale ≡ c ^ r.root * (x ^ r.root * scale)
    out_of_power x scale = ap (λ (y : ℕ). y * scale) (power_of_product c x r.root) ∙ mul_assoc (c ^ r.root) (x ^ r.root) scale

-- at the thickness `top` the longest time, in whole minutes, does not keep to the rule
abbrev pub bounded : Rule → ℕ → Bool
bounded r top = ltb 0 r.root && not (keeps 1 r top (longest_in 1))

-- then 0 keeps to it, and what is above `longest_in` does not, whatever the parts
pub zero_kept : (parts : ℕ) (r : Rule) (top : ℕ) → T (bounded r top) → (h : ℕ) → keeps parts r h 0 ≡ true
zero_kept parts r top t h =
    keeps_zero parts r h (ltb→lt 0 r.root (IsTrue-left (ltb 0 r.root) (not (keeps 1 r top (longest_in 1))) t))

pub longer_not_kept :
    (parts : ℕ) → 0 < parts → (r : Rule) (top : ℕ) → T (bounded r top) → (h : ℕ) → h ≤ top
    → (m : ℕ) → longest_in parts < m → keeps parts r h m ≡ false
longer_not_kept parts some r top t h l m k =
    let longest = keeps 1 r top (longest_in 1) in
    let in_minutes : longest ≡ false = IsTrue-false longest (IsTrue-right (ltb 0 r.root) (not longest) t) in
    fails_on parts r h top (parts * longest_in 1) m l (omega (arith, k))
    (ap (λ (p : ℕ). keeps p r top (parts * longest_in 1)) (sym (mul-one parts)) ∙ kept_alike 1 parts some r top (longest_in 1) ∙ in_minutes)

pub rule_largest :
    (parts : ℕ) → 0 < parts → (r : Rule) (top : ℕ) → T (bounded r top) → (h : ℕ) → h ≤ top → IsLargest (keeps parts r h) (largest_time parts r h)
unfolding largest_time
rule_largest parts some r top t h l =
    largest_found (keeps parts r h) (longest_in parts) (zero_kept parts r top t h) (longer_not_kept parts some r top t h l)

-- Every table

pub all_bounded : (role : Role) (m : Material) → T (bounded (rule_of role m) (thickest m))
all_bounded Protection m = every_material (λ k. bounded (rule_of Protection k) (thickest k)) tt m
all_bounded Insulation m = every_material (λ k. bounded (rule_of Insulation k) (thickest k)) tt m

pub basic_largest :
    (parts : ℕ) → 0 < parts → (role : Role) (m : Material) (h : ℕ) → h ≤ thickest m
    → IsLargest (keeps parts (rule_of role m) h) (basic_time_in parts role m h)
basic_largest parts some role m = rule_largest parts some (rule_of role m) (thickest m) (all_bounded role m)

-- no basic time is above `longest_time`
pub time_kept : (role : Role) (m : Material) (h : ℕ) {t : ℕ} → t ≡ basic_time role m h → (t ≡ basic_time role m h) × (t ≤ longest_time)
unfolding largest_time
time_kept role m h e = (e, rw e (largest_within (keeps parts_per_minute (rule_of role m) h) longest_time))
