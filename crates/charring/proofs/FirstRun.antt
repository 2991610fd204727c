-- Where the first run, at t_f, ends: by the lines that were passed before t_f, and as if there were none.
use Prim.Native.Nat.{ℕ, ◌+◌, ◌*◌, ◌≤◌, ◌<◌, min}
use mathlib.Core.Path.{◌≡◌, refl, ap, ◌∙◌}
use mathlib.Core.List.{List, [], ◌∷◌, ◌++◌, Memᴰ}
use mathlib.Core.Bool.{Bool, true, false}
use native.Mathlib.Omega.{arith}
use lib.Dec.{eqb, ltb}
use borrow.Author.Tests.{eq-eqb, lt-ltb, le-ltb, ltb-true}
use Rattle.numbers.specs.Choice.{pick}
use Rattle.panel.specs.declared.Panel.{Panel}
use Rattle.charring.specs.Rates.{fast_run, start_of, failure_of, plain_rate, clad, depth_at_failure}
use Rattle.charring.specs.Rates.{line_end, bond_lines, intact_end, passed_end, first_end}

-- No line passed

-- the end is no deeper than 25 mm
intact_end_run : (p : Panel) → intact_end p ≤ fast_run
unfolding intact_end
intact_end_run p = go (clad p.cladding) (eqb (start_of p) (failure_of p))
  where
    go : (b c : Bool) → pick b (pick c (min (2 * plain_rate p * failure_of p) fast_run) fast_run) 0 ≤ fast_run
    go true true = omega arith
    go true false = omega arith
    go false c = omega arith

-- nor, with t_f = t_ch, than what 2β adds in as long as t_f
pub intact_end_twice : (p : Panel) → start_of p ≡ failure_of p → intact_end p ≤ 2 * plain_rate p * failure_of p
unfolding intact_end
intact_end_twice p h = go (clad p.cladding) (eqb (start_of p) (failure_of p)) (eq-eqb (start_of p) (failure_of p) h)
  where
    go :
        (b c : Bool) → c ≡ true
        → pick b (pick c (min (2 * plain_rate p * failure_of p) fast_run) fast_run) 0 ≤ 2 * plain_rate p * failure_of p
    go true true e = omega arith
    go true false e = absurd (let z : ◌≡◌ {A = ℕ} 0 1 = cc in let w : ⊥ = omega arith in w)
    go false c e = omega arith

-- Lines passed

-- a line that was passed, and one that was not
pub line_passed : (deep end line : ℕ) (lines : List ℕ) → line < deep
    → passed_end deep end (line ∷ lines) ≡ passed_end deep (line_end line lines) lines
unfolding passed_end
line_passed deep end line lines h =
    ap (λ (b : Bool). passed_end deep (pick b (line_end line lines) end) lines) (lt-ltb line deep h)

pub line_ahead : (deep end line : ℕ) (lines : List ℕ) → deep ≤ line → passed_end deep end (line ∷ lines) ≡ passed_end deep end lines
unfolding passed_end
line_ahead deep end line lines h =
    ap (λ (b : Bool). passed_end deep (pick b (line_end line lines) end) lines) (le-ltb line deep h)

not_passed : (deep end : ℕ) (lines : List ℕ) → ((l : ℕ) → Memᴰ l lines → deep ≤ l) → passed_end deep end lines ≡ end
unfolding passed_end
not_passed deep end [] h = refl
not_passed deep end (line ∷ lines) h =
    line_ahead deep end line lines (h line (Memᴰ.head refl)) ∙ not_passed deep end lines (λ l m. h l (Memᴰ.tail m))

-- the deepest of those passed sets the end
pub deepest_passed :
    (deep end : ℕ) (above : List ℕ) (l : ℕ) (below : List ℕ) → l < deep → ((m : ℕ) → Memᴰ m below → deep ≤ m)
    → passed_end deep end (above ++ (l ∷ below)) ≡ line_end l below
unfolding passed_end
deepest_passed deep end [] l below h rest = line_passed deep end l below h ∙ not_passed deep (line_end l below) below rest
deepest_passed deep end (a ∷ above) l below h rest = deepest_passed deep (pick (ltb a deep) (line_end a (above ++ (l ∷ below))) end) above l below h rest

pub none_passed : (p : Panel) → ((l : ℕ) → Memᴰ l (bond_lines p) → depth_at_failure p ≤ l) → first_end p ≡ intact_end p
unfolding first_end
none_passed p h = not_passed (depth_at_failure p) (intact_end p) (bond_lines p) h

-- 25 mm past its line at most
line_end_run : (line : ℕ) (lines : List ℕ) → line_end line lines ≤ line + fast_run
unfolding line_end
line_end_run line [] = omega arith
line_end_run line (next ∷ lines) = omega arith

passed_end_run : (deep end : ℕ) (lines : List ℕ) → end ≤ deep + fast_run → passed_end deep end lines ≤ deep + fast_run
unfolding passed_end
passed_end_run deep end [] h = h
passed_end_run deep end (line ∷ lines) h = passed_end_run deep (pick (ltb line deep) (line_end line lines) end) lines (go (ltb line deep) refl)
  where
    go : (b : Bool) → ltb line deep ≡ b → pick b (line_end line lines) end ≤ deep + fast_run
    go true e = omega (arith, line_end_run line lines, ltb-true line deep e)
    go false e = h

-- so the first run ends 25 mm past the char at t_f at most
pub first_end_run : (p : Panel) → first_end p ≤ depth_at_failure p + fast_run
unfolding first_end
first_end_run p = passed_end_run (depth_at_failure p) (intact_end p) (bond_lines p) (omega (arith, intact_end_run p))
