-- The way through the panel, line by line: what will come out stays the same.
use Prim.Native.Nat.{ℕ, ◌+◌, ◌-◌, ◌*◌, ◌<◌, ◌≤◌}
use mathlib.Core.Path.{◌≡◌, refl, ap}
use mathlib.Core.Bool.{Bool, true, false}
use mathlib.Core.List.{List, [], ◌∷◌}
use native.Mathlib.Omega.{arith}
use native.Mathlib.Nat.{add_assoc}
use borrow.Author.Tests.{le-ltb, leb-true, leb-false, lt-ltb}
use lib.Dec.{leb}
use Rattle.panel.specs.declared.Panel.{Panel}
use Rattle.charring.specs.declared.Progress.{Progress}
use Rattle.charring.specs.declared.lines.Line.{Line}
use Rattle.charring.specs.Rates.{failure_of, plain_rate, depth_at_failure, first_end, back_face, bond_lines, line_end}
use Rattle.charring.specs.Way.{stretches, way, charred}
use Rattle.charring.specs.Depths.{after_at}
use Rattle.charring.specs.Walk.{Crossed, Passed, stretch_to, gain}

-- a line that is still to come, and a line passed before t_f
pub to_line : (from end line : ℕ) (lines : List ℕ) (back : ℕ) → from ≤ line
    → stretches from end (line ∷ lines) back ≡ record { from = from; end = end; to = line } ∷ stretches line (line_end line lines) lines back
unfolding stretches
to_line from end line lines back h = rw (stretches, le-ltb line from h)

pub past_line_lem : (from end line : ℕ) (lines : List ℕ) (back : ℕ) → line < from → stretches from end (line ∷ lines) back ≡ stretches from end lines back
unfolding stretches
past_line_lem from end line lines back h = rw (stretches, lt-ltb line from h)

-- what will have charred, times q, by how far the walk has come and the lines still ahead
abbrev pub total_charred : ℕ → Progress → List ℕ → ℕ → ℕ
total_charred q s lines back = s.gained + charred (stretches s.from s.end lines back) s.left q

-- at t_f
pub walk_start : (p : Panel) (n q : ℕ) (s : Progress) (lines : List ℕ) (back : ℕ)
    → (s.from ≡ depth_at_failure p) × (s.end ≡ first_end p) × (s.gained ≡ 0)
    → s.left ≡ 2 * plain_rate p * (1000 * n - q * failure_of p) → lines ≡ bond_lines p → back ≡ back_face p → total_charred q s lines back ≡ after_at p n q
unfolding way
walk_start p n q s lines back h l e b = rw (h.0, h.1, h.2, l, e, b) (zero_first _)
  where
    zero_first : (y : ℕ) → 0 + y ≡ y
    zero_first y = omega arith

module _ (q : ℕ) (s r : Progress) (back : ℕ) where
  -- a stretch to a line
  cross_keeps : (line end : ℕ) (lines : List ℕ) → end ≡ line_end line lines → Crossed q s line end r → s.from ≤ line
      → total_charred q r lines back ≡ total_charred q s (line ∷ lines) back
  unfolding charred
  cross_keeps line end lines e c h =
      rw (to_line s.from s.end line lines back h, c.from, c.end, e, c.left, c.gained)
      (add_assoc s.gained _ _)

  -- past the next line
  pub walk_more : (line : Line) (all lines : List ℕ) → (all ≡ line.at ∷ lines) × (line.end ≡ line_end line.at lines) → Passed q s line r
      → total_charred q r lines back ≡ total_charred q s all back
  walk_more line all lines e h = rw e.0 (go (leb s.from line.at) refl)
    where
      go : (b : Bool) → leb s.from line.at ≡ b → total_charred q r lines back ≡ total_charred q s (line.at ∷ lines) back
      go true t = cross_keeps line.at line.end lines e.1 (h.crossed t) (leb-true s.from line.at t)
      go false t = rw (h.kept t, past_line_lem s.from s.end line.at lines back (leb-false s.from line.at t))

  -- the last stretch
  pub walk_end : (end : ℕ) (all : List ℕ) → all ≡ [] → Crossed q s back end r → r.gained ≡ total_charred q s all back
  unfolding stretches charred
  walk_end end all e c = rw (c.gained, e) (ap (λ (x : ℕ). s.gained + x) (zero_last (gain (stretch_to s back) s.left q)))
    where
      zero_last : (x : ℕ) → x ≡ x + 0
      zero_last x = omega arith
