-- The phase on the way through the panel, line by line: what will come out stays the same.
use Prim.Native.Nat.{ℕ, ◌+◌, ◌-◌, ◌*◌, ◌<◌, ◌≤◌, min, max}
use mathlib.Core.Path.{◌≡◌, refl}
use mathlib.Core.Bool.{Bool, true, false}
use mathlib.Core.List.{List, [], ◌∷◌}
use native.Mathlib.Omega.{arith}
use native.Mathlib.Decide.{dec_lt}
use borrow.Author.Tests.{le-ltb, lt-ltb, leb-true, leb-false}
use lib.Dec.{leb, ltb}
use Rattle.panel.specs.declared.Panel.{Panel}
use Rattle.phases.specs.declared.Phase.{Phase}
use Rattle.charring.specs.declared.Progress.{Progress}
use Rattle.charring.specs.declared.lines.Line.{Line}
use Rattle.charring.specs.Rates.{depth_at_failure, first_end, back_face, bond_lines, line_end}
use Rattle.charring.specs.Way.{Stretch, stretches, way, fast_part, settled_part}
use Rattle.phases.specs.Phases.{phase_on}
use Rattle.phases.specs.Phases.{phase_in}
use Rattle.charring.specs.Walk.{Passed}
use Rattle.charring.proofs.WalkLaws.{to_line, past_line_lem}

module _ (q : ℕ) (s : Stretch) (ss : List Stretch) (x fast settled : ℕ) (f : fast ≡ q * fast_part s) (d : settled ≡ q * settled_part s) where
  -- within a stretch
  in_stretch : x < fast + 2 * settled → phase_in (ltb x fast) s.end ≡ phase_on (s ∷ ss) x q
  unfolding phase_on
  in_stretch h = rw f (go (ltb x (q * fast_part s)) refl)
    where
      both : ltb x (q * fast_part s + 2 * q * settled_part s) ≡ true
      both = lt-ltb x (q * fast_part s + 2 * q * settled_part s) (omega arith)

      go : (b : Bool) → ltb x (q * fast_part s) ≡ b → phase_in (ltb x (q * fast_part s)) s.end ≡ phase_on (s ∷ ss) x q
      go true e = rw (phase_on, e)
      go false e = rw (phase_on, e, both)

  -- past a stretch
  past_stretch : fast + 2 * settled ≤ x → phase_on ss (x - q * fast_part s - 2 * q * settled_part s) q ≡ phase_on (s ∷ ss) x q
  unfolding phase_on
  past_stretch h =
      rw (
        phase_on,
        le-ltb x (q * fast_part s) (omega arith),
        le-ltb x (q * fast_part s + 2 * q * settled_part s) (omega arith),
      )

-- the last stretch: what comes after it is settled too
in_last : (q : ℕ) (s : Stretch) (x fast : ℕ) → fast ≡ q * fast_part s → phase_in (ltb x fast) s.end ≡ phase_on (s ∷ []) x q
unfolding phase_on
in_last q s x fast f = go (dec_lt x (fast + 2 * (q * settled_part s)))
  where
    go : Dec (x < fast + 2 * (q * settled_part s)) → phase_in (ltb x fast) s.end ≡ phase_on (s ∷ []) x q
    go (yes h) = in_stretch q s [] x fast (q * settled_part s) f refl h
    go (no h) =
        rw (le-ltb x fast (omega arith))
        (past_stretch q s [] x fast (q * settled_part s) f refl (omega arith))

-- the phase that it will be, by how far the walk has come and the lines still ahead
abbrev pub phase_to_come : ℕ → Progress → List ℕ → ℕ → Phase
phase_to_come q s lines back = phase_on (stretches s.from s.end lines back) s.left q

-- at t_f
pub phase_start : (p : Panel) (q : ℕ) (s : Progress) (lines : List ℕ) (back : ℕ)
    → (s.from ≡ depth_at_failure p) × (s.end ≡ first_end p) × (s.gained ≡ 0) → lines ≡ bond_lines p → back ≡ back_face p
    → phase_to_come q s lines back ≡ phase_on (way p) s.left q
unfolding way
phase_start p q s lines back h e b = rw (h.0, h.1, e, b)

module _ (q : ℕ) (s : Progress) (back : ℕ) (line : Line) (all lines : List ℕ) (e : (all ≡ line.at ∷ lines) × (line.end ≡ line_end line.at lines))
    (fast settled : ℕ) (f : fast ≡ q * (min s.end line.at - s.from)) (d : settled ≡ q * (line.at - max s.from s.end)) where
  abbrev here : Stretch
  here = record { from = s.from; end = s.end; to = line.at }

  -- the time is over before the next line: it is one that is still to come
  pub phase_stop : s.left < fast + 2 * settled → phase_in (ltb s.left fast) s.end ≡ phase_to_come q s all back
  phase_stop h = rw e.0 (go (leb s.from line.at) refl)
    where
      over : line.at < s.from → s.left < q * 0 + 2 * (q * 0)
      over k =
          let none : min s.end line.at - s.from ≡ 0 = omega arith in
          let neither : line.at - max s.from s.end ≡ 0 = omega arith in
          rw (f, d, none, neither) at h

      go : (b : Bool) → leb s.from line.at ≡ b → phase_in (ltb s.left fast) s.end ≡ phase_to_come q s (line.at ∷ lines) back
      go true t =
          rw (to_line s.from s.end line.at lines back (leb-true s.from line.at t))
          (in_stretch q here (stretches line.at (line_end line.at lines) lines back) s.left fast settled f d h)
      go false t = absurd (omega (arith, over (leb-false s.from line.at t)))

  -- the time goes on past it
  pub phase_more : (r : Progress) → Passed q s line r → fast + 2 * settled ≤ s.left → phase_to_come q r lines back ≡ phase_to_come q s all back
  phase_more r w h = rw e.0 (go (leb s.from line.at) refl)
    where
      go : (b : Bool) → leb s.from line.at ≡ b → phase_to_come q r lines back ≡ phase_to_come q s (line.at ∷ lines) back
      go true t =
          let c = w.crossed t in
          rw (to_line s.from s.end line.at lines back (leb-true s.from line.at t), c.from, c.end, e.1, c.left)
          (past_stretch q here (stretches line.at (line_end line.at lines) lines back) s.left fast settled f d h)
      go false t = rw (w.kept t, past_line_lem s.from s.end line.at lines back (leb-false s.from line.at t))

pub phase_last : (q : ℕ) (s : Progress) (back fast : ℕ) (all : List ℕ) → all ≡ [] → fast ≡ q * (min s.end back - s.from)
    → phase_in (ltb s.left fast) s.end ≡ phase_to_come q s all back
unfolding stretches
phase_last q s back fast all e f = rw e (in_last q (record { from = s.from; end = s.end; to = back }) s.left fast f)
