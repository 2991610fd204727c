-- Document 01, "Charring", after t_f: the way through the panel, stretch by stretch. The rate after t_f depends on the depth alone.
use Rattle.std.specs.Prelude.{ℕ, ◌+◌, ◌-◌, ◌*◌, min, max, List, [], ◌∷◌, true, false, ltb}
use Rattle.panel.specs.declared.Panel.{Panel}
use Rattle.charring.specs.Rates.{back_face, depth_at_failure, first_end, bond_lines, line_end}

-- a stretch of depth: fast from its start up to its end, if that lies deeper, then settled
pub record Stretch : Type 0 where
  pub from : ℕ
  pub end : ℕ
  pub to : ℕ

-- from a depth on, with a run that ends at `end`, through lines and to the back face: "when the char reaches a bond line at or
-- after t_f, a new run at 2β starts, in place of any other .. A bond line passed before t_f starts nothing."
unfoldable pub stretches : ℕ → ℕ → List ℕ → ℕ → List Stretch
stretches from end [] back = record { from = from; end = end; to = back } ∷ []
stretches from end (line ∷ lines) back =
    elim (ltb line from) [
      | true ↦ stretches from end lines back
      | false ↦ record { from = from; end = end; to = line } ∷ stretches line (line_end line lines) lines back
    ]

-- the way of a panel from t_f on with a first run up to `end`; it "never starts if 25 mm is reached by t_f", or whatever its end is: then the
-- end is not deeper than the start
abbrev pub way_to : Panel → ℕ → List Stretch
way_to p end = stretches (depth_at_failure p) end (bond_lines p) (back_face p)

unfoldable pub way : Panel → List Stretch
way p = way_to p (first_end p)

-- the fast part and the settled part of a stretch
abbrev pub fast_part : Stretch → ℕ
fast_part s = min s.end s.to - s.from

abbrev pub settled_part : Stretch → ℕ
settled_part s = s.to - max s.from s.end

-- how deep the char comes on a way: x is twice what β alone would have added since the way began, both times q. The fast part of
-- a stretch takes as much of x as it is long, the settled part twice that. The depth is in half picometres.
unfoldable pub charred : List Stretch → ℕ → ℕ → ℕ
charred [] x q = 0
charred (s ∷ ss) x q =
    2 * min x (q * fast_part s)
    + min (x - q * fast_part s) (2 * q * settled_part s)
    + charred ss (x - q * fast_part s - 2 * q * settled_part s) q
