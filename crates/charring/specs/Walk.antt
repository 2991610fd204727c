-- What the functions that go from bond line to bond line hand to each other.
use Rattle.std.specs.Prelude.{ℕ, ◌+◌, ◌-◌, ◌*◌, min, List, [], ◌∷◌, Option, ◌≡◌, true, false, leb}
use Rattle.std.specs.Option.{MatchOption}
use Rattle.charring.specs.declared.Progress.{Progress}
use Rattle.charring.specs.declared.lines.Line.{Line}
use Rattle.charring.specs.declared.lines.Lines.{Lines}
use Rattle.charring.specs.Rates.{lines_from, line_end}
use Rattle.charring.specs.Lines.{by_thickness}
use Rattle.charring.specs.Way.{Stretch, fast_part, settled_part}

-- the lines that the iterator has left
abbrev pub lines_left : Lines → List ℕ
lines_left it = lines_from it.top (by_thickness it.rest.now)

-- a call gave the first of them and where its run ends, or `None` where none was left
abbrev pub GivesLine : Lines → Option Line → Lines → Type 0
GivesLine s r t =
    MatchOption r ((lines_left s ≡ []) × (lines_left t ≡ []))
    (λ line. (lines_left s ≡ line.at ∷ lines_left t) × (line.end ≡ line_end line.at (lines_left t)))

-- a stretch that starts where the walk has come
abbrev pub stretch_to : Progress → ℕ → Stretch
stretch_to s to = record { from = s.from; end = s.end; to = to }

-- what a stretch adds at most, half picometres, times q
abbrev pub gain : Stretch → ℕ → ℕ → ℕ
gain s x q = 2 * min x (q * fast_part s) + min (x - q * fast_part s) (2 * q * settled_part s)

-- how far the walk has come at the end of a stretch, where a new run starts
pub record Crossed (q : ℕ) (s : Progress) (to run_end : ℕ) (r : Progress) : Type 0 where
  pub from : r.from ≡ to
  pub end : r.end ≡ run_end
  pub left : r.left ≡ s.left - q * fast_part (stretch_to s to) - 2 * q * settled_part (stretch_to s to)
  pub gained : r.gained ≡ s.gained + gain (stretch_to s to) s.left q

-- and past a line: a stretch is crossed where the line was not passed before t_f
pub record Passed (q : ℕ) (s : Progress) (line : Line) (r : Progress) : Type 0 where
  pub crossed : leb s.from line.at ≡ true → Crossed q s line.at line.end r
  pub kept : leb s.from line.at ≡ false → r ≡ s
