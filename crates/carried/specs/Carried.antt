-- Document 02, 4/14: "N, P, Q, lo and hi are carried from one depth to the next by a step that is given them, the lamella being cut and the
-- next along one, no other." A depth is a tenth of mm past the one before.
use Rattle.std.specs.Prelude.{ℕ, zero, suc, ◌+◌, ◌-◌, ◌*◌, List, [], ◌∷◌, Bool, true, false, ◌&&◌, eqb, leb, ltb}
use Rattle.numbers.specs.Choice.{pick}
use Rattle.panel.specs.Lamellae.{Lamella, along}
use Rattle.section.specs.declared.Section.{Section}
use Rattle.section.specs.Sections.{Part, least_remainder, counted, section_of}
use Rattle.section.specs.Growing.{pick_section}

-- the sums without x, with which the first part begins; the counted parts begin at `first` then, and where none is left hi is 0
unfoldable pub without : Section → Part → ℕ → Section
without s x first =
    record {
      n = s.n - (x.to - x.from);
      p = s.p - (x.to * x.to - x.from * x.from);
      q = s.q - (x.to * x.to * x.to - x.from * x.from * x.from);
      lo = first;
      hi = pick (eqb (s.n - (x.to - x.from)) 0) 0 s.hi;
    }

-- the lamella being cut, which ends at `end`, is counted: the first part is what is left of it, and begins at the depth. A lamella across
-- is not, nor is one whose remainder was dropped
abbrev pub cuts_part : Section → ℕ → Bool
cuts_part s end = ltb 0 s.n && ltb s.lo end

-- the step, where the lamella being cut ends at `end` and the next along one begins at `next`, 0 where there is none. What is left of the
-- lamella begins a tenth of mm later; where less than 3.0 mm would be left it is dropped, and the next along one comes first; where it is not
-- counted nothing changes
unfoldable pub step : Section → ℕ → ℕ → Section
step s end next =
    pick_section (cuts_part s end)
    (pick_section (leb least_remainder (end - (s.lo + 1)))
    (without s (record { from = s.lo; to = s.lo + 1 }) (s.lo + 1))
    (without s (record { from = s.lo; to = end }) next)) s

-- what the step is given beside the sums
pub record CutLamella : Type 0 where
  pub end : ℕ
  pub next : ℕ

abbrev pub pick_cut : Bool → CutLamella → CutLamella → CutLamella
pick_cut true c d = c
pick_cut false c d = d

-- where the first lamella along begins, of lamellae the first of which begins at top; 0 where none is along
unfoldable pub first_along : ℕ → List Lamella → ℕ
first_along top [] = 0
first_along top (l ∷ ls) = pick (along l) top (first_along (top + l.thickness) ls)

-- the lamella that is cut from a depth on, of lamellae the first of which begins at top, and the next along one; past the last none is cut
unfoldable pub cut_from : ℕ → ℕ → List Lamella → CutLamella
cut_from depth top [] = record { end = 0; next = 0 }
cut_from depth top (l ∷ ls) =
    pick_cut (ltb depth (top + l.thickness)) (record { end = top + l.thickness; next = first_along (top + l.thickness) ls })
    (cut_from depth (top + l.thickness) ls)

-- the sums carried to a depth, from depth 0 on
unfoldable pub carried : List Lamella → ℕ → Section
carried ls zero = section_of (counted 0 ls)
carried ls (suc depth) = step (carried ls depth) (cut_from depth 0 ls).end (cut_from depth 0 ls).next
