-- Document 01, "The panel record", and document 02, 3/14: the layout, once, as widths in bytes, from which every length and place of a
-- record follows. `panel_in` takes a record apart by it and `encode` puts one together by it. Its version decides how long the front is,
-- and nothing else.
use Rattle.std.specs.Prelude.{ℕ, zero, suc, ◌+◌, ◌*◌, min, List, [], ◌∷◌, ◌++◌, Bool, true, false, eqb, length, get_or, drop}
use Rattle.numbers.specs.Firsts.{firsts}
use Rattle.numbers.specs.Bytes.{fields, join, span}
use Rattle.panel.specs.declared.Board.{Board}
use Rattle.panel.specs.declared.Cladding.{Cladding}
use Rattle.panel.specs.declared.Cladding.TheVariants.{Unclad, One, Two}
use Rattle.panel.specs.declared.Panel.{Panel}
use Rattle.panel.specs.Boards.{boards_of}
use Rattle.panel.specs.Lamellae.{Lamella, lamellae, directions_of, thicknesses_of}
use Rattle.record.specs.declared.Lamellae.{Lamellae}
use Rattle.record.specs.Taken.{taken_for}

-- The layout

-- what only version 2 has
abbrev pub only_if : Bool → List ℕ → List ℕ
only_if true xs = xs
only_if false xs = []

-- "length of the whole record (2 bytes); version .. (1)"; "Record version 2 has a face byte after the version"
abbrev pub front_widths : ℕ → List ℕ
front_widths version = 2 ∷ 1 ∷ only_if (eqb version 2) (1 ∷ [])

-- "bond .. (1); rate β .. (1); joint gap .. (1); bending strength f .. (2); moment M .. (4); number c of boards (1); failure time given
-- .. (4)"
abbrev pub head_widths : List ℕ
head_widths = 1 ∷ 1 ∷ 1 ∷ 2 ∷ 4 ∷ 1 ∷ 4 ∷ []

-- "per board, outer first: type .. (1), thickness in tenths of mm (2), joint coefficient in hundredths (1)"
abbrev pub board_widths : List ℕ
board_widths = 1 ∷ 2 ∷ 1 ∷ []

-- "number n of lamellae (1)"
abbrev pub count_widths : List ℕ
count_widths = 1 ∷ []

-- "per lamella, from the exposed face: 0 across or 1 along (1), thickness in tenths of mm (2)"
abbrev pub lamella_widths : List ℕ
lamella_widths = 1 ∷ 2 ∷ []

-- Lengths and places; that they are 01's numbers is proved in proofs/Worked

-- 3 bytes, in version 2 4 bytes
abbrev pub front_length : ℕ → ℕ
front_length version = span (front_widths version)

-- 14 bytes
abbrev pub head_length : ℕ
head_length = span head_widths

-- 4 bytes
abbrev pub board_length : ℕ
board_length = span board_widths

-- 1 byte
abbrev pub count_length : ℕ
count_length = span count_widths

-- 3 bytes
abbrev pub lamella_length : ℕ
lamella_length = span lamella_widths

-- where n stands, after c boards: 17 + 4c, in version 2 18 + 4c
abbrev pub count_place : ℕ → ℕ → ℕ
count_place version c = front_length version + head_length + board_length * c

-- where the lamella bytes begin, "after the last board and the byte n": 18 + 4c, in version 2 19 + 4c
abbrev pub lamella_place : ℕ → ℕ → ℕ
lamella_place version c = front_length version + head_length + count_length + board_length * c

-- "The length is 18 + 4c + 3n", with c boards and n lamellae; version 2 is "one byte longer"
abbrev pub length_with : ℕ → ℕ → ℕ → ℕ
length_with version c n = lamella_place version c + lamella_length * n

-- "from 21": version 1, no board, one lamella
abbrev pub shortest : ℕ
shortest = length_with 1 0 1

-- "the longest is 54 bytes": version 2, two boards, nine lamellae
abbrev pub longest : ℕ
longest = length_with 2 2 9

-- Reading: the numbers of a record b, whatever its length; a byte past its end counts as 0

-- the version, which stands at the same place in either
abbrev pub version_of : List ℕ → ℕ
version_of b = get_or (fields (front_widths 1) b 0) 1 0

-- the front's numbers, in its order: length, version, in version 2 the face
abbrev pub front_of : List ℕ → List ℕ
front_of b = fields (front_widths (version_of b)) b 0

-- what follows the front
abbrev pub body : List ℕ → List ℕ
body b = drop (front_length (version_of b)) b

-- the head's numbers, in its order: bond, rate, gap, strength, moment, boards, failure time
abbrev pub head_of : List ℕ → List ℕ
head_of b = fields head_widths (body b) 0

-- c, the number of boards
abbrev pub count_of_boards : List ℕ → ℕ
count_of_boards b = get_or (head_of b) 5 0

-- n, the number of lamellae, which follows the boards
abbrev pub count_of_lamellae : List ℕ → ℕ
count_of_lamellae b = get_or (fields count_widths b (count_place (version_of b) (count_of_boards b))) 0 0

-- "The lamella bytes are read as the part that begins after the last board and the byte n."
abbrev pub lamella_part : List ℕ → List ℕ
lamella_part b = drop (lamella_place (version_of b) (count_of_boards b)) b

abbrev pub board_from : List ℕ → Board
board_from vs = record { kind = get_or vs 0 0; thickness = get_or vs 1 0; joint = get_or vs 2 0 }

-- board i of the body t, after the head
abbrev pub board_at : List ℕ → ℕ → Board
board_at t i = board_from (fields board_widths t (head_length + board_length * i))

-- the boards of the body t; more than two are refused by line 6
abbrev pub cladding_at : ℕ → List ℕ → Cladding
cladding_at zero t = Unclad
cladding_at (suc zero) t = One (board_at t 0)
cladding_at (suc (suc c)) t = Two (board_at t 0) (board_at t 1)

abbrev pub lamella_from : List ℕ → Lamella
lamella_from vs = record { direction = get_or vs 0 0; thickness = get_or vs 1 0 }

-- lamella i of the lamella bytes u
abbrev pub lamella_at : List ℕ → ℕ → Lamella
lamella_at u i = lamella_from (fields lamella_widths u (lamella_length * i))

-- the first n of them
unfoldable pub lamellae_in : List ℕ → ℕ → List Lamella
unfolding firsts
lamellae_in u n = firsts (lamella_at u) n

-- the lamellae of a record, of which an array of nine holds the first nine; more are refused by line 10
abbrev pub record_lamellae : List ℕ → List Lamella
record_lamellae b = lamellae_in (lamella_part b) (min (count_of_lamellae b) 9)

-- lamellae as a panel holds them
abbrev pub arrays_of : List Lamella → Lamellae
arrays_of ls = record { directions = directions_of ls; thicknesses = thicknesses_of ls }

-- a panel from the front's and the head's numbers, the boards, n and the lamellae; "Version 1 .. means face 0", since its front has no
-- third number
abbrev pub panel_from : List ℕ → List ℕ → Cladding → ℕ → Lamellae → Panel
panel_from front vs boards n arrays =
    record {
      version = get_or front 1 0;
      face = get_or front 2 0;
      bond = get_or vs 0 0;
      rate = get_or vs 1 0;
      gap = get_or vs 2 0;
      strength = get_or vs 3 0;
      moment = get_or vs 4 0;
      failure_time = get_or vs 6 0;
      cladding = boards;
      count = n;
      directions = arrays.directions;
      thicknesses = arrays.thicknesses;
    }

-- the panel that stands in bytes, as they are
unfoldable pub panel_in : List ℕ → Panel
panel_in b = panel_from (front_of b) (head_of b) (cladding_at (count_of_boards b) (body b)) (count_of_lamellae b) (arrays_of (record_lamellae b))

-- the panel of a record: that in what its bytes are taken for
unfoldable pub panel_of : List ℕ → Panel
panel_of b = panel_in (taken_for b)

-- Writing: the numbers of each part, in its order, and their bytes

abbrev pub record_length : Panel → ℕ
record_length p = length_with p.version (length (boards_of p.cladding)) p.count

-- "A panel keeps its version and is written in it"
abbrev pub front_numbers : Panel → List ℕ
front_numbers p = record_length p ∷ p.version ∷ only_if (eqb p.version 2) (p.face ∷ [])

abbrev pub head_numbers : Panel → List ℕ
head_numbers p =
    p.bond ∷ p.rate ∷ p.gap ∷ p.strength ∷ p.moment ∷ length (boards_of p.cladding) ∷ p.failure_time ∷ []

abbrev pub board_numbers : Board → List ℕ
board_numbers b = b.kind ∷ b.thickness ∷ b.joint ∷ []

abbrev pub lamella_numbers : Lamella → List ℕ
lamella_numbers l = l.direction ∷ l.thickness ∷ []

unfoldable pub board_bytes : List Board → List ℕ
board_bytes [] = []
board_bytes (b ∷ bs) = join board_widths (board_numbers b) ++ board_bytes bs

unfoldable pub lamella_bytes : List Lamella → List ℕ
lamella_bytes [] = []
lamella_bytes (l ∷ ls) = join lamella_widths (lamella_numbers l) ++ lamella_bytes ls

-- n, then each lamella
abbrev pub tail_bytes : Panel → List ℕ
tail_bytes p = join count_widths (p.count ∷ []) ++ lamella_bytes (lamellae p)

-- the record of a panel
unfoldable pub encode : Panel → List ℕ
encode p =
    join (front_widths p.version) (front_numbers p) ++ (join head_widths (head_numbers p) ++ (board_bytes (boards_of p.cladding) ++ tail_bytes p))
