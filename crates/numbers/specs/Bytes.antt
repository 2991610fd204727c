-- Document 01, "The panel record": "Big-endian, numbers unsigned."
-- A number stands in w bytes, the most significant first. `number` reads it, `bytes` writes it; `fields` and `join` do so for
-- several numbers in a row, so that a layout is one list of widths.
use Rattle.std.specs.Prelude.{ℕ, zero, suc, ◌+◌, ◌*◌, ◌/◌, ◌%◌, ◌^◌, ◌<◌, List, [], ◌∷◌, ◌++◌, get_or}

-- w places of b from `at` on; past the end, 0
abbrev pub places : List ℕ → ℕ → ℕ → List ℕ
places b at zero = []
places b at (suc w) = get_or b at 0 ∷ places b (at + 1) w

-- the number in the w bytes of b from place `at` on; a place past the end counts as 0
abbrev pub number : List ℕ → ℕ → ℕ → ℕ
number b at zero = 0
number b at (suc zero) = get_or b at 0
number b at (suc (suc w)) = get_or b at 0 * 256 ^ suc w + number b (at + 1) (suc w)

-- the number v in w bytes
abbrev pub bytes : ℕ → ℕ → List ℕ
bytes zero v = []
bytes (suc zero) v = v ∷ []
bytes (suc (suc w)) v = v / 256 ^ suc w ∷ bytes (suc w) (v % 256 ^ suc w)

-- the numbers that stand in b from place `at` on, one for each width
abbrev pub fields : List ℕ → List ℕ → ℕ → List ℕ
fields [] b at = []
fields (w ∷ ws) b at = number b at w ∷ fields ws b (at + w)

-- the bytes of the numbers, one for each width
abbrev pub join : List ℕ → List ℕ → List ℕ
join [] vs = []
join (w ∷ ws) [] = []
join (w ∷ ws) (v ∷ vs) = bytes w v ++ join ws vs

-- how many bytes numbers of these widths take
abbrev pub span : List ℕ → ℕ
span [] = 0
span (w ∷ ws) = w + span ws

-- every place of a list holds a byte
abbrev pub AreBytes : List ℕ → Type 0
AreBytes b = (i : ℕ) → get_or b i 0 < 256
