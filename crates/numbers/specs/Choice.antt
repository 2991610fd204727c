-- Choosing by a test, and the range test of document 01's limits.
use Rattle.std.specs.Prelude.{ℕ, Bool, true, false, ◌||◌, ltb}

-- the first number where the test holds, else the second
abbrev pub pick : Bool → ℕ → ℕ → ℕ
pick true x y = x
pick false x y = y

-- below the least or above the greatest allowed number
abbrev pub outside : ℕ → ℕ → ℕ → Bool
outside least greatest x = ltb x least || ltb greatest x
