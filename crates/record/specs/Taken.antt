-- Document 02, 9/14: what the bytes given are taken for, before any line is judged and any number read. Everything that is said of a record
-- goes by this.
use Rattle.std.specs.Prelude.{ℕ, List, [], ◌∷◌}

-- "panel G of document 01 with moment 3,000, face 0": its version 1 record. Length 27, version 1, bond 0, rate 65, gap 0, f 240, M 3,000, no
-- boards, time 0, three lamellae
unfoldable pub g_bytes : List ℕ
g_bytes =
    0 ∷ 27 ∷ 1 ∷ 0 ∷ 65 ∷ 0 ∷ 0 ∷ 240 ∷ 0 ∷ 0 ∷ 11 ∷ 184 ∷ 0 ∷ 0 ∷ 0 ∷ 0 ∷ 0 ∷ 3
    ∷ 1 ∷ 1 ∷ 44 ∷ 0 ∷ 1 ∷ 144 ∷ 1 ∷ 1 ∷ 44 ∷ []

-- "Zero bytes now mean panel G"; one byte or more stand for themselves
unfoldable pub taken_for : List ℕ → List ℕ
taken_for [] = g_bytes
taken_for (x ∷ xs) = x ∷ xs
