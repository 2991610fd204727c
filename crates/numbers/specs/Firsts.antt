-- The first values of a function, as a list: how an array's used places and a record's groups of bytes are read.
use Rattle.std.specs.Prelude.{ℕ, zero, suc, List, [], ◌∷◌, ◌++◌}

-- f 0, f 1, .. up to n of them
unfoldable pub firsts {ℓ} : {A : Type ℓ} → (ℕ → A) → ℕ → List A
firsts f zero = []
firsts f (suc i) = firsts f i ++ (f i ∷ [])
