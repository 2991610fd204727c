-- What is tested of each case of an enum holds of every one, where no case holds anything. The cases are those that the kit's module of the enum
-- lists (`parts`), so that no law has to name them.
use mathlib.Core.Logic.{inl, inr}
use mathlib.Core.Bool.{Bool, true, false, ◌&&◌}
use mathlib.Core.List.{List, [], ◌∷◌}
use lib.Dec.{T}
use denote.Struct.Field.{Field}
use denote.Enum.Declared.{Choice}
use Rattle.numbers.proofs.Booleans.{IsTrue-left, IsTrue-right}

-- the test of each case, one after the other
abbrev pub every_case : (parts : List (List Field)) → (Choice parts → Bool) → Bool
every_case [] test = true
every_case ([] ∷ more) test = test (inl tt) && every_case more (λ c. test (inr c))
every_case ((f ∷ fs) ∷ more) test = false

pub every_case_lem : (parts : List (List Field)) (test : Choice parts → Bool) → T (every_case parts test) → (c : Choice parts) → T (test c)
every_case_lem [] test t c = absurd c
every_case_lem ([] ∷ more) test t (inl v) = IsTrue-left (test (inl tt)) (every_case more (λ c. test (inr c))) t
every_case_lem ([] ∷ more) test t (inr c) = every_case_lem more (λ d. test (inr d)) (IsTrue-right (test (inl tt)) (every_case more (λ d. test (inr d))) t) c
every_case_lem ((f ∷ fs) ∷ more) test t c = absurd t
