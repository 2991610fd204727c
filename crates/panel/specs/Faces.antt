-- Document 02, 3/14: "a face byte after the version: 0 first face, 1 last face, 2 each alone".
use Rattle.std.specs.Prelude.{ℕ, zero, suc, min, List, [], ◌∷◌, reverse, Bool, true, ◌&&◌}
use Rattle.panel.specs.declared.Panel.{Panel}
use Rattle.panel.specs.Lamellae.{lamellae, with_lamellae}

-- "Turning reverses the lamellae; the cladding is the same on both faces, and boards on the far face are no layer."
abbrev pub turned : Panel → Panel
turned p = with_lamellae p (reverse (lamellae p))

-- the fires of a panel by its face, above 2 of which line 16 refuses. A fire is given as the panel that has it on its first face, so
-- that whatever is said of a panel's depths, section, layers and load minute is said of one fire
abbrev pub fires_on : ℕ → Panel → List Panel
fires_on zero p = p ∷ []
fires_on (suc zero) p = turned p ∷ []
fires_on (suc (suc face)) p = p ∷ turned p ∷ []

abbrev pub fires : Panel → List Panel
fires p = fires_on p.face p

-- the fire that is shown: for 2 "the depth table, the CHAR lines, the phase and the section at a depth are those of face 0"
abbrev pub shown_on : ℕ → Panel → Panel
shown_on zero p = p
shown_on (suc zero) p = turned p
shown_on (suc (suc face)) p = p

abbrev pub shown : Panel → Panel
shown p = shown_on p.face p

-- what holds in every fire
abbrev pub InEvery : (Panel → Type 0) → List Panel → Type 0
InEvery Holds [] = Unit
InEvery Holds (fire ∷ []) = Holds fire
InEvery Holds (fire ∷ next ∷ more) = Holds fire × InEvery Holds (next ∷ more)

-- a test that holds in every fire
abbrev pub in_every : (Panel → Bool) → List Panel → Bool
in_every test [] = true
in_every test (fire ∷ []) = test fire
in_every test (fire ∷ next ∷ more) = test fire && in_every test (next ∷ more)

-- "For 2 the printed minutes are the lesser of the two fires"
abbrev pub least_of : (Panel → ℕ) → List Panel → ℕ
least_of minute [] = 0
least_of minute (fire ∷ []) = minute fire
least_of minute (fire ∷ next ∷ more) = min (minute fire) (least_of minute (next ∷ more))
