-- The text of a card from its numbers: of R, the time in minutes and seconds, and EI, which are read off the text that is said. Assumes
-- nothing.
use Prim.Native.Nat.{ℕ, zero, suc}
use mathlib.Core.Path.{◌≡◌, refl, ap₂}
use mathlib.Core.List.{List, [], ◌∷◌, ◌++◌}
use mathlib.Core.Bool.{Bool, true, false, ◌&&◌}
use lib.Dec.{T, eqb, eqb→eq}
use Rattle.numbers.proofs.Booleans.{IsTrue-left, IsTrue-right}
use Rattle.panel.specs.declared.Panel.{Panel}
use Rattle.panel.specs.Faces.{shown}
use Rattle.grades.specs.Grades.{grade_of, rei_of}
use Rattle.layers.specs.Layers.{printed_ei}
use Rattle.load.specs.LoadMinute.{printed_load, printed_load_seconds, minutes_in, seconds_over}
use Rattle.text_lines.specs.Text.{text_line, time_line, line_feed, after, first_number, number_after_colon}
use Rattle.fire_card.specs.Card.{card_head, load_head, time_head, ei_head, rei_head, char_lines, text_of_card}

unfoldable pub same_text : List ℕ → List ℕ → Bool
same_text [] [] = true
same_text [] (y ∷ ys) = false
same_text (x ∷ xs) [] = false
same_text (x ∷ xs) (y ∷ ys) = eqb x y && same_text xs ys

pub same_text_lem : (xs ys : List ℕ) → T (same_text xs ys) → xs ≡ ys
unfolding same_text
same_text_lem [] [] t = refl
same_text_lem [] (y ∷ ys) t = elim t [ ]
same_text_lem (x ∷ xs) [] t = elim t [ ]
same_text_lem (x ∷ xs) (y ∷ ys) t =
    ap₂ (λ (z : ℕ) (zs : List ℕ). z ∷ zs) (eqb→eq x y (IsTrue-left (eqb x y) (same_text xs ys) t))
    (same_text_lem xs ys (IsTrue-right (eqb x y) (same_text xs ys) t))

-- The numbers that a text says: on its line R, after five others, RS and EI

unfoldable pub lines_after : ℕ → List ℕ → List ℕ
lines_after zero text = text
lines_after (suc k) text = after line_feed (lines_after k text)

abbrev pub load_said : List ℕ → ℕ
load_said text = first_number (lines_after 5 text)

abbrev pub seconds_said : List ℕ → ℕ
seconds_said text = number_after_colon (lines_after 6 text)

abbrev pub ei_said : List ℕ → ℕ
ei_said text = first_number (lines_after 7 text)

-- the card of a panel with these for its own
abbrev pub text_by : Panel → ℕ → ℕ → ℕ → List ℕ
text_by p r seconds ei =
    text_line card_head (p.version ∷ [])
    ++ char_lines (shown p)
    ++ (text_line load_head (r ∷ (grade_of r).minutes ∷ [])
    ++ time_line time_head r seconds
    ++ text_line ei_head (ei ∷ (grade_of ei).minutes ∷ [])
    ++ text_line rei_head ((rei_of r ei).minutes ∷ []))

pub text_found :
    (p : Panel) (r seconds ei : ℕ) → printed_load p ≡ r → minutes_in (printed_load_seconds p) ≡ r → seconds_over (printed_load_seconds p) ≡ seconds
    → printed_ei p ≡ ei
    → text_of_card p ≡ text_by p r seconds ei
unfolding text_of_card
text_found p r seconds ei load minutes over separates = λ i.
    text_line card_head (p.version ∷ [])
    ++ char_lines (shown p)
    ++ (text_line load_head (load i ∷ (grade_of (load i)).minutes ∷ [])
    ++ time_line time_head (minutes i) (over i)
    ++ text_line ei_head (separates i ∷ (grade_of (separates i)).minutes ∷ [])
    ++ text_line rei_head ((rei_of (load i) (separates i)).minutes ∷ []))
