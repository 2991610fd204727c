-- How long a card is at most.
use Prim.Native.Nat.{ℕ, ◌+◌, ◌≤◌}
use mathlib.Core.List.{List, [], ◌∷◌, ◌++◌}
use lib.ListN.{length, length-append}
use native.Mathlib.Omega.{arith}
use Rattle.panel.specs.declared.Panel.{Panel}
use Rattle.panel.specs.Faces.{shown}
use Rattle.charring.specs.Depths.{micrometres_at, tenths_at}
use Rattle.text_lines.specs.Text.{text_line}
use Rattle.text_lines.proofs.Lengths.{length_line, length_time}
use Rattle.fire_card.specs.Card.{card_head, char_head, load_head, time_head, ei_head, rei_head, char_line, char_lines, load_line, seconds_line, ei_line, rei_line, rating_lines, text_of_card, card_most}

both_most : (xs ys : List ℕ) (m n : ℕ) → length xs ≤ m → length ys ≤ n → length (xs ++ ys) ≤ m + n
both_most xs ys m n h k = simp length-append (omega arith)

-- the longest card
pub card_length : (p : Panel) → length (text_of_card p) ≤ card_most
unfolding text_of_card
card_length p =
    both_most (text_line card_head (p.version ∷ []) ++ char_lines q) (rating_lines p) 168 81
    (both_most (text_line card_head (p.version ∷ [])) (char_lines q) 16 152 (length_line card_head (p.version ∷ []))
    (both_most (char_line q 30 ++ char_line q 60 ++ char_line q 90) (char_line q 120) 114 38
    (both_most (char_line q 30 ++ char_line q 60) (char_line q 90) 76 38
    (both_most (char_line q 30) (char_line q 60) 38 38 (char 30) (char 60)) (char 90)) (char 120)))
    (both_most (load_line p ++ seconds_line p ++ ei_line p) (rei_line p) 66 15
    (both_most (load_line p ++ seconds_line p) (ei_line p) 41 25
    (both_most (load_line p) (seconds_line p) 24 17 (length_line load_head _) (length_time time_head _ _)) (length_line ei_head _))
    (length_line rei_head _))
  where
    q : Panel
    q = shown p

    char : (minute : ℕ) → length (char_line q minute) ≤ 38
    char minute = length_line char_head (minute ∷ micrometres_at q minute 1 ∷ tenths_at q minute 1 ∷ [])
