-- Document 01, the printed card, with what document 02, 3/14 and 5/14, adds to it.
use Rattle.std.specs.Prelude.{ℕ, List, [], ◌∷◌, ◌++◌, codes}
use Rattle.text_lines.specs.Text.{text_line, time_line}
use Rattle.panel.specs.declared.Panel.{Panel}
use Rattle.panel.specs.Faces.{shown}
use Rattle.charring.specs.Depths.{micrometres_at, tenths_at}
use Rattle.layers.specs.Layers.{printed_ei}
use Rattle.load.specs.LoadMinute.{printed_load, printed_load_seconds, minutes_in, seconds_over}
use Rattle.ratings.specs.Answers.{load_grade, ei_grade, rei_grade}

-- Line heads

abbrev pub card_head : List ℕ
card_head = codes "CARD"

abbrev pub char_head : List ℕ
char_head = codes "CHAR"

abbrev pub load_head : List ℕ
load_head = codes "R"

abbrev pub time_head : List ℕ
time_head = codes "RS"

abbrev pub ei_head : List ℕ
ei_head = codes "EI"

abbrev pub rei_head : List ℕ
rei_head = codes "REI"

abbrev pub refusal_head : List ℕ
refusal_head = codes "REFUSED"

-- Lines

-- "CHAR .. the minute, char depth (micrometres, up) and effective depth (tenths of mm, up)"
abbrev pub char_line : Panel → ℕ → List ℕ
char_line p minute = text_line char_head (minute ∷ micrometres_at p minute 1 ∷ tenths_at p minute 1 ∷ [])

-- "CHAR, always these four minutes"
abbrev pub char_lines : Panel → List ℕ
char_lines p = char_line p 30 ++ char_line p 60 ++ char_line p 90 ++ char_line p 120

-- "R and EI the minute and grade"
abbrev pub load_line : Panel → List ℕ
load_line p = text_line load_head (printed_load p ∷ (load_grade p).minutes ∷ [])

-- "The card gains a line `RS` with both numbers, two digits for the seconds, after R"
abbrev pub seconds_line : Panel → List ℕ
seconds_line p = time_line time_head (minutes_in (printed_load_seconds p)) (seconds_over (printed_load_seconds p))

-- "R and EI the minute and grade"
abbrev pub ei_line : Panel → List ℕ
ei_line p = text_line ei_head (printed_ei p ∷ (ei_grade p).minutes ∷ [])

-- "REI the grade"
abbrev pub rei_line : Panel → List ℕ
rei_line p = text_line rei_head ((rei_grade p).minutes ∷ [])

abbrev pub rating_lines : Panel → List ℕ
rating_lines p = load_line p ++ seconds_line p ++ ei_line p ++ rei_line p

-- the card of a panel: "CARD has the version"; "the CHAR lines .. are those of face 0" for 2, and "the printed minutes are the lesser of the
-- two fires"
unfoldable pub text_of_card : Panel → List ℕ
text_of_card p = text_line card_head (p.version ∷ []) ++ char_lines (shown p) ++ rating_lines p

-- no card is longer: numbers of 32 bits have at most ten digits, so that CARD has 16 bytes, a line CHAR 38, R 24, RS 17, EI 25 and REI 15
abbrev pub card_most : ℕ
card_most = 249

-- and the version, a byte, has not ten of them
abbrev pub text_room : ℕ
text_room = 248

-- "A refusal prints only `REFUSED` and its number"
abbrev pub refusal_text : ℕ → List ℕ
refusal_text n = text_line refusal_head (n ∷ [])
