-- The numbers on the lines R, RS, EI and REI of a card are the printed minutes, the printed time and the grades. Assumes nothing.
use Prim.Native.Nat.{ℕ, ◌≤◌, ◌<◌}
use mathlib.Core.Path.{◌≡◌, refl, sym, ap, ◌∙◌}
use mathlib.Core.List.{List, [], ◌∷◌, ◌++◌, append_assoc, append-nil}
use native.Mathlib.Omega.{arith}
use Rattle.panel.specs.declared.Panel.{Panel}
use Rattle.panel.specs.Faces.{shown}
use Rattle.charring.specs.Depths.{micrometres_at, tenths_at}
use Rattle.layers.specs.Layers.{printed_ei}
use Rattle.layers.proofs.EachFire.{printed_minute_lem}
use Rattle.grades.specs.Grades.{grades, grade_of}
use Rattle.grades.proofs.Greatest.{greatest_within}
use Rattle.load.specs.LoadMinute.{printed_load, printed_load_seconds, minutes_in, seconds_over}
use Rattle.load.proofs.EveryFire.{printed_most, printed_seconds_most}
use Rattle.ratings.specs.Answers.{load_grade, ei_grade, rei_grade}
use Rattle.text_lines.specs.Text.{text_line, after, first_number, second_number, number_after_colon}
use Rattle.text_lines.proofs.Reading.{after_line, after_time, first_number_lem, second_number_lem, time_minutes, time_seconds}
use Rattle.fire_card.specs.Card.{card_head, char_head, load_head, time_head, ei_head, rei_head, char_line, load_line, seconds_line, ei_line, rei_line, text_of_card}
use Rattle.demands.specs.Demand3.{from_load, printed_minute}
use Rattle.demands.specs.Seconds.{from_time, minutes_on_card, seconds_on_card}
use Rattle.demands.specs.Ratings.{from_ei, load_grade_on_card, ei_on_card, ei_grade_on_card, rei_on_card}

-- the lines of a card, one after the other
in_a_row :
    (a b c d e r t i l : List ℕ)
    → a ++ (b ++ c ++ d ++ e) ++ (r ++ t ++ i ++ l) ≡ a ++ (b ++ (c ++ (d ++ (e ++ (r ++ (t ++ (i ++ l)))))))
in_a_row a b c d e r t i l = simp append_assoc refl

-- what follows a line of the form CHAR
after_char : (p : Panel) (minute : ℕ) (rest : List ℕ) → after 10 (char_line p minute ++ rest) ≡ rest
after_char p minute rest = after_line char_head (minute ∷ micrometres_at p minute 1 ∷ tenths_at p minute 1 ∷ []) rest refl

-- a grade of at most 360 minutes has at most ten digits
grade_short : (m : ℕ) → m ≤ 360 → (grade_of m).minutes < 10000000000
grade_short m h = omega (arith, greatest_within m grades)

module _ (p : Panel) where
  abbrev q : Panel
  q = shown p

  -- the card from its line R on
  abbrev load_on : List ℕ
  load_on = load_line p ++ (seconds_line p ++ (ei_line p ++ rei_line p))

  abbrev on120 : List ℕ
  on120 = char_line q 120 ++ load_on

  abbrev on90 : List ℕ
  on90 = char_line q 90 ++ on120

  abbrev on60 : List ℕ
  on60 = char_line q 60 ++ on90

  -- which comes after five line feeds
  to_load : from_load (text_of_card p) ≡ load_on
  unfolding text_of_card
  to_load =
      ap from_load
      (in_a_row (text_line card_head (p.version ∷ [])) (char_line q 30) (char_line q 60) (char_line q 90) (char_line q 120) (load_line p) (seconds_line p)
      (ei_line p) (rei_line p))
      ∙ ap (λ (t : List ℕ). after 10 (after 10 (after 10 (after 10 t)))) (after_line card_head (p.version ∷ []) (char_line q 30 ++ on60) refl)
      ∙ ap (λ (t : List ℕ). after 10 (after 10 (after 10 t))) (after_char q 30 on60)
      ∙ ap (λ (t : List ℕ). after 10 (after 10 t)) (after_char q 60 on90)
      ∙ ap (after 10) (after_char q 90 on120)
      ∙ after_char q 120 load_on

  -- from its line RS on
  to_time : from_time (text_of_card p) ≡ seconds_line p ++ (ei_line p ++ rei_line p)
  to_time =
      ap (after 10) to_load
      ∙ after_line load_head (printed_load p ∷ (load_grade p).minutes ∷ []) (seconds_line p ++ (ei_line p ++ rei_line p)) refl

  -- from its line EI on
  to_ei : from_ei (text_of_card p) ≡ ei_line p ++ rei_line p
  to_ei =
      ap (after 10) to_time
      ∙ after_time time_head (minutes_in (printed_load_seconds p)) (seconds_over (printed_load_seconds p)) (ei_line p ++ rei_line p) (omega arith) refl

  -- and its line REI
  to_rei : after 10 (from_ei (text_of_card p)) ≡ rei_line p ++ []
  to_rei =
      ap (after 10) to_ei ∙ after_line ei_head (printed_ei p ∷ (ei_grade p).minutes ∷ []) (rei_line p) refl ∙ sym (append-nil (rei_line p))

  ei_most : printed_ei p ≤ 360
  ei_most = omega (arith, printed_minute_lem p)

  pub minute_read : printed_minute (text_of_card p) ≡ printed_load p
  minute_read =
      ap first_number to_load
      ∙ first_number_lem load_head (printed_load p) ((load_grade p).minutes ∷ []) (seconds_line p ++ (ei_line p ++ rei_line p)) refl
      (omega (arith, printed_most p))

  pub load_grade_read : load_grade_on_card (text_of_card p) ≡ (load_grade p).minutes
  load_grade_read =
      ap second_number to_load
      ∙ second_number_lem load_head (printed_load p) (load_grade p).minutes [] (seconds_line p ++ (ei_line p ++ rei_line p)) refl
      (grade_short (printed_load p) (printed_most p))

  pub minutes_read : minutes_on_card (text_of_card p) ≡ minutes_in (printed_load_seconds p)
  minutes_read =
      ap first_number to_time
      ∙ time_minutes time_head (minutes_in (printed_load_seconds p)) (seconds_over (printed_load_seconds p)) (ei_line p ++ rei_line p) refl
      (omega (arith, printed_seconds_most p))

  pub seconds_read : seconds_on_card (text_of_card p) ≡ seconds_over (printed_load_seconds p)
  seconds_read =
      ap number_after_colon to_time
      ∙ time_seconds time_head (minutes_in (printed_load_seconds p)) (seconds_over (printed_load_seconds p)) (ei_line p ++ rei_line p) (omega arith) refl

  pub ei_read : ei_on_card (text_of_card p) ≡ printed_ei p
  ei_read =
      ap first_number to_ei ∙ first_number_lem ei_head (printed_ei p) ((ei_grade p).minutes ∷ []) (rei_line p) refl (omega (arith, ei_most))

  pub ei_grade_read : ei_grade_on_card (text_of_card p) ≡ (ei_grade p).minutes
  ei_grade_read =
      ap second_number to_ei ∙ second_number_lem ei_head (printed_ei p) (ei_grade p).minutes [] (rei_line p) refl (grade_short (printed_ei p) ei_most)

  pub rei_read : rei_on_card (text_of_card p) ≡ (rei_grade p).minutes
  rei_read =
      ap first_number to_rei
      ∙ first_number_lem rei_head (rei_grade p).minutes [] [] refl (grade_short _ (omega (arith, printed_most p)))
