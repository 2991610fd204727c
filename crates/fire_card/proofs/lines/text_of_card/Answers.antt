-- `fire_card::lines::text_of_card` meets its contract: the depths of the fire that is shown, and the lesser times. Assumes nothing.
use Rattle.std.proofs.Common.{ℕ, List, [], ◌∷◌, ◌++◌, length, arith, ap, ap₂, ◌∙◌}
use Rattle.text_lines.specs.Text.{text_line}
use Rattle.text_lines.proofs.Lengths.{line_shorter}
use Rattle.charring.proofs.Accepted.{fire_fits}
use Rattle.fire_card.specs.Card.{card_head, char_lines, rating_lines, text_of_card}
use Rattle.panel.specs.declared.Panel.{Panel}
use Rattle.fire_card.proofs.lines.text_of_card.Goals as goal

pub of-requires : goal.of-requires
of-requires c = fire_fits c.panel-2.result c.panel-2.ensures.accepted

-- the version is one digit, and so the rest has room
pub push_ratings-requires : goal.push_ratings-requires
push_ratings-requires c =
    let head = ap length (c.push_line.ensures.added ∙ ap (λ (text : List ℕ). text ++ text_line card_head (c.from.result ∷ [])) c.new-text.ensures) in
    let short = line_shorter card_head c.from.result (omega (arith, c.from.ensures, c.panel.ensures.panel, c.panel.ensures.keeps.version_most)) in
    omega (arith, head, short, c.push_chars.ensures.most)

pub returns : goal.returns
unfolding text_of_card
returns c =
    let head = c.push_line.ensures.added ∙ ap₂ (λ (text : List ℕ) (n : ℕ). text ++ text_line card_head (n ∷ [])) c.new-text.ensures (c.from.ensures ∙ ap (λ (q : Panel). q.version) c.panel.ensures.panel) in
    let chars = c.push_chars.ensures.added ∙ ap₂ (λ (text lines : List ℕ). text ++ lines) head (ap char_lines (c.of.ensures ∙ c.panel-2.ensures.panel ∙ c.shown.ensures)) in
    c.push_ratings.ensures ∙ ap₂ (λ (text : List ℕ) (q : Panel). text ++ rating_lines q) chars c.of-2.ensures
