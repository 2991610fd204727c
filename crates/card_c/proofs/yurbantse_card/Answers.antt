-- `card_c::yurbantse_card` meets its contract: the longest card fits 32 bits. Assumes nothing.
use Rattle.card_c.proofs.Numbers.{short_text}
use Rattle.card_c.specs.Exported.{Short}
use Rattle.fire_card.proofs.Cards.{card_length}
use Rattle.fire_card.specs.Card.{text_of_card}
use Rattle.record.specs.Layouts.{panel_of}
use Rattle.record.specs.Refusals.{record_lines}
use mathlib.Core.Path.{sym, subst}
use Rattle.card_c.proofs.yurbantse_card.Goals as goal

pub number_of-requires : goal.number_of-requires
number_of-requires c =
    let s = c.args in
    let p = panel_of s.bytes.now in
    subst Short (sym c.card.ensures.value)
    (short_text (record_lines s.bytes.now) (text_of_card p) s.out.now (card_length p))
