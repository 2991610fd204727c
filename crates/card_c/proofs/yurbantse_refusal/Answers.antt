-- `card_c::yurbantse_refusal` meets its contract: the text of a refusal is no longer than 19 bytes. Assumes nothing.
use Rattle.card_c.proofs.Numbers.{short_text}
use Rattle.card_c.specs.Exported.{Short}
use Rattle.text_lines.proofs.Lengths.{length_line}
use Rattle.fire_card.specs.Card.{refusal_head, refusal_text}
use mathlib.Core.List.{[], ◌∷◌}
use mathlib.Core.Path.{sym, subst}
use native.Mathlib.Omega.{arith}
use Rattle.card_c.proofs.yurbantse_refusal.Goals as goal

pub number_of-requires : goal.number_of-requires
number_of-requires c =
    let s = c.args in
    subst Short (sym c.refusal.ensures.value) (short_text [] (refusal_text s.n) s.out.now (let long = length_line refusal_head (s.n ∷ []) in omega (arith, long)))
