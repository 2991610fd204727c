-- `charring::CharringValues::effective` meets its contract: what the definition says, in the numbers of the fire. Assumes nothing.
use native.Mathlib.Omega.{arith}
use Rattle.numbers.proofs.Products.{times}
use Rattle.charring.proofs.Minutes.{bottom_is, effective_is}
use Rattle.charring.proofs.CharringValues.effective.Goals as goal

pub returns : goal.returns
returns c =
    let f = c.args.self.now in
    let at = c.args.at in
    let is = effective_is f at.n at.q c.scaled.result c.scaled-2.result c.scaled.ensures.0 c.scaled-2.ensures.0 in
    let bottom = bottom_is f.full at.q f.back c.scaled-2.result c.scaled-2.ensures.0 in
    let most = times f.full 112000 c.scaled-2.result 24000000000000 (omega arith) (omega arith) in
    record { value = cc; most = (omega (arith, bottom), omega (arith, most)) }
