-- `charring::CharringValues::char` meets its contract: what chars up to t_f, and what chars from then on. Assumes nothing.
use native.Mathlib.Omega.{arith}
use Rattle.charring.proofs.Minutes.{char_is}
use Rattle.charring.proofs.CharringValues.char.Goals as goal

pub returns : goal.returns
returns c =
    let f = c.args.self.now in
    let at = c.args.at in
    let is = char_is f at.n at.q c.min-slow.result c.scaled-3.result (cc) c.scaled-3.ensures.0 in
    (cc, omega arith)
