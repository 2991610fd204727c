-- `layers::kept::given_in` meets its contract: each lamella adds at most the longest time. Assumes nothing.
use Rattle.limits.proofs.Accepted.{thicknesses_keep}
use native.Mathlib.Omega.{arith}
use Rattle.layers.proofs.kept.given_in.Goals as goal

pub of-lamella-requires : goal.of-lamella-requires
of-lamella-requires c =
    let p = c.args.p in
    let within = c.loop-at-test.true in
    let most = c.loop-at.invariant in
    let nine = c.requires.0.section in
    (omega arith, thicknesses_keep p c.requires.0 c.loop-at.at (omega arith))
