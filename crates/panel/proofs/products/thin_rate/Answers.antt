-- `panel::products::thin_rate` meets its contract: greater rates keep the rule too, so what is found is the least. Assumes nothing.
use Rattle.panel.proofs.Rates.{thin_up, thin_zero}
use Rattle.panel.specs.Products.{thin_keeps, thin_rate}
use Rattle.numbers.proofs.Searching.{least_searched}
use borrow.Author.Rules.{rules}
use native.Mathlib.Omega.{arith}
use Rattle.panel.proofs.products.thin_rate.Goals as goal

pub returns : goal.returns
unfolding thin_rate
returns c =
    let h = c.args.h in
    let found = c.last_keeping.ensures in
    let below = found.below in
    (least_searched (thin_keeps h) (thin_up h) (thin_zero h) (λ n b k. search rules) found, omega arith)
