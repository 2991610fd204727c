-- `planing::search::first_behind` meets its contract: no lamella nearer the fire can be cut like that. Assumes nothing.
use Rattle.planing.proofs.Searching.{Lowers, LowersNot, first_found}
use Rattle.std.proofs.Common.{rules, tests}
use Rattle.std.proofs.lemmas.Iterator.{first_from_Range, serves_from_Range}
use Rattle.planing.proofs.search.first_behind.Goals as goal

pub find-requires-clause-callable : goal.find-requires-clause-callable
find-requires-clause-callable c = serves_from_Range (λ x q k. search (rules, tests)) (λ x low high. search rules)

pub returns : goal.returns
returns c =
    let p = c.args.rated.now.panel in
    let tenths = c.args.tenths in
    first_found p tenths c.find.result
    (first_from_Range _ _ _ _ (Lowers p tenths) (LowersNot p tenths) c.find.ensures.ran (λ x q k. search rules) (λ x q k. (search rules, search rules)))
