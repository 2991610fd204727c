-- `refusals::causes::some_bad_lamella` meets its contract: the pairs of numbers are the lamellae. Assumes nothing.
use Prim.Native.Nat.{ℕ}
use mathlib.Core.Path.{◌≡◌, sym, ap, ◌∙◌}
use borrow.Author.Rules.{rules}
use borrow.Author.Tests.{tests}
use Rattle.std.specs.List.{list_any, zip}
use Rattle.std.proofs.lemmas.Iterator.{YieldsList-from_slice, YieldsList-from_zip}
use Rattle.std.proofs.lemmas.Iterator.Search.{any_from_yields_List}
use Rattle.panel.proofs.Lent.{pairs_in}
use Rattle.panel.specs.Lamellae.{lamella}
use Rattle.refusals.proofs.Tests.{some_map}
use Rattle.refusals.specs.Causes.{some, bad_lamella}
use Rattle.refusals.proofs.causes.some_bad_lamella.Goals as goal

pub returns : goal.returns
returns c =
    let l = c.args.lamellae in
    let pairs = zip l.directions.now l.thicknesses.now in
    let any : c.any.result ≡ list_any (λ (p : ℕ × ℕ). bad_lamella (lamella p.0 p.1)) pairs =
    any_from_yields_List (λ (p : ℕ × ℕ). bad_lamella (lamella p.0 p.1)) c.any.new.self _ c.any.result c.any.ensures.ran
    (YieldsList-from_zip (YieldsList-from_slice l.directions.now (search rules)) (YieldsList-from_slice l.thicknesses.now (search rules)))
    (λ x b q k. search (rules, tests)) in
    any ∙ sym (ap (some bad_lamella) (pairs_in l) ∙ some_map bad_lamella (λ (p : ℕ × ℕ). lamella p.0 p.1) pairs)
