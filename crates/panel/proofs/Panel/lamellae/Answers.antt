-- `panel::Panel::lamellae` meets its contract: the used places, lent, are the panel's lamellae. Assumes nothing.
use borrow.Author.Rules.{rules}
use Rattle.panel.proofs.Used.{lamellae_taken}
use Rattle.panel.proofs.Panel.lamellae.Goals as goal

pub returns : goal.returns
returns c =
    let p = c.args.self.now in
    lamellae_taken p.directions p.thicknesses p.count _ (search rules)
