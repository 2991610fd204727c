-- `panel::faces::last_first` meets its contract: the places that are not used keep what all held at first. Assumes nothing.
use mathlib.Core.Path.{ap, ap₂, ◌∙◌}
use mathlib.Core.List.{List, ◌++◌, reverse}
use Rattle.std.proofs.lemmas.List.{drop-replicate}
use Rattle.panel.proofs.faces.last_first.Goals as goal

pub returns : goal.returns
returns g c =
    ap₂ (λ (xs ys : List g.row.T.Denot). xs ++ ys) (c.reverse.ensures.after ∙ ap reverse c.copy_from_slice.ensures.after)
    (drop-replicate c.args.count 9 c.args.unused)
