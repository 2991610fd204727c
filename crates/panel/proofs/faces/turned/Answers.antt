-- `panel::faces::turned` meets its contract: each array holds its numbers of the lamellae, from the last down. Assumes nothing.
use mathlib.Core.Path.{sym, ◌∙◌}
use borrow.Author.Rules.{rules}
use Rattle.panel.proofs.Turning.{turned_count, turned_places}
use Rattle.panel.proofs.Used.{length_lamellae_of, directions_lamellae_of, thicknesses_lamellae_of}
use Rattle.panel.specs.Lamellae.{Lamella, lamellae}
use Rattle.panel.proofs.faces.turned.Goals as goal

pub returns : goal.returns
returns c =
    let p = c.args.p in
    let n = p.count in
    let long = length_lamellae_of p.directions p.thicknesses n in
    let directions =
    c.last_first.ensures
    ∙ turned_places (λ (l : Lamella). l.direction) (lamellae p) p.directions n (directions_lamellae_of p.directions p.thicknesses n (search rules)) long in
    let thicknesses =
    c.last_first-2.ensures
    ∙ turned_places (λ (l : Lamella). l.thickness) (lamellae p) p.thicknesses n (thicknesses_lamellae_of p.directions p.thicknesses n (search rules)) long in
    λ i. record p { count = sym (turned_count p) i; directions = directions i; thicknesses = thicknesses i }
