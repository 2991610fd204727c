-- The lamellae that are lent to a function, as the list that a panel's are.
use Rattle.std.specs.Prelude.{List, length}
use Rattle.panel.specs.declared.lamellae.Lamellae.{Lamellae}
use Rattle.panel.specs.Lamellae.{Lamella, lamellae_of}

abbrev pub lamellae_in : Lamellae → List Lamella
lamellae_in l = lamellae_of l.directions.now l.thicknesses.now (length l.directions.now)
