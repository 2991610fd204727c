-- Lamellae by their thicknesses: for bond lines directions do not matter.
use Rattle.std.specs.Prelude.{ℕ, List, map}
use Rattle.panel.specs.Lamellae.{Lamella, lamella}

abbrev pub by_thickness : List ℕ → List Lamella
by_thickness ts = map (lamella 0) ts
