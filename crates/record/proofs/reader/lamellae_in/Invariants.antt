-- `record::reader::lamellae_in` meets its contract: after i rounds the arrays hold the first i lamellae.
-- Assumes nothing.
use Rattle.record.specs.Layouts.{lamellae_in}
use Rattle.panel.specs.Lamellae.{directions_of, thicknesses_of}
use mathlib.Core.Path.{◌≡◌}
use Rattle.record.proofs.reader.lamellae_in.Given as goal

abbrev pub invariant-loop-i : goal.invariant-loop-i
invariant-loop-i l =
    (l.directions ≡ directions_of (lamellae_in l.u l.i)) × (l.thicknesses ≡ thicknesses_of (lamellae_in l.u l.i))
