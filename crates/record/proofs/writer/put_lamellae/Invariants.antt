-- `record::writer::put_lamellae` meets its contract: after i rounds the first i lamellae are stored, and the others are left.
-- Assumes nothing.
use Prim.Native.Nat.{◌≤◌}
use Rattle.panel.specs.Lamellae.{lamellae_of}
use Rattle.record.specs.Layouts.{lamella_bytes}
use Rattle.std.specs.Iterator.Adapters.{zip_first, zip_second}
use Rattle.std.specs.Slice.Iter.{iter_rest}
use lib.ListN.{length, drop}
use lib.Seq.{sets}
use mathlib.Core.Path.{◌≡◌}
use Rattle.record.proofs.writer.put_lamellae.Given as goal

abbrev pub invariant-loop-i : goal.invariant-loop-i
invariant-loop-i l =
    (l.out ≡ sets l.initial.out 0 (lamella_bytes (lamellae_of l.lamellae.directions.now l.lamellae.thicknesses.now l.i-iterator.count)))
    × (iter_rest (zip_first l.i-iterator.iter) ≡ drop l.i-iterator.count l.lamellae.directions.now)
    × (iter_rest (zip_second l.i-iterator.iter) ≡ drop l.i-iterator.count l.lamellae.thicknesses.now)
    × (l.i-iterator.count ≤ length l.lamellae.directions.now)
