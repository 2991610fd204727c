-- `planing::cuts::cut_panel` meets its contract: its lamellae are those of the cut panel. Assumes nothing.
use Prim.Native.Nat.{suc}
use Rattle.panel.proofs.Used.{lamellae_with}
use Rattle.panel.specs.Lamellae.{lamellae, with_lamellae}
use Rattle.planing.proofs.CutArrays.{cut_arrays}
use Rattle.planing.specs.Cuts.{thinned}
use borrow.Author.Rules.{rules}
use lib.ListN.{length}
use mathlib.Core.Path.{◌≡◌, sym, ap, ◌∙◌}
use native.Mathlib.Omega.{arith}
use Rattle.planing.proofs.cuts.cut_panel.Goals as goal

pub returns : goal.returns
returns c =
    let p = c.args.p in
    let at = c.args.at in
    let tenths = c.args.tenths in
    let nine : length p.thicknesses ≡ 9 = search rules in
    let cut = cut_arrays p.directions p.thicknesses p.count at tenths c.requires.within.0 (omega (arith, nine, c.requires.within.0, c.requires.within.1)) in
    ap (with_lamellae p) (cut ∙ sym (lamellae_with p (thinned (suc at) tenths (lamellae p))))
