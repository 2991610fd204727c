-- `layers::sums::ei_sum_of` meets its contract: boards, then lamellae, the last by insulation. Assumes nothing.
use Prim.Native.Nat.{ℕ, ◌+◌, ◌-◌, ◌<◌, ◌≤◌, min}
use Rattle.layers.proofs.Runs.{lamellae_lent, sum_of, more_up_to, enough_up_to}
use Rattle.basic_times.specs.declared.Role.TheVariants.{Insulation}
use Rattle.basic_times.specs.Rules.{parts_per_minute}
use Rattle.layers.specs.Layers.{Layer, with_layer, board_layer, lamella_layer, sum_after_in, ei_sum_in, ei_sum, protected_after}
use Rattle.limits.proofs.Accepted.{thicknesses_keep}
use Rattle.limits.specs.Keeps.{ThicknessKeeps}
use Rattle.panel.specs.Boards.{boards_of}
use Rattle.panel.specs.declared.Material.TheVariants.{Wood}
use Rattle.panel.specs.Lamellae.{Lamella, lamella, lamellae_of}
use Rattle.std.proofs.lemmas.List.{get_or-take, length-take}
use borrow.Author.Rules.{rules}
use lib.ListN.{get_or, length}
use mathlib.Core.List.{List, ◌++◌, map}
use mathlib.Core.Path.{◌≡◌, sym, ap, subst, ◌∙◌}
use native.Mathlib.Omega.{arith}
use Rattle.layers.specs.Kept.{SameUpTo}
use Rattle.panel.specs.declared.Panel.{Panel}
use Rattle.layers.proofs.sums.ei_sum_of.Goals as goal
use Rattle.layers.proofs.sums.ei_sum_of.Goals.{After-protected-s}

pub protected-s-requires-clause-lamellae : goal.protected-s-requires-clause-lamellae
protected-s-requires-clause-lamellae c =
    let p = c.args.p in
    let n = p.count - 1 in
    let lent = length-take n p.thicknesses in (
      omega arith,
      λ i h.
          let within : i < n = omega arith in
          subst (ThicknessKeeps Wood) (sym (get_or-take n p.thicknesses i 0 within)) (thicknesses_keep p c.requires i (omega arith)),
    )

pub with_lamella-requires : goal.with_lamella-requires
with_lamella-requires c =
    (c.protected-s.ensures.most, thicknesses_keep c.args.p c.requires (c.args.p.count - 1) (omega arith))

-- what the lamellae but the last give by protection
abbrev protected_in : Panel → ℕ
protected_in p =
    protected_after (protected_after 0 (map board_layer (boards_of p.cladding))) (map lamella_layer (lamellae_of p.directions p.thicknesses (p.count - 1)))

abbrev last_in : Panel → Layer
last_in p = lamella_layer (lamella (get_or p.directions (p.count - 1) 0) (get_or p.thicknesses (p.count - 1) 0))

so_far : (c : After-protected-s) → SameUpTo c.args.enough c.protected-s.result (protected_in c.args.p)
so_far c =
    let p = c.args.p in
    let i = p.count - 1 in
    let nine : length p.thicknesses ≡ 9 = search rules in
    let least = c.requires.count_least in
    let most = c.requires.section.count in
    c.protected-s.ensures.sum p.directions
    ∙ ap (λ (k : ℕ). min k c.args.enough)
    (ap (λ (ls : List Lamella). protected_after c.sum_of_boards.result (map lamella_layer ls)) (lamellae_lent p.directions p.thicknesses i (omega arith))
    ∙ ap (λ (k : ℕ). protected_after k (map lamella_layer (lamellae_of p.directions p.thicknesses i))) c.sum_of_boards.ensures.sum)

-- and the last by insulation
whole : (p : Panel) → 1 ≤ p.count → with_layer Insulation (protected_in p) (last_in p) ≡ ei_sum p
unfolding ei_sum_in
whole p least =
    let bs = map board_layer (boards_of p.cladding) in
    let e : p.count - 1 + 1 ≡ p.count = omega arith in
    sym (sum_of bs p.directions p.thicknesses (p.count - 1))
    ∙ ap (λ (k : ℕ). sum_after_in parts_per_minute 0 (bs ++ map lamella_layer (lamellae_of p.directions p.thicknesses k))) e

pub returns-then-s-enough-clause-sum : goal.returns-then-s-enough-clause-sum
returns-then-s-enough-clause-sum c =
    let p = c.args.p in
    ap (λ (k : ℕ). min k c.args.enough) (c.with_lamella.ensures.sum (get_or p.directions (p.count - 1) 0))
    ∙ more_up_to Insulation c.args.enough c.protected-s.result (protected_in p) (last_in p) (so_far (goal.at.returns-then-s-enough-clause-sum c).After-protected-s)
    ∙ ap (λ (k : ℕ). min k c.args.enough) (whole p c.requires.count_least)

pub returns-else-s-enough-clause-sum : goal.returns-else-s-enough-clause-sum
returns-else-s-enough-clause-sum c =
    let p = c.args.p in
    enough_up_to Insulation c.args.enough c.protected-s.result (protected_in p) (last_in p) c.if-s-enough.false
    (so_far (goal.at.returns-else-s-enough-clause-sum c).After-protected-s)
    ∙ ap (λ (k : ℕ). min k c.args.enough) (whole p c.requires.count_least)
