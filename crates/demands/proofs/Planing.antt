-- The number that the function for C answers says what document 02, 7/14, asks for. Assumes nothing.
use Prim.Native.Nat.{ℕ, zero, suc, ◌+◌, ◌*◌, ◌/◌, ◌%◌, ◌<◌}
use mathlib.Core.Path.{◌≡◌, sym, ap, subst}
use mathlib.Core.List.{List}
use native.Mathlib.Omega.{arith}
use Rattle.std.specs.Prelude.{Option, Some, None, Ok, Err}
use Rattle.planing.specs.declared.Cut.{Cut}
use Rattle.panel.specs.declared.Panel.{Panel}
use Rattle.refusals.specs.Refusals.{panel_refusal}
use Rattle.refusals.proofs.FirstLine.{answered}
use Rattle.record.specs.Layouts.{panel_of}
use Rattle.record.proofs.Records.{record_panel}
use Rattle.planing.specs.LeastCut.{IsLeastCut, IsPlaning}
use Rattle.planing.specs.Answers.{planing_of}
use Rattle.planing.proofs.CutPanels.{allowed_within}
use Rattle.planing.proofs.Planing.{planing_is}
use Rattle.card_c.specs.Planing.{record_planing, exported_cut}
use Rattle.demands.specs.Planing.{SaysOf, PlaningOf, PlaningOfC}

-- place and tenths are read off the number again
read_off : (p : Panel) (place tenths : ℕ) → panel_refusal p ≡ 0 → IsLeastCut p (record { place = place; tenths = tenths })
    → SaysOf p (1000 * place + tenths)
read_off p place tenths e h =
    let within = allowed_within p (record { place = place; tenths = tenths }) e h.lowering.allowed in
    let here = within.first in
    let few = within.most in
    says (1000 * place + tenths) (omega arith) (omega arith) (omega arith)
  where
    says : (n : ℕ) → 0 < n → n / 1000 ≡ place → n % 1000 ≡ tenths → SaysOf p n
    says (suc n) some thousands rest = subst (IsLeastCut p) (λ i. record { place = sym thousands i; tenths = sym rest i }) h
    says zero some thousands rest = elim some [ ]

of_answer : (b : List ℕ) (a : Option Cut) → record_planing b ≡ Ok a → panel_refusal (panel_of b) ≡ 0 → IsPlaning (panel_of b) a → PlaningOf b
of_answer b (Some c) same e h =
    record { number = 1000 * c.place + c.tenths; answered = ap exported_cut same; says = read_off (panel_of b) c.place c.tenths e h }
of_answer b None same e h = record { number = 0; answered = ap exported_cut same; says = h }

pub planing_of_c : PlaningOfC
unfolding record_planing
planing_of_c b e =
    let accepted = record_panel b e in
    of_answer b (planing_of (panel_of b)) (sym (answered _ Err (Ok (planing_of (panel_of b))) e)) accepted (planing_is (panel_of b) accepted)
