-- Unused places do not matter: panels that differ at most there meet the same lines.
use mathlib.Core.Path.{◌≡◌, refl, ap}
use mathlib.Core.List.{List}
use Rattle.panel.specs.declared.Panel.{Panel}
use Rattle.panel.specs.Lamellae.{SameUsed}
use Rattle.panel.proofs.Used.{lamellae_cleared, count_cleared, unused}
use Rattle.refusals.specs.Lines.{Line, refusal, down_to}
use Rattle.refusals.specs.Refusals.{panel_lines, panel_refusal, refusal_before_section}

-- they meet the same lines
pub lines_unused : (p q : Panel) → SameUsed p q → panel_lines p ≡ panel_lines q
lines_unused = unused panel_lines (λ p. rw (lamellae_cleared p, count_cleared p) refl)

pub refusal_unused : (p q : Panel) → SameUsed p q → panel_refusal p ≡ panel_refusal q
unfolding panel_refusal
refusal_unused p q h = ap refusal (lines_unused p q h)

pub to12_unused : (p q : Panel) → SameUsed p q → refusal_before_section p ≡ refusal_before_section q
unfolding refusal_before_section
to12_unused p q h = ap (λ (ls : List Line). refusal (down_to 12 ls)) (lines_unused p q h)
