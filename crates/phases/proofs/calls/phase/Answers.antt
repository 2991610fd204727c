-- `phases::calls::phase` meets its contract: what the fire that is shown gives is that of its panel. Assumes nothing.
use Rattle.phases.specs.Answers.{phase_answer}
use Rattle.phases.specs.Phases.{phase_at}
use Rattle.panel.specs.Faces.{shown}
use Rattle.panel.specs.declared.Panel.{Panel}
use borrow.Author.Rules.{rules}
use mathlib.Core.Path.{◌≡◌, ap, ◌∙◌}
use Rattle.phases.proofs.calls.phase.Goals as goal

pub returns : goal.returns
unfolding phase_answer
returns c =
    c.at_minute.ensures (phase_at (shown c.args.p) c.args.minute 1)
    (λ fire r same post.
    let given : r ≡ phase_at fire.panel c.args.minute 1 = search rules in
    given ∙ ap (λ (q : Panel). phase_at q c.args.minute 1) same)
