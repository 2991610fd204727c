-- `phases::calls::effective_depth` meets its contract: what the fire that is shown gives is that of its panel. Assumes nothing.
use Rattle.phases.specs.Answers.{effective_answer}
use Rattle.charring.specs.Depths.{tenths_at}
use Rattle.panel.specs.Faces.{shown}
use Rattle.panel.specs.declared.Panel.{Panel}
use borrow.Author.Rules.{rules}
use mathlib.Core.Path.{◌≡◌, ap, ◌∙◌}
use Rattle.phases.proofs.calls.effective_depth.Goals as goal

pub returns : goal.returns
unfolding effective_answer
returns c =
    c.at_minute.ensures (tenths_at (shown c.args.p) c.args.minute 1)
    (λ fire r same post.
    let given : r ≡ tenths_at fire.panel c.args.minute 1 = search rules in
    given ∙ ap (λ (q : Panel). tenths_at q c.args.minute 1) same)
