-- `phases::calls::char_depth` meets its contract: what the fire that is shown gives is that of its panel. Assumes nothing.
use Rattle.phases.specs.Answers.{char_answer}
use Rattle.charring.specs.Depths.{micrometres_at}
use Rattle.panel.specs.Faces.{shown}
use Rattle.panel.specs.declared.Panel.{Panel}
use borrow.Author.Rules.{rules}
use mathlib.Core.Path.{◌≡◌, ap, ◌∙◌}
use Rattle.phases.proofs.calls.char_depth.Goals as goal

pub returns : goal.returns
unfolding char_answer
returns c =
    c.at_minute.ensures (micrometres_at (shown c.args.p) c.args.minute 1)
    (λ fire r same post.
    let given : r ≡ micrometres_at fire.panel c.args.minute 1 = search rules in
    given ∙ ap (λ (q : Panel). micrometres_at q c.args.minute 1) same)
