-- `limits::calls::section` meets its contract: the section is worked out of a panel that no line refuses. Assumes nothing.
use Rattle.std.proofs.Common.{◌≡◌, Bool, Ok, ap, ◌∙◌}
use Rattle.refusals.proofs.FirstLine.{accepted_with, goes_on}
use Rattle.limits.specs.Answers.{section_answer, accepted_answer}
use Rattle.refusals.specs.Refusals.{panel_refusal}
use Rattle.panel.specs.Faces.{shown}
use Rattle.panel.specs.declared.Panel.{Panel}
use Rattle.section.specs.declared.Section.{Section}
use Rattle.section.specs.Tests.{carries, section_at, depth_passes}
use mathlib.Core.Path.{ap₂}
use Rattle.limits.proofs.calls.section.Goals as goal

pub returns : goal.returns
unfolding section_answer accepted_answer
returns c =
    let a = c.args in
    let q = c.panel-exposed.result in
    let is_shown : q ≡ shown a.p = c.panel-exposed.ensures.panel ∙ c.shown.ensures ∙ ap shown (accepted_with c.in_ok-of.ensures).1 in
    let values = c.of-2.ensures in
    goes_on (panel_refusal a.p) a.p c.in_ok-of.ensures
    (ap Ok
    (ap₂ (λ (s : Section) (passes : Bool). (s, passes)) c.section_at-s.ensures
    (c.section_passes.ensures
    ∙ λ i. carries (values.factor i) (values.moment i) (values.strength i) (c.section_at-s.ensures i))
    ∙ ap (λ (x : Panel). (section_at x a.depth, depth_passes x a.depth)) is_shown))
