-- `record::calls::read` meets its contract: the panel is handed out where no line fits. Assumes nothing.
use Rattle.std.proofs.Common.{ℕ, List, ◌∙◌}
use Rattle.refusals.specs.Lines.{refusal, unless_refused}
use Rattle.refusals.specs.Refusals.{table_lines}
use Rattle.refusals.specs.declared.ByteFaults.{ByteFaults}
use Rattle.panel.specs.declared.Panel.{Panel}
use Rattle.record.specs.Answers.{decode}
use Rattle.record.specs.Layouts.{panel_in, panel_of}
use Rattle.record.specs.Refusals.{lines_in, record_refusal}
use mathlib.Core.Path.{ap, ap₂}
use Rattle.record.proofs.calls.read.Goals as goal

pub returns : goal.returns
unfolding decode record_refusal panel_of
returns c =
    c.in_bytes.ensures
    ∙ ap₂ (λ (f : ByteFaults) (p : Panel). unless_refused (refusal (table_lines f p)) p) c.byte_faults.ensures c.panel_in.ensures
    ∙ ap (λ (b : List ℕ). unless_refused (refusal (lines_in b)) (panel_in b)) c.taken_for-record.ensures
