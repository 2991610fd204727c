-- Within what numbers the layer step works.
use Rattle.std.specs.Prelude.{ℕ, ◌*◌}
use Rattle.basic_times.specs.Rules.{longest_time}

-- two boards and nine lamellae
abbrev pub longest_sum : ℕ
longest_sum = 11 * longest_time
