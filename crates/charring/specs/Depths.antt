-- Document 01, "Charring" and "Remaining section": char depth and effective depth at n/q minutes. Everything at n/q is given
-- times q, so that it is whole.
use Rattle.std.specs.Prelude.{ℕ, ◌+◌, ◌-◌, ◌*◌, ◌/◌, min, max, List}
use Rattle.panel.specs.declared.Panel.{Panel}
use Rattle.charring.specs.Rates.{tenth, start_of, failure_of, plain_rate, slow_rate, back_face}
use Rattle.charring.specs.Way.{Stretch, way, charred}

-- "Before t_ch no charring. From t_ch to t_f the rate is k2·β": what has charred by n/q, up to t_f; half picometres, times q
abbrev pub under_at : Panel → ℕ → ℕ → ℕ
under_at p n q = 2 * slow_rate p * min (1000 * n - q * start_of p) (q * (failure_of p - start_of p))

-- from t_f on, on a way, and on the panel's own
abbrev pub after_on : Panel → List Stretch → ℕ → ℕ → ℕ
after_on p ss n q = charred ss (2 * plain_rate p * (1000 * n - q * failure_of p)) q

abbrev pub after_at : Panel → ℕ → ℕ → ℕ
after_at p n q = after_on p (way p) n q

-- the char depth at n/q minutes with a way from t_f on, half picometres, times q: "Depth stops at the panel's thickness."
abbrev pub char_on : Panel → List Stretch → ℕ → ℕ → ℕ
char_on p ss n q = min (under_at p n q + after_on p ss n q) (2 * q * back_face p)

-- with the panel's own
unfoldable pub char_at : Panel → ℕ → ℕ → ℕ
char_at p n q = char_on p (way p) n q

-- "k0 rises in a line from 0 at time 0 to 1 at 20 min, or at t_ch where t_ch is above 20 min, and stays 1": when it is 1,
-- thousandths of a minute
abbrev pub full_at : Panel → ℕ
full_at p = max 20000 (start_of p)

-- "Effective depth = char depth + k0·7 mm, at most the panel's thickness", by a char depth: half picometres, times q and `full_at`
abbrev pub effective_from : Panel → ℕ → ℕ → ℕ → ℕ
effective_from p char n q = min (full_at p * char + 140 * tenth * min (1000 * n) (q * full_at p)) (2 * q * full_at p * back_face p)

-- by the panel's own
unfoldable pub effective_at : Panel → ℕ → ℕ → ℕ
effective_at p n q = effective_from p (char_at p n q) n q

-- n/d rounded up
abbrev pub round_up : ℕ → ℕ → ℕ
round_up n d = (n + (d - 1)) / d

-- the char depth in micrometres, rounded up: a micrometre is 2,000,000 half picometres
abbrev pub micrometres_at : Panel → ℕ → ℕ → ℕ
micrometres_at p n q = round_up (char_at p n q) (2000000 * q)

-- an effective depth in tenths of mm, rounded up
abbrev pub in_tenths : Panel → ℕ → ℕ → ℕ
in_tenths p effective q = round_up effective (2 * tenth * (q * full_at p))

abbrev pub tenths_at : Panel → ℕ → ℕ → ℕ
tenths_at p n q = in_tenths p (effective_at p n q) q
