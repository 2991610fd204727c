-- A test of an exact failure time, for worked cases. It is not the meaning, which is `IsFailureTime`; ExactFailure in proofs/ says that
-- what it holds of is the failure time.
use Rattle.std.specs.Prelude.{ℕ, suc, ◌*◌, Bool, not, ◌&&◌, leb, ltb, eqb}
use Rattle.panel.specs.declared.Panel.{Panel}
use Rattle.panel.specs.Products.{rate_of}
use Rattle.panel.specs.Lamellae.{lamellae, thickness}
use Rattle.section.specs.Tests.{depth_passes}
use Rattle.charring.specs.Rates.{tenth, failure_of}
use Rattle.charring.specs.Depths.{full_at, effective_at, tenths_at}
use Rattle.load.specs.LoadMinute.{every_from}

-- at n/q t_f is past, and the effective depth is k tenths, short of the back face; β is not 0
abbrev pub on_tenth : Panel → ℕ → ℕ → ℕ → Bool
on_tenth p n q k =
    ltb 0 q
    && ltb 0 (rate_of p)
    && leb (q * failure_of p) (1000 * n)
    && ltb k (thickness (lamellae p))
    && eqb (effective_at p n q) (k * (2 * tenth * (q * full_at p)))

-- every depth to k passes, and the next does not
abbrev pub last_depth : (ℕ → Bool) → ℕ → Bool
last_depth passes k = every_from passes 0 k && not (passes (suc k))

-- a test that n/q minutes are the failure time: t_f is past, the effective depth is a whole number of tenths there, all of them
-- pass, and the next does not
unfoldable pub fails_right_after : Panel → ℕ → ℕ → Bool
fails_right_after p n q = on_tenth p n q (tenths_at p n q) && last_depth (depth_passes p) (tenths_at p n q)
