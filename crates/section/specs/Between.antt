-- A test of all depths from one to another at once.
use Rattle.std.specs.Prelude.{ℕ, ◌*◌, Bool, ◌&&◌, leb, ltb}
use Rattle.section.specs.declared.Section.{Section}
use Rattle.section.specs.Tests.{edge, inertia}

-- 120,000·M·e ≤ 23·f·(4NQ − 3P²) with e of the section at the shallower depth and 4NQ − 3P² of the one at the deeper. Where it holds
-- every depth between the two passes (Shrinking in proofs/); with one section twice it is `carries`
unfoldable pub carries_between : ℕ → ℕ → ℕ → Section → Section → Bool
carries_between factor moment strength shallow deep =
    ltb 0 deep.n && leb (120000 * moment * edge shallow) (factor * strength * inertia deep)
