-- Depths that are tested many at once: what is still asked of them.
use Rattle.std.specs.Prelude.{ℕ, ◌+◌, ◌-◌, ◌*◌, Bool, List}
use Rattle.panel.specs.Lamellae.{Lamella}
use Rattle.panel.specs.Lent.{lamellae_in}
use Rattle.section.specs.declared.Section.{Section}
use Rattle.section.specs.declared.test.DesignValues.{DesignValues}
use Rattle.section.specs.Sections.{counted, section_of}
use Rattle.section.specs.Tests.{carries}
use Rattle.load.specs.declared.reach.Reach.{Reach}
use Rattle.load.specs.LoadMinute.{every_through}

-- whether a section passes, and a depth of lamellae, tested with values that are at hand: with a panel's own it is `passes_under` (section)
abbrev pub carries_with : DesignValues → Section → Bool
carries_with v s = carries v.factor v.moment v.strength s

abbrev pub passes_with : DesignValues → List Lamella → ℕ → Bool
passes_with v ls depth = carries_with v (section_of (counted depth ls))

-- whether every depth from the one that is reached through the last passes
abbrev pub left_passes : Reach → Bool
left_passes r = every_through (passes_with r.design (lamellae_in r.lamellae)) r.reached r.last

-- more than the ranges that are still tested: k depths that pass take away 3k and leave 2k ahead; where they do not, less is ahead
abbrev pub most_ranges : Reach → ℕ
most_ranges r = 3 * (r.last - r.reached) + r.ahead
