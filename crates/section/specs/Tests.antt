-- Document 01, "Remaining section": when a depth passes.
use Rattle.std.specs.Prelude.{ℕ, ◌-◌, ◌*◌, ◌≤◌, max, Bool, ◌&&◌, leb, ltb}
use Rattle.panel.specs.declared.Panel.{Panel}
use Rattle.panel.specs.Lamellae.{lamellae}
use Rattle.panel.specs.Products.{product_of, factor_of}
use Rattle.section.specs.declared.Section.{Section}
use Rattle.section.specs.Sections.{counted, section_of}
use Rattle.section.specs.Growing.{SumsTo}

-- "e the greater of P − 2N·lo and 2N·hi − P": 2N times the distance of the outermost fibre from the centroid
abbrev pub edge : Section → ℕ
edge s = max (s.p - 2 * s.n * s.lo) (2 * s.n * s.hi - s.p)

-- "4NQ − 3P²": 12N times the second moment of area about the centroid
abbrev pub inertia : Section → ℕ
inertia s = 4 * s.n * s.q - 3 * s.p * s.p

-- "The depth passes when N > 0 and 120,000·M·e ≤ 23·f·(4NQ − 3P²)", with the product's factor for 23, at the moment M (N·m) and the
-- strength f (tenths of N/mm²)
unfoldable pub carries : ℕ → ℕ → ℕ → Section → Bool
carries factor moment strength s =
    ltb 0 s.n && leb (120000 * moment * edge s) (factor * strength * inertia s)

-- the remaining section of a panel at a depth
abbrev pub section_at : Panel → ℕ → Section
section_at p depth = section_of (counted depth (lamellae p))

-- whether a depth passes under a moment, and under the panel's own
abbrev pub passes_under : ℕ → Panel → ℕ → Bool
passes_under moment p depth = carries (factor_of (product_of p.bond)) moment p.strength (section_at p depth)

abbrev pub depth_passes : Panel → ℕ → Bool
depth_passes p depth = passes_under p.moment p depth

-- the limits of lines 5, 10 and 11 within which the test fits 64 bits
pub record SectionFits (p : Panel) : Type 0 where
  pub strength : p.strength ≤ 400
  pub moment : p.moment ≤ 1000000
  pub count : p.count ≤ 9
  pub thickness : Rattle.panel.specs.Lamellae.thickness (lamellae p) ≤ 4000

-- sums over a panel of at most 400.0 mm
abbrev pub SectionBounds : Section → Type 0
SectionBounds s = SumsTo 4000 s
