-- Document 02, 10/14, sentence by sentence: what the product decides of a panel. Everything else is said of both products alike, in the
-- other files of this crate too, by the factor and the rate.
use Rattle.std.specs.Prelude.{ℕ, ◌≤◌, ◌<◌, ◌≡◌, List, []}
use Rattle.panel.specs.declared.Panel.{Panel}
use Rattle.panel.specs.Faces.{fires, InEvery}
use Rattle.panel.specs.Lamellae.{lamellae, thickness}
use Rattle.panel.specs.Products.{rate_of, AllAlong, IsThinRate}
use Rattle.section.specs.Tests.{carries, section_at, passes_under}
use Rattle.record.specs.Layouts.{panel_of}
use Rattle.record.specs.Refusals.{record_refusal}
use Rattle.charring.specs.Rates.{bond_lines}
use Rattle.charring.specs.Depths.{char_at}
use Rattle.phases.specs.Phases.{phase_at}
use Rattle.layers.specs.Layers.{ei_sum}

-- the section is tested with this factor, at every depth and under every moment
abbrev pub TestedWith : ℕ → Panel → Type 0
TestedWith factor p = (moment depth : ℕ) → passes_under moment p depth ≡ carries factor moment p.strength (section_at p depth)

-- a CLT panel of the same lamellae and boards, whose bond holds, at a rate
abbrev pub as_clt : ℕ → Panel → Panel
as_clt rate p = record p { bond = 0; rate = rate }

-- of an LVL panel, in one fire
pub record LvlPanel (p : Panel) : Type 0 where
  -- "all lamellae along, rate byte 65, no bond lines, and 22 in place of 23 in the section test"
  pub along : AllAlong (lamellae p)
  pub rate_byte : p.rate ≡ 65
  pub no_lines : bond_lines p ≡ []
  pub factor : TestedWith 22 p
  -- "One thinner than 20.0 mm has as β the least whole n hundredths of mm/min with n²·h ≥ 65²·200": β is one, and there is no other
  pub thin : thickness (lamellae p) < 200 → IsThinRate (thickness (lamellae p)) (rate_of p)
  pub one : thickness (lamellae p) < 200 → (n : ℕ) → IsThinRate (thickness (lamellae p)) n → n ≡ rate_of p
  -- any other has that of its record
  pub thick : 200 ≤ thickness (lamellae p) → rate_of p ≡ 65
  -- "shared by both products through the factor and the rate": it chars as CLT of its rate does
  pub depths : (n q : ℕ) → char_at p n q ≡ char_at (as_clt (rate_of p) p) n q
  pub phases : (n q : ℕ) → phase_at p n q ≡ phase_at (as_clt (rate_of p) p) n q
  -- "Layer times use the wood tables", as those of CLT do
  pub layers : ei_sum p ≡ ei_sum (as_clt (rate_of p) p)

-- of a CLT panel, in one fire
pub record CltPanel (p : Panel) : Type 0 where
  pub rate : rate_of p ≡ p.rate
  pub factor : TestedWith 23 p

pub record OfProduct (p : Panel) : Type 0 where
  -- "Bond value 2 .. means an LVL panel"
  pub lvl : p.bond ≡ 2 → InEvery LvlPanel (fires p)
  pub clt : (p.bond ≡ 2 → ⊥) → InEvery CltPanel (fires p)

-- for the bytes b of every accepted record
abbrev pub EveryProduct : Type 0
EveryProduct = (b : List ℕ) → record_refusal b ≡ 0 → OfProduct (panel_of b)
