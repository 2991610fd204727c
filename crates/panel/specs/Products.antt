-- What depends on the product that a panel is made of (document 02, 10/14): the factor of the section test, and the charring rate.
use Rattle.std.specs.Prelude.{ℕ, ◌*◌, ◌≤◌, ◌≡◌, List, [], ◌∷◌, Bool, true, false, ◌&&◌, eqb, leb, ltb}
use Rattle.numbers.specs.Choice.{pick}
use Rattle.numbers.specs.Least.{least}
use Rattle.panel.specs.declared.Panel.{Panel}
use Rattle.panel.specs.declared.Product.{Product}
use Rattle.panel.specs.declared.Product.TheVariants.{Clt, Lvl}
use Rattle.panel.specs.Lamellae.{Lamella, lamellae, along, thickness}

-- "Bond value 2 .. means an LVL panel"
abbrev pub product_of : ℕ → Product
product_of bond = elim (eqb bond 2) [ true ↦ Lvl | false ↦ Clt ]

abbrev pub is_lvl : Product → Bool
is_lvl Clt = false
is_lvl Lvl = true

-- k_fi of EN 1995-1-2 in twentieths: "23/20 is the 1.15 for glued-laminated timber"; of LVL "22 in place of 23"
abbrev pub factor_of : Product → ℕ
factor_of Clt = 23
factor_of Lvl = 22

-- "rate byte 65"
abbrev pub lvl_rate : ℕ
lvl_rate = 65

-- "thinner than 20.0 mm"
abbrev pub thin : ℕ → Bool
thin h = ltb h 200

-- "n hundredths of mm/min with n²·h ≥ 65²·200, h in tenths"
abbrev pub thin_keeps : ℕ → ℕ → Bool
thin_keeps h n = leb (65 * 65 * 200) (n * n * h)

-- "the least whole n"; no panel of 10.0 mm or more wants more than 92
unfoldable pub thin_rate : ℕ → ℕ
thin_rate h = least (thin_keeps h) 100

-- β of a panel of the rate that its record gives and of the thickness h, hundredths of mm/min: that of the record, but "One thinner than
-- 20.0 mm has as β the least whole n"
unfoldable pub rate_by : Product → ℕ → ℕ → ℕ
rate_by product rate h = pick (is_lvl product && thin h) (thin_rate h) rate

-- the thickness is that of the whole panel
abbrev pub rate_of : Panel → ℕ
rate_of p = rate_by (product_of p.bond) p.rate (thickness (lamellae p))

-- "all lamellae along"
abbrev pub AllAlong : List Lamella → Type 0
AllAlong [] = Unit
AllAlong (l ∷ ls) = (along l ≡ true) × AllAlong ls

-- what the rate of a thin LVL panel of the thickness h must be, with no search in it; that `thin_rate` is that, and that there is one, are
-- theorems
pub record IsThinRate (h n : ℕ) : Type 0 where
  pub enough : 65 * 65 * 200 ≤ n * n * h
  pub least : (m : ℕ) → 65 * 65 * 200 ≤ m * m * h → n ≤ m
