-- What a layer is made of, and the thicknesses that it may have, in tenths of mm.
use Rattle.std.specs.Prelude.{ℕ, Bool}
use Rattle.numbers.specs.Choice.{outside}
use Rattle.panel.specs.declared.Material.{Material}
use Rattle.panel.specs.declared.Material.TheVariants.{Gypsum, Wood, Osb, ParticleBoard}

-- boards of gypsum: "thickness outside 90 to 250"; lamellae, as solid wood: "thickness outside 100 to 600"; boards of OSB and particle
-- board: "20.0 to 40.0 mm"
abbrev pub thinnest : Material → ℕ
thinnest Gypsum = 90
thinnest Wood = 100
thinnest Osb = 200
thinnest ParticleBoard = 200

abbrev pub thickest : Material → ℕ
thickest Gypsum = 250
thickest Wood = 600
thickest Osb = 400
thickest ParticleBoard = 400

-- no layer of the material has the thickness h
abbrev pub bad_thickness : Material → ℕ → Bool
bad_thickness m h = outside (thinnest m) (thickest m) h
