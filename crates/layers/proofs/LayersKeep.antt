-- The layers of a panel that keeps its limits: each board keeps line 8, each lamella line 11.
use mathlib.Core.List.{List, [], ◌∷◌, ◌++◌, map}
use Rattle.panel.specs.declared.Cladding.{Cladding}
use Rattle.panel.specs.declared.Cladding.TheVariants.{Unclad, One, Two}
use Rattle.panel.specs.declared.Panel.{Panel}
use Rattle.panel.specs.Boards.{boards_of}
use Rattle.panel.specs.Lamellae.{Lamella, lamellae}
use Rattle.limits.specs.Keeps.{BoardKeeps, CladdingKeeps, LamellaKeeps, LamellaeKeep, Keeps}
use Rattle.layers.specs.Layers.{Layer, board_layer, lamella_layer, layers_of}

abbrev pub LayerKeeps : Layer → Type 0
LayerKeeps (board_layer b) = BoardKeeps b
LayerKeeps (lamella_layer l) = LamellaKeeps l

abbrev pub LayersKeep : List Layer → Type 0
LayersKeep [] = Unit
LayersKeep (x ∷ xs) = LayerKeeps x × LayersKeep xs

lamellae_keep : (ls : List Lamella) → LamellaeKeep ls → LayersKeep (map lamella_layer ls)
lamellae_keep [] h = tt
lamellae_keep (l ∷ ls) h = (h.0, lamellae_keep ls h.1)

behind_boards : (c : Cladding) (xs : List Layer) → CladdingKeeps c → LayersKeep xs → LayersKeep (map board_layer (boards_of c) ++ xs)
behind_boards Unclad xs h k = k
behind_boards (One b) xs h k = (h, k)
behind_boards (Two outer inner) xs h k = (h.0, (h.1, k))

pub layers_keep : (p : Panel) → Keeps p → LayersKeep (layers_of p)
layers_keep p k = behind_boards p.cladding (map lamella_layer (lamellae p)) k.boards (lamellae_keep (lamellae p) k.each)
