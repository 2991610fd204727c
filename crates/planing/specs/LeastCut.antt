-- Document 02, 7/14: what the answer must be. "Find the smallest number of tenths of mm that, taken off one lamella alone, lowers the
-- REI grade"; "The answer is none only if no such cut of any lamella lowers the grade, and no smaller cut of any lamella lowers it."
use Rattle.std.specs.Prelude.{ℕ, zero, suc, ◌≤◌, ◌<◌, ◌≡◌, true, Option, Some, None}
use Rattle.panel.specs.declared.Panel.{Panel}
use Rattle.planing.specs.declared.Cut.{Cut}

-- "such cut": it is allowed and lowers the grade
pub record LoweringCut (p : Panel) (c : Cut) : Type 0 where
  pub allowed : Rattle.planing.specs.Cuts.allowed p c ≡ true
  pub lowers : Rattle.planing.specs.Cuts.lowers p c ≡ true

-- the lamella at place a is nearer the fire than the one at b, by the face: from the last face the higher place is nearer. "for face 2
-- nearest the first face"
abbrev pub NearerOn : ℕ → ℕ → ℕ → Type 0
NearerOn zero a b = a < b
NearerOn (suc zero) a b = b < a
NearerOn (suc (suc face)) a b = a < b

-- the cut that is answered
pub record IsLeastCut (p : Panel) (c : Cut) : Type 0 where
  pub lowering : LoweringCut p c
  -- "the smallest number of tenths"
  pub least : (d : Cut) → LoweringCut p d → c.tenths ≤ d.tenths
  -- "with equal amounts it is the one nearest the fire"
  pub nearest : (d : Cut) → LoweringCut p d → d.tenths ≡ c.tenths → NearerOn p.face d.place c.place → ⊥

abbrev pub NoneLowers : Panel → Type 0
NoneLowers p = (c : Cut) → LoweringCut p c → ⊥

-- what each answer says of an accepted panel
abbrev pub IsPlaning : Panel → Option Cut → Type 0
IsPlaning p (Some c) = IsLeastCut p c
IsPlaning p None = NoneLowers p
