-- The end that passed lines set, line by line: what will come out stays the same.
use Prim.Native.Nat.{ℕ, ◌<◌, ◌≤◌}
use mathlib.Core.Path.{◌≡◌, sym, ap, ◌∙◌}
use mathlib.Core.List.{List, [], ◌∷◌}
use Rattle.charring.specs.Rates.{passed_end, line_end}
use Rattle.charring.proofs.FirstRun.{line_passed, line_ahead}

module _ (deep end line r : ℕ) (all lines : List ℕ) (e : (all ≡ line ∷ lines) × (r ≡ line_end line lines)) where
  -- a line passed before t_f
  pub end_passed : line < deep → passed_end deep r lines ≡ passed_end deep end all
  end_passed h =
      ap (λ (x : ℕ). passed_end deep x lines) e.1
      ∙ sym (line_passed deep end line lines h)
      ∙ ap (passed_end deep end) (sym e.0)

  -- any other
  pub end_ahead : deep ≤ line → passed_end deep end lines ≡ passed_end deep end all
  end_ahead h = sym (line_ahead deep end line lines h) ∙ ap (passed_end deep end) (sym e.0)

pub end_found : (deep end : ℕ) (all : List ℕ) → all ≡ [] → end ≡ passed_end deep end all
unfolding passed_end
end_found deep end all e = rw e
