-- Laws of turning panels of the same build.
use Prim.Native.Nat.{ℕ}
use mathlib.Core.Path.{◌≡◌, sym, ap, ◌∙◌}
use mathlib.Core.List.{reverse}
use Rattle.panel.specs.declared.Panel.{Panel}
use Rattle.panel.specs.Faces.{turned, fires, shown, least_of}
use Rattle.panel.proofs.Turning.{turned_lamellae, shown_alike, least_alike}
use Rattle.builds.specs.Builds.{SameBuild}

-- PANELS OF THE SAME BUILD are so from either face
pub turned_build : (a b : Panel) → SameBuild a b → SameBuild (turned a) (turned b)
turned_build a b h =
    record {
      boards = h.boards;
      lamellae = turned_lamellae a ∙ ap reverse h.lamellae ∙ sym (turned_lamellae b);
      face = h.face;
      bond = h.bond;
      rate = h.rate;
      gap = h.gap;
      failure_time = h.failure_time;
    }

pub shown_build : (a b : Panel) → SameBuild a b → SameBuild (shown a) (shown b)
shown_build = shown_alike SameBuild (λ a b h. h.face) turned_build

pub least_build :
    (f : Panel → ℕ) → ((a b : Panel) → SameBuild a b → f a ≡ f b) → (a b : Panel) → SameBuild a b → least_of f (fires a) ≡ least_of f (fires b)
least_build = least_alike SameBuild (λ a b h. h.face) turned_build
