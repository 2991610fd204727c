-- Document 01, "Charring", sentence by sentence, about any char depth and any phase as functions of the time n/q minutes, q not 0. Of an
-- accepted panel the defined depth and phase (`char_at`, `phase_at`) keep this record, and nothing else does (proofs Stated and Fixed).
-- Depths at n/q are in half picometres, times q; marks of depth (lines, ends, the back face) in picometres.
use Rattle.std.specs.Prelude.{ℕ, ◌+◌, ◌-◌, ◌*◌, ◌≤◌, ◌<◌, min, ◌≡◌, true, false}
use mathlib.Core.List.{List, [], ◌∷◌, ◌++◌, Memᴰ}
use Rattle.panel.specs.declared.Panel.{Panel}
use Rattle.phases.specs.declared.Phase.{Phase}
use Rattle.phases.specs.declared.Phase.TheVariants.{Untouched, UnderCladding, Fast, Settled}
use Rattle.panel.specs.Lamellae.{lamellae_of, thickness}
use Rattle.charring.specs.Rates.{tenth, fast_run, start_of, failure_of, clad, plain_rate, slow_rate, back_face, bond_lines, line_end}

-- "fast up to a named end .. The end is a char depth, kept exactly in hundred-thousandths of a mm"
pub record FastUpTo (phase : Phase) (end : ℕ) : Type 0 where
  pub named : ℕ
  pub is : phase ≡ Fast named
  pub exact : 10000 * named ≡ end

-- where the first run, at t_f, ends if no bond line was passed before
pub record IsIntactEnd (p : Panel) (end : ℕ) : Type 0 where
  -- "With t_f = t_ch this ends at 2·t_f or at 25 mm of char, whichever comes earlier": by 2·t_f, 2β has charred 2β·t_f
  pub at_once : clad p.cladding ≡ true → start_of p ≡ failure_of p → end ≡ min (2 * plain_rate p * failure_of p) fast_run
  -- "With t_ch < t_f it ends at 25 mm of char"
  pub later : clad p.cladding ≡ true → start_of p < failure_of p → end ≡ fast_run
  -- "An unclad panel starts at β."
  pub unclad : clad p.cladding ≡ false → end ≡ 0

-- no line of a list was passed before t_f, where the char depth at t_f is `deep` half picometres times 1,000
abbrev pub NonePassed : ℕ → List ℕ → Type 0
NonePassed deep ls = (l : ℕ) → Memᴰ l ls → deep ≤ 2000 * l

-- of the lines of a list l is the deepest passed before t_f, and `below` are those below it
pub record DeepestPassed (deep : ℕ) (ls : List ℕ) (l : ℕ) (below : List ℕ) : Type 0 where
  pub above : List ℕ
  pub split : ls ≡ above ++ (l ∷ below)
  pub passed : 2000 * l < deep
  pub rest : NonePassed deep below

-- where the first run ends: document 02, 6/14
pub record IsFirstEnd (p : Panel) (deep end : ℕ) : Type 0 where
  -- "Where no line was passed the former rule holds."
  pub intact : NonePassed deep (bond_lines p) → IsIntactEnd p end
  -- "if lines were passed before t_f, the fast run at t_f now ends, and names its end, 25 mm past the deepest such line or at the next line,
  -- whichever is nearer"
  pub deepest : (l : ℕ) (below : List ℕ) → DeepestPassed deep (bond_lines p) l below → end ≡ line_end l below

-- the bond lines that matter (proofs Lines): where the bond falls, below the first lamellae of a panel with more. "Bond holds: lines don't
-- matter."
pub record IsBondLine (p : Panel) (l : ℕ) : Type 0 where
  pub place : ℕ
  pub falls : p.bond ≡ 1
  pub inner : place + 1 < p.count
  pub deep : l ≡ tenth * thickness (lamellae_of p.directions p.thicknesses (place + 1))

-- from `top` on each line is deeper than the one before, and the back face is deeper than all
pub data Deeper : ℕ → List ℕ → ℕ → Type 0 where
  face : {top back : ℕ} → top < back → Deeper top [] back
  next : {top l back : ℕ} {ls : List ℕ} → top < l → Deeper l ls back → Deeper top (l ∷ ls) back

-- a depth d at q: no bond line lies past a and short of d
abbrev pub NoLineWithin : Panel → ℕ → ℕ → ℕ → Type 0
NoLineWithin p a d q = (l : ℕ) → Memᴰ l (bond_lines p) → a < 2 * q * l → d ≤ 2 * q * l

-- nor at d itself
abbrev pub NoLineUpTo : Panel → ℕ → ℕ → ℕ → Type 0
NoLineUpTo p a d q = (l : ℕ) → Memᴰ l (bond_lines p) → a < 2 * q * l → d < 2 * q * l

-- no bond line is at d
abbrev pub NoLineAt : Panel → ℕ → ℕ → Type 0
NoLineAt p d q = (l : ℕ) → Memᴰ l (bond_lines p) → d ≡ 2 * q * l → ⊥

pub record Charring (p : Panel) (depth : ℕ → ℕ → ℕ) (phase : ℕ → ℕ → Phase) : Type 0 where
  -- equal times have equal phases, and a later depth is no less (so that equal times have equal depths)
  pub same : (n q r s : ℕ) → 0 < q → 0 < s → n * s ≡ r * q → phase n q ≡ phase r s
  pub rises : (n q r s : ℕ) → 0 < q → 0 < s → n * s ≤ r * q → depth n q * s ≤ depth r s * q
  -- "Before t_ch no charring."
  pub before : (n q : ℕ) → 0 < q → 1000 * n ≤ q * start_of p → depth n q ≡ 0
  -- "From t_ch to t_f the rate is k2·β", up to the thickness
  pub under :
      (n q : ℕ) → 0 < q → q * start_of p ≤ 1000 * n → 1000 * n ≤ q * failure_of p
      → depth n q ≡ min (2 * slow_rate p * (1000 * n - q * start_of p)) (2 * q * back_face p)
  -- "A clad panel then chars at 2β .. and never starts if 25 mm is reached by t_f", and behind a passed line "doesn't start if that depth is
  -- already passed". "Then β. An unclad panel starts at β.": at t_f, short of the back face and at no line, the first run starts where its
  -- end is not reached
  pub end : ℕ
  pub first : IsFirstEnd p (depth (failure_of p) 1000) end
  pub starts :
      (n q : ℕ) → 0 < q → 1000 * n ≡ q * failure_of p → depth n q < 2 * q * back_face p → NoLineAt p (depth n q) q → depth n q < 2 * q * end
      → FastUpTo (phase n q) end
  pub starts_not :
      (n q : ℕ) → 0 < q → 1000 * n ≡ q * failure_of p → depth n q < 2 * q * back_face p → NoLineAt p (depth n q) q → 2 * q * end ≤ depth n q
      → phase n q ≡ Settled
  -- "Bond falls: when the char reaches a bond line at or after t_f, a new run at 2β starts, in place of any other, and ends 25 mm past
  -- that line or at the next line. A bond line passed before t_f starts nothing."
  pub bond_line :
      (n q : ℕ) → 0 < q → q * failure_of p ≤ 1000 * n → (above : List ℕ) (l : ℕ) (below : List ℕ) → bond_lines p ≡ above ++ (l ∷ below)
      → depth n q ≡ 2 * q * l → FastUpTo (phase n q) (line_end l below)
  -- a fast phase chars at 2β up to its end, the next line and the back face
  pub fast_grows :
      (n m q e d : ℕ) → 0 < q → n ≤ m → phase n q ≡ Fast e → d ≡ depth n q + 4000 * plain_rate p * (m - n) → d ≤ 2 * q * (10000 * e)
      → NoLineWithin p (depth n q) d q → d ≤ 2 * q * back_face p → depth m q ≡ d
  -- it lasts until it comes to one of them, and gives way to β at its end: "a boundary instant belongs to the later phase"
  pub fast_lasts :
      (n m q e : ℕ) → 0 < q → n ≤ m → phase n q ≡ Fast e → depth m q < 2 * q * (10000 * e) → NoLineUpTo p (depth n q) (depth m q) q
      → depth m q < 2 * q * back_face p → phase m q ≡ Fast e
  pub fast_ends :
      (n m q e : ℕ) → 0 < q → n ≤ m → phase n q ≡ Fast e → depth m q ≡ 2 * q * (10000 * e) → NoLineUpTo p (depth n q) (depth m q) q
      → depth m q < 2 * q * back_face p → phase m q ≡ Settled
  -- a settled one chars at β up to the next line and the back face, and lasts until it comes to one of them
  pub settled_grows :
      (n m q d : ℕ) → 0 < q → n ≤ m → phase n q ≡ Settled → d ≡ depth n q + 2000 * plain_rate p * (m - n)
      → NoLineWithin p (depth n q) d q → d ≤ 2 * q * back_face p → depth m q ≡ d
  pub settled_lasts :
      (n m q : ℕ) → 0 < q → n ≤ m → phase n q ≡ Settled → NoLineUpTo p (depth n q) (depth m q) q → depth m q < 2 * q * back_face p
      → phase m q ≡ Settled
  -- "Depth stops at the panel's thickness."
  pub most : (n q : ℕ) → 0 < q → depth n q ≤ 2 * q * back_face p
  -- "untouched, under cladding", short of the back face; "a panel charred through is settled"
  pub untouched : (n q : ℕ) → 0 < q → 1000 * n < q * start_of p → phase n q ≡ Untouched
  pub under_cladding :
      (n q : ℕ) → 0 < q → q * start_of p ≤ 1000 * n → 1000 * n < q * failure_of p → depth n q < 2 * q * back_face p
      → phase n q ≡ UnderCladding
  pub through : (n q : ℕ) → 0 < q → 2 * q * back_face p ≤ depth n q → phase n q ≡ Settled
