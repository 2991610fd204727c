-- What holds of a panel that no line refuses, as inequalities: the limits that later calls work within.
use Rattle.std.proofs.lemmas.Bool.{or_parts}
use Prim.Native.Nat.{ℕ, zero, suc, ◌*◌, ◌<◌, ◌≤◌}
use mathlib.Core.Path.{◌≡◌, refl, subst}
use mathlib.Core.List.{List, [], ◌∷◌}
use mathlib.Core.Bool.{Bool, true, false, not, ◌&&◌, ◌||◌}
use native.Mathlib.Omega.{arith}
use borrow.Author.Tests.{ltb-false, not-false, eqb-true, eqb-false, eq-eqb}
use lib.ListN.{length, get_or}
use lib.Dec.{ltb, eqb}
use native.Mathlib.Nat.{le_trans, le-add_right}
use Rattle.numbers.specs.Choice.{pick, outside}
use Rattle.numbers.proofs.Booleans.{not_both, in_range}
use Rattle.panel.specs.declared.Board.{Board}
use Rattle.panel.specs.declared.Cladding.{Cladding}
use Rattle.panel.specs.declared.Cladding.TheVariants.{Unclad, One, Two}
use Rattle.panel.specs.declared.Panel.{Panel}
use Rattle.panel.specs.Lamellae.{Lamella, lamella, lamellae, lamellae_of, across, thickness}
use Rattle.panel.specs.Products.{product_of, is_lvl, lvl_rate, AllAlong}
use Rattle.panel.specs.declared.Material.{Material}
use Rattle.panel.specs.declared.Material.TheVariants.{Wood}
use Rattle.panel.specs.Materials.{thinnest, thickest, bad_thickness}
use Rattle.panel.specs.Boards.{known, wood_based, material_of, is_f, type_f, whole_joint, gap_loss, inner_gain, charring_start}
use Rattle.panel.proofs.Used.{length_lamellae_of, get_or_lamellae_of}
use Rattle.panel.proofs.Thicknesses.{thinnest_least}
use Rattle.section.specs.Tests.{SectionFits}
use Rattle.refusals.specs.Lines.{down_to}
use Rattle.refusals.specs.Causes.{bad_types, bad_board, bad_boards, bad_lamella, bad_lvl, some}
use Rattle.refusals.specs.Refusals.{panel_lines, panel_refusal, refusal_before_section}
use Rattle.limits.specs.Keeps.{ThicknessKeeps, TypesKeep, BoardKeeps, CladdingKeeps, LamellaKeeps, LamellaeKeep, LvlKeeps, ThicknessesKeep, Keeps, StartWhole}
use Rattle.refusals.proofs.FirstLine.{cause_none}
use Rattle.refusals.proofs.PanelTable.{section_fits, accepted_before_section}

-- what each line leaves
pub thickness_keeps : (m : Material) (h : ℕ) → bad_thickness m h ≡ false → ThicknessKeeps m h
thickness_keeps m h e =
    let within = in_range (thinnest m) (thickest m) h e in
    record { least = within.0; most = within.1 }

types_keep : (c : Cladding) → bad_types c ≡ false → TypesKeep c
types_keep Unclad e = tt
types_keep (One b) e = tt
types_keep (Two outer inner) e =
    let types =
    not (known outer) || not (known inner) || (is_f outer && not (is_f inner)) || (not (is_f outer) && is_f inner) in
    let first = or_parts (types || wood_based outer) (wood_based inner) e in
    ((or_parts types (wood_based outer) first.0).1, first.1)

board_keeps : (b : Board) → bad_board b ≡ false → BoardKeeps b
board_keeps b e =
    let both = or_parts (bad_thickness (material_of b.kind) b.thickness) (outside 1 whole_joint b.joint) e in
    let joint = in_range 1 whole_joint b.joint both.1 in
    record {
      thickness = thickness_keeps (material_of b.kind) b.thickness both.0;
      joint_least = joint.0;
      joint_most = joint.1;
    }

cladding_keeps : (c : Cladding) → bad_boards c ≡ false → CladdingKeeps c
cladding_keeps Unclad e = tt
cladding_keeps (One b) e = board_keeps b e
cladding_keeps (Two outer inner) e =
    let both = or_parts (bad_board outer) (bad_board inner) e in
    (board_keeps outer both.0, board_keeps inner both.1)

given_keeps :
    (f : Bool) (start given : ℕ) → ((f && outside start 360000 given) || (not f && not (eqb given 0))) ≡ false
    → (f ≡ true → (start ≤ given) × (given ≤ 360000)) × (f ≡ false → given ≡ 0)
given_keeps true start given e =
    (λ _. in_range start 360000 given (or_parts (outside start 360000 given) false e).0, λ f. absurd (not_both true refl f))
given_keeps false start given e =
    (λ f. absurd (not_both false f refl), λ _. eqb-true given 0 (not-false (eqb given 0) e))

lamellae_keep : (ls : List Lamella) → some bad_lamella ls ≡ false → LamellaeKeep ls
unfolding some
lamellae_keep [] e = tt
lamellae_keep (l ∷ ls) e =
    let both = or_parts (bad_lamella l) (some bad_lamella ls) e in
    let one = or_parts (ltb 1 l.direction) (bad_thickness Wood l.thickness) both.0 in (
      record { direction = ltb-false 1 l.direction one.0; thickness = thickness_keeps Wood l.thickness one.1 },
      lamellae_keep ls both.1,
    )

-- of lamellae that are no other than across or along, where none is across, all are along
all_along : (ls : List Lamella) → LamellaeKeep ls → some across ls ≡ false → AllAlong ls
unfolding some
all_along [] k e = tt
all_along (l ∷ ls) k e =
    let both = or_parts (across l) (some across ls) e in
    let one : l.direction ≡ 1 = omega (arith, k.0.direction, eqb-false l.direction 0 both.0) in
    (eq-eqb l.direction 1 one, all_along ls k.1 both.1)

lvl_keeps : (p : Panel) → LamellaeKeep (lamellae p) → bad_lvl p ≡ false → is_lvl (product_of p.bond) ≡ true → LvlKeeps p
lvl_keeps p k e lvl =
    let both = or_parts (some across (lamellae p)) (not (eqb p.rate lvl_rate)) (rw lvl at e) in
    record { along = all_along (lamellae p) k both.0; rate = eqb-true p.rate lvl_rate (not-false (eqb p.rate lvl_rate) both.1) }

-- a panel that no line above 13 refuses keeps every limit
pub to12_keeps : (p : Panel) → refusal_before_section p ≡ 0 → Keeps p
unfolding refusal_before_section
to12_keeps p e =
    let none = cause_none (down_to 12 (panel_lines p)) tt e in
    let version = in_range 1 2 p.version (none 2) in
    let sixteen = or_parts (ltb 2 p.face) (eqb p.version 1 && not (eqb p.face 0)) (none 16) in
    let three = or_parts (ltb 2 p.bond) (ltb 1 p.gap) (none 3) in
    let rate = in_range 50 100 p.rate (none 4) in
    let load = or_parts (outside 1 400 p.strength) (ltb 1000000 p.moment) (none 5) in
    let time = given_keeps (type_f p.cladding) (charring_start p.gap p.cladding) p.failure_time (none 9) in
    let thick = or_parts (some bad_lamella (lamellae p)) (ltb 4000 (thickness (lamellae p))) (none 11) in
    let each = lamellae_keep (lamellae p) thick.0 in
    record {
      version_least = version.0;
      version_most = version.1;
      face = ltb-false 2 p.face sixteen.0;
      first_face = λ e. eqb-true p.face 0 (not-false (eqb p.face 0) (rw (eq-eqb p.version 1 e) at sixteen.1));
      bond = ltb-false 2 p.bond three.0;
      gap = ltb-false 1 p.gap three.1;
      rate_least = rate.0;
      rate_most = rate.1;
      strength_least = (in_range 1 400 p.strength load.0).0;
      count_least = (in_range 1 9 p.count (none 10)).0;
      section = section_fits p (none 5) (none 10) (none 11);
      types = types_keep p.cladding (none 7);
      boards = cladding_keeps p.cladding (none 8);
      given = time.0;
      not_given = time.1;
      each = each;
      lvl = lvl_keeps p each (none 17);
    }

-- an accepted panel keeps every limit
pub accepted_keeps : (p : Panel) → panel_refusal p ≡ 0 → Keeps p
accepted_keeps p e = to12_keeps p (accepted_before_section p e)

pub accepted_fits : (p : Panel) → panel_refusal p ≡ 0 → SectionFits p
accepted_fits p e = (accepted_keeps p e).section

-- Lamellae by their place

keep_at :
    (gs ts : List ℕ) (n : ℕ) → LamellaeKeep (lamellae_of gs ts n) → (i : ℕ) → i < n → LamellaKeeps (lamella (get_or gs i 0) (get_or ts i 0))
keep_at gs ts n h i k =
    let inside : i < length (lamellae_of gs ts n) = omega (arith, length_lamellae_of gs ts n) in
    subst LamellaKeeps (get_or_lamellae_of gs ts n i k) (keep_get_or (lamellae_of gs ts n) h i inside)
  where
    keep_get_or : (ls : List Lamella) → LamellaeKeep ls → (i : ℕ) → i < length ls → LamellaKeeps (get_or ls i (lamella 0 0))
    keep_get_or [] h i k = absurd (let z : ⊥ = omega arith in z)
    keep_get_or (l ∷ ls) h zero k = h.0
    keep_get_or (l ∷ ls) h (suc i) k = keep_get_or ls h.1 i (omega arith)

pub lamella_keeps :
    (p : Panel) → Keeps p → (i : ℕ) → i < p.count → LamellaKeeps (lamella (get_or p.directions i 0) (get_or p.thicknesses i 0))
lamella_keeps p k i h = keep_at p.directions p.thicknesses p.count k.each i h

pub thicknesses_keep : (p : Panel) → Keeps p → ThicknessesKeep p.thicknesses p.count
thicknesses_keep p k i h = (lamella_keeps p k i h).thickness

-- an accepted panel is at least as thick as one lamella
pub accepted_least : (p : Panel) → panel_refusal p ≡ 0 → 100 ≤ thickness (lamellae p)
unfolding thickness
accepted_least p e =
    let k = accepted_keeps p e in
    least (lamellae p) k.each (omega (arith, k.count_least, length_lamellae_of p.directions p.thicknesses p.count))
  where
    least : (ls : List Lamella) → LamellaeKeep ls → 0 < length ls → 100 ≤ thickness ls
    least [] k h = absurd (let z : ⊥ = omega arith in z)
    least (l ∷ ls) k h = omega (arith, k.0.thickness.least)

-- The start of charring

loss_most : (gap : ℕ) → gap_loss gap ≤ 23000
loss_most gap = go (eqb gap 1)
  where
    go : (t : Bool) → pick t 23000 14000 ≤ 23000
    go true = omega arith
    go false = omega arith

board_least : (b : Board) → BoardKeeps b → 90 ≤ b.thickness
board_least b k = le_trans (thinnest_least (material_of b.kind)) k.thickness.least

start_of : (gap : ℕ) (c : Cladding) → CladdingKeeps c → StartWhole gap c
start_of gap Unclad k = tt
start_of gap (One b) k = omega (arith, loss_most gap, board_least b k)
start_of gap (Two outer inner) k =
    let loss : gap_loss gap ≤ 280 * outer.thickness = omega (arith, loss_most gap, board_least outer k.0) in
    le_trans loss (le-add_right (280 * outer.thickness) (inner_gain inner * inner.thickness))

-- t_ch of an accepted panel is never cut off at 0
pub start_whole : (p : Panel) → panel_refusal p ≡ 0 → StartWhole p.gap p.cladding
start_whole p e = start_of p.gap p.cladding (accepted_keeps p e).boards
