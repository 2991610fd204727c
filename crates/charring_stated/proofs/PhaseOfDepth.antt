-- After t_f the phase depends on the char depth alone: on a stretch it is fast until the depth comes to the stretch's end, then settled.
use Prim.Native.Nat.{ℕ, zero, suc, ◌+◌, ◌-◌, ◌*◌, ◌/◌, ◌≤◌, ◌<◌}
use mathlib.Core.Path.{◌≡◌, refl, sym, ap, ◌∙◌}
use mathlib.Core.List.{List, [], ◌∷◌}
use mathlib.Core.Bool.{true, false}
use native.Mathlib.Omega.{arith}
use native.Mathlib.Nat.{mul-le-mul_left}
use lib.Dec.{ltb}
use borrow.Author.Tests.{lt-ltb, le-ltb}
use Rattle.panel.specs.declared.Panel.{Panel}
use Rattle.phases.specs.declared.Phase.{Phase}
use Rattle.phases.specs.declared.Phase.TheVariants.{Fast, Settled}
use Rattle.charring.specs.Rates.{start_of, failure_of, plain_rate, back_face, depth_at_failure}
use Rattle.charring.specs.Way.{Stretch, way, charred, fast_part, settled_part}
use Rattle.charring.specs.Depths.{after_at, char_at}
use Rattle.phases.specs.Phases.{phase_on, phase_at}
use Rattle.phases.specs.Phases.{phase_in}
use Rattle.phases.proofs.PhaseCases.{WhereOn, fast, settled, rest, where_on, at_way}
use Rattle.charring.proofs.WayLaws.{Chain, last, next, way_chain, parts, parts_cover}
use Rattle.charring.proofs.WayLaws.{fast_part_end, fast_part_to, settled_part_end, settled_part_to, charred_past, charred_within, charred_settled, charred_none}
use Rattle.charring.proofs.DepthParts.{char_parts, under_full}
use Rattle.charring_stated.proofs.Runs.{on_empty}
use Rattle.numbers.proofs.Products.{positive}

-- the phase at a depth d/q, half picometres, in a run that ends at `end`
unfoldable pub in_run : ℕ → ℕ → ℕ → Phase
in_run end d q = phase_in (ltb d (2 * q * end)) end

pub run_fast : (end d q : ℕ) → d < 2 * q * end → in_run end d q ≡ Fast (end / 10000)
unfolding in_run
run_fast end d q h = rw (in_run, lt-ltb d (2 * q * end) h)

pub run_settled : (end d q : ℕ) → 2 * q * end ≤ d → in_run end d q ≡ Settled
unfolding in_run
run_settled end d q h = rw (in_run, le-ltb d (2 * q * end) h)

-- and on a way: in the run of the first stretch that ends deeper
unfoldable pub phase_of_depth : List Stretch → ℕ → ℕ → Phase
phase_of_depth [] d q = Settled
phase_of_depth (s ∷ ss) d q = elim (ltb d (2 * q * s.to)) [ true ↦ in_run s.end d q | false ↦ phase_of_depth ss d q ]

module _ (s : Stretch) (ss : List Stretch) (d q : ℕ) where
  pub deep_within : d < 2 * q * s.to → phase_of_depth (s ∷ ss) d q ≡ in_run s.end d q
  unfolding phase_of_depth
  deep_within h = rw (phase_of_depth, lt-ltb d (2 * q * s.to) h)

  pub deep_rest : 2 * q * s.to ≤ d → phase_of_depth (s ∷ ss) d q ≡ phase_of_depth ss d q
  unfolding phase_of_depth
  deep_rest h = rw (phase_of_depth, le-ltb d (2 * q * s.to) h)

  pub deep_fast : d < 2 * q * s.to → d < 2 * q * s.end → phase_of_depth (s ∷ ss) d q ≡ Fast (s.end / 10000)
  deep_fast h k = deep_within h ∙ run_fast s.end d q k

  pub deep_settled : d < 2 * q * s.to → 2 * q * s.end ≤ d → phase_of_depth (s ∷ ss) d q ≡ Settled
  deep_settled h k = deep_within h ∙ run_settled s.end d q k

deep_empty : (d q : ℕ) → phase_of_depth [] d q ≡ Settled
unfolding phase_of_depth
deep_empty d q = refl

-- on the first stretch, fast and then settled
on_first : (s : Stretch) (ss : List Stretch) (a x q : ℕ) → s.from ≡ a → x < q * fast_part s
    → Fast (s.end / 10000) ≡ phase_of_depth (s ∷ ss) (2 * q * a + charred (s ∷ ss) x q) q
on_first s ss a x q from h =
    let some : 0 < fast_part s = positive x q (fast_part s) h in
    let e : charred (s ∷ ss) x q ≡ 2 * x = omega (arith, charred_within s ss x q h, charred_none ss q) in
    sym
    (deep_fast s ss (2 * q * a + charred (s ∷ ss) x q) q
    (numbers q a s.from (fast_part s) s.to x (charred (s ∷ ss) x q) from h (fast_part_to s some) e)
    (numbers q a s.from (fast_part s) s.end x (charred (s ∷ ss) x q) from h (fast_part_end s some) e))
  where
    numbers : (q a b f e x g : ℕ) → b ≡ a → x < q * f → b + f ≤ e → g ≡ 2 * x → 2 * q * a + g < 2 * q * e
    numbers q a b f e x g same h k is =
        let l : q * (a + f) ≤ q * e = mul-le-mul_left q (rw same at k) in
        omega arith

on_second : (s : Stretch) (ss : List Stretch) (a x q : ℕ) → s.from ≡ a → q * fast_part s ≤ x → x < q * fast_part s + 2 * q * settled_part s
    → Settled ≡ phase_of_depth (s ∷ ss) (2 * q * a + charred (s ∷ ss) x q) q
on_second s ss a x q from h k =
    let some : 0 < settled_part s = part x (q * fast_part s) q (settled_part s) h k in
    let e : charred (s ∷ ss) x q ≡ q * fast_part s + x = omega (arith, charred_settled s ss x q h k, charred_none ss q) in
    sym
    (deep_settled s ss (2 * q * a + charred (s ∷ ss) x q) q
    (before q a s.from (fast_part s) (settled_part s) s.to x (charred (s ∷ ss) x q) from k (parts s (settled_part_to s some)) e)
    (past q a s.from (fast_part s) s.end x (charred (s ∷ ss) x q) from h (settled_part_end s some) e))
  where
    part : (x a q t : ℕ) → a ≤ x → x < a + 2 * q * t → 0 < t
    part x a q zero h k = omega arith
    part x a q (suc t) h k = omega arith

    before :
        (q a b f t e x g : ℕ) → b ≡ a → x < q * f + 2 * q * t → b + f + t ≡ e → g ≡ q * f + x → 2 * q * a + g < 2 * q * e
    before q a b f t e x g same h k is =
        let l : q * (a + f + t) ≡ q * e = ap (λ (i : ℕ). q * i) (rw same at k) in
        omega arith

    past : (q a b f e x g : ℕ) → b ≡ a → q * f ≤ x → e ≤ b + f → g ≡ q * f + x → 2 * q * e ≤ 2 * q * a + g
    past q a b f e x g same h k is =
        let l : q * e ≤ q * (a + f) = mul-le-mul_left q (rw same at k) in
        omega arith

pub way_depth : (a back : ℕ) (ss : List Stretch) (x q : ℕ) → Chain a back ss → phase_on ss x q ≡ phase_of_depth ss (2 * q * a + charred ss x q) q
way_depth a back (s ∷ []) x q (last from to exact) = go (where_on s [] x q)
  where
    numbers : (q a b f t d g : ℕ) → b ≡ a → d ≤ b + f + t → 2 * q * d ≤ 2 * q * a + (2 * q * f + 2 * q * t + g)
    numbers q a b f t d g e h =
        let l : q * d ≤ q * (a + f + t) = mul-le-mul_left q (rw e at h) in
        omega arith

    go : WhereOn s [] x q → phase_on (s ∷ []) x q ≡ phase_of_depth (s ∷ []) (2 * q * a + charred (s ∷ []) x q) q
    go (fast h k) = k ∙ on_first s [] a x q from h
    go (settled h l k) = k ∙ on_second s [] a x q from h l
    go (rest h k) =
        k ∙ on_empty (x - q * fast_part s - 2 * q * settled_part s) q
        ∙ sym
        (deep_rest s [] (2 * q * a + charred (s ∷ []) x q) q
        (rw (charred_past s [] x q h)
        (numbers q a s.from (fast_part s) (settled_part s) s.to (charred [] (x - q * fast_part s - 2 * q * settled_part s) q) from
        (parts_cover s)))
        ∙ deep_empty (2 * q * a + charred (s ∷ []) x q) q)
way_depth a back (s ∷ ss) x q (next from deeper exact c) =
    go (where_on s ss x q) (way_depth s.to back ss (x - q * fast_part s - 2 * q * settled_part s) q c)
  where
    numbers : (q a b f t d g : ℕ) → b ≡ a → b + f + t ≡ d → 2 * q * d + g ≡ 2 * q * a + (2 * q * f + 2 * q * t + g)
    numbers q a b f t d g e h =
        let l : q * (a + f + t) ≡ q * d = ap (λ (i : ℕ). q * i) (rw e at h) in
        omega arith

    covered : (a g d : ℕ) → a + g ≡ d → a ≤ d
    covered a g d e = omega arith

    go :
        WhereOn s ss x q
        → phase_on ss (x - q * fast_part s - 2 * q * settled_part s) q
        ≡ phase_of_depth ss (2 * q * s.to + charred ss (x - q * fast_part s - 2 * q * settled_part s) q) q
        → phase_on (s ∷ ss) x q ≡ phase_of_depth (s ∷ ss) (2 * q * a + charred (s ∷ ss) x q) q
    go (fast h k) later = k ∙ on_first s ss a x q from h
    go (settled h l k) later = k ∙ on_second s ss a x q from h l
    go (rest h k) later =
        let g : ℕ = charred ss (x - q * fast_part s - 2 * q * settled_part s) q in
        let e : 2 * q * s.to + g ≡ 2 * q * a + charred (s ∷ ss) x q =
        rw (charred_past s ss x q h) (numbers q a s.from (fast_part s) (settled_part s) s.to g from (parts s deeper)) in
        k ∙ later
        ∙ ap (λ (d : ℕ). phase_of_depth ss d q) e
        ∙ sym (deep_rest s ss (2 * q * a + charred (s ∷ ss) x q) q (covered (2 * q * s.to) g (2 * q * a + charred (s ∷ ss) x q) e))
way_depth a back [] x q x3 = elim x3 [ ]

-- the phase from t_f on, by the char depth
pub phase_of_depth_lem :
    (p : Panel) (n q : ℕ) → char_at p n q < 2 * q * back_face p → q * start_of p ≤ 1000 * n → q * failure_of p ≤ 1000 * n
    → phase_at p n q ≡ phase_of_depth (way p) (char_at p n q) q
phase_of_depth_lem p n q h k l =
    at_way p n q h k l
    ∙ way_depth (depth_at_failure p) (back_face p) (way p) (2 * plain_rate p * (1000 * n - q * failure_of p)) q (way_chain p)
    ∙ ap (λ (d : ℕ). phase_of_depth (way p) d q)
    (sym (char_parts p n q h ∙ ap (λ (u : ℕ). u + after_at p n q) (under_full p n q l)))
