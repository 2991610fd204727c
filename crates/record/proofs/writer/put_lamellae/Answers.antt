-- `record::writer::put_lamellae` meets its contract: after i rounds the first i lamellae are stored, and the others are left.
use Prim.Native.Nat.{ℕ, ◌+◌, ◌*◌, ◌≤◌, ◌<◌}
use Rattle.numbers.proofs.Lists.{then_put}
use Rattle.numbers.specs.Bytes.{join}
use Rattle.panel.proofs.Used.{length_lamellae_of}
use Rattle.panel.specs.Lamellae.{lamella, lamellae_of}
use Rattle.record.proofs.Lengths.{length_lamella_bytes, lamella_bytes_more}
use Rattle.record.specs.Layouts.{lamella_widths, lamella_length, lamella_numbers, lamella_bytes}
use Rattle.std.proofs.lemmas.Slice.Zip.{either_empty_from_Zip}
use lib.ListN.{length, get_or, drop, length-drop}
use lib.Seq.{sets, drop-drop, get_or-drop}
use mathlib.Core.List.{List, [], ◌∷◌}
use mathlib.Core.Logic.{⊎_elim}
use mathlib.Core.Path.{refl, sym, ap, ap₂, ◌∙◌, ◌≡◌}
use native.Mathlib.Nat.{add-zero}
use native.Mathlib.Numerals.{add-one}
use native.Mathlib.Omega.{arith}
use Rattle.record.proofs.writer.put_lamellae.Goals as goal

-- what is left of a list, and its first number
first_left : (l rest : List ℕ) (k x : ℕ) → drop k l ≡ x ∷ rest → (get_or l k 0 ≡ x) × (rest ≡ drop (k + 1) l) × (k < length l)
first_left l rest k x e = (
  sym (get_or-drop k l 0 0 ∙ ap (λ (n : ℕ). get_or l n 0) (add-zero k)) ∙ ap (λ (r : List ℕ). get_or r 0 0) e,
  sym (ap (drop 1) e) ∙ drop-drop 1 k l,
  omega (arith, length-drop k l, ap length e),
)

none_left : (l : List ℕ) (k : ℕ) → drop k l ≡ [] → length l ≤ k
none_left l k e = omega (arith, length-drop k l, ap length e)

pub loop-i-preserved : goal.loop-i-preserved
unfolding lamellae_of
loop-i-preserved c =
    let out = c.args.out.now in
    let gs = c.args.lamellae.directions.now in
    let ts = c.args.lamellae.thicknesses.now in
    let k = c.loop-i.i-iterator.count in
    let inv = c.loop-i.invariant in
    let steps = c.in-Some.ensures.steps in
    let direction = first_left gs _ k c.in-Some.direction.now (sym inv.1 ∙ steps.0.0) in
    let thickness = first_left ts _ k c.in-Some.thickness.now (sym inv.2 ∙ steps.0.1) in
    let xs = lamellae_of gs ts k in
    let x = lamella (get_or gs k 0) (get_or ts k 0) in
    let new : List ℕ = join lamella_widths (lamella_numbers x) in
    let e : lamella_length * k ≡ 0 + length (lamella_bytes xs) = omega (arith, length_lamella_bytes xs, length_lamellae_of gs ts k) in
    let bytes : c.lamella.result ≡ new =
    c.lamella.ensures ∙ ap₂ (λ (g t : ℕ). join lamella_widths (lamella_numbers (lamella g t))) (sym direction.0) (sym thickness.0) in
    let at : lamella_length * c.in-Some.i ≡ lamella_length * k = ap (λ (i : ℕ). lamella_length * i) steps.1 in (
      then_put out c.loop-i.out _ 0 (lamella_bytes xs) (lamella_length * k) new inv.0 e (c.put.ensures ∙ ap₂ (sets c.loop-i.out) at bytes)
          ∙ ap (sets out 0) (sym (lamella_bytes_more xs x) ∙ ap (λ (n : ℕ). lamella_bytes (lamellae_of gs ts n)) (sym (steps.2 ∙ add-one k))),
      direction.1 ∙ ap (λ (n : ℕ). drop n gs) (sym steps.2),
      thickness.1 ∙ ap (λ (n : ℕ). drop n ts) (sym steps.2),
      omega (arith, steps.2, direction.2),
    )

pub returns : goal.returns
returns c =
    let gs = c.args.lamellae.directions.now in
    let ts = c.args.lamellae.thicknesses.now in
    let k = c.loop-i.i-iterator.count in
    let inv = c.loop-i.invariant in
    let all : length gs ≤ k =
    ⊎_elim (λ e. none_left gs k (sym inv.1 ∙ e)) (λ e. omega (arith, c.args.lamellae.aligned, none_left ts k (sym inv.2 ∙ e)))
    (either_empty_from_Zip c.loop-i.i-iterator.iter c.next.new.self.iter _ refl c.in-None.ensures.steps.0) in
    let whole : k ≡ length gs = omega (arith, all, inv.3) in
    inv.0 ∙ ap (λ (n : ℕ). sets c.args.out.now 0 (lamella_bytes (lamellae_of gs ts n))) whole
