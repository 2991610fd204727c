-- The record of the panel that stands in bytes is these bytes, where they meet no line.
use Prim.Native.Nat.{ℕ, zero, suc, ◌+◌, ◌*◌, ◌≤◌}
use mathlib.Core.Path.{◌≡◌, refl, sym, ap, ap₂, ◌∙◌}
use mathlib.Core.List.{List, ◌++◌}
use native.Mathlib.Omega.{arith}
use native.Mathlib.Nat.{mul-suc, zero-add, add-zero}
use lib.ListN.{length}
use Rattle.numbers.specs.Bytes.{join}
use Rattle.numbers.specs.Bytes.{places, AreBytes}
use Rattle.numbers.proofs.Digits.{join_fields, drop_bytes}
use Rattle.numbers.proofs.Places.{places_append, places_drop, places_all}
use Rattle.panel.specs.Lamellae
use Rattle.panel.specs.Boards.{boards_of}
use Rattle.record.specs.Layouts.{
  front_widths,
  head_widths,
  board_widths,
  lamella_widths,
  front_length,
  head_length,
  board_length,
  count_length,
  lamella_length,
  count_place,
  lamella_place,
  length_with,
  version_of,
  body,
  head_of,
  count_of_boards,
  count_of_lamellae,
  lamella_part,
  cladding_at,
  lamella_at,
  lamellae_in,
  panel_in,
  front_numbers,
  head_numbers,
  board_bytes,
  lamella_bytes,
  encode,
}
use Rattle.record.proofs.Lengths.{lamella_bytes_more}
use Rattle.record.proofs.Sound.{Sound, boards_counted, lamellae_read}

-- the bytes of the boards are those that stood after the head
boards_back :
    (c : ℕ) (t : List ℕ) → AreBytes t → c ≤ 2 → board_bytes (boards_of (cladding_at c t)) ≡ places t head_length (board_length * c)
unfolding board_bytes
boards_back zero t h l = refl
boards_back (suc zero) t h l = join_fields board_widths t h head_length
boards_back (suc (suc zero)) t h l =
    ap₂ (λ (xs ys : List ℕ). xs ++ ys) (join_fields board_widths t h head_length) (join_fields board_widths t h (head_length + board_length))
    ∙ sym (places_append t head_length board_length board_length)
boards_back (suc (suc (suc c))) t h l = absurd (let z : ⊥ = omega arith in z)

-- the bytes of the lamellae are the lamella bytes
lamellae_back : (u : List ℕ) → AreBytes u → (n : ℕ) → lamella_bytes (lamellae_in u n) ≡ places u 0 (lamella_length * n)
unfolding lamellae_in lamella_bytes
lamellae_back u h zero = refl
lamellae_back u h (suc n) =
    let at : ℕ = lamella_length * n in
    lamella_bytes_more (lamellae_in u n) (lamella_at u n)
    ∙ ap₂ (λ (xs ys : List ℕ). xs ++ ys) (lamellae_back u h n) (join_fields lamella_widths u h at)
    ∙ ap (λ (k : ℕ). places u 0 at ++ places u k lamella_length) (sym (zero-add at))
    ∙ sym (places_append u 0 at lamella_length)
    ∙ ap (places u 0) (sym (mul-suc lamella_length n))

-- a record with c boards and n lamellae, part by part
parts : (b : List ℕ) (version c n : ℕ) → length b ≡ length_with version c n
    → places b 0 (front_length version)
    ++ (places b (front_length version) head_length
    ++ (places b (front_length version + head_length) (board_length * c)
    ++ (places b (count_place version c) count_length ++ places b (lamella_place version c) (lamella_length * n))))
    ≡ b
parts b version c n e =
    let front : ℕ = front_length version in
    let count : ℕ = count_place version c in
    let tail : ℕ = count_length + lamella_length * n in
    let rest : ℕ = board_length * c + tail in
    let after : lamella_place version c ≡ count + count_length = omega arith in
    let whole : front + (head_length + rest) ≡ length b = omega arith in
    ap (λ (xs : List ℕ). places b 0 front ++ xs)
    (ap (λ (xs : List ℕ). places b front head_length ++ xs)
    (ap (λ (xs : List ℕ). places b (front + head_length) (board_length * c) ++ xs)
    (ap (λ (k : ℕ). places b count count_length ++ places b k (lamella_length * n)) after
    ∙ sym (places_append b count count_length (lamella_length * n)))
    ∙ sym (places_append b (front + head_length) (board_length * c) tail))
    ∙ sym (places_append b front head_length rest))
    ∙ ap (λ (k : ℕ). places b 0 front ++ places b k (head_length + rest)) (sym (zero-add front))
    ∙ sym (places_append b 0 front (head_length + rest))
    ∙ ap (places b 0) whole
    ∙ places_all b

-- the numbers of the head that is written are those that were read
head_back : (b : List ℕ) → count_of_boards b ≤ 2 → head_numbers (panel_in b) ≡ head_of b
unfolding panel_in
head_back b h = rw (boards_counted (count_of_boards b) (body b) h) refl

pub encode_back : (b : List ℕ) → AreBytes b → Sound b → encode (panel_in b) ≡ b
unfolding encode panel_in
encode_back b h s =
    let v = version_of b in
    let c = count_of_boards b in
    let n = count_of_lamellae b in
    let t = body b in
    let front : join (front_widths v) (front_numbers (panel_in b)) ≡ places b 0 (front_length v) =
    ap (join (front_widths v)) s.front ∙ join_fields (front_widths v) b h 0
    in
    let head : join head_widths (head_numbers (panel_in b)) ≡ places b (front_length v) head_length =
    ap (join head_widths) (head_back b s.boards)
    ∙ join_fields head_widths t (drop_bytes b h (front_length v)) 0
    ∙ places_drop b (front_length v) 0 head_length
    ∙ ap (λ (k : ℕ). places b k head_length) (add-zero (front_length v))
    in
    let boards : board_bytes (boards_of (cladding_at c t)) ≡ places b ((front_length v) + head_length) (board_length * c) =
    boards_back c t (drop_bytes b h (front_length v)) s.boards ∙ places_drop b (front_length v) head_length (board_length * c)
    in
    let lamellae : lamella_bytes (Lamellae.lamellae (panel_in b)) ≡ places b (lamella_place v c) (lamella_length * n) =
    ap lamella_bytes (lamellae_read b s.count)
    ∙ lamellae_back (lamella_part b) (drop_bytes b h (lamella_place v c)) n
    ∙ places_drop b (lamella_place v c) 0 (lamella_length * n)
    ∙ ap (λ (k : ℕ). places b k (lamella_length * n)) (add-zero (lamella_place v c))
    in
    (λ i. front i ++ (head i ++ (boards i ++ (places b (count_place v c) count_length ++ lamellae i)))) ∙ parts b v c n s.whole
