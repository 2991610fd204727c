-- What a read put behind the place is what left the input with it.
use Rattle.std.proofs.Common.{◌≡◌, ℕ, ◌+◌, ◌-◌, ◌≤◌, List, ◌++◌, rules, length, take, drop, sym, ap, ◌∙◌, subst, le_refl, drop_at, length-take-le}
use Rattle.std.proofs.lemmas.Slice.{take-put_mid_below}
use Rattle.std.proofs.KnownBytes.{Consumes-trans}
use Rattle.std.specs.Io.KnownBytes.{Consumes}
use borrow.Rule.Slice.PartMut.{put_mid, post_of}
use lib.Seq.{take-add, take-append-le}
use Rattle.lent_input.proofs.read_full.Goals as goal

-- the first at + n bytes, after n bytes were put at that place
put_at : (at k n : ℕ) (xs ys : List ℕ) → at ≤ length xs → n ≤ length ys → take (at + n) (put_mid at k xs ys) ≡ take at xs ++ take n ys
put_at at k n xs ys within fits =
    take-add at n (put_mid at k xs ys)
    ∙ ap (λ l. l ++ take n (drop at (put_mid at k xs ys))) (take-put_mid_below at k xs ys at (le_refl at) within)
    ∙ ap (λ l. take at xs ++ take n l) (drop_at (take at xs) (ys ++ post_of at k xs) at (length-take-le at xs within))
    ∙ ap (λ l. take at xs ++ l) (take-append-le n ys (post_of at k xs) fits)

pub loop-n-preserved : goal.loop-n-preserved
loop-n-preserved g c =
    let at = c.loop-n.n in
    let room = length c.loop-n.space - at in
    let before = c.loop-n.invariant in
    let read = c.in_ok-more.ensures in
    let more = put_at at room _ c.loop-n.space c.read.new.buf before.1 read.bound.0 in
    (search rules, search rules, subst (Consumes _ _) (sym more) (Consumes-trans _ _ _ _ _ before.2 read.bytes.0))
