-- What a depth and a phase that keep document 01's "Charring" do next: up to the next mark they follow one up_to_mark, fast or settled.
use Prim.Native.Nat.{ℕ, ◌+◌, ◌-◌, ◌*◌, ◌≤◌, ◌<◌, min}
use mathlib.Core.Path.{◌≡◌, refl, sym, ap, ◌∙◌}
use mathlib.Core.List.Memᴰ
use mathlib.Core.List.{List, [], ◌∷◌, ◌++◌, Memᴰ}
use mathlib.Core.Logic.{◌⊎◌, inl, inr, ⊎_elim}
use native.Mathlib.Omega.{arith}
use native.Mathlib.Decide.{dec_lt, ℕ_discrete}
use native.Mathlib.Nat.{le_trans, lt_of_lt_of_le, mul-le-mul_left, mul-lt-mul_of_pos_left, eq-or-lt_of_le}
use Rattle.panel.specs.declared.Panel.{Panel}
use Rattle.phases.specs.declared.Phase.{Phase}
use Rattle.phases.specs.declared.Phase.TheVariants.{Fast, Settled}
use Rattle.charring.specs.Rates.{plain_rate, back_face, bond_lines}
use Rattle.charring_stated.specs.Charring.{Charring, NoLineWithin, NoLineUpTo, NoLineAt}

-- Marks

-- the next line deeper than d, or b where none comes sooner
pub record NextMark (lines : List ℕ) (d q b : ℕ) : Type 0 where
  pub mark : ℕ
  pub within : mark ≤ b
  pub deeper : d < 2 * q * mark
  pub nearest : (l : ℕ) → Memᴰ l lines → d < 2 * q * l → mark ≤ l
  pub is : (mark ≡ b) ⊎ Memᴰ mark lines

pub next_mark : (lines : List ℕ) (d q b : ℕ) → d < 2 * q * b → NextMark lines d q b
next_mark [] d q b h =
    record { mark = b; within = omega arith; deeper = h; nearest = λ l m. absurd (Memᴰ.not-nil m); is = inl refl }
next_mark (k ∷ lines) d q b h = go (next_mark lines d q b h)
  where
    near :
        (mark : ℕ) → (d < 2 * q * k → mark ≤ k) → ((l : ℕ) → Memᴰ l lines → d < 2 * q * l → mark ≤ l)
        → (l : ℕ) → (l ≡ k) ⊎ Memᴰ l lines → d < 2 * q * l → mark ≤ l
    near mark this others l (inl e) i = rw e (this (rw e at i))
    near mark this others l (inr m) i = others l m i

    kept : (r : NextMark lines d q b) → (d < 2 * q * k → r.mark ≤ k) → NextMark (k ∷ lines) d q b
    kept r this =
        record {
          mark = r.mark;
          within = r.within;
          deeper = r.deeper;
          nearest = λ l m. near r.mark this r.nearest l (Memᴰ.cases_cons m);
          is = ⊎_elim (λ e. inl e) (λ m. inr (Memᴰ.tail m)) r.is;
        }

    choose : (r : NextMark lines d q b) → Dec (d < 2 * q * k) → Dec (k < r.mark) → NextMark (k ∷ lines) d q b
    choose r (no i) _ = kept r (λ h. absurd (i h))
    choose r (yes i) (no j) = kept r (λ _. omega arith)
    choose r (yes i) (yes j) =
        record {
          mark = k;
          within = omega (arith, r.within);
          deeper = i;
          nearest = λ l m. near k (λ _. omega arith) (λ l m i. le_trans (omega arith) (r.nearest l m i)) l (Memᴰ.cases_cons m);
          is = inr (Memᴰ.head refl);
        }

    go : NextMark lines d q b → NextMark (k ∷ lines) d q b
    go r = choose r (dec_lt d (2 * q * k)) (dec_lt k r.mark)

-- a line at d
pub record LineAt (lines : List ℕ) (d q : ℕ) : Type 0 where
  pub above : List ℕ
  pub l : ℕ
  pub below : List ℕ
  pub split : lines ≡ above ++ (l ∷ below)
  pub at : d ≡ 2 * q * l

pub line_at : (lines : List ℕ) (d q : ℕ) → LineAt lines d q ⊎ ((l : ℕ) → Memᴰ l lines → d ≡ 2 * q * l → ⊥)
line_at [] d q = inr (λ l m. absurd (Memᴰ.not-nil m))
line_at (k ∷ lines) d q = go (ℕ_discrete d (2 * q * k)) (line_at lines d q)
  where
    go :
        Dec (d ≡ 2 * q * k) → LineAt lines d q ⊎ ((l : ℕ) → Memᴰ l lines → d ≡ 2 * q * l → ⊥)
        → LineAt (k ∷ lines) d q ⊎ ((l : ℕ) → Memᴰ l (k ∷ lines) → d ≡ 2 * q * l → ⊥)
    go (yes e) _ = inl (record { above = []; l = k; below = lines; split = refl; at = e })
    go (no e) (inl a) =
        inl (record { above = k ∷ a.above; l = a.l; below = a.below; split = ap (λ (ls : List ℕ). k ∷ ls) a.split; at = a.at })
    go (no e) (inr free) = inr (λ l m. apart l (Memᴰ.cases_cons m))
      where
        apart : (l : ℕ) → (l ≡ k) ⊎ Memᴰ l lines → d ≡ 2 * q * l → ⊥
        apart l (inl f) i = e (rw f at i)
        apart l (inr m) i = free l m i

-- Marks

-- a phase after t_f, what it chars at in a minute, and where it ends by itself
pub data Course (p : Panel) (rate end : ℕ) (f : Phase) : Type 0 where
  fast : (e : ℕ) → rate ≡ 4000 * plain_rate p → end ≡ min (10000 * e) (back_face p) → f ≡ Fast e → Course p rate end f
  settled : rate ≡ 2000 * plain_rate p → end ≡ back_face p → f ≡ Settled → Course p rate end f

pub course_rate : {p : Panel} {rate end : ℕ} {f : Phase} → Course p rate end f → 0 < plain_rate p → 0 < rate
course_rate (fast e r h g) pos = omega arith
course_rate (settled r h g) pos = omega arith

-- from n/q on, in a phase f, at a rate and up to a mark
pub record UpToMark (p : Panel) (depth : ℕ → ℕ → ℕ) (phase : ℕ → ℕ → Phase) (n q rate mark : ℕ) (f : Phase) : Type 0 where
  pub grows : (m d : ℕ) → n ≤ m → d ≡ depth n q + rate * (m - n) → d ≤ 2 * q * mark → depth m q ≡ d
  pub lasts : (m : ℕ) → n ≤ m → depth m q < 2 * q * mark → phase m q ≡ f
  pub ends : (m : ℕ) → n ≤ m → depth m q ≡ 2 * q * mark → mark < back_face p → NoLineAt p (depth m q) q → phase m q ≡ Settled

module _
    (p : Panel) (depth : ℕ → ℕ → ℕ) (phase : ℕ → ℕ → Phase) (c : Charring p depth phase) (n q d end : ℕ) (pos : 0 < q)
    (at : depth n q ≡ d) (k : NextMark (bond_lines p) d q end) where
  -- no depth short of the mark is past a line, the end or the back face
  up_to : (a : ℕ) → k.mark ≤ a → 2 * q * k.mark ≤ 2 * q * a
  up_to a h = omega (arith, mul-le-mul_left q h)

  no_line_within : (a : ℕ) → a ≤ 2 * q * k.mark → NoLineWithin p (depth n q) a q
  no_line_within a h l m i = le_trans h (up_to l (k.nearest l m (rw at at i)))

  no_line_up_to : (a : ℕ) → a < 2 * q * k.mark → NoLineUpTo p (depth n q) a q
  no_line_up_to a h l m i = lt_of_lt_of_le h (up_to l (k.nearest l m (rw at at i)))

  no_line_past : (a : ℕ) → a ≡ 2 * q * k.mark → NoLineAt p a q → NoLineUpTo p (depth n q) a q
  no_line_past a there free l m i =
      ⊎_elim (λ e. absurd (free l m e)) (λ h. h) (eq-or-lt_of_le (no_line_within a (omega arith) l m i))

  -- a mark at no line is the end
  at_end : (a : ℕ) → a ≡ 2 * q * k.mark → NoLineAt p a q → k.mark ≡ end
  at_end a there free = ⊎_elim (λ e. e) (λ m. absurd (free k.mark m there)) k.is

  pub up_to_mark : {rate : ℕ} {f : Phase} → Course p rate end f → phase n q ≡ f → UpToMark p depth phase n q rate k.mark f
  up_to_mark {rate} {f} (fast e r h g) is =
      let fast-now : phase n q ≡ Fast e = is ∙ g in
      let to_end : 2 * q * k.mark ≤ 2 * q * (10000 * e) = up_to (10000 * e) (omega (arith, k.within)) in
      let to_back : 2 * q * k.mark ≤ 2 * q * back_face p = up_to (back_face p) (omega (arith, k.within)) in
      record {
        grows = λ m a le step inside.
            c.fast_grows n m q e a pos le fast-now (rw r at step) (omega arith) (no_line_within a inside) (omega arith);
        lasts = λ m le short.
            c.fast_lasts n m q e pos le fast-now (omega arith) (no_line_up_to (depth m q) short) (omega arith) ∙ sym g;
        ends = λ m le there inner free.
            let here : k.mark ≡ 10000 * e = omega (arith, at_end (depth m q) there free) in
            c.fast_ends n m q e pos le fast-now (there ∙ ap (λ (a : ℕ). 2 * q * a) here) (no_line_past (depth m q) there free)
            (omega (arith, mul-lt-mul_of_pos_left inner pos));
      }
  up_to_mark {rate} {f} (settled r h g) is =
      let to_back : 2 * q * k.mark ≤ 2 * q * back_face p = up_to (back_face p) (omega (arith, k.within)) in
      record {
        grows = λ m a le step inside.
            c.settled_grows n m q a pos le (is ∙ g) (rw r at step) (no_line_within a inside) (omega arith);
        lasts = λ m le short. c.settled_lasts n m q pos le (is ∙ g) (no_line_up_to (depth m q) short) (omega arith) ∙ sym g;
        ends = λ m le there inner free. absurd (let z : ⊥ = omega (arith, at_end (depth m q) there free) in z);
      }
