-- Open instants by their ranks. A rank R of the instants rises by one at each open instant, and not else. So R t − R
-- s counts the open instants from s up to t, an open instant is known by its rank, and a step to the next or the last
-- one is a step of the rank.
-- Assumes nothing.
use mathlib.Core.Path.{◌≡◌, refl, sym, ◌∙◌, ap, subst}
use mathlib.Core.Bool.{Bool, true, false, cond}
use mathlib.Core.Logic.{◌⊎◌, inl, inr}
use mathlib.Core.List.{List, [], ◌∷◌}
use Prim.Native.Nat.{ℕ, zero, suc, ◌+◌, ◌<◌}
use native.Mathlib.Nat.{eq-zero-or-pos}
use native.Mathlib.Omega.{arith}
use lib.IntN.{ℤ, pos, ◌+ℤ◌, ◌-ℤ◌}
use lib.Signed.{◌≤ℤ◌, ◌<ℤ◌}
use lib.ListN.{length}
use Rattle.integers.specs.Parts.{up}
use Rattle.integers.proofs.Linear.{ints, ◌∴◌}
use Rattle.integers.proofs.Order.{Cases, cases, pos-up}
use Rattle.integers.proofs.Order.Cases.{below, equal, above}
use Rattle.calendar.specs.Lists.{keep, from, first, last}
use Rattle.open_map.specs.Instants.{open_in, next_open, last_open}

abbrev pub one : Bool → ℕ
one true = 1
one false = 0

-- one more in front
pub kept-one : (b : Bool) (s : ℤ) (l : List ℤ) → length (cond b (s ∷ l) l) ≡ one b + length l
kept-one true s l = omega arith
kept-one false s l = omega arith

-- t is s and what lies between them
pub between_is : (s t : ℤ) → s ≤ℤ t → s +ℤ pos (up (t -ℤ s)) ≡ t
between_is s t h =
    let d : pos 0 ≤ℤ (t -ℤ s) = h ∴ simp ints (omega arith) in
    ap (λ (z : ℤ). s +ℤ z) (pos-up d) ∙ simp ints (omega arith)

module _ (f : ℤ → Bool) (R : ℤ → ℤ) (step : (t : ℤ) → R (t +ℤ pos 1) ≡ R t +ℤ pos (one (f t))) where
  -- ---- counting
  pub counted : (s : ℤ) (n : ℕ) → R (s +ℤ pos n) ≡ R s +ℤ pos (length (keep f (from s n)))
  counted s zero = let e : s +ℤ pos 0 ≡ s = simp ints (omega arith) in ap R e ∙ simp ints (omega arith)
  counted s (suc n) =
      let e : s +ℤ pos (suc n) ≡ s +ℤ pos 1 +ℤ pos n = simp ints (omega arith) in
      let k = kept-one (f s) s (keep f (from (s +ℤ pos 1) n)) in
      ap R e ∙ counted (s +ℤ pos 1) n ∙ (step s ∴ k ∴ simp ints (omega arith))

  pub open-in : (s t : ℤ) → s ≤ℤ t → pos (open_in f s t) ≡ R t -ℤ R s
  unfolding open_in
  open-in s t h = counted s (up (t -ℤ s)) ∴ ap R (between_is s t h) ∴ simp ints (omega arith)

  -- ---- the order of ranks
  pub rank-le : (s t : ℤ) → s ≤ℤ t → R s ≤ℤ R t
  rank-le s t h = open-in s t h ∴ simp ints (omega arith)

  pub open_step : (t : ℤ) → f t ≡ true → R (t +ℤ pos 1) ≡ R t +ℤ pos 1
  open_step t o = step t ∙ ap (λ (b : Bool). R t +ℤ pos (one b)) o

  pub rank_lt : (t u : ℤ) → f t ≡ true → t <ℤ u → R t <ℤ R u
  rank_lt t u o h = open_step t o ∴ rank-le (t +ℤ pos 1) u (h ∴ simp ints (omega arith)) ∴ simp ints (omega arith)

  pub rank_same : (t u : ℤ) → f t ≡ true → f u ≡ true → R t ≡ R u → t ≡ u
  rank_same t u o p e = by (cases t u)
    where
      by : Cases t u → t ≡ u
      by (below h) = absurd (rank_lt t u o h ∴ e ∴ simp ints (omega arith))
      by (equal h) = h
      by (above h) = absurd (rank_lt u t p h ∴ e ∴ simp ints (omega arith))

  -- ---- the first and the last of some instants
  pub record First (s t : ℤ) : Type 0 where
    pub from : s ≤ℤ t
    pub opens : f t ≡ true
    pub rank : R t ≡ R s

  pub record Last (t e : ℤ) : Type 0 where
    pub before : t <ℤ e
    pub opens : f t ≡ true
    pub rank : R (t +ℤ pos 1) ≡ R e

  first_more : (s t : ℤ) → f s ≡ false → First (s +ℤ pos 1) t → First s t
  first_more s t o r = record {
    from = r.from ∴ simp ints (omega arith);
    opens = r.opens;
    rank = r.rank ∙ step s ∙ (ap one o ∴ simp ints (omega arith));
  }

  first_of : (s : ℤ) (n : ℕ) → 0 < length (keep f (from s n)) → First s (first (keep f (from s n)))
  first_of s zero h = absurd (omega arith)
  first_of s (suc n) h = by (f s) refl h (first_of (s +ℤ pos 1) n)
    where
      l : List ℤ
      l = keep f (from (s +ℤ pos 1) n)

      by : (b : Bool) → f s ≡ b → 0 < length (cond b (s ∷ l) l) → (0 < length l → First (s +ℤ pos 1) (first l)) → First s (first (cond b (s ∷ l) l))
      by true o p rest = record { from = simp ints (omega arith); opens = o; rank = refl }
      by false o p rest = first_more s (first l) o (rest p)

  -- s is the last of it and the instants of l, which are none
  last_one : (s e : ℤ) → f s ≡ true → s <ℤ e → R (s +ℤ pos 1) ≡ R e → (l : List ℤ) → length l ≡ 0 → Last (last (s ∷ l)) e
  last_one s e o h r [] z = record { before = h; opens = o; rank = r }
  last_one s e o h r (j ∷ l) z = absurd (omega arith)

  last_cons : (s : ℤ) (l : List ℤ) → 0 < length l → last l ≡ last (s ∷ l)
  last_cons s [] h = absurd (omega arith)
  last_cons s (j ∷ l) h = refl

  last_of : (s : ℤ) (n : ℕ) → 0 < length (keep f (from s n)) → Last (last (keep f (from s n))) (s +ℤ pos n)
  last_of s zero h = absurd (omega arith)
  last_of s (suc n) h = by (f s) refl h (λ p. subst (Last (last l)) e (last_of (s +ℤ pos 1) n p)) (eq-zero-or-pos (length l))
    where
      l : List ℤ
      l = keep f (from (s +ℤ pos 1) n)

      e : s +ℤ pos 1 +ℤ pos n ≡ s +ℤ pos (suc n)
      e = simp ints (omega arith)

      by : (b : Bool) → f s ≡ b → 0 < length (cond b (s ∷ l) l) → (0 < length l → Last (last l) (s +ℤ pos (suc n))) → (length l ≡ 0) ⊎ (0 < length l)
          → Last (last (cond b (s ∷ l) l)) (s +ℤ pos (suc n))
      by true o p rest (inl z) =
          last_one s (s +ℤ pos (suc n)) o (simp ints (omega arith)) (counted (s +ℤ pos 1) n ∴ ap R e ∴ z ∴ simp ints (omega arith)) l z
      by true o p rest (inr q) = subst (λ (t : ℤ). Last t (s +ℤ pos (suc n))) (last_cons s l q) (rest q)
      by false o p rest q = rest p

  -- ---- steps. In P instants the rank rises
  module _ (P : ℕ) (busy : (x : ℤ) → R x <ℤ R (x +ℤ pos P)) where
    some-open : (s : ℤ) → 0 < length (keep f (from s P))
    some-open s = omega (arith, simp ints at (counted s P), simp ints at (busy s))

    pub next-is-first : (x : ℤ) → First (x +ℤ pos 1) (next_open P f x)
    unfolding next_open
    next-is-first x = first_of (x +ℤ pos 1) P (some-open (x +ℤ pos 1))

    pub last-is-last : (x : ℤ) → Last (last_open P f x) x
    unfolding last_open
    last-is-last x =
        let e : x -ℤ pos P +ℤ pos P ≡ x = simp ints (omega arith) in
        subst (Last (last_open P f x)) e (last_of (x -ℤ pos P) P (some-open (x -ℤ pos P)))

    -- an open instant that has the rank of the instant above x is the next
    pub next-is : (x t : ℤ) → f t ≡ true → R t ≡ R (x +ℤ pos 1) → next_open P f x ≡ t
    next-is x t o e = let n = next-is-first x in rank_same (next_open P f x) t n.opens o (n.rank ∙ sym e)

    pub last-is : (x t : ℤ) → f t ≡ true → R (t +ℤ pos 1) ≡ R x → last_open P f x ≡ t
    last-is x t o e =
        let n = last-is-last x in
        rank_same (last_open P f x) t n.opens o (open_step (last_open P f x) n.opens ∴ open_step t o ∴ n.rank ∴ e ∴ simp ints (omega arith))

    -- "the least open instant above x", and the greatest below
    pub next-least : (x u : ℤ) → x <ℤ u → f u ≡ true → next_open P f x ≤ℤ u
    next-least x u h o = by (cases (next_open P f x) u)
      where
        by : Cases (next_open P f x) u → next_open P f x ≤ℤ u
        by (below l) = l ∴ simp ints (omega arith)
        by (equal l) = l ∴ simp ints (omega arith)
        by (above l) =
            absurd (rank_lt u (next_open P f x) o l ∴ (next-is-first x).rank ∴ rank-le (x +ℤ pos 1) u (h ∴ simp ints (omega arith)) ∴ simp ints (omega arith))

    pub last-greatest : (x u : ℤ) → u <ℤ x → f u ≡ true → u ≤ℤ last_open P f x
    last-greatest x u h o = by (cases u (last_open P f x))
      where
        by : Cases u (last_open P f x) → u ≤ℤ last_open P f x
        by (below l) = l ∴ simp ints (omega arith)
        by (equal l) = l ∴ simp ints (omega arith)
        by (above l) =
            absurd (rank_lt u x o h ∴ (last-is-last x).rank ∴ rank-le (last_open P f x +ℤ pos 1) u (l ∴ simp ints (omega arith)) ∴ simp ints (omega arith))
