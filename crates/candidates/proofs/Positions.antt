-- The members of a rising list at positions in a row: those from the first to the last of them.
-- Assumes nothing.
use mathlib.Core.Path.{◌≡◌, refl, ap}
use mathlib.Core.Logic.{◌↔◌, ◌⊎◌, inl, inr, ⊎_elim, ⊎_map}
use mathlib.Core.Bool.{Bool, true, false, cond, ◌&&◌}
use mathlib.Core.List.Memᴰ
use mathlib.Core.List.{List, [], ◌∷◌, ◌++◌, Memᴰ}
use native.Mathlib.Omega.{arith}
use lib.IntN.{ℤ, pos, ◌+ℤ◌}
use lib.Signed.{◌≤ℤ◌, ◌<ℤ◌, le_z}
use lib.ListN.{length}
use Rattle.integers.proofs.Linear.{ints, ◌∴◌}
use Rattle.integers.proofs.Order.{≤ℤ-trans, le-or-lt}
use Rattle.calendar.specs.Algebra.{Rising, positions}
use Rattle.calendar.specs.Lists.{any, equal}
use Rattle.granules.proofs.Tests.{true≢false, and-iff, test-ext, le_z-iff}
use Rattle.granules.proofs.Lists.{member-iff, rising-head, rising-tail, rising-cons, first-least, last-greatest}
use Rattle.candidates.specs.Tallies.{first_or, last_or}

-- the position p is one of those from lo to hi
abbrev pub asked : ℤ → ℤ → ℤ → Bool
asked lo hi p = le_z lo p && le_z p hi

pub asked-iff : (lo hi p : ℤ) → (asked lo hi p ≡ true) ↔ ((lo ≤ℤ p) × (p ≤ℤ hi))
asked-iff lo hi p = (
  λ e. let h = (and-iff (le_z lo p) (le_z p hi)).0 e in ((le_z-iff lo p).0 h.0, (le_z-iff p hi).0 h.1),
  λ h. (and-iff (le_z lo p) (le_z p hi)).1 ((le_z-iff lo p).1 h.0, (le_z-iff p hi).1 h.1),
)

-- ---- members

module _ (lo hi : ℤ) where
  -- a member that is taken: the head, if its position is asked for, or one of the others
  taken-cons : (p j x : ℤ) (l : List ℤ) → Memᴰ j (positions lo hi p (x ∷ l)) ↔ (((j ≡ x) × (asked lo hi p ≡ true)) ⊎ Memᴰ j (positions lo hi (p +ℤ pos 1) l))
  taken-cons p j x l = by (asked lo hi p) (positions lo hi (p +ℤ pos 1) l)
    where
      by : (b : Bool) (m : List ℤ) → Memᴰ j (cond b (x ∷ m) m) ↔ (((j ≡ x) × (b ≡ true)) ⊎ Memᴰ j m)
      by true m = (λ n. ⊎_map (λ e. (e, refl)) (λ n. n) (Memᴰ.cases_cons n), ⊎_elim (λ e. Memᴰ.head e.0) (λ n. Memᴰ.tail n))
      by false m = (λ n. inr n, ⊎_elim (λ e. absurd (true≢false e.1 refl)) (λ n. n))

  pub taken-member : (p j : ℤ) (l : List ℤ) → Memᴰ j (positions lo hi p l) → Memᴰ j l
  taken-member p j [] m = m
  taken-member p j (x ∷ l) m = ⊎_elim (λ e. Memᴰ.head e.0) (λ n. Memᴰ.tail (taken-member (p +ℤ pos 1) j l n)) ((taken-cons p j x l).0 m)

  taken-rising : (p : ℤ) (l : List ℤ) → Rising l → Rising (positions lo hi p l)
  taken-rising p [] r = tt
  taken-rising p (x ∷ l) r = by (asked lo hi p) (taken-rising (p +ℤ pos 1) l (rising-tail x l r))
    where
      m : List ℤ
      m = positions lo hi (p +ℤ pos 1) l

      by : (b : Bool) → Rising m → Rising (cond b (x ∷ m) m)
      by true s = rising-cons x m (λ k n. rising-head x l r k (taken-member (p +ℤ pos 1) k l n)) s
      by false s = s

  -- behind the last position nothing is taken
  none-behind : (p k : ℤ) (l : List ℤ) → hi <ℤ p → Memᴰ k (positions lo hi p l) → ⊥
  none-behind p k [] h m = Memᴰ.not-nil m
  none-behind p k (x ∷ l) h m =
      ⊎_elim (λ (e : (k ≡ x) × (asked lo hi p ≡ true)). ((asked-iff lo hi p).0 e.1).1 ∴ h ∴ simp ints (omega arith)) (none-behind (p +ℤ pos 1) k l (h ∴ simp ints (omega arith))) ((taken-cons p k x l).0 m)

  -- from the first position on, what stands before a member that is taken is taken
  taken-before : (p j k : ℤ) (l : List ℤ) → Rising l → lo ≤ℤ p → Memᴰ j l → Memᴰ k (positions lo hi p l) → j ≤ℤ k → Memᴰ j (positions lo hi p l)
  taken-before p j k [] r h n m o = n
  taken-before p j k (x ∷ l) r h n m o =
      (taken-cons p j x l).1
      (by ((taken-cons p k x l).0 m) (Memᴰ.cases_cons n) (λ n m. taken-before (p +ℤ pos 1) j k l (rising-tail x l r) (h ∴ simp ints (omega arith)) n m o))
    where
      Rest : ℤ → Type 0
      Rest j = Memᴰ j (positions lo hi (p +ℤ pos 1) l)

      within : Rest k → p ≤ℤ hi
      within m = ⊎_elim (λ (g : p ≤ℤ hi). g) (λ (g : hi <ℤ p). absurd (none-behind (p +ℤ pos 1) k l (g ∴ simp ints (omega arith)) m)) (le-or-lt p hi)

      by : ((k ≡ x) × (asked lo hi p ≡ true)) ⊎ Rest k → (j ≡ x) ⊎ Memᴰ j l → (Memᴰ j l → Rest k → Rest j) → ((j ≡ x) × (asked lo hi p ≡ true)) ⊎ Rest j
      by (inl e) (inl q) ih = inl (q, e.1)
      by (inl e) (inr n) ih = absurd (rising-head x l r j n ∴ o ∴ e.0 ∴ simp ints (omega arith))
      by (inr m) (inl q) ih = inl (q, (asked-iff lo hi p).1 (h, within m))
      by (inr m) (inr n) ih = inr (ih n m)

  -- what stands between two that are taken is taken
  taken-between : (p i j k : ℤ) (l : List ℤ) → Rising l → Memᴰ j l → Memᴰ i (positions lo hi p l) → Memᴰ k (positions lo hi p l) → i ≤ℤ j → j ≤ℤ k
      → Memᴰ j (positions lo hi p l)
  taken-between p i j k [] r n m o g h = n
  taken-between p i j k (x ∷ l) r n m o g h =
      (taken-cons p j x l).1
      (by ((taken-cons p i x l).0 m) (Memᴰ.cases_cons n) ((taken-cons p k x l).0 o) (λ n m o. taken-between (p +ℤ pos 1) i j k l (rising-tail x l r) n m o g h))
    where
      Rest : ℤ → Type 0
      Rest j = Memᴰ j (positions lo hi (p +ℤ pos 1) l)

      Here : ℤ → Type 0
      Here j = (j ≡ x) × (asked lo hi p ≡ true)

      by : Here i ⊎ Rest i → (j ≡ x) ⊎ Memᴰ j l → Here k ⊎ Rest k → (Memᴰ j l → Rest i → Rest k → Rest j) → Here j ⊎ Rest j
      by (inl e) (inl q) o ih = inl (q, e.1)
      by (inl e) (inr n) (inl f) ih = absurd (rising-head x l r j n ∴ h ∴ f.0 ∴ simp ints (omega arith))
      by (inl e) (inr n) (inr o) ih = inr (taken-before (p +ℤ pos 1) j k l (rising-tail x l r) (((asked-iff lo hi p).0 e.1).0 ∴ simp ints (omega arith)) n o h)
      by (inr m) (inl q) o ih = absurd (rising-head x l r i (taken-member (p +ℤ pos 1) i l m) ∴ g ∴ q ∴ simp ints (omega arith))
      by (inr m) (inr n) (inl f) ih = absurd (rising-head x l r j n ∴ h ∴ f.0 ∴ simp ints (omega arith))
      by (inr m) (inr n) (inr o) ih = inr (ih n m o)

  -- what stands behind the last position does not matter
  pub positions-front : (p : ℤ) (l m : List ℤ) → hi <ℤ (p +ℤ pos (length l)) → positions lo hi p (l ++ m) ≡ positions lo hi p l
  positions-front p [] m h = nothing (positions lo hi p m) (λ k. none-behind p k m (h ∴ simp ints (omega arith)))
    where
      nothing : (m : List ℤ) → ((k : ℤ) → Memᴰ k m → ⊥) → m ≡ []
      nothing [] f = refl
      nothing (x ∷ m) f = absurd (f x (Memᴰ.head refl))
  positions-front p (x ∷ l) m h =
      ap (λ (n : List ℤ). cond (asked lo hi p) (x ∷ n) n) (positions-front (p +ℤ pos 1) l m (h ∴ simp ints (omega arith)))

  -- nor is anything taken before the first position
  pub none_before : (p : ℤ) (l : List ℤ) → (p +ℤ pos (length l)) ≤ℤ lo → positions lo hi p l ≡ []
  none_before p [] h = refl
  none_before p (x ∷ l) h = by (asked lo hi p) (λ e. ((asked-iff lo hi p).0 e).0 ∴ h ∴ simp ints (omega arith)) (none_before (p +ℤ pos 1) l (h ∴ simp ints (omega arith)))
    where
      by : (b : Bool) → (b ≡ true → ⊥) → {m : List ℤ} → m ≡ [] → cond b (x ∷ m) m ≡ []
      by true f e = absurd (f refl)
      by false f e = e

  -- the last member is taken, if its position is asked for
  pub some-taken : (p : ℤ) (l : List ℤ) → pos 1 ≤ℤ pos (length l) → lo <ℤ (p +ℤ pos (length l)) → (p +ℤ pos (length l)) ≤ℤ (hi +ℤ pos 1) → (k : ℤ) × Memᴰ k (positions lo hi p l)
  some-taken p [] n g h = absurd (n ∴ simp ints (omega arith))
  some-taken p (x ∷ []) n g h = (x, (taken-cons p x x []).1 (inl (refl, (asked-iff lo hi p).1 (g ∴ simp ints (omega arith), h ∴ simp ints (omega arith)))))
  some-taken p (x ∷ y ∷ l) n g h =
      let k = some-taken (p +ℤ pos 1) (y ∷ l) (simp ints (omega arith)) (g ∴ simp ints (omega arith)) (h ∴ simp ints (omega arith)) in
      (k.0, (taken-cons p k.0 x (y ∷ l)).1 (inr k.1))

-- ---- as tests

-- the first and the last of a rising list that has a member
ends_of : (j : ℤ) (m : List ℤ) → Rising m → Memᴰ j m
    → (Memᴰ (first_or (pos 1) m) m × (first_or (pos 1) m ≤ℤ j)) × (Memᴰ (last_or (pos 0) m) m × (j ≤ℤ last_or (pos 0) m))
ends_of j [] r n = absurd (Memᴰ.not-nil n)
ends_of j (x ∷ m) r n = (first-least j (x ∷ m) r n, last-greatest j (x ∷ m) r n)

-- one that has none has 1 and 0 for them
has-member : (m : List ℤ) → first_or (pos 1) m ≤ℤ last_or (pos 0) m → (j : ℤ) × Memᴰ j m
has-member [] h = absurd (h ∴ simp ints (omega arith))
has-member (x ∷ m) h = (x, Memᴰ.head refl)

module _ (lo hi p : ℤ) (l : List ℤ) (r : Rising l) where
  abbrev taken : List ℤ
  taken = positions lo hi p l

  rises : Rising taken
  rises = taken-rising lo hi p l r

  -- where anything is taken, the first and the last of it are members
  pub ends-taken : first_or (pos 1) taken ≤ℤ last_or (pos 0) taken → Memᴰ (first_or (pos 1) taken) l × Memᴰ (last_or (pos 0) taken) l
  ends-taken h =
      let k = has-member taken h in
      let e = ends_of k.0 taken rises k.1 in
      (taken-member lo hi p _ l e.0.0, taken-member lo hi p _ l e.1.0)

  -- j is at one of the positions exactly if it is a member and not outside the first and the last of those
  pub at-positions : (j : ℤ) → any (equal j) taken ≡ (any (equal j) l && (le_z (first_or (pos 1) taken) j && le_z j (last_or (pos 0) taken)))
  at-positions j =
      let between = asked-iff (first_or (pos 1) taken) (last_or (pos 0) taken) j in
      let both = and-iff (any (equal j) l) (asked (first_or (pos 1) taken) (last_or (pos 0) taken) j) in
      test-ext
      (λ e.
      let n = (member-iff j taken).0 e in
      let f = ends_of j taken rises n in
      both.1 ((member-iff j l).1 (taken-member lo hi p j l n), between.1 (f.0.1, f.1.1)))
      (λ e.
      let n = (member-iff j l).0 (both.0 e).0 in
      let b = between.0 (both.0 e).1 in
      let k = has-member taken (b.0 ∴ b.1 ∴ simp ints (omega arith)) in
      let f = ends_of k.0 taken rises k.1 in
      (member-iff j taken).1 (taken-between lo hi p _ j _ l r n f.0.0 f.1.0 b.0 b.1))

-- a rising list has a member exactly if one is at its first position
pub first_taken : (l : List ℤ) → Rising l → let m = positions (pos 1) (pos 1) (pos 1) l in (first_or (pos 1) m ≤ℤ last_or (pos 0) m) ↔ ((k : ℤ) × Memᴰ k l)
first_taken l r = (λ h. (_, (ends-taken (pos 1) (pos 1) (pos 1) l r h).0), λ k. by l r k.1)
  where
    by : (l : List ℤ) → Rising l → {k : ℤ} → Memᴰ k l → let m = positions (pos 1) (pos 1) (pos 1) l in first_or (pos 1) m ≤ℤ last_or (pos 0) m
    by [] r n = absurd (Memᴰ.not-nil n)
    by (x ∷ l) r n =
        let here = (taken-cons (pos 1) (pos 1) (pos 1) x x l).1 (inl (refl, (asked-iff (pos 1) (pos 1) (pos 1)).1 (simp ints (omega arith), simp ints (omega arith)))) in
        let e = ends_of x (positions (pos 1) (pos 1) (pos 1) (x ∷ l)) (taken-rising (pos 1) (pos 1) (pos 1) (x ∷ l) r) here in
        ≤ℤ-trans e.0.1 e.1.1
