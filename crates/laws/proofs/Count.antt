-- The labels of a calendar from one number up to another, listed and counted.
use mathlib.Core.Path.{◌≡◌, refl, sym, ◌∙◌, ap, subst}
use mathlib.Core.Logic.{◌⊎◌, inl, inr, ⊎_elim}
use mathlib.Core.Option.{some}
use mathlib.Core.Bool.{Bool, ◌&&◌}
use mathlib.Core.List.Memᴰ
use mathlib.Core.List.{List, [], ◌∷◌, ◌++◌, map, Memᴰ}
use Prim.Native.Nat.{ℕ, ◌+◌, ◌≤◌}
use native.Mathlib.Nat.{mul-le-mul_left}
use native.Mathlib.Omega.{arith}
use lib.IntN.{ℤ, pos, negsuc, ◌+ℤ◌, ◌-ℤ◌, ◌*ℤ◌}
use lib.Signed.{◌≤ℤ◌, ◌<ℤ◌, le_z, lt_z}
use lib.ListN.{length, length-append}
use Rattle.integers.specs.Parts.{up}
use Rattle.integers.proofs.Linear.{ints, ◌∴◌}
use Rattle.integers.proofs.Order.{le-or-lt, pos-up, <ℤ→≤ℤ, ≤ℤ-trans}
use Rattle.calendar.specs.Meaning.{Calendar, Has, Full, IsCalendar}
use Rattle.calendar.specs.Algebra.{Lists}
use Rattle.calendar.specs.Lists.{keep, from, distinct}
use Rattle.granules.proofs.Tests.{and-iff, le_z-iff, lt_z-iff}
use Rattle.granules.proofs.Lists.{mem-from, mem-keep, length_from, rising-from, rising-keep, rising-append, lists-unique, distinct-lists}
use Rattle.granules.proofs.Calendars.{label-moved}

-- k is a label of c from x on and before z
abbrev pub Between : Calendar → ℤ → ℤ → ℤ → Type 0
Between c x z k = Has c k × (x ≤ℤ k) × (k <ℤ z)

le_up : (z : ℤ) → z ≤ℤ pos (up z)
le_up (pos n) = simp ints (omega arith)
le_up (negsuc n) = simp ints (omega arith)

before-end : (lo hi u : ℤ) → u <ℤ hi → u <ℤ (lo +ℤ pos (up (hi -ℤ lo)))
before-end lo hi u o = o ∴ le_up (hi -ℤ lo) ∴ simp ints (omega arith)

-- ---- listed

-- one stretch after another
lists-append : (c : Calendar) (x y z : ℤ) (l m : List ℤ) → x ≤ℤ y → y ≤ℤ z → Lists (Between c x y) l → Lists (Between c y z) m → Lists (Between c x z) (l ++ m)
lists-append c x y z l m o p L M = record {
  rising = rising-append l m L.rising M.rising (λ j k a b. ((L.member j).1 a).2 ∴ ((M.member k).1 b).1 ∴ simp ints (omega arith));
  member = λ k. (
    λ h. into k h (le-or-lt y k),
    λ n. ⊎_elim
        (λ a. let h = (L.member k).1 a in (h.0, h.1, h.2 ∴ p ∴ simp ints (omega arith)))
        (λ b. let h = (M.member k).1 b in (h.0, ≤ℤ-trans o h.1, h.2))
        (Memᴰ.append_cases l n),
  );
}
  where
    into : (k : ℤ) → Between c x z k → (y ≤ℤ k) ⊎ (k <ℤ y) → Memᴰ k (l ++ m)
    into k h (inl q) = Memᴰ.append_right l ((M.member k).0 (h.0, q, h.2))
    into k h (inr q) = Memᴰ.append_left m ((L.member k).0 (h.0, h.1, q))

-- all numbers are labels of a full calendar
lists-full : (c : Calendar) → Full c → (x z : ℤ) (n : ℕ) → pos n ≡ z -ℤ x → Lists (Between c x z) (from x n)
lists-full c full x z n e = record {
  rising = rising-from x n;
  member = λ k. (
    λ h. (mem-from k x n).1 (h.1, e ∴ h.2 ∴ simp ints (omega arith)),
    λ m. let h = (mem-from k x n).0 m in (full k, h.0, e ∴ h.1 ∴ simp ints (omega arith)),
  );
}

module _ (c : Calendar) (is_calendar : IsCalendar c) where
  open is_calendar use {ordered, period, distance, positive, repeats, label, labelled}

  -- there are labels above any number and below
  pub label-above : (z : ℤ) → (t : ℤ) × (j : ℤ) × (c t ≡ some j) × (z ≤ℤ j)
  label-above z =
      let n = up (z -ℤ label) in
      let far = mul-le-mul_left n positive.1 in (
        labelled.0 +ℤ pos period *ℤ pos n,
        label +ℤ pos distance *ℤ pos n,
        label-moved c period distance repeats (pos n) labelled.0 label labelled.1,
        le_up (z -ℤ label) ∴ simp ints (omega (arith, far)),
      )

  pub label-below : (z : ℤ) → (t : ℤ) × (j : ℤ) × (c t ≡ some j) × (j <ℤ z)
  label-below z =
      let n = up (label -ℤ z) in
      let far = mul-le-mul_left n positive.1 in (
        labelled.0 +ℤ pos period *ℤ negsuc n,
        label +ℤ pos distance *ℤ negsuc n,
        label-moved c period distance repeats (negsuc n) labelled.0 label labelled.1,
        le_up (label -ℤ z) ∴ simp ints (omega (arith, far, positive.1)),
      )

  pub between : (x z : ℤ) → (l : List ℤ) × Lists (Between c x z) l
  between x z = (
    l,
    record {
      rising = rising-keep test labels D.rising;
      member = λ k. (
        λ h. (mem-keep test k labels).1 (
          (D.member k).0 (h.0.0, (mem-from h.0.0 lo n).1 (from-lo h.0.0 k h.0.1 h.1, to-hi h.0.0 k h.0.1 h.2), h.0.1),
          (and-iff (le_z x k) (lt_z k z)).1 ((le_z-iff x k).1 h.1, (lt_z-iff k z).1 h.2),
        ),
        λ m. let h = (mem-keep test k labels).0 m in
            let d = (D.member k).1 h.0 in
            let e = (and-iff (le_z x k) (lt_z k z)).0 h.1 in
            ((d.0, d.2), (le_z-iff x k).0 e.0, (lt_z-iff k z).0 e.1),
      );
    },
  )
    where
      lo : ℤ
      lo = (label-below x).0

      hi : ℤ
      hi = (label-above z).0

      n : ℕ
      n = up (hi -ℤ lo)

      test : ℤ → Bool
      test k = le_z x k && lt_z k z

      labels : List ℤ
      labels = distinct (map c (from lo n))

      l : List ℤ
      l = keep test labels

      D : Lists (λ j. (u : ℤ) × Memᴰ u (from lo n) × (c u ≡ some j)) labels
      D = distinct-lists c ordered (from lo n) (rising-from lo n)

      from-lo : (u k : ℤ) → c u ≡ some k → x ≤ℤ k → lo ≤ℤ u
      from-lo u k e m = by (le-or-lt lo u)
        where
          by : (lo ≤ℤ u) ⊎ (u <ℤ lo) → lo ≤ℤ u
          by (inl o) = o
          by (inr o) = absurd (ordered u lo k (label-below x).1 (<ℤ→≤ℤ o) e (label-below x).2 ∴ (label-below x).3 ∴ m ∴ simp ints (omega arith))

      to-hi : (u k : ℤ) → c u ≡ some k → k <ℤ z → u <ℤ (lo +ℤ pos n)
      to-hi u k e m = by (le-or-lt hi u)
        where
          by : (hi ≤ℤ u) ⊎ (u <ℤ hi) → u <ℤ (lo +ℤ pos n)
          by (inl o) = absurd (ordered hi u (label-above z).1 k o (label-above z).2 e ∴ (label-above z).3 ∴ m ∴ simp ints (omega arith))
          by (inr o) = before-end lo hi u o

  -- ---- counted

  pub count : ℤ → ℤ → ℕ
  count x z = length (between x z).0

  pub count-is : (x z : ℤ) (l : List ℤ) → Lists (Between c x z) l → length l ≡ count x z
  unfolding count
  count-is x z l L = ap length (lists-unique l (between x z).0 L (between x z).1)

  pub count_none : (x z : ℤ) → z ≤ℤ x → count x z ≡ 0
  count_none x z o = sym (count-is x z [] (record {
    rising = tt;
    member = λ k. (λ h. absurd (o ∴ h.1 ∴ h.2 ∴ simp ints (omega arith)), λ m. absurd (Memᴰ.not-nil m));
  }))

  pub count-sum : (x y z : ℤ) → x ≤ℤ y → y ≤ℤ z → count x z ≡ count x y + count y z
  unfolding count
  count-sum x y z o p =
      let l = between x y in
      let m = between y z in
      sym (count-is x z (l.0 ++ m.0) (lists-append c x y z l.0 m.0 o p l.1 m.1)) ∙ length-append l.0 m.0

  -- one number counts 1 exactly if it is a label
  pub count-label : (z : ℤ) → Has c z → count z (z +ℤ pos 1) ≡ 1
  count-label z h = sym (count-is z (z +ℤ pos 1) (z ∷ []) (record {
    rising = tt;
    member = λ k. (
      λ b. Memᴰ.head (b.1 ∴ b.2 ∴ simp ints (omega arith)),
      λ m. let e = Memᴰ.eq_of_singleton m in (subst (Has c) (sym e) h, e ∴ simp ints (omega arith), e ∴ simp ints (omega arith)),
    );
  }))

  pub label-counted : (z : ℤ) → 1 ≤ count z (z +ℤ pos 1) → Has c z
  unfolding count
  label-counted z o = by (between z (z +ℤ pos 1)).0 (between z (z +ℤ pos 1)).1 o
    where
      by : (l : List ℤ) → Lists (Between c z (z +ℤ pos 1)) l → 1 ≤ length l → Has c z
      by [] L o = absurd (omega arith)
      by (k ∷ l) L o =
          let h = (L.member k).1 (Memᴰ.head refl) in
          let e : k ≡ z = h.1 ∴ h.2 ∴ simp ints (omega arith) in
          subst (Has c) e h.0

  pub count-full : Full c → (x z : ℤ) → x ≤ℤ z → pos (count x z) ≡ z -ℤ x
  count-full full x z o =
      let d : pos 0 ≤ℤ (z -ℤ x) = o ∴ simp ints (omega arith) in
      let n = up (z -ℤ x) in
      ap pos (sym (count-is x z (from x n) (lists-full c full x z n (pos-up d))) ∙ length_from x n) ∙ pos-up d
