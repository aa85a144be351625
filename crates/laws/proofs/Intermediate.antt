-- Where a function on the integers reaches a value, and where a function that never falls has one.
use mathlib.Core.Path.{◌≡◌, subst}
use mathlib.Core.Logic.{◌⊎◌, inl, inr, ◌↔◌}
use Prim.Native.Nat.{ℕ, zero, suc}
use native.Mathlib.Omega.{arith}
use lib.IntN.{ℤ, pos, ◌+ℤ◌, ◌-ℤ◌}
use lib.Signed.{◌≤ℤ◌, ◌<ℤ◌}
use Rattle.integers.specs.Parts.{up}
use Rattle.integers.proofs.Linear.{ints, ◌∴◌}
use Rattle.integers.proofs.Order.{le-or-lt, pos-up, <ℤ→≤ℤ, ≤ℤ-trans}

module _ (h : ℤ → ℤ) (i : ℤ) where
  -- below i just before p, and not at p
  abbrev pub Reached : ℤ → Type 0
  Reached p = (h (p -ℤ pos 1) <ℤ i) × (i ≤ℤ h p)

  within : (n : ℕ) (lo : ℤ) → h lo <ℤ i → i ≤ℤ h (lo +ℤ pos n) → (p : ℤ) × Reached p
  within zero lo l g =
      let e : lo +ℤ pos 0 ≡ lo = simp ints (omega arith) in
      absurd (l ∴ subst (λ (z : ℤ). i ≤ℤ h z) e g ∴ simp ints (omega arith))
  within (suc n) lo l g = by (le-or-lt i (h (lo +ℤ pos n))) (within n lo l)
    where
      e : lo +ℤ pos n ≡ lo +ℤ pos (suc n) -ℤ pos 1
      e = simp ints (omega arith)

      by : (i ≤ℤ h (lo +ℤ pos n)) ⊎ (h (lo +ℤ pos n) <ℤ i) → (i ≤ℤ h (lo +ℤ pos n) → (p : ℤ) × Reached p) → (p : ℤ) × Reached p
      by (inl k) ih = ih k
      by (inr k) ih = (lo +ℤ pos (suc n), (subst (λ (z : ℤ). h z <ℤ i) e k, g))

  -- from below i at lo to at least i at hi it is reached in between
  pub reached : (lo hi : ℤ) → lo ≤ℤ hi → h lo <ℤ i → i ≤ℤ h hi → (p : ℤ) × Reached p
  reached lo hi o l g =
      let d : pos 0 ≤ℤ (hi -ℤ lo) = o ∴ simp ints (omega arith) in
      let e : hi ≡ lo +ℤ pos (up (hi -ℤ lo)) = pos-up d ∴ simp ints (omega arith) in
      within (up (hi -ℤ lo)) lo l (subst (λ (z : ℤ). i ≤ℤ h z) e g)

  -- a function that never falls is at least i from there on
  pub first-reached : ((j k : ℤ) → j ≤ℤ k → h j ≤ℤ h k) → (lo hi : ℤ) → h lo <ℤ i → i ≤ℤ h hi → (p : ℤ) × ((j : ℤ) → (i ≤ℤ h j) ↔ (p ≤ℤ j))
  first-reached mono lo hi l g = let p = reached lo hi (order (le-or-lt lo hi)) l g in (p.0, from_on p.0 p.1)
    where
      order : (lo ≤ℤ hi) ⊎ (hi <ℤ lo) → lo ≤ℤ hi
      order (inl o) = o
      order (inr o) = absurd (mono hi lo (<ℤ→≤ℤ o) ∴ l ∴ g ∴ simp ints (omega arith))

      from_on : (p : ℤ) → Reached p → (j : ℤ) → (i ≤ℤ h j) ↔ (p ≤ℤ j)
      from_on p r j = (λ g. by g (le-or-lt p j), λ l. ≤ℤ-trans r.1 (mono p j l))
        where
          by : i ≤ℤ h j → (p ≤ℤ j) ⊎ (j <ℤ p) → p ≤ℤ j
          by g (inl l) = l
          by g (inr l) = absurd (g ∴ r.0 ∴ mono j (p -ℤ pos 1) (l ∴ simp ints (omega arith)) ∴ simp ints (omega arith))

-- a function that never falls and has every value is i exactly from some p to some q
pub level : (h : ℤ → ℤ) → ((j k : ℤ) → j ≤ℤ k → h j ≤ℤ h k) → ((i : ℤ) → (j : ℤ) × (h j ≡ i)) → (i : ℤ)
    → (p : ℤ) × (q : ℤ) × (p ≤ℤ q) × ((j : ℤ) → (h j ≡ i) ↔ ((p ≤ℤ j) × (j ≤ℤ q)))
level h mono onto i =
    let f = first i in
    let n = first (i +ℤ pos 1) in
    ends f.0 n.0 f.1 n.1
  where
    first : (i : ℤ) → (p : ℤ) × ((j : ℤ) → (i ≤ℤ h j) ↔ (p ≤ℤ j))
    first i = by (onto (i -ℤ pos 1)).0 (onto i).0 (onto (i -ℤ pos 1)).1 (onto i).1
      where
        by : (lo hi : ℤ) → h lo ≡ i -ℤ pos 1 → h hi ≡ i → (p : ℤ) × ((j : ℤ) → (i ≤ℤ h j) ↔ (p ≤ℤ j))
        by lo hi e f = first-reached h i mono lo hi (e ∴ simp ints (omega arith)) (f ∴ simp ints (omega arith))

    ends : (p r : ℤ) → ((j : ℤ) → (i ≤ℤ h j) ↔ (p ≤ℤ j)) → ((j : ℤ) → ((i +ℤ pos 1) ≤ℤ h j) ↔ (r ≤ℤ j))
        → (p : ℤ) × (q : ℤ) × (p ≤ℤ q) × ((j : ℤ) → (h j ≡ i) ↔ ((p ≤ℤ j) × (j ≤ℤ q)))
    ends p r f n = (p, r -ℤ pos 1, let h = there (onto i).0 (onto i).1 in ≤ℤ-trans h.0 h.1, λ j. (there j, λ k. back j k.0 k.1 (le-or-lt (i +ℤ pos 1) (h j))))
      where
        upper : (j : ℤ) → h j ≡ i → (r ≤ℤ j) ⊎ (j <ℤ r) → j ≤ℤ (r -ℤ pos 1)
        upper j e (inl o) = absurd ((n j).1 o ∴ e ∴ simp ints (omega arith))
        upper j e (inr o) = o ∴ simp ints (omega arith)

        there : (j : ℤ) → h j ≡ i → (p ≤ℤ j) × (j ≤ℤ (r -ℤ pos 1))
        there j e = ((f j).0 (e ∴ simp ints (omega arith)), upper j e (le-or-lt r j))

        back : (j : ℤ) → p ≤ℤ j → j ≤ℤ (r -ℤ pos 1) → ((i +ℤ pos 1) ≤ℤ h j) ⊎ (h j <ℤ (i +ℤ pos 1)) → h j ≡ i
        back j k m (inl o) = absurd ((n j).0 o ∴ m ∴ simp ints (omega arith))
        back j k m (inr o) = (f j).1 k ∴ o ∴ simp ints (omega arith)
