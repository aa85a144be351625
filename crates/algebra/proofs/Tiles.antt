-- Intervals f(i) to l(i) of the integers, one behind the other: f(i + 1) = l(i) + 1 and f(i) ≤ l(i). Each integer lies in exactly one of them, and
-- where n intervals on the whole is moved by D, a search over n of them finds it.
--     f rises by at least 1 a step. So intervals are ordered as their members, and no two have a member in common.
--     With k = floor((j − f(0)) / D) the intervals n·k to n·k + n − 1 reach from f(0) + D·k to f(0) + D·(k + 1) − 1, and j is among these.
use mathlib.Core.Path.{◌≡◌, refl, sym, ◌∙◌, ap}
use mathlib.Core.Logic.{◌↔◌, ◌⊎◌, inl, inr}
use mathlib.Core.Option.{Option, none, some}
use mathlib.Core.Bool.{Bool, true, ◌&&◌}
use mathlib.Core.List.Memᴰ
use mathlib.Core.List.{List, [], ◌∷◌, Memᴰ}
use Prim.Native.Nat.{ℕ, zero, suc, ◌≤◌}
use native.Mathlib.Omega.{arith}
use lib.IntN.{ℤ, pos, ◌+ℤ◌, ◌-ℤ◌, ◌*ℤ◌}
use lib.Signed.{◌≤ℤ◌, ◌<ℤ◌, le_z}
use Rattle.integers.specs.Parts.{up}
use Rattle.integers.specs.Floor.{floor_div}
use Rattle.integers.proofs.Linear.{ints, ◌∴◌}
use Rattle.integers.proofs.Order.{le-or-lt, ≤ℤ-antisym, pos-up}
use Rattle.integers.proofs.Floor.{floor-eq, floor-lt}
use Rattle.calendar.specs.Meaning.{raise}
use Rattle.calendar.specs.Lists.{keep, from}
use Rattle.granules.proofs.Tests.{some_inj, none≢some, and-iff, le_z-iff}
use Rattle.granules.proofs.Lists.{mem-from, mem-keep}
use Rattle.granules.proofs.Calendars.{label-moved}

-- what rises by N after P steps rises by N·k after P·k
pub rises-many : (f : ℤ → ℤ) (P N : ℕ) → ((i : ℤ) → f (i +ℤ pos P) ≡ f i +ℤ pos N) → (k i : ℤ) → f (i +ℤ pos P *ℤ k) ≡ f i +ℤ pos N *ℤ k
rises-many f P N h k i = some_inj (label-moved (λ t. some (f t)) P N (λ t. ap {B = Option ℤ} some (h t)) k i (f i) refl)

-- ---- the search

-- the first of a list, if any
abbrev pub head_of : List ℤ → Option ℤ
head_of m = elim m [ [] ↦ none | i ∷ k ↦ some i ]

head-mem : (m : List ℤ) (i : ℤ) → head_of m ≡ some i → Memᴰ i m
head-mem [] i e = absurd (none≢some e)
head-mem (k ∷ m) i e = Memᴰ.head (sym (some_inj e))

-- what every member of a list with a member is, its head is
head-all : (m : List ℤ) (i k : ℤ) → Memᴰ k m → ((u : ℤ) → Memᴰ u m → u ≡ i) → head_of m ≡ some i
head-all [] i k h f = absurd (Memᴰ.not-nil h)
head-all (u ∷ m) i k h f = ap {B = Option ℤ} some (f u (Memᴰ.head refl))

-- j lies in the interval i
abbrev pub contains : (ℤ → ℤ) → (ℤ → ℤ) → ℤ → ℤ → Bool
contains f l j i = le_z (f i) j && le_z j (l i)

-- the interval of j, searched among n
abbrev pub holder : (ℤ → ℤ) → (ℤ → ℤ) → ℕ → ℕ → ℤ → Option ℤ
holder f l n D j = head_of (keep (contains f l j) (from (floor_div (j -ℤ f (pos 0)) D *ℤ pos n) n))

contains-iff : (f l : ℤ → ℤ) (j i : ℤ) → (contains f l j i ≡ true) ↔ ((f i ≤ℤ j) × (j ≤ℤ l i))
contains-iff f l j i =
    let a = and-iff (le_z (f i) j) (le_z j (l i)) in
    (λ e. ((le_z-iff (f i) j).0 (a.0 e).0, (le_z-iff j (l i)).0 (a.0 e).1), λ h. a.1 ((le_z-iff (f i) j).1 h.0, (le_z-iff j (l i)).1 h.1))

-- ---- the intervals

pub record Tiling (f l : ℤ → ℤ) : Type 0 where
  pub next : (i : ℤ) → f (i +ℤ pos 1) ≡ l i +ℤ pos 1
  pub nonempty : (i : ℤ) → f i ≤ℤ l i

module _ {f l : ℤ → ℤ} (t : Tiling f l) where
  -- of m intervals in a row one has j, if it is not before the first nor behind the last
  pub find : (m : ℕ) (i j : ℤ) → f i ≤ℤ j → j <ℤ f (i +ℤ pos m) → (k : ℤ) × (i ≤ℤ k) × (k <ℤ (i +ℤ pos m)) × (f k ≤ℤ j) × (j ≤ℤ l k)
  find zero i j h g = absurd (h ∴ g ∴ ap f {x = i +ℤ pos 0} {y = i} (simp ints (omega arith)) ∴ simp ints (omega arith))
  find (suc m) i j h g = by (le-or-lt (f (i +ℤ pos m)) j) (find m i j h)
    where
      k : ℤ
      k = i +ℤ pos m

      by : (f k ≤ℤ j) ⊎ (j <ℤ f k) → (j <ℤ f k → (u : ℤ) × (i ≤ℤ u) × (u <ℤ k) × (f u ≤ℤ j) × (j ≤ℤ l u))
          → (u : ℤ) × (i ≤ℤ u) × (u <ℤ (i +ℤ pos (suc m))) × (f u ≤ℤ j) × (j ≤ℤ l u)
      by (inl p) ih = (
        i +ℤ pos m,
        simp ints (omega arith),
        simp ints (omega arith),
        p,
        g ∴ ap f {x = i +ℤ pos (suc m)} {y = i +ℤ pos m +ℤ pos 1} (simp ints (omega arith)) ∴ t.next (i +ℤ pos m) ∴ simp ints (omega arith),
      )
      by (inr p) ih = let r = ih p in (r.0, r.1, r.2 ∴ simp ints (omega arith), r.3, r.4)

  rises : (i : ℤ) (k : ℕ) → (f i +ℤ pos k) ≤ℤ f (i +ℤ pos k)
  rises i zero = ap f {x = i +ℤ pos 0} {y = i} (simp ints (omega arith)) ∴ simp ints (omega arith)
  rises i (suc k) =
      rises i k
      ∴ t.nonempty (i +ℤ pos k)
      ∴ t.next (i +ℤ pos k)
      ∴ ap f {x = i +ℤ pos (suc k)} {y = i +ℤ pos k +ℤ pos 1} (simp ints (omega arith))
      ∴ simp ints (omega arith)

  pub first-mono : (i k : ℤ) → i ≤ℤ k → f i ≤ℤ f k
  first-mono i k h =
      rises i (up (k -ℤ i))
      ∴ ap f {x = i +ℤ pos (up (k -ℤ i))} {y = k} (pos-up {z = k -ℤ i} (h ∴ simp ints (omega arith)) ∴ simp ints (omega arith))
      ∴ simp ints (omega arith)

  -- intervals are ordered as their members
  pub tiles-ordered : (i k u v : ℤ) → f i ≤ℤ u → u ≤ℤ v → v ≤ℤ l k → i ≤ℤ k
  tiles-ordered i k u v h g e = by (le-or-lt i k)
    where
      by : (i ≤ℤ k) ⊎ (k <ℤ i) → i ≤ℤ k
      by (inl p) = p
      by (inr p) = absurd (first-mono (k +ℤ pos 1) i (p ∴ simp ints (omega arith)) ∴ t.next k ∴ h ∴ g ∴ e ∴ simp ints (omega arith))

  -- no two have a member in common
  pub tiles-unique : (i k j : ℤ) → f i ≤ℤ j → j ≤ℤ l i → f k ≤ℤ j → j ≤ℤ l k → i ≡ k
  tiles-unique i k j a b c d = ≤ℤ-antisym (tiles-ordered i k j j a (simp ints (omega arith)) d) (tiles-ordered k i j j c (simp ints (omega arith)) b)

  -- so over n intervals f rises by n at least
  pub rise-at-least : (n : ℕ) (D : ℤ) → ((i : ℤ) → f (i +ℤ pos n) ≡ f i +ℤ D) → pos n ≤ℤ D
  rise-at-least n D turn = rises (pos 0) n ∴ turn (pos 0) ∴ simp ints (omega arith)

  module _ (n D : ℕ) (turn : (i : ℤ) → f (i +ℤ pos n) ≡ f i +ℤ pos D) where
    pub count-at-most : n ≤ D
    count-at-most = let h = rise-at-least n (pos D) turn in omega (arith, simp ints at h)

    turns : (k i : ℤ) → f (i +ℤ pos n *ℤ k) ≡ f i +ℤ pos D *ℤ k
    turns = rises-many f n D turn

    module _ (positive : 1 ≤ n) where
      -- the interval of j is among those searched
      found : (j : ℤ) → (k : ℤ) × Memᴰ k (from (floor_div (j -ℤ f (pos 0)) D *ℤ pos n) n) × (f k ≤ℤ j) × (j ≤ℤ l k)
      found j =
          let d : 1 ≤ D = omega (arith, positive, count-at-most) in
          let k = floor_div (j -ℤ f (pos 0)) D in
          let i = k *ℤ pos n in
          let e = floor-eq D d (j -ℤ f (pos 0)) in
          let b = floor-lt D d (j -ℤ f (pos 0)) in
          let g = ap f {x = i} {y = pos 0 +ℤ pos n *ℤ k} (simp ints (omega arith)) ∙ turns k (pos 0) in
          let r = find n i j (e ∴ g ∴ simp ints (omega arith)) (e ∴ b ∴ g ∴ turn i ∴ simp ints (omega arith)) in
          (r.0, (mem-from r.0 i n).1 (r.1, r.2), r.3, r.4)

      pub holder-iff : (j i : ℤ) → (holder f l n D j ≡ some i) ↔ ((f i ≤ℤ j) × (j ≤ℤ l i))
      holder-iff j i = (
        λ e. (contains-iff f l j i).0 (member i (head-mem (keep (contains f l j) w) i e)).1,
        λ h. let r = found j in
            head-all (keep (contains f l j) w) i r.0 ((mem-keep (contains f l j) r.0 w).1 (r.1, (contains-iff f l j r.0).1 (r.2, r.3)))
            (λ u m. let c = (contains-iff f l j u).0 (member u m).1 in tiles-unique u i j c.0 c.1 h.0 h.1),
      )
        where
          w : List ℤ
          w = from (floor_div (j -ℤ f (pos 0)) D *ℤ pos n) n

          member : (u : ℤ) → Memᴰ u (keep (contains f l j) w) → Memᴰ u w × (contains f l j u ≡ true)
          member u = (mem-keep (contains f l j) u w).0

      -- D members on, the interval is n higher
      pub holder-turns : (j k : ℤ) → holder f l n D (j +ℤ pos D *ℤ k) ≡ raise (pos n *ℤ k) (holder f l n D j)
      holder-turns j k =
          let r = found j in
          let i = r.0 in
          let g = turns k i in
          let h = ap f {x = i +ℤ pos n *ℤ k +ℤ pos 1} {y = i +ℤ pos 1 +ℤ pos n *ℤ k} (simp ints (omega arith)) ∙ turns k (i +ℤ pos 1) in
          (holder-iff (j +ℤ pos D *ℤ k) (i +ℤ pos n *ℤ k)).1
          (g ∴ r.2 ∴ simp ints (omega arith), h ∴ t.next i ∴ t.next (i +ℤ pos n *ℤ k) ∴ r.3 ∴ simp ints (omega arith))
          ∙ sym (ap (raise (pos n *ℤ k)) ((holder-iff j i).1 (r.2, r.3)))
