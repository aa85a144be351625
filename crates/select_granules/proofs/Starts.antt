-- Where Pick starts, and that what stands at the positions from there on is what it takes:
-- from the last on, the last alone.
-- Assumes nothing.
use mathlib.Core.Path.{◌≡◌, refl, sym, ◌∙◌, ap, ap₂}
use mathlib.Core.Bool.{Bool, true, false, cond, ◌&&◌}
use mathlib.Core.List.{List, [], ◌∷◌}
use Prim.Native.Nat.{ℕ}
use native.Mathlib.Omega.{arith}
use lib.IntN.{ℤ, pos, negsuc, ◌+ℤ◌, ◌-ℤ◌}
use lib.Signed.{◌≤ℤ◌, ◌<ℤ◌}
use lib.ListN.{length}
use Rattle.integers.specs.Parts.{up}
use Rattle.integers.proofs.Linear.{ints, ◌∴◌}
use Rattle.integers.proofs.Order.{pos-up}
use Rattle.calendar.specs.Algebra.{Rising, positions, pick_start, pick}
use Rattle.calendar.specs.Lists.{any, equal, last}
use Rattle.granules.proofs.Lists.{member-iff}
use Rattle.candidates.specs.Tallies.{first_or, last_or}
use Rattle.candidates.proofs.Positions.{asked, asked-iff, ends-taken, at-positions}
use Rattle.kinds.specs.declared.Pick.{Pick}
use Rattle.select_granules.specs.declared.Picked.{Picked}
use Rattle.select_granules.specs.Memos as Memos
use Rattle.select_granules.specs.Memos.{Picks}

pub start-above : (x : ℤ) (n : ℕ) → pos 0 <ℤ x → pick_start x n ≡ x
start-above (pos x) n h = refl
start-above (negsuc x) n h = absurd h.lt

pub start-below : (x : ℤ) (n : ℕ) → x <ℤ pos 0 → pick_start x n ≡ pos n +ℤ x +ℤ pos 1
start-below (pos x) n h = absurd (h ∴ simp ints (omega arith))
start-below (negsuc x) n h = refl

-- the positions lo to hi are those that Pick takes of l
module _ (p : Pick) (l : List ℤ) (r : Rising l) (lo hi : ℤ) (starts : lo ≡ pick_start p.x (length l)) (ends : hi ≡ lo +ℤ p.y -ℤ pos 1) (above : pos 1 ≤ℤ p.y) where
  abbrev taken : List ℤ
  taken = positions lo hi (pos 1) l

  pub picks : (m : Picked) → m.low ≡ first_or (pos 1) taken → m.high ≡ last_or (pos 0) taken → Picks p l m
  picks m b c = record { takes = takes; ends = in_list }
    where
      takes : (j : ℤ) → any (equal j) (pick p.x (up p.y) l) ≡ (any (equal j) l && Memos.taken m j)
      takes j =
          let y : pos (up p.y) ≡ p.y = pos-up (above ∴ simp ints (omega arith)) in
          let e : pick_start p.x (length l) +ℤ pos (up p.y) -ℤ pos 1 ≡ hi = starts ∴ ends ∴ y ∴ simp ints (omega arith) in
          ap₂ (λ (lo hi : ℤ). any (equal j) (positions lo hi (pos 1) l)) (sym starts) e ∙ at-positions lo hi (pos 1) l r j ∙ rw (b, c)

      in_list : m.low ≤ℤ m.high → (any (equal m.low) l ≡ true) × (any (equal m.high) l ≡ true)
      in_list h =
          let n = ends-taken lo hi (pos 1) l r (rw (b, c) at h) in
          rw (b, c) ((member-iff _ l).1 n.0, (member-iff _ l).1 n.1)

-- ---- the last member

last_cons : (d x : ℤ) (l : List ℤ) → last_or d (x ∷ l) ≡ last_or x l
last_cons d x [] = refl
last_cons d x (y ∷ l) = refl

module _ (lo hi : ℤ) where
  -- the last member is the last that is taken, if its position is asked for
  last_taken : (p d : ℤ) (l : List ℤ) → lo <ℤ (p +ℤ pos (length l)) → (p +ℤ pos (length l)) ≤ℤ (hi +ℤ pos 1)
      → last_or d (positions lo hi p l) ≡ last_or d l
  last_taken p d [] g h = refl
  last_taken p d (x ∷ []) g h =
      let e = (asked-iff lo hi p).1 (g ∴ simp ints (omega arith), h ∴ simp ints (omega arith)) in
      ap (λ (b : Bool). last_or d (cond b (x ∷ []) [])) e
  last_taken p d (x ∷ y ∷ l) g h =
      by (asked lo hi p) (positions lo hi (p +ℤ pos 1) (y ∷ l))
      (λ d. last_taken (p +ℤ pos 1) d (y ∷ l) (g ∴ simp ints (omega arith)) (h ∴ simp ints (omega arith)))
    where
      by : (b : Bool) (m : List ℤ) → ((d : ℤ) → last_or d m ≡ last (y ∷ l)) → last_or d (cond b (x ∷ m) m) ≡ last (y ∷ l)
      by true m f = last_cons d x m ∙ f x
      by false m f = f d

  -- and the first too, if they start there
  first-last : (p d : ℤ) (l : List ℤ) → lo +ℤ pos 1 ≡ p +ℤ pos (length l) → lo ≤ℤ hi
      → first_or d (positions lo hi p l) ≡ last_or d l
  first-last p d [] e h = refl
  first-last p d (x ∷ []) e h =
      let a = (asked-iff lo hi p).1 (e ∴ simp ints (omega arith), e ∴ h ∴ simp ints (omega arith)) in
      ap (λ (b : Bool). first_or d (cond b (x ∷ []) [])) a
  first-last p d (x ∷ y ∷ l) e h =
      by (asked lo hi p) (positions lo hi (p +ℤ pos 1) (y ∷ l))
      (λ a. ((asked-iff lo hi p).0 a).0 ∴ e ∴ simp ints (omega arith))
      (first-last (p +ℤ pos 1) d (y ∷ l) (e ∴ simp ints (omega arith)) h)
    where
      by : (b : Bool) (m : List ℤ) → (b ≡ true → ⊥) → first_or d m ≡ last (y ∷ l)
          → first_or d (cond b (x ∷ m) m) ≡ last (y ∷ l)
      by true m f q = absurd (f refl)
      by false m f q = q

-- the last of all
pub all-last : (hi : ℤ) (l : List ℤ) → pos (length l) ≤ℤ hi
    → last_or (pos 0) (positions (pos 1) hi (pos 1) l) ≡ last_or (pos 0) l
all-last hi [] h = refl
all-last hi (x ∷ l) h =
    last_taken (pos 1) hi (pos 1) (pos 0) (x ∷ l) (simp ints (omega arith)) (h ∴ simp ints (omega arith))

-- Pick at -1 takes the last
pub picks-last : (p : Pick) (l : List ℤ) → Rising l → p.x ≡ negsuc 0 → pos 1 ≤ℤ p.y
    → (m : Picked) → m.low ≡ last_or (pos 1) l → m.high ≡ last_or (pos 0) l → Picks p l m
picks-last p l r e above m b c =
    let lo = pos (length l) in
    let n : pick_start p.x (length l) ≡ lo = ap (λ (x : ℤ). pick_start x (length l)) e ∙ simp ints (omega arith) in
    let hi = lo +ℤ p.y -ℤ pos 1 in
    picks p l r lo hi (sym n) refl above m
    (b ∙ sym (first-last lo hi (pos 1) (pos 1) l (simp ints (omega arith)) (above ∴ simp ints (omega arith))))
    (c ∙ sym (last_taken lo hi (pos 1) (pos 0) l (simp ints (omega arith)) (above ∴ simp ints (omega arith))))
