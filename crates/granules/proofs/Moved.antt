-- Rows moved by whole periods: each label rises, and granules, and what meets or lies in them, move along.
use mathlib.Core.Path.{◌≡◌, sym, ◌∙◌, ap, subst}
use mathlib.Core.Logic.{◌↔◌}
use mathlib.Core.Option.{some}
use mathlib.Core.List.Memᴰ
use mathlib.Core.List.{List, [], ◌∷◌, Memᴰ}
use Prim.Native.Nat.{ℕ, ◌*◌}
use native.Mathlib.Omega.{arith}
use lib.IntN.{ℤ, pos, neg_ℤ, ◌+ℤ◌, ◌-ℤ◌, ◌*ℤ◌}
use Rattle.integers.proofs.Linear.{ints, ◌∴◌}
use Rattle.calendar.specs.Meaning.{Calendar, Row, meant, Has, Inside, Meets}
use Rattle.calendar.specs.Algebra.{Rising, Lists}
use Rattle.calendar.specs.Granules.{has, granule, inside, meeting, within}
use Rattle.granules.specs.Valid.{Valid}
use Rattle.granules.proofs.Tests.{test-ext}
use Rattle.granules.proofs.Lists.{lists-unique, moved}
use Rattle.granules.proofs.Instants.{label-on, has-iff}
use Rattle.granules.proofs.Granule.{granule-lists}
use Rattle.granules.proofs.Inside.{inside-iff, meeting-lists, within-lists}

-- ---- lists

pub rising-moved : (k : ℤ) (l : List ℤ) → Rising l → Rising (moved k l)
rising-moved k [] h = tt
rising-moved k (x ∷ []) h = tt
rising-moved k (x ∷ y ∷ l) h = (h.0 ∴ simp ints (omega arith), rising-moved k (y ∷ l) h.1)

pub mem-moved : (u k : ℤ) (l : List ℤ) → Memᴰ (u +ℤ k) (moved k l) ↔ Memᴰ u l
mem-moved u k l = (
  λ m. let a = Memᴰ.of_map (λ (z : ℤ). z +ℤ k) l m in Memᴰ.cast (a.2 ∴ simp ints (omega arith)) a.1,
  λ m. Memᴰ.map (λ (z : ℤ). z +ℤ k) m,
)

-- a set that is moved is listed by the list moved
pub lists-moved : {S T : ℤ → Type 0} (k : ℤ) → ((u : ℤ) → T (u +ℤ k) ↔ S u) → (l : List ℤ) → Lists S l → Lists T (moved k l)
lists-moved {S} {T} k h l s = record {
  rising = rising-moved k l s.rising;
  member = λ j.
      let e : j -ℤ k +ℤ k ≡ j = simp ints (omega arith) in (
        λ p. Memᴰ.cast (sym e) ((mem-moved (j -ℤ k) k l).1 ((s.member (j -ℤ k)).0 ((h (j -ℤ k)).0 (subst T (sym e) p)))),
        λ m. subst T e ((h (j -ℤ k)).1 ((s.member (j -ℤ k)).1 ((mem-moved (j -ℤ k) k l).0 (Memᴰ.cast e m)))),
      );
}

-- ---- calendars

-- s instants on, the labels are n higher
abbrev pub Moves : Calendar → ℤ → ℤ → Type 0
Moves c s n = (u j : ℤ) → (c (u +ℤ s) ≡ some (j +ℤ n)) ↔ (c u ≡ some j)

-- the same, from the later instant
back : (c : Calendar) (s n : ℤ) → Moves c s n → (u j : ℤ) → (c u ≡ some (j +ℤ n)) ↔ (c (u -ℤ s) ≡ some j)
back c s n h u j =
    let e : u -ℤ s +ℤ s ≡ u = simp ints (omega arith) in
    (λ p. (h (u -ℤ s) j).0 (ap c e ∙ p), λ p. ap c (sym e) ∙ (h (u -ℤ s) j).1 p)

pub has-moves : (c : Calendar) (s n : ℤ) → Moves c s n → (j : ℤ) → Has c (j +ℤ n) ↔ Has c j
has-moves c s n h j = (λ p. (p.0 -ℤ s, (back c s n h p.0 j).0 p.1), λ p. (p.0 +ℤ s, (h p.0 j).1 p.1))

module _ (a b : Calendar) (s m n : ℤ) (f : Moves a s m) (g : Moves b s n) where
  pub inside-moves : (j i : ℤ) → Inside a (j +ℤ m) b (i +ℤ n) ↔ Inside a j b i
  inside-moves j i = (
    λ h u p. (g u i).0 (h (u +ℤ s) ((f u j).1 p)),
    λ h u p. (back b s n g u i).1 (h (u -ℤ s) ((back a s m f u j).0 p)),
  )

  pub meets-moves : (j i : ℤ) → Meets a (j +ℤ m) b (i +ℤ n) ↔ Meets a j b i
  meets-moves j i = (
    λ h. (h.0 -ℤ s, (back a s m f h.0 j).0 h.1, (back b s n g h.0 i).0 h.2),
    λ h. (h.0 +ℤ s, (f h.0 j).1 h.1, (g h.0 i).1 h.2),
  )

-- ---- rows

-- any number of periods, forward or back
pub moves-many : (r : Row) → Valid r → (k : ℤ) → Moves (meant r) (pos r.period *ℤ k) (pos r.distance *ℤ k)
moves-many r v k u j = (
  λ e. ap (meant r) (simp ints (omega arith))
      ∙ label-on r v (neg_ℤ k) (u +ℤ pos r.period *ℤ k) (j +ℤ pos r.distance *ℤ k) e
      ∙ ap some (simp ints (omega arith)),
  label-on r v k u j,
)

pub moves : (r : Row) → Valid r → (m : ℕ) → Moves (meant r) (pos (r.period * m)) (pos (r.distance * m))
moves r v m = moves-many r v (pos m)

module _ (r : Row) (v : Valid r) (s n : ℤ) (f : Moves (meant r) s n) where
  pub granule-along : (j : ℤ) → granule r (j +ℤ n) ≡ moved s (granule r j)
  granule-along j = lists-unique (granule r (j +ℤ n)) (moved s (granule r j)) (granule-lists r v (j +ℤ n)) (lists-moved s (λ u. f u j) (granule r j) (granule-lists r v j))

  pub has-along : (j : ℤ) → has r (j +ℤ n) ≡ has r j
  has-along j =
      let h = has-moves (meant r) s n f j in
      test-ext (λ e. (has-iff r v j).1 (h.0 ((has-iff r v (j +ℤ n)).0 e))) (λ e. (has-iff r v (j +ℤ n)).1 (h.1 ((has-iff r v j).0 e)))

-- a and b are moved by the same instants
module _ (a b : Row) (v : Valid a) (w : Valid b) (s m n : ℤ) (f : Moves (meant a) s m) (g : Moves (meant b) s n) where
  pub inside-along : (j i : ℤ) → inside a (j +ℤ m) b (i +ℤ n) ≡ inside a j b i
  inside-along j i =
      let h = inside-moves (meant a) (meant b) s m n f g j i in
      test-ext
      (λ e. (inside-iff a b v j i).1 (h.0 ((inside-iff a b v (j +ℤ m) (i +ℤ n)).0 e)))
      (λ e. (inside-iff a b v (j +ℤ m) (i +ℤ n)).1 (h.1 ((inside-iff a b v j i).0 e)))

  pub meeting-along : (i : ℤ) → meeting a b (i +ℤ n) ≡ moved m (meeting a b i)
  meeting-along i =
      lists-unique (meeting a b (i +ℤ n)) (moved m (meeting a b i)) (meeting-lists a b v w (i +ℤ n))
      (lists-moved m (λ k. meets-moves (meant a) (meant b) s m n f g k i) (meeting a b i) (meeting-lists a b v w i))

  pub within-along : (i : ℤ) → within a b (i +ℤ n) ≡ moved m (within a b i)
  within-along i =
      lists-unique (within a b (i +ℤ n)) (moved m (within a b i)) (within-lists a b v w (i +ℤ n))
      (lists-moved m both (within a b i) (within-lists a b v w i))
    where
      both : (k : ℤ) → (Has (meant a) (k +ℤ m) × Inside (meant a) (k +ℤ m) (meant b) (i +ℤ n)) ↔ (Has (meant a) k × Inside (meant a) k (meant b) i)
      both k =
          let p = has-moves (meant a) s m f k in
          let q = inside-moves (meant a) (meant b) s m n f g k i in
          (λ h. (p.0 h.0, q.0 h.1), λ h. (p.1 h.0, q.1 h.1))

-- ---- whole periods

pub has-periods : (r : Row) → Valid r → (m : ℕ) (j : ℤ) → has r (j +ℤ pos (r.distance * m)) ≡ has r j
has-periods r v m = has-along r v (pos (r.period * m)) (pos (r.distance * m)) (moves r v m)

-- m periods of a are n periods of b
module _ (a b : Row) (v : Valid a) (w : Valid b) (m n : ℕ) (e : a.period * m ≡ b.period * n) where
  -- b moves by m periods of a
  along : Moves (meant b) (pos (a.period * m)) (pos (b.distance * n))
  along = rw e (moves b w n)

  pub inside-periods : (j i : ℤ) → inside a (j +ℤ pos (a.distance * m)) b (i +ℤ pos (b.distance * n)) ≡ inside a j b i
  inside-periods = inside-along a b v w (pos (a.period * m)) (pos (a.distance * m)) (pos (b.distance * n)) (moves a v m) along

  pub meeting-periods : (i : ℤ) → meeting a b (i +ℤ pos (b.distance * n)) ≡ moved (pos (a.distance * m)) (meeting a b i)
  meeting-periods = meeting-along a b v w (pos (a.period * m)) (pos (a.distance * m)) (pos (b.distance * n)) (moves a v m) along

  pub within-periods : (i : ℤ) → within a b (i +ℤ pos (b.distance * n)) ≡ moved (pos (a.distance * m)) (within a b i)
  within-periods = within-along a b v w (pos (a.period * m)) (pos (a.distance * m)) (pos (b.distance * n)) (moves a v m) along
