-- Group x of a calendar whose granules begin at s(i): the granule i is its granules x·(i − 1) + 1 to x·i, so it
-- begins at s(x·(i − 1) + 1).
use mathlib.Core.Path.{◌≡◌, ◌∙◌, ap}
use mathlib.Core.Logic.{◌↔◌, ◌⊎◌, inl, inr}
use mathlib.Core.Option.{some}
use Prim.Native.Nat.{ℕ, zero, suc, ◌*◌, ◌≤◌}
use native.Mathlib.Nat.{mul-pos}
use native.Mathlib.Omega.{arith}
use lib.IntN.{ℤ, pos, ◌+ℤ◌, ◌-ℤ◌, ◌*ℤ◌}
use lib.Signed.{◌≤ℤ◌, ◌<ℤ◌}
use Rattle.integers.specs.Floor.{ceil_div}
use Rattle.integers.proofs.Linear.{ints, ◌∴◌}
use Rattle.integers.proofs.Order.{le-or-lt, ≤ℤ-antisym}
use Rattle.integers.proofs.Floor.{ceil-le}
use Rattle.calendar.specs.Meaning.{Calendar}
use Rattle.calendar.specs.Operation.Unary.{group}
use Rattle.calendar.specs.Operation.Operation.{unary}
use Rattle.calendar.specs.Algebra.{Result}
use Rattle.algebra.proofs.Tiles.{rises-many, first-mono, tiles-ordered}
use Rattle.civil.proofs.Tilings.{Starts, Tiled, tiling, label-at}

-- where the grouped granules begin
unfoldable pub grouped : ℕ → (ℤ → ℤ) → ℤ → ℤ
grouped x s i = s (pos x *ℤ (i -ℤ pos 1) +ℤ pos 1)

-- the labels that are rounded up to i
ceil-between : (x : ℕ) → 1 ≤ x → (j i : ℤ)
    → (i ≡ ceil_div j x) ↔ (((pos x *ℤ (i -ℤ pos 1) +ℤ pos 1) ≤ℤ j) × (j ≤ℤ (pos x *ℤ i)))
ceil-between x above j i = (there, back)
  where
    there : i ≡ ceil_div j x → ((pos x *ℤ (i -ℤ pos 1) +ℤ pos 1) ≤ℤ j) × (j ≤ℤ (pos x *ℤ i))
    there e = (by (le-or-lt j (pos x *ℤ (i -ℤ pos 1))), (ceil-le x above j i).0 (e ∴ simp ints (omega arith)))
      where
        by : (j ≤ℤ (pos x *ℤ (i -ℤ pos 1))) ⊎ ((pos x *ℤ (i -ℤ pos 1)) <ℤ j) → (pos x *ℤ (i -ℤ pos 1) +ℤ pos 1) ≤ℤ j
        by (inl h) = absurd ((ceil-le x above j (i -ℤ pos 1)).1 h ∴ e ∴ simp ints (omega arith))
        by (inr h) = h ∴ simp ints (omega arith)

    back : ((pos x *ℤ (i -ℤ pos 1) +ℤ pos 1) ≤ℤ j) × (j ≤ℤ (pos x *ℤ i)) → i ≡ ceil_div j x
    back (h, k) = ≤ℤ-antisym (by (le-or-lt i (ceil_div j x))) ((ceil-le x above j i).1 k)
      where
        by : (i ≤ℤ ceil_div j x) ⊎ (ceil_div j x <ℤ i) → i ≤ℤ ceil_div j x
        by (inl l) = l
        by (inr l) =
            absurd ((ceil-le x above j (i -ℤ pos 1)).0 (l ∴ simp ints (omega arith)) ∴ h ∴ simp ints (omega arith))

module _ {s : ℤ → ℤ} {P N m : ℕ} (starts : Starts s P N m) (x : ℕ) (above : 1 ≤ x) where
  -- x granules are x·m instants at least
  lengths : (k : ℕ) (i : ℤ) → (s i +ℤ pos (k * m)) ≤ℤ s (i +ℤ pos k)
  lengths zero i = ap s {x = i +ℤ pos 0} {y = i} (simp ints (omega arith)) ∴ simp ints (omega arith)
  lengths (suc k) i =
      lengths k i ∴ starts.length (i +ℤ pos k) ∴ ap s {x = i +ℤ pos (suc k)} {y = i +ℤ pos k +ℤ pos 1} (simp ints (omega arith)) ∴ simp ints (omega arith)

  -- the granule i + n begins x·n granules on
  later : (i : ℤ) (n k : ℕ) → x * n ≡ k → grouped x s (i +ℤ pos n) ≡ s (pos x *ℤ (i -ℤ pos 1) +ℤ pos 1 +ℤ pos k)
  unfolding grouped
  later i n k e = ap s (ap pos e ∴ simp ints (omega arith))

  -- n grouped granules are a turns
  pub grouped-starts : (n a : ℕ) → 1 ≤ n → x * n ≡ N * a → Starts (grouped x s) (P * a) n (x * m)
  unfolding grouped
  grouped-starts n a positive e = record {
    turn = λ i. later i n (N * a) e ∙ rises-many s N P starts.turn (pos a) (pos x *ℤ (i -ℤ pos 1) +ℤ pos 1);
    length = λ i. lengths x (pos x *ℤ (i -ℤ pos 1) +ℤ pos 1) ∴ later i 1 x (omega arith) ∴ simp ints (omega arith);
    origin = ap s {x = pos x *ℤ (pos 1 -ℤ pos 1) +ℤ pos 1} {y = pos 1} (simp ints (omega arith)) ∙ starts.origin;
    positive = (positive, mul-pos above starts.positive.1);
  }

  pub grouped-result : {a c : Calendar} → Tiled a s → Tiled c (grouped x s) → Result (unary (group x) a) c
  unfolding grouped
  grouped-result {a} {c} tiled tiled' t i = (there, back)
    where
      low : ℤ
      low = pos x *ℤ (i -ℤ pos 1) +ℤ pos 1

      behind : s (pos x *ℤ i +ℤ pos 1) ≡ grouped x s (i +ℤ pos 1)
      behind = ap s (simp ints (omega arith))

      there : c t ≡ some i → (j : ℤ) × (a t ≡ some j) × (i ≡ ceil_div j x)
      there e =
          let (h, k) = (tiled' t i).0 e in
          let (j, f) = label-at starts tiled t in
          let (l, u) = (tiled t j).0 f in (
            j,
            f,
            (ceil-between x above j i).1 (
              tiles-ordered (tiling starts) low j t t h (simp ints (omega arith)) u,
              tiles-ordered (tiling starts) j (pos x *ℤ i) t t l (simp ints (omega arith)) (behind ∴ k ∴ simp ints (omega arith)),
            ),
          )

      back : (j : ℤ) × (a t ≡ some j) × (i ≡ ceil_div j x) → c t ≡ some i
      back (j, f, e) =
          let (l, u) = (tiled t j).0 f in
          let (h, k) = (ceil-between x above j i).0 e in
          (tiled' t i).1 (
            first-mono (tiling starts) low j h ∴ l ∴ simp ints (omega arith),
            first-mono (tiling starts) (j +ℤ pos 1) (pos x *ℤ i +ℤ pos 1) (k ∴ simp ints (omega arith)) ∴ behind ∴ u ∴ simp ints (omega arith),
          )
