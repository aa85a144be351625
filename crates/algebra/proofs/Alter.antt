-- Alter. The altered granules are a's granules f(i) to l(i), which tile a's labels if none is emptied (`Altered`, `Tiles`): each label of a is in
-- exactly one, and the search over n of them finds it.
--     The result is in order, as a is and as tiles are ordered as their members.
--     Over the working period a's labels rise by D·r (`AlterSize`), and the tiles repeat after n with D: so the result rises by n·r.
use mathlib.Core.Path.{◌≡◌, refl, sym, ◌∙◌, ap, ap₂}
use mathlib.Core.Logic.{◌↔◌}
use mathlib.Core.Option.{Option, none, some}
use Prim.Native.Nat.{ℕ, ◌≤◌}
use native.Mathlib.Nat.{mul-pos}
use native.Mathlib.Omega.{arith}
use lib.IntN.{ℤ, pos, ◌+ℤ◌, ◌*ℤ◌}
use lib.Signed.{◌≤ℤ◌}
use Rattle.integers.specs.Parts.{up}
use Rattle.integers.proofs.Linear.{ints, ◌∴◌}
use Rattle.integers.proofs.Order.{pos-up}
use Rattle.calendar.specs.Meaning.{Row, meant, Ordered, Repeats, raise}
use Rattle.calendar.specs.Operation.{Operation}
use Rattle.calendar.specs.Operation.Binary.{alter}
use Rattle.calendar.specs.Operation.Operation.{binary}
use Rattle.calendar.specs.Algebra.{Spans, altered_first, altered_last, Labels}
use Rattle.calendar.specs.Lists.{on_label}
use Rattle.calendar.specs.Distance.{size}
use Rattle.calendar.specs.Compute.{first_fine, last_fine, result}
use Rattle.granules.proofs.Calendars.{repeats_many}
use Rattle.granules.proofs.Rows.{meant-repeats}
use Rattle.algebra.specs.Ready.{meaning, Ready, Right}
use Rattle.algebra.proofs.Labels.{on_label-iff}
use Rattle.algebra.proofs.Tiles.{Tiling, holder, tiles-ordered, rise-at-least, holder-iff, holder-turns}
use Rattle.algebra.proofs.Fine.{Partitioned, low, high, low-spans}
use Rattle.algebra.proofs.AlterSize.{coarse_of, fine_of, turns_fine, turns_row, turns-proportional, turns_fine-positive, turns_row-positive, distance-at-most, period-of, distance_is}
use Rattle.algebra.proofs.Altered.{coarse-positive, first-turn, fine-spans, altered-tiling}

-- ---- labels that depend on a label

on_label-raise : (o : Option ℤ) (g : ℤ → Option ℤ) (m n : ℤ) → ((j : ℤ) → g (j +ℤ m) ≡ raise n (g j)) → on_label (raise m o) g ≡ raise n (on_label o g)
on_label-raise none g m n h = refl
on_label-raise (some j) g m n h = h j

-- ---- alter

abbrev altering : ℕ → ℕ → ℤ → Row → Row → Operation Row
altering x y z a b = binary (alter x y z) a b

-- the altered granule of a label of a
abbrev tile : ℕ → ℕ → ℤ → Row → Row → ℤ → Option ℤ
tile x y z a b = holder (first_fine a b x y z) (last_fine a b x y z) (coarse_of x a b) (up (fine_of x z a b))

result-is : (x y : ℕ) (z : ℤ) (a b : Row) (t : ℤ) → result (altering x y z a b) t ≡ on_label (meant a t) (tile x y z a b)
unfolding result
result-is x y z a b t = refl

up-at-least : (n : ℕ) (D : ℤ) → pos n ≤ℤ D → n ≤ up D
up-at-least n D h = omega (arith, simp ints at h)

module _ (x y : ℕ) (z : ℤ) (a b : Row) (ready : Ready (altering x y z a b)) where
  known : Partitioned a b
  known = record { valid = ready.valid; full = ready.full; partition = ready.aligned }

  tiling : Tiling (first_fine a b x y z) (last_fine a b x y z)
  tiling = altered-tiling a b known x y z ready.factor ready.kept

  -- n ≤ D
  fine-at-least : pos (coarse_of x a b) ≤ℤ fine_of x z a b
  fine-at-least = rise-at-least tiling (coarse_of x a b) (fine_of x z a b) (first-turn a b known x y z ready.factor)

  n-at-most : coarse_of x a b ≤ up (fine_of x z a b)
  n-at-most = up-at-least (coarse_of x a b) (fine_of x z a b) fine-at-least

  n-positive : 1 ≤ coarse_of x a b
  n-positive = coarse-positive a b known x y z ready.factor

  D-positive : 1 ≤ up (fine_of x z a b)
  D-positive = omega (arith, n-positive, n-at-most)

  N-positive : 1 ≤ a.distance
  N-positive = ready.valid.0.positive.1

  tile-turn : (i : ℤ) → first_fine a b x y z (i +ℤ pos (coarse_of x a b)) ≡ first_fine a b x y z i +ℤ pos (up (fine_of x z a b))
  tile-turn i =
      first-turn a b known x y z ready.factor i
      ∙ ap (λ (d : ℤ). first_fine a b x y z i +ℤ d) (sym (pos-up {z = fine_of x z a b} (fine-at-least ∴ simp ints (omega arith))))

  tile-turns : (j k : ℤ) → tile x y z a b (j +ℤ pos (up (fine_of x z a b)) *ℤ k) ≡ raise (pos (coarse_of x a b) *ℤ k) (tile x y z a b j)
  tile-turns = holder-turns tiling (coarse_of x a b) (up (fine_of x z a b)) tile-turn n-positive

  -- the result labels the instants of a's granules f(i) to l(i) with i
  result-iff : (t i : ℤ) → (result (altering x y z a b) t ≡ some i) ↔ ((j : ℤ) × (meant a t ≡ some j) × (first_fine a b x y z i ≤ℤ j) × (j ≤ℤ last_fine a b x y z i))
  result-iff t i =
      let o = on_label-iff (meant a t) (tile x y z a b) i in (
        λ e. let k = o.0 (sym (result-is x y z a b t) ∙ e) in
            let c = (tile-iff k.0).0 k.2 in
            (k.0, k.1, c.0, c.1),
        λ k. result-is x y z a b t ∙ o.1 (k.0, k.1, (tile-iff k.0).1 (k.2, k.3)),
      )
    where
      tile-iff : (j : ℤ) → (tile x y z a b j ≡ some i) ↔ ((first_fine a b x y z i ≤ℤ j) × (j ≤ℤ last_fine a b x y z i))
      tile-iff j = holder-iff tiling (coarse_of x a b) (up (fine_of x z a b)) tile-turn n-positive j i

  labels : (t i : ℤ) → (result (altering x y z a b) t ≡ some i) ↔ Labels (meaning (altering x y z a b)) t i
  labels t i =
      let r = result-iff t i in (
        λ e. let k = r.0 e in
            let s = low-spans a b known i in
            let f = spans (low a b i) (high a b i) s in
            (k.0, k.1, (low a b i, high a b i, s, f.0 ∴ k.2 ∴ simp ints (omega arith), f.1 ∴ k.3 ∴ simp ints (omega arith))),
        λ k. let w = k.2 in
            let f = spans w.0 w.1 w.2 in
            r.1 (k.0, k.1, f.0 ∴ w.3 ∴ simp ints (omega arith), f.1 ∴ w.4 ∴ simp ints (omega arith)),
      )
    where
      spans : (p q : ℤ) → Spans (meant a) (meant b) i p q → (altered_first x y z i p ≡ first_fine a b x y z i) × (altered_last x y z i q ≡ last_fine a b x y z i)
      spans = fine-spans a b known x y z ready.factor i

  ordered : Ordered (result (altering x y z a b))
  ordered s t i j e p q =
      let k = (result-iff s i).0 p in
      let m = (result-iff t j).0 q in
      tiles-ordered tiling i j k.0 m.0 k.2 (ready.valid.0.ordered s t k.0 m.0 e k.1 m.1) m.3

  repeats : Repeats (size (altering x y z a b)).period (size (altering x y z a b)).distance (result (altering x y z a b))
  repeats t =
      result-is x y z a b (t +ℤ pos (size (altering x y z a b)).period)
      ∙ ap (λ (o : Option ℤ). on_label o (tile x y z a b)) row-turns
      ∙ on_label-raise (meant a t) (tile x y z a b) (pos D *ℤ pos r) (pos (coarse_of x a b) *ℤ pos r) (λ j. tile-turns j (pos r))
      ∙ ap₂ (λ (k : ℤ) (o : Option ℤ). raise k o) rise-is (sym (result-is x y z a b t))
    where
      D : ℕ
      D = up (fine_of x z a b)

      r : ℕ
      r = turns_fine D a.distance

      -- over the working period a's labels rise by D·r
      row-turns : meant a (t +ℤ pos (size (altering x y z a b)).period) ≡ raise (pos D *ℤ pos r) (meant a t)
      row-turns =
          ap (λ (P : ℕ). meant a (t +ℤ pos P)) (period-of x y z a b D-positive N-positive)
          ∙ repeats_many (meant a) a.period a.distance (meant-repeats a ready.valid.0.positive.0) (pos (turns_row D a.distance)) t
          ∙ ap (λ (k : ℕ). raise (pos k) (meant a t)) (sym (turns-proportional D a.distance D-positive N-positive))

      rise-is : pos (coarse_of x a b) *ℤ pos r ≡ pos (size (altering x y z a b)).distance
      rise-is = ap pos (omega (arith, distance_is x y z a b))

  positive : (1 ≤ (size (altering x y z a b)).period) × (1 ≤ (size (altering x y z a b)).distance)
  positive =
      let D = up (fine_of x z a b) in (
        rw (period-of x y z a b D-positive N-positive) (mul-pos ready.valid.0.positive.0 (turns_row-positive D a.distance D-positive N-positive)),
        rw (distance_is x y z a b) (mul-pos (turns_fine-positive D a.distance D-positive N-positive) n-positive),
      )

pub alter-right : (x y : ℕ) (z : ℤ) (a b : Row) → Ready (binary (alter x y z) a b) → Right (binary (alter x y z) a b)
alter-right x y z a b h = record { labels = labels x y z a b h; ordered = ordered x y z a b h; repeats = repeats x y z a b h; positive = positive x y z a b h }

-- N ≤ P goes over from a to the working period
pub alter-dense : (x y : ℕ) (z : ℤ) (a b : Row) → Ready (binary (alter x y z) a b) → a.distance ≤ a.period
    → (size (binary (alter x y z) a b)).distance ≤ (size (binary (alter x y z) a b)).period
alter-dense x y z a b h k =
    let p = D-positive x y z a b h in
    let q = N-positive x y z a b h in
    rw (period-of x y z a b p q, distance_is x y z a b)
    (distance-at-most (up (fine_of x z a b)) a.distance p q (coarse_of x a b) a.period (n-at-most x y z a b h) k)
