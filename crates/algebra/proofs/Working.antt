-- The working row: where its labels are in range it means the computed result; checks 12 and 11 decide over all its labels.
use mathlib.Core.Path.{◌≡◌, refl, sym, ◌∙◌, ap}
use mathlib.Core.Logic.{◌↔◌, ◌⊎◌, inl, inr}
use mathlib.Core.Option.{Option, none, some}
use mathlib.Core.Bool.{Bool, true, false, not, ◌&&◌}
use mathlib.Core.List.{List, [], ◌∷◌, map}
use Prim.Native.Nat.{ℕ, zero, suc, ◌<◌}
use borrow.Author.Tests.{not-false}
use native.Mathlib.Omega.{arith}
use lib.IntN.{ℤ, pos, neg_ℤ, ◌+ℤ◌, ◌*ℤ◌}
use lib.Signed.{◌≤ℤ◌, ◌<ℤ◌}
use lib.ListN.{length, get_or, length-map}
use Rattle.integers.specs.Floor.{floor_div, floor_mod}
use Rattle.integers.proofs.Linear.{ints, ◌∴◌}
use Rattle.integers.proofs.Floor.{floor-lt}
use Rattle.calendar.specs.Meaning.{Row, meant, Same, IsCalendar, label_of, empty, raise}
use Rattle.calendar.specs.Operation.{Operation}
use Rattle.calendar.specs.Lists.{all, from, is_some, if_label}
use Rattle.calendar.specs.Distance.{size}
use Rattle.calendar.specs.Compute.{result, working, cell_of}
use Rattle.calendar.specs.Checks.{unlabelled, labels_in_range, throughout}
use Rattle.calendar.specs.Limits.{in_range, label_limit}
use Rattle.granules.specs.Valid.{Valid}
use Rattle.granules.proofs.Tests.{not_iff, false-iff, true≢false, between-iff, is_some-iff, if_label-iff}
use Rattle.granules.proofs.Lists.{all-iff, mem-from, length_from}
use Rattle.granules.proofs.Calendars.{labelled-near}
use Rattle.granules.proofs.Rows.{meant-cell, meant-repeats, valid-of-calendar}
use Rattle.granules.proofs.Least.{first-turn}
use Rattle.granules.proofs.Equal.{cell-cases}
use Rattle.algebra.specs.Ready.{meaning, Right}
use Rattle.algebra.specs.TableMeaning.{Labelled, InRange}

-- ---- tests over the working row

throughout-iff : (o : Operation Row) (f : Option ℤ → Bool)
    → (throughout o f ≡ true) ↔ ((t : ℤ) → pos 0 ≤ℤ t → t <ℤ pos (size o).period → f (result o t) ≡ true)
throughout-iff o f =
    let l = from (pos 0) (size o).period in
    let i = all-iff (λ t. f (result o t)) l in (
      λ e t low high. i.0 e t ((mem-from t (pos 0) (size o).period).1 (low ∴ high ∴ simp ints (omega arith))),
      λ h. i.1 (λ t m. let k = (mem-from t (pos 0) (size o).period).0 m in h t k.0 (k.1 ∴ simp ints (omega arith))),
    )

pub in_range-iff : (j : ℤ) → (in_range j ≡ true) ↔ ((neg_ℤ label_limit ≤ℤ j) × (j ≤ℤ label_limit))
in_range-iff = between-iff (neg_ℤ label_limit) label_limit

pub unlabelled-iff : (o : Operation Row) → Right o → (unlabelled o ≡ true) ↔ (¬ (Labelled (meaning o)))
unfolding unlabelled
unlabelled-iff o r = (there, back)
  where
    i : (throughout o (λ l. not (is_some l)) ≡ true) ↔ ((t : ℤ) → pos 0 ≤ℤ t → t <ℤ pos (size o).period → not (is_some (result o t)) ≡ true)
    i = throughout-iff o (λ l. not (is_some l))

    there : unlabelled o ≡ true → ¬ (Labelled (meaning o))
    there e (t, j, h) =
        let n = labelled-near (result o) (size o).period (size o).distance r.repeats r.positive.0 j (t, (r.labels t j).1 h) (pos 0) in
        let none = (not_iff (is_some (result o n.0))).0 (i.0 e n.0 n.2 (n.3 ∴ simp ints (omega arith))) in
        true≢false ((is_some-iff (result o n.0)).1 (n.1, n.4)) none

    back : ¬ (Labelled (meaning o)) → unlabelled o ≡ true
    back f = i.1 (λ t low high. (not_iff (is_some (result o t))).1 ((false-iff (is_some-iff (result o t))).1 (λ h. f (t, h.0, (r.labels t h.0).0 h.1))))

-- a test that fails somewhere in a list, found
all-fails : (f : ℤ → Bool) (l : List ℤ) → all f l ≡ false → (u : ℤ) × (f u ≡ false)
all-fails f [] e = absurd (true≢false refl e)
all-fails f (u ∷ l) e = by (f u) refl (all-fails f l) e
  where
    by : (b : Bool) → f u ≡ b → (all f l ≡ false → (u : ℤ) × (f u ≡ false)) → b && all f l ≡ false → (u : ℤ) × (f u ≡ false)
    by true p ih e = ih e
    by false p ih e = (u, p)

pub labelled-some : (o : Operation Row) → Right o → unlabelled o ≡ false → Labelled (meaning o)
unfolding unlabelled
labelled-some o r e =
    let h = all-fails (λ t. not (is_some (result o t))) (from (pos 0) (size o).period) e in
    let j = (is_some-iff (result o h.0)).0 (not-false (is_some (result o h.0)) h.1) in
    (h.0, j.0, (r.labels h.0 j.0).0 j.1)

-- a label of the working row that passes check 11 is in range
pub labels-in-range : (o : Operation Row) → labels_in_range o ≡ true → (t : ℤ) → pos 0 ≤ℤ t → t <ℤ pos (size o).period
    → (j : ℤ) → result o t ≡ some j → (neg_ℤ label_limit ≤ℤ j) × (j ≤ℤ label_limit)
unfolding labels_in_range
labels-in-range o e t low high j h =
    (in_range-iff j).0 ((if_label-iff (result o t) in_range).0 ((throughout-iff o (λ l. if_label l in_range)).0 e t low high) j h)

pub labels_in_range-iff : (o : Operation Row) → Right o → (labels_in_range o ≡ true) ↔ InRange (meaning o) (size o).period
unfolding labels_in_range
labels_in_range-iff o r = (
  λ e t i low high h. labels-in-range o e t low high i ((r.labels t i).1 h),
  λ h. (throughout-iff o (λ l. if_label l in_range)).1
      (λ t low high. (if_label-iff (result o t) in_range).1 (λ j e. (in_range-iff j).1 (h t j low high ((r.labels t j).0 e)))),
)

-- ---- what the working row means

pub get_or-map-from : {A : Type 0} (f : ℤ → A) (d : A) (t : ℤ) (n k : ℕ) → k < n → get_or (map f (from t n)) k d ≡ f (t +ℤ pos k)
get_or-map-from f d t zero k h = absurd (omega arith)
get_or-map-from f d t (suc n) zero h = ap f (simp ints (omega arith))
get_or-map-from f d t (suc n) (suc k) h = get_or-map-from f d (t +ℤ pos 1) n k (omega arith) ∙ ap f (simp ints (omega arith))

-- a label in range is no empty mark
cell-label : (l : Option ℤ) → ((j : ℤ) → l ≡ some j → (neg_ℤ label_limit ≤ℤ j) × (j ≤ℤ label_limit)) → label_of (cell_of l) ≡ l
cell-label none h = refl
cell-label (some j) h = by (cell-cases j) (h j refl)
  where
    by : ((label_of j ≡ none) × (j ≡ empty)) ⊎ (label_of j ≡ some j) → (neg_ℤ label_limit ≤ℤ j) × (j ≤ℤ label_limit) → label_of j ≡ some j
    by (inl p) k = absurd (p.1 ∴ k ∴ simp ints (omega arith))
    by (inr e) k = e

-- the instants of the first turn
working-cell : (o : Operation Row) → labels_in_range o ≡ true → (k : ℕ) → k < (size o).period → meant (working o) (pos k) ≡ result o (pos k)
unfolding working
working-cell o e k h =
    meant-cell (working o) k h
    ∙ ap label_of (get_or-map-from (λ t. cell_of (result o t)) empty (pos 0) (size o).period k h)
    ∙ ap (λ (t : ℤ). label_of (cell_of (result o t))) (simp ints (omega arith))
    ∙ cell-label (result o (pos k)) (labels-in-range o e (pos k) (simp ints (omega arith)) (simp ints (omega arith)))

working-repeats : (o : Operation Row) → Right o → (t : ℤ)
    → meant (working o) t ≡ raise (pos (size o).distance *ℤ floor_div t (size o).period) (meant (working o) (pos (floor_mod t (size o).period)))
unfolding working
working-repeats o r =
    first-turn (meant (working o)) (size o).period (size o).distance r.positive.0 (meant-repeats (working o) r.positive.0)

pub working-means : (o : Operation Row) → Right o → labels_in_range o ≡ true → Same (meant (working o)) (result o)
working-means o r e t =
    let P = (size o).period in
    let N = (size o).distance in
    working-repeats o r t
    ∙ ap (raise (pos N *ℤ floor_div t P)) (working-cell o e (floor_mod t P) (floor-lt P r.positive.0 t))
    ∙ sym (first-turn (result o) P N r.positive.0 r.repeats t)

pub result-calendar : (o : Operation Row) → Right o → Labelled (meaning o) → IsCalendar (result o)
result-calendar o r (t, i, h) = record {
  ordered = r.ordered;
  period = (size o).period;
  distance = (size o).distance;
  positive = r.positive;
  repeats = r.repeats;
  label = i;
  labelled = (t, (r.labels t i).1 h);
}

working-whole : (o : Operation Row) → length (working o).cells ≡ (working o).period
unfolding working
working-whole o = length-map (from (pos 0) (size o).period) (λ t. cell_of (result o t)) ∙ length_from (pos 0) (size o).period

pub working-valid : (o : Operation Row) → Right o → labels_in_range o ≡ true → Labelled (meaning o) → Valid (working o)
unfolding working
working-valid o r e l =
    valid-of-calendar (working o) (result o) (working-whole o) r.positive.0 r.positive.1 (result-calendar o r l) (working-means o r e)
