-- The working row as it is filled in, instant by instant: its cells, and what its labels are.
-- Assumes nothing.
use Rattle.calendar.specs.declared.Refusal.TheVariants.{NothingLabelled, LabelOutsideLimits}
use Rattle.std.specs.Prelude.{Err, Ok}
use mathlib.Core.Path.{◌≡◌, refl, sym, ◌∙◌, ap}
use mathlib.Core.Logic.{◌↔◌, ◌⊎◌, inl, inr, ⊎_elim, ⊎_map}
use mathlib.Core.Option.{Option, none, some}
use mathlib.Core.Bool.{Bool, true, false, not, ◌||◌}
use mathlib.Core.List.{List, ◌++◌, append_assoc}
use Prim.Native.Nat.{ℕ, ◌+◌, ◌≤◌, ◌<◌}
use native.Mathlib.Numerals.{add-one}
use native.Mathlib.Omega.{arith}
use lib.IntN.{ℤ, pos}
use lib.ListN.{length, get_or, set, take, drop, length-take, length-map}
use lib.Seq.{paste, paste-zero, paste-suc, length-paste, take-length, length-take-le, take_at, drop_at, get_or-take}
use mir.Syntax.{w32}
use mir.Val.{SFits}
use Rattle.integers.specs.Parts.{up}
use Rattle.integers.proofs.Linear.{ints, ◌∴◌}
use Rattle.integers.proofs.Order.{pos-up}
use Rattle.calendar.specs.Meaning.{Row, label_of, empty}
use Rattle.calendar.specs.Operation.{Operation}
use Rattle.calendar.specs.Lists.{from, is_some, if_label}
use Rattle.calendar.specs.Distance.{size}
use Rattle.calendar.specs.Compute.{result, working, cell_of}
use Rattle.calendar.specs.Checks.{throughout, unlabelled, labels_in_range}
use Rattle.calendar.specs.Limits.{in_range, pool_limit}
use Rattle.granules.proofs.Tests.{true-or-false, true≢false, or-iff, not_iff, false-iff, ltb_iff, decided}
use Rattle.granules.proofs.Lists.{all-iff, mem-from, length_from}
use Rattle.algebra.proofs.Working.{get_or-map-from, in_range-iff}
use Rattle.cursors.proofs.Cells.{label-full}
use Rattle.fill_shared.specs.Fillable.{Written}
use Rattle.fill_shared.specs.Placed.{filled_as}

-- ---- the cells of the working row

pub working-length : (o : Operation Row) → length (working o).cells ≡ (size o).period
unfolding working
working-length o = length-map (from (pos 0) (size o).period) (λ t. cell_of (result o t)) ∙ length_from (pos 0) (size o).period

pub working-at : (o : Operation Row) (u : ℕ) → u < (size o).period → get_or (working o).cells u empty ≡ cell_of (result o (pos u))
unfolding working
working-at o u h = get_or-map-from (λ t. cell_of (result o t)) empty (pos 0) (size o).period u h ∙ ap (λ (t : ℤ). cell_of (result o t)) (simp ints (omega arith))

-- cells written from `at` on leave those before
pub paste-before : (old : List ℤ) (at : ℕ) (cells : List ℤ) (t : ℕ) → at ≤ length old → take at (paste old at cells t) ≡ take at old
paste-before old at cells t h = ap (take at) (append_assoc (take at old) (take t cells) (drop (at + t) old)) ∙ take_at (take at old) _ at (length-take-le at old h)

-- a label within the limits is no empty mark
pub cell-label : (l : Option ℤ) → if_label l in_range ≡ true → label_of (cell_of l) ≡ l
cell-label none h = refl
cell-label (some j) h = label-full j (λ e. let k = (in_range-iff j).0 h in absurd (k.0 ∴ k.1 ∴ e ∴ simp ints (omega arith)))

pub range-fits : (j : ℤ) → in_range j ≡ true → SFits w32 j
range-fits j h = let k = (in_range-iff j).0 h in k.0 ∴ k.1 ∴ simp ints (omega arith)

-- ---- tests over the working row

throughout-iff : (o : Operation Row) (f : Option ℤ → Bool) → (throughout o f ≡ true) ↔ ((u : ℕ) → u < (size o).period → f (result o (pos u)) ≡ true)
throughout-iff o f =
    let n = (size o).period in
    let i = all-iff (λ t. f (result o t)) (from (pos 0) n) in (
      λ e u h. i.0 e (pos u) ((mem-from (pos u) (pos 0) n).1 (simp ints (omega arith))),
      λ h. i.1 (λ t m. let k = (mem-from t (pos 0) n).0 m in let p = pos-up k.0 in ap (λ (z : ℤ). f (result o z)) (sym p) ∙ h (up t) (p ∴ k.1 ∴ simp ints (omega arith))),
    )

-- a test that fails at an instant of the working row fails throughout
throughout-fails : (o : Operation Row) (f : Option ℤ → Bool) (u : ℕ) → u < (size o).period → f (result o (pos u)) ≡ false → throughout o f ≡ false
throughout-fails o f u h e = (false-iff (throughout-iff o f)).1 (λ g. true≢false (g u h) e)

labelled-one : (o : Operation Row) (u : ℕ) → u < (size o).period → is_some (result o (pos u)) ≡ true → unlabelled o ≡ false
unfolding unlabelled
labelled-one o u h e = throughout-fails o (λ l. not (is_some l)) u h (ap not e)

labelled-none : (o : Operation Row) → ((u : ℕ) → u < (size o).period → is_some (result o (pos u)) ≡ true → ⊥) → unlabelled o ≡ true
unfolding unlabelled
labelled-none o f = (throughout-iff o (λ l. not (is_some l))).1 (λ u h. (not_iff (is_some (result o (pos u)))).1 (⊎_elim (λ x. absurd (f u h x)) (λ x. x) (true-or-false (is_some (result o (pos u))))))

-- a label of the working row that is outside the limits
module _ (o : Operation Row) (t : ℕ) (h : t < (size o).period) (j : ℤ) (e : some j ≡ result o (pos t)) (r : in_range j ≡ false) where
  pub out_of_range : labels_in_range o ≡ false
  unfolding labels_in_range
  out_of_range = throughout-fails o (λ l. if_label l in_range) t h (ap (λ (l : Option ℤ). if_label l in_range) (sym e) ∙ r)

  pub filled-out : (Err LabelOutsideLimits) ≡ filled_as o
  filled-out = rw (labelled-one o t h (ap is_some (sym e)), out_of_range)

-- ---- the loop

-- the cells of the instants before t are written, and nothing else; their labels are within the limits, and `labelled` says whether there are any
pub record Writes (o : Operation Row) (at : ℕ) (old new : List ℤ) (labelled : Bool) (t : ℕ) : Type 0 where
  pub at-most : t ≤ (size o).period
  pub is-new : new ≡ paste old at (working o).cells t
  pub within : (u : ℕ) → u < t → if_label (result o (pos u)) in_range ≡ true
  pub is-labelled : (labelled ≡ true) ↔ ((u : ℕ) × (u < t) × (is_some (result o (pos u)) ≡ true))

module _ (o : Operation Row) (at : ℕ) (old : List ℤ) (room : at + (size o).period ≤ length old) where
  pub writes-none : Writes o at old old false 0
  writes-none = record {
    at-most = omega arith;
    is-new = paste-zero old at (working o).cells;
    within = λ u h. absurd (omega arith);
    is-labelled = (λ e. absurd (true≢false e refl), λ h. absurd (omega (arith, h.1)));
  }

  module _ (new : List ℤ) (labelled : Bool) (t : ℕ) (w : Writes o at old new labelled t) where
    pub writes-length : length new ≡ length old
    writes-length =
        let l : at + t ≤ length old = omega (arith, w.at-most) in
        let m : t ≤ length (working o).cells = omega (arith, w.at-most, working-length o) in
        ap length w.is-new ∙ length-paste old at (working o).cells t l m

    pub writes-before : take at new ≡ take at old
    writes-before = ap (take at) w.is-new ∙ paste-before old at (working o).cells t (omega arith)

    pub new_is : new ≡ take at old ++ (take t (working o).cells ++ drop (at + t) old)
    new_is = w.is-new ∙ append_assoc (take at old) (take t (working o).cells) (drop (at + t) old)

    -- the cells of the instants before t
    written_is : take t (drop at new) ≡ take t (working o).cells
    written_is =
        let front : length (take at old) ≡ at = length-take-le at old (omega arith) in
        let whole : length (take t (working o).cells) ≡ t = length-take-le t (working o).cells (omega (arith, w.at-most, working-length o)) in
        ap (λ (l : List ℤ). take t (drop at l)) new_is
        ∙ ap (take t) (drop_at (take at old) (take t (working o).cells ++ drop (at + t) old) at front)
        ∙ take_at (take t (working o).cells) (drop (at + t) old) t whole

    pub writes-written : length old ≤ pool_limit → Written o (take t (drop at new))
    writes-written few = rw written_is record {
      at-most = simp length-take (omega (arith, w.at-most));
      labels = λ u h. let m : u < t = omega (arith, simp length-take at h) in
          ap label_of (get_or-take t (working o).cells u empty m ∙ working-at o u (omega (arith, w.at-most))) ∙ cell-label (result o (pos u)) (w.within u m);
    }

    -- one instant more, with the label l
    pub writes_more : (l : Option ℤ) → t < (size o).period → l ≡ result o (pos t) → if_label l in_range ≡ true
        → Writes o at old (set new (at + t) (cell_of l)) (is_some l || labelled) (t + 1)
    writes_more l h e r = record {
      at-most = omega arith;
      is-new =
          ap (λ (p : List ℤ). set p (at + t) (cell_of l)) w.is-new
          ∙ ap (set (paste old at cells t) (at + t)) (ap cell_of e ∙ sym (working-at o t h))
          ∙ paste-suc old at cells t empty (omega arith) (omega (arith, working-length o))
          ∙ ap (paste old at cells) (sym (add-one t));
      within = λ u m. by-within u (before u m);
      is-labelled = (
        λ q. ⊎_elim (λ x. (t, omega arith, ap is_some (sym e) ∙ x)) (λ x. let y = w.is-labelled.0 x in (y.0, omega (arith, y.1), y.2)) ((or-iff (is_some l) labelled).0 q),
        λ x. (or-iff (is_some l) labelled).1 (by-labelled x.0 (before x.0 x.1) x.2),
      );
    }
      where
        cells : List ℤ
        cells = (working o).cells

        before : (u : ℕ) → u < t + 1 → (u < t) ⊎ (u ≡ t)
        before u m = ⊎_map (λ x. x) (λ x. omega arith) (decided (ltb_iff u t))

        by-within : (u : ℕ) → (u < t) ⊎ (u ≡ t) → if_label (result o (pos u)) in_range ≡ true
        by-within u (inl m) = w.within u m
        by-within u (inr q) = ap (λ (v : ℕ). if_label (result o (pos v)) in_range) q ∙ ap (λ (x : Option ℤ). if_label x in_range) (sym e) ∙ r

        by-labelled : (u : ℕ) → (u < t) ⊎ (u ≡ t) → is_some (result o (pos u)) ≡ true → (is_some l ≡ true) ⊎ (labelled ≡ true)
        by-labelled u (inl m) x = inr (w.is-labelled.1 (u, m, x))
        by-labelled u (inr q) x = inl (ap is_some e ∙ ap (λ (v : ℕ). is_some (result o (pos v))) (sym q) ∙ x)

    -- all instants
    module _ (done : (size o).period ≤ t) where
      all-in-range : labels_in_range o ≡ true
      unfolding labels_in_range
      all-in-range = (throughout-iff o (λ l. if_label l in_range)).1 (λ u h. w.within u (omega arith))

      pub writes-labelled : labelled ≡ true → (Ok tt) ≡ filled_as o
      writes-labelled e = let y = w.is-labelled.0 e in rw (labelled-one o y.0 (omega (arith, w.at-most, y.1)) y.2, all-in-range)

      pub writes-unlabelled : labelled ≡ false → (Err NothingLabelled) ≡ filled_as o
      writes-unlabelled e = rw (labelled-none o (λ u h x. true≢false (w.is-labelled.1 (u, omega arith, x)) e))

      pub writes-all : new ≡ take at old ++ ((working o).cells ++ drop (at + (size o).period) old)
      writes-all =
          let whole : t ≡ (size o).period = omega (arith, w.at-most) in
          w.is-new
          ∙ ap (paste old at (working o).cells) whole
          ∙ append_assoc (take at old) (take (size o).period (working o).cells) (drop (at + (size o).period) old)
          ∙ ap (λ (l : List ℤ). take at old ++ (l ++ drop (at + (size o).period) old)) (ap (λ (n : ℕ). take n (working o).cells) (sym (working-length o)) ∙ take-length (working o).cells)
