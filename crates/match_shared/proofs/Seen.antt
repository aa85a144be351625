-- A loop that compares a claimed row with the working row of an operation: what it knows after one instant more, and at the end.
-- Assumes nothing.
use Rattle.calendar.specs.declared.Refusal.TheVariants.{NothingLabelled, LabelOutsideLimits}
use Rattle.std.specs.Prelude.{Err, Ok}
use mathlib.Core.Path.{◌≡◌, refl, sym, ◌∙◌, ap, ap₂}
use mathlib.Core.Option.{Option, none, some}
use mathlib.Core.Bool.{Bool, true, false, not, cond, ◌&&◌, ◌||◌}
use Prim.Native.Nat.{ℕ, zero, suc, ◌+◌, ◌≤◌, ◌<◌}
use native.Mathlib.Numerals.{add-one}
use native.Mathlib.Omega.{arith}
use lib.IntN.{ℤ, pos, ◌+ℤ◌}
use Rattle.integers.proofs.Linear.{ints}
use Rattle.calendar.specs.Meaning.{Row, meant}
use Rattle.calendar.specs.Operation.{Operation}
use Rattle.calendar.specs.Lists.{all, from, is_some, if_label, same_label}
use Rattle.calendar.specs.Limits.{in_range}
use Rattle.calendar.specs.Distance.{size}
use Rattle.calendar.specs.Compute.{result}
use Rattle.calendar.specs.Checks.{unlabelled, labels_in_range}
use Rattle.granules.proofs.Tests.{true≢false, false-iff}
use Rattle.granules.proofs.Lists.{all-iff, mem-from}
use Rattle.match_shared.specs.Matching.{agree, matched_as}
use Rattle.match_shared.specs.Seen.{Seen}

-- ---- tests over the first instants

and_assoc : (a b c : Bool) → a && (b && c) ≡ (a && b) && c
and_assoc true b c = refl
and_assoc false b c = refl

and-true : (a : Bool) → a && true ≡ a
and-true true = refl
and-true false = refl

all_from : (f : ℤ → Bool) (z : ℤ) (n : ℕ) → all f (from z (suc n)) ≡ all f (from z n) && f (z +ℤ pos n)
all_from f z zero = and-true (f z) ∙ ap f (simp ints (omega arith))
all_from f z (suc n) =
    ap (◌&&◌ (f z)) (all_from f (z +ℤ pos 1) n ∙ ap (λ (u : ℤ). all f (from (z +ℤ pos 1) n) && f u) (simp ints (omega arith)))
    ∙ and_assoc (f z) (all f (from (z +ℤ pos 1) n)) (f (z +ℤ pos (suc n)))

-- one instant more
pub all_more : (f : ℤ → Bool) (n : ℕ) → all f (from (pos 0) (n + 1)) ≡ all f (from (pos 0) n) && f (pos n)
all_more f n =
    ap (λ (m : ℕ). all f (from (pos 0) m)) (add-one n)
    ∙ all_from f (pos 0) n
    ∙ ap (λ (u : ℤ). all f (from (pos 0) n) && f u) (simp ints (omega arith))

-- an instant at which the test fails
all-fails : (f : ℤ → Bool) (n u : ℕ) → u < n → f (pos u) ≡ false → all f (from (pos 0) n) ≡ false
all-fails f n u h e =
    (false-iff (all-iff f (from (pos 0) n))).1
    (λ g. true≢false (g (pos u) ((mem-from (pos u) (pos 0) n).1 (simp ints (omega arith)))) e)

not-not : (a : Bool) → not (not a) ≡ a
not-not true = refl
not-not false = refl

not-and : (a b : Bool) → not (a && not b) ≡ b || not a
not-and true true = refl
not-and true false = refl
not-and false true = refl
not-and false false = refl

-- ---- the loop

pub seen_none : (o : Operation Row) (r : Row) → Seen o r 0 false true
unfolding agree
seen_none o r = record { at-most = omega arith; within = refl; is-labelled = refl; is_same = refl }

module _ (o : Operation Row) (r : Row) (t : ℕ) (labelled same : Bool) (s : Seen o r t labelled same) where
  -- one instant more, with the label l in the result and m in the row
  pub seen_more : t < (size o).period → (l m : Option ℤ) → l ≡ result o (pos t) → m ≡ meant r (pos t) → if_label l in_range ≡ true
      → Seen o r (t + 1) (is_some l || labelled) (same && same_label m l)
  unfolding agree
  seen_more h l m e f i = record {
    at-most = omega arith;
    within = all_more (λ u. if_label (result o u) in_range) t ∙ ap₂ ◌&&◌ s.within (ap (λ (x : Option ℤ). if_label x in_range) (sym e) ∙ i);
    is-labelled =
        ap (λ (x : Option ℤ). is_some x || labelled) e
        ∙ ap (◌||◌ (is_some (result o (pos t)))) s.is-labelled
        ∙ sym (not-and (all (λ u. not (is_some (result o u))) (from (pos 0) t)) (is_some (result o (pos t))))
        ∙ ap not (sym (all_more (λ u. not (is_some (result o u))) t));
    is_same =
        ap₂ ◌&&◌ s.is_same (ap₂ same_label f e)
        ∙ sym (all_more (λ u. same_label (meant r u) (result o u)) t);
  }

  -- all instants
  module _ (h : (size o).period ≤ t) where
    whole : t ≡ (size o).period
    whole = omega (arith, s.at-most)

    in-range : labels_in_range o ≡ true
    unfolding labels_in_range
    in-range = ap (λ (n : ℕ). all (λ u. if_label (result o u) in_range) (from (pos 0) n)) (sym whole) ∙ s.within

    none-labelled : unlabelled o ≡ not labelled
    unfolding unlabelled
    none-labelled =
        ap (λ (n : ℕ). all (λ u. not (is_some (result o u))) (from (pos 0) n)) (sym whole)
        ∙ sym (not-not (all (λ u. not (is_some (result o u))) (from (pos 0) t)))
        ∙ ap not (sym s.is-labelled)

    pub seen-matched : cond labelled (Ok same) (Err NothingLabelled) ≡ matched_as o r
    seen-matched = rw (none-labelled, in-range, ap (agree o r) (sym whole), ← s.is_same) (by labelled)
      where
        by : (l : Bool) → cond l (Ok same) (Err NothingLabelled) ≡ cond (not l) (Err NothingLabelled) (Ok same)
        by true = refl
        by false = refl

-- an instant whose label is outside the limits
pub seen-outside : (o : Operation Row) (r : Row) (t : ℕ) → t < (size o).period → (l : Option ℤ) → l ≡ result o (pos t) → if_label l in_range ≡ false → (Err LabelOutsideLimits) ≡ matched_as o r
unfolding unlabelled labels_in_range
seen-outside o r t h none e i = absurd (true≢false refl i)
seen-outside o r t h (some j) e i =
    rw (
      all-fails (λ u. not (is_some (result o u))) (size o).period t h (ap (λ (x : Option ℤ). not (is_some x)) (sym e)),
      all-fails (λ u. if_label (result o u) in_range) (size o).period t h (ap (λ (x : Option ℤ). if_label x in_range) (sym e) ∙ i),
    )
