-- The walk that a state holds, and what is told of a start and of a call.
-- Assumes nothing.
use mathlib.Core.Path.{◌≡◌, refl, sym, ◌∙◌, ap, ap₂, subst}
use mathlib.Core.Option.{Option, none, some}
use mathlib.Core.Bool.{Bool, true, false, cond}
use mathlib.Core.List.{List}
use Prim.Native.Nat.{ℕ}
use native.Mathlib.Omega.{arith}
use lib.Dec.{eqb}
use lib.IntN.{ℤ, pos}
use lib.ListN.{length, get_or}
use borrow.Author.Tests.{eq-eqb, ne_eqb, eqb-true}
use Rattle.integers.specs.Parts.{up}
use Rattle.walks.specs.Walk as W
use Rattle.walks.proofs.Came.{left-walk}
use Rattle.walks.proofs.States.{start_is}
use Rattle.steps.specs.declared.Lengths.{Lengths}
use Rattle.steps.specs.declared.Progress.{Progress}
use Rattle.steps.specs.declared.Walk.{Walk}
use Rattle.steps.specs.State.{lengths_in, progress_of, walk_of, Gives}
use Rattle.steps_api.specs.Codes.{progress_code, progressed, measured, begun}
use Rattle.steps_api.specs.Held.{progress_in, with_lengths, lengths_at, walk_in}
use Rattle.steps_api.specs.Told.{After, started_in, called_in, stepped_in, Told}

-- ---- the walk of a state

module _ (s : List ℤ) where
  abbrev Inside : Option W.Walk
  Inside = with_lengths (lengths_at s) (progress_in (up (get_or s 0 (pos 0))) (up (get_or s 1 (pos 0))))

  pub other_length : ¬ (length s ≡ 8) → none ≡ walk_in s
  other_length h = ap (λ (b : Bool). cond b Inside none) (sym (ne_eqb (length s) 8 h))

  pub walk-eight : (w : W.Walk) → walk_in s ≡ some w → length s ≡ 8
  walk-eight w e = by (eqb (length s) 8) refl e
    where
      by : (b : Bool) → eqb (length s) 8 ≡ b → cond b Inside none ≡ some w → length s ≡ 8
      by true q p = eqb-true (length s) 8 q
      by false q p = let z : ◌≡◌ {A = ℕ} 0 1 = cc p in absurd (omega (arith, z))

  module _ (eight : length s ≡ 8) where
    inside : Inside ≡ walk_in s
    inside = ap (λ (b : Bool). cond b Inside none) (sym (eq-eqb (length s) 8 eight))

    pub held_none : none ≡ progress_in (up (get_or s 0 (pos 0))) (up (get_or s 1 (pos 0))) → none ≡ walk_in s
    held_none e = ap (with_lengths (lengths_at s)) e ∙ inside

    pub held-walk : (l : Lengths) (x : Progress) → l.table ≡ up (get_or s 2 (pos 0)) → l.headings ≡ up (get_or s 3 (pos 0)) → l.pool ≡ up (get_or s 4 (pos 0))
        → some (progress_of x) ≡ progress_in (up (get_or s 0 (pos 0))) (up (get_or s 1 (pos 0)))
        → some (walk_of (record { lengths = l; progress = x })) ≡ walk_in s
    held-walk l x a b c e =
        let same : lengths_in l ≡ lengths_at s = λ i. record { table = a i; headings = b i; pool = c i } in
        ap₂ with_lengths same e ∙ inside

-- ---- what is told

module _ (headings : List ℕ) (pool s : List ℤ) where
  pub told-nothing : (x : Option After) → none ≡ x → Told x headings pool s (pos 1300) headings pool s
  told-nothing x e =
      subst (λ (y : Option After). Told y headings pool s (pos 1300) headings pool s) e (record { code = refl; numbers = refl; cells = refl; state = refl })

  module _ (t : List ℤ) (w : Walk) (headings' : List ℕ) (pool' s' : List ℤ) (r : ℤ) (code : r ≡ progress_code (progress_of w.progress)) where
    told-left : (l : W.Left) → Gives l w headings' pool' → (q : List ℤ) → s' ≡ q → Told (some (record { left = l; state = q })) headings pool s r headings' pool' s'
    told-left l g q e = record {
      code = code ∙ ap (λ (v : W.Walk). progress_code v.progress) g.state;
      numbers = g.numbers;
      cells = g.cells;
      state = e;
    }

    pub told-start : length s ≡ 8 → Gives (W.start t headings pool) w headings' pool'
        → s' ≡ progressed (progress_of w.progress) (measured (pos (length t)) (pos (length headings)) (pos (length pool)) s)
        → Told (started_in s t headings pool) headings pool s r headings' pool' s'
    told-start eight g e =
        let l = W.start t headings pool in
        let lengths : l.walk.lengths ≡ W.lengths_of t headings pool =
        ap (λ (v : W.Left). v.walk.lengths) (start_is t headings pool) ∙ ap (λ (v : W.Walk). v.lengths) (left-walk _ _ _) in
        let same : s' ≡ begun l.walk s =
        e ∙ ap₂ (λ (x : W.Progress) (n : W.Lengths). progressed x (measured (pos n.table) (pos n.headings) (pos n.pool) s)) (ap (λ (v : W.Walk). v.progress) g.state) (sym lengths) in
        subst (λ (x : Option After). Told x headings pool s r headings' pool' s')
        (ap (λ (b : Bool). cond b (some (record { left = l; state = begun l.walk s })) none) (sym (eq-eqb (length s) 8 eight)))
        (told-left l g (begun l.walk s) same)

    pub told-step : (v : Walk) → some (walk_of v) ≡ walk_in s → Gives (W.call (walk_of v) t headings pool) w headings' pool'
        → s' ≡ progressed (progress_of w.progress) s
        → Told (stepped_in s t headings pool) headings pool s r headings' pool' s'
    told-step v held g e =
        let l = W.call (walk_of v) t headings pool in
        subst (λ (x : Option W.Walk). Told (called_in x s t headings pool) headings pool s r headings' pool' s') held
        (told-left l g (progressed l.walk.progress s) (e ∙ ap (λ (x : W.Walk). progressed x.progress s) g.state))
