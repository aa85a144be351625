-- The loop of alter: what holds between two stretches, behind the next one, and at the end.
-- Assumes nothing.
use Rattle.calendar.specs.declared.Refusal.TheVariants.{NothingLabelled, LabelOutsideLimits}
use Rattle.calendar.specs.declared.Refusal.{Refusal}
use Rattle.std.specs.Prelude.{Err, Ok, Result, ⊤}
use mathlib.Core.Path.{◌≡◌, refl, sym, ◌∙◌, ap}
use mathlib.Core.Option.{none, some}
use mathlib.Core.Bool.{Bool, true, false, cond}
use mathlib.Core.List.{List}
use Prim.Native.Nat.{ℕ, ◌+◌, ◌≤◌, ◌<◌}
use native.Mathlib.Omega.{arith}
use lib.IntN.{ℤ, pos}
use lib.ListN.{length, get_or, take, drop}
use lib.Seq.{get_or-take, get_or-drop}
use Rattle.integers.proofs.Linear.{ints}
use Rattle.calendar.specs.Meaning.{Row, meant, empty}
use Rattle.calendar.specs.Compute.{result}
use Rattle.calendar.specs.Checks.{unlabelled, labels_in_range}
use Rattle.calendar.specs.Limits.{in_range}
use Rattle.granules.proofs.Tests.{none≢some, true≢false, false-iff}
use Rattle.algebra.proofs.Right.{right}
use Rattle.algebra.proofs.Working.{unlabelled-iff}
use Rattle.cursors.proofs.Cells.{get_d_any}
use Rattle.kinds.specs.declared.Alteration.{Alteration}
use Rattle.alter_granules.specs.declared.Repeat.{Repeat}
use Rattle.alter_granules.specs.declared.Altered.{Altered}
use Rattle.alter_granules.specs.declared.ahead.Walk.{Walk}
use Rattle.alter_granules.specs.declared.behind.Instant.{Instant}
use Rattle.alter_granules.specs.Given.{altering, Alterable, Written}
use Rattle.alter_granules.specs.Follows.{Passed, Follows}
use Rattle.alter_granules.proofs.Tiled.{altered-iff, holds-some}
use Rattle.alter_granules.proofs.Followed.{follows-later, passed_later}
use Rattle.kinds.specs.declared.Kind.TheVariants.{Alter}
use Rattle.fill_shared.specs.Placed.{Fills}
use Rattle.fill_shared.proofs.Filling.{Lent, row_of, Filling, filling-written, filling-done, rows-stood}
use Rattle.fill_stretches.specs.declared.Reached.{Reached}
use Rattle.fill_stretches.specs.Stretch.{Stretched, Led}
use Rattle.fill_stretches.proofs.Stretching.{stretch-on}
use Rattle.fill_stretches.proofs.Stages.{Stage, stage-led, stage-next}
use Rattle.fill_alter.proofs.Scans.{Finds, both, label_of}

-- the working row is filled up to p, and the walk and the place behind are those of p
pub record Altering (by : Alteration) (repeat : Repeat) (a b : Lent) (at period : ℕ) (old pool : List ℤ) (walk : Walk) (behind : Instant) (p : Reached) : Type 0 where
  pub labelled : Bool
  pub stage : Stage (Alter by) a b (row_of a old) at period old pool labelled p
  pub alterable : Alterable by repeat (row_of a old) (row_of b old)
  pub follows : Follows by repeat (row_of a old) (row_of b old) p.t (record { walk = walk; behind = behind })
  pub passed : Passed (row_of a old) p.t walk

-- ---- the end: some instant has a label

abbrev is-unlabelled : Result ⊤ Refusal → Bool
is-unlabelled (Err NothingLabelled) = true
is-unlabelled _ = false

some-labelled : (by : Alteration) (repeat : Repeat) (a b : Row) → Alterable by repeat a b → unlabelled (altering by a b) ≡ false
some-labelled by repeat a b g =
    let v = g.ready.valid.0 in
    let t = v.labelled.0 in
    let h = holds-some by a b (repeat, g) v.label in
    let e = sym (label_of by a b t (some v.label) v.labelled.1) ∙ (altered-iff by a b (repeat, g) v.label h.0).1 h.1 in
    let r = right (altering by a b) g.ready in
    (false-iff (unlabelled-iff (altering by a b) r)).1 (λ n. n (t, h.0, (r.labels t h.0).0 e))

filled-labelled : (u r : Bool) → u ≡ false → (x : Bool)
    → ◌≡◌ {A = Result ⊤ Refusal} (cond x (Ok tt) (Err NothingLabelled)) (cond u (Err NothingLabelled) (cond r (Ok tt) (Err LabelOutsideLimits))) → x ≡ true
filled-labelled u r e true f = refl
filled-labelled true r e false f = absurd (true≢false refl e)
filled-labelled false true e false f = absurd (true≢false refl (ap is-unlabelled f))
filled-labelled false false e false f = absurd (true≢false refl (ap is-unlabelled f))

module _ (by : Alteration) (repeat : Repeat) (a b : Lent) (at period : ℕ) (old : List ℤ) where
  -- an instant that has no label in a gets none
  unlabelled-there : (u : ℕ) → meant (row_of a old) (pos u) ≡ none → none ≡ result (altering by (row_of a old) (row_of b old)) (pos u)
  unlabelled-there u e = label_of by (row_of a old) (row_of b old) (pos u) none e

  -- before the first stretch
  pub altering-led : (q : Reached) (new : List ℤ) (s : Altered) → Filling (Alter by) a b at period old old false 0 → Led (row_of a old) at period old q new
      → Alterable by repeat (row_of a old) (row_of b old) → Follows by repeat (row_of a old) (row_of b old) 0 s → Passed (row_of a old) 0 s.walk → Altering by repeat a b at period old new s.walk s.behind q
  altering-led q new s h x g f k = record {
    labelled = false;
    stage = stage-led (Alter by) a b at period old (row_of a old) unlabelled-there q new h x;
    alterable = g;
    follows = follows-later by repeat (row_of a old) (row_of b old) 0 q.t s (omega arith) f;
    passed = passed_later (row_of a old) 0 q.t s.walk (λ _ u j _ m e. absurd (none≢some (sym (x.unlabelled u m) ∙ e))) k;
  }

  module _ (new : List ℤ) (walk : Walk) (behind : Instant) (p : Reached) (h : Altering by repeat a b at period old new walk behind p) where
    pub altering-done : period ≤ p.t → Fills (altering by (row_of a old) (row_of b old)) at period old new (Ok tt)
    altering-done m =
        let o = altering by (row_of a old) (row_of b old) in
        let d = filling-done (Alter by) a b at period old new h.labelled p.t h.stage.filling m in
        let e = filled-labelled (unlabelled o) (labels_in_range o) (some-labelled by repeat (row_of a old) (row_of b old) h.alterable) h.labelled d.answer in
        record { answer = ap (λ (x : Bool). cond x (Ok tt) (Err NothingLabelled)) (sym e) ∙ d.answer; lengths = d.lengths; before = d.before; row = d.row }

    module _ (m : p.t < period) where
      -- the labels of the instants before
      pub written-old : Written by (row_of a old) (row_of b old) (take p.t (drop at new)) × (length (take p.t (drop at new)) ≡ p.t)
      written-old =
          let w = filling-written (Alter by) a b at period old new h.labelled p.t h.stage.filling m in
          (rows-stood (Alter by) a b at period old new h.labelled p.t h.stage.filling (λ x y. Written by x y (take p.t (drop at new))) (record { at-most = w.0.at-most; labels = w.0.labels }), w.1)

      -- one of them, as a cell of the pool
      pub written-cell : (u : ℕ) (d : ℤ) → u < p.t → at + u < length new → get_or (take p.t (drop at new)) u empty ≡ get_or new (at + u) d
      written-cell u d l k = get_or-take p.t (drop at new) u empty l ∙ get_or-drop at new u empty ∙ get_d_any new (at + u) empty d k

      -- behind the stretch of the number that is found
      module _ (j : ℤ) (e : meant (row_of a old) (pos p.t) ≡ some j) (w : Walk) (q : Instant) (n z : ℤ) (f : Finds by repeat (row_of a old) (row_of b old) p.t j w q n z)
          (r : Reached) (pool : List ℤ) (x : Stretched n z (row_of a old) at period new p r pool) where
        pub found-on : p.t < r.t
        found-on = stretch-on n z (row_of a old) at period new pool p r x j e f.found.reaches m

        pub altering-next : in_range n ≡ true → Altering by repeat a b at period old pool w q r
        altering-next i = record {
          labelled = _;
          stage = stage-next (Alter by) a b at period old (row_of a old) unlabelled-there new h.labelled p h.stage m (some n) i z r pool x found-on
              (λ u l c d g. sym (f.found.numbers l (h.alterable.ready.valid.0.ordered (pos p.t) (pos u) j l (simp ints (omega arith)) e g) (x.below u l c d g)) ∙ label_of by (row_of a old) (row_of b old) (pos u) (some l) g);
          alterable = h.alterable;
          follows = follows-later by repeat (row_of a old) (row_of b old) p.t r.t (both w q) x.on f.found.follows;
          passed = passed_later (row_of a old) p.t r.t w (λ k u l c d g. f.passes k l (x.below u l c d g)) f.passed;
        }
