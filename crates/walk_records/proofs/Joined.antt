-- What the start and a call give with a record for each heading, by what is passed.
-- Assumes nothing.
use borrow.Author.Tests.{leb-true, leb-false}
use mathlib.Core.Path.{◌≡◌, refl, sym, ◌∙◌, ap, ap₂, subst}
use mathlib.Core.Logic.{◌⊎◌, inl, inr}
use mathlib.Core.Bool.{Bool, true, false, cond}
use mathlib.Core.List.{List, [], ◌++◌}
use Prim.Native.Nat.{ℕ, ◌*◌, ◌/◌, ◌≤◌, ◌<◌}
use native.Mathlib.Omega.{arith}
use lib.Dec.{leb}
use lib.IntN.{ℤ}
use lib.ListN.{length, take, drop, drop_of_length-le}
use Rattle.calendar.specs.Limits.{entry_limit, heading_length}
use Rattle.calendar.specs.Reply.{Reply}
use Rattle.calendar.specs.Reply.Reply.{refused, answer}
use Rattle.calendar.specs.Table.{admitted}
use Rattle.calendar.specs.Outcome.{Outcome}
use Rattle.calendar.specs.Stored.{headings_after, pool_after}
use Rattle.headings.specs.declared.Heading.{Heading}
use Rattle.headings.specs.Records.{numbers_of}
use Rattle.headings.specs.LeftRecords.{records_of}
use Rattle.headings.proofs.Plain.{Headed}
use Rattle.heading_records.specs.declared.Read.{Read}
use Rattle.heading_records.specs.Reading.{at_most, ReadsAll}
use Rattle.heading_records.proofs.Reading.{numbers-length, most-few, most-many}
use Rattle.walks.specs.Walk as W
use Rattle.walks.specs.Walk.Progress.{due, done, refused_at}
use Rattle.walks.proofs.Came.{call-due, ended-stays, left-progress, left-walk}
use Rattle.walks.proofs.States.{start_is}
use Rattle.steps.specs.declared.Walk.{Walk}
use Rattle.steps.specs.State.{progress_of, Gives}
use Rattle.walk_records.specs.declared.Passed.{Passed}
use Rattle.walk_records.specs.Passing.{Begins, inner_of, has_ended, Passes, written}
use Rattle.walk_records.proofs.Numbers.{written-numbers}
use Rattle.walk_records.proofs.Inner.{F, z, first-length, admits-first, same-stepped, stepped-headed}

-- ---- how many headings are the first

pub first-few : (n : ℕ) → at_most n ≤ n
first-few n = by (leb entry_limit n) refl
  where
    by : (c : Bool) → leb entry_limit n ≡ c → at_most n ≤ n
    by true e = let b = leb-true entry_limit n e in omega (arith, b, most-many n b)
    by false e = omega (arith, most-few n (leb-false entry_limit n e))

-- no number stands behind the first headings where they are not all
pub none-behind : (n : ℕ) (l : List ℕ) → length l ≡ heading_length * entry_limit → at_most n < n → drop (heading_length * at_most n) l ≡ []
none-behind n l long less = drop_of_length-le l (by (leb entry_limit n) refl)
  where
    by : (c : Bool) → leb entry_limit n ≡ c → length l ≤ heading_length * at_most n
    by true e = omega (arith, long, most-many n (leb-true entry_limit n e))
    by false e = absurd (omega (arith, less, most-few n (leb-false entry_limit n e)))

-- ---- what is left

left-headings : (began now : W.Lengths) (o : Outcome) → (W.left began now o).headings ≡ headings_after now.headings o
unfolding W.left
left-headings began now o = refl

left-pool : (began now : W.Lengths) (o : Outcome) → (W.left began now o).pool ≡ pool_after now.pool o
unfolding W.left
left-pool began now o = refl

-- ---- the start

begun-headed : (m : ℕ) (x : Reply ℕ) → Headed m (W.begun x)
begun-headed m (refused i) l q = let c : ◌≡◌ {A = ℕ} 0 1 = cc q in absurd (omega (arith, c))
begun-headed m (answer n) l q = let same : [] ≡ l = cc q in omega (arith, ap length same)

module _ (t : List ℤ) (n : ℕ) (pool : List ℤ) (F₀ : List ℕ) (few : length F₀ ≡ heading_length * at_most n) (rest : List ℕ) (behind : at_most n < n → rest ≡ [])
    (b : Walk) (numbers : List ℕ) (after : List ℤ) (g : Gives (W.start t F₀ pool) b numbers after) where
  abbrev o : Outcome
  o = W.begun (admitted t (at_most n) (length pool))

  abbrev now : W.Lengths
  now = W.lengths_of t F₀ pool

  -- the walk that is passed
  abbrev begun : Walk
  begun = record { lengths = record { table = length t; headings = heading_length * n; pool = length pool }; progress = b.progress }

  first-start : W.start t F₀ pool ≡ W.left now now o
  first-start =
      let some : length F₀ / heading_length ≡ at_most n = omega (arith, few) in
      start_is t F₀ pool ∙ ap (λ (i : ℕ). W.left now now (W.begun (admitted t i (length pool)))) some

  module _ (L : List ℕ) (long : length L ≡ heading_length * n) where
    abbrev all : W.Lengths
    all = W.lengths_of t L pool

    whole-start : W.start t L pool ≡ W.left all all o
    whole-start =
        let same : length L / heading_length ≡ n = omega (arith, long) in
        start_is t L pool
        ∙ ap (λ (i : ℕ). W.left all all (W.begun (admitted t i (length pool)))) same
        ∙ ap (λ (x : Reply ℕ). W.left all all (W.begun x)) (sym (admits-first L n long t (length pool)))

    started : Gives (W.left all all o) begun (numbers_of (records_of (numbers ++ rest) n)) after
    started =
        let p : progress_of b.progress ≡ W.progress_after (length t / 6) o = ap (λ (w : W.Walk). w.progress) (g.state ∙ ap (λ (s : W.Left). s.walk) first-start) ∙ left-progress now now o in
        record {
          state = (λ i. record { lengths = record { table = length t; headings = sym long i; pool = length pool }; progress = p i }) ∙ sym (left-walk all all o);
          numbers =
              ap (λ (l : List ℕ). numbers_of (records_of (l ++ rest) n))
              (g.numbers ∙ ap (λ (s : W.Left). s.headings) first-start ∙ left-headings now now o ∙ ap (λ (i : ℕ). headings_after i o) few)
              ∙ written-numbers (at_most n) n o rest (begun-headed (at_most n) (admitted t (at_most n) (length pool))) (first-few n) behind
              ∙ ap (λ (i : ℕ). headings_after i o) (sym long)
              ∙ sym (left-headings all all o);
          cells = g.cells ∙ ap (λ (s : W.Left). s.pool) first-start ∙ left-pool now now o ∙ sym (left-pool all all o);
        }

  pub start-joined : Begins t n pool (record { walk = begun; numbers = numbers ++ rest; kept = false }) after
  start-joined = record {
    gives = λ L long. subst (λ (s : W.Left). Gives s begun (numbers_of (records_of (numbers ++ rest) n)) after) (sym (whole-start L long)) (started L long);
    none_kept = refl;
  }

-- and once the headings are written
pub start-given : (t : List ℤ) (hs : List Heading) (before : List ℤ) (p : Passed) (after : List ℤ) → Begins t (length hs) before p after → (zs : List Heading) → zs ≡ written p hs
    → Gives (W.start t (numbers_of hs) before) p.walk (numbers_of zs) after
start-given t hs before p after h zs e =
    let g = h.gives (numbers_of hs) (numbers-length hs) in
    record { state = g.state; numbers = ap numbers_of (e ∙ ap (λ (c : Bool). cond c hs (records_of p.numbers (length hs))) h.none_kept) ∙ g.numbers; cells = g.cells }

-- ---- a call

module _ (w : W.Walk) (t : List ℤ) (hs : List Heading) (pool : List ℤ) (rest : List ℕ) (behind : at_most (length hs) < length hs → rest ≡ []) (p : Passed) (after : List ℤ) where
  abbrev n : ℕ
  n = length hs

  abbrev L : List ℕ
  L = numbers_of hs

  abbrev long : length L ≡ heading_length * n
  long = numbers-length hs

  abbrev within : W.Walk
  within = inner_of w (z L n long) n

  abbrev s : W.Left
  s = W.call within t (F L n long) pool

  module _ (h : Passes w.lengths s rest (has_ended w.progress) p after) where
    due-joined : (k : ℕ) → w.progress ≡ due k → Gives (W.call w t L pool) p.walk (numbers_of (written p hs)) after
    due-joined k e =
        let o = W.stepped within.lengths k t (F L n long) pool in
        let some = W.lengths_of t (F L n long) pool in
        let all = W.lengths_of t L pool in
        let first : s ≡ W.left within.lengths some o = call-due within k e t (F L n long) pool in
        let whole : W.call w t L pool ≡ W.left w.lengths all o = call-due w k e t L pool ∙ ap (W.left w.lengths all) (same-stepped L n long t pool w.lengths k) in
        let progress = ap (λ (x : W.Left). x.walk.progress) first ∙ left-progress within.lengths some o in
        subst (λ (x : W.Left). Gives x p.walk (numbers_of (written p hs)) after) (sym whole) (record {
          state = h.state ∙ (λ i. record { lengths = w.lengths; progress = progress i }) ∙ sym (left-walk w.lengths all o);
          numbers =
              ap (λ (c : Bool). numbers_of (cond c hs (records_of p.numbers n))) (h.stay ∙ ap has_ended e)
              ∙ ap (λ (l : List ℕ). numbers_of (records_of l n))
              (h.numbers ∙ ap (λ (l : List ℕ). l ++ rest)
              (ap (λ (x : W.Left). x.headings) first ∙ left-headings within.lengths some o ∙ ap (λ (i : ℕ). headings_after i o) (first-length L n long)))
              ∙ written-numbers (at_most n) n o rest (stepped-headed L n long t pool w.lengths k) (first-few n) behind
              ∙ ap (λ (i : ℕ). headings_after i o) (sym long)
              ∙ sym (left-headings w.lengths all o);
          cells = h.cells ∙ ap (λ (x : W.Left). x.pool) first ∙ left-pool within.lengths some o ∙ sym (left-pool w.lengths all o);
        })

    ended-joined : ((w.progress ≡ done) ⊎ ((m : ℕ) × (k : ℕ) × (w.progress ≡ refused_at m k))) → has_ended w.progress ≡ true
        → Gives (W.call w t L pool) p.walk (numbers_of (written p hs)) after
    ended-joined e ends =
        let first = ended-stays within t (F L n long) pool e in
        let progress = ap (λ (x : W.Left). x.walk.progress) first in
        subst (λ (x : W.Left). Gives x p.walk (numbers_of (written p hs)) after) (sym (ended-stays w t L pool e)) (record {
          state = h.state ∙ (λ i. record { lengths = w.lengths; progress = progress i });
          numbers = ap (λ (c : Bool). numbers_of (cond c hs (records_of p.numbers n))) (h.stay ∙ ends);
          cells = h.cells ∙ ap (λ (x : W.Left). x.pool) first;
        })

    joined : (x : W.Progress) → w.progress ≡ x → Gives (W.call w t L pool) p.walk (numbers_of (written p hs)) after
    joined (due k) e = due-joined k e
    joined done e = ended-joined (inl e) (ap has_ended e)
    joined (refused_at m k) e = ended-joined (inr (m, k, e)) (ap has_ended e)

pub step_given : (w : W.Walk) (t : List ℤ) (hs : List Heading) (pool : List ℤ) (x : Read) → ReadsAll hs x → length x.numbers ≡ heading_length * entry_limit → (p : Passed) (after : List ℤ)
    → Passes w.lengths (W.call (inner_of w x.zero (length hs)) t (take (heading_length * at_most (length hs)) x.numbers) pool)
    (drop (heading_length * at_most (length hs)) x.numbers) (has_ended w.progress) p after
    → (zs : List Heading) → zs ≡ written p hs → Gives (W.call w t (numbers_of hs) pool) p.walk (numbers_of zs) after
step_given w t hs pool x r long p after h zs e =
    let rest = drop (heading_length * at_most (length hs)) x.numbers in
    subst (λ (l : List Heading). Gives (W.call w t (numbers_of hs) pool) p.walk (numbers_of l) after) (sym e)
    (joined w t hs pool rest (none-behind (length hs) x.numbers long) p after
    (subst (λ (s : W.Left). Passes w.lengths s rest (has_ended w.progress) p after)
    (ap₂ (λ (c : Bool) (l : List ℕ). W.call (inner_of w c (length hs)) t l pool) r.zero r.numbers) h)
    w.progress refl)
