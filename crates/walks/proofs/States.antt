-- States that the start or a call gave, and what one call means.
use mathlib.Core.Path.{◌≡◌, refl, sym, ◌∙◌, ap, subst}
use mathlib.Core.Logic.{inl, inr, ◌↔◌}
use mathlib.Core.Bool.{Bool, true, false, ◌&&◌, cond}
use mathlib.Core.List.{List, [], ◌∷◌, ◌++◌}
use Prim.Native.Nat.{ℕ, suc, ◌/◌, ◌%◌, ◌≤◌, ◌<◌}
use native.Mathlib.Omega.{arith}
use lib.Dec.{eqb, leb}
use lib.IntN.{ℤ}
use lib.ListN.{length, length-append}
use Rattle.calendar.specs.Meaning.{Row, empty}
use Rattle.calendar.specs.Limits.{pool_limit, entry_limit, heading_length}
use Rattle.calendar.specs.Reply.{Reply, require}
use Rattle.calendar.specs.Reply.Reply.{refused, answer}
use Rattle.calendar.specs.Outcome.{Outcome, judged}
use Rattle.calendar.specs.Table.{entry_at}
use Rattle.calendar.specs.Outcome.Outcome.{rows}
use Rattle.calendar.specs.Stored.{headings_after, pool_after}
use Rattle.granules.proofs.Tests.{true≢false, eqb-iff, ltb_iff}
use Rattle.standing.specs.Standing.{rows_at, Standing}
use Rattle.walks.specs.Walk.{Lengths, Progress, Walk, Left, lengths_of, entries_of, progress_after, left, begun, start, is_entry, ready, stepped, call, Empty, admits}
use Rattle.walks.specs.Walk.Progress.{due, done, refused_at}
use Rattle.walks.specs.Runs.{Lent, call_on, Reached}
use Rattle.walks.specs.Runs.Reached.{started, called}
use Rattle.walks.specs.Demands.{Took, Declined, Judged}
use Rattle.walks.proofs.Kept.{JudgedOver, filled-again, judged-means, last-shown, last-counts}
use Rattle.standing.proofs.Decides.{rows-length, all-least, standing-decides}
use Rattle.walks.proofs.Came.{call-due, ended-stays, ready-iff, admitted-gives, entry_of, room_at, Came, came, left-progress, left-walk}
use Rattle.walks.proofs.Calls.{refusal-left, stood, took-kept, took-stands}
use Rattle.walks.proofs.Came.Came.{failed, declined, took}
use Rattle.conversion.specs.Shows.{row_at, distance_at, granules_at}
use Rattle.algebra.specs.Represents.{CountsLabels}

-- ---- the start

pub start_is : (t : List ℤ) (headings : List ℕ) (pool : List ℤ)
    → start t headings pool ≡ left (lengths_of t headings pool) (lengths_of t headings pool) (begun (admits t headings pool))
unfolding start
start_is t headings pool = refl

begun-empties : (t : List ℤ) (headings : List ℕ) (pool : List ℤ) (x : Reply ℕ)
    → let s = left (lengths_of t headings pool) (lengths_of t headings pool) (begun x) in Empty s.headings s.pool
unfolding left headings_after pool_after
begun-empties t headings pool (refused m) = record { numbers = filled-again (length headings) 0 []; cells = filled-again (length pool) empty [] }
begun-empties t headings pool (answer n) = record { numbers = filled-again (length headings) 0 []; cells = filled-again (length pool) empty [] }

pub start-empties : (t : List ℤ) (headings : List ℕ) (pool : List ℤ) → Empty (start t headings pool).headings (start t headings pool).pool
start-empties t headings pool =
    subst (λ (s : Left). Empty s.headings s.pool) (sym (start_is t headings pool)) (begun-empties t headings pool (admits t headings pool))

-- ---- checks 1 to 3 look at lengths only

abbrev pub admits_of : Lengths → Reply ℕ
admits_of l =
    let n = entries_of l in
    require 1 (eqb (l.table % 6) 0 && (leb 1 n && leb n entry_limit))
    (require 2 (leb n (l.headings / heading_length))
    (require 3 (leb l.pool pool_limit)
    (answer n)))

pub admits-is : (t : List ℤ) (headings : List ℕ) (pool : List ℤ) → admits t headings pool ≡ admits_of (lengths_of t headings pool)
admits-is t headings pool = refl

-- ---- states

-- an entry that is due is one of an admitted table's
abbrev Sane : Walk → Type 0
Sane w = (k : ℕ) → w.progress ≡ due k → (admits_of w.lengths ≡ answer (entries_of w.lengths)) × (k < entries_of w.lengths)

progress-due : (n : ℕ) (l : List Row) (k : ℕ) → progress_after n (rows l) ≡ due k → (length l ≡ k) × ¬ (length l ≡ n)
progress-due n l k e = by (eqb (length l) n) refl e
  where
    by : (b : Bool) → eqb (length l) n ≡ b → cond b done (due (length l)) ≡ due k → (length l ≡ k) × ¬ (length l ≡ n)
    by true p q = let z : ◌≡◌ {A = ℕ} 0 1 = cc in absurd (omega arith)
    by false p q = let z : length l ≡ k = cc q in (z, λ same. true≢false ((eqb-iff (length l) n).1 same) p)

started-sane : (t : List ℤ) (headings : List ℕ) (pool : List ℤ) → Sane (start t headings pool).walk
started-sane t headings pool =
    subst Sane (sym (ap (λ (s : Left). s.walk) (start_is t headings pool) ∙ left-walk l l (begun (admits t headings pool)))) (by (admits t headings pool) refl)
  where
    l : Lengths
    l = lengths_of t headings pool

    by : (x : Reply ℕ) → admits t headings pool ≡ x → Sane (record { lengths = l; progress = progress_after (entries_of l) (begun x) })
    by (refused m) p k e = let z : ◌≡◌ {A = ℕ} 0 1 = cc in absurd (omega arith)
    by (answer n) p k e =
        let a = admitted-gives t (length headings / heading_length) (length pool) n p in
        let d = progress-due (entries_of l) [] k e in
        (subst (λ (i : ℕ). admits_of l ≡ answer i) a.is_number p, omega (arith, a.is_number, a.some-entry, d.0))

lt_of : (i m : ℕ) → i ≤ m → ¬ (i ≡ m) → i < m
lt_of i m p q = omega (arith, p, q)

came-sane : (w : Walk) (now : Lengths) (k : ℕ) (t : List ℤ) (headings : List ℕ) (pool : List ℤ) (o : Outcome) → Came w.lengths k t headings pool o → Sane (left w.lengths now o).walk
came-sane w now k t headings pool _ (failed x) =
    subst Sane (sym (left-walk w.lengths now _)) (λ i e. let z : ◌≡◌ {A = ℕ} 0 1 = cc in absurd (omega arith))
came-sane w now k t headings pool _ (declined {m} x j) =
    subst Sane (sym (left-walk w.lengths now _)) (λ i e. let z : ◌≡◌ {A = ℕ} 0 1 = cc in absurd (omega arith))
came-sane w now k t headings pool _ (took {r} x j) =
    let l = rows_at headings pool k ++ (r ∷ []) in
    let h = (ready-iff w.lengths k t headings pool).0 x in
    let (n, a, b) = entry_of k (admits t headings pool) h.1 in
    let g = admitted-gives t (length headings / heading_length) (length pool) n a in
    let same : n ≡ entries_of w.lengths = g.is_number ∙ ap entries_of h.0 in
    subst Sane (sym (left-walk w.lengths now _))
    (λ i e.
    let d = progress-due (entries_of w.lengths) l i e in
    let s : length l ≡ suc k = omega (arith, length-append (rows_at headings pool k) (r ∷ []), rows-length headings pool k) in
    (subst (λ (q : Lengths). admits_of q ≡ answer (entries_of w.lengths)) h.0 (a ∙ ap answer same), lt_of i (entries_of w.lengths) (omega arith) (λ q. d.1 (omega arith))))

called-sane : (w : Walk) → Sane w → (l : Lent) → Sane (call_on w l).walk
unfolding call_on
called-sane w h l = by w.progress refl
  where
    by : (x : Progress) → w.progress ≡ x → Sane (call w l.table l.headings l.pool).walk
    by (due k) e =
        subst (λ (s : Left). Sane s.walk) (sym (call-due w k e l.table l.headings l.pool))
        (came-sane w (lengths_of l.table l.headings l.pool) k l.table l.headings l.pool (stepped w.lengths k l.table l.headings l.pool) (came w.lengths k l.table l.headings l.pool))
    by done e = subst (λ (s : Left). Sane s.walk) (sym (ended-stays w l.table l.headings l.pool (inl e))) h
    by (refused_at m k) e = subst (λ (s : Left). Sane s.walk) (sym (ended-stays w l.table l.headings l.pool (inr (m, k, e)))) h

reached-sane : {w : Walk} → Reached w → Sane w
reached-sane (started l) = started-sane l.table l.headings l.pool
reached-sane (called {w} r l) = called-sane w (reached-sane r) l

pub reached-due :
    (w : Walk) (k : ℕ) → Reached w → w.progress ≡ due k
    → (t : List ℤ) (headings : List ℕ) (pool : List ℤ) → lengths_of t headings pool ≡ w.lengths
    → (admits t headings pool ≡ answer (entries_of w.lengths)) × (k < entries_of w.lengths)
reached-due w k r e t headings pool s =
    let h = reached-sane r k e in
    (subst (λ (q : Lengths). admits_of q ≡ answer (entries_of w.lengths)) (sym s) h.0, h.1)

pub ready-decides :
    (w : Walk) (k : ℕ) → Reached w → w.progress ≡ due k
    → (t : List ℤ) (headings : List ℕ) (pool : List ℤ)
    → (ready w.lengths k t headings pool ≡ true)
    ↔ ((lengths_of t headings pool ≡ w.lengths) × ((l : List Row) × (length l ≡ k) × Standing l headings pool))
ready-decides w k r e t headings pool =
    let a = ready-iff w.lengths k t headings pool in
    let b = standing-decides k headings pool in (
      λ q. ((a.0 q).0, b.0 (a.0 q).2),
      λ h.
          let d = reached-due w k r e t headings pool h.0 in
          a.1 (h.0, ap (is_entry k) d.0 ∙ (ltb_iff k (entries_of w.lengths)).1 d.1, b.1 h.1),
    )

-- ---- demand 2 of one step

module _ (w : Walk) (k : ℕ) (l : Lent) (ok : ready w.lengths k l.table l.headings l.pool ≡ true) where
  abbrev now : Lengths
  now = lengths_of l.table l.headings l.pool

  abbrev before : List Row
  before = rows_at l.headings l.pool k

  pub took_it : (r : Row) → judged before (room_at l.headings l.pool k) (entry_at l.table k) ≡ answer r → Took k l (left w.lengths now (rows (before ++ (r ∷ []))))
  took_it r j =
      let q = took-kept w.lengths k l.table l.headings l.pool r ok j in
      let s = left w.lengths now (rows (before ++ (r ∷ []))) in
      let stands = took-stands w.lengths now k l.table l.headings l.pool r ok j in
      let number = rows-length l.headings l.pool k in
      record {
        before = before;
        number = number;
        stood = stood w.lengths k l.table l.headings l.pool ok;
        meaning = q.meaning;
        judged = q.means;
        row = r;
        represents = q.stands-for;
        stands = stands;
        shown = subst (λ (i : ℕ). row_at s.headings s.pool i ≡ r) number (last-shown before r s.headings s.pool stands);
        counts =
            subst (λ (i : ℕ). CountsLabels q.meaning.calendar (distance_at s.headings i) (granules_at s.headings i)) number
            (last-counts q.meaning before r s.headings s.pool stands q.stands-for);
      }

  declined-it : (m : ℕ) → judged before (room_at l.headings l.pool k) (entry_at l.table k) ≡ refused m → Declined k m l (left w.lengths now (Outcome.refused_at m k))
  declined-it m j =
      let s = stood w.lengths k l.table l.headings l.pool ok in
      record {
        before = before;
        number = rows-length l.headings l.pool k;
        stood = s;
        judged = subst (JudgedOver before (room_at l.headings l.pool k) (entry_at l.table k)) j (judged-means before (room_at l.headings l.pool k) (entry_at l.table k) (all-least s));
        empties = (refusal-left w.lengths l.table l.headings l.pool m k).empties;
      }

  means-by : (o : Outcome) → Came w.lengths k l.table l.headings l.pool o → Judged k l (left w.lengths now o) (progress_after (entries_of w.lengths) o)
  means-by _ (failed x) = absurd (true≢false ok x)
  means-by _ (declined {m} x j) = (declined-it m j, refl)
  means-by _ (took {r} x j) = by (eqb (length rs) n) refl
    where
      rs : List Row
      rs = before ++ (r ∷ [])

      n : ℕ
      n = entries_of w.lengths

      s : Left
      s = left w.lengths now (rows rs)

      count : length rs ≡ suc k
      count = omega (arith, length-append before (r ∷ []), rows-length l.headings l.pool k)

      number : entries_of s.walk.lengths ≡ n
      number = ap (λ (q : Walk). entries_of q.lengths) (left-walk w.lengths now (rows rs))

      by : (b : Bool) → eqb (length rs) n ≡ b → Judged k l s (cond b done (due (length rs)))
      by true e = (took_it r j, sym count ∙ (eqb-iff (length rs) n).0 e ∙ sym number)
      by false e = (took_it r j, count)

pub step-means :
    (w : Walk) (k : ℕ) → w.progress ≡ due k
    → (l : Lent) → ready w.lengths k l.table l.headings l.pool ≡ true
    → Judged k l (call_on w l) (call_on w l).walk.progress
unfolding call_on
step-means w k e l ok =
    let o = stepped w.lengths k l.table l.headings l.pool in
    let c = call-due w k e l.table l.headings l.pool in
    subst (λ (s : Left). Judged k l s s.walk.progress) (sym c)
    (subst (Judged k l (left w.lengths (lengths_of l.table l.headings l.pool) o)) (sym (left-progress w.lengths (lengths_of l.table l.headings l.pool) o))
    (means-by w k l ok o (came w.lengths k l.table l.headings l.pool)))
