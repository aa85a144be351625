-- One call: its refusal, and the entry that it takes.
use mathlib.Core.Path.{◌≡◌, sym, ◌∙◌, ap, subst}
use mathlib.Core.Bool.{true, false}
use mathlib.Core.List.{List, [], ◌∷◌, ◌++◌, Memᴰ}
use Prim.Native.Nat.{ℕ, ◌/◌, ◌≤◌}
use native.Mathlib.Omega.{arith}
use lib.IntN.{ℤ}
use lib.ListN.{length}
use Rattle.calendar.specs.Meaning.{Row, empty}
use Rattle.calendar.specs.Limits.{pool_limit, heading_length}
use Rattle.calendar.specs.Reply.Reply.{answer}
use Rattle.calendar.specs.Outcome.{Outcome, judged}
use Rattle.calendar.specs.Table.{entry_at}
use Rattle.calendar.specs.Outcome.Outcome.{rows}
use Rattle.calendar.specs.Stored.{headings_from, headings_after, pool_after, joined}
use Rattle.granules.proofs.Tests.{true≢false}
use Rattle.standing.specs.Standing.{rows_at, Standing}
use Rattle.walks.specs.Walk.{Lengths, Left, lengths_of, entries_of, progress_after, left, ready, stepped, Empty, admits, Walk, call}
use Rattle.walks.specs.Walk.Progress.{refused_at, due}
use Rattle.conversion.proofs.Headings.{filled-length}
use Rattle.walks.proofs.Kept.{filled-again, Kept, kept, least_more}
use Rattle.standing.proofs.Decides.{rows-length, Least, all-least, standing-rows}
use Rattle.walks.proofs.Came.{call-due, ready-iff, admitted-gives, entry_of, judged-at-most, room_at, Came, came, progress-rows, left-progress, left-walk}
use Rattle.walks.proofs.Came.Came.{failed, declined, took}
use mathlib.Core.Logic.{◌↔◌}

-- ---- a refusal

refused-13-by : (began now : Lengths) (k : ℕ) (t : List ℤ) (headings : List ℕ) (pool : List ℤ) (o : Outcome) → Came began k t headings pool o
    → (left began now o).walk.progress ≡ refused_at 13 k → ready began k t headings pool ≡ false
refused-13-by began now k t headings pool _ (failed e) p = e
refused-13-by began now k t headings pool _ (declined {m} e j) p =
    let q : refused_at m k ≡ refused_at 13 k = sym (left-progress began now (Outcome.refused_at m k)) ∙ p in
    let z : m ≡ 13 = cc q in
    absurd (omega (arith, judged-at-most _ _ _ m j))
refused-13-by began now k t headings pool _ (took {r} e j) p = absurd (progress-rows (entries_of began) (rows_at headings pool k ++ (r ∷ [])) 13 k (sym (left-progress began now _) ∙ p))

refused-13-if : (began now : Lengths) (k : ℕ) (t : List ℤ) (headings : List ℕ) (pool : List ℤ) (o : Outcome) → Came began k t headings pool o
    → ready began k t headings pool ≡ false → (left began now o).walk.progress ≡ refused_at 13 k
refused-13-if began now k t headings pool _ (failed e) p = left-progress began now (Outcome.refused_at 13 k)
refused-13-if began now k t headings pool _ (declined {m} e j) p = absurd (true≢false e p)
refused-13-if began now k t headings pool _ (took {r} e j) p = absurd (true≢false e p)

pub refused-13 :
    (w : Walk) (k : ℕ) → w.progress ≡ due k
    → (t : List ℤ) (headings : List ℕ) (pool : List ℤ)
    → ((call w t headings pool).walk.progress ≡ refused_at 13 k) ↔ (ready w.lengths k t headings pool ≡ false)
refused-13 w k e t headings pool =
    let now = lengths_of t headings pool in
    let o = stepped w.lengths k t headings pool in
    let c = came w.lengths k t headings pool in
    let q = ap (λ (s : Left). s.walk.progress) (call-due w k e t headings pool) in (
      λ p. refused-13-by w.lengths now k t headings pool o c (sym q ∙ p),
      λ p. q ∙ refused-13-if w.lengths now k t headings pool o c p,
    )

-- the lists after a refusal
pub record Emptied (headings : List ℕ) (pool : List ℤ) (s : Left) : Type 0 where
  pub lengths : (length s.headings ≡ length headings) × (length s.pool ≡ length pool)
  pub empties : Empty s.headings s.pool

pub refusal-left : (began : Lengths) (t : List ℤ) (headings : List ℕ) (pool : List ℤ) (m k : ℕ) → Emptied headings pool (left began (lengths_of t headings pool) (Outcome.refused_at m k))
unfolding left headings_after pool_after
refusal-left began t headings pool m k = record {
  lengths = (filled-length (length headings) 0 [] (omega arith), filled-length (length pool) empty [] (omega arith));
  empties = record { numbers = filled-again (length headings) 0 []; cells = filled-again (length pool) empty [] };
}

refusal-by : (began : Lengths) (k : ℕ) (t : List ℤ) (headings : List ℕ) (pool : List ℤ) (o : Outcome) → Came began k t headings pool o → (m e : ℕ)
    → (left began (lengths_of t headings pool) o).walk.progress ≡ refused_at m e → (e ≡ k) × Emptied headings pool (left began (lengths_of t headings pool) o)
refusal-by began k t headings pool _ (failed x) m e p =
    let q : refused_at 13 k ≡ refused_at m e = sym (left-progress began _ (Outcome.refused_at 13 k)) ∙ p in
    let z : k ≡ e = cc q in
    (sym z, refusal-left began t headings pool 13 k)
refusal-by began k t headings pool _ (declined {m = n} x j) m e p =
    let q : refused_at n k ≡ refused_at m e = sym (left-progress began _ (Outcome.refused_at n k)) ∙ p in
    let z : k ≡ e = cc q in
    (sym z, refusal-left began t headings pool n k)
refusal-by began k t headings pool _ (took {r} x j) m e p = absurd (progress-rows (entries_of began) (rows_at headings pool k ++ (r ∷ [])) m e (sym (left-progress began _ _) ∙ p))

pub refusal-empties :
    (w : Walk) (k : ℕ) → w.progress ≡ due k
    → (t : List ℤ) (headings : List ℕ) (pool : List ℤ) (m e : ℕ) → (call w t headings pool).walk.progress ≡ refused_at m e
    → (e ≡ k)
    × ((length (call w t headings pool).headings ≡ length headings) × (length (call w t headings pool).pool ≡ length pool))
    × Empty (call w t headings pool).headings (call w t headings pool).pool
refusal-empties w k d t headings pool m e p =
    let c = call-due w k d t headings pool in
    let h = refusal-by w.lengths k t headings pool (stepped w.lengths k t headings pool) (came w.lengths k t headings pool) m e (sym (ap (λ (s : Left). s.walk.progress) c) ∙ p) in
    let x = subst (Emptied headings pool) (sym c) h.1 in
    (h.0, x.lengths, x.empties)

-- ---- an entry that is taken

pub room-limit : (began : Lengths) (k : ℕ) (t : List ℤ) (headings : List ℕ) (pool : List ℤ) → ready began k t headings pool ≡ true → length pool ≤ pool_limit
room-limit began k t headings pool e =
    let h = (ready-iff began k t headings pool).0 e in
    let (n, a, b) = entry_of k (admits t headings pool) h.1 in
    (admitted-gives t (length headings / heading_length) (length pool) n a).at-most

pub stood : (began : Lengths) (k : ℕ) (t : List ℤ) (headings : List ℕ) (pool : List ℤ) → ready began k t headings pool ≡ true → Standing (rows_at headings pool k) headings pool
stood began k t headings pool e = standing-rows k headings pool ((ready-iff began k t headings pool).0 e).2

pub took-kept : (began : Lengths) (k : ℕ) (t : List ℤ) (headings : List ℕ) (pool : List ℤ) (r : Row) → ready began k t headings pool ≡ true
    → judged (rows_at headings pool k) (room_at headings pool k) (entry_at t k) ≡ answer r → Kept (rows_at headings pool k) (room_at headings pool k) (entry_at t k) r
took-kept began k t headings pool r e j =
    kept (rows_at headings pool k) (room_at headings pool k) (entry_at t k) r (all-least (stood began k t headings pool e)) (omega (arith, room-limit began k t headings pool e)) j

-- rows that are least stand in the lists that they leave
pub left-stands : (began now : Lengths) (l : List Row) → ((r : Row) → Memᴰ r l → Least r)
    → Standing l (left began now (rows l)).headings (left began now (rows l)).pool
unfolding left headings_after pool_after
left-stands began now l h = record {
  numbers = filled-again now.headings 0 (headings_from 0 l);
  cells = filled-again now.pool empty (joined l);
  all_sound = λ r m. (h r m).0;
  all-least = λ r m. (h r m).1;
}

pub took-stands : (began now : Lengths) (k : ℕ) (t : List ℤ) (headings : List ℕ) (pool : List ℤ) (r : Row) → ready began k t headings pool ≡ true
    → judged (rows_at headings pool k) (room_at headings pool k) (entry_at t k) ≡ answer r
    → let s = left began now (rows (rows_at headings pool k ++ (r ∷ []))) in Standing (rows_at headings pool k ++ (r ∷ [])) s.headings s.pool
took-stands began now k t headings pool r e j =
    left-stands began now (rows_at headings pool k ++ (r ∷ []))
    (least_more (rows_at headings pool k) r (all-least (stood began k t headings pool e)) (took-kept began k t headings pool r e j).is-least)

takes-by : (began now : Lengths) (k : ℕ) (t : List ℤ) (headings : List ℕ) (pool : List ℤ) (o : Outcome) → Came began k t headings pool o
    → ((m e : ℕ) → ¬ ((left began now o).walk.progress ≡ refused_at m e))
    → (l : List Row) × (r : Row)
    × (length l ≡ k)
    × Standing l headings pool
    × Standing (l ++ (r ∷ [])) (left began now o).headings (left began now o).pool
    × ((left began now o).walk ≡ record { lengths = began; progress = progress_after (entries_of began) (rows (l ++ (r ∷ []))) })
takes-by began now k t headings pool _ (failed x) h = absurd (h 13 k (left-progress began now (Outcome.refused_at 13 k)))
takes-by began now k t headings pool _ (declined {m} x j) h = absurd (h m k (left-progress began now (Outcome.refused_at m k)))
takes-by began now k t headings pool _ (took {r} x j) h =
    (rows_at headings pool k, r, rows-length headings pool k, stood began k t headings pool x, took-stands began now k t headings pool r x j, left-walk began now _)

pub takes_one :
    (w : Walk) (k : ℕ) → w.progress ≡ due k
    → (t : List ℤ) (headings : List ℕ) (pool : List ℤ) → ((m e : ℕ) → ¬ ((call w t headings pool).walk.progress ≡ refused_at m e))
    → (l : List Row) × (r : Row)
    × (length l ≡ k)
    × Standing l headings pool
    × Standing (l ++ (r ∷ [])) (call w t headings pool).headings (call w t headings pool).pool
    × ((call w t headings pool).walk ≡ record { lengths = w.lengths; progress = progress_after (entries_of w.lengths) (rows (l ++ (r ∷ []))) })
takes_one w k d t headings pool h =
    let c = call-due w k d t headings pool in
    let P : Left → Type 0 = λ s. (l : List Row) × (r : Row)
    × (length l ≡ k)
    × Standing l headings pool
    × Standing (l ++ (r ∷ [])) s.headings s.pool
    × (s.walk ≡ record { lengths = w.lengths; progress = progress_after (entries_of w.lengths) (rows (l ++ (r ∷ []))) }) in
    subst P (sym c)
    (takes-by w.lengths (lengths_of t headings pool) k t headings pool (stepped w.lengths k t headings pool) (came w.lengths k t headings pool)
    (λ m e p. h m e (ap (λ (s : Left). s.walk.progress) c ∙ p)))
