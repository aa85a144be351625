-- The outcome of a table, entry by entry, and what it leaves in both lists.
-- Assumes nothing.
use mathlib.Core.Path.{◌≡◌, refl, sym, ◌∙◌, ap, ap₂, subst}
use mathlib.Core.Bool.{◌&&◌}
use mathlib.Core.List.Memᴰ
use mathlib.Core.List.{List, [], ◌∷◌, ◌++◌, Memᴰ}
use Prim.Native.Nat.{ℕ, suc, ◌+◌, ◌-◌, ◌/◌, ◌%◌, ◌≤◌, ◌<◌}
use native.Mathlib.Nat.{sub-zero}
use native.Mathlib.Numerals.{add-one}
use native.Mathlib.Omega.{arith}
use lib.Dec.{eqb, leb}
use lib.IntN.{ℤ}
use lib.ListN.{length, take, replicate, length-append}
use Rattle.calendar.specs.Meaning.{Row, empty}
use Rattle.calendar.specs.Limits.{pool_limit, entry_limit, heading_length}
use Rattle.calendar.specs.Reply.{Reply}
use Rattle.calendar.specs.Reply.Reply.{refused, answer}
use Rattle.calendar.specs.Table.{entry_at, admitted}
use Rattle.calendar.specs.Outcome.{Outcome, judged, entries}
use Rattle.calendar.specs.Outcome.Outcome.{refused_at, rows}
use Rattle.calendar.specs.Stored.{joined, pool_after, headings_after}
use Rattle.calendar.specs.Lists.{filled}
use Rattle.granules.proofs.Tests.{and-iff, eqb-iff, leb-iff}
use Rattle.granules.proofs.Sound.{sound-valid}
use Rattle.granules.proofs.Replies.{require-answer}
use Rattle.algebra.proofs.Stored.{joined_length}
use Rattle.algebra.proofs.Steps.{after_entry, entries-zero, entries-suc, after_table, outcome-is}
use Rattle.calendar.specs.declared.Refusal.{Refusal}
use Rattle.calendar.specs.Refusals.{number_of}
use Rattle.std.specs.Prelude.{Ok, Err}
use Rattle.row_entry.specs.Stores.{Stores, EntryDue, Entered}
use Rattle.conversion.specs.Conversion.{Conversion, Refused, Converted}
use Rattle.conversion.specs.Tables.{Cleared, TableDue}
use Rattle.conversion.specs.Left.{Ended, Left}
use Rattle.conversion.proofs.Clearing.{filled-length, filled-self}

-- ---- what an outcome leaves

refused-ends : (h p m k : ℕ) (headings : List ℕ) (pool : List ℤ) → Cleared h p headings pool → Ended h p (refused_at m k) (Refused m k) headings pool
unfolding headings_after pool_after
refused-ends h p m k headings pool c = record { answer = refl; numbers = c.numbers; cells = c.cells }

pub ended-refused : (h p m k : ℕ) (o : Outcome) (headings : List ℕ) (pool : List ℤ) → o ≡ refused_at m k → Cleared h p headings pool
    → Ended h p o (Refused m k) headings pool
ended-refused h p m k o headings pool e c =
    subst (λ (o : Outcome). Ended h p o (Refused m k) headings pool) (sym e) (refused-ends h p m k headings pool c)

-- the cells behind the rows are made empty
rows_end : (l : List Row) (headings : List ℕ) (pool after : List ℤ) (used : ℕ) → Stores l headings pool used
    → after ≡ take used pool ++ replicate (length pool - used) empty → Ended (length headings) (length pool) (rows l) Converted headings after
unfolding headings_after pool_after
rows_end l headings pool after used s e = record {
  answer = refl;
  numbers = s.numbers;
  cells = e ∙ ap₂ (λ (c : List ℤ) (n : ℕ). c ++ replicate (length pool - n) empty) s.cells s.ends;
}

-- ---- rows between two entries

-- the entries before k stand in lists of h heading numbers and p cells, and what is left of the n entries decides the outcome
pub record Standing (t : List ℤ) (n h p k : ℕ) (headings : List ℕ) (pool : List ℤ) (used : ℕ) : Type 0 where
  pub at-most : k ≤ n
  pub before : List Row
  pub count : length before ≡ k
  pub stores : Stores before headings pool used
  pub same : entries t n 0 [] p ≡ entries t (n - k) k before (p - length (joined before))
  pub numbers : length headings ≡ h
  pub cells : length pool ≡ p

pub standing-none : (t : List ℤ) (n : ℕ) (headings : List ℕ) (pool : List ℤ) → TableDue t n headings pool
    → Standing t n (length headings) (length pool) 0 headings pool 0
standing-none t n headings pool d = record {
  at-most = omega arith;
  before = [];
  count = refl;
  stores = record { numbers = d.cleared; cells = refl; ends = refl; fits = omega arith; all_sound = λ r m. absurd (Memᴰ.not-nil m) };
  same = simp sub-zero;
  numbers = refl;
  cells = refl;
}

last_mem : {A : Type 0} (l : List A) (a : A) → Memᴰ a (l ++ (a ∷ []))
last_mem [] a = Memᴰ.head refl
last_mem (x ∷ l) a = Memᴰ.tail (last_mem l a)

module _ (t : List ℤ) (n h p k : ℕ) (headings : List ℕ) (pool : List ℤ) (used : ℕ) (s : Standing t n h p k headings pool used) where
  pub standing-due : (numbers : List ℕ) (cells : List ℤ) → h ≡ length numbers → p ≡ length cells → TableDue t n numbers cells → k < n
      → EntryDue t k headings pool used
  standing-due numbers cells e f d l = record {
    rows = (s.before, s.count, s.stores);
    in_table = omega (arith, d.in_table);
    has-heading = omega (arith, d.has-headings, s.numbers);
    at-most = omega (arith, d.in-pool, s.cells);
  }

  pub standing-ended : n ≤ k → (after : List ℤ) → after ≡ take used pool ++ replicate (length pool - used) empty
      → Ended h p (entries t n 0 [] p) Converted headings after
  standing-ended l after e =
      let z : n - k ≡ 0 = omega (arith, s.at-most) in
      let o = s.same ∙ ap (λ (m : ℕ). entries t m k s.before (p - length (joined s.before))) z ∙ entries-zero t k s.before _ in
      rw (o, ← s.numbers, ← s.cells) (rows_end s.before headings pool after used s.stores e)

  -- the entry k is next
  module _ (l : k < n) (cells : List ℤ) (e : length cells ≡ length pool) where
    next-is : (x : Reply Row) → judged s.before (length cells - length (joined s.before)) (entry_at t k) ≡ x
        → entries t n 0 [] p ≡ after_entry t (n - (k + 1)) k s.before (p - length (joined s.before)) x
    next-is x j =
        let room = p - length (joined s.before) in
        let left : n - k ≡ suc (n - (k + 1)) = omega arith in
        s.same
        ∙ ap (λ (m : ℕ). entries t m k s.before room) left
        ∙ entries-suc t (n - (k + 1)) k s.before room
        ∙ ap (after_entry t (n - (k + 1)) k s.before room)
        (ap (λ (m : ℕ). judged s.before (m - length (joined s.before)) (entry_at t k)) (sym (e ∙ s.cells)) ∙ j)

    pub standing-refused : (m : Refusal) (numbers : List ℕ) → Entered t k s.before (Err m) numbers cells → entries t n 0 [] p ≡ refused_at (number_of m) k
    standing-refused m numbers j = next-is (refused (number_of m)) j.0

    pub standing-more : (end : ℕ) (numbers : List ℕ) → length numbers ≡ length headings → Entered t k s.before (Ok end) numbers cells
        → Standing t n h p (k + 1) numbers cells end
    standing-more end numbers f j =
        let r = j.0 in
        let after = s.before ++ (r ∷ []) in
        let whole = (sound-valid r (j.2.all_sound r (last_mem s.before r))).whole in
        let room : p - length (joined s.before) - r.period ≡ p - length (joined after) = omega (arith, joined_length s.before r, whole) in
        record {
          at-most = omega arith;
          before = after;
          count = simp length-append (omega (arith, s.count));
          stores = j.2;
          same =
              next-is (answer r) j.1
              ∙ ap (entries t (n - (k + 1)) (suc k) after) room
              ∙ ap (λ (m : ℕ). entries t (n - (k + 1)) m after (p - length (joined after))) (sym (add-one k));
          numbers = f ∙ s.numbers;
          cells = e ∙ s.cells;
        }

-- ---- checks 1, 2 and 3

pub outcome-refused : (t : List ℤ) (h p m : ℕ) (headings : List ℕ) (pool : List ℤ) → admitted t (h / heading_length) p ≡ refused m → Cleared h p headings pool
    → Left t h p (Refused m 0) headings pool
outcome-refused t h p m headings pool e = ended-refused h p m 0 _ headings pool (outcome-is t (h / heading_length) p ∙ ap (after_table t p) e)

pub outcome-entries : (t : List ℤ) (h p n : ℕ) (r : Conversion) (headings : List ℕ) (pool : List ℤ) → admitted t (h / heading_length) p ≡ answer n
    → Ended h p (entries t n 0 [] p) r headings pool → Left t h p r headings pool
outcome-entries t h p n r headings pool e =
    subst (λ (o : Outcome). Ended h p o r headings pool) (sym (outcome-is t (h / heading_length) p ∙ ap (after_table t p) e))

pub admitted-due : (t : List ℤ) (h n : ℕ) (headings : List ℕ) (pool : List ℤ) → headings ≡ filled h 0 [] → admitted t (h / heading_length) (length pool) ≡ answer n
    → TableDue t n headings pool
admitted-due t h n headings pool c e =
    let r₁ = require-answer 1 (eqb (length t % 6) 0 && (leb 1 (length t / 6) && leb (length t / 6) entry_limit)) _ e in
    let r₂ = require-answer 2 (leb (length t / 6) (h / heading_length)) _ r₁.1 in
    let r₃ = require-answer 3 (leb (length pool) pool_limit) _ r₂.1 in
    let b = (and-iff _ _).0 r₁.0 in
    let multiple = (eqb-iff (length t % 6) 0).0 b.0 in
    let few = (leb-iff (length t / 6) entry_limit).0 ((and-iff (leb 1 (length t / 6)) _).0 b.1).1 in
    let headed = (leb-iff (length t / 6) (h / heading_length)).0 r₂.0 in
    let short = (leb-iff (length pool) pool_limit).0 r₃.0 in
    let n-is : length t / 6 ≡ n = cc r₃.1 in
    let h-is = ap length c ∙ filled-length h 0 in
    record {
      cleared = filled-self headings h 0 c;
      in_table = omega arith;
      at-most = omega arith;
      has-headings = omega arith;
      in-pool = omega arith;
    }
