-- The test before an entry is taken, part by part.
-- Assumes nothing.
use Rattle.std.specs.Prelude.{Result, Some, None, Ok, Err}
use Rattle.std.specs.Result.{result_ok}
use Rattle.std.proofs.lemmas.Option.{none-some, same_Some}
use mathlib.Core.Path.{◌≡◌, refl, sym, ◌∙◌, ap}
use mathlib.Core.Bool.{Bool, true, false, ◌&&◌}
use mathlib.Core.List.{List}
use Prim.Native.Nat.{ℕ, ◌+◌, ◌*◌, ◌/◌, ◌≤◌, ◌<◌}
use native.Mathlib.Nat.{div-add-mod}
use native.Mathlib.Omega.{arith}
use lib.IntN.{ℤ}
use lib.ListN.{length, take}
use lib.Seq.{take_at}
use Rattle.calendar.specs.Limits.{entry_limit, heading_length}
use Rattle.calendar.specs.declared.Refusal.{Refusal}
use Rattle.calendar.specs.Refusals.{number_of}
use Rattle.calendar.specs.Reply.Reply.{refused, answer}
use Rattle.calendar.specs.Stored.{joined}
use Rattle.granules.proofs.Tests.{true≢false, ltb_iff}
use Rattle.entries.specs.Entries.{begun_reply}
use Rattle.row_entry.specs.Stores.{Stores, EntryDue}
use Rattle.standing.specs.Standing.{rows_at, standing}
use Rattle.standing.specs.Tests.{EndsAt}
use Rattle.standing.proofs.Decides.{rows-length}
use Rattle.standing.proofs.ByParts.{end_is}
use Rattle.walks.specs.Walk.{Lengths, lengths_of, same_lengths, admits, is_entry, ready}
use Rattle.walks.proofs.Came.{ready-iff, Admitted, admitted-gives, entry_of}
use Rattle.walks.proofs.Calls.{stood}

-- what checks 1 to 3 come to, where only their answer is kept
pub begun-answer : (r : Result ℕ Refusal) (n : ℕ) → Some n ≡ result_ok r → begun_reply r ≡ answer n
begun-answer (Ok m) n e = ap answer (sym (same_Some n m e))
begun-answer (Err x) n e = absurd (none-some n (sym e))

pub begun-refused : (r : Result ℕ Refusal) → None ≡ result_ok r → (m : ℕ) × (begun_reply r ≡ refused m)
begun-refused (Ok n) e = absurd (none-some n e)
begun-refused (Err x) e = (number_of x, refl)

module _ (began : Lengths) (k : ℕ) (t : List ℤ) (headings : List ℕ) (pool : List ℤ) where
  abbrev same : Bool
  same = same_lengths (lengths_of t headings pool) began

  ready-is : ready began k t headings pool ≡ same && (is_entry k (admits t headings pool) && standing k headings pool)
  unfolding ready
  ready-is = refl

  -- ---- where it fails

  fails : (b : Bool) → ready began k t headings pool ≡ b → (b ≡ true → ⊥) → ready began k t headings pool ≡ false
  fails true e h = absurd (h refl)
  fails false e h = e

  pub other-lengths : ¬ (lengths_of t headings pool ≡ began) → ready began k t headings pool ≡ false
  other-lengths h = fails _ refl (λ e. h ((ready-iff began k t headings pool).0 e).0)

  pub not-admitted : (m : ℕ) → admits t headings pool ≡ refused m → ready began k t headings pool ≡ false
  not-admitted m e = fails _ refl (λ q. true≢false ((ready-iff began k t headings pool).0 q).1 (ap (is_entry k) e))

  pub no-entry : (n : ℕ) → admits t headings pool ≡ answer n → n ≤ k → ready began k t headings pool ≡ false
  no-entry n e h = fails _ refl (λ q.
      let a = (ltb_iff k n).0 (sym (ap (is_entry k) e) ∙ ((ready-iff began k t headings pool).0 q).1) in omega (arith, a, h))

  -- ---- where the rows decide

  pub rows-decide : lengths_of t headings pool ≡ began → (n : ℕ) → admits t headings pool ≡ answer n → k < n
      → standing k headings pool ≡ ready began k t headings pool
  rows-decide l n e h = sym (by (standing k headings pool) refl)
    where
      by : (b : Bool) → standing k headings pool ≡ b → ready began k t headings pool ≡ b
      by true s = (ready-iff began k t headings pool).1 (l, ap (is_entry k) e ∙ (ltb_iff k n).1 h, s)
      by false s = fails _ refl (λ q. true≢false ((ready-iff began k t headings pool).0 q).2 s)

  -- ---- what it gives

  module _ (ok : ready began k t headings pool ≡ true) where
    entry : (n : ℕ) × (admits t headings pool ≡ answer n) × (k < n)
    entry = entry_of k (admits t headings pool) ((ready-iff began k t headings pool).0 ok).1

    gives : Admitted entry.0 (length t) (length headings / heading_length) (length pool)
    gives = admitted-gives t (length headings / heading_length) (length pool) entry.0 entry.1

    pub few : k < entry_limit
    few = omega (arith, gives.few, entry.2)

    has-heading : heading_length * k + heading_length ≤ length headings
    has-heading = omega (arith, div-add-mod (length headings) heading_length, gives.has-headings, entry.2)

    in_table : 6 * k + 5 < length t
    in_table = omega (arith, div-add-mod (length t) 6, gives.is_number, gives.whole, entry.2)

    -- the rows end before the cell `used`
    module _ (used : ℕ) (ends : EndsAt headings pool k used) where
      used-is : used ≡ length (joined (rows_at headings pool k))
      used-is = ends.is-end ∙ end_is k headings pool (omega (arith, has-heading)) ((ready-iff began k t headings pool).0 ok).2

      pub stores : Stores (rows_at headings pool k) headings pool used
      stores =
          let s = stood began k t headings pool ok in
          let l = rows_at headings pool k in
          record {
            numbers = s.numbers;
            cells = ap (take used) s.cells ∙ take_at (joined l) _ used (sym used-is);
            ends = used-is;
            fits = ends.fits;
            all_sound = s.all_sound;
          }

      pub entry-due : EntryDue t k headings pool used
      entry-due = record { rows = (rows_at headings pool k, rows-length headings pool k, stores); in_table = in_table; has-heading = has-heading; at-most = gives.at-most }
