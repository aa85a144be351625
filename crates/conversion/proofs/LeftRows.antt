-- What is left in the lists after a refusal, and where the table is answered; how many labels a calendar has.
-- Assumes nothing.
use mathlib.Core.Path.{◌≡◌, refl, sym, ◌∙◌, ap, subst}
use mathlib.Core.List.{List, [], ◌∷◌}
use mathlib.Core.Bool.{◌&&◌}
use Prim.Native.Nat.{ℕ, ◌+◌, ◌/◌, ◌%◌, ◌≤◌, ◌<◌}
use native.Mathlib.Nat.{sub-zero}
use native.Mathlib.Omega.{arith}
use lib.Dec.{eqb, leb}
use lib.IntN.{ℤ, pos}
use lib.ListN.{length, get_or, replicate, length-append}
use Rattle.calendar.specs.Meaning.{Calendar, Row, meant, empty}
use Rattle.calendar.specs.Limits.{pool_limit, entry_limit, heading_length}
use Rattle.calendar.specs.Reply.Reply.{answer}
use Rattle.calendar.specs.Table.{admitted}
use Rattle.calendar.specs.Outcome.{outcome}
use Rattle.calendar.specs.Outcome.Outcome.{refused_at, rows}
use Rattle.calendar.specs.Stored.{joined, headings_from, pool_after, headings_after}
use Rattle.calendar.specs.Lists.{keep, from, filled}
use Rattle.calendar.specs.Granules.{has, granules}
use Rattle.granules.specs.Valid.{Valid}
use Rattle.granules.proofs.Tests.{leb-iff}
use Rattle.granules.proofs.Count.{granules-window, granules-lists, granules-count}
use Rattle.granules.proofs.Rows.{valid-of-least}
use Rattle.granules.proofs.Sound.{sound-valid}
use Rattle.algebra.specs.TableMeaning.{Meant, nothing, Entries, TableMeans}
use Rattle.algebra.specs.TableMeaning.Entries.{done, next}
use Rattle.algebra.specs.TableMeaning.TableReply.{means}
use Rattle.algebra.specs.TableMeaning.TableMeans.{entries}
use Rattle.algebra.specs.Represents.{Represents, CountsLabels}
use Rattle.algebra.specs.Agrees.{RepresentsAll}
use Rattle.granules.proofs.Replies.{require-answer}
use Rattle.algebra.proofs.Demand2.{represents-length, represents-at, stored-sound, stored-fit}
use Rattle.conversion.specs.Conversion.{Refused, Converted}
use Rattle.conversion.specs.Shows.{row_at, distance_at, ShowsRefusal, ShowsRows}
use Rattle.conversion.proofs.Headings.{Whole, filled-length, headings-length, first-left, row-left, granules-left, next-left, behind-left, beyond-left}

-- ---- how many entries a table has

entries-length : {t : List ℤ} {n k room : ℕ} {before ms : List Meant} → Entries t n k before room (means ms) → length ms ≡ length before + n
entries-length done = omega arith
entries-length {before} (next {m} j l) = omega (arith, entries-length l, length-append before (m ∷ []))

admitted-entries : (t : List ℤ) (headings pool n : ℕ) → admitted t headings pool ≡ answer n → (n ≡ length t / 6) × (n ≤ headings)
admitted-entries t headings pool n e =
    let r₁ = require-answer 1 (eqb (length t % 6) 0 && (leb 1 (length t / 6) && leb (length t / 6) entry_limit)) _ e in
    let r₂ = require-answer 2 (leb (length t / 6) headings) _ r₁.1 in
    let r₃ = require-answer 3 (leb pool pool_limit) _ r₂.1 in
    let same : length t / 6 ≡ n = cc r₃.1 in
    (sym same, omega (arith, (leb-iff (length t / 6) headings).0 r₂.0))

-- each entry of an answered table means a calendar, and there is a heading for it
pub means-length : {t : List ℤ} {headings pool : ℕ} {ms : List Meant} → TableMeans t headings pool (means ms)
    → (length ms ≡ length t / 6) × (length ms ≤ headings)
means-length {t} {headings} {pool} (entries {n} p l) =
    let a = admitted-entries t headings pool n p in
    let e = entries-length l in
    (omega arith, omega arith)

-- ---- how many labels a calendar has

module _ (m : Meant) (r : Row) (p : Represents m r) where
  valid : Valid r
  valid = valid-of-least r m.calendar p.calendar p.least

  meaning : meant r ≡ m.calendar
  meaning = λ i t. p.least.means t i

  -- R of its row says it
  pub counts-labels : CountsLabels m.calendar r.distance (granules r)
  counts-labels =
      subst (λ (c : Calendar). CountsLabels c r.distance (granules r)) meaning
      (record { labels = λ k. keep (has r) (from k r.distance); lists = granules-lists r valid; count = granules-window r valid })

  -- and no other number does
  pub labels-counted : (n : ℕ) → CountsLabels m.calendar r.distance n → n ≡ granules r
  labels-counted n h =
      let x = subst (λ (c : Calendar). CountsLabels c r.distance n) (sym meaning) h in
      sym (x.count (pos 0)) ∙ granules-count r valid (pos 0) (x.labels (pos 0)) (x.lists (pos 0))

-- ---- the lists

pub shows-refusal : (n k h p : ℕ) → ShowsRefusal n k h p (Refused n k) (headings_after h (refused_at n k)) (pool_after p (refused_at n k))
unfolding headings_after pool_after
shows-refusal n k h p = record {
  answer = refl;
  numbers = ap (λ (i : ℕ). replicate i 0) (sub-zero h);
  cells = ap (λ (i : ℕ). replicate i empty) (sub-zero p);
}

module _ (t : List ℤ) (h p : ℕ) (l : List Row) (stores : outcome t (h / heading_length) p ≡ rows l) where
  whole : Whole l
  whole r m = (sound-valid r (stored-sound t (h / heading_length) p l stores r m)).whole

  pub shows-rows : (ms : List Meant) → TableMeans t (h / heading_length) p (means ms) → RepresentsAll ms l
      → ShowsRows ms h p Converted (headings_after h (rows l)) (pool_after p (rows l))
  unfolding headings_after pool_after
  shows-rows ms m a =
      let n : length ms ≡ length l = represents-length ms l a in
      let fit = (means-length m).1 in
      let shown : (k : ℕ) → k < length ms → Represents (get_or ms k nothing) (row_at (filled h 0 (headings_from 0 l)) (filled p empty (joined l)) k) =
      λ k b. subst (Represents (get_or ms k nothing)) (sym (row-left l whole h p k (omega arith))) (represents-at ms l a k (omega arith)) in
      record {
        answer = refl;
        lengths = (filled-length h 0 (headings_from 0 l) (omega (arith, headings-length 0 l)), filled-length p empty (joined l) (stored-fit t (h / heading_length) p l stores));
        rows = shown;
        granules = λ k b. subst (CountsLabels (get_or ms k nothing).calendar (distance_at (filled h 0 (headings_from 0 l)) k))
            (sym (granules-left l whole h p k (omega arith))) (counts-labels (get_or ms k nothing) _ (shown k b));
        first = first-left l h;
        next = λ k b. next-left l whole h p k (omega arith);
        behind = λ i b. behind-left l whole h p i (λ k c. b k (omega arith));
        beyond = λ i b. beyond-left l whole h p i (omega arith);
      }
