-- The refusals of union and intersection do not depend on the order of the operands: with the same room both are refused under the same
-- number, or neither is.
use mathlib.Core.Path.{◌≡◌, refl, sym, ◌∙◌, ap, subst}
use mathlib.Core.Logic.{inl, inr}
use mathlib.Core.List.{List, [], ◌∷◌}
use mathlib.Core.Bool.{◌&&◌}
use Prim.Native.Nat.{ℕ, ◌/◌, ◌%◌, ◌≤◌, ◌<◌}
use lib.Dec.{eqb, leb}
use lib.IntN.{ℤ, pos}
use lib.Signed.{◌<ℤ◌}
use native.Mathlib.Omega.{arith}
use lib.ListN.{length, get_or, length-append}
use Rattle.integers.proofs.Divisors.{lcm-comm}
use Rattle.calendar.specs.Meaning.{Calendar}
use Rattle.calendar.specs.Operation.{SetOperation, Operation, map_operation}
use Rattle.calendar.specs.Operation.Binary.{by-labels}
use Rattle.calendar.specs.Operation.Operation.{binary}
use Rattle.calendar.specs.Algebra.{Labels, Compatible}
use Rattle.calendar.specs.Size.{Turn, span, span_of, working_period}
use Rattle.calendar.specs.Reply.Reply.{refused, answer}
use Rattle.calendar.specs.Limits.{pool_limit, entry_limit}
use Rattle.calendar.specs.Reply.{require}
use Rattle.calendar.specs.Table.{Entry, entry_at, named, admitted}
use Rattle.algebra.specs.TableMeaning.{Meant, nothing, FullIn, SpanIn, AlignedIn, KeptIn, WorkingIn, Judged, EntryJudged, Entries, TableMeans}
use Rattle.algebra.specs.TableMeaning.Judged.{not_full, span-too-long, not_aligned, emptied, period-too-long, unlabelled, out_of_range}
use Rattle.algebra.specs.TableMeaning.EntryJudged.{unread, read}
use Rattle.algebra.specs.TableMeaning.Entries.{stop, next}
use Rattle.algebra.specs.TableMeaning.TableReply.{refused_at}
use Rattle.algebra.specs.TableMeaning.TableMeans.{not-admitted, entries}
use Rattle.laws.specs.Commutes.{Commutes, Swapped}
use Rattle.laws.specs.Commutes.Commutes.{unions, intersections}

-- ---- calendars

compatible-swap : (a b : Calendar) → Compatible a b → Compatible b a
compatible-swap a b h = record {
  shared = λ j p q t. let (x, y) = h.shared j q p t in (y, x);
  single = λ t i j p q. sym (h.single t j i q p);
  ordered = λ s t i j l. let (x, y) = h.ordered s t i j l in (y, x);
}

labels-swap : (s : SetOperation) → Commutes s → (a b : Calendar) → Compatible a b → (t i : ℤ)
    → Labels (binary (by-labels s) a b) t i → Labels (binary (by-labels s) b a) t i
labels-swap s unions a b h t i (inl e) = inr e
labels-swap s unions a b h t i (inr e) = inl e
labels-swap s intersections a b h t i (e, has) = ((h.shared i (t, e) has t).0 e, (t, e))

-- ---- spans

span-swap : (s : SetOperation) (p q : Turn) → span (binary (by-labels s) p q) ≡ span (binary (by-labels s) q p)
unfolding span span_of
span-swap s p q = lcm-comm p.period q.period

period-swap : (s : SetOperation) (p q : Turn) → working_period (binary (by-labels s) p q) ≡ working_period (binary (by-labels s) q p)
unfolding working_period span_of
period-swap s p q = lcm-comm p.period q.period

-- ---- the checks, one after the other

module _ (s : SetOperation) (x y : Meant) (room : ℕ) where
  abbrev one : Operation Meant
  one = binary (by-labels s) x y

  abbrev other : Operation Meant
  other = binary (by-labels s) y x

  full-in : FullIn one → FullIn other
  full-in h = record { full = tt }

  span-in : SpanIn one room → SpanIn other room
  span-in h = record { before = full-in h.before; fits = subst (λ (n : ℕ). n ≤ room) (span-swap s x.turn y.turn) h.fits }

  aligned-in : AlignedIn one room → AlignedIn other room
  aligned-in h = record { before = span-in h.before; aligned = compatible-swap x.calendar y.calendar h.aligned }

  kept_in : KeptIn one room → KeptIn other room
  kept_in h = record { before = aligned-in h.before; kept = λ e. e }

  working-in : WorkingIn one room → WorkingIn other room
  working-in h = record { before = kept_in h.before; fits = subst (λ (n : ℕ). n ≤ room) (period-swap s x.turn y.turn) h.fits }

-- an operation that is refused with its operands one way is refused so the other way
pub judged-swap : (s : SetOperation) → Commutes s → (x y : Meant) (room n : ℕ)
    → Judged (binary (by-labels s) x y) room (refused n) → Judged (binary (by-labels s) y x) room (refused n)
judged-swap s c x y room n (not_full f) = absurd (f tt)
judged-swap s c x y room n (span-too-long h l) = span-too-long (full-in s x y room h) (subst (λ (k : ℕ). room < k) (span-swap s x.turn y.turn) l)
judged-swap s c x y room n (not_aligned h f) = not_aligned (span-in s x y room h) (λ e. f (compatible-swap y.calendar x.calendar e))
judged-swap s c x y room n (emptied h e) = absurd e
judged-swap s c x y room n (period-too-long h l) = period-too-long (kept_in s x y room h) (subst (λ (k : ℕ). room < k) (period-swap s x.turn y.turn) l)
judged-swap s c x y room n (unlabelled h f) =
    unlabelled (working-in s x y room h)
    (λ e. let (t, i, l) = e in f (t, i, labels-swap s c y.calendar x.calendar (working-in s x y room h).before.before.aligned t i l))
judged-swap s c x y room n (out_of_range h e f) =
    let swap = labels-swap s c x.calendar y.calendar h.before.before.aligned in
    let (t, i, l) = e in
    out_of_range (working-in s x y room h) (t, i, swap t i l)
    (λ r. f (λ t i low high l. r t i low (subst (λ (m : ℕ). t <ℤ pos m) (period-swap s x.turn y.turn) high) (swap t i l)))

-- the same of two entries behind others, in one table or in two, whose operands mean the same: with the same room they are refused under
-- the same number
pub entry-swap : (s : SetOperation) → Commutes s → (before before' : List Meant) (room n i j i' j' : ℕ) (e e' : Entry)
    → named (length before) e ≡ answer (binary (by-labels s) i j) → named (length before') e' ≡ answer (binary (by-labels s) j' i')
    → get_or before i nothing ≡ get_or before' i' nothing → get_or before j nothing ≡ get_or before' j' nothing
    → EntryJudged before room e (refused n) → EntryJudged before' room e' (refused n)
entry-swap s c before before' room n i j i' j' e e' p p' q q' (unread f) = let z : ◌≡◌ {A = ℕ} 0 1 = cc in absurd (omega arith)
entry-swap s c before before' room n i j i' j' e e' p p' q q' (read {o} f h) =
    let same : o ≡ binary (by-labels s) i j = cc in
    let k : Judged (binary (by-labels s) (get_or before i nothing) (get_or before j nothing)) room (refused n) =
    subst (λ (o : Operation ℕ). Judged (map_operation (λ k. get_or before k nothing) o) room (refused n)) same h in
    read p' (rw (q, q') at (judged-swap s c (get_or before i nothing) (get_or before j nothing) room n k))

-- ---- in a table

pub swapped-back : (s : SetOperation) (k : ℕ) (t t' : List ℤ) → Swapped s k t t' → Swapped s k t' t
swapped-back s k t t' w = record {
  lengths = sym w.lengths;
  before = λ i h. sym (w.before i h);
  first = w.second;
  second = w.first;
  one = w.other;
  other = w.one;
}

-- what is refused stands at the entry from which it goes on or later
entries-index : {t : List ℤ} {m i room n k : ℕ} {before : List Meant} → Entries t m i before room (refused_at n k) → i ≤ k
entries-index (stop j) = omega arith
entries-index (next j l) = omega (arith, entries-index l)

module _ (s : SetOperation) (c : Commutes s) (t t' : List ℤ) (k n : ℕ) (w : Swapped s k t t') where
  entries-swap : {m i room : ℕ} {before : List Meant} → Entries t m i before room (refused_at n k) → length before ≡ i → Entries t' m i before room (refused_at n k)
  entries-swap {room} {before} (stop j) e =
      stop
      (entry-swap s c before before room n w.first w.second w.first w.second (entry_at t k) (entry_at t' k) (ap (λ (x : ℕ). named x (entry_at t k)) e ∙ w.one)
      (ap (λ (x : ℕ). named x (entry_at t' k)) e ∙ w.other) refl refl j)
  entries-swap {i} {room} {before} (next {m} j l) e =
      let less : i < k = omega (arith, entries-index l) in
      next (subst (λ (x : Entry). EntryJudged before room x (answer m)) (w.before i less) j) (entries-swap l (length-append before (m ∷ []) ∙ omega arith))

admitted-alike : (t t' : List ℤ) (headings pool : ℕ) → length t ≡ length t' → admitted t headings pool ≡ admitted t' headings pool
admitted-alike t t' headings pool e =
    ap (λ (n : ℕ). require 1 (eqb (n % 6) 0 && (leb 1 (n / 6) && leb (n / 6) entry_limit)) (require 2 (leb (n / 6) headings) (require 3 (leb pool pool_limit) (answer (n / 6))))) e

-- at one place of tables that are alike before it, with as many headings and cells: what is refused with the operands one way is refused so
-- the other way
pub table-swap : (s : SetOperation) → Commutes s → (t t' : List ℤ) (k n headings pool : ℕ) → Swapped s k t t'
    → TableMeans t headings pool (refused_at n k) → TableMeans t' headings pool (refused_at n k)
table-swap s c t t' k n headings pool w (not-admitted p) = not-admitted (sym (admitted-alike t t' headings pool w.lengths) ∙ p)
table-swap s c t t' k n headings pool w (entries p l) = entries (sym (admitted-alike t t' headings pool w.lengths) ∙ p) (entries-swap s c t t' k n w l refl)
