-- What the start and a call give.
-- Assumes nothing.
use mathlib.Core.Path.{◌≡◌, refl, sym, ◌∙◌, ap, ap₂, subst}
use mathlib.Core.Bool.{Bool, true, false, cond}
use mathlib.Core.List.{List, [], ◌∷◌, ◌++◌}
use Prim.Native.Nat.{ℕ, suc, ◌-◌, ◌/◌}
use native.Mathlib.Omega.{arith}
use lib.Dec.{eqb}
use lib.IntN.{ℤ}
use lib.ListN.{length, take, replicate, length-append}
use Rattle.calendar.specs.Meaning.{Row, empty}
use Rattle.calendar.specs.Limits.{heading_length}
use Rattle.calendar.specs.Lists.{filled}
use Rattle.calendar.specs.declared.Refusal.{Refusal}
use Rattle.calendar.specs.Refusals.{number_of}
use Rattle.calendar.specs.Reply.{Reply}
use Rattle.calendar.specs.Reply.Reply.{refused, answer}
use Rattle.calendar.specs.Table.{entry_at}
use Rattle.calendar.specs.Outcome.{Outcome, judged}
use Rattle.calendar.specs.Outcome.Outcome.{rows}
use Rattle.calendar.specs.Stored.{joined, headings_from, headings_after, pool_after}
use Rattle.granules.proofs.Tests.{eqb-iff, false-iff}
use Rattle.row_entry.specs.Stores.{Entered}
use Rattle.std.specs.Prelude.{Ok, Err}
use Rattle.conversion.specs.Tables.{Cleared}
use Rattle.standing.specs.Standing.{rows_at}
use Rattle.standing.proofs.Decides.{rows-length}
use Rattle.walks.specs.Walk as W
use Rattle.walks.specs.Walk.{lengths_of, admits, entries_of, progress_after, left, begun, start, ready, entered, stepped}
use Rattle.walks.specs.Walk.Progress.{due, done, refused_at}
use Rattle.walks.proofs.Came.{admitted-gives, step_to, entered-is, stepped-is}
use Rattle.walks.proofs.States.{start_is}
use Rattle.steps.specs.declared.Walk.{Walk}
use Rattle.steps.specs.declared.Lengths.{Lengths}
use Rattle.steps.specs.declared.Progress.{Progress}
use Rattle.steps.specs.declared.Progress.TheVariants.{Due, Refused}
use Rattle.steps.specs.State.{lengths_in, progress_of, Gives, behind}

-- ---- after a refusal, and where rows stand

gives-refused : (now : W.Lengths) (m k : ℕ) (l : Lengths) (h : List ℕ) (p : List ℤ) → Cleared now.headings now.pool h p
    → Gives (left (lengths_in l) now (Outcome.refused_at m k)) (record { lengths = l; progress = Refused m k }) h p
unfolding left headings_after pool_after
gives-refused now m k l h p c = record { state = refl; numbers = c.numbers; cells = c.cells }

gives-rows : (now : W.Lengths) (rs : List Row) (l : Lengths) (x : Progress) (h : List ℕ) (p : List ℤ)
    → progress_of x ≡ progress_after (entries_of (lengths_in l)) (rows rs)
    → h ≡ filled now.headings 0 (headings_from 0 rs) → p ≡ filled now.pool empty (joined rs)
    → Gives (left (lengths_in l) now (rows rs)) (record { lengths = l; progress = x }) h p
unfolding left headings_after pool_after
gives-rows now rs l x h p e a b = record { state = λ i. record { lengths = lengths_in l; progress = e i }; numbers = a; cells = b }

-- ---- the start

module _ (t : List ℤ) (headings : List ℕ) (pool : List ℤ) (l : Lengths) (same : lengths_in l ≡ lengths_of t headings pool)
    (h : List ℕ) (p : List ℤ) (c : Cleared (length headings) (length pool) h p) where
  abbrev L : W.Lengths
  L = lengths_of t headings pool

  from-left : (o : Outcome) (x : Progress) → begun (admits t headings pool) ≡ o → Gives (left (lengths_in l) L o) (record { lengths = l; progress = x }) h p
      → Gives (start t headings pool) (record { lengths = l; progress = x }) h p
  from-left o x e g =
      subst (λ (s : W.Left). Gives s (record { lengths = l; progress = x }) h p)
      (sym (start_is t headings pool ∙ ap (left L L) e))
      (subst (λ (q : W.Lengths). Gives (left q L o) (record { lengths = l; progress = x }) h p) same g)

  pub start-refused : (m : ℕ) → admits t headings pool ≡ refused m → Gives (start t headings pool) (record { lengths = l; progress = Refused m 0 }) h p
  start-refused m e = from-left (Outcome.refused_at m 0) (Refused m 0) (ap begun e) (gives-refused L m 0 l h p c)

  pub start-begun : (n : ℕ) → admits t headings pool ≡ answer n → Gives (start t headings pool) (record { lengths = l; progress = Due 0 }) h p
  start-begun n e =
      let g = admitted-gives t (length headings / heading_length) (length pool) n e in
      let number : entries_of (lengths_in l) ≡ n = ap entries_of same ∙ sym g.is_number in
      let none : eqb 0 (entries_of (lengths_in l)) ≡ false = (false-iff (eqb-iff 0 (entries_of (lengths_in l)))).1 (λ z. omega (arith, z, number, g.some-entry)) in
      from-left (rows []) (Due 0) (ap begun e)
      (gives-rows L [] l (Due 0) h p (ap (λ (b : Bool). cond b done (due 0)) (sym none)) c.numbers c.cells)

-- ---- the entry k

module _ (l : Lengths) (k : ℕ) (t : List ℤ) (headings : List ℕ) (pool : List ℤ) where
  abbrev now : W.Lengths
  now = lengths_of t headings pool

  abbrev before : List Row
  before = rows_at headings pool k

  -- the outcome by another name
  gives_as : {o o' : Outcome} (w : Walk) (h : List ℕ) (p : List ℤ) → o ≡ o' → Gives (left (lengths_in l) now o') w h p → Gives (left (lengths_in l) now o) w h p
  gives_as w h p e g = subst (λ (o : Outcome). Gives (left (lengths_in l) now o) w h p) (sym e) g

  entered-as : (x : Reply Row) (cells : List ℤ) → length cells ≡ length pool → judged before (length cells - length (joined before)) (entry_at t k) ≡ x
      → entered k t headings pool ≡ step_to k before x
  entered-as x cells e j =
      entered-is k t headings pool
      ∙ ap (step_to k before) (ap (λ (n : ℕ). judged before (n - length (joined before)) (entry_at t k)) (sym e) ∙ j)

  pub entry-refused : (m : Refusal) (numbers : List ℕ) (cells : List ℤ) → length cells ≡ length pool → Entered t k before (Err m) numbers cells
      → (h : List ℕ) (p : List ℤ) → Cleared (length headings) (length pool) h p
      → Gives (left (lengths_in l) now (entered k t headings pool)) (record { lengths = l; progress = Refused (number_of m) k }) h p
  entry-refused m numbers cells e j h p c =
      gives_as (record { lengths = l; progress = Refused (number_of m) k }) h p (entered-as (refused (number_of m)) cells e j.0) (gives-refused now (number_of m) k l h p c)

  pub entry-taken : (end : ℕ) (numbers : List ℕ) (cells : List ℤ) → length numbers ≡ length headings → length cells ≡ length pool
      → Entered t k before (Ok end) numbers cells
      → (x : Progress) → progress_of x ≡ behind (lengths_in l) k
      → (p : List ℤ) → p ≡ take end cells ++ replicate (length cells - end) empty
      → Gives (left (lengths_in l) now (entered k t headings pool)) (record { lengths = l; progress = x }) numbers p
  entry-taken end numbers cells f e j x q p c =
      let r = j.0 in
      let s = j.2 in
      let rs = before ++ (r ∷ []) in
      let count : suc k ≡ length rs = omega (arith, length-append before (r ∷ []), rows-length headings pool k) in
      gives_as (record { lengths = l; progress = x }) numbers p (entered-as (answer r) cells e j.1)
      (gives-rows now rs l x numbers p
      (q ∙ ap (λ (n : ℕ). cond (eqb n (entries_of (lengths_in l))) done (due n)) count)
      (s.numbers ∙ ap (λ (n : ℕ). filled n 0 (headings_from 0 rs)) f)
      (c ∙ ap₂ (λ (a : List ℤ) (n : ℕ). a ++ replicate (length cells - n) empty) s.cells s.ends ∙ ap (λ (n : ℕ). joined rs ++ replicate (n - length (joined rs)) empty) e))

  -- ---- the call

  pub test-fails : ready (lengths_in l) k t headings pool ≡ false → (h : List ℕ) (p : List ℤ) → Cleared (length headings) (length pool) h p
      → Gives (left (lengths_in l) now (stepped (lengths_in l) k t headings pool)) (record { lengths = l; progress = Refused 13 k }) h p
  test-fails e h p c =
      gives_as (record { lengths = l; progress = Refused 13 k }) h p (stepped-is (lengths_in l) k t headings pool ∙ ap (λ (b : Bool). cond b (entered k t headings pool) (Outcome.refused_at 13 k)) e)
      (gives-refused now 13 k l h p c)

  pub test-passes : ready (lengths_in l) k t headings pool ≡ true → (w : Walk) (h : List ℕ) (p : List ℤ)
      → Gives (left (lengths_in l) now (entered k t headings pool)) w h p
      → Gives (left (lengths_in l) now (stepped (lengths_in l) k t headings pool)) w h p
  test-passes e w h p =
      gives_as w h p (stepped-is (lengths_in l) k t headings pool ∙ ap (λ (b : Bool). cond b (entered k t headings pool) (Outcome.refused_at 13 k)) e)
