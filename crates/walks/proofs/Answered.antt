-- A finished walk over lists that the caller left alone is an answered table.
use mathlib.Core.Path.{◌≡◌, refl, sym, ◌∙◌, ap, subst}
use mathlib.Core.Logic.{⊎_elim}
use mathlib.Core.List.Memᴰ
use mathlib.Core.List.{List, [], ◌∷◌, Memᴰ}
use Prim.Native.Nat.{ℕ, ◌/◌}
use native.Mathlib.Omega.{arith}
use lib.IntN.{ℤ}
use lib.ListN.{length, take}
use lib.Seq.{take-length}
use Rattle.calendar.specs.Meaning.{Row}
use Rattle.calendar.specs.Least.{least}
use Rattle.calendar.specs.Outcome.{outcome}
use Rattle.calendar.specs.Outcome.Outcome.{rows}
use Rattle.calendar.specs.Limits.{heading_length}
use Rattle.algebra.specs.TableMeaning.{Meant, TableReply, TableMeans}
use Rattle.algebra.specs.TableMeaning.TableReply.{means}
use Rattle.algebra.specs.Agrees.{RepresentsAll, Agrees}
use Rattle.algebra.proofs.Stored.{outcome-stored}
use Rattle.algebra.proofs.Demand2.{demand-2}
use Rattle.standing.specs.Standing.{Standing}
use Rattle.walks.specs.Walk.{Left, lengths_of, left, converts, admits, start}
use Rattle.walks.specs.Runs.{assembled, AllOf, calls}
use Rattle.walks.proofs.Kept.{least-again}
use Rattle.walks.proofs.Came.{admitted-gives}
use Rattle.walks.proofs.Calls.{left-stands}
use Rattle.walks.proofs.Steps.{steps-convert}
use Rattle.walks.proofs.Done.{done_at, whole-converts}
use Rattle.walks.specs.Walk.Progress.{done}
use Rattle.calendar.specs.Reply.Reply.{answer}
use Rattle.laws.specs.Answered.{Answered}
use Rattle.conversion.specs.Left as C
use Rattle.conversion.specs.Conversion.{Converted}
use Rattle.conversion.specs.Answers.{answered}
use Rattle.conversion.proofs.Demands.{converted-means}

represented-least : (ms : List Meant) (l : List Row) → RepresentsAll ms l → (r : Row) → Memᴰ r l → (least r).period ≡ r.period
represented-least [] [] h r m = absurd (Memᴰ.not-nil m)
represented-least [] (s ∷ l) h r m = absurd h
represented-least (a ∷ ms) [] h r m = absurd h
represented-least (a ∷ ms) (s ∷ l) h r m =
    ⊎_elim (λ e. subst (λ (q : Row). (least q).period ≡ q.period) (sym e) (ap (λ (q : Row). q.period) (least-again a.calendar s h.0.calendar h.0.least)))
    (represented-least ms l h.1 r) (Memᴰ.cases_cons m)

-- what a table means whose rows are stored
meanings : (t : List ℤ) (headings pool : ℕ) (l : List Row) → outcome t headings pool ≡ rows l → (ms : List Meant) × TableMeans t headings pool (means ms) × RepresentsAll ms l
meanings t headings pool l e = let d = demand-2 t headings pool in by d.0 d.1 (subst (Agrees d.0) e d.2)
  where
    by : (m : TableReply) → TableMeans t headings pool m → Agrees m (rows l) → (ms : List Meant) × TableMeans t headings pool (means ms) × RepresentsAll ms l
    by (TableReply.refused_at n k) m x = absurd x
    by (means ms) m x = (ms, m, x)

-- the rows of a walk that is done
done-stores : (t : List ℤ) (headings : List ℕ) (pool : List ℤ) (n : ℕ) → admits t headings pool ≡ answer n
    → (ts : List (List ℤ)) → AllOf (length t) ts → length ts ≡ n
    → (calls (start t headings pool) ts).walk.progress ≡ done → (l : List Row) × (converts (assembled 0 ts) headings pool ≡ rows l)
done-stores t headings pool n p ts all c e =
    let d = ((done_at t headings pool n p ts all).0 e).1 in
    let same : take n ts ≡ ts = ap (λ (i : ℕ). take i ts) (sym c) ∙ take-length ts in
    (d.0, ap (λ (us : List (List ℤ)). converts (assembled 0 us) headings pool) (sym same) ∙ d.1)

pub walk-answered :
    (t : List ℤ) (headings : List ℕ) (pool : List ℤ) (n : ℕ) → admits t headings pool ≡ answer n
    → (ts : List (List ℤ)) → AllOf (length t) ts → length ts ≡ n
    → let s = calls (start t headings pool) ts in
    s.walk.progress ≡ done
    → (x : Answered)
    × (x.table ≡ assembled 0 ts)
    × ((x.headings ≡ length headings / heading_length) × (x.pool ≡ length pool))
    × Standing x.stored s.headings s.pool
walk-answered t headings pool n p ts all c e =
    let a = admitted-gives t (length headings / heading_length) (length pool) n p in
    let (l, stores) = done-stores t headings pool n p ts all c e in
    let m = meanings (assembled 0 ts) (length headings / heading_length) (length pool) l stores in
    let sounds = (outcome-stored (assembled 0 ts) (length headings / heading_length) (length pool) l stores).all_sound in
    let L = lengths_of t headings pool in
    let s = steps-convert t headings pool n p ts all (omega (arith, c, a.some-entry)) (omega (arith, c)) ∙ ap (left L L) stores in (
      record {
        table = assembled 0 ts;
        headings = length headings / heading_length;
        pool = length pool;
        meanings = m.0;
        stored = l;
        means = m.1;
        stores = stores;
      },
      refl,
      (refl, refl),
      subst (λ (x : Left). Standing l x.headings x.pool) (sym s) (left-stands L L l (λ r i. (sounds r i, represented-least m.0 l m.2 r i))),
    )

-- ---- the contract of `convert`

module _ (t : List ℤ) (headings : List ℕ) (pool : List ℤ) (n : ℕ) (p : admits t headings pool ≡ answer n)
    (ts : List (List ℤ)) (all : AllOf (length t) ts) (c : length ts ≡ n) where
  abbrev s : Left
  s = calls (start t headings pool) ts

  -- the lists of a walk of n calls are those that `convert` leaves for the table of these entries: so demand 2 holds of them as it is stated there
  pub walk-left : C.Left (assembled 0 ts) (length headings) (length pool) (answered (converts (assembled 0 ts) headings pool)) s.headings s.pool
  walk-left = let w = whole-converts t headings pool n p ts all c in record { answer = refl; numbers = w.1; cells = w.2 }

  -- a walk that is done is a converted table, with its lists: so demand 3 holds of it, with all laws
  pub walk-converted : s.walk.progress ≡ done
      → (x : C.ConvertedTable) × (x.table ≡ assembled 0 ts) × ((x.headings ≡ s.headings) × (x.pool ≡ s.pool))
  walk-converted e =
      let w = walk-left in
      let l : C.Left (assembled 0 ts) (length headings) (length pool) Converted s.headings s.pool =
      record { answer = sym (ap answered (done-stores t headings pool n p ts all c e).1); numbers = w.numbers; cells = w.cells } in
      let m = converted-means (assembled 0 ts) (length headings) (length pool) s.headings s.pool l in (
        record {
          table = assembled 0 ts;
          h = length headings;
          p = length pool;
          headings = s.headings;
          pool = s.pool;
          left = l;
          meanings = m.0;
          means = m.1;
        },
        refl,
        (refl, refl),
      )
