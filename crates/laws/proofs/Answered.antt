-- A table that stores rows is answered, and each of its rows stands for the calendar of its entry.
use mathlib.Core.Path.{◌≡◌, subst}
use mathlib.Core.List.{List}
use Prim.Native.Nat.{ℕ, ◌<◌}
use native.Mathlib.Omega.{arith}
use lib.IntN.{ℤ}
use lib.ListN.{length, get_or}
use Rattle.calendar.specs.Meaning.{Row}
use Rattle.calendar.specs.Outcome.{outcome}
use Rattle.calendar.specs.Outcome.Outcome.{rows}
use Rattle.algebra.specs.TableMeaning.{Meant, nothing, TableReply, TableMeans}
use Rattle.algebra.specs.TableMeaning.TableReply.{refused_at, means}
use Rattle.algebra.specs.Represents.{Represents}
use Rattle.algebra.specs.Agrees.{RepresentsAll, Agrees}
use Rattle.algebra.proofs.Demand2.{demand-2, demand-2-only, represents-length, represents-at}
use Rattle.laws.specs.Matches.{row_at}
use Rattle.laws.specs.Answered.{Answered}

stored-all : (x : Answered) → RepresentsAll x.meanings x.stored
stored-all x = subst (Agrees (means x.meanings)) x.stores (demand-2-only x.table x.headings x.pool (means x.meanings) x.means)

pub stored-length : (x : Answered) → length x.meanings ≡ length x.stored
stored-length x = represents-length x.meanings x.stored (stored-all x)

pub stored-represents : (x : Answered) (k : ℕ) → k < length x.meanings → Represents (get_or x.meanings k nothing) (row_at x.stored k)
stored-represents x k h = let e = stored-length x in represents-at x.meanings x.stored (stored-all x) k (omega arith)

-- what the entries of a table that stores rows mean
pub stored-means : (t : List ℤ) (headings pool : ℕ) (l : List Row) → outcome t headings pool ≡ rows l → (ms : List Meant) × TableMeans t headings pool (means ms)
stored-means t headings pool l e =
    let d = demand-2 t headings pool in
    by d.0 d.1 (subst (Agrees d.0) e d.2)
  where
    by : (m : TableReply) → TableMeans t headings pool m → Agrees m (rows l) → (ms : List Meant) × TableMeans t headings pool (means ms)
    by (refused_at n k) h a = absurd a
    by (means ms) h a = (ms, h)

abbrev pub answered : (t : List ℤ) (headings pool : ℕ) (l : List Row) → outcome t headings pool ≡ rows l → Answered
answered t headings pool l e =
    let (ms, h) = stored-means t headings pool l e in
    record { table = t; headings = headings; pool = pool; meanings = ms; stored = l; means = h; stores = e }
