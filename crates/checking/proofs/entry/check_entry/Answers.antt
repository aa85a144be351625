-- `checking::entry::check_entry` meets its contract: an entry that checks 4, 5 and 6 refuse is refused; any other is checked as its operation is.
-- Assumes nothing.
use Rattle.std.proofs.lemmas.Result.{err_from_is_err_and}
use Rattle.entries.specs.declared.Named.{Named}
use Rattle.calendar.specs.declared.Refusal.{Refusal}
use Rattle.std.specs.Prelude.{Result}
use mathlib.Core.Path.{sym, ◌∙◌, ap, subst}
use Prim.Native.Nat.{ℕ, ◌-◌}
use lib.ListN.{length}
use Rattle.calendar.specs.Meaning.{Row}
use Rattle.calendar.specs.Operation.{Operation}
use Rattle.calendar.specs.Reply.{Reply, and_then}
use Rattle.calendar.specs.Table as Table
use Rattle.calendar.specs.Outcome.{converted, at_rows}
use Rattle.entries.specs.Entries.{entry_of}
use Rattle.entries.specs.Naming.{Reads}
use Rattle.checking.specs.Claims.{Judges}
use Rattle.checking.proofs.Judging.{read-judged}
use Rattle.checking.proofs.entry.check_entry.Goals as goal
use Rattle.checking.proofs.entry.check_entry.Goals.{After-read, Start}

-- what is read of the entry
abbrev Says : After-read → Result Named Refusal → Type 0
Says c x = Reads c.args.k (Table.named c.args.k (entry_of c.entry_at-e.result)) x

pub check_named-requires : goal.check_named-requires
check_named-requires c =
    let r = (goal.at.check_named-requires c).After-read in
    let s = (goal.at.After-read r).Start in
    let n = subst (Says r) c.in_ok-named.was r.read.ensures in
    record {
      rows = s.requires.rows;
      names = (n.0, n.2);
      has-heading = s.requires.has-heading;
      at-most = s.requires.at-most;
    }

pub returns-in_err-named : goal.returns-in_err-named
returns-in_err-named c =
    let r = (goal.at.returns-in_err-named c).After-read in
    let s = (goal.at.After-read r).Start in
    let a = s.args in
    let p = err_from_is_err_and c.from_residual.result c.from_residual.ensures.1 in rw (p.1, p.2)
    (λ l many t.
    read-judged l a.k (length a.pool.now - a.used) a.table.now (entry_of r.entry_at-e.result) many r.entry_at-e.ensures
    ∙ ap (λ (x : Reply (Operation ℕ)). and_then x (λ o. converted (at_rows l o) (length a.pool.now - a.used)))
    (subst (Says r) c.in_err-named.was r.read.ensures))

pub returns : goal.returns
returns c =
    let r = (goal.at.returns c).After-read in
    let s = (goal.at.After-read r).Start in
    let a = s.args in
    let n = subst (Says r) c.in_ok-named.was r.read.ensures in
    λ l many t.
    let e =
    read-judged l a.k (length a.pool.now - a.used) a.table.now (entry_of r.entry_at-e.result) many r.entry_at-e.ensures
    ∙ ap (λ (x : Reply (Operation ℕ)). and_then x (λ o. converted (at_rows l o) (length a.pool.now - a.used))) n.1 in
    subst (λ (x : Reply Row). Judges a.k a.used a.headings.now a.pool.now x c.check_named.result) (sym e)
    (c.check_named.ensures l n.0 many t n.2)
