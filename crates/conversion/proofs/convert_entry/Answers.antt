-- `conversion::convert_entry` meets its contract: an entry that checks 4, 5 and 6 refuse is refused; the row of any other is entered, or refused, as its operation is.
-- Assumes nothing.
use Rattle.std.proofs.lemmas.Result.{err_from_is_err_and}
use Rattle.entries.specs.declared.Named.{Named}
use Rattle.calendar.specs.declared.Refusal.{Refusal}
use Rattle.std.specs.Prelude.{Result}
use mathlib.Core.Path.{subst}
use Prim.Native.Nat.{ℕ}
use borrow.Author.Rules.{rules}
use Rattle.calendar.specs.Table as Table
use Rattle.entries.specs.Entries.{entry_of}
use Rattle.entries.specs.Naming.{Reads}
use Rattle.entries.specs.declared.Entry.{Entry}
use Rattle.conversion.proofs.Behind.{entered, refused-named}
use Rattle.conversion.proofs.convert_entry.Goals as goal

-- what is read of the entry
abbrev Says : ℕ → Entry → Result Named Refusal → Type 0
Says k e x = Reads k (Table.named k (entry_of e)) x

pub enter_named-requires : goal.enter_named-requires
enter_named-requires c =
    let n = subst (Says c.args.k c.entry_at-e.result) c.in_ok-named.was c.read.ensures in
    record {
      rows = c.requires.rows;
      names = (n.0, n.2);
      has-heading = c.requires.has-heading;
      at-most = c.requires.at-most;
    }

pub returns-in_err-named : goal.returns-in_err-named
returns-in_err-named c =
    let a = c.args in record {
      lengths = (search rules, search rules);
      entered = let p = err_from_is_err_and c.from_residual.result c.from_residual.ensures.1 in rw (p.1, p.2) (λ l many t. refused-named a.table.now a.k a.used l a.headings.now a.pool.now _ _ many t c.entry_at-e.ensures
          (subst (Says a.k c.entry_at-e.result) c.in_err-named.was c.read.ensures));
    }

pub returns : goal.returns
returns c =
    let a = c.args in
    let x = subst (Says a.k c.entry_at-e.result) c.in_ok-named.was c.read.ensures in
    let same = c.enter_named.auto.pool in record {
      lengths = (c.enter_named.auto.headings, same);
      entered = (λ l many t. entered a.table.now a.k a.used l a.headings.now _ a.pool.now _ _ x.0 c.enter_named.result many t c.requires.has-heading c.requires.at-most
          c.entry_at-e.ensures x.1 same (c.enter_named.ensures.became l x.0 many t x.2));
    }
