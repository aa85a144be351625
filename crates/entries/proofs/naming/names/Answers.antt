-- `entries::naming::names` meets its contract: the kind is that of the entry, and the operands are those that it names.
-- Assumes nothing.
use borrow.Author.Rules.{rules}
use Rattle.integers.proofs.Machine.{plain}
use Rattle.entries.proofs.Fields.{Fields}
use Rattle.entries.proofs.Naturals.{cast-natural}
use Rattle.entries.proofs.Seconds.{second_fits, second-low, names-all}
use Rattle.entries.proofs.naming.names.Goals as goal
use Rattle.entries.proofs.naming.names.Goals.{Start}

fields : (c : Start) → Fields c.args.e
fields c = search rules

pub overflow_cast-result : goal.overflow_cast-result
overflow_cast-result c =
    let s = (goal.at.overflow_cast-result c).Start in
    let f = (fields s).first in
    simp plain (cast-natural f s.requires.0)

pub overflow_cast-result-2 : goal.overflow_cast-result-2
overflow_cast-result-2 c =
    let s = (goal.at.overflow_cast-result-2 c).Start in
    let e = c.second_of-second.ensures in
    let k = c.kind_of-kind.result in
    let z = c.second_of-second.result in
    let f = second_fits _ (fields s) k z e in
    simp plain (cast-natural f (second-low _ (fields s) k z e s.requires.0 s.requires.1))

pub returns : goal.returns
returns c k o h =
    let s = (goal.at.returns c).Start in
    names-all _ (fields s) _ _ c.second_of-second.ensures k o h (c.kind_of-kind.ensures k o h)
