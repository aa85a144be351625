-- `entries::naming::kind_of` meets its contract: each arm makes the kind of its number.
-- Assumes nothing.
use mathlib.Core.Path.{refl}
use borrow.Author.Rules.{rules}
use Rattle.entries.proofs.Fields.{Fields}
use Rattle.entries.proofs.Passing.{passed}
use Rattle.entries.proofs.Arms.{number_at, widened_is, last-number, bottom-kind, group-kind, shift-kind, alter-kind, combine-kind, anchor-kind, down-kind, up-kind, intersecting-kind, union-kind, intersection-kind, difference-kind, renumber-kind}
use Rattle.entries.proofs.naming.kind_of.Goals as goal
use Rattle.entries.proofs.naming.kind_of.Goals.{Start}

fields : (c : Start) → Fields c.args.e
fields c = search rules

pub returns-in-0 : goal.returns-in-0
returns-in-0 c k o h = bottom-kind k _ o h (number_at _ 0 (fields (goal.at.returns-in-0 c).Start).kind refl c.in-0.in-0-own.keys1)

pub returns-in-1 : goal.returns-in-1
returns-in-1 c k o h =
    let f = fields (goal.at.returns-in-1 c).Start in
    group-kind k _ o h _ (widened_is _ _ f.x c.from.ensures) (number_at _ 1 f.kind refl c.in-1.in-1-own.keys2)

pub returns-in-2 : goal.returns-in-2
returns-in-2 c k o h =
    let f = fields (goal.at.returns-in-2 c).Start in
    shift-kind k _ o h _ (widened_is _ _ f.x c.from-in-2.ensures) (number_at _ 2 f.kind refl c.in-2.in-2-own.keys3)

pub returns-in-3 : goal.returns-in-3
returns-in-3 c k o h =
    let a = c.alteration_of.ensures in
    alter-kind k _ o h _ a.0 a.1 a.2 (number_at _ 3 (fields (goal.at.returns-in-3 c).Start).kind refl c.in-3.in-3-own.keys4)

pub returns-in-4 : goal.returns-in-4
returns-in-4 c k o h = combine-kind k _ o h (number_at _ 4 (fields (goal.at.returns-in-4 c).Start).kind refl c.in-4.in-4-own.keys5)

pub returns-in-5 : goal.returns-in-5
returns-in-5 c k o h = anchor-kind k _ o h (number_at _ 5 (fields (goal.at.returns-in-5 c).Start).kind refl c.in-5.in-5-own.keys6)

pub returns-in-6 : goal.returns-in-6
returns-in-6 c k o h =
    let p = c.pick_of.ensures in
    down-kind k _ o h _ p.0 p.1 (number_at _ 6 (fields (goal.at.returns-in-6 c).Start).kind refl c.in-6.in-6-own.keys7)

pub returns-in-7 : goal.returns-in-7
returns-in-7 c k o h = up-kind k _ o h (number_at _ 7 (fields (goal.at.returns-in-7 c).Start).kind refl c.in-7.in-7-own.keys8)

pub returns-in-8 : goal.returns-in-8
returns-in-8 c k o h =
    let p = c.pick_of-in-8.ensures in
    intersecting-kind k _ o h _ p.0 p.1 (number_at _ 8 (fields (goal.at.returns-in-8 c).Start).kind refl c.in-8.in-8-own.keys9)

pub returns-in-9 : goal.returns-in-9
returns-in-9 c k o h = union-kind k _ o h (number_at _ 9 (fields (goal.at.returns-in-9 c).Start).kind refl c.in-9.in-9-own.keys10)

pub returns-in-10 : goal.returns-in-10
returns-in-10 c k o h = intersection-kind k _ o h (number_at _ 10 (fields (goal.at.returns-in-10 c).Start).kind refl c.in-10.in-10-own.keys11)

pub returns-in-11 : goal.returns-in-11
returns-in-11 c k o h = difference-kind k _ o h (number_at _ 11 (fields (goal.at.returns-in-11 c).Start).kind refl c.in-11.in-11-own.keys12)

pub returns-in_default : goal.returns-in_default
returns-in_default c k o h =
    let f = fields (goal.at.returns-in_default c).Start in
    let p = passed k _ o h in
    let r = c.in_default.in_default-own.rest in
    renumber-kind k _ o h _ (widened_is _ _ f.x c.from-in_default.ensures)
    (last-number _ p.low p.high
    r.0.0.0.0.0.0.0.0.0.0.0.1 r.0.0.0.0.0.0.0.0.0.0.1 r.0.0.0.0.0.0.0.0.0.1 r.0.0.0.0.0.0.0.0.1
    r.0.0.0.0.0.0.0.1 r.0.0.0.0.0.0.1 r.0.0.0.0.0.1 r.0.0.0.0.1 r.0.0.0.1 r.0.0.1 r.0.1 r.1)
