-- `table_text::table::read_lines` meets its contract. The loop's invariant: the lines before `from` have been read, and their numbers stand in the table.
-- Assumes nothing.
use mathlib.Core.Path.{◌≡◌, sym, ap, ◌∙◌}
use mathlib.Core.Option.{some}
use mathlib.Core.List.{List}
use Prim.Native.Nat.{ℕ, ◌+◌, ◌-◌, ◌≤◌, ◌<◌}
use native.Mathlib.Omega.{arith}
use lib.IntN.{pos}
use lib.ListN.{length, take, drop, replicate}
use Rattle.table_text.proofs.Gathering.{gathered-length, gathered-all, gathered-bad, gathered-more, gathered-long, bad-line, open-line, entry_length}
use Rattle.table_text.specs.Lines.{line_answer}
use Rattle.table_text.specs.Parse.{entry_of}
use Rattle.table_text.proofs.table.read_lines.Goals as goal
use Rattle.table_text.proofs.table.read_lines.Goals.{After-end_of-end, At-loop-from, Else-end-text, In-Some}

-- the text, the numbers lent, and the room for those that are read
abbrev input : At-loop-from → List ℕ
input l = l.args.text.now

abbrev lent : At-loop-from → ℕ
lent l = length l.args.table.now

room : (l : At-loop-from) → l.loop-from.at ≤ lent l
room l = let g = l.loop-from.invariant in let a = g.room in let b = g.inside in let p = l.requires in omega arith

kept : (l : At-loop-from) → length l.loop-from.table ≡ lent l
kept l = gathered-length l.loop-from.invariant (room l)

abbrev loop-of : After-end_of-end → At-loop-from
loop-of e = (goal.at.After-end_of-end e).At-loop-from

ended : (e : Else-end-text) → e.end_of-end.result < length (input (loop-of (goal.at.Else-end-text e).After-end_of-end))
ended e = let i = e.end_of-end.ensures.inside in omega arith

-- the numbers of a good line
abbrev of : In-Some → After-end_of-end
of k = (goal.at.In-Some k).After-end_of-end

good : (k : In-Some) → let l = loop-of (of k) in entry_of (take (k.end_of-end.result - l.loop-from.from) (drop l.loop-from.from (input l))) ≡ some k.in-Some.numbers
good k = sym k.read_entry.ensures ∙ ap line_answer k.in-Some.is

six-more : (k : In-Some) → let l = loop-of (of k) in l.loop-from.at + 6 ≤ lent l
six-more k =
    let e = of k in
    let l = loop-of e in
    let g = gathered-long l.loop-from.invariant e.end_of-end.result e.end_of-end.ensures (ended (goal.at.In-Some k).Else-end-text) k.in-Some.numbers (good k) in
    let p = l.requires in
    omega arith

pub returns-then-end-text : goal.returns-then-end-text
returns-then-end-text c =
    let e = (goal.at.returns-then-end-text c).After-end_of-end in
    let l = loop-of e in
    gathered-bad l.loop-from.invariant (open-line (input l) l.loop-from.from e.end_of-end.result e.end_of-end.ensures l.loop-from.number e.loop-from-test.true c.if-end-text.true)
    c.clear.new.table (c.clear.ensures ∙ ap (λ (n : ℕ). replicate n (pos 0)) (kept l))

pub returns-in_default : goal.returns-in_default
returns-in_default c =
    let e = (goal.at.returns-in_default c).After-end_of-end in
    let l = loop-of e in
    gathered-bad l.loop-from.invariant
    (bad-line (input l) l.loop-from.from e.end_of-end.result e.end_of-end.ensures l.loop-from.number (ended (goal.at.returns-in_default c).Else-end-text) (sym c.read_entry.ensures ∙ ap line_answer c.in_default.is))
    c.clear-in_default.new.table (c.clear-in_default.ensures ∙ ap (λ (n : ℕ). replicate n (pos 0)) (kept l))

pub put-requires : goal.put-requires
put-requires c =
    let k = (goal.at.put-requires c).In-Some in
    (let h = six-more k in omega (arith, kept (loop-of (of k))), (entry_length _ _ (good k)).0)

pub loop-from-preserved : goal.loop-from-preserved
loop-from-preserved c =
    let k = (goal.at.loop-from-preserved c).In-Some in
    let e = of k in
    let l = loop-of e in
    rw c.put.ensures (gathered-more l.loop-from.invariant e.end_of-end.result e.end_of-end.ensures (ended (goal.at.In-Some k).Else-end-text) k.in-Some.numbers (good k) (six-more k))

pub returns : goal.returns
returns c = gathered-all c.loop-from.invariant c.loop-from-test.false
