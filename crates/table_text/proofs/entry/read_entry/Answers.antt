-- `table_text::entry::read_entry` meets its contract. The loop's invariant: what is left of the line is to be read behind the first k numbers.
-- Assumes nothing.
use mathlib.Core.Path.{◌≡◌, refl, sym, ap, ◌∙◌}
use mathlib.Core.Option.{some}
use mathlib.Core.List.{List}
use Prim.Native.Nat.{ℕ, ◌+◌, ◌-◌, ◌<◌}
use native.Mathlib.Omega.{arith}
use lib.IntN.{ℤ}
use lib.ListN.{length, take, drop, length-take, length-set}
use Rattle.table_text.proofs.Cutting.{rest, rest-start, rest-number, rest-last, rest-bad-number, rest-too-many, answer-value, answer-bad, one-stored, last_stored, number-stored}
use Rattle.table_text.specs.Lines.{line_answer}
use Rattle.table_text.specs.Parse.{number}
use Rattle.table_text.proofs.entry.read_entry.Goals as goal
use Rattle.table_text.proofs.entry.read_entry.Goals.{After-end_of-end, At-loop-k, In_ok-numbers}

-- the line, and the numbers that were read, when the end of the next word was found
abbrev text : After-end_of-end → List ℕ
text e = e.args.line.now

abbrev word : After-end_of-end → List ℕ
word e = take (e.end_of-end.result - e.loop-k.from) (drop e.loop-k.from (text e))

abbrev done : After-end_of-end → List ℤ
done e = take e.loop-k.k e.loop-k.numbers

pub loop-k-init : goal.loop-k-init
loop-k-init c = (omega arith, refl, rest-start c.args.line.now)

pub returns-in_err-numbers : goal.returns-in_err-numbers
returns-in_err-numbers c =
    let e = (goal.at.returns-in_err-numbers c).After-end_of-end in
    let l = (goal.at.After-end_of-end e).At-loop-k in
    ap line_answer c.from_residual.ensures
    ∙ sym (l.loop-k.invariant.2
    ∙ rest-bad-number (done e) (text e) l.loop-k.from e.end_of-end.result e.end_of-end.ensures
    (answer-bad _ (sym c.read_number.ensures ∙ c.in_err-numbers.was)))

-- the number that was read
abbrev at : In_ok-numbers → After-end_of-end
at k = (goal.at.In_ok-numbers k).After-end_of-end

abbrev value : In_ok-numbers → ℤ
value k = k.in_ok-numbers.field-0

reads-value : (k : In_ok-numbers) → number (word (at k)) ≡ some (value k)
reads-value k = answer-value _ (value k) (sym k.read_number.ensures ∙ k.in_ok-numbers.was)

pub returns-then-end-line : goal.returns-then-end-line
returns-then-end-line c =
    let k = (goal.at.returns-then-end-line c).In_ok-numbers in
    let e = at k in
    let l = (goal.at.After-end_of-end e).At-loop-k in
    ap line_answer c.then_some.ensures
    ∙ rw (number-stored (word e) (value k) (reads-value k))
    (last_stored l.loop-k.numbers l.loop-k.k (value k) l.loop-k.invariant.1 (omega arith)
    ∙ sym (l.loop-k.invariant.2
    ∙ rest-last (done e) (text e) l.loop-k.from e.end_of-end.result e.end_of-end.ensures
    (value k) (reads-value k) c.if-end-line.true))

pub loop-k-preserved : goal.loop-k-preserved
loop-k-preserved c =
    let k = (goal.at.loop-k-preserved c).In_ok-numbers in
    let e = at k in
    let l = (goal.at.After-end_of-end e).At-loop-k in
    let i = e.end_of-end.ensures.inside in
    let h : e.end_of-end.result < length (text e) = omega arith in
    rw (number-stored (word e) (value k) (reads-value k)) (
      omega arith,
      length-set l.loop-k.numbers l.loop-k.k (value k) ∙ l.loop-k.invariant.1,
      l.loop-k.invariant.2
          ∙ rest-number (done e) (text e) l.loop-k.from e.end_of-end.result e.end_of-end.ensures (value k) (reads-value k) h
          ∙ ap (λ (a : List ℤ). rest a (drop (e.end_of-end.result + 1) (text e)))
          (sym (one-stored l.loop-k.numbers l.loop-k.k (value k) l.loop-k.invariant.1 (omega arith))),
    )

pub returns : goal.returns
returns c =
    let l = (goal.at.returns c).At-loop-k in
    sym (l.loop-k.invariant.2
    ∙ rest-too-many (take l.loop-k.k l.loop-k.numbers) (drop l.loop-k.from l.args.line.now)
    (omega (arith, length-take l.loop-k.k l.loop-k.numbers)))
