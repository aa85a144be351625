-- `match_unary::next_counted` meets its contract: the label is the last one again, or the next.
-- Assumes nothing.
use borrow.Author.Rules.{rules, sfits_of}
use mathlib.Core.Path.{◌≡◌, sym, ◌∙◌, ap}
use mathlib.Core.Logic.{◌↔◌}
use mathlib.Core.Option.{some}
use mir.Facts.{to_z-of_z}
use mir.Syntax.{w64}
use mir.Val.{SFits, of_z}
use Rattle.integers.proofs.Machine.{plain, test-eq}
use Rattle.cursors.specs.Found.{found}
use Rattle.match_unary.proofs.Counting.{counts_past, counts_same, counts-next}
use Rattle.match_unary.proofs.next_counted.Goals as goal
use Rattle.match_unary.proofs.next_counted.Goals.{After-struct_told-1, In-Some, Start}

-- the label, and the last one before it
abbrev start : After-struct_told-1 → Start
start c = (goal.at.After-struct_told-1 c).Start

label_is : (c : After-struct_told-1) → let l = (goal.at.After-struct_told-1 c).In-Some in found (start c).args.label ≡ some l.in-Some.j
label_is c = ap found c.in-Some.is

label-fits : (c : After-struct_told-1) → SFits w64 c.in-Some.j
label-fits c = search rules

is_last : (c : After-struct_told-1) → let j = c.in-Some.j in
    (of_z w64 j ≡ of_z w64 (start c).args.k.last) ↔ (j ≡ (start c).args.k.last)
is_last c = test-eq w64 _ _ (label-fits c) (search rules)

pub next_number-requires : goal.next_number-requires
next_number-requires c =
    let d = (goal.at.next_number-requires c).After-struct_told-1 in
    let s = start d in
    let j = label-fits d in
    let n : SFits w64 s.args.k.number = search rules in
    record { numbers = s.requires.numbers; within = simp plain s.requires.within; within_2 = simp plain (s.requires.within_2 _ (label_is d)) }

pub returns-then-j-k : goal.returns-then-j-k
returns-then-j-k c a t v k e = let d = (goal.at.returns-then-j-k c).After-struct_told-1 in counts_same v k _ (sym e ∙ label_is d) ((is_last d).0 c.if-j-k.true)

pub returns-else-j-k : goal.returns-else-j-k
returns-else-j-k c a t v k e =
    let d = (goal.at.returns-else-j-k c).After-struct_told-1 in
    let s = start d in
    let j = label-fits d in
    let n : SFits w64 s.args.k.number = search rules in
    rw (to_z-of_z j, to_z-of_z {w = w64} (sfits_of c.next_number.type_inv))
    (counts-next v k _ _ (sym e ∙ label_is d) (λ q. c.if-j-k.false ((is_last d).1 q)) (simp plain at c.next_number.ensures))

pub returns-in-None : goal.returns-in-None
returns-in-None c a t v k e = counts_past v k (sym e ∙ ap found c.in-None.is)
