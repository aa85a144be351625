-- `match_unary::next_number` meets its contract: each kind's own rule.
-- Assumes nothing.
use borrow.Author.Rules.{rules, sfits_of}
use mathlib.Core.Path.{sym, ◌∙◌, ap, subst}
use native.Mathlib.Omega.{arith}
use lib.IntN.{pos, neg_ℤ, ◌+ℤ◌}
use lib.Signed.{◌≤ℤ◌}
use mir.Facts.{to_z-of_z}
use mir.Syntax.{w64}
use mir.Val.{SFits}
use Rattle.integers.proofs.Linear.{ints, ◌∴◌}
use Rattle.integers.proofs.Machine.{plain}
use Rattle.calendar.specs.Limits.{label_limit, million}
use Rattle.kinds.specs.Operations.{Numbers}
use Rattle.match_unary.specs.declared.Unary.{Unary}
use Rattle.match_unary.specs.Numbered.{kind_of, next_number}
use Rattle.match_unary.proofs.next_number.Goals as goal
use Rattle.match_unary.proofs.next_number.Goals.{In-Group, In-Shift, Start}

-- ---- group
group-limits : (c : In-Group) → (pos 1 ≤ℤ c.in-Group.x) × (c.in-Group.x ≤ℤ million)
group-limits c = subst (λ (u : Unary). Numbers (kind_of u)) c.in-Group.is c.requires.numbers

group-fits : (c : In-Group) → SFits w64 c.in-Group.x
group-fits c = search rules

pub ceil_div-requires : goal.ceil_div-requires
ceil_div-requires c =
    let x = group-fits c in
    let h = group-limits (goal.at.ceil_div-requires c).In-Group in
    rw (to_z-of_z x) (h.0 ∴ simp ints (omega arith))

-- ---- shift
shift-limits : (c : In-Shift) → (neg_ℤ label_limit ≤ℤ c.in-Shift.x) × (c.in-Shift.x ≤ℤ label_limit)
shift-limits c = subst (λ (u : Unary). Numbers (kind_of u)) c.in-Shift.is c.requires.numbers

sum_fits : (c : In-Shift) → SFits w64 (c.args.j +ℤ c.in-Shift.x)
sum_fits c = let h = shift-limits c in h ∴ c.requires.within_2 ∴ simp ints (omega arith)

shift_fits : (c : In-Shift) → SFits w64 c.in-Shift.x
shift_fits c = search rules

pub overflow_add-result : goal.overflow_add-result
overflow_add-result c =
    let x = shift_fits c in
    let j = c.ranges.j in
    rw (to_z-of_z j, to_z-of_z x) (sum_fits (goal.at.overflow_add-result c).In-Shift)

-- ---- renumber
more-fits : (s : Start) → SFits w64 (s.args.number +ℤ pos 1)
more-fits s = s.requires.within ∴ simp ints (omega arith)

pub overflow_add-result-in-Renumber : goal.overflow_add-result-in-Renumber
overflow_add-result-in-Renumber c =
    let s = (goal.at.overflow_add-result-in-Renumber c).Start in
    let n = s.ranges.number in
    rw (to_z-of_z n) (more-fits s)

pub returns-in-Group : goal.returns-in-Group
returns-in-Group c =
    let k = (goal.at.returns-in-Group c).In-Group in
    let s = (goal.at.In-Group k).Start in
    let x = group-fits k in
    let j = s.ranges.j in
    to_z-of_z {w = w64} (sfits_of c.ceil_div.type_inv) ∙ simp plain at c.ceil_div.ensures ∙ sym (ap (λ (u : Unary). next_number u s.args.number s.args.j) k.in-Group.is)

pub returns-in-Shift : goal.returns-in-Shift
returns-in-Shift c =
    let s = (goal.at.returns-in-Shift c).Start in
    let x = shift_fits c in
    let j = s.ranges.j in
    let f = sum_fits (goal.at.returns-in-Shift c).In-Shift in
    simp plain (sym (ap (λ (u : Unary). next_number u s.args.number s.args.j) c.in-Shift.is))

pub returns-in-Renumber : goal.returns-in-Renumber
returns-in-Renumber c =
    let s = (goal.at.returns-in-Renumber c).Start in
    let n = s.ranges.number in
    let f = more-fits s in
    simp plain (sym (ap (λ (u : Unary). next_number u s.args.number s.args.j) c.in-Renumber.is))
