-- `match_unary::first_number` meets its contract: each kind's own rule.
-- Assumes nothing.
use borrow.Author.Rules.{rules, sfits_of}
use mathlib.Core.Path.{◌≡◌, sym, ◌∙◌, ap, subst}
use Prim.Native.Nat.{◌^◌}
use native.Mathlib.Omega.{arith}
use lib.IntN.{pos, neg_ℤ, ◌+ℤ◌}
use lib.Signed.{◌≤ℤ◌}
use mir.Facts.{to_z-of_z}
use mir.Syntax.{w64}
use mir.Val.{SFits}
use Rattle.integers.proofs.Linear.{ints, ◌∴◌}
use Rattle.integers.proofs.Machine.{plain}
use Rattle.calendar.specs.Meaning.{Row}
use Rattle.calendar.specs.Limits.{label_limit, million}
use Rattle.calendar.specs.Questions.{given}
use Rattle.cursors.specs.Found.{Within}
use Rattle.kinds.specs.declared.Kind.TheVariants.{Renumber}
use Rattle.kinds.specs.Operations.{Numbers}
use Rattle.fill_shared.specs.Fillable.{Fillable}
use Rattle.match_unary.specs.declared.Unary.{Unary}
use Rattle.match_unary.specs.Numbered.{kind_of, number_in}
use Rattle.match_unary.proofs.Single.{sound-first}
use Rattle.match_unary.proofs.Counting.{last_within}
use Rattle.match_unary.proofs.first_number.Goals as goal
use Rattle.match_unary.proofs.first_number.Goals.{In-Group, In-Renumber, In-Shift, Start}

abbrev row : Start → Row
row s = given s.args.period s.args.distance s.args.cells.now

-- ---- group
group-limits : (c : In-Group) → (pos 1 ≤ℤ c.in-Group.x) × (c.in-Group.x ≤ℤ million)
group-limits c = subst (λ (u : Unary). Numbers (kind_of u)) c.in-Group.is c.requires.fillable.numbers

group-fits : (c : In-Group) → SFits w64 c.in-Group.x
group-fits c = search rules

pub ceil_div-requires : goal.ceil_div-requires
ceil_div-requires c =
    let x = group-fits c in
    let h = group-limits (goal.at.ceil_div-requires c).In-Group in
    rw (to_z-of_z x) (h.0 ∴ simp ints (omega arith))

-- ---- shift
last-small : (s : Start) → Within (2 ^ 30) s.args.last
last-small s =
    subst (Within (2 ^ 30)) (sym s.requires.last_value)
    (last_within s.args.by s.args.period s.args.distance s.args.cells.now (sound-first s.args.by _ _ s.requires.fillable.sounds) s.requires.fillable.numbers (pos 0) (simp ints (omega arith)) (simp ints (omega arith)))

shift-limits : (c : In-Shift) → (neg_ℤ label_limit ≤ℤ c.in-Shift.x) × (c.in-Shift.x ≤ℤ label_limit)
shift-limits c = subst (λ (u : Unary). Numbers (kind_of u)) c.in-Shift.is c.requires.fillable.numbers

sum_fits : (c : In-Shift) → SFits w64 (c.args.last +ℤ c.in-Shift.x)
sum_fits c = let h = shift-limits c in h ∴ last-small (goal.at.In-Shift c).Start ∴ simp ints (omega arith)

shift_fits : (c : In-Shift) → SFits w64 c.in-Shift.x
shift_fits c = search rules

pub overflow_add-result : goal.overflow_add-result
overflow_add-result c =
    let x = shift_fits c in
    let j = c.ranges.last in
    rw (to_z-of_z j, to_z-of_z x) (sum_fits (goal.at.overflow_add-result c).In-Shift)

-- ---- renumber
renumber-fits : (c : In-Renumber) → SFits w64 c.in-Renumber.x
renumber-fits c = search rules

renumber-given : (c : In-Renumber) → let s = (goal.at.In-Renumber c).Start in Fillable (Renumber c.in-Renumber.x) (row s) (row s)
renumber-given c = let s = (goal.at.In-Renumber c).Start in subst (λ (u : Unary). Fillable (kind_of u) (row s) (row s)) c.in-Renumber.is s.requires.fillable

pub number_of-requires : goal.number_of-requires
number_of-requires c =
    let s = (goal.at.number_of-requires c).Start in
    let x = renumber-fits c in
    let l = s.ranges.last in
    let p = s.ranges.period in
    let d = s.ranges.distance in
    record { fillable = simp plain (renumber-given (goal.at.number_of-requires c).In-Renumber); last_value = simp plain s.requires.last_value }

-- ---- the answers
answer : (s : Start) (u : Unary) → s.args.by ≡ u → number_in u (row s) s.args.last ≡ number_in s.args.by (row s) s.args.last
answer s u e = sym (ap (λ (v : Unary). number_in v (row s) s.args.last) e)

pub returns-in-Group : goal.returns-in-Group
returns-in-Group c =
    let k = (goal.at.returns-in-Group c).In-Group in
    let s = (goal.at.In-Group k).Start in
    let x = group-fits k in
    let l = s.ranges.last in
    to_z-of_z {w = w64} (sfits_of c.ceil_div.type_inv) ∙ simp plain at c.ceil_div.ensures ∙ answer s _ k.in-Group.is

pub returns-in-Shift : goal.returns-in-Shift
returns-in-Shift c =
    let s = (goal.at.returns-in-Shift c).Start in
    let x = shift_fits c in
    let l = s.ranges.last in
    let f = sum_fits (goal.at.returns-in-Shift c).In-Shift in
    simp plain (answer s _ c.in-Shift.is)

pub returns-in-Renumber : goal.returns-in-Renumber
returns-in-Renumber c =
    let k = (goal.at.returns-in-Renumber c).In-Renumber in
    let s = (goal.at.In-Renumber k).Start in
    let x = renumber-fits k in
    let l = s.ranges.last in
    let p = s.ranges.period in
    let d = s.ranges.distance in
    to_z-of_z {w = w64} (sfits_of c.number_of.type_inv) ∙ simp plain at c.number_of.ensures ∙ answer s _ k.in-Renumber.is
