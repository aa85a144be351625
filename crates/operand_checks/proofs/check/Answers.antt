-- `operand_checks::check` meets its contract: each kind is checked as its `..-is` law says.
-- Assumes nothing.
use mathlib.Core.Path.{◌≡◌, sym, ◌∙◌, ap, ap₂, subst}
use mathlib.Core.Bool.{true}
use mathlib.Core.List.{List}
use native.Mathlib.Omega.{arith}
use borrow.Author.Rules.{sfits_of}
use lib.IntN.{ℤ, pos}
use mir.Facts.{to_z-of_z}
use mir.Syntax.{w64}
use mir.Val.{SFits, of_z, to_z}
use Rattle.integers.specs.Parts.{up}
use Rattle.integers.proofs.Linear.{ints, ◌∴◌}
use Rattle.integers.proofs.Machine.{plain}
use Rattle.calendar.specs.Meaning.{Row}
use Rattle.calendar.specs.Operation.{Alignment}
use Rattle.calendar.specs.Operation.Alignment.{subcalendar, compatible}
use Rattle.calendar.specs.Granules.{granules}
use Rattle.calendar.specs.Checks.{full_operands}
use Rattle.calendar.specs.Questions.{given}
use Rattle.calendar.specs.Reply.{Reply}
use Rattle.cursors.proofs.Numbers.{numbers}
use Rattle.alignment.proofs.Rising.{limited}
use Rattle.kinds.specs.declared.Kind.{Kind}
use Rattle.kinds.specs.Operations.{operation_of, operands, Numbers, SoundFirst}
use Rattle.operand_checks.specs.declared.Extent.{Extent}
use Rattle.operand_checks.specs.Admission.{admission}
use Rattle.operand_checks.specs.Shared.{whole_turn, fitted, spanned}
use Rattle.operand_checks.proofs.Replies.{bottom-is, shift_is, renumber-is, group-is, combine-is, select-is, by-labels-is, anchor-is, alter-full}
use Rattle.operand_checks.proofs.check.Goals as goal
use Rattle.operand_checks.proofs.check.Goals.{After-granules, In-Group, Start}

-- the operands
abbrev row-a : Start → Row
row-a s = given s.args.a_period s.args.a_distance s.args.a_cells.now

abbrev row-b : Start → Row
row-b s = given s.args.b_period s.args.b_distance s.args.b_cells.now

-- what is to be answered, and what is known of the operands, by the kind
abbrev answered : Start → Kind → Reply Extent
answered s k = admission (operation_of k (row-a s) (row-b s)) (up s.args.room)

sounds : (s : Start) {k : Kind} → s.args.kind ≡ k → SoundFirst (operands k) (row-a s) (row-b s)
sounds s e = subst (λ (k : Kind). SoundFirst (operands k) (row-a s) (row-b s)) e s.requires.sound_first

fulls : (s : Start) {k : Kind} → s.args.kind ≡ k → full_operands (operation_of k (row-a s) (row-b s)) ≡ true
fulls s e = subst (λ (k : Kind). full_operands (operation_of k (row-a s) (row-b s)) ≡ true) e s.requires.b_cells_value

limits : (s : Start) {k : Kind} → s.args.kind ≡ k → Numbers k
limits s e = subst Numbers e s.requires.numbers

x_fits : (c : In-Group) → SFits w64 c.in-Group.x
x_fits c = let l = limits (goal.at.In-Group c).Start c.in-Group.is in l.0 ∴ l.1 ∴ simp ints (omega arith)

pub grouped-requires : goal.grouped-requires
grouped-requires c =
    let s = (goal.at.grouped-requires c).Start in
    let e = c.in-Group.is in
    let x = x_fits c in
    let r = s.ranges.room in
    let p = s.ranges.a_period in
    let n = s.ranges.a_distance in
    record { pos_bound = simp plain (limits s e).0; room = simp plain s.requires.pos_bound; limited = simp plain (limited _ _ _ (sounds s e).0) }

pub granules-requires : goal.granules-requires
granules-requires c =
    let s = (goal.at.granules-requires c).Start in
    let r = s.ranges.room in
    let p = s.ranges.a_period in
    let n = s.ranges.a_distance in
    simp plain (sounds s c.in-Renumber.is).0

pub alter-requires : goal.alter-requires
alter-requires c =
    let s = (goal.at.alter-requires c).Start in
    let e = c.in-Alter.is in
    let r = s.ranges.room in
    let p = s.ranges.a_period in
    let n = s.ranges.a_distance in
    let q = s.ranges.b_period in
    let m = s.ranges.b_distance in
    let f = alter-full (row-a s) (row-b s) (up s.args.room) _ _ _ (fulls s e) in
    record { limits = limits s e; room = simp plain s.requires.pos_bound; sound = simp plain (sounds s e).0; sound_2 = simp plain (sounds s e).1; a_cells_value = simp plain f.0; b_cells_value = simp plain f.1 }

pub spanned-requires : goal.spanned-requires
spanned-requires c =
    let s = (goal.at.spanned-requires c).Start in
    let e = c.in-Combine.is in
    let r = s.ranges.room in
    let p = s.ranges.a_period in
    let n = s.ranges.a_distance in
    let q = s.ranges.b_period in
    let m = s.ranges.b_distance in
    record { sound = simp plain (sounds s e).0; sound_2 = simp plain (sounds s e).1; room = simp plain s.requires.pos_bound }

pub spanned-requires-in-Select : goal.spanned-requires-in-Select
spanned-requires-in-Select c =
    let s = (goal.at.spanned-requires-in-Select c).Start in
    let e = c.in-Select.is in
    let r = s.ranges.room in
    let p = s.ranges.a_period in
    let n = s.ranges.a_distance in
    let q = s.ranges.b_period in
    let m = s.ranges.b_distance in
    record { sound = simp plain (sounds s e).0; sound_2 = simp plain (sounds s e).1; room = simp plain s.requires.pos_bound }

pub spanned-requires-in-Anchor : goal.spanned-requires-in-Anchor
spanned-requires-in-Anchor c =
    let s = (goal.at.spanned-requires-in-Anchor c).Start in
    let e = c.in-Anchor.is in
    let r = s.ranges.room in
    let p = s.ranges.a_period in
    let n = s.ranges.a_distance in
    let q = s.ranges.b_period in
    let m = s.ranges.b_distance in
    record { sound = simp plain (sounds s e).0; sound_2 = simp plain (sounds s e).1; room = simp plain s.requires.pos_bound }

pub spanned-requires-in-ByLabels : goal.spanned-requires-in-ByLabels
spanned-requires-in-ByLabels c =
    let s = (goal.at.spanned-requires-in-ByLabels c).Start in
    let e = c.in-ByLabels.is in
    let r = s.ranges.room in
    let p = s.ranges.a_period in
    let n = s.ranges.a_distance in
    let q = s.ranges.b_period in
    let m = s.ranges.b_distance in
    record { sound = simp plain (sounds s e).0; sound_2 = simp plain (sounds s e).1; room = simp plain s.requires.pos_bound }

pub returns-in-Bottom : goal.returns-in-Bottom
returns-in-Bottom c =
    let s = (goal.at.returns-in-Bottom c).Start in
    let r = s.ranges.room in
    simp plain at c.whole.ensures ∙ sym (bottom-is (up s.args.room)) ∙ ap (answered s) (sym c.in-Bottom.is)

pub returns-in-Group : goal.returns-in-Group
returns-in-Group c =
    let s = (goal.at.returns-in-Group c).Start in
    let x = x_fits (goal.at.returns-in-Group c).In-Group in
    let r = s.ranges.room in
    let p = s.ranges.a_period in
    let n = s.ranges.a_distance in
    let e = c.in-Group.is in
    simp plain at c.grouped.ensures ∙ sym (group-is _ (row-a s) (up s.args.room) (fulls s e)) ∙ ap (answered s) (sym e)

pub returns-in-Shift : goal.returns-in-Shift
returns-in-Shift c =
    let s = (goal.at.returns-in-Shift c).Start in
    let e = c.in-Shift.is in
    let l = numbers s.args.a_period s.args.a_distance s.args.a_cells.now (sounds s e).0 in
    let r = s.ranges.room in
    let p = s.ranges.a_period in
    let n = s.ranges.a_distance in
    simp plain at c.whole-in-Shift.ensures
    ∙ ap₂ (λ (p n : ℤ). fitted (whole_turn p n) (up s.args.room)) l.period-is l.distance_is
    ∙ sym (shift_is _ (row-a s) (up s.args.room))
    ∙ ap (answered s) (sym e)

pub returns-in-Renumber : goal.returns-in-Renumber
returns-in-Renumber c =
    let g = (goal.at.returns-in-Renumber c).After-granules in
    let s = (goal.at.After-granules g).Start in
    let e = g.in-Renumber.is in
    let l = numbers s.args.a_period s.args.a_distance s.args.a_cells.now (sounds s e).0 in
    let f : SFits w64 g.granules.result = sfits_of g.granules.type_inv in
    let r = s.ranges.room in
    let p = s.ranges.a_period in
    let n = s.ranges.a_distance in
    let h : g.granules.result ≡ pos (granules (row-a s)) = simp plain at g.granules.ensures in
    simp plain at c.whole-in-Renumber.ensures
    ∙ ap₂ (λ (p n : ℤ). fitted (whole_turn p n) (up s.args.room)) l.period-is h
    ∙ sym (renumber-is _ (row-a s) (up s.args.room))
    ∙ ap (answered s) (sym e)

pub returns-in-Alter : goal.returns-in-Alter
returns-in-Alter c =
    let s = (goal.at.returns-in-Alter c).Start in
    let r = s.ranges.room in
    let p = s.ranges.a_period in
    let n = s.ranges.a_distance in
    let q = s.ranges.b_period in
    let m = s.ranges.b_distance in
    simp plain at c.alter.ensures ∙ ap (answered s) (sym c.in-Alter.is)

pub returns-in-Combine : goal.returns-in-Combine
returns-in-Combine c =
    let s = (goal.at.returns-in-Combine c).Start in
    let r = s.ranges.room in
    let p = s.ranges.a_period in
    let n = s.ranges.a_distance in
    let q = s.ranges.b_period in
    let m = s.ranges.b_distance in
    simp plain at c.spanned.ensures ∙ sym (combine-is (row-a s) (row-b s) (up s.args.room)) ∙ ap (answered s) (sym c.in-Combine.is)

pub returns-in-Select : goal.returns-in-Select
returns-in-Select c =
    let s = (goal.at.returns-in-Select c).Start in
    let r = s.ranges.room in
    let p = s.ranges.a_period in
    let n = s.ranges.a_distance in
    let q = s.ranges.b_period in
    let m = s.ranges.b_distance in
    simp plain at c.spanned-in-Select.ensures ∙ sym (select-is (row-a s) (row-b s) (up s.args.room) _) ∙ ap (answered s) (sym c.in-Select.is)

-- the operands and the room of a call, whose numbers come back from their bits as they were
row-read : (p n : ℤ) (cells : List ℤ) → SFits w64 p → SFits w64 n
    → given (to_z w64 (of_z w64 p)) (to_z w64 (of_z w64 n)) cells ≡ given p n cells
row-read p n cells f g = ap₂ (λ (x y : ℤ). given x y cells) (to_z-of_z f) (to_z-of_z g)

spanned-read : (k : Alignment) (r p n q m : ℤ) (a b : List ℤ) → SFits w64 r → SFits w64 p → SFits w64 n → SFits w64 q → SFits w64 m
    → spanned k (given (to_z w64 (of_z w64 p)) (to_z w64 (of_z w64 n)) a) (given (to_z w64 (of_z w64 q)) (to_z w64 (of_z w64 m)) b) (up (to_z w64 (of_z w64 r)))
    ≡ spanned k (given p n a) (given q m b) (up r)
spanned-read k r p n q m a b e f g h i =
    ap₂ (λ (x y : Row). spanned k x y (up (to_z w64 (of_z w64 r)))) (row-read p n a f g) (row-read q m b h i)
    ∙ ap (λ (z : ℤ). spanned k (given p n a) (given q m b) (up z)) (to_z-of_z e)

pub returns-in-Anchor : goal.returns-in-Anchor
returns-in-Anchor c =
    let s = (goal.at.returns-in-Anchor c).Start in
    let r = s.ranges.room in
    let p = s.ranges.a_period in
    let n = s.ranges.a_distance in
    let q = s.ranges.b_period in
    let m = s.ranges.b_distance in
    let e = c.in-Anchor.is in
    c.spanned-in-Anchor.ensures ∙ spanned-read subcalendar s.args.room s.args.a_period s.args.a_distance s.args.b_period s.args.b_distance s.args.a_cells.now s.args.b_cells.now r p n q m ∙ sym (anchor-is (row-a s) (row-b s) (up s.args.room) (fulls s e)) ∙ ap (answered s) (sym e)

pub returns-in-ByLabels : goal.returns-in-ByLabels
returns-in-ByLabels c =
    let s = (goal.at.returns-in-ByLabels c).Start in
    let r = s.ranges.room in
    let p = s.ranges.a_period in
    let n = s.ranges.a_distance in
    let q = s.ranges.b_period in
    let m = s.ranges.b_distance in
    c.spanned-in-ByLabels.ensures ∙ spanned-read compatible s.args.room s.args.a_period s.args.a_distance s.args.b_period s.args.b_distance s.args.a_cells.now s.args.b_cells.now r p n q m ∙ sym (by-labels-is (row-a s) (row-b s) (up s.args.room) _) ∙ ap (answered s) (sym c.in-ByLabels.is)
