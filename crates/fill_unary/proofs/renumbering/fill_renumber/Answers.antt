-- `fill_unary::renumbering::fill_renumber` meets its contract: each turn of the loop writes the cell of one instant.
-- Assumes nothing.
use Rattle.calendar.specs.declared.Refusal.{Refusal}
use Rattle.std.specs.Prelude.{Result, ⊤}
use borrow.Author.Rules.{rules, sfits_of}
use mathlib.Core.Path.{◌≡◌, refl, sym, ◌∙◌, ap}
use mathlib.Core.Option.{some}
use mathlib.Core.Bool.{true, false}
use mathlib.Core.List.{List}
use Prim.Native.Nat.{ℕ, ◌+◌}
use lib.IntN.{ℤ, pos, ◌+ℤ◌}
use lib.ListN.{get_or, set}
use mir.Facts.{to_z-of_z, of_z-to_z, sfits_lit}
use mir.Syntax.{w32, w64}
use mir.Val.{SFits, to_z, of_z}
use Rattle.integers.proofs.Machine.{test-eq, widened}
use Rattle.calendar.specs.Meaning.{Row, meant, label_of, empty}
use Rattle.calendar.specs.Limits.{in_range}
use Rattle.cursors.proofs.Numbers.{read_as}
use Rattle.cursors.proofs.Cells.{label-empty, label-full}
use Rattle.kinds.specs.declared.Kind.TheVariants.{Renumber}
use Rattle.kinds.specs.Operations.{operation_of}
use Rattle.kinds.specs.Stands.{row_in}
use Rattle.fill_shared.specs.Placed.{Fills}
use Rattle.fill_shared.proofs.Cells.{lent_is}
use Rattle.fill_shared.proofs.Working.{range-fits}
use Rattle.fill_shared.proofs.Filling.{Lent, Filling, lent_of, row_of, first_one, fills_one}
use Rattle.fill_unary.proofs.Counting.{Step, step_past, step_same, step-next}
use Rattle.fill_unary.proofs.Renumbers.{Renumbers, rules as own-rules, label_is, renumbers-fit, renumbers-more, renumbers-out, renumbers-done}
use Rattle.fill_unary.proofs.renumbering.fill_renumber.Goals as goal
use Rattle.fill_unary.proofs.renumbering.fill_renumber.Goals.{After-struct_told-2-1, After-last_before-last, At-loop-t, Else-not-in_range, In-loop-t, Joined-j-last, Start, Then-cell, Else-cell, then-j-last, else-j-last, then-cell+else-not-in_range, else-cell}

-- ---- the row that is lent, as it stood before the loop
abbrev Told : Type 0
Told = After-struct_told-2-1

abbrev entry : Told → Start
entry c = (goal.at.After-struct_told-2-1 c).Start

abbrev old : Told → List ℤ
old c = (entry c).args.pool.now

abbrev X : Told → ℤ
X c = to_z w64 (of_z w64 (entry c).args.x)

abbrev A : Told → Lent
A c = lent_of (entry c).args.a c.end_of-end.result

abbrev row : Told → Row
row c = row_of (A c) (old c)

a-is : (c : Told) → row c ≡ row_in (old c) (entry c).args.a
a-is c = lent_is (entry c).args.a _ _ c.end_of-end.ensures (sfits_of c.struct_told-1.given.1.0.1) (sfits_of c.struct_told-2-1.given.1.1.0.1)

first : (c : Told) → let s = entry c in Filling (Renumber (X c)) (A c) (A c) s.args.at s.args.period (old c) (old c) false 0
first c =
    let s = entry c in
    first_one _ _ (ap Renumber (to_z-of_z s.ranges.x)) s.args.a s.args.b _ _ _ _ _ c.end_of-end.ensures (a-is c) refl s.requires.fillable s.requires.placed

-- what the loop ensures, over the operand
as-filled : (c : Told) (new : List ℤ) (r : Result ⊤ Refusal) → let s = entry c in Fills (operation_of (Renumber (X c)) (row c) (row c)) s.args.at s.args.period (old c) new r
    → Fills (operation_of (Renumber s.args.x) (row_in (old c) s.args.a) (row_in (old c) s.args.b)) s.args.at s.args.period (old c) new r
as-filled c new r h =
    let s = entry c in
    fills_one (Renumber (X c)) (Renumber s.args.x) (ap Renumber (to_z-of_z s.ranges.x)) s.args.a s.args.b s.args.span s.args.at s.args.period _ _ c.end_of-end.ensures (a-is c) refl new r h

-- ---- the last label before the instant 0, and its number
pub number_of-number-requires-clause-fillable : goal.number_of-number-requires-clause-fillable
number_of-number-requires-clause-fillable c = (first (goal.at.number_of-number-requires-clause-fillable c).After-struct_told-2-1).lends.is-fillable

-- with these the loop begins
last-read : (c : After-last_before-last) → to_z w64 (of_z w64 c.last_before-last.result) ≡ c.last_before-last.result
last-read c = to_z-of_z {w = w64} (sfits_of c.last_before-last.type_inv)

pub loop-t-init : goal.loop-t-init
loop-t-init c = record {
  labelled = false;
  filling = first (goal.at.loop-t-init c).After-struct_told-2-1;
  counts = record {
    is_last = last-read (goal.at.loop-t-init c).After-last_before-last ∙ c.last_before-last.ensures;
    numbered = to_z-of_z {w = w64} {z = c.number_of-number.result} (sfits_of c.number_of-number.type_inv) ∙ c.number_of-number.ensures;
  };
}

-- ---- a turn
abbrev base : In-loop-t → Told
base c = (goal.at.In-loop-t c).After-struct_told-2-1

-- the cell that a turn reads
abbrev cell : In-loop-t → ℤ
cell c = get_or c.loop-t.pool (c.args.a.start + c.loop-t.t) (pos 0)

abbrev Cell : In-loop-t → Type 0
Cell c = SFits w32 (cell c)

-- as the machine has it
abbrev bits : In-loop-t → ℕ
bits c = of_z w64 (to_z w32 (of_z w32 (cell c)))

read : (c : In-loop-t) → Cell c → to_z w64 (bits c) ≡ cell c
read c f = read_as (to_z-of_z f) (widened f)

fits : (c : In-loop-t) → SFits w64 (to_z w64 c.loop-t.last-bits) × SFits w64 (to_z w64 c.loop-t.number-bits) × SFits w64 (to_z w64 c.loop-t.number-bits +ℤ pos 1)
fits c = renumbers-fit c.loop-t.invariant c.loop-t-test.true

-- the bits of the label are those of a number
bits-kept : (c : In-loop-t) → of_z w64 (to_z w64 c.loop-t.last-bits) ≡ c.loop-t.last-bits
bits-kept c = of_z-to_z {w = w64} (search rules)

pub overflow_add-number : goal.overflow_add-number
overflow_add-number c = (fits (goal.at.overflow_add-number c).In-loop-t).2

meant_is : (c : In-loop-t) → meant (row (base c)) (pos c.loop-t.t) ≡ label_of (cell c)
meant_is c = label_is c.loop-t.invariant c.loop-t-test.true

-- an instant that has a label
module _ (c : In-loop-t) (f : Cell c) (full : of_z w32 (cell c) ≡ 2147483648 → ⊥) (last number : ℤ) where
  has : meant (row (base c)) (pos c.loop-t.t) ≡ some (cell c)
  has = meant_is c ∙ label-full (cell c) (λ q. full (ap (of_z w32) q))

  -- another than the last one
  anew : (bits c ≡ c.loop-t.last-bits → ⊥) → last ≡ to_z w64 (bits c) → number ≡ to_z w64 (of_z w64 (to_z w64 c.loop-t.number-bits +ℤ pos 1))
      → Step (row (base c)) (X (base c)) (pos c.loop-t.t) (some number) last number
  anew n l k =
      rw (l, k, read c f, to_z-of_z (fits c).2)
      (step-next (own-rules c.loop-t.invariant) c.loop-t.invariant.counts (cell c) has (λ q. n (ap (of_z w64) (to_z-of_z f ∙ q) ∙ bits-kept c)))

  -- the last one
  again : bits c ≡ c.loop-t.last-bits → last ≡ to_z w64 c.loop-t.last-bits → number ≡ to_z w64 c.loop-t.number-bits
      → Step (row (base c)) (X (base c)) (pos c.loop-t.t) (some number) last number
  again n l k = rw (l, k) (step_same (own-rules c.loop-t.invariant) c.loop-t.invariant.counts (has ∙ ap some (sym (read c f) ∙ ap (to_z w64) n)))

stepped : (c : Joined-j-last) → let k = (goal.at.Joined-j-last c).After-struct_told-2-1 in
    Step (row k) (X k) (pos c.loop-t.t) (some (to_z w64 c.if-j-last.number-bits)) (to_z w64 c.if-j-last.last-bits) (to_z w64 c.if-j-last.number-bits)
stepped c =
    let i = (goal.at.Joined-j-last c).In-loop-t in
    elim c.if-j-last.branch [
      | then-j-last w ↦ anew i (search rules) c.if-cell.true _ _ w.if-j-last.true w.last-is w.number-is
      | else-j-last w ↦ again i (search rules) c.if-cell.true _ _ w.if-j-last.false w.last-is w.number-is
    ]

pub returns-then-not-in_range : goal.returns-then-not-in_range
returns-then-not-in_range c =
    let j = (goal.at.returns-then-not-in_range c).Joined-j-last in
    let i = (goal.at.returns-then-not-in_range c).In-loop-t in
    as-filled (base i) _ _ (renumbers-out i.loop-t.invariant i.loop-t-test.true _ _ _ (stepped j) (sym c.in_range.ensures ∙ c.if-not-in_range.true))

in-range : (c : Else-not-in_range) → in_range (to_z w64 c.if-j-last.number-bits) ≡ true
in-range c = sym c.in_range.ensures ∙ c.if-not-in_range.false

pub overflow_cast-label : goal.overflow_cast-label
overflow_cast-label c = range-fits _ (in-range (goal.at.overflow_cast-label c).Else-not-in_range)

-- what holds before the next instant, with the cell that a turn writes
abbrev Next : In-loop-t → ℤ → ℤ → ℤ → Type 0
Next c last number label =
    Renumbers (X (base c)) (A (base c)) c.args.at c.args.period c.args.pool.now (set c.loop-t.pool (c.args.at + c.loop-t.t) label) last number (c.loop-t.t + 1)

labelled : (c : In-loop-t) (last number label : ℤ) → Step (row (base c)) (X (base c)) (pos c.loop-t.t) (some number) last number → in_range number ≡ true → label ≡ number → Next c last number label
labelled c last number label s r e = renumbers-more c.loop-t.invariant c.loop-t-test.true _ _ _ s _ (ap (set c.loop-t.pool (c.args.at + c.loop-t.t)) e) r

unlabelled : (c : In-loop-t) → Cell c → of_z w32 (cell c) ≡ 2147483648 → Next c (to_z w64 c.loop-t.last-bits) (to_z w64 c.loop-t.number-bits) empty
unlabelled c f q =
    let h = c.loop-t.invariant in
    let e = label-empty (cell c) ((test-eq w32 (cell c) empty f (sfits_lit tt)).0 q) in
    renumbers-more h c.loop-t-test.true _ _ _ (step_past (own-rules h) h.counts (meant_is c ∙ e)) _ refl refl

pub loop-t-preserved : goal.loop-t-preserved
loop-t-preserved c =
    let i = (goal.at.loop-t-preserved c).In-loop-t in
    elim c.if-cell.branch [
      | then-cell+else-not-in_range w ↦
          let r = sym w.in_range.ensures ∙ w.if-not-in_range.false in
          let s : Step (row (base i)) (X (base i)) (pos i.loop-t.t) (some (to_z w64 w.if-j-last.number-bits)) (to_z w64 w.if-j-last.last-bits) (to_z w64 w.if-j-last.number-bits) =
          elim w.if-j-last.branch [
            | then-j-last v ↦ anew i (search rules) w.if-cell.true _ _ v.if-j-last.true v.last-is v.number-is
            | else-j-last v ↦ again i (search rules) w.if-cell.true _ _ v.if-j-last.false v.last-is v.number-is
          ]
          in
          rw (w.last-is, w.number-is) (labelled i _ _ _ s r (w.label-is ∙ to_z-of_z (range-fits _ r)))
      | else-cell w ↦ rw (w.last-is, w.number-is, w.label-is) (unlabelled i (search rules) w.if-cell.false)
    ]

-- ---- the end
pub returns : goal.returns
returns c = as-filled (goal.at.returns c).After-struct_told-2-1 _ _ (renumbers-done c.loop-t.invariant c.loop-t-test.false)
