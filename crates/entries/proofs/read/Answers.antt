-- `entries::read` meets its contract: its tests are those of checks 4, 5 and 6, in their order.
-- Assumes nothing.
use mathlib.Core.Path.{◌≡◌, sym, ◌∙◌}
use mathlib.Core.Bool.{true, false, ◌&&◌, and_assoc}
use Prim.Native.Nat.{ℕ, ◌<◌}
use native.Mathlib.Omega.{arith}
use borrow.Author.Rules.{rules}
use lib.IntN.{ℤ, pos, nat_abs}
use lib.Signed.{◌≤ℤ◌, le_z}
use mir.ValLaws.{to_z-of_z}
use Rattle.integers.specs.Parts.{up}
use Rattle.integers.proofs.Machine.{plain}
use Rattle.calendar.specs.Limits.{between}
use Rattle.calendar.specs.Reply.{require}
use Rattle.calendar.specs.Reply.Reply.{answer}
use Rattle.calendar.specs.Table.{Entry, named}
use Rattle.granules.proofs.Tests.{and-iff, le_z-iff}
use Rattle.entries.specs.Entries.{entry_of, kind_of, operands_earlier, others_zero}
use Rattle.entries.proofs.Fields.{Fields}
use Rattle.entries.proofs.Passing as Passing
use Rattle.entries.proofs.Naturals.{cast-natural, nat_abs-up, up_le}
use Rattle.entries.proofs.read.Goals as goal
use Rattle.entries.proofs.read.Goals.{else-others_zero-via-then-others_zero+else-numbers, else-others_zero-via-else-others_zero, After-between, After-numbers, After-operands-count, After-operands_earlier, After-others_zero, Else-not-between, Else-not-operands_earlier, Start, Then-not-between, Then-numbers, Then-others_zero}

-- checks 4, 5 and 6, with the two parts of the last one apart
checks : (k : ℕ) (e : Entry) → let m = kind_of (up e.kind) in named k e ≡
    require 4 (between (pos 0) (pos 12) e.kind)
    (require 5 (operands_earlier m.operands k e)
    (require 6 (others_zero m.operands e && m.numbers e)
    (answer (m.operation e))))
unfolding named
checks k e = rw and_assoc

natural-between : (z : ℤ) → between (pos 0) (pos 12) z ≡ true → (pos 0 ≤ℤ z) × (nat_abs z ≡ up z) × (up z < 13)
natural-between z e =
    let b = (and-iff (le_z (pos 0) z) (le_z z (pos 12))).0 e in
    let h = (le_z-iff (pos 0) z).0 b.0 in
    (h, nat_abs-up h, omega (arith, up_le ((le_z-iff z (pos 12)).0 b.1)))

fields : (c : Start) → Fields c.args.e
fields c = search rules

-- ---- check 4
kind-test : (c : After-between) → c.between.result ≡ between (pos 0) (pos 12) c.args.e.kind
kind-test c = simp (to_z-of_z, (fields (goal.at.After-between c).Start).kind) at c.between.ensures

unknown : (c : Then-not-between) → between (pos 0) (pos 12) c.args.e.kind ≡ false
unknown c = sym (kind-test (goal.at.Then-not-between c).After-between) ∙ c.if-not-between.true

known : (c : Else-not-between) → between (pos 0) (pos 12) c.args.e.kind ≡ true
known c = sym (kind-test (goal.at.Else-not-between c).After-between) ∙ c.if-not-between.false

pub returns-then-not-between : goal.returns-then-not-between
returns-then-not-between c = simp (checks, unknown c)

-- the kind as a natural
natural : (c : Else-not-between) → let z = c.args.e.kind in (pos 0 ≤ℤ z) × (nat_abs z ≡ up z) × (up z < 13)
natural c = natural-between c.args.e.kind (known c)

pub overflow_cast-kind : goal.overflow_cast-kind
overflow_cast-kind c =
    let f = (fields (goal.at.overflow_cast-kind c).Start).kind in
    simp plain (cast-natural f (natural (goal.at.overflow_cast-kind c).Else-not-between).0)

pub operands-count-requires : goal.operands-count-requires
operands-count-requires c =
    let f = (fields (goal.at.operands-count-requires c).Start).kind in
    let n = natural (goal.at.operands-count-requires c).Else-not-between in
    simp (plain, n.1) n.2

count : (c : After-operands-count) → c.operands-count.result ≡ (kind_of (up c.args.e.kind)).operands
count c =
    let f = (fields (goal.at.After-operands-count c).Start).kind in
    let n = natural (goal.at.After-operands-count c).Else-not-between in
    simp (plain, n.1) at c.operands-count.ensures

earlier-test : (c : After-operands_earlier) → let s = c.args in
    c.operands_earlier.result ≡ operands_earlier (kind_of (up s.e.kind)).operands s.before (entry_of s.e)
earlier-test c = rw (← count (goal.at.After-operands_earlier c).After-operands-count) c.operands_earlier.ensures

pub returns-then-not-operands_earlier : goal.returns-then-not-operands_earlier
returns-then-not-operands_earlier c =
    let t = (goal.at.returns-then-not-operands_earlier c).After-operands_earlier in
    let e = sym (earlier-test t) ∙ c.if-not-operands_earlier.true in
    simp (checks, known (goal.at.After-operands_earlier t).Else-not-between, e)

-- what checks 4 and 5 leave
passed : (c : Else-not-operands_earlier) → let s = c.args in
    let m = kind_of (up s.e.kind) in
    named s.before (entry_of s.e) ≡ require 6 (others_zero m.operands (entry_of s.e) && m.numbers (entry_of s.e)) (answer (m.operation (entry_of s.e)))
passed c =
    let e = sym (earlier-test (goal.at.Else-not-operands_earlier c).After-operands_earlier) ∙ c.if-not-operands_earlier.false in
    simp (checks, known (goal.at.Else-not-operands_earlier c).Else-not-between, e)

others-test : (c : After-others_zero) → let e = c.args.e in
    c.others_zero.result ≡ others_zero (kind_of (up e.kind)).operands (entry_of e)
others-test c = rw (← count (goal.at.After-others_zero c).After-operands-count) c.others_zero.ensures

numbers-test : (c : After-numbers) → let e = c.args.e in
    c.numbers.result ≡ (kind_of (up e.kind)).numbers (entry_of e)
numbers-test c =
    let s = (goal.at.After-numbers c).Else-not-between in
    let f = (fields (goal.at.Else-not-between s).Start).kind in
    simp (plain, (natural s).1) at c.numbers.ensures

-- ---- what the entry names
answered : (c : Then-numbers) → let s = c.args in
    named s.before (entry_of s.e) ≡ answer ((kind_of (up s.e.kind)).operation (entry_of s.e))
answered c =
    let t = (goal.at.Then-numbers c).Then-others_zero in
    simp (passed (goal.at.Then-others_zero t).Else-not-operands_earlier, ← others-test (goal.at.Then-others_zero t).After-others_zero, t.if-others_zero.true, ← numbers-test (goal.at.Then-numbers c).After-numbers, c.if-numbers.true)

pub names-requires : goal.names-requires
names-requires c = let p = Passing.passed _ _ _ (answered c) in (p.first-low, p.second-low)

pub returns-then-numbers : goal.returns-then-numbers
returns-then-numbers c = let a = answered (goal.at.returns-then-numbers c).Then-numbers in (_, a, c.names.ensures _ _ a)

pub returns-else-others_zero : goal.returns-else-others_zero
returns-else-others_zero c =
    let g = goal.at.returns-else-others_zero c in
    let o = g.After-others_zero in
    let e = g.Else-not-between in
    let f = (fields (goal.at.Else-not-between e).Start).kind in
    simp (passed (goal.at.After-others_zero o).Else-not-operands_earlier, ← others-test o)
    (elim c.else-others_zero.branch [
      | else-others_zero-via-then-others_zero+else-numbers w ↦
          let t = simp (plain, (natural e).1) at w.numbers.ensures in
          simp (w.if-others_zero.true, ← t, w.if-numbers.false)
      | else-others_zero-via-else-others_zero w ↦ simp w.if-others_zero.false
    ])
