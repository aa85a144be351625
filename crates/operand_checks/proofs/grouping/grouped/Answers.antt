-- `operand_checks::grouping::grouped` meets its contract: where the working period is within the room, so is the span.
-- Assumes nothing.
use Rattle.std.specs.Prelude.{Some}
use mathlib.Core.Path.{◌≡◌, sym, ◌∙◌, ap, ap₂}
use Prim.Native.Nat.{ℕ, ◌/◌, ◌≤◌, ◌<◌, ◌^◌}
use native.Mathlib.Nat.{div-le_self}
use native.Mathlib.Omega.{arith}
use lib.IntN.{pos}
use Rattle.integers.specs.Parts.{up}
use Rattle.integers.specs.Gcd.{gcd}
use Rattle.integers.specs.Capped.{capped_at}
use Rattle.integers.proofs.Linear.{ints, ◌∴◌}
use Rattle.integers.proofs.Order.{pos-up}
use Rattle.integers.proofs.Divisors.{gcd-pos}
use Rattle.integers.proofs.Cap.{within-is}
use Rattle.integers.proofs.Machine.{plain}
use Rattle.calendar.specs.Limits.{pool_limit}
use Rattle.calendar.specs.Operation.Unary.{group}
use Rattle.calendar.specs.Size as Size
use Rattle.calendar.specs.Size.{period_unary}
use Rattle.sizes.specs.declared.Turn.{Turn}
use Rattle.sizes.specs.Stored.{turn_of}
use Rattle.calendar.specs.Reply.Reply.{answer}
use Rattle.operand_checks.specs.Shared.{turn_for}
use Rattle.operand_checks.proofs.Naturals.{Natural, natural, up-mono, distance-limit}
use Rattle.operand_checks.proofs.Spans.{capped-past, capped-half, capped_fits}
use Rattle.operand_checks.proofs.Replies.{same-extent}
use Rattle.operand_checks.proofs.Groups.{grouped-fails, grouped-passes}
use Rattle.operand_checks.proofs.grouping.grouped.Goals as goal
use Rattle.operand_checks.proofs.grouping.grouped.Goals.{After-gcd-common, After-group_period-working, After-struct_known-1, After-turn_of-a, In-Some, Start}

x-natural : (s : Start) → Natural s.args.x
x-natural s = natural s.ranges.x (s.requires.pos_bound ∴ simp ints (omega arith))

room-natural : (s : Start) → Natural s.args.room
room-natural s = natural s.ranges.room s.requires.room.0

positive : (s : Start) → 1 ≤ up s.args.x
positive s = up-mono s.requires.pos_bound

abbrev row : Start → Size.Turn
row s = turn_of (turn_for s.args.period s.args.distance)

turn_is : (c : After-turn_of-a) → c.turn_of-a.result ≡ turn_for c.args.period c.args.distance
turn_is c =
    let p = c.ranges.period in
    let d = c.ranges.distance in
    simp plain at c.turn_of-a.ensures

pub overflow_cast-times : goal.overflow_cast-times
overflow_cast-times c = (x-natural (goal.at.overflow_cast-times c).Start).cast

pub overflow_cast-room : goal.overflow_cast-room
overflow_cast-room c = (room-natural (goal.at.overflow_cast-room c).Start).cast

pub group_period-working-requires : goal.group_period-working-requires
group_period-working-requires c = omega (arith, (x-natural (goal.at.group_period-working-requires c).Start).is, positive (goal.at.group_period-working-requires c).Start)

capped_is : (c : After-group_period-working) → let s = (goal.at.After-group_period-working c).Start in
    c.group_period-working.result ≡ capped_at (up s.args.room) (period_unary (group (up s.args.x)) (row s))
capped_is c =
    let s = (goal.at.After-group_period-working c).Start in
    c.group_period-working.ensures
    ∙ ap₂ (λ (r x : ℕ). capped_at r (period_unary (group x) (turn_of c.turn_of-a.result))) (room-natural s).is (x-natural s).is
    ∙ ap (λ (t : Turn). capped_at (up s.args.room) (period_unary (group (up s.args.x)) (turn_of t))) (turn_is (goal.at.After-group_period-working c).After-turn_of-a)

pub returns-in_default : goal.returns-in_default
returns-in_default c =
    let t = (goal.at.returns-in_default c).After-group_period-working in
    let s = (goal.at.After-group_period-working t).Start in
    sym (grouped-fails (up s.args.x) (row s) (up s.args.room) (capped-past _ _ (sym (capped_is t) ∙ c.in_default.is)))

within : (c : In-Some) → let s = (goal.at.In-Some c).Start in
    capped_at (up s.args.room) (period_unary (group (up s.args.x)) (row s)) ≡ Some c.in-Some.p
within c = sym (capped_is (goal.at.In-Some c).After-group_period-working) ∙ c.in-Some.is

pub overflow_cast-result : goal.overflow_cast-result
overflow_cast-result c = capped_fits c.requires.room _ (within (goal.at.overflow_cast-result c).In-Some)

common-is : (c : After-gcd-common) → let s = (goal.at.After-gcd-common c).Start in c.gcd-common.result ≡ gcd (up s.args.x) (up s.args.distance)
common-is c =
    let t = (goal.at.After-gcd-common c).After-turn_of-a in
    c.gcd-common.ensures ∙ ap₂ (λ (x : ℕ) (a : Turn). gcd x a.distance) (x-natural (goal.at.After-turn_of-a t).Start).is (turn_is t)

pub nonzero_div-result : goal.nonzero_div-result
nonzero_div-result c =
    let s = (goal.at.nonzero_div-result c).Start in
    omega (arith, common-is (goal.at.nonzero_div-result c).After-gcd-common, gcd-pos (up s.args.x) (up s.args.distance) (positive s))

distance_is : (c : After-struct_known-1) → let t = (goal.at.After-struct_known-1 c).After-turn_of-a in let s = (goal.at.After-turn_of-a t).Start in
    t.turn_of-a.result.distance / c.gcd-common.result ≡ up s.args.distance / gcd (up s.args.x) (up s.args.distance)
distance_is c =
    let t = (goal.at.After-struct_known-1 c).After-turn_of-a in
    ap₂ (λ (a : Turn) (g : ℕ). a.distance / g) (turn_is t) (common-is (goal.at.After-struct_known-1 c).After-gcd-common)

distance-fits : (c : After-struct_known-1) → let t = (goal.at.After-struct_known-1 c).After-turn_of-a in
    t.turn_of-a.result.distance / c.gcd-common.result ≤ pool_limit
distance-fits c =
    let s = (goal.at.After-struct_known-1 c).Start in
    omega (arith, distance_is c, div-le_self (up s.args.distance) (gcd (up s.args.x) (up s.args.distance)), distance-limit s.requires.limited)

pub overflow_cast-result-2 : goal.overflow_cast-result-2
overflow_cast-result-2 c = distance-fits c ∴ simp ints (omega arith)

pub returns : goal.returns
returns c =
    let k = (goal.at.returns c).In-Some in
    let s = (goal.at.returns c).Start in
    let p = s.ranges.period in
    let h = capped-half s.requires.room _ (within k) in
    let d = half (distance-fits c) in
    let w = within-is (within k) in
    ap answer (same-extent (simp plain (sym (pos-up (s.requires.limited.low ∴ s.requires.limited.middle ∴ simp ints (omega arith))))) (simp plain (ap pos w.0)) (simp plain (ap pos (distance_is c))))
    ∙ sym (grouped-passes (up s.args.x) (row s) (up s.args.room) (positive s) w.1)
  where
    half : {n : ℕ} → n ≤ pool_limit → n < 2 ^ 63
    half h = omega arith
