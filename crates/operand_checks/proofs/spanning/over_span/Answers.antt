-- `operand_checks::spanning::over_span` meets its contract: labels rise by at most one an instant.
-- Assumes nothing.
use mathlib.Core.Path.{◌≡◌, sym, ◌∙◌, ap, ap₂, subst}
use Prim.Native.Nat.{ℕ, ◌≤◌, ◌<◌, ◌^◌}
use native.Mathlib.Omega.{arith}
use lib.IntN.{ℤ, pos}
use Rattle.integers.specs.Parts.{up}
use Rattle.integers.proofs.Linear.{ints, ◌∴◌}
use Rattle.integers.proofs.Order.{pos-up}
use Rattle.integers.proofs.Machine.{plain}
use Rattle.calendar.specs.Limits.{pool_limit}
use Rattle.calendar.specs.Size.{rise}
use Rattle.sizes.specs.declared.Turn.{Turn}
use Rattle.sizes.specs.Stored.{turn_of, Stored}
use Rattle.algebra.proofs.Span.{rise-at-most}
use Rattle.operand_checks.specs.declared.Extent.{Extent}
use Rattle.operand_checks.specs.Shared.{turn_for}
use Rattle.operand_checks.proofs.Naturals.{Natural, natural, up-mono, stored}
use Rattle.operand_checks.proofs.spanning.over_span.Goals as goal
use Rattle.operand_checks.proofs.spanning.over_span.Goals.{After-rise-rise, After-turn_of-a, Start}

span-natural : (s : Start) → Natural s.args.span
span-natural s = natural s.ranges.span s.requires.pos_bound.0

pub overflow_cast-span : goal.overflow_cast-span
overflow_cast-span c = (span-natural (goal.at.overflow_cast-span c).Start).cast

turn_is : (c : After-turn_of-a) → c.turn_of-a.result ≡ turn_for c.args.period c.args.distance
turn_is c =
    let p = c.ranges.period in
    let d = c.ranges.distance in
    simp plain at c.turn_of-a.ensures

pub rise-rise-requires : goal.rise-rise-requires
rise-rise-requires c =
    let s = (goal.at.rise-rise-requires c).Start in
    subst Stored (sym (turn_is c)) (stored s.requires.limited)

rise-is : (c : After-rise-rise) → c.rise-rise.result ≡ rise (turn_of (turn_for c.args.period c.args.distance)) (up c.args.span)
rise-is c = c.rise-rise.ensures ∙ ap₂ (λ (t : Turn) (s : ℕ). rise (turn_of t) s) (turn_is (goal.at.After-rise-rise c).After-turn_of-a) (span-natural (goal.at.After-rise-rise c).Start).is

rise-limit : (c : After-rise-rise) → c.rise-rise.result ≤ pool_limit
rise-limit c =
    let s = (goal.at.After-rise-rise c).Start in
    let a = s.args in
    omega (arith, rise-is c, rise-at-most (turn_of (turn_for a.period a.distance)) (up a.span) (stored s.requires.limited).distance-at-most, up-mono s.requires.pos_bound.1)

pub overflow_cast-result : goal.overflow_cast-result
overflow_cast-result c = rise-limit c ∴ simp ints (omega arith)

pub returns : goal.returns
returns c =
    let s = (goal.at.returns c).Start in
    let f = s.ranges.span in
    let h : c.rise-rise.result < 2 ^ 63 = omega (arith, rise-limit c) in
    ap₂ made (simp plain (sym (pos-up s.requires.pos_bound.0))) (simp plain (ap pos (rise-is c)))
  where
    made : ℤ → ℤ → Extent
    made s n = record { span = s; period = s; distance = n }
