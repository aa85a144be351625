-- `operand_checks::spanning::span_of` meets its contract: the numbers of the rows and the room are as large in 64 unsigned bits.
-- Assumes nothing.
use mathlib.Core.Path.{◌≡◌, ◌∙◌, ap, ap₂}
use Prim.Native.Nat.{ℕ}
use Rattle.integers.specs.Parts.{up}
use Rattle.integers.specs.Capped.{capped_at}
use Rattle.integers.proofs.Machine.{plain}
use Rattle.calendar.specs.Size.{span_of}
use Rattle.sizes.specs.declared.Turn.{Turn}
use Rattle.sizes.specs.Stored.{turn_of}
use Rattle.operand_checks.specs.Shared.{turn_for}
use Rattle.operand_checks.proofs.Naturals.{Natural, natural}
use Rattle.operand_checks.proofs.spanning.span_of.Goals as goal
use Rattle.operand_checks.proofs.spanning.span_of.Goals.{Start}

room-natural : (s : Start) → Natural s.args.room
room-natural s = natural s.ranges.room s.requires.room.0

pub overflow_cast-room : goal.overflow_cast-room
overflow_cast-room c = (room-natural (goal.at.overflow_cast-room c).Start).cast

pub returns : goal.returns
returns c =
    let s = (goal.at.returns c).Start in
    let t = s.ranges.room in
    let p = s.ranges.a_period in
    let n = s.ranges.a_distance in
    let q = s.ranges.b_period in
    let m = s.ranges.b_distance in
    let a : c.turn_of-a.result ≡ turn_for s.args.a_period s.args.a_distance = simp plain at c.turn_of-a.ensures in
    let b : c.turn_of-b.result ≡ turn_for s.args.b_period s.args.b_distance = simp plain at c.turn_of-b.ensures in
    c.span.ensures
    ∙ ap₂ (λ (r : ℕ) (t : Turn). capped_at r (span_of (turn_of t) (turn_of c.turn_of-b.result))) (room-natural s).is a
    ∙ ap (λ (t : Turn). capped_at (up s.args.room) (span_of (turn_of (turn_for s.args.a_period s.args.a_distance)) (turn_of t))) b
