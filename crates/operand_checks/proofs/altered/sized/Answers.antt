-- `operand_checks::altered::sized` meets its contract: the working period is tested once no number on the way can wrap.
-- Assumes nothing.
use Rattle.std.specs.Prelude.{Some}
use mathlib.Core.Path.{◌≡◌, sym, ◌∙◌, ap}
use Prim.Native.Nat.{ℕ, ◌<◌, ◌^◌}
use native.Mathlib.Omega.{arith}
use lib.IntN.{ℤ, pos}
use lib.Signed.{◌≤ℤ◌}
use mir.Facts.{to_z-of_z}
use mir.Syntax.{w64}
use mir.Val.{of_z, to_z}
use Rattle.integers.specs.Parts.{up}
use Rattle.integers.specs.Capped.{capped_at}
use Rattle.integers.proofs.Cap.{within-is}
use Rattle.integers.proofs.Linear.{ints, ◌∴◌}
use Rattle.integers.proofs.Machine.{plain}
use Rattle.calendar.specs.Size as Size
use Rattle.sizes.specs.Stored.{turn_of, Stored}
use Rattle.sizes.specs.Altered.{alter_period, alter_distance}
use Rattle.sizes.proofs.Altered.{alter-turn-is}
use Rattle.calendar.specs.Reply.Reply.{answer}
use Rattle.operand_checks.specs.Shared.{turn_for}
use Rattle.operand_checks.proofs.Naturals.{Natural, natural, up-mono, stored}
use Rattle.operand_checks.proofs.Alters.{x_fits, z-fits, alterable, fine-fits, distance-short}
use Rattle.operand_checks.proofs.Spans.{capped-past, capped-passes, capped-half, capped_fits}
use Rattle.granules.proofs.Replies.{passed, failed}
use Rattle.operand_checks.proofs.Replies.{same-extent}
use Rattle.operand_checks.proofs.altered.sized.Goals as goal
use Rattle.operand_checks.proofs.altered.sized.Goals.{After-alter_distance-distance, After-alter_period-working, After-altering_of-n, After-turn_of-a, After-turn_of-b, In-Some, Start}

x-natural : (s : Start) → Natural s.args.by.x
x-natural s = natural (x_fits s.requires.limits) (s.requires.limits.x-low ∴ simp ints (omega arith))

room-natural : (s : Start) → Natural s.args.room
room-natural s = natural s.ranges.room s.requires.room.0

span-natural : (s : Start) → Natural s.args.span
span-natural s = natural s.ranges.span (s.requires.span_value ∴ simp ints (omega arith))

abbrev fine-row : Start → Size.Turn
fine-row s = turn_of (turn_for s.args.a_period s.args.a_distance)

abbrev coarse-row : Start → Size.Turn
coarse-row s = turn_of (turn_for s.args.b_period s.args.b_distance)

-- document 01's n and D
abbrev coarse : Start → ℕ
coarse s = Size.coarse (fine-row s) (coarse-row s) (up s.args.by.x)

abbrev fine : Start → ℤ
fine s = Size.fine (fine-row s) (coarse-row s) (up s.args.by.x) s.args.by.z

-- the working period and its distance
abbrev working : Start → Size.Turn
working s = Size.alter_turn (fine-row s) (coarse-row s) (up s.args.by.x) s.args.by.z

working-is : (s : Start) → working s ≡ record { period = alter_period (fine-row s) (fine s); distance = alter_distance (fine-row s) (coarse s) (fine s) }
working-is s = alter-turn-is (fine-row s) (coarse-row s) (up s.args.by.x) s.args.by.z

turn_is : (c : After-turn_of-a) → c.turn_of-a.result ≡ turn_for c.args.a_period c.args.a_distance
turn_is c =
    let p = c.ranges.a_period in
    let n = c.ranges.a_distance in
    simp plain at c.turn_of-a.ensures

turn-is-2 : (c : After-turn_of-b) → c.turn_of-b.result ≡ turn_for c.args.b_period c.args.b_distance
turn-is-2 c =
    let p = c.ranges.b_period in
    let n = c.ranges.b_distance in
    simp plain at c.turn_of-b.ensures

pub overflow_cast-by : goal.overflow_cast-by
overflow_cast-by c = (x-natural (goal.at.overflow_cast-by c).Start).cast

pub overflow_cast-span : goal.overflow_cast-span
overflow_cast-span c = (span-natural (goal.at.overflow_cast-span c).Start).cast

pub altering_of-n-requires : goal.altering_of-n-requires
altering_of-n-requires c =
    let t = (goal.at.altering_of-n-requires c).After-turn_of-b in
    let s = (goal.at.After-turn_of-b t).Start in
    rw (turn_is (goal.at.After-turn_of-b t).After-turn_of-a, turn-is-2 t, (x-natural s).is, (span-natural s).is, to_z-of_z (z-fits s.requires.limits))
    (alterable s.requires.limits s.requires.limited s.requires.limited_2 s.requires.span_value s.requires.span_bound)

coarse-is : (c : After-altering_of-n) → c.altering_of-n.result.coarse ≡ coarse (goal.at.After-altering_of-n c).Start
coarse-is c =
    let t = (goal.at.After-altering_of-n c).After-turn_of-b in
    let s = (goal.at.After-turn_of-b t).Start in
    rw (turn_is (goal.at.After-turn_of-b t).After-turn_of-a, turn-is-2 t, (x-natural s).is) at c.altering_of-n.ensures.coarse

fine-is : (c : After-altering_of-n) → c.altering_of-n.result.fine ≡ fine (goal.at.After-altering_of-n c).Start
fine-is c =
    let t = (goal.at.After-altering_of-n c).After-turn_of-b in
    let s = (goal.at.After-turn_of-b t).Start in
    rw (turn_is (goal.at.After-turn_of-b t).After-turn_of-a, turn-is-2 t, (x-natural s).is, to_z-of_z (z-fits s.requires.limits)) at c.altering_of-n.ensures.fine

-- D, read back from its bits
fine-read : (c : After-altering_of-n) → to_z w64 (of_z w64 c.altering_of-n.result.fine) ≡ fine (goal.at.After-altering_of-n c).Start
fine-read c =
    let s = (goal.at.After-altering_of-n c).Start in
    ap (λ (D : ℤ). to_z w64 (of_z w64 D)) (fine-is c)
    ∙ to_z-of_z (fine-fits s.requires.limits s.requires.limited s.requires.limited_2 s.requires.span_value s.requires.span_bound)

pub overflow_cast-room : goal.overflow_cast-room
overflow_cast-room c = (room-natural (goal.at.overflow_cast-room c).Start).cast

ready : (c : After-altering_of-n) → Stored c.turn_of-a.result × (pos 1 ≤ℤ to_z w64 (of_z w64 c.altering_of-n.result.fine))
ready c =
    let t = (goal.at.After-altering_of-n c).After-turn_of-a in
    let s = (goal.at.After-turn_of-a t).Start in
    rw (turn_is t, fine-read c) (stored s.requires.limited, s.requires.pos_bound)

pub alter_period-working-requires : goal.alter_period-working-requires
alter_period-working-requires c = record { stored = (ready (goal.at.alter_period-working-requires c).After-altering_of-n).0; pos_bound = (ready (goal.at.alter_period-working-requires c).After-altering_of-n).1 }

period-is : (c : After-alter_period-working) → let s = (goal.at.After-alter_period-working c).Start in
    c.alter_period-working.result ≡ capped_at (up s.args.room) (working s).period
period-is c =
    let n = (goal.at.After-alter_period-working c).After-altering_of-n in
    let t = (goal.at.After-altering_of-n n).After-turn_of-a in
    let s = (goal.at.After-turn_of-a t).Start in
    rw ((room-natural s).is, turn_is t, fine-read n) at c.alter_period-working.ensures
    ∙ ap (λ (a : Size.Turn). capped_at (up s.args.room) a.period) (sym (working-is s))

pub returns-in_default : goal.returns-in_default
returns-in_default c =
    let t = (goal.at.returns-in_default c).After-alter_period-working in
    sym (failed 8 _ (capped-past _ _ (sym (period-is t) ∙ c.in_default.is)))

within : (c : In-Some) → let s = (goal.at.In-Some c).Start in
    capped_at (up s.args.room) (working s).period ≡ Some c.in-Some.period
within c = sym (period-is (goal.at.In-Some c).After-alter_period-working) ∙ c.in-Some.is

pub alter_distance-distance-requires : goal.alter_distance-distance-requires
alter_distance-distance-requires c =
    let n = (goal.at.alter_distance-distance-requires c).After-altering_of-n in
    record { stored = (ready n).0; pos_bound = (ready n).1; coarse_le_most_coarse = n.altering_of-n.ensures.bound }

distance_is : (c : After-alter_distance-distance) → let s = (goal.at.After-alter_distance-distance c).Start in
    c.alter_distance-distance.result ≡ alter_distance (fine-row s) (coarse s) (fine s)
distance_is c =
    let n = (goal.at.After-alter_distance-distance c).After-altering_of-n in
    rw (turn_is (goal.at.After-altering_of-n n).After-turn_of-a, coarse-is n, fine-read n) at c.alter_distance-distance.ensures

distance-below : (c : After-alter_distance-distance) → c.alter_distance-distance.result < 2 ^ 63
distance-below c =
    let n = (goal.at.After-alter_distance-distance c).After-altering_of-n in
    let s = (goal.at.After-altering_of-n n).Start in
    let k = (goal.at.After-alter_distance-distance c).In-Some in
    let r = stored s.requires.limited in
    let h = capped-half s.requires.room _ (within k) in
    let e = (within-is (within k)).0 in
    let w : (working s).period ≡ alter_period (fine-row s) (fine s) = ap (λ (a : Size.Turn). a.period) (working-is s) in
    let l = distance-short (fine-row s) (coarse s) (fine s) (up-mono s.requires.pos_bound) r.positive r.distance-at-most (up-mono s.requires.x_bound) in
    omega (arith, distance_is c, h, e, w, l)

pub overflow_cast-result : goal.overflow_cast-result
overflow_cast-result c =
    let k = (goal.at.overflow_cast-result c).In-Some in
    capped_fits k.requires.room _ (within k)

pub overflow_cast-result-2 : goal.overflow_cast-result-2
overflow_cast-result-2 c = distance-below c ∴ simp ints (omega arith)

pub returns : goal.returns
returns c =
    let k = (goal.at.returns c).In-Some in
    let s = (goal.at.In-Some k).Start in
    let t = s.ranges.span in
    let h = capped-half s.requires.room _ (within k) in
    let d = distance-below c in
    ap answer (same-extent (simp plain) (simp plain (ap pos (within-is (within k)).0)) (simp plain (ap pos (distance_is c ∙ ap (λ (a : Size.Turn). a.distance) (sym (working-is s))))))
    ∙ sym (passed 8 _ (capped-passes _ _ (within k)))
