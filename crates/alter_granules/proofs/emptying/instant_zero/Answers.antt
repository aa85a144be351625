-- `alter_granules::emptying::instant_zero` meets its contract: 0 is a label, so an instant is found; its turn is at most 1,000,000,000 from the first.
-- Assumes nothing.
use mathlib.Core.Path.{◌≡◌, sym, ◌∙◌, ap}
use mathlib.Core.Option.{some}
use mathlib.Core.List.{List}
use Prim.Native.Nat.{ℕ, suc, ◌*◌, ◌^◌, ◌≤◌}
use native.Mathlib.Nat.{mul-le-mul_right}
use native.Mathlib.Omega.{arith}
use lib.IntN.{ℤ, pos, negsuc, ◌-ℤ◌, ◌*ℤ◌}
use mir.Syntax.{w64}
use mir.Val.{SFits}
use Rattle.integers.specs.Parts.{up}
use Rattle.integers.specs.Floor.{floor_div, floor_mod}
use Rattle.integers.proofs.Linear.{ints, ◌∴◌}
use Rattle.integers.proofs.Machine.{plain}
use Rattle.integers.proofs.Floor.{floor-eq, floor-lt}
use Rattle.calendar.specs.Limits.{pool_limit}
use Rattle.calendar.specs.Meaning.{Row, meant}
use Rattle.calendar.specs.Granules.{instant_of}
use Rattle.calendar.specs.Questions.{given}
use Rattle.granules.proofs.Rows.{meant-some}
use Rattle.granules.proofs.Instants.{instant_of-labelled, instant_of-none}
use Rattle.cursors.specs.Found.{found, Sound, Within}
use Rattle.cursors.proofs.Numbers.{numbers, valid}
use Rattle.cursors.proofs.Bounds.{cell-bound}
use Rattle.alter_granules.proofs.emptying.instant_zero.Goals as goal
use Rattle.alter_granules.proofs.emptying.instant_zero.Goals.{After-instant_of-found, Start}

-- q turns, over which labels rise by at most 1,000,000,000
turns-bound : (P N : ℕ) (q : ℤ) → 1 ≤ N → P ≤ pool_limit → Within 1000000000 (pos 0 -ℤ pos N *ℤ q) → Within (pool_limit * 1000000000) (pos P *ℤ q)
turns-bound P N (pos k) h small w = w ∴ mul-le-mul_right k h ∴ mul-le-mul_right k small ∴ simp ints (omega arith)
turns-bound P N (negsuc k) h small w = w ∴ mul-le-mul_right (suc k) h ∴ mul-le-mul_right (suc k) small ∴ simp ints (omega arith)

-- an instant with the label 0 is near
zero-near : (period distance : ℤ) (cells : List ℤ) → Sound period distance cells → (t : ℤ) → meant (given period distance cells) t ≡ some (pos 0) → Within (2 ^ 52) t
zero-near period distance cells s t e =
    let n = numbers period distance cells s in
    let P = up period in
    let N = up distance in
    let above : 1 ≤ P = omega (arith, n.low, n.middle) in
    let c = cell-bound period distance cells s (floor_mod t P) (pos 0 -ℤ pos N *ℤ floor_div t P) ((meant-some (given period distance cells) t (pos 0)).0 e) in
    turns-bound P N (floor_div t P) n.low n.high c ∴ floor-eq P above t ∴ floor-lt P above t ∴ n.high ∴ simp ints (omega arith)

abbrev row : Start → Row
row s = given s.args.period s.args.distance s.args.cells.now

found-is : (c : After-instant_of-found) → found c.instant_of-found.result ≡ instant_of (row (goal.at.After-instant_of-found c).Start) (pos 0)
found-is c =
    let s = (goal.at.After-instant_of-found c).Start in
    let p = s.ranges.period in
    let d = s.ranges.distance in
    simp plain at c.instant_of-found.ensures.result_value

pub returns-in_default : goal.returns-in_default
returns-in_default c =
    let d = (goal.at.returns-in_default c).After-instant_of-found in
    let s = (goal.at.After-instant_of-found d).Start in
    let v = valid s.args.period s.args.distance s.args.cells.now s.requires.sound in
    absurd (instant_of-none (row s) v (pos 0) (sym (found-is d) ∙ ap found c.in_default.is) (s.requires.full (pos 0)))

pub returns : goal.returns
returns c =
    let d = (goal.at.returns c).After-instant_of-found in
    let s = (goal.at.After-instant_of-found d).Start in
    let v = valid s.args.period s.args.distance s.args.cells.now s.requires.sound in
    let e = instant_of-labelled (row s) v (pos 0) c.in-Some.t (sym (found-is d) ∙ ap found c.in-Some.is) in
    let n = zero-near s.args.period s.args.distance s.args.cells.now s.requires.sound c.in-Some.t e in
    let f : SFits w64 c.in-Some.t = n.0 ∴ n.1 ∴ simp ints (omega arith) in
    record { label = simp plain e; near = simp plain n }
