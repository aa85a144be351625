-- `open_steps::steps::open_from` meets its contract: back for a k below 0, and on for another.
-- Assumes nothing.
use mathlib.Core.Path.{◌≡◌, refl, ◌∙◌, sym, ap, subst}
use Prim.Native.Nat.{ℕ, ◌^◌, ◌≤◌}
use native.Mathlib.Omega.{arith}
use borrow.Author.Rules.{sfits_of}
use lib.IntN.{ℤ, pos, negsuc, nat_abs, ◌-ℤ◌}
use lib.Signed.{◌≤ℤ◌, ◌<ℤ◌}
use mir.Facts.{to_z-of_z}
use mir.Syntax.{w64}
use mir.Val.{SFits}
use Rattle.integers.proofs.Linear.{ints, ◌∴◌}
use Rattle.integers.proofs.Machine.{plain}
use Rattle.integers.proofs.Order.{pos-up}
use Rattle.cursors.proofs.Cells.{cast-nat}
use Rattle.open_map.specs.Maps.{Map, map_given}
use Rattle.open_map.proofs.Numbers.{cast-up}
use Rattle.open_steps.specs.Ranked.{OpenFrom}
use Rattle.open_steps.proofs.steps.open_from.Goals as goal
use Rattle.open_steps.proofs.steps.open_from.Goals.{Else-k-lt0, Start, Then-k-lt0}

abbrev map : Start → Map
map s = map_given s.args.period s.args.words.now

small : (z : ℤ) → pos 0 ≤ℤ z → z ≤ℤ pos (2 ^ 31) → nat_abs z ≤ 2 ^ 31
small z h l = omega (arith, (cast-nat h).1, simp ints at (pos-up h), simp ints at l)

-- ---- back: -1 - k open instants lie between
abbrev between : Start → ℤ
between s = negsuc 0 -ℤ s.args.k

between-fits : (s : Start) → SFits w64 (between s)
between-fits s = s.requires.within.1 ∴ simp ints (omega arith)

near : (s : Start) → between s ≤ℤ pos (2 ^ 31)
near s = s.requires.within.1 ∴ simp ints (omega arith)

below : (c : Then-k-lt0) → pos 0 ≤ℤ between (goal.at.Then-k-lt0 c).Start
below c =
    let s = (goal.at.Then-k-lt0 c).Start in
    let k = s.ranges.k in
    let t : s.args.k <ℤ pos 0 = simp plain at c.if-k-lt0.true in
    t ∴ simp ints (omega arith)

pub overflow_sub-k : goal.overflow_sub-k
overflow_sub-k c = let s = (goal.at.overflow_sub-k c).Start in let k = s.ranges.k in simp plain (between-fits s)

pub overflow_cast-k : goal.overflow_cast-k
overflow_cast-k c =
    let s = (goal.at.overflow_cast-k c).Start in
    let k = s.ranges.k in
    let z = between-fits s in
    let n = small (between s) (below c) (near s) in
    simp plain ((cast-nat (below c)).0, record { fits = omega arith })

pub open_back-requires : goal.open_back-requires
open_back-requires c =
    let s = (goal.at.open_back-requires c).Start in
    let p = s.ranges.period in
    let t = s.ranges.t in
    let k = s.ranges.k in
    let z = between-fits s in
    record { sound = simp plain s.requires.sound; within = simp plain (s.requires.within.0, small (between s) (below c) (near s)) }

-- ---- on: k of them
above : (c : Else-k-lt0) → pos 0 ≤ℤ c.args.k
above c =
    let s = (goal.at.Else-k-lt0 c).Start in
    let k = s.ranges.k in
    simp plain at c.if-k-lt0.false

pub overflow_cast-k-else-k-lt0 : goal.overflow_cast-k-else-k-lt0
overflow_cast-k-else-k-lt0 c = let s = (goal.at.overflow_cast-k-else-k-lt0 c).Start in let n = cast-up s.args.k s.ranges.k (above c) in (n.0, n.1)

pub open_on-requires : goal.open_on-requires
open_on-requires c =
    let s = (goal.at.open_on-requires c).Start in
    let p = s.ranges.period in
    let t = s.ranges.t in
    let k = s.ranges.k in
    record { sound = simp plain s.requires.sound; within = simp plain (s.requires.within.0, small s.args.k (above c) (s.requires.within.1 ∴ simp ints (omega arith))) }

-- the numbers of open instants that are passed stand for k
back_is : (k z : ℤ) (n : ℕ) → z ≡ negsuc 0 -ℤ k → pos n ≡ z → negsuc n ≡ k
back_is k z n e p = e ∴ p ∴ simp ints (omega arith)

pub returns-then-k-lt0 : goal.returns-then-k-lt0
returns-then-k-lt0 c =
    let d = (goal.at.returns-then-k-lt0 c).Then-k-lt0 in
    let s = (goal.at.Then-k-lt0 d).Start in
    let p = s.ranges.period in
    let t = s.ranges.t in
    let k = s.ranges.k in
    let z = between-fits s in
    let o : OpenFrom (map s) s.args.t (negsuc (nat_abs (between s))) c.open_back.result = simp plain at c.open_back.ensures in
    let e = back_is s.args.k (between s) (nat_abs (between s)) refl (ap pos (cast-nat (below d)).1 ∙ pos-up (below d)) in
    subst (OpenFrom (map s) s.args.t s.args.k) (sym (to_z-of_z {w = w64} (sfits_of c.open_back.type_inv)))
    (subst (λ (m : ℤ). OpenFrom (map s) s.args.t m c.open_back.result) e o)

pub returns-else-k-lt0 : goal.returns-else-k-lt0
returns-else-k-lt0 c =
    let d = (goal.at.returns-else-k-lt0 c).Else-k-lt0 in
    let s = (goal.at.Else-k-lt0 d).Start in
    let p = s.ranges.period in
    let t = s.ranges.t in
    let k = s.ranges.k in
    let o : OpenFrom (map s) s.args.t (pos (nat_abs s.args.k)) c.open_on.result = simp plain at c.open_on.ensures in
    let e = ap pos (cast-nat (above d)).1 ∙ pos-up (above d) in
    subst (OpenFrom (map s) s.args.t s.args.k) (sym (to_z-of_z {w = w64} (sfits_of c.open_on.type_inv)))
    (subst (λ (m : ℤ). OpenFrom (map s) s.args.t m c.open_on.result) e o)
