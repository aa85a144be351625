-- `floats::whole_parts` meets its contract: v lies from low / 256 on and below high / 256.
use mathlib.Core.Path.{◌≡◌, sym, ◌∙◌, subst}
use mathlib.Core.Bool.{Bool, true}
use Prim.Native.Nat.{ℕ, suc, ◌*◌, ◌≤◌, ◌<◌}
use native.Mathlib.Omega.{arith}
use lib.Dec.{T}
use borrow.Author.Tests.{leb-true, leb-false}
use lib.Ieee.Positive.{num, den, den_pos}
use Rattle.floats.proofs.Parts.{not-above}
use Rattle.floats.proofs.whole_parts.Goals as goal
use Rattle.floats.proofs.whole_parts.Goals.{Start}

passed : {b : Bool} → b ≡ true → T b
passed e = subst T (sym e) tt

pub loop-high-init : goal.loop-high-init
loop-high-init c =
    let v = c.args.v in
    let small : num v ≤ den v = leb-true (num v) (den v) c.requires.1 in
    (omega arith, omega (arith, den_pos v), omega arith, omega arith)

pub loop-high-preserved-then-share_of-v : goal.loop-high-preserved-then-share_of-v
loop-high-preserved-then-share_of-v c =
    let s = (goal.at.loop-high-preserved-then-share_of-v c).Start in
    let k = c.loop-high in
    let l = leb-true _ _ (sym (not-above s.args.v _ _ (passed s.requires.0) c.share_of.ensures) ∙ c.if-share_of-v.true) in
    (l, k.invariant.1, omega arith, k.invariant.3)

pub loop-high-preserved : goal.loop-high-preserved
loop-high-preserved c =
    let s = (goal.at.loop-high-preserved c).Start in
    let k = c.loop-high in
    let l = leb-false _ _ (sym (not-above s.args.v _ _ (passed s.requires.0) c.share_of.ensures) ∙ c.if-share_of-v.false) in
    (k.invariant.0, l, omega arith, omega arith)

pub returns : goal.returns
returns c =
    let v = c.args.v in
    let k = c.loop-high in
    let e : k.high ≡ suc k.low = omega arith in
    record { least = k.invariant.0; most = subst (λ (n : ℕ). num v * 256 < n * den v) e k.invariant.1; few = omega arith }
