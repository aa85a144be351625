-- `questions_api::allowance_of` meets its contract: the arms of the match are those of `allowance_of`.
use mathlib.Core.Path.{◌≡◌, refl, sym, ap}
use mathlib.Core.Bool.{true}
use Prim.Native.Nat.{zero, suc}
use lib.IntN.{ℤ, pos, negsuc}
use lib.Ieee.{Float, fin, of_bits, neg}
use mir.Syntax.{w64}
use mir.Val.{SFits, of_z}
use native.Mathlib.Omega.{arith}
use Rattle.integers.proofs.Linear.{ints}
use Rattle.integers.proofs.Machine.{test-eq}
use Rattle.floats.specs.declared.Allowance.TheVariants.{Fixed, Share}
use Rattle.questions_api.specs.Codes.{allowance_of}
use Rattle.questions_api.proofs.allowance_of.Goals as goal
use Rattle.questions_api.proofs.allowance_of.Goals.{Start}

zero-fits : SFits w64 (pos 0)
zero-fits = simp ints (omega arith)

one-fits : SFits w64 (pos 1)
one-fits = simp ints (omega arith)

fixed : (rule : ℤ) (v : Float) → rule ≡ pos 0 → Fixed v ≡ allowance_of rule v
fixed rule v e = sym (ap (λ (k : ℤ). allowance_of k v) e)

shared : (rule : ℤ) (v : Float) → rule ≡ pos 1 → Share v ≡ allowance_of rule v
shared rule v e = sym (ap (λ (k : ℤ). allowance_of k v) e)

another : (rule : ℤ) (v : Float) → (rule ≡ pos 0 → ⊥) → (rule ≡ pos 1 → ⊥) → Fixed (fin true 1 (pos 0)) ≡ allowance_of rule v
another (pos zero) v n m = absurd (n refl)
another (pos (suc zero)) v n m = absurd (m refl)
another (pos (suc (suc k))) v n m = refl
another (negsuc k) v n m = refl

pub returns-in-0 : goal.returns-in-0
returns-in-0 c =
    let s = (goal.at.returns-in-0 c).Start in
    fixed s.args.rule s.args.amount ((test-eq w64 s.args.rule (pos 0) s.ranges.rule zero-fits).0 c.in-0.in-0-own.keys1)

pub returns-in-1 : goal.returns-in-1
returns-in-1 c =
    let s = (goal.at.returns-in-1 c).Start in
    shared s.args.rule s.args.amount ((test-eq w64 s.args.rule (pos 1) s.ranges.rule one-fits).0 c.in-1.in-1-own.keys2)

pub returns-in_default : goal.returns-in_default
unfolding of_bits neg
returns-in_default c =
    let s = (goal.at.returns-in_default c).Start in
    another s.args.rule s.args.amount
    (λ e. c.in_default.in_default-own.rest.0.1 (ap (of_z w64) e))
    (λ e. c.in_default.in_default-own.rest.1 (ap (of_z w64) e))
