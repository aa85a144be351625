-- `floats::may_be_late` meets its contract.
use mathlib.Core.Path.{◌≡◌, sym, ap, ◌∙◌, subst}
use mathlib.Core.Bool.{Bool, true}
use native.Mathlib.Omega.{arith}
use lib.Dec.{T}
use Rattle.floats.proofs.Whole.{cast_fits}
use Rattle.floats.specs.Allowance.{is_allowed, may_be_late}
use Rattle.floats.proofs.Words.{late-fixed, positive-share, late-share}
use Rattle.floats.proofs.may_be_late.Goals as goal

passed : {b : Bool} → b ≡ true → T b
passed e = subst T (sym e) tt

pub int_to_float-late : goal.int_to_float-late
int_to_float-late c = cast_fits _ (omega arith)

pub int_to_float-result : goal.int_to_float-result
int_to_float-result c = cast_fits _ (omega arith)

pub returns-in-Fixed : goal.returns-in-Fixed
returns-in-Fixed c =
    let e = c.in-Fixed.is in
    late-fixed _ _ (omega arith) (passed (sym (ap is_allowed e) ∙ c.requires.2)) ∙ sym (ap (may_be_late _ _) e)

pub returns-in-Share : goal.returns-in-Share
returns-in-Share c =
    let e = c.in-Share.is in
    late-share _ (positive-share _ (passed (sym (ap is_allowed e) ∙ c.requires.2))) _ _ (omega arith) (omega arith) ∙ sym (ap (may_be_late _ _) e)
