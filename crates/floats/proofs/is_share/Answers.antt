-- `floats::is_share` meets its contract.
use mathlib.Core.Path.{◌≡◌, sym, ◌∙◌, subst}
use mathlib.Core.Bool.{Bool, true}
use lib.Dec.{T, leb}
use lib.Ieee.{of_bits}
use lib.Ieee.Positive.{num, den}
use Rattle.floats.specs.Allowance.{amount}
use Rattle.floats.proofs.Words.{le-one}
use Rattle.floats.proofs.Parts.{not-below, share-by-parts, share-amount, share-small}
use Rattle.floats.proofs.is_share.Goals as goal
use Rattle.floats.proofs.is_share.Goals.{Then-is_amount, Then-v}

passed : {b : Bool} → b ≡ true → T b
passed e = subst T (sym e) tt

-- what the two tests show
is-amount : (c : Then-is_amount) → amount c.args.v ≡ true
is-amount c = sym c.is_amount.ensures ∙ c.if-is_amount.true

is-small : (c : Then-v) → leb (num c.args.v) (den c.args.v) ≡ true
unfolding of_bits
is-small c = sym (le-one c.args.v (passed (is-amount (goal.at.Then-v c).Then-is_amount))) ∙ c.if-v.true

pub whole_parts-requires : goal.whole_parts-requires
whole_parts-requires c = (is-amount (goal.at.whole_parts-requires c).Then-is_amount, is-small c)

pub returns-then-v : goal.returns-then-v
returns-then-v c =
    let t = (goal.at.returns-then-v c).Then-v in
    let v = t.args.v in
    not-below v _ _ (passed (is-amount (goal.at.Then-v t).Then-is_amount)) c.share_of.ensures
    ∙ sym (share-by-parts v _ (is-amount (goal.at.Then-v t).Then-is_amount) (is-small t) c.whole_parts.ensures)

pub returns-else-v : goal.returns-else-v
unfolding of_bits
returns-else-v c =
    let v = c.args.v in
    let a = is-amount (goal.at.returns-else-v c).Then-is_amount in
    sym (share-small v a (sym (le-one v (passed a)) ∙ c.if-v.false))

pub returns-else-is_amount : goal.returns-else-is_amount
returns-else-is_amount c = sym (share-amount c.args.v (sym c.is_amount.ensures ∙ c.if-is_amount.false))
