-- The digits of n / 10, and the last one behind them.
-- Assumes nothing.
use mathlib.Core.Path.{sym, ap, ◌∙◌}
use mathlib.Core.List.{List, [], ◌∷◌, ◌++◌, append_assoc}
use Prim.Native.Nat.{ℕ, ◌/◌}
use Rattle.table_text.proofs.Decimal.{decimal-small, decimal_step}
use Rattle.table_text.specs.Numerals.{decimal}
use Rattle.sheet_lines.proofs.Laying.{relay}
use Rattle.sheet_lines.proofs.+write_decimal.Goals as goal

pub returns-then-n-lt10 : goal.returns-then-n-lt10
returns-then-n-lt10 t c =
    let n = c.args.n in
    λ u o h. relay
    (ap (λ (b : ℕ). u ++ (b ∷ [])) c.digit.ensures ∙ ap (λ (w : List ℕ). u ++ w) (sym (decimal-small n c.if-n-lt10.true)))
    (c.push.ensures u o h)

pub returns : goal.returns
returns t c =
    let n = c.args.n in
    λ u o h. relay
    (append_assoc u (decimal (n / 10)) _
    ∙ ap (λ (b : ℕ). u ++ (decimal (n / 10) ++ (b ∷ []))) c.digit-2.ensures
    ∙ ap (λ (w : List ℕ). u ++ w) (sym (decimal_step n c.if-n-lt10.false)))
    (c.push-2.ensures (u ++ decimal (n / 10)) o (c.write_decimal-k.ensures u o h))
