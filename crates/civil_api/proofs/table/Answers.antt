-- `civil_api::table` meets its contract. The loop's invariant: the numbers before i are those that are to be left.
-- Assumes nothing.
use borrow.Author.Rules.{sfits_of}
use mathlib.Core.Path.{sym, ◌∙◌, ap}
use mathlib.Core.Bool.{Bool, cond}
use lib.IntN.{pos, negsuc}
use mir.Facts.{to_z-of_z}
use mir.Syntax.{w32}
use borrow.Author.Tests.{le-leb, lt-leb}
use Rattle.civil_api.proofs.Tables.{written_none, written-more, written_all}
use Rattle.civil_api.proofs.table.Goals as goal

pub loop-i-init : goal.loop-i-init
loop-i-init c = written_none _

pub loop-i-preserved : goal.loop-i-preserved
loop-i-preserved c =
    let i = c.loop-i.i in
    written-more c.loop-i.invariant c.loop-i-test.true _
    (to_z-of_z {w = w32} (sfits_of c.number_at.type_inv) ∙ c.number_at.ensures)

pub returns-then-n-lt66 : goal.returns-then-n-lt66
returns-then-n-lt66 c =
    record { code = sym (ap (λ (b : Bool). cond b (pos 66) (negsuc 0)) (lt-leb 66 _ c.if-n-lt66.true)); list = written_all c.loop-i.invariant c.loop-i-test.false }

pub returns-else-n-lt66 : goal.returns-else-n-lt66
returns-else-n-lt66 c =
    record { code = sym (ap (λ (b : Bool). cond b (pos 66) (negsuc 0)) (le-leb 66 _ c.if-n-lt66.false)); list = written_all c.loop-i.invariant c.loop-i-test.false }
