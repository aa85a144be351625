-- `row_entry::enter` meets its contract: a refusal of the checks is that of the operation, and what has passed them is written.
-- Assumes nothing.
use Rattle.std.proofs.lemmas.Result.{err_from_is_err_and}
use mathlib.Core.Path.{◌≡◌, refl, sym, ◌∙◌, ap}
use Prim.Native.Nat.{◌-◌, ◌^◌, ◌<◌}
use borrow.Author.Rules.{rules}
use native.Mathlib.Omega.{arith}
use lib.ListN.{length}
use Rattle.integers.proofs.Machine.{plain}
use Rattle.operand_checks.specs.Admission.{admission, checked_reply}
use Rattle.fill_shared.specs.Placed.{over}
use Rattle.row_entry.proofs.Numbers.{number-limits}
use Rattle.row_entry.proofs.Admitted.{refused-before}
use Rattle.row_entry.proofs.enter.Goals as goal
use Rattle.row_entry.proofs.enter.Goals.{After-check_in}

pub check_in-requires : goal.check_in-requires
check_in-requires c =
    let e = c.requires in
    record {
      numbers = e.numbers;
      sound_first = e.sounds;
      counted_first = e.counted;
      before = record { period = e.a-before.period; ends = omega arith };
      before_2 = record { period = e.b-before.period; ends = omega arith };
      pool_len_bound = e.at-most;
      pos_bound = number-limits (length c.args.pool.now - c.args.used) (omega (arith, e.at-most));
    }

-- what the checks come to
checks : (c : After-check_in) → let a = c.args in
    checked_reply c.check_in.result ≡ admission (over a.kind a.pool.now a.a a.b) (length a.pool.now - a.used)
checks c =
    let u : length c.args.pool.now - c.args.used < 2 ^ 63 = omega (arith, c.requires.at-most) in
    simp plain at c.check_in.ensures

pub write-requires : goal.write-requires
write-requires c =
    let k = (goal.at.write-requires c).After-check_in in
    record { enterable = k.requires; used_value = sym (checks k) ∙ ap checked_reply c.in_ok-extent.was }

pub returns-in_err-extent : goal.returns-in_err-extent
returns-in_err-extent c =
    let k = (goal.at.returns-in_err-extent c).After-check_in in
    record {
      lengths = (search rules, search rules);
      became = let p = err_from_is_err_and c.from_residual.result c.from_residual.ensures.1 in rw (p.1, p.2) (refused-before _ _ _ (sym (checks k) ∙ ap checked_reply c.in_err-extent.was), record { numbers = refl; cells = refl });
    }
