-- `questions_api::down` meets its contract: the code of what `questions::down::down` answers, and the list as it leaves it. The count fits, since the
-- list has room for the parts.
use borrow.Author.Rules.{rules, sfits_of}
use mathlib.Core.Path.{◌≡◌, sym, ◌∙◌, ap}
use mathlib.Core.List.{List}
use Prim.Native.Nat.{ℕ, ◌<◌, ◌^◌}
use native.Mathlib.Omega.{arith}
use lib.IntN.{ℤ}
use lib.ListN.{length}
use mir.Facts.{to_z-of_z}
use mir.Syntax.{w64}
use Rattle.integers.proofs.Machine.{plain}
use Rattle.calendar.specs.Reply.{Reply}
use Rattle.calendar.specs.Questions.{given, down}
use Rattle.codes.proofs.Counts.{count_fits, count-back}
use Rattle.questions.specs.Answers.{parts_reply, counted, parts_after}
use Rattle.questions_api.specs.Codes.{down_code}
use Rattle.questions_api.proofs.Counts.{count-within}
use Rattle.questions_api.proofs.down.Goals as goal
use Rattle.questions_api.proofs.down.Goals.{After-down-parted, In-Ok, Start}

abbrev room : Start → ℕ
room s = length s.args.parts.now

abbrev reply : Start → Reply (List ℤ)
reply s =
    down (given s.args.h_period s.args.h_distance s.args.h_cells.now)
    (given s.args.g_period s.args.g_distance s.args.g_cells.now)
    s.args.z
    (room s)

abbrev Replied : After-down-parted → Type 0
Replied c =
    let s = (goal.at.After-down-parted c).Start in
    (parts_reply c.down-parted.result ≡ counted (reply s)) × (c.down-parted.new.parts ≡ parts_after (room s) (reply s))

replied : (c : After-down-parted) → Replied c
replied c =
    let s = (goal.at.After-down-parted c).Start in
    let p = s.ranges.g_period in
    let n = s.ranges.g_distance in
    let q = s.ranges.h_period in
    let m = s.ranges.h_distance in
    let z = s.ranges.z in
    (simp plain at c.down-parted.ensures.answer, simp plain at c.down-parted.ensures.list)

-- the count is below half of the numbers of 64 bits
small : (c : In-Ok) → c.in-Ok.n < 2 ^ 63
small c =
    let d = (goal.at.In-Ok c).After-down-parted in
    let l : length c.down-parted.new.parts ≡ room (goal.at.In-Ok c).Start = search rules in
    let h = count-within (reply (goal.at.In-Ok c).Start) (sym (ap parts_reply c.in-Ok.is) ∙ (replied d).0) (replied d).1 l in
    let m : room (goal.at.In-Ok c).Start < 2 ^ 63 = search rules in
    omega (arith, h, m)

pub overflow_cast-result : goal.overflow_cast-result
overflow_cast-result c = count_fits c.in-Ok.n (small c)

pub returns-in-Ok : goal.returns-in-Ok
returns-in-Ok c =
    let d = replied (goal.at.returns-in-Ok c).After-down-parted in
    record { code = count-back c.in-Ok.n (small (goal.at.returns-in-Ok c).In-Ok) ∙ ap down_code (sym (ap parts_reply c.in-Ok.is) ∙ d.0); list = d.1 }

pub returns-in-Err : goal.returns-in-Err
returns-in-Err c =
    let d = replied (goal.at.returns-in-Err c).After-down-parted in
    record { code = to_z-of_z {w = w64} (sfits_of c.refusal_code.type_inv) ∙ c.refusal_code.ensures ∙ ap down_code (sym (ap parts_reply c.in-Err.is) ∙ d.0); list = d.1 }
