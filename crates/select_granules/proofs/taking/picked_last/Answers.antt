-- `select_granules::taking::picked_last` meets its contract: the greatest of the tally of all is the last of them.
-- Assumes nothing.
use borrow.Author.Rules.{rules}
use mathlib.Core.Path.{◌≡◌, refl, sym, ◌∙◌, ap₂}
use mathlib.Core.Logic.{◌↔◌}
use mathlib.Core.List.{List, [], ◌∷◌}
use native.Mathlib.Omega.{arith}
use lib.IntN.{ℤ, pos}
use lib.ListN.{length}
use mir.Syntax.{w64}
use mir.Val.{SFits, of_z}
use Rattle.integers.proofs.Linear.{ints, ◌∴◌}
use Rattle.integers.proofs.Machine.{plain, test-eq}
use Rattle.calendar.specs.Questions.{given}
use Rattle.cursors.proofs.Numbers.{numbers}
use Rattle.candidates.specs.Tallies.{candidates, last_or}
use Rattle.select_granules.specs.Memos.{picked_of}
use Rattle.select_granules.proofs.taking.picked_last.Goals as goal
use Rattle.select_granules.proofs.taking.picked_last.Goals.{After-counted_all-all, Start}

-- the granules in question
abbrev asked : Start → List ℤ
asked s =
    candidates s.args.whole (given s.args.a_period s.args.a_distance s.args.a_cells.now)
    (given s.args.b_period s.args.b_distance s.args.b_cells.now) s.args.i

-- what the tally says
record All (l : List ℤ) (n high : ℤ) : Type 0 where
  pub count-is : n ≡ pos (length l)
  pub high_is : high ≡ last_or (pos 0) l
  pub count_fits : SFits w64 n

all : (c : After-counted_all-all)
    → All (asked (goal.at.After-counted_all-all c).Start) c.counted_all-all.result.count c.counted_all-all.result.high
all c =
    let s = (goal.at.After-counted_all-all c).Start in
    let p = s.ranges.a_period in
    let n = s.ranges.a_distance in
    let q = s.ranges.b_period in
    let m = s.ranges.b_distance in
    let i = s.ranges.i in
    let e = simp plain at c.counted_all-all.ensures in
    let b = numbers s.args.b_period s.args.b_distance s.args.b_cells.now s.requires.sound_2 in
    record {
      count-is = e.count;
      high_is = e.last;
      count_fits = e.count ∴ e.few ∴ b.period-is ∴ b.high ∴ simp ints (omega arith);
    }

zero-fits : SFits w64 (pos 0)
zero-fits = simp ints (omega arith)

-- the test for none
is-zero : (c : After-counted_all-all) → let n = c.counted_all-all.result.count in (of_z w64 n ≡ 0) ↔ (n ≡ pos 0)
is-zero c = test-eq w64 c.counted_all-all.result.count (pos 0) (all c).count_fits zero-fits

-- of no members the last is what stands for it
none_last : (d : ℤ) (l : List ℤ) → pos (length l) ≡ pos 0 → d ≡ last_or d l
none_last d [] e = refl
none_last d (x ∷ l) e = absurd (e ∴ simp ints (omega arith))

pub returns-then-all-eq0 : goal.returns-then-all-eq0
returns-then-all-eq0 c =
    let k = (goal.at.returns-then-all-eq0 c).After-counted_all-all in
    let s = (goal.at.After-counted_all-all k).Start in
    let i = s.ranges.i in
    let z = zero-fits in
    let o : SFits w64 (pos 1) = simp ints (omega arith) in
    let a = all k in
    let none = sym a.count-is ∙ (is-zero k).0 c.if-all-eq0.true in
    simp plain at c.picked_of.ensures
    ∙ ap₂ (picked_of s.args.i) (none_last (pos 1) (asked s) none) (none_last (pos 0) (asked s) none)

-- of some members the last is there
some-last : (d e : ℤ) (l : List ℤ) → ¬ (pos (length l) ≡ pos 0) → last_or d l ≡ last_or e l
some-last d e [] f = absurd (f refl)
some-last d e (x ∷ l) f = refl

pub returns : goal.returns
returns c =
    let k = (goal.at.returns c).After-counted_all-all in
    let s = (goal.at.After-counted_all-all k).Start in
    let i = s.ranges.i in
    let a = all k in
    let h : SFits w64 k.counted_all-all.result.high = search rules in
    let some : ¬ (pos (length (asked s)) ≡ pos 0) = λ e. c.if-all-eq0.false ((is-zero k).1 (a.count-is ∙ e)) in
    let low = a.high_is ∙ some-last (pos 0) (pos 1) (asked s) some in
    simp plain at c.picked_of-2.ensures ∙ ap₂ (picked_of s.args.i) low a.high_is
