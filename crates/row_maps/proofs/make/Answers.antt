-- `row_maps::make` meets its contract: 13 for the row, 13 for the words, then the map.
-- Assumes nothing.
use mathlib.Core.Path.{◌≡◌, refl, ◌∙◌, sym, ap}
use mathlib.Core.Bool.{Bool, true, false, ◌&&◌}
use mathlib.Core.List.{List}
use Prim.Native.Nat.{ℕ}
use native.Mathlib.Omega.{arith}
use borrow.Author.Tests.{not-true, not-false, eq-eqb, ne_eqb}
use lib.Dec.{eqb}
use lib.ListN.{length}
use Rattle.integers.proofs.Machine.{plain}
use Rattle.calendar.specs.Meaning.{Row}
use Rattle.calendar.specs.Reply.{Reply, require}
use Rattle.calendar.specs.Reply.Reply.{refused, answer}
use Rattle.calendar.specs.Sound.{sound}
use Rattle.calendar.specs.Questions.{given}
use Rattle.cursors.proofs.Numbers.{Numbers, numbers}
use Rattle.bitmaps.specs.Cells.{words_for}
use Rattle.row_maps.specs.Making.{map_of, map_reply, map_after, refusal}
use Rattle.row_maps.proofs.make.Goals as goal
use Rattle.row_maps.proofs.make.Goals.{After-clear, After-clear-then-words-cells, After-fill, After-sound, Else-not-sound, Else-words-cells, Start, Then-not-sound, Then-words-cells}

abbrev row : Start → Row
row s = given s.args.period s.args.distance s.args.cells.now

-- how many words are lent, and what is replied
abbrev lent : Start → ℕ
lent s = length s.args.words.now

abbrev reply : Start → Reply (List ℕ)
reply s = map_reply (row s) (lent s)

tested : (c : After-sound) → c.sound.result ≡ sound (row (goal.at.After-sound c).Start)
tested c =
    let p = c.ranges.period in
    let n = c.ranges.distance in
    simp plain at c.sound.ensures

decide : (s : Start) (a b : Bool) → sound (row s) ≡ a → eqb (lent s) (words_for (row s).period) ≡ b → reply s ≡ require 13 (a && b) (answer (map_of s.args.cells.now))
unfolding map_reply
decide s a b p q = simp (p, q)

-- the row is not sound
unsound : (c : Then-not-sound) → reply (goal.at.Then-not-sound c).Start ≡ refused 13
unsound c = decide (goal.at.Then-not-sound c).Start false _ (sym (tested (goal.at.Then-not-sound c).After-sound) ∙ not-true _ c.if-not-sound.true-raw) refl

pub returns-then-not-sound : goal.returns-then-not-sound
returns-then-not-sound c =
    let k = (goal.at.returns-then-not-sound c).After-clear in
    let t = (goal.at.After-clear k).Then-not-sound in
    let s = (goal.at.Then-not-sound t).Start in
    record { answered = sym (ap refusal (unsound t)); written = k.clear.ensures ∙ sym (ap (map_after (lent s)) (unsound t)) }

is-sound : (c : Else-not-sound) → sound (row (goal.at.Else-not-sound c).Start) ≡ true
is-sound c = sym (tested (goal.at.Else-not-sound c).After-sound) ∙ not-false _ c.if-not-sound.false-raw

known : (c : Else-not-sound) → let s = (goal.at.Else-not-sound c).Start in Numbers s.args.period s.args.distance s.args.cells.now
known c = let s = (goal.at.Else-not-sound c).Start in numbers s.args.period s.args.distance s.args.cells.now (is-sound c)

-- the words do not fit it
unfit : (c : Then-words-cells) → reply (goal.at.Then-words-cells c).Start ≡ refused 13
unfit c =
    let s = (goal.at.Then-words-cells c).Start in
    decide s true false (is-sound (goal.at.Then-words-cells c).Else-not-sound) (ne_eqb (lent s) _ (λ e. c.if-words-cells.true (e ∙ ap words_for (sym (known (goal.at.Then-words-cells c).Else-not-sound).whole))))

pub returns-then-words-cells : goal.returns-then-words-cells
returns-then-words-cells c =
    let k = (goal.at.returns-then-words-cells c).After-clear-then-words-cells in
    let t = (goal.at.After-clear-then-words-cells k).Then-words-cells in
    let s = (goal.at.Then-words-cells t).Start in
    record { answered = sym (ap refusal (unfit t)); written = k.clear-then-words-cells.ensures ∙ sym (ap (map_after (lent s)) (unfit t)) }

pub overflow_add-cells : goal.overflow_add-cells
overflow_add-cells c = omega (arith, (known c).whole, (known c).high)

pub fill-requires : goal.fill-requires
fill-requires c = let e = (goal.at.fill-requires c).Else-not-sound in record { cells_len_bound = omega (arith, (known e).whole, (known e).high); words_len = c.if-words-cells.false }

-- it is made
fit : (c : Else-words-cells) → let s = (goal.at.Else-words-cells c).Start in reply s ≡ answer (map_of s.args.cells.now)
fit c =
    let s = (goal.at.Else-words-cells c).Start in
    decide s true true (is-sound (goal.at.Else-words-cells c).Else-not-sound) (eq-eqb (lent s) _ (c.if-words-cells.false ∙ ap words_for (known (goal.at.Else-words-cells c).Else-not-sound).whole))

pub returns : goal.returns
returns c =
    let k = (goal.at.returns c).After-fill in
    let t = (goal.at.After-fill k).Else-words-cells in
    let s = (goal.at.Else-words-cells t).Start in
    record { answered = sym (ap refusal (fit t)); written = k.fill.ensures ∙ sym (ap (map_after (lent s)) (fit t)) }
