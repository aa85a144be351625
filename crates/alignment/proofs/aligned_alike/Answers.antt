-- `alignment::aligned_alike` meets its contract: rows whose labels rise apart are not aligned; with a row of one cell its labels tell.
-- Assumes nothing.
use borrow.Author.Tests.{not-false}
use mathlib.Core.Path.{◌≡◌, sym, ◌∙◌, ap}
use mathlib.Core.Bool.{true}
use lib.IntN.{pos, ◌*ℤ◌}
use mir.Facts.{sfits_lit}
use mir.Syntax.{w64}
use mir.Val.{SFits}
use Rattle.integers.proofs.Machine.{plain, test-eq}
use Rattle.calendar.specs.Meaning.{Row}
use Rattle.calendar.specs.Operation as O
use Rattle.calendar.specs.Lists.{equal}
use Rattle.calendar.specs.Checks.{aligned_as}
use Rattle.calendar.specs.Questions.{given}
use Rattle.granules.proofs.Tests.{not_iff, equal-iff, test-ext}
use Rattle.alignment.specs.Fits.{alignment_of}
use Rattle.alignment.proofs.Read.{aligned-read}
use Rattle.alignment.proofs.Choices.{outcome}
use Rattle.alignment.proofs.Rising.{limited, unlike, alike}
use Rattle.alignment.proofs.OneCell.{first-own, second-own, is-compatible}
use Rattle.alignment.proofs.aligned_alike.Goals as goal
use Rattle.alignment.proofs.aligned_alike.Goals.{After-are_own, After-rise_alike, Else-not-rise_alike, Start, Then-a_period-eq1, Then-is_compatible, Then-is_compatible-2}

abbrev row-a : Start → Row
row-a s = given s.args.a_period s.args.a_distance s.args.a_cells.now

abbrev row-b : Start → Row
row-b s = given s.args.b_period s.args.b_distance s.args.b_cells.now

pub rise_alike-requires : goal.rise_alike-requires
rise_alike-requires s =
    let p = s.ranges.a_period in
    let n = s.ranges.a_distance in
    let q = s.ranges.b_period in
    let m = s.ranges.b_distance in
    record { limited = simp plain (limited _ _ _ s.requires.sound); limited_2 = simp plain (limited _ _ _ s.requires.sound_2) }

-- whether the labels rise alike
rising : (c : After-rise_alike) → let a = c.args in c.rise_alike.result ≡ equal (a.a_distance *ℤ a.b_period) (a.b_distance *ℤ a.a_period)
rising c =
    let s = (goal.at.After-rise_alike c).Start in
    let p = s.ranges.a_period in
    let n = s.ranges.a_distance in
    let q = s.ranges.b_period in
    let m = s.ranges.b_distance in
    simp plain at c.rise_alike.ensures

pub returns-then-not-rise_alike : goal.returns-then-not-rise_alike
returns-then-not-rise_alike c =
    let s = (goal.at.returns-then-not-rise_alike c).Start in
    let a = s.args in
    sym (unlike a.a_period a.a_distance a.b_period a.b_distance a.a_cells.now a.b_cells.now s.requires.sound s.requires.sound_2
    (alignment_of a.k) s.requires.k_value (outcome (rising (goal.at.returns-then-not-rise_alike c).After-rise_alike) ((not_iff c.rise_alike.result).0 c.if-not-rise_alike.true-raw)))

-- the labels rise alike
rises : (c : Else-not-rise_alike) → let a = c.args in equal (a.a_distance *ℤ a.b_period) (a.b_distance *ℤ a.a_period) ≡ true
rises c = outcome (rising (goal.at.Else-not-rise_alike c).After-rise_alike) (not-false c.rise_alike.result c.if-not-rise_alike.false-raw)

-- ---- a has one cell
a_one : (c : Then-a_period-eq1) → c.args.a_period ≡ pos 1
a_one c =
    let s = (goal.at.Then-a_period-eq1 c).Start in
    let o : SFits w64 (pos 1) = sfits_lit tt in
    (test-eq w64 s.args.a_period (pos 1) s.ranges.a_period o).0 c.if-a_period-eq1.true

pub is_along-requires : goal.is_along-requires
is_along-requires c =
    let s = (goal.at.is_along-requires c).Start in
    let p = s.ranges.a_period in
    let n = s.ranges.a_distance in
    let q = s.ranges.b_period in
    let m = s.ranges.b_distance in
    record { sound = simp plain (s.requires.sound, a_one c); sound_2 = simp plain s.requires.sound_2 }

pub returns-then-a_period-eq1 : goal.returns-then-a_period-eq1
returns-then-a_period-eq1 c =
    let s = (goal.at.returns-then-a_period-eq1 c).Start in
    let a = s.args in
    let h = first-own a.a_period a.a_distance a.b_period a.b_distance a.a_cells.now a.b_cells.now s.requires.sound s.requires.sound_2
    (rises (goal.at.returns-then-a_period-eq1 c).Else-not-rise_alike) (a_one (goal.at.returns-then-a_period-eq1 c).Then-a_period-eq1) (alignment_of a.k) s.requires.k_value in
    test-ext (λ e. h.0 (c.is_along.ensures.is e)) (λ e. c.is_along.ensures.back (h.1 e))

b-one : (c : Then-is_compatible) → c.args.b_period ≡ pos 1
b-one c =
    let s = (goal.at.Then-is_compatible c).Start in
    let o : SFits w64 (pos 1) = sfits_lit tt in
    (test-eq w64 s.args.b_period (pos 1) s.ranges.b_period o).0 c.if-b_period-eq1.true

pub is_along-requires-then-is_compatible : goal.is_along-requires-then-is_compatible
is_along-requires-then-is_compatible c =
    let s = (goal.at.is_along-requires-then-is_compatible c).Start in
    let p = s.ranges.a_period in
    let n = s.ranges.a_distance in
    let q = s.ranges.b_period in
    let m = s.ranges.b_distance in
    record { sound = simp plain (s.requires.sound_2, b-one c); sound_2 = simp plain s.requires.sound }

pub returns-then-is_compatible : goal.returns-then-is_compatible
returns-then-is_compatible c =
    let t = (goal.at.returns-then-is_compatible c).Then-is_compatible in
    let r = (goal.at.Then-is_compatible t).Else-not-rise_alike in
    let s = (goal.at.Else-not-rise_alike r).Start in
    let a = s.args in
    let x = a.a_distance *ℤ a.b_period in
    let y = a.b_distance *ℤ a.a_period in
    let h = second-own a.b_period a.b_distance a.a_period a.a_distance a.b_cells.now a.a_cells.now s.requires.sound_2 s.requires.sound
    ((equal-iff y x).1 (sym ((equal-iff x y).0 (rises r)))) (b-one t) in
    test-ext (λ e. h.0 (c.is_along-then-is_compatible.ensures.is e)) (λ e. c.is_along-then-is_compatible.ensures.back (h.1 e))
    ∙ ap (λ (k : O.Alignment). aligned_as k (row-a s) (row-b s)) (sym (is-compatible (alignment_of a.k) (outcome t.is_compatible.ensures t.if-is_compatible.true)))

pub are_own-requires : goal.are_own-requires
are_own-requires c =
    let s = (goal.at.are_own-requires c).Start in
    let p = s.ranges.a_period in
    let n = s.ranges.a_distance in
    let q = s.ranges.b_period in
    let m = s.ranges.b_distance in
    record { sound = simp plain s.requires.sound; sound_2 = simp plain s.requires.sound_2 }

pub returns-then-are_own : goal.returns-then-are_own
returns-then-are_own c =
    let o = (goal.at.returns-then-are_own c).After-are_own in
    let t = (goal.at.After-are_own o).Then-is_compatible-2 in
    let s = (goal.at.Then-is_compatible-2 t).Start in
    let a = s.args in
    let p = s.ranges.a_period in
    let n = s.ranges.a_distance in
    let q = s.ranges.b_period in
    let m = s.ranges.b_distance in
    sym (o.are_own.ensures c.if-are_own.true) ∙ aligned-read O.Alignment.compatible s.args.a_period s.args.a_distance s.args.b_period s.args.b_distance s.args.a_cells.now s.args.b_cells.now p n q m ∙ ap (λ (k : O.Alignment). aligned_as k (row-a s) (row-b s)) (sym (is-compatible (alignment_of a.k) (outcome t.is_compatible-2.ensures t.if-is_compatible-2.true)))

pub pass-requires : goal.pass-requires
pass-requires c =
    let e = (goal.at.pass-requires c).Else-not-rise_alike in
    let s = (goal.at.Else-not-rise_alike e).Start in
    let a = s.args in
    let p = s.ranges.a_period in
    let n = s.ranges.a_distance in
    let q = s.ranges.b_period in
    let m = s.ranges.b_distance in
    let t = s.ranges.span in
    let r =
    alike a.a_period a.a_distance a.b_period a.b_distance a.a_cells.now a.b_cells.now s.requires.sound s.requires.sound_2 (alignment_of a.k)
    (rises e) in
    record { sound = simp plain s.requires.sound; sound_2 = simp plain s.requires.sound_2; spanned = simp plain s.requires.spanned; rise_alike = simp plain r }

pub returns : goal.returns
returns c =
    let s = (goal.at.returns c).Start in
    let p = s.ranges.a_period in
    let n = s.ranges.a_distance in
    let q = s.ranges.b_period in
    let m = s.ranges.b_distance in
    simp plain at c.pass.ensures
