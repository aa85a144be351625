-- `select_granules::decided` meets its contract: select-up decides in its own way, and the kinds that pick in one.
-- Assumes nothing.
use mathlib.Core.Path.{◌≡◌, refl, sym, ◌∙◌, subst}
use mathlib.Core.Bool.{Bool, true, false}
use Prim.Native.Nat.{◌^◌}
use native.Mathlib.Omega.{arith}
use lib.IntN.{ℤ}
use Rattle.integers.proofs.Linear.{ints, ◌∴◌}
use Rattle.integers.proofs.Machine.{plain}
use Rattle.calendar.specs.Meaning.{Row}
use Rattle.calendar.specs.Operation.Selection.{select-up}
use Rattle.calendar.specs.Compute.{selects}
use Rattle.calendar.specs.Questions.{given}
use Rattle.granules.proofs.Tests.{true≢false}
use Rattle.cursors.specs.Found.{Within}
use Rattle.kinds.specs.declared.Pick.{Pick}
use Rattle.select_granules.specs.declared.Picked.{Picked}
use Rattle.select_granules.specs.declared.Decision.{Decision}
use Rattle.kinds.specs.declared.Selection.{Selection}
use Rattle.kinds.specs.declared.Selection.TheVariants.{Down, Up, Intersecting}
use Rattle.kinds.specs.Limits.{PickLimits, Picking}
use Rattle.select_granules.specs.Memos.{flag_of, Recalls, Remembers}
use Rattle.select_granules.specs.Deciding.{selection_by, is_up, Decides}
use Rattle.select_granules.proofs.Decisions.{decides}
use Rattle.select_granules.proofs.decided.Goals as goal
use Rattle.select_granules.proofs.decided.Goals.{After-holds_granule-holds, After-is_up, After-is_whole, Else-is_up, Start}

abbrev a-row : Start → Row
a-row s = given s.args.a_period s.args.a_distance s.args.a_cells.now

abbrev b-row : Start → Row
b-row s = given s.args.b_period s.args.b_distance s.args.b_cells.now

wider : (s : Start) → Within (2 ^ 50) s.args.t
wider s = let l = s.requires.within in l.0 ∴ l.1 ∴ simp ints (omega arith)

-- ---- select-up
up-decides : (x : Selection) (a b : Row) (j : ℤ) (h : Bool) (m : Picked) (d : Decision) → is_up x ≡ true → h ≡ selects select-up a b j → (d.holds ≡ flag_of h) × (d.picked ≡ m) → Decides x a b j d
up-decides (Down p) a b j h m d o e f = absurd (true≢false o refl)
up-decides Up a b j h m d o e f = decides Up a b j h m d f.0 f.1 e tt
up-decides (Intersecting p) a b j h m d o e f = absurd (true≢false o refl)

pub holds_granule-holds-requires-clause-t_value_2 : goal.holds_granule-holds-requires-clause-t_value_2
holds_granule-holds-requires-clause-t_value_2 c =
    let s = (goal.at.holds_granule-holds-requires-clause-t_value_2 c).Start in
    let p = s.ranges.a_period in
    let n = s.ranges.a_distance in
    let q = s.ranges.b_period in
    let m = s.ranges.b_distance in
    let t = s.ranges.t in
    let j = s.ranges.j in
    simp plain s.requires.t_value_2

pub returns-then-is_up : goal.returns-then-is_up
returns-then-is_up c =
    let h = (goal.at.returns-then-is_up c).After-holds_granule-holds in
    let u = (goal.at.After-holds_granule-holds h).After-is_up in
    let s = (goal.at.After-is_up u).Start in
    let p = s.ranges.a_period in
    let n = s.ranges.a_distance in
    let q = s.ranges.b_period in
    let m = s.ranges.b_distance in
    let j = s.ranges.j in
    up-decides s.args.s (a-row s) (b-row s) s.args.j h.holds_granule-holds.result s.args.m c.decide.result (sym u.is_up.ensures ∙ h.if-is_up.true)
    (simp plain at h.holds_granule-holds.ensures)
    (c.decide.ensures.holds, c.decide.ensures.picked)

limits : (w : Bool) (p : Pick) → Picking (selection_by w p) → PickLimits p
limits true p l = l
limits false p l = l

recalled : (w : Bool) (p : Pick) (a b : Row) (m : Picked) → Remembers (selection_by w p) a b m → Recalls p w a b m
recalled true p a b m r = r
recalled false p a b m r = r

picks : (x : Selection) (w : Bool) (p : Pick) → is_up x ≡ false → ((q : Pick) → x ≡ Down q → w ≡ true) × ((q : Pick) → x ≡ Intersecting q → w ≡ false)
    → ((q : Pick) → x ≡ Down q → p ≡ q) × ((q : Pick) → x ≡ Intersecting q → p ≡ q) → x ≡ selection_by w p
picks (Down q) w p o f g = rw (f.0 q refl, g.0 q refl)
picks Up w p o f g = absurd (true≢false refl o)
picks (Intersecting q) w p o f g = rw (f.1 q refl, g.1 q refl)

selection-is : (c : After-is_whole) → let s = (goal.at.After-is_whole c).Start in s.args.s ≡ selection_by c.is_whole.result c.pick_of.result
selection-is c =
    let o = (goal.at.After-is_whole c).Else-is_up in
    picks o.args.s c.is_whole.result c.pick_of.result (sym o.is_up.ensures ∙ o.if-is_up.false) c.is_whole.ensures c.pick_of.ensures

pub judged-requires : goal.judged-requires
judged-requires c =
    let s = (goal.at.judged-requires c).Start in
    let p = s.ranges.a_period in
    let n = s.ranges.a_distance in
    let q = s.ranges.b_period in
    let m = s.ranges.b_distance in
    let t = s.ranges.t in
    let j = s.ranges.j in
    let e = selection-is (goal.at.judged-requires c).After-is_whole in
    let whole = c.is_whole.result in
    let pick = c.pick_of.result in
    let known = subst (λ (x : Selection). Remembers x (a-row s) (b-row s) s.args.m) e s.requires.remembers in
    record {
      sound = simp plain s.requires.sound;
      sound_2 = simp plain s.requires.sound_2;
      pick_limits = limits whole pick (subst Picking e s.requires.picking);
      recalls = simp plain (recalled whole pick (a-row s) (b-row s) s.args.m known);
      within = simp plain s.requires.within;
      t_value = simp plain s.requires.t_value;
      a_value = simp plain s.requires.a_value;
      b_value = simp plain s.requires.b_value;
      t_value_2 = simp plain s.requires.t_value_2;
    }

pub returns : goal.returns
returns c =
    let w = (goal.at.returns c).After-is_whole in
    let s = (goal.at.After-is_whole w).Start in
    let p = s.ranges.a_period in
    let n = s.ranges.a_distance in
    let q = s.ranges.b_period in
    let m = s.ranges.b_distance in
    let j = s.ranges.j in
    subst (λ (x : Selection). Decides x (a-row s) (b-row s) s.args.j c.judged.result) (sym (selection-is w)) (simp plain at c.judged.ensures)
