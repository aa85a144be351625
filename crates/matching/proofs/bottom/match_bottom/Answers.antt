-- `matching::bottom::match_bottom` meets its contract: one instant is compared, whose label is 0.
-- Assumes nothing.
use mathlib.Core.Path.{◌≡◌, refl, sym, ◌∙◌}
use native.Mathlib.Omega.{arith}
use lib.IntN.{pos}
use Rattle.integers.proofs.Linear.{ints}
use Rattle.calendar.specs.Operation.Operation.{bottom}
use Rattle.calendar.specs.Distance.{size}
use Rattle.granules.proofs.Sound.{sound-valid}
use Rattle.kinds.specs.Stands.{row_in}
use Rattle.fill_shared.proofs.Single.{bottom-of}
use Rattle.match_shared.proofs.Seen.{seen-matched}
use Rattle.matching.proofs.bottom.match_bottom.Goals as goal
use Rattle.matching.proofs.bottom.match_bottom.Goals.{After-begin, After-compared-seen, Start}

one : (size bottom).period ≡ 1
unfolding size
one = refl

pub compared-seen-requires : goal.compared-seen-requires
compared-seen-requires c =
    let s = (goal.at.compared-seen-requires c).Start in
    let a = s.args in
    let r = row_in a.pool.now a.r in
    let w = c.begin.ensures bottom r (sound-valid r s.requires.stands.is-sound).positive.0 in
    record { pos_bound = s.requires.pos_bound; stands = s.requires.stands; standing = (pos 0, simp ints (omega arith), w.cursor) }

pub returns : goal.returns
returns c =
    let k = (goal.at.returns c).After-compared-seen in
    let b = (goal.at.After-compared-seen k).After-begin in
    let s = (goal.at.After-begin b).Start in
    let a = s.args in
    let r = row_in a.pool.now a.r in
    let w = b.begin.ensures bottom r (sound-valid r s.requires.stands.is-sound).positive.0 in
    let v = k.compared-seen.ensures bottom 0 w (omega (arith, one)) (sym (bottom-of (pos 0))) refl in
    c.outcome.ensures ∙ seen-matched bottom r 1 _ _ v.seen (omega (arith, one))
