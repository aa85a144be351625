-- The walk with which a scan starts: at the altered granule that has the first fine granule from the instant 0 on.
-- Assumes nothing.
use mathlib.Core.Path.{◌≡◌, sym, ◌∙◌, ap}
use mathlib.Core.Option.{some}
use mathlib.Core.List.{List}
use Prim.Native.Nat.{◌+◌, ◌^◌}
use native.Mathlib.Omega.{arith}
use lib.IntN.{ℤ, pos, neg_ℤ, ◌+ℤ◌, ◌-ℤ◌, ◌*ℤ◌, *ℤ_comm}
use lib.Signed.{◌≤ℤ◌, ◌<ℤ◌}
use mir.Syntax.{w64}
use mir.Val.{SFits}
use Rattle.integers.specs.Parts.{up}
use Rattle.integers.specs.Floor.{floor_div, floor_mod}
use Rattle.integers.proofs.Linear.{ints, ◌∴◌}
use Rattle.calendar.specs.Limits.{pool_limit}
use Rattle.calendar.specs.Meaning.{Row, meant}
use Rattle.calendar.specs.Algebra.{changes}
use Rattle.calendar.specs.Questions.{given}
use Rattle.cursors.specs.Found.{Sound, Within}
use Rattle.cursors.proofs.Numbers.{numbers}
use Rattle.cursors.proofs.Bounds.{label-bound}
use Rattle.kinds.specs.declared.Alteration.{Alteration}
use Rattle.alter_granules.specs.declared.Repeat.{Repeat}
use Rattle.alter_granules.specs.declared.coarse.Begin.{Begin}
use Rattle.alter_granules.specs.declared.ahead.Walk.{Walk}
use Rattle.alter_granules.specs.declared.origin.Labelled.{Labelled}
use Rattle.kinds.specs.Limits.{Limits}
use Rattle.alter_granules.specs.Given.{Alterable}
use Rattle.alter_granules.specs.CoarseBegins.{at, CoarseBegins}
use Rattle.alter_granules.specs.Follows.{Altering, turn_coarse, turn_fine, begins, Origin, Opens, Opened, Starts}
use Rattle.alter_granules.proofs.Tiled.{coarse-low, fine-low, begins-is, begins-turns}
use Rattle.alter_granules.proofs.Reach.{fine-high}
use Rattle.alter_granules.proofs.Sized.{small, changed-within, Turned, turned}

-- f of a granule by where it begins
abbrev pub first_of : Alteration → Begin → ℤ
first_of by c = c.p +ℤ changes (up by.x) (up by.y) (c.i -ℤ pos 1) *ℤ by.z

pub first-is : (by : Alteration) (a b : Row) → Altering by a b → (c : Begin) → CoarseBegins a b c → first_of by c ≡ begins by a b c.i
first-is by a b g c k = ap (λ (p : ℤ). p +ℤ changes (up by.x) (up by.y) (c.i -ℤ pos 1) *ℤ by.z) k.is-first ∙ sym (begins-is by a b g c.i)

-- after how many turns of the altering the walk begins
abbrev pub turns_of : Alteration → Repeat → Labelled → Begin → ℤ
turns_of by repeat first from = floor_div (first.j -ℤ first_of by from) (up repeat.fine)

-- what the code makes of that, with k turns
pub record Made (by : Alteration) (repeat : Repeat) (first : Labelled) (from : Begin) (k : ℤ) (r : Walk) : Type 0 where
  pub label : r.label ≡ from.i +ℤ k *ℤ repeat.coarse
  pub next : r.next ≡ first_of by r.begin +ℤ k *ℤ repeat.fine
  pub residue : r.residue ≡ pos (floor_mod (r.begin.i -ℤ pos (up by.y)) (up by.x))
  pub end : r.end ≡ first.j +ℤ repeat.fine

pub started : (by : Alteration) (repeat : Repeat) (a b : Row) (first : Labelled) (from : Begin) (k : ℤ) (r : Walk) → Opened by repeat a b first from r.begin
    → Turned repeat.coarse repeat.fine (first.j -ℤ first_of by from) k → Made by repeat first from k r → Starts by a b r
started by repeat a b first from k r u t s =
    let g : Altering by a b = (repeat, u.given) in
    let n = turn_coarse by a b in
    let n-is : k *ℤ repeat.coarse ≡ n *ℤ k = ap (λ (n : ℤ). k *ℤ n) u.given.coarse ∙ *ℤ_comm k n in
    let D = turn_fine by a b in
    let D-is : k *ℤ repeat.fine ≡ D *ℤ k = ap (λ (n : ℤ). k *ℤ n) u.given.fine ∙ *ℤ_comm k D in
    let n-low = coarse-low by a b g in
    let D-low = fine-low by a b g in
    let old = begins-turns by a b g k from.i in
    let new = begins-turns by a b g k r.begin.i in
    let F = first-is by a b g from u.from-begins in
    let G = first-is by a b g r.begin u.begin-begins in
    let end : r.end ≡ first.j +ℤ D = s.end ∙ ap (λ (z : ℤ). first.j +ℤ z) u.given.fine in
    let turned : r.label +ℤ pos 1 ≡ r.begin.i +ℤ n *ℤ k = s.label ∴ n-is ∴ u.begin-on ∴ simp ints (omega arith) in
    let label : begins by a b r.label ≡ begins by a b (from.i +ℤ n *ℤ k) = ap (begins by a b) (s.label ∴ n-is ∴ simp ints (omega arith)) in
    let on : from.i ≤ℤ r.begin.i = u.begin-on ∴ simp ints (omega arith) in
    let origin : Origin by a b r.end = record {
      instant = first.t;
      coarse = from.i;
      turns = k;
      low = u.opens.low;
      high = u.opens.high ∴ u.early ∴ simp ints (omega arith);
      label = u.from-of;
      near = t.coarse-bound ∴ n-is ∴ u.i-near ∴ simp ints (omega arith);
      end-near = end ∴ u.j-near ∴ n-low ∴ D-low ∴ u.given.fine ∴ u.turn_near ∴ simp ints (omega arith);
      reach = end ∴ old ∴ t.high ∴ D-is ∴ F ∴ u.given.fine ∴ simp ints (omega arith);
    } in
    record {
      first = first;
      opens = u.opens;
      walk = record {
        origin = origin;
        begin = u.begin-begins;
        on = on;
        turned = turned;
        residue = s.residue;
        next = s.next ∴ ap (begins by a b) turned ∴ new ∴ G ∴ D-is ∴ simp ints (omega arith);
        before = label ∴ old ∴ t.low ∴ D-is ∴ F ∴ end ∴ n-low ∴ D-low ∴ simp ints (omega arith);
      };
      reached = label ∴ old ∴ t.low ∴ D-is ∴ F ∴ simp ints (omega arith);
      ends = end;
    }

-- ---- what fits

pub record Numbered (by : Alteration) (repeat : Repeat) (first : Labelled) (from begin : Begin) : Type 0 where
  pub i-fits : SFits w64 from.i
  pub p-fits : SFits w64 from.p
  pub next-i-near : Within (2 ^ 32) begin.i
  pub next-i-fits : SFits w64 begin.i
  pub next-p-fits : SFits w64 begin.p
  pub j-fits : SFits w64 first.j
  pub coarse-fits : SFits w64 repeat.coarse
  pub fine-positive : pos 0 <ℤ repeat.fine
  pub fine-fits : SFits w64 repeat.fine
  pub first_fits : SFits w64 (first_of by from)
  pub apart_fits : SFits w64 (first.j -ℤ first_of by from)
  pub turned : Turned repeat.coarse repeat.fine (first.j -ℤ first_of by from) (turns_of by repeat first from)
  pub turns-fits : SFits w64 (turns_of by repeat first from)
  pub coarse-turns-fits : SFits w64 (turns_of by repeat first from *ℤ repeat.coarse)
  pub label-fits : SFits w64 (from.i +ℤ turns_of by repeat first from *ℤ repeat.coarse)
  pub next_fits : SFits w64 (first_of by begin)
  pub fine-turns-fits : SFits w64 (turns_of by repeat first from *ℤ repeat.fine)
  pub sum_fits : SFits w64 (first_of by begin +ℤ turns_of by repeat first from *ℤ repeat.fine)
  pub less-fits : SFits w64 (begin.i -ℤ pos (up by.y))
  pub end_fits : SFits w64 (first.j +ℤ repeat.fine)

first-near : (by : Alteration) → Limits by → (c : Begin) → Within (2 ^ 32) c.i → Within (2 ^ 31) c.p → Within (2 ^ 53 + 2 ^ 42) (first_of by c)
first-near by l c h k =
    let f = small by l in
    changed-within (up by.x) (up by.y) by.z c.i f.x-low f.x-high f.y-high (l.z-low, l.z-high) h ∴ k ∴ simp ints (omega arith)

pub numbered : (by : Alteration) (repeat : Repeat) (a b : Row) (first : Labelled) (from begin : Begin) → Opened by repeat a b first from begin → Numbered by repeat first from begin
numbered by repeat a b first from begin o =
    let g : Altering by a b = (repeat, o.given) in
    let l = o.given.limits in
    let n-low : pos 1 ≤ℤ repeat.coarse = coarse-low by a b g ∴ o.given.coarse ∴ simp ints (omega arith) in
    let D-low : repeat.coarse ≤ℤ repeat.fine = fine-low by a b g ∴ o.given.coarse ∴ o.given.fine ∴ simp ints (omega arith) in
    let D-high = o.turn_near in
    let i-near : Within (2 ^ 32) from.i = o.i-near ∴ simp ints (omega arith) in
    let next-i-near : Within (2 ^ 32) begin.i = o.i-near ∴ o.begin-on ∴ simp ints (omega arith) in
    let F = first-near by l from i-near o.p-near in
    let G = first-near by l begin next-i-near o.next-near in
    let d : Within (2 ^ 54) (first.j -ℤ first_of by from) = F ∴ o.j-near ∴ simp ints (omega arith) in
    let t = turned repeat.coarse repeat.fine (first.j -ℤ first_of by from) n-low D-low D-high d in
    let y-high = (small by l).y-high in
    record {
      i-fits = i-near ∴ simp ints (omega arith);
      p-fits = o.p-near ∴ simp ints (omega arith);
      next-i-near = next-i-near;
      next-i-fits = next-i-near ∴ simp ints (omega arith);
      next-p-fits = o.next-near ∴ simp ints (omega arith);
      j-fits = o.j-near ∴ simp ints (omega arith);
      coarse-fits = n-low ∴ D-low ∴ D-high ∴ simp ints (omega arith);
      fine-positive = n-low ∴ D-low ∴ simp ints (omega arith);
      fine-fits = n-low ∴ D-low ∴ D-high ∴ simp ints (omega arith);
      first_fits = F ∴ simp ints (omega arith);
      apart_fits = d ∴ simp ints (omega arith);
      turned = t;
      turns-fits = t.turns-bound ∴ simp ints (omega arith);
      coarse-turns-fits = t.coarse-bound ∴ simp ints (omega arith);
      label-fits = i-near ∴ t.coarse-bound ∴ simp ints (omega arith);
      next_fits = G ∴ simp ints (omega arith);
      fine-turns-fits = t.fine-bound ∴ simp ints (omega arith);
      sum_fits = G ∴ t.fine-bound ∴ simp ints (omega arith);
      less-fits = next-i-near ∴ y-high ∴ simp ints (omega arith);
      end_fits = o.j-near ∴ n-low ∴ D-low ∴ D-high ∴ simp ints (omega arith);
    }

-- ---- where it starts from

module _ (by : Alteration) (repeat : Repeat) (ap ad bp bd : ℤ) (ac bc : List ℤ) (sa : Sound ap ad ac) (sb : Sound bp bd bc) (g : Alterable by repeat (given ap ad ac) (given bp bd bc)) where
  abbrev a : Row
  a = given ap ad ac

  abbrev b : Row
  b = given bp bd bc

  pub opened : (first : Labelled) (from begin : Begin) → Opens a first
      → CoarseBegins a b from → meant b first.t ≡ some from.i → ((first.t -ℤ bp) ≤ℤ at b from) × (at b from ≤ℤ first.t)
      → CoarseBegins a b begin → begin.i ≡ from.i +ℤ pos 1 → (at b from <ℤ at b begin) × (at b begin ≤ℤ (at b from +ℤ bp))
      → Opened by repeat a b first from begin
  opened first from begin o k of near l on step =
      let m = numbers ap ad ac sa in
      let n = numbers bp bd bc sb in
      let D = fine-high by a b (repeat, g) m.middle n.middle in
      let t-low : neg_ℤ (pos pool_limit) ≤ℤ first.t = o.low ∴ simp ints (omega arith) in
      let t-high : first.t ≤ℤ pos pool_limit = o.high ∴ m.high ∴ simp ints (omega arith) in
      let u-low : neg_ℤ (pos pool_limit) ≤ℤ at b from = near.0 ∴ o.low ∴ n.period-is ∴ n.high ∴ simp ints (omega arith) in
      let u-high : at b from ≤ℤ pos pool_limit = near.1 ∴ t-high ∴ simp ints (omega arith) in
      let v_low : neg_ℤ (pos 8388608) ≤ℤ at b begin = step.0 ∴ u-low ∴ simp ints (omega arith) in
      let v_high : at b begin ≤ℤ pos 8388608 = step.1 ∴ u-high ∴ n.period-is ∴ n.high ∴ simp ints (omega arith) in
      record {
        given = g;
        opens = o;
        from-begins = k;
        from-of = of;
        begin-begins = l;
        begin-on = on;
        early = m.high;
        j-near = label-bound ap ad ac sa pool_limit first.t first.j t-low t-high o.label ∴ simp ints (omega arith);
        i-near = label-bound bp bd bc sb pool_limit first.t from.i t-low t-high of ∴ simp ints (omega arith);
        p-near = label-bound ap ad ac sa pool_limit (at b from) from.p u-low u-high k.a-label ∴ simp ints (omega arith);
        next-near = label-bound ap ad ac sa 8388608 (at b begin) begin.p v_low v_high l.a-label ∴ simp ints (omega arith);
        turn_near = g.fine ∴ D ∴ simp ints (omega arith);
      }
