-- The walk over b: where its numbers are, and one altered granule on.
-- Assumes nothing.
use mathlib.Core.Path.{◌≡◌, sym, ◌∙◌, ap, subst}
use mathlib.Core.Option.{some}
use mathlib.Core.Bool.{Bool, true, false, cond}
use mathlib.Core.List.{List}
use Prim.Native.Nat.{◌^◌, ◌≤◌}
use native.Mathlib.Omega.{arith}
use lib.Dec.{eqb}
use lib.IntN.{ℤ, pos, ◌+ℤ◌, ◌-ℤ◌, ◌*ℤ◌}
use lib.Signed.{◌≤ℤ◌, ◌<ℤ◌}
use mir.Syntax.{w64}
use mir.Val.{SFits}
use Rattle.integers.specs.Parts.{up}
use Rattle.integers.specs.Floor.{floor_mod}
use Rattle.integers.proofs.Linear.{ints, ◌∴◌}
use Rattle.integers.proofs.Order.{pos-up}
use Rattle.integers.proofs.Floor.{floor-lt}
use Rattle.calendar.specs.Limits.{pool_limit}
use Rattle.calendar.specs.Meaning.{Row, meant}
use Rattle.calendar.specs.Questions.{given}
use Rattle.cursors.specs.Found.{Sound, Within}
use Rattle.cursors.proofs.Numbers.{numbers}
use Rattle.cursors.proofs.Bounds.{label-bound}
use Rattle.algebra.proofs.Fine.{low}
use Rattle.kinds.specs.declared.Alteration.{Alteration}
use Rattle.alter_granules.specs.declared.coarse.Begin.{Begin}
use Rattle.alter_granules.specs.declared.ahead.Walk.{Walk}
use Rattle.alter_granules.specs.CoarseBegins.{at, CoarseBegins}
use Rattle.alter_granules.specs.Follows.{Altering, turn_coarse, turn_fine, begins, Origin, CoarseWalk, Steps}
use Rattle.alter_granules.proofs.Tiled.{coarse-low, begins-turns, begins-mono, begins-reflects, begins-step}
use Rattle.alter_granules.proofs.Reach.{coarse-high, fine-high, instant-reach}

-- ---- one altered granule on

-- what the code makes of the walk s
pub record Moved (by : Alteration) (a b : Row) (s r : Walk) : Type 0 where
  pub begin : CoarseBegins a b r.begin
  pub step : r.begin.i ≡ s.begin.i +ℤ pos 1
  pub label : r.label ≡ s.label +ℤ pos 1
  pub next : r.next ≡ s.next +ℤ (r.begin.p -ℤ s.begin.p +ℤ cond (eqb (floor_mod (s.begin.i -ℤ pos (up by.y)) (up by.x)) 0) by.z (pos 0))
  pub residue : r.residue ≡ pos (floor_mod (s.begin.i -ℤ pos (up by.y) +ℤ pos 1) (up by.x))
  pub end : r.end ≡ s.end

-- an origin does not depend on how its end is written
abbrev origin-to : {by : Alteration} {a b : Row} {d e : ℤ} → e ≡ d → Origin by a b d → Origin by a b e
origin-to {by} {a} {b} p o = record {
  instant = o.instant;
  coarse = o.coarse;
  turns = o.turns;
  low = o.low;
  high = o.high;
  label = o.label;
  near = o.near;
  end-near = subst (Within (2 ^ 55)) (sym p) o.end-near;
  reach = subst (λ (e : ℤ). e ≤ℤ (begins by a b (o.coarse +ℤ turn_coarse by a b *ℤ o.turns) +ℤ turn_fine by a b +ℤ turn_fine by a b)) (sym p) o.reach;
}

module _ (by : Alteration) (a b : Row) (g : Altering by a b) where
  -- the walk's f, turn by turn
  turned-begins : (l i t : ℤ) → l +ℤ pos 1 ≡ i +ℤ turn_coarse by a b *ℤ t → begins by a b (l +ℤ pos 1) ≡ begins by a b i +ℤ turn_fine by a b *ℤ t
  turned-begins l i t e = ap (begins by a b) e ∙ begins-turns by a b g t i

  pub walk-on : (s r : Walk) → CoarseWalk by a b s → s.next <ℤ s.end → Moved by a b s r → CoarseWalk by a b r
  walk-on s r w h m =
      let o = w.origin in
      let turned : r.label +ℤ pos 1 ≡ r.begin.i +ℤ turn_coarse by a b *ℤ o.turns = w.turned ∴ m.step ∴ m.label ∴ simp ints (omega arith) in
      let on : o.coarse ≤ℤ r.begin.i = w.on ∴ m.step ∴ simp ints (omega arith) in
      let old = turned-begins s.label s.begin.i o.turns w.turned in
      let new = turned-begins r.label r.begin.i o.turns turned in
      let one = ap (begins by a b) m.step ∙ begins-step by a b g s.begin.i in
      let p = m.begin.is-first ∙ ap (low a b) m.step in
      record {
        origin = origin-to m.end o;
        begin = m.begin;
        on = on;
        turned = turned;
        residue = m.residue ∙ ap (λ (t : ℤ). pos (floor_mod t (up by.x))) (m.step ∴ simp ints (omega arith));
        next = m.next ∴ w.next ∴ old ∴ new ∴ one ∴ p ∴ w.begin.is-first ∴ simp ints (omega arith);
        before = ap (begins by a b) m.label ∴ w.next ∴ h ∴ m.end ∴ simp ints (omega arith);
      }

-- ---- where its numbers are

-- the cursors and the label in a of a beginning
pub record Placed (a b : Row) (c : Begin) : Type 0 where
  pub place : Within (2 ^ 45) (at b c)
  pub label : Within (2 ^ 46) c.p

pub record Room (by : Alteration) (a b : Row) (s : Walk) : Type 0 where
  pub begin : Placed a b s.begin
  pub label : Within (2 ^ 56) s.label
  pub next : Within (2 ^ 56) s.next
  pub residue-low : pos 0 ≤ℤ s.residue
  pub residue-high : s.residue <ℤ by.x

module _ (by : Alteration) (ap ad bp bd : ℤ) (ac bc : List ℤ) (sa : Sound ap ad ac) (sb : Sound bp bd bc) (g : Altering by (given ap ad ac) (given bp bd bc)) where
  abbrev a : Row
  a = given ap ad ac

  abbrev b : Row
  b = given bp bd bc

  dense-a : up ad ≤ up ap
  dense-a = (numbers ap ad ac sa).middle

  dense-b : up bd ≤ up bp
  dense-b = (numbers bp bd bc sb).middle

  -- a beginning at most 4·n granules on from that of t
  pub placed : (t i : ℤ) (c : Begin) → pos 0 ≤ℤ t → t ≤ℤ pos pool_limit → meant b t ≡ some i → CoarseBegins a b c → i ≤ℤ c.i → c.i ≤ℤ (i +ℤ pos 4 *ℤ turn_coarse by a b)
      → Placed a b c
  placed t i c lo hi e k h l =
      let r = instant-reach by a b g dense-a dense-b t i (at b c) c.i lo hi e k.b-label h l in
      let near : Within (2 ^ 45) (at b c) = r ∴ simp ints (omega arith) in
      record { place = near; label = label-bound ap ad ac sa (2 ^ 45) (at b c) c.p near.0 near.1 k.a-label ∴ simp ints (omega arith) }

  pub coarse-near : (s : Walk) (w : CoarseWalk by a b s) → s.begin.i ≤ℤ (w.origin.coarse +ℤ pos 2 *ℤ turn_coarse by a b)
  coarse-near s w =
      let o = w.origin in
      let from = o.coarse +ℤ turn_coarse by a b *ℤ o.turns in
      let two = begins-turns by a b g (pos 2) from in
      begins-reflects by a b g s.label (from +ℤ turn_coarse by a b *ℤ pos 2) (w.before ∴ o.reach ∴ two ∴ simp ints (omega arith))
      ∴ w.turned
      ∴ simp ints (omega arith)

  pub room : (s : Walk) → CoarseWalk by a b s → Room by a b s
  room s w =
      let o = w.origin in
      let from = o.coarse +ℤ turn_coarse by a b *ℤ o.turns in
      let near = coarse-near s w in
      let n-low = coarse-low by a b g in
      let n-high = coarse-high by a b g dense-a dense-b in
      let D-high = fine-high by a b g dense-a dense-b in
      let one = begins-turns by a b g (pos 1) s.label in
      let x-low : pos 0 ≤ℤ by.x = g.1.limits.x-low ∴ simp ints (omega arith) in
      let after = begins-mono by a b g (s.label +ℤ pos 1) (s.label +ℤ turn_coarse by a b *ℤ pos 1) (n-low ∴ simp ints (omega arith)) in
      let before = begins-mono by a b g from (s.label +ℤ pos 1) (w.turned ∴ w.on ∴ simp ints (omega arith)) in
      record {
        begin = placed o.instant o.coarse s.begin o.low o.high o.label w.begin w.on (near ∴ n-low ∴ simp ints (omega arith));
        label = near ∴ w.turned ∴ w.on ∴ o.near ∴ n-low ∴ n-high ∴ simp ints (omega arith);
        next = w.next ∴ one ∴ after ∴ before ∴ w.before ∴ o.end-near ∴ o.reach ∴ D-high ∴ simp ints (omega arith);
        residue-low = w.residue ∴ simp ints (omega arith);
        residue-high = w.residue ∴ floor-lt (up by.x) g.1.ready.factor (s.begin.i -ℤ pos (up by.y)) ∴ sym (pos-up x-low) ∴ simp ints (omega arith);
      }

  -- where the next coarse granule is looked for
  pub place : (s : Walk) → CoarseWalk by a b s → Within (2 ^ 58) (at b s.begin)
  place s w = let n = (room s w).begin.place in (n.0 ∴ simp ints (omega arith), n.1 ∴ simp ints (omega arith))

  -- where it begins, the walk can go on
  pub steps : (s : Walk) (c : Begin) → CoarseWalk by a b s → s.next <ℤ s.end → CoarseBegins a b c → c.i ≡ s.begin.i +ℤ pos 1 → Steps by a b s c
  steps s c w h k e =
      let o = w.origin in
      let r = room s w in
      let p =
      placed o.instant o.coarse c o.low o.high o.label k (w.on ∴ e ∴ simp ints (omega arith)) (coarse-low by a b g ∴ e ∴ coarse-near s w ∴ simp ints (omega arith)) in
      record {
        given = g;
        walk = w;
        before-end = h;
        begins-there = k;
        on = e;
        from-near = r.begin.label;
        to-near = p.label;
        label-near = r.label;
        next-near = r.next;
        residue-low = r.residue-low;
        residue-high = r.residue-high;
      }

-- ---- what fits

-- z or nothing
more_within : (t : Bool) (z : ℤ) → Within 1000000 z → Within 1000000 (cond t z (pos 0))
more_within true z h = h
more_within false z h = simp ints (omega arith)

-- the numbers that a step computes, from p, where the next granule begins, and m, what it gets more
pub record Sums (s : Walk) (p m : ℤ) : Type 0 where
  pub from-fits : SFits w64 s.begin.p
  pub to-fits : SFits w64 p
  pub apart_fits : SFits w64 (p -ℤ s.begin.p)
  pub more-fits : SFits w64 m
  pub size_fits : SFits w64 (p -ℤ s.begin.p +ℤ m)
  pub label-fits : SFits w64 s.label
  pub label-on-fits : SFits w64 (s.label +ℤ pos 1)
  pub next_fits : SFits w64 s.next
  pub next-on-fits : SFits w64 (s.next +ℤ (p -ℤ s.begin.p +ℤ m))

sums-of : (s : Walk) (p m : ℤ) → Within (2 ^ 46) p → Within (2 ^ 46) s.begin.p → Within 1000000 m → Within (2 ^ 56) s.label → Within (2 ^ 56) s.next → Sums s p m
sums-of s p m h k l i j = record {
  from-fits = k ∴ simp ints (omega arith);
  to-fits = h ∴ simp ints (omega arith);
  apart_fits = h ∴ k ∴ simp ints (omega arith);
  more-fits = l ∴ simp ints (omega arith);
  size_fits = h ∴ k ∴ l ∴ simp ints (omega arith);
  label-fits = i ∴ simp ints (omega arith);
  label-on-fits = i ∴ simp ints (omega arith);
  next_fits = j ∴ simp ints (omega arith);
  next-on-fits = h ∴ k ∴ l ∴ j ∴ simp ints (omega arith);
}

pub sums : (by : Alteration) (a b : Row) (s : Walk) (c : Begin) (t : Bool) (m : ℤ) → Steps by a b s c → m ≡ cond t by.z (pos 0) → Sums s c.p m
sums by a b s c t m h e =
    let l = h.given.1.limits in
    sums-of s c.p m h.to-near h.from-near (subst (Within 1000000) (sym e) (more_within t by.z (l.z-low, l.z-high))) h.label-near h.next-near
