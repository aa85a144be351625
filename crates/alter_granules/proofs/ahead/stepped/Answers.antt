-- `alter_granules::ahead::stepped` meets its contract: the next coarse granule's size, changed as the altering says, is that of the next altered one.
-- Assumes nothing.
use borrow.Author.Rules.{sfits_of}
use mathlib.Core.Path.{◌≡◌, refl, ◌∙◌, ap}
use mathlib.Core.Bool.{false, cond}
use Prim.Native.Nat.{ℕ}
use native.Mathlib.Omega.{arith}
use lib.Dec.{eqb}
use lib.IntN.{ℤ, pos, ◌+ℤ◌, ◌-ℤ◌}
use mir.Syntax.{w64}
use mir.Facts.{to_z-of_z}
use mir.Val.{SFits, to_z, of_z}
use Rattle.integers.specs.Parts.{up}
use Rattle.integers.specs.Floor.{floor_mod}
use Rattle.integers.proofs.Linear.{ints, ◌∴◌}
use Rattle.integers.proofs.Machine.{plain}
use Rattle.alter_granules.specs.Follows.{Steps}
use Rattle.alter_granules.proofs.Walking.{walk-on, Sums, sums}
use Rattle.alter_granules.proofs.ahead.stepped.Goals as goal
use Rattle.alter_granules.proofs.ahead.stepped.Goals.{After-more, After-residue_after, After-struct_told-5-1, After-struct_told-7-1, Start}

steps : (s : Start) → Steps s.args.by s.requires.0 s.requires.1 s.args.s s.args.begin
steps s = s.requires.2

-- the residue, and what the granule gets more
abbrev m : Start → ℕ
m s = floor_mod (s.args.s.begin.i -ℤ pos (up s.args.by.y)) (up s.args.by.x)

apart : (s : Start) → Sums s.args.s s.args.begin.p (pos 0)
apart s = sums s.args.by s.requires.0 s.requires.1 s.args.s s.args.begin false (pos 0) (steps s) refl

pub overflow_sub-size : goal.overflow_sub-size
overflow_sub-size c =
    let f = apart (goal.at.overflow_sub-size c).Start in
    let p = f.from-fits in
    let q = f.to-fits in
    simp plain f.apart_fits

abbrev start : After-more → Start
start c = (goal.at.After-more c).Start

residue-fits : (s : Start) → SFits w64 s.args.s.residue
residue-fits s = let h = steps s in h.residue-low ∴ h.residue-high ∴ h.given.1.limits.x-high ∴ simp ints (omega arith)

x_fits : (s : Start) → SFits w64 s.args.by.x
x_fits s = let l = (steps s).given.1.limits in l.x-low ∴ l.x-high ∴ simp ints (omega arith)

end_fits : (s : Start) → SFits w64 s.args.s.end
end_fits s = let n = (steps s).walk.origin.end-near in n.0 ∴ n.1 ∴ simp ints (omega arith)

more-is : (c : After-more) → c.more.result ≡ cond (eqb (m (start c)) 0) (start c).args.by.z (pos 0)
more-is c =
    let s = start c in
    let r = residue-fits s in
    (simp plain at c.more.ensures) (m s) (steps s).walk.residue

fit : (c : After-more) → Sums (start c).args.s (start c).args.begin.p c.more.result
fit c = let s = start c in sums s.args.by s.requires.0 s.requires.1 s.args.s s.args.begin (eqb (m s) 0) c.more.result (steps s) (more-is c)

pub overflow_add-size : goal.overflow_add-size
overflow_add-size c =
    let f = fit c in
    let p = f.from-fits in
    let q = f.to-fits in
    let d = f.apart_fits in
    let n = f.more-fits in
    simp plain f.size_fits

pub overflow_add-result : goal.overflow_add-result
overflow_add-result c =
    let f = fit (goal.at.overflow_add-result c).After-more in
    let l = f.label-fits in
    simp plain f.label-on-fits

pub overflow_add-result-2 : goal.overflow_add-result-2
overflow_add-result-2 c =
    let f = fit (goal.at.overflow_add-result-2 c).After-more in
    let p = f.from-fits in
    let q = f.to-fits in
    let d = f.apart_fits in
    let n = f.more-fits in
    let s = f.size_fits in
    let l = f.next_fits in
    simp plain f.next-on-fits

abbrev counted : After-struct_told-7-1 → After-more
counted c = (goal.at.After-struct_told-7-1 c).After-more

pub residue_after-requires : goal.residue_after-requires
residue_after-requires c =
    let s = start (counted c) in
    let r = residue-fits s in
    let x = x_fits s in
    simp plain ((steps s).residue-low, (steps s).residue-high)

-- the numbers of the walk then, as the machine has them
abbrev label : After-struct_told-7-1 → ℤ
label c = let s = start (counted c) in to_z w64 (of_z w64 (to_z w64 (of_z w64 s.args.s.label) +ℤ pos 1))

label_is : (c : After-struct_told-7-1) → label c ≡ (start (counted c)).args.s.label +ℤ pos 1
label_is c =
    let f = fit (counted c) in
    let l = f.label-fits in
    let k = f.label-on-fits in
    simp plain

abbrev size : After-struct_told-7-1 → ℤ
size c =
    let d = counted c in
    let s = start d in
    to_z w64 (of_z w64 (to_z w64 (of_z w64 (to_z w64 (of_z w64 s.args.begin.p) -ℤ to_z w64 (of_z w64 s.args.s.begin.p))) +ℤ to_z w64 (of_z w64 d.more.result)))

size_is : (c : After-struct_told-7-1) → let s = start (counted c) in size c ≡ s.args.begin.p -ℤ s.args.s.begin.p +ℤ cond (eqb (m s) 0) s.args.by.z (pos 0)
size_is c =
    let d = counted c in
    let s = start d in
    let f = fit d in
    let p = f.from-fits in
    let q = f.to-fits in
    let t = f.apart_fits in
    let n = f.more-fits in
    to_z-of_z (overflow_add-size d) ∙ simp plain (ap (λ (n : ℤ). s.args.begin.p -ℤ s.args.s.begin.p +ℤ n) (more-is d))

next-is : (c : After-struct_told-7-1) → let s = start (counted c) in to_z w64 (of_z w64 (to_z w64 (of_z w64 s.args.s.next) +ℤ size c)) ≡ s.args.s.next +ℤ size c
next-is c =
    let n = (fit (counted c)).next_fits in
    to_z-of_z (overflow_add-result-2 (goal.at.After-struct_told-7-1 c).After-struct_told-5-1) ∙ ap (λ (z : ℤ). z +ℤ size c) (to_z-of_z n)

residue-is : (c : After-residue_after) → let s = start (counted (goal.at.After-residue_after c).After-struct_told-7-1) in
    to_z w64 (of_z w64 c.residue_after.result) ≡ pos (floor_mod (s.args.s.begin.i -ℤ pos (up s.args.by.y) +ℤ pos 1) (up s.args.by.x))
residue-is c =
    let s = start (counted (goal.at.After-residue_after c).After-struct_told-7-1) in
    let r = residue-fits s in
    let x = x_fits s in
    to_z-of_z {w = w64} (sfits_of c.residue_after.type_inv) ∙ (simp plain at c.residue_after.ensures) _ (steps s).walk.residue

pub returns : goal.returns
returns c a b h =
    let e = (goal.at.After-residue_after (goal.at.returns c).After-residue_after).After-struct_told-7-1 in
    let s = start (counted e) in
    let u = to_z-of_z {w = w64} (end_fits s) in
    let walk =
    walk-on s.args.by a b h.given s.args.s _ h.walk h.before-end (record {
      begin = h.begins-there;
      step = h.on;
      label = label_is e;
      next = next-is e ∙ ap (λ (n : ℤ). s.args.s.next +ℤ n) (size_is e);
      residue = residue-is (goal.at.returns c).After-residue_after;
      end = u;
    }) in
    record { walk = walk; label = label_is e; end = u }
