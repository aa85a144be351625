-- The reply of `down`, check by check, and what it leaves in the list.
-- Assumes nothing.
use mathlib.Core.Path.{◌≡◌, sym, ◌∙◌, ap}
use mathlib.Core.Bool.{true, false}
use mathlib.Core.List.{List}
use Prim.Native.Nat.{ℕ, ◌-◌, ◌≤◌, ◌<◌}
use native.Mathlib.Omega.{arith}
use lib.Dec.{leb}
use lib.IntN.{ℤ, pos}
use lib.ListN.{length, replicate}
use Rattle.calendar.specs.Meaning.{Row}
use Rattle.calendar.specs.Reply.{Reply}
use Rattle.calendar.specs.Reply.Reply.{refused, answer}
use Rattle.calendar.specs.Granules.{has, within}
use Rattle.calendar.specs.Sound.{sound}
use Rattle.calendar.specs.Limits.{in_range}
use Rattle.calendar.specs.Questions.{made_up, down}
use Rattle.granules.proofs.Tests.{false-iff, leb-iff}
use Rattle.parts.proofs.Shown.{Shows, shows-filled}
use Rattle.questions.specs.Answers.{counted, parts_after}

-- ---- the checks, in their order

-- those before the walk
pub record Checked (h g : Row) (z : ℤ) : Type 0 where
  pub h-sound : sound h ≡ true
  pub g-sound : sound g ≡ true
  pub in-range : in_range z ≡ true
  pub is-label : has h z ≡ true

module _ (h g : Row) (z : ℤ) (n : ℕ) where
  pub down-row : sound h ≡ false → down h g z n ≡ refused 13
  unfolding down
  down-row e = rw e

  pub down-other : sound h ≡ true → sound g ≡ false → down h g z n ≡ refused 13
  unfolding down
  down-other e f = rw (e, f)

  pub down-argument : sound h ≡ true → sound g ≡ true → in_range z ≡ false → down h g z n ≡ refused 14
  unfolding down
  down-argument e f i = rw (e, f, i)

  pub down-label : sound h ≡ true → sound g ≡ true → in_range z ≡ true → has h z ≡ false → down h g z n ≡ refused 15
  unfolding down
  down-label e f i j = rw (e, f, i, j)

  module _ (c : Checked h g z) where
    pub down-incomplete : made_up h g z ≡ false → down h g z n ≡ refused 16
    unfolding down
    down-incomplete m = rw (c.h-sound, c.g-sound, c.in-range, c.is-label, m)

    pub down-short : made_up h g z ≡ true → n < length (within g h z) → down h g z n ≡ refused 17
    unfolding down
    down-short m l =
        let k : leb (length (within g h z)) n ≡ false = (false-iff (leb-iff (length (within g h z)) n)).1 (λ q. omega arith) in
        rw (c.h-sound, c.g-sound, c.in-range, c.is-label, m, k)

    pub down-answer : made_up h g z ≡ true → length (within g h z) ≤ n → down h g z n ≡ answer (within g h z)
    unfolding down
    down-answer m l =
        let k : leb (length (within g h z)) n ≡ true = (leb-iff (length (within g h z)) n).1 l in
        rw (c.h-sound, c.g-sound, c.in-range, c.is-label, m, k)

-- ---- the answer and the list

pub refused-parts : (n m : ℕ) (d : Reply (List ℤ)) (p : List ℤ) → d ≡ refused m → p ≡ replicate n (pos 0) → (refused m ≡ counted d) × (p ≡ parts_after n d)
refused-parts n m d p e q =
    let all : n ≡ n - 0 = omega arith in
    (ap counted (sym e), q ∙ ap (λ (k : ℕ). replicate k (pos 0)) all ∙ ap (parts_after n) (sym e))

pub answered-parts : (n count : ℕ) (d : Reply (List ℤ)) (p l : List ℤ) → d ≡ answer l → count ≡ length l → length l ≤ n → length p ≡ n → Shows p l
    → (answer count ≡ counted d) × (p ≡ parts_after n d)
answered-parts n count d p l e k h w s = (ap answer k ∙ ap counted (sym e), shows-filled p l n w h s ∙ ap (parts_after n) (sym e))
