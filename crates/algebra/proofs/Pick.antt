-- Pick: what is picked is a member, and a list that is moved has its picks moved.
use mathlib.Core.Path.{◌≡◌, refl, ◌∙◌, ap}
use mathlib.Core.Logic.{⊎_elim}
use mathlib.Core.Bool.{Bool, true, false, cond, ◌&&◌}
use mathlib.Core.List.Memᴰ
use mathlib.Core.List.{List, [], ◌∷◌, Memᴰ}
use Prim.Native.Nat.{ℕ}
use lib.IntN.{ℤ, pos, ◌+ℤ◌, ◌-ℤ◌}
use lib.Signed.{le_z}
use lib.ListN.{length-map}
use Rattle.calendar.specs.Algebra.{positions, pick_start, pick}
use Rattle.granules.proofs.Lists.{moved}

positions-member : (lo hi p j : ℤ) (l : List ℤ) → Memᴰ j (positions lo hi p l) → Memᴰ j l
positions-member lo hi p j [] m = m
positions-member lo hi p j (i ∷ l) m = by (le_z lo p && le_z p hi) m (positions-member lo hi (p +ℤ pos 1) j l)
  where
    by : (b : Bool) → Memᴰ j (cond b (i ∷ positions lo hi (p +ℤ pos 1) l) (positions lo hi (p +ℤ pos 1) l))
        → (Memᴰ j (positions lo hi (p +ℤ pos 1) l) → Memᴰ j l) → Memᴰ j (i ∷ l)
    by true m ih = ⊎_elim (λ e. Memᴰ.head e) (λ n. Memᴰ.tail (ih n)) (Memᴰ.cases_cons m)
    by false m ih = Memᴰ.tail (ih m)

pub pick-member : (x : ℤ) (y : ℕ) (l : List ℤ) (j : ℤ) → Memᴰ j (pick x y l) → Memᴰ j l
pick-member x y l j m = positions-member _ _ (pos 1) j l m

positions-moved : (lo hi p k : ℤ) (l : List ℤ) → positions lo hi p (moved k l) ≡ moved k (positions lo hi p l)
positions-moved lo hi p k [] = refl
positions-moved lo hi p k (i ∷ l) = by (le_z lo p && le_z p hi) (positions-moved lo hi (p +ℤ pos 1) k l)
  where
    q : ℤ
    q = p +ℤ pos 1

    by : (b : Bool) → positions lo hi q (moved k l) ≡ moved k (positions lo hi q l)
        → cond b ((i +ℤ k) ∷ positions lo hi q (moved k l)) (positions lo hi q (moved k l)) ≡ moved k (cond b (i ∷ positions lo hi q l) (positions lo hi q l))
    by true ih = ap (λ (m : List ℤ). (i +ℤ k) ∷ m) ih
    by false ih = ih

pub pick-moved : (x : ℤ) (y : ℕ) (k : ℤ) (l : List ℤ) → pick x y (moved k l) ≡ moved k (pick x y l)
pick-moved x y k l =
    ap (λ (n : ℕ). positions (pick_start x n) (pick_start x n +ℤ pos y -ℤ pos 1) (pos 1) (moved k l)) (length-map l (λ u. u +ℤ k))
    ∙ positions-moved _ _ (pos 1) k l
