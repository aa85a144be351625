-- Steps along open instants, by the plain definitions (document 02, Req 14). f tells which instants are open; they
-- repeat every P, and at least one is.
use Rattle.std.proofs.Math.Option.{Option, some}
use Rattle.std.specs.Prelude.{Bool, cond, ℕ, zero, suc, ℤ, pos, negsuc, neg_ℤ, ◌+ℤ◌}
use Rattle.std.specs.Int.Signed.{le_z}
use Rattle.calendar.specs.Lists.{only}
use Rattle.open_map.specs.Instants.{open_in, next_open, last_open}

-- "n steps are n such steps"
unfoldable pub steps : (ℤ → ℤ) → ℕ → ℤ → ℤ
steps g zero x = x
steps g (suc n) x = g (steps g n x)

-- "the n-th open instant after or before x"; "Zero steps give x if x is open and 'none' otherwise"
unfoldable pub nth_open : ℕ → (ℤ → Bool) → ℤ → ℤ → Option ℤ
unfolding next_open last_open steps
nth_open P f x (pos zero) = only x (f x)
nth_open P f x (pos (suc n)) = some (steps (next_open P f) (suc n) x)
nth_open P f x (negsuc n) = some (steps (last_open P f) (suc n) x)

-- "The number between x and y is the open instants t with x < t ≤ y, and minus that for the pair the other way
-- round."
unfoldable pub between_open : (ℤ → Bool) → ℤ → ℤ → ℤ
unfolding open_in
between_open f x y = cond (le_z x y) (pos (open_in f (x +ℤ pos 1) (y +ℤ pos 1))) (neg_ℤ (pos (open_in f (y +ℤ pos 1) (x +ℤ pos 1))))
