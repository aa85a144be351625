-- The granules of a row that is several turns of another.
-- Assumes nothing.
use mathlib.Core.Path.{◌≡◌, sym, ◌∙◌, ap, fun_ext}
use mathlib.Core.Bool.{Bool}
use Prim.Native.Nat.{ℕ, zero, suc, ◌+◌, ◌*◌}
use native.Mathlib.Omega.{arith}
use lib.IntN.{ℤ, pos, ◌+ℤ◌}
use Rattle.calendar.specs.Meaning.{Row, meant, Same}
use Rattle.calendar.specs.Lists.{from}
use Rattle.calendar.specs.Granules.{has, granules}
use Rattle.granules.specs.Valid.{Valid}
use Rattle.granules.proofs.Tests.{test-ext}
use Rattle.granules.proofs.Instants.{has-iff}
use Rattle.granules.proofs.Count.{count, count_add, granules-window}

-- k windows of N numbers, in each of which R pass
count-windows : (f : ℤ → Bool) (N R : ℕ) → ((t : ℤ) → count f (from t N) ≡ R) → (k : ℕ) (t : ℤ) → count f (from t (N * k)) ≡ R * k
count-windows f N R w zero t =
    let e : N * 0 ≡ 0 = omega arith in
    ap (λ (n : ℕ). count f (from t n)) e ∙ omega arith
count-windows f N R w (suc k) t =
    let e : N * suc k ≡ N + N * k = omega arith in
    ap (λ (n : ℕ). count f (from t n)) e
    ∙ omega (arith, count_add f t N (N * k), w t, count-windows f N R w k (t +ℤ pos N))

-- rows with one meaning have the same labels
has_same : (r s : Row) → Valid r → Valid s → Same (meant r) (meant s) → (j : ℤ) → has r j ≡ has s j
has_same r s v w same j =
    test-ext
    (λ e. let (t, p) = (has-iff r v j).0 e in (has-iff s w j).1 (t, sym (same t) ∙ p))
    (λ e. let (t, p) = (has-iff s w j).0 e in (has-iff r v j).1 (t, same t ∙ p))

-- R of a row that is k turns of another, with the same meaning, is k times that of the other
pub granules-turns : (r s : Row) → Valid r → Valid s → Same (meant r) (meant s) → (k : ℕ) → r.distance ≡ s.distance * k → granules r ≡ granules s * k
granules-turns r s v w same k e =
    sym (granules-window r v (pos 0))
    ∙ ap (λ (f : ℤ → Bool). count f (from (pos 0) r.distance)) (fun_ext (has_same r s v w same))
    ∙ ap (λ (n : ℕ). count (has s) (from (pos 0) n)) e
    ∙ count-windows (has s) s.distance (granules s) (granules-window s w) k (pos 0)
