-- Lists that are cleared.
-- Assumes nothing.
use mathlib.Core.Path.{◌≡◌, sym, ◌∙◌, ap}
use mathlib.Core.List.{List, []}
use Prim.Native.Nat.{ℕ, ◌-◌}
use native.Mathlib.Nat.{sub-zero}
use lib.IntN.{ℤ}
use lib.ListN.{length, replicate, length-replicate}
use Rattle.calendar.specs.Meaning.{empty}
use Rattle.calendar.specs.Lists.{filled}
use Rattle.conversion.specs.Tables.{Cleared}

pub filled-length : {A : Type 0} (n : ℕ) (d : A) → length (filled n d []) ≡ n
filled-length n d = ap (λ (k : ℕ). length (replicate k d)) (sub-zero n) ∙ length-replicate n d

-- a list that is cleared to n has n elements
pub filled-self : {A : Type 0} (p : List A) (n : ℕ) (d : A) → p ≡ filled n d [] → p ≡ filled (length p) d []
filled-self p n d e = e ∙ ap (λ (k : ℕ). filled k d []) (sym (ap length e ∙ filled-length n d))

pub cleared-as : {h p h' p' : ℕ} {headings : List ℕ} {pool : List ℤ} → h ≡ h' → p ≡ p' → Cleared h p headings pool → Cleared h' p' headings pool
cleared-as e f c = record { numbers = c.numbers ∙ ap (λ (k : ℕ). filled k 0 []) e; cells = c.cells ∙ ap (λ (k : ℕ). filled k empty []) f }
