-- Allowances, lateness and figures by example, each a theorem by computation. `fin s m e` is m · 2 ^ e, negative where s is true.
use mathlib.Core.Path.{◌≡◌, refl}
use mathlib.Core.Bool.{Bool, true, false}
use mathlib.Core.List.{List, [], ◌∷◌, map}
use Prim.Native.Nat.{ℕ}
use lib.IntN.{pos, negsuc}
use lib.Ieee.{Float, nan, inf, fin, binary64, of_int, div, fits}
use Rattle.floats.specs.Near.{within, float}
use Rattle.floats.specs.Allowance.{amount, share, positive_share, is_allowed, may_be_late}
use Rattle.floats.specs.declared.Allowance.{Allowance}
use Rattle.floats.specs.declared.Allowance.TheVariants.{Fixed, Share}

-- ---- which allowances are allowed

-- a number, and whether it is allowed as a fixed number of instants and as a share
abbrev pub Judged : Type 0
Judged = record { number : Float; fixed : Bool; share : Bool }

abbrev pub judged : Float → Bool → Bool → Judged
judged v f s = record { number = v; fixed = f; share = s }

unfoldable pub numbers : List Judged
numbers =
    -- 0 and negative zero
    judged (fin false 0 (pos 0)) true false
    ∷ judged (fin true 0 (pos 0)) true false
    -- 1 / 256, 255 / 256 and 1
    ∷ judged (fin false 1 (negsuc 7)) true true
    ∷ judged (fin false 255 (negsuc 7)) true true
    ∷ judged (fin false 1 (pos 0)) true true
    -- 1 / 512, 0.1, 257 / 256 and 7.5: no shares
    ∷ judged (fin false 1 (negsuc 8)) true false
    ∷ judged (fin false 3602879701896397 (negsuc 54)) true false
    ∷ judged (fin false 257 (negsuc 7)) true false
    ∷ judged (fin false 15 (negsuc 0)) true false
    -- the least number above zero, a subnormal one, and the greatest
    ∷ judged (fin false 1 (negsuc 1073)) true false
    ∷ judged (fin false 9007199254740991 (pos 971)) true false
    -- below zero: the nearest, −1 / 256, −1
    ∷ judged (fin true 1 (negsuc 1073)) false false
    ∷ judged (fin true 1 (negsuc 7)) false false
    ∷ judged (fin true 1 (pos 0)) false false
    -- not finite
    ∷ judged (inf false) false false
    ∷ judged (inf true) false false
    ∷ judged nan false false
    ∷ []

pub allowances-by-example : map (λ c. judged c.number (is_allowed (Fixed c.number)) (is_allowed (Share c.number))) numbers ≡ numbers
unfolding numbers amount share positive_share
allowances-by-example = refl

-- each is a binary64 number
pub numbers_fit : map (λ c. fits binary64 c.number) numbers ≡ map (λ c. true) numbers
unfolding numbers fits
numbers_fit = refl

-- ---- lateness

-- d instants late on a granule of this length
abbrev pub Late : Type 0
Late = record { d : ℕ; length : ℕ; allowance : Allowance; answer : Bool }

abbrev pub late : ℕ → ℕ → Allowance → Bool → Late
late d length a r = record { d = d; length = length; allowance = a; answer = r }

unfoldable pub deliveries : List Late
deliveries =
    -- fixed: 7.5 instants, negative zero, the least number above zero
    late 7 5 (Fixed (fin false 15 (negsuc 0))) true
    ∷ late 8 5 (Fixed (fin false 15 (negsuc 0))) false
    ∷ late 0 5 (Fixed (fin true 0 (pos 0))) true
    ∷ late 1 5 (Fixed (fin true 0 (pos 0))) false
    ∷ late 0 5 (Fixed (fin false 1 (negsuc 1073))) true
    ∷ late 1 5 (Fixed (fin false 1 (negsuc 1073))) false
    -- a share: all of it, a half, 1 / 256
    ∷ late 5 5 (Share (fin false 1 (pos 0))) true
    ∷ late 6 5 (Share (fin false 1 (pos 0))) false
    ∷ late 2 5 (Share (fin false 1 (negsuc 0))) true
    ∷ late 3 5 (Share (fin false 1 (negsuc 0))) false
    ∷ late 1 256 (Share (fin false 1 (negsuc 7))) true
    ∷ late 1 255 (Share (fin false 1 (negsuc 7))) false
    ∷ []

pub lateness-by-example : map (λ c. may_be_late c.d c.length c.allowance) deliveries ≡ map (λ c. c.answer) deliveries
unfolding deliveries
lateness-by-example = refl

-- ---- figures

-- n / d, and the binary64 number that it gives
abbrev pub Divided : Type 0
Divided = record { n : ℕ; d : ℕ; figure : Float }

abbrev pub divided : ℕ → ℕ → Float → Divided
divided n d v = record { n = n; d = d; figure = v }

unfoldable pub quotients : List Divided
quotients =
    -- C of the worked slots has 5 labelled instants, period 7 and 5 granules: 5 / 7, 5 / 5, 7 / 5
    divided 5 7 (fin false 6433713753386423 (negsuc 52))
    ∷ divided 5 5 (fin false 1 (pos 0))
    ∷ divided 7 5 (fin false 3152519739159347 (negsuc 50))
    -- W has 7, 7 and 1: 7 / 7, 7 / 1 twice
    ∷ divided 7 7 (fin false 1 (pos 0))
    ∷ divided 7 1 (fin false 7 (pos 0))
    ∷ []

pub figures-by-example : map (λ c. divided c.n c.d (div binary64 (float c.n) (float c.d))) quotients ≡ quotients
unfolding quotients div of_int
figures-by-example = refl

pub figures-near : map (λ c. within c.n c.d c.figure) quotients ≡ map (λ c. true) quotients
unfolding quotients
figures-near = refl
