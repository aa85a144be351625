-- The least form of a row (document 01: "The least form uses the smallest P for which any N exists").
use Rattle.std.specs.Prelude.{Bool, true, false, ◌&&◌, ℕ, zero, suc, ◌*◌, ◌/◌, ◌%◌, eqb, pos, ◌+ℤ◌, take}
use Rattle.calendar.specs.Meaning.{Row, meant, raise}
use Rattle.calendar.specs.Lists.{all, from, same_label}

-- r repeats after q instants already: the rise that falls to them is whole, and each instant of a turn has its label raised so
unfoldable pub repeats_after : Row → ℕ → Bool
unfolding meant
repeats_after r q =
    eqb (r.distance * q % r.period) 0
    && all (λ t. same_label (meant r (t +ℤ pos q)) (raise (pos (r.distance * q / r.period)) (meant r t))) (from (pos 0) r.period)

-- the first period from q on, of which n are tried
unfoldable pub first_period : Row → ℕ → ℕ → ℕ
unfolding repeats_after
first_period r zero q = q
first_period r (suc n) q = elim (repeats_after r q) [ true ↦ q | false ↦ first_period r n (suc q) ]

unfoldable pub least : Row → Row
unfolding first_period
least r =
    let q = first_period r r.period 1 in
    record { period = q; distance = r.distance * q / r.period; cells = take q r.cells }
