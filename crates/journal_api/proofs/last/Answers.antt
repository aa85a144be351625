-- `journal_api::last` meets its contract: what `journal::open` answers.
-- Assumes nothing.
use Rattle.std.specs.Prelude.{List, Some}
use mathlib.Core.Path.{◌≡◌, sym, ap, ◌∙◌}
use Prim.Native.Nat.{ℕ, ◌<◌, ◌^◌}
use native.Mathlib.Omega.{arith}
use Rattle.journal.specs.Answers.{opened_in}
use Rattle.journal.proofs.Finding.{opened-fits}
use Rattle.journal_api.specs.Codes.{last_code, last_start}
use Rattle.journal_api.proofs.Numbers.{number_fits, number-back}
use Rattle.journal_api.proofs.last.Goals as goal

small : (book : List ℕ) {s n : ℕ} → opened_in book ≡ Some (s, n) → n < 2 ^ 63
small book e = omega (arith, (opened-fits book e).1)

pub overflow_cast-result : goal.overflow_cast-result
overflow_cast-result c = number_fits _ (small _ (sym c.open-opened.ensures ∙ c.in-Some.is))

pub returns-in-Some : goal.returns-in-Some
returns-in-Some c =
    let e = sym c.open-opened.ensures ∙ c.in-Some.is in
    record { code = number-back _ (small _ e) ∙ ap last_code (sym e); start = ap last_start (sym e) }
