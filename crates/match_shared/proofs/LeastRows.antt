-- A row that is least is the least row of the calendar that it means.
-- Assumes nothing.
use mathlib.Core.Path.{◌≡◌, refl, subst}
use mathlib.Core.Bool.{true}
use Prim.Native.Nat.{ℕ, ◌≤◌}
use Rattle.calendar.specs.Meaning.{Row, Calendar, meant, IsCalendar, LeastRow}
use Rattle.calendar.specs.Least.{least}
use Rattle.calendar.specs.Sound.{sound}
use Rattle.granules.proofs.Sound.{sound-valid}
use Rattle.granules.proofs.Rows.{valid-calendar, valid-of-least}
use Rattle.granules.proofs.Least.{least-row, same-repeats}
use Rattle.granules.proofs.Equal.{least-row-unique}

-- a least row of some calendar is its own least form
pub least-again : (c : Calendar) (r : Row) → IsCalendar c → LeastRow c r → least r ≡ r
least-again c r i l =
    let v = valid-of-least r c i l in
    least-row-unique (meant r) (least r) r (valid-calendar r v) (least-row r v)
    record {
      whole = l.whole;
      positive = l.positive;
      means = λ t. refl;
      least = λ P N a b h. l.least P N a b (same-repeats (meant r) c P N l.means h);
    }

pub least-means : (r : Row) → sound r ≡ true → (least r).period ≡ r.period → IsCalendar (meant r) × LeastRow (meant r) r
least-means r s e =
    let v = sound-valid r s in (
      valid-calendar r v,
      record {
        whole = v.whole;
        positive = v.positive;
        means = λ t. refl;
        least = λ P N a b q. subst (λ (n : ℕ). n ≤ P) e ((least-row r v).least P N a b q);
      },
    )
