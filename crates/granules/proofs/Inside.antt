-- `inside`, `meeting` and `within` decide and list exactly what Meaning says.
use mathlib.Core.Path.{◌≡◌}
use mathlib.Core.Logic.{◌↔◌}
use mathlib.Core.Bool.{true}
use lib.IntN.{ℤ}
use Rattle.calendar.specs.Meaning.{Row, meant, Has, Inside, Meets}
use Rattle.calendar.specs.Algebra.{Lists}
use Rattle.calendar.specs.Lists.{is}
use Rattle.calendar.specs.Granules.{granule, inside, meeting, within}
use Rattle.granules.specs.Valid.{Valid}
use Rattle.granules.proofs.Tests.{is-iff}
use Rattle.granules.proofs.Lists.{all-iff, mem-keep, rising-keep, distinct-lists}
use Rattle.granules.proofs.Granule.{granule-lists}

pub inside-iff : (b a : Row) → Valid b → (k i : ℤ) → (inside b k a i ≡ true) ↔ Inside (meant b) k (meant a) i
unfolding inside
inside-iff b a v k i =
    let g = granule-lists b v k in
    let h = all-iff (λ u. is i (meant a u)) (granule b k) in (
      λ e u p. (is-iff i (meant a u)).0 (h.0 e u ((g.member u).0 p)),
      λ f. h.1 (λ u m. (is-iff i (meant a u)).1 (f u ((g.member u).1 m))),
    )

pub meeting-lists : (a b : Row) → Valid a → Valid b → (i : ℤ) → Lists (λ k. Meets (meant a) k (meant b) i) (meeting a b i)
unfolding meeting
meeting-lists a b v w i =
    let g = granule-lists b w i in
    let d = distinct-lists (meant a) v.ordered (granule b i) g.rising in
    record {
      rising = d.rising;
      member = λ k. (
        λ h. (d.member k).0 (h.0, (g.member h.0).0 h.2, h.1),
        λ m. let h = (d.member k).1 m in (h.0, h.2, (g.member h.0).1 h.1),
      );
    }

pub within-lists : (a b : Row) → Valid a → Valid b → (i : ℤ) → Lists (λ k. Has (meant a) k × Inside (meant a) k (meant b) i) (within a b i)
unfolding within
within-lists a b v w i =
    let x = meeting-lists a b v w i in
    record {
      rising = rising-keep (λ k. inside a k b i) (meeting a b i) x.rising;
      member = λ k. (
        λ h. (mem-keep (λ k. inside a k b i) k (meeting a b i)).1 ((x.member k).0 (h.0.0, h.0.1, h.1 h.0.0 h.0.1), (inside-iff a b v k i).1 h.1),
        λ m. let h = (mem-keep (λ k. inside a k b i) k (meeting a b i)).0 m in
            let s = (x.member k).1 h.0 in
            ((s.0, s.1), (inside-iff a b v k i).0 h.1),
      );
    }
