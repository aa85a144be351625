-- A number that is at most a cap, or the word that it is past it.
-- Document 01: "whole numbers without a bound; a product past 64 bits is too long, not wrapped".
use Rattle.std.specs.Prelude.{ℕ, cond, leb, None, Option, Some}

-- n itself, where n is at most the cap
unfoldable pub capped_at : ℕ → ℕ → Option ℕ
capped_at cap n = cond (leb n cap) (Some n) None
