-- Open maps as numbers for C, beside what `codes` says of replies.
use Rattle.std.proofs.Math.Option.{Option, none, some}
use Rattle.std.specs.Prelude.{ℕ, ℤ, pos}
use Rattle.codes.specs.Codes.{refusal_code}

-- a map is made: 0, or its refusal
abbrev pub map_code : Option ℕ → ℤ
map_code none = pos 0
map_code (some n) = refusal_code n
