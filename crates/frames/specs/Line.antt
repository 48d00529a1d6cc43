-- What a line of the capture holds. Assumes nothing.
use Rattle.std.specs.Prelude.{ℕ, List, [], ◌∷◌, None, Option}
use Rattle.frame.specs.Hex.{read_as}

-- the bytes of its digits; an empty line holds none, nor does one that is no even run of digits
abbrev pub line_bytes : List ℕ → Option (List ℕ)
line_bytes [] = None
line_bytes (c ∷ cs) = read_as (c ∷ cs)
