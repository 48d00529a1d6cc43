-- The bits of a word. Assumes nothing.
use Rattle.std.specs.Prelude.{ℕ, Bool, not, ◌==◌, bit_and}

-- whether a word has the bit of this mask set
abbrev pub is_set : ℕ → ℕ → Bool
is_set mask word = not (bit_and word mask == 0)
