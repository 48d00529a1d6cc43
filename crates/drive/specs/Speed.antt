-- Speeds, and how one moves towards another. Assumes nothing.
use Rattle.std.specs.Prelude.{ℕ, cond, ℤ, pos, negsuc, ◌+ℤ◌, ◌-ℤ◌, ◌≤ℤ◌, int_lt}
use Rattle.std.specs.Int.{int_max, int_min}

-- full speed, forwards and backwards
abbrev pub full : ℤ
full = pos 20000

abbrev pub full_back : ℤ
full_back = negsuc 19999

-- a speed or a reference: within full speed, both ways
pub record InRange (z : ℤ) : Type 0 where
  pub low : full_back ≤ℤ z
  pub high : z ≤ℤ full

-- a number held within full speed, both ways
abbrev pub held : ℤ → ℤ
held z = int_max full_back (int_min z full)

-- z lies within the span of a, b and 0: from the least of them to the greatest, ends included
pub record InSpan (a b z : ℤ) : Type 0 where
  pub low : int_min (int_min a b) (pos 0) ≤ℤ z
  pub high : z ≤ℤ int_max (int_max a b) (pos 0)

-- one step from a speed towards a target, never past it
abbrev pub toward : ℤ → ℤ → ℕ → ℤ
toward speed target step =
    cond (int_lt (speed +ℤ pos step) target) (speed +ℤ pos step)
    (cond (int_lt target (speed -ℤ pos step)) (speed -ℤ pos step) target)
