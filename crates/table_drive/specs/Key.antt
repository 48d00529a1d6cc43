-- What a cell is found by, and the order of it. Assumes nothing.
use Rattle.std.specs.Prelude.{ℕ, cond, nat_lt}
use Rattle.std.specs.declared.cmp.Ordering.TheVariants.{Less, Equal, Greater}
use Rattle.std.specs.declared.cmp.Ordering.{Ordering}
use Rattle.drive.specs.declared.cell.Cell.{Cell}
use Rattle.drive.specs.declared.key.Key.{Key}

-- the key of a group and a number
abbrev pub key : ℕ → ℕ → Key
key g n = record { group = g; number = n }

-- the key of a cell
abbrev pub key_of : Cell → Key
key_of c = c.key

-- a against b, and where they are equal the order of what follows
abbrev pub then_by : ℕ → ℕ → Ordering → Ordering
then_by a b next = cond (nat_lt a b) Less (cond (nat_lt b a) Greater next)

-- by group, then by number
abbrev pub by_key : Key → Key → Ordering
by_key a b = then_by a.group b.group (then_by a.number b.number Equal)
