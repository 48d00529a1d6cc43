-- The cells of a bench drive, 12.01 to 12.08. Assumes nothing.
use Rattle.std.specs.Prelude.{ℕ, ◌-◌, Bool, cond, not, ◌&&◌, List, replicate, ℤ, pos, negsuc, Some, None, Option, ◌==◌, nat_le, slice_index_or}
use Rattle.std.specs.List.{list_all}
use Rattle.drive.specs.Meaning.{Cells}
use Rattle.drive.specs.Width.{within}
use Rattle.drive.specs.declared.cell.Cell.{Cell}
use Rattle.drive.specs.declared.width.Width.TheVariants.{Word}

-- the limits of each cell, -2000
abbrev pub low_limit : ℤ
low_limit = negsuc 1999

-- and 2000
abbrev pub high_limit : ℤ
high_limit = pos 2000

-- the cell 12.n: a word; 12.08 is not writable, 12.07 is changeable only while off
abbrev pub bench_cell : ℕ → ℤ → Cell
bench_cell n v = record {
  key = record { group = 12; number = n };
  width = Word;
  low = low_limit;
  high = high_limit;
  value = v;
  writable = not (n == 8);
  only_while_off = (n == 7);
}

-- the cells are 12.01 to 12.08
abbrev pub is_bench_cell : ℕ → ℕ → Bool
is_bench_cell g n = g == 12 && (nat_le 1 n && nat_le n 8)

-- the place of a cell's value among the values
abbrev pub place : ℕ → ℕ → Option ℕ
place g n = cond (is_bench_cell g n) (Some (n - 1)) None

-- the cells with these values, in the order of their numbers
abbrev pub bench_cells : List ℤ → Cells
bench_cells vs g n = cond (is_bench_cell g n) (Some (bench_cell n (slice_index_or vs (n - 1) (pos 0)))) None

-- the values when made: each is 1000
abbrev pub first_values : List ℤ
first_values = replicate 8 (pos 1000)

-- each value lies within the limits
abbrev pub all_within : List ℤ → Bool
all_within vs = list_all (within low_limit high_limit) vs
