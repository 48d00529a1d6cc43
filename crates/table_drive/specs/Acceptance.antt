-- When a list of cells is accepted. Assumes nothing.
use Rattle.std.specs.Prelude.{ℕ, Bool, cond, not, ◌||◌, List, length, Ok, Err, Result, nat_lt}
use Rattle.std.specs.List.{list_all}
use Rattle.drive.specs.Cell.{is_sound}
use Rattle.drive.specs.declared.cell.Cell.{Cell}
use Rattle.table_drive.specs.Key.{by_key, key_of}
use Rattle.table_drive.specs.Order.{rises}
use Rattle.table_drive.specs.declared.refusal.ListRefusal.{ListRefusal}
use Rattle.table_drive.specs.declared.refusal.ListRefusal.TheVariants.{BadList, BadCell}

-- the most cells of a list
abbrev pub most_cells : ℕ
most_cells = 256

-- the cells rise strictly by group, then number
abbrev pub cells_rise : List Cell → Bool
cells_rise list = rises by_key key_of list

-- each cell is sound
abbrev pub all_sound : List Cell → Bool
all_sound list = list_all is_sound list

-- whether a list is accepted, by rising number
abbrev pub acceptance : List Cell → Result Unit ListRefusal
acceptance list =
    cond (nat_lt most_cells (length list) || not (cells_rise list)) (Err BadList)
    (cond (not (all_sound list)) (Err BadCell) (Ok tt))
