-- What a table drive means, and what becomes of it and of its list. Assumes nothing.
use Rattle.std.specs.Prelude.{◌≡◌, ℕ, min, max, Bool, cond, List, [], ◌∷◌, ℤ, pos, None, Ok, Err, MatchBool, Option, Result}
use Rattle.std.specs.Ordering.{is_eq}
use Rattle.drive.specs.Cell.{with_value}
use Rattle.drive.specs.Command.{off, command_of, target}
use Rattle.drive.specs.Meaning.{Meaning, Cells, moved}
use Rattle.drive.specs.Speed.{toward}
use Rattle.drive.specs.declared.cell.Cell.{Cell}
use Rattle.drive.specs.declared.error.ChangeError.{ChangeError}
use Rattle.drive.specs.declared.key.Key.{Key}
use Rattle.drive.specs.declared.link.Link.TheVariants.{Good}
use Rattle.table_drive.specs.Key.{key, key_of, by_key}
use Rattle.table_drive.specs.Order.{found, Located}
use Rattle.table_drive.specs.declared.refusal.ListRefusal.{ListRefusal}
use Rattle.table_drive.specs.declared.state.TableDrive.{TableDrive}

-- no cell is in use
abbrev pub no_cells : Cells
no_cells g n = None

-- each cell of the list is in use, under its group and number
abbrev pub cells_of : List Cell → Cells
cells_of list g n = found by_key key_of list (key g n)

-- the cells in use: those of the list once it is accepted
abbrev pub cells_in_use : Bool → List Cell → Cells
cells_in_use accepted list g n = cond accepted (cells_of list g n) None

-- what a table drive means: it never trips, and its link is good
abbrev pub table_meaning : TableDrive → Meaning
table_meaning t = record {
  cells = cells_in_use t.accepted t.cells.now;
  command = command_of t.command;
  speed = t.speed.value;
  fault = 0;
  link = Good;
}

-- a step is held within 1 to 20000
abbrev pub held_step : ℕ → ℕ
held_step step = max 1 (min step 20000)

-- a table drive just made: off, at standstill, no cell in use
abbrev pub table_made : Meaning
table_made = record { cells = no_cells; command = off; speed = pos 0; fault = 0; link = Good }

-- the cells in use after an answer to accepting
abbrev pub cells_after : Result Unit ListRefusal → List Cell → Cells
cells_after (Ok u) list = cells_of list
cells_after (Err e) list = no_cells

-- the record with this key takes a value, the others stay
abbrev pub put_value : List Cell → Key → ℤ → List Cell
put_value [] k v = []
put_value (c ∷ cs) k v = cond (is_eq (by_key (key_of c) k)) (with_value c v ∷ cs) (c ∷ put_value cs k v)

-- the list after a change, by its answer
abbrev pub list_after : Result Unit ChangeError → List Cell → Key → ℤ → List Cell
list_after (Ok u) list k v = put_value list k v
list_after (Err e) list k v = list

-- the drive still holds the very list that it was lent, and its step
pub record Keeps (before after : TableDrive) : Type 0 where
  pub lent : after.cells.ghost_name ≡ before.cells.ghost_name
  pub step : after.step ≡ before.step

-- each cell of the list is as it was
abbrev pub SameList : TableDrive → TableDrive → Type 0
SameList before after = after.cells.now ≡ before.cells.now

-- a tick: the speed moves by the step towards the target, never past it
abbrev pub table_ticked : ℕ → Meaning → Meaning
table_ticked step m = moved m (toward m.speed (target m.command) step) m.fault m.link

-- what exactly a tick makes of a table drive
pub record TableTicks (before after : TableDrive) : Type 0 where
  pub meaning : table_meaning after ≡ table_ticked before.step (table_meaning before)
  pub list : SameList before after
  pub keeps : Keeps before after

-- and a reset: there is no fault that it could clear
pub record TableResets (before after : TableDrive) : Type 0 where
  pub meaning : table_meaning after ≡ table_meaning before
  pub list : SameList before after
  pub keeps : Keeps before after

-- where the record with this key lies, if the list is accepted
abbrev pub Placed : Bool → List Cell → Key → Option ℕ → Type 0
Placed accepted list k place = MatchBool accepted (Located by_key key_of list k place) (place ≡ None)
