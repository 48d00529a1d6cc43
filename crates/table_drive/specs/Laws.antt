-- What a cell list and its drive owe the list's owner. Assumes nothing.
use Rattle.std.specs.Prelude.{◌≡◌, ℕ, ◌<◌, List, length, Some, None, Ok, Err, Result, slice_index_or}
use Rattle.drive.specs.Meaning.{Cells}
use Rattle.drive.specs.declared.cell.Cell.{Cell}
use Rattle.table_drive.specs.declared.refusal.ListRefusal.{ListRefusal}

-- each cell of the list is found under its group and number
abbrev pub EveryCellFound : List Cell → Cells → Type 0
EveryCellFound list cells = (i : ℕ) (d : Cell) → i < length list → cells (slice_index_or list i d).key.group (slice_index_or list i d).key.number ≡ Some (slice_index_or list i d)

-- whatever is found is a cell of the list, under its group and number
abbrev pub NothingElseFound : List Cell → Cells → Type 0
NothingElseFound list cells = (g n : ℕ) (c : Cell) → cells g n ≡ Some c → (c.key.group ≡ g) × (c.key.number ≡ n) × ((i : ℕ) × (i < length list) × (slice_index_or list i c ≡ c))

-- an accepted list finds every one of its cells and nothing else; a refused one finds nothing
abbrev pub FindsItsCellsAndNothingElse : Result Unit ListRefusal → List Cell → Cells → Type 0
FindsItsCellsAndNothingElse (Ok u) list cells = EveryCellFound list cells × NothingElseFound list cells
FindsItsCellsAndNothingElse (Err e) list cells = (g n : ℕ) → cells g n ≡ None
