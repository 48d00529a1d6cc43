-- The numbers and the words of the refusals of a cell list. Assumes nothing.
use Rattle.std.specs.Prelude.{ℕ, List, codes}
use Rattle.table_drive.specs.declared.refusal.ListRefusal.{ListRefusal}
use Rattle.table_drive.specs.declared.refusal.ListRefusal.TheVariants.{BadList, BadCell}

-- the number under which a refusal is reported
abbrev pub list_refusal_number : ListRefusal → ℕ
list_refusal_number BadList = 8
list_refusal_number BadCell = 9

-- the words in which a refusal is told
abbrev pub list_refusal_text : ListRefusal → List ℕ
list_refusal_text BadList = codes "the list has too many cells, or they do not rise"
list_refusal_text BadCell = codes "a cell of the list is not sound"
