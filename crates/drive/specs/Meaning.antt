-- What a drive means, and what may become of it. Assumes nothing.
use Rattle.std.specs.Prelude.{◌≡◌, ℕ, ◌<◌, ◌≤◌, Bool, true, cond, ◌&&◌, ◌⊎◌, ℤ, Some, None, Ok, Err, Option, Result, ◌==◌, ◌≢◌}
use Rattle.drive.specs.Cell.{is_sound, with_value, change_check}
use Rattle.drive.specs.Command.{InForce, target}
use Rattle.drive.specs.Speed.{InRange, InSpan}
use Rattle.drive.specs.declared.cell.Cell.{Cell}
use Rattle.drive.specs.declared.change.Change.{Change}
use Rattle.drive.specs.declared.error.ChangeError.{ChangeError}
use Rattle.drive.specs.declared.error.ChangeError.TheVariants.{NoCell}
use Rattle.drive.specs.declared.link.Link.{Link}
use Rattle.drive.specs.declared.width.Width.{Width}

-- the cell of each group and number, if there is one
abbrev pub Cells : Type 0
Cells = ℕ → ℕ → Option Cell

-- what a drive means
pub record Meaning : Type 0 where
  pub cells : Cells
  pub command : InForce
  pub speed : ℤ
  pub fault : ℕ
  pub link : Link

-- what is found at group g, number n carries g and n and is a sound cell
abbrev pub sound_at : ℕ → ℕ → Option Cell → Bool
sound_at g n None = true
sound_at g n (Some c) = (c.key.group == g && c.key.number == n) && is_sound c

-- neither 0 nor above 255
abbrev pub Outside : ℕ → Type 0
Outside n = (n ≡ 0) ⊎ (255 < n)

-- each cell is found under its own group and number, and is sound; nothing is found at 0 or above 255
pub record CellsLawful (m : Meaning) : Type 0 where
  pub sound : (g n : ℕ) → sound_at g n (m.cells g n) ≡ true
  pub nothing : (g n : ℕ) → Outside g ⊎ Outside n → m.cells g n ≡ None

-- the reference keeps its range
abbrev pub ReferenceLawful : Meaning → Type 0
ReferenceLawful m = InRange (target m.command)

-- the speed keeps its range
abbrev pub SpeedLawful : Meaning → Type 0
SpeedLawful m = InRange m.speed

-- a fault is 0, for none, to 65535
abbrev pub FaultLawful : Meaning → Type 0
FaultLawful m = m.fault ≤ 65535

abbrev pub with_cells : Meaning → Cells → Meaning
with_cells m cells = record { cells = cells; command = m.command; speed = m.speed; fault = m.fault; link = m.link }

abbrev pub with_command : Meaning → InForce → Meaning
with_command m command = record { cells = m.cells; command = command; speed = m.speed; fault = m.fault; link = m.link }

abbrev pub with_fault : Meaning → ℕ → Meaning
with_fault m fault = record { cells = m.cells; command = m.command; speed = m.speed; fault = fault; link = m.link }

-- another speed, fault and link
abbrev pub moved : Meaning → ℤ → ℕ → Link → Meaning
moved m speed fault link = record { cells = m.cells; command = m.command; speed = speed; fault = fault; link = link }

-- the answer to a change of what was found: no cell, or the cell's own checks
abbrev pub change_found : Option Cell → InForce → Width → ℤ → Result Unit ChangeError
change_found None command w v = Err NoCell
change_found (Some c) command w v = change_check c command w v

-- the answer to a change of a cell
abbrev pub change_answer : Meaning → Change → Result Unit ChangeError
change_answer m c = change_found (m.cells c.key.group c.key.number) m.command c.width c.value

abbrev pub taken : Option Cell → ℤ → Option Cell
taken None v = None
taken (Some c) v = Some (with_value c v)

-- the cell g, n takes a value, the others stay
abbrev pub put : Cells → ℕ → ℕ → ℤ → Cells
put cells g n v h k = cond (h == g && k == n) (taken (cells h k) v) (cells h k)

-- the meaning after a change, by its answer: one cell takes the value; a refused change leaves all
abbrev pub changed : Result Unit ChangeError → Meaning → Change → Meaning
changed (Ok u) m c = with_cells m (put m.cells c.key.group c.key.number c.value)
changed (Err e) m c = m

-- what a tick may make of a drive: the speed stays within the span of itself, the reference under run and 0; a fault stays a fault
pub record Ticked (before after : Meaning) : Type 0 where
  pub cells : after.cells ≡ before.cells
  pub command : after.command ≡ before.command
  pub speed : InSpan before.speed (target before.command) after.speed
  pub fault : (before.fault ≢ 0) → (after.fault ≢ 0)

-- what a reset may make of a drive: only the fault may differ
abbrev pub Reset : Meaning → Meaning → Type 0
Reset before after = after ≡ with_fault before after.fault

-- a refused change leaves the meaning
abbrev pub RefusedLeaves : Result Unit ChangeError → Meaning → Meaning → Type 0
RefusedLeaves (Ok u) before after = Unit {0}
RefusedLeaves (Err e) before after = after ≡ before
