-- A drive state is known by its number, and is the same as itself. Assumes nothing.
use Rattle.std.proofs.Common.{◌≡◌, false, arith}
use denote.Enum.Bare.{sameb}
use Rattle.control.specs.contracts.drive_state.DriveState.{the_type}
use Rattle.control.specs.DriveState.{state_number}
use Rattle.control.specs.declared.drive_state.DriveState.{DriveState}
use Rattle.control.specs.declared.drive_state.DriveState.TheVariants.{Inhibited, ReadyOn, ReadyRun, Operating, Off1Active, Off3Active, Fault}

pub by_number : (s t : DriveState) → state_number s ≡ state_number t → s ≡ t
by_number s t e = grind arith

pub same_as_itself : (s : DriveState) → false ≡ sameb the_type s s → ⊥
same_as_itself Inhibited told = cc
same_as_itself ReadyOn told = cc
same_as_itself ReadyRun told = cc
same_as_itself Operating told = cc
same_as_itself Off1Active told = cc
same_as_itself Off3Active told = cc
same_as_itself Fault told = cc
