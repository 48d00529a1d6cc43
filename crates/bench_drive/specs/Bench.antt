-- What a bench drive means, when made and after a tick. Assumes nothing.
use Rattle.std.specs.Prelude.{◌≡◌, ℕ, ◌≤◌, List, pos, Option}
use Rattle.drive.specs.Command.{off, command_of, target}
use Rattle.drive.specs.Fault.{fault_number}
use Rattle.drive.specs.Meaning.{Meaning, moved, with_fault}
use Rattle.drive.specs.declared.link.Link.TheVariants.{Good}
use Rattle.bench_drive.specs.Cells.{bench_cells, first_values}
use Rattle.bench_drive.specs.Plan.{planned, next_tick, fault_after, link_after}
use Rattle.bench_drive.specs.declared.state.BenchDrive.{BenchDrive}
use Rattle.bench_drive.specs.declared.plan.PlanEntry.{PlanEntry}

-- its eight cells, the command in force, speed, fault and link, as it holds them
abbrev pub bench_meaning : BenchDrive → Meaning
bench_meaning d = record {
  cells = bench_cells d.values;
  command = command_of d.command;
  speed = d.speed.value;
  fault = fault_number d.fault;
  link = d.link;
}

-- when made: off and at standstill, no fault and a good link
abbrev pub bench_made : Meaning
bench_made = record {
  cells = bench_cells first_values;
  command = off;
  speed = pos 0;
  fault = 0;
  link = Good;
}

-- a tick at which this entry fires, or none: the speed is the command's target
abbrev pub ticked_by : Option PlanEntry → Meaning → Meaning
ticked_by entry m = moved m (target m.command) (fault_after entry m.fault) (link_after entry m.link)

-- one tick on, by the plan and the count of ticks before
abbrev pub bench_ticked : List PlanEntry → ℕ → Meaning → Meaning
bench_ticked plan ticks m = ticked_by (planned plan (next_tick ticks)) m

-- after tick 65535, the last that a plan can name, fault and link stay
abbrev pub PlanOver : ℕ → Meaning → Meaning → Type 0
PlanOver ticks before after = 65535 ≤ ticks → after ≡ moved before (target before.command) before.fault before.link

-- plan and count of ticks stay
pub record SamePlan (before after : BenchDrive) : Type 0 where
  pub plan : after.plan ≡ before.plan
  pub ticks : after.ticks ≡ before.ticks

-- what exactly a tick makes of a bench drive
pub record BenchTicks (before after : BenchDrive) : Type 0 where
  pub meaning : bench_meaning after ≡ bench_ticked before.plan before.ticks (bench_meaning before)
  pub count : after.ticks ≡ next_tick before.ticks
  pub plan : after.plan ≡ before.plan
  pub over : PlanOver before.ticks (bench_meaning before) (bench_meaning after)

-- and a reset: the fault is cleared
pub record BenchResets (before after : BenchDrive) : Type 0 where
  pub meaning : bench_meaning after ≡ with_fault (bench_meaning before) 0
  pub same : SamePlan before after
