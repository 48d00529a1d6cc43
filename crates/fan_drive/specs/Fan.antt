-- What a fan's drive means, and what becomes of it. Assumes nothing.
use Rattle.std.specs.Prelude.{ℕ, Bool, true, cond, ◌&&◌, ℤ, pos, Some, None, ◌==◌, int_lt}
use Rattle.drive.specs.Command.{InForce, off, command_of, target}
use Rattle.drive.specs.Fault.{fault_number}
use Rattle.drive.specs.Meaning.{Meaning, Cells, moved, with_fault}
use Rattle.drive.specs.Speed.{toward}
use Rattle.drive.specs.declared.cell.Cell.{Cell}
use Rattle.drive.specs.declared.link.Link.TheVariants.{Good}
use Rattle.drive.specs.declared.width.Width.TheVariants.{Word}
use Rattle.fan_drive.specs.declared.state.FanDrive.{FanDrive}

-- cell 1.01 with this value: a word, 1 to 20000, changeable only while off
abbrev pub step_cell : ℤ → Cell
step_cell v = record {
  key = record { group = 1; number = 1 };
  width = Word;
  low = pos 1;
  high = pos 20000;
  value = v;
  writable = true;
  only_while_off = true;
}

-- it is the only cell
abbrev pub fan_cells : ℤ → Cells
fan_cells v g n = cond (g == 1 && n == 1) (Some (step_cell v)) None

-- what a fan's drive means
abbrev pub fan_meaning : FanDrive → Meaning
fan_meaning d = record {
  cells = fan_cells (pos d.step);
  command = command_of d.command;
  speed = d.speed.value;
  fault = fault_number d.fault;
  link = Good;
}

-- made with step 100, off and at standstill, no fault and a good link
abbrev pub fan_made : Meaning
fan_made = record { cells = fan_cells (pos 100); command = off; speed = pos 0; fault = 0; link = Good }

-- the command would turn the fan backwards
abbrev pub is_backwards : InForce → Bool
is_backwards command = int_lt (target command) (pos 0)

-- commanded backwards the fan trips with fault 1
abbrev pub fault_under : InForce → ℕ → ℕ
fault_under command fault = cond (is_backwards command) 1 fault

-- where the speed goes under a command and a fault: to the target, in a fault to 0
abbrev pub aim : InForce → ℕ → ℤ
aim command fault = cond (fault == 0) (target command) (pos 0)

-- a tick, with this step
abbrev pub fan_ticked : ℕ → Meaning → Meaning
fan_ticked step m =
    moved m (toward m.speed (aim m.command (fault_under m.command m.fault)) step) (fault_under m.command m.fault) m.link

-- a reset clears the fault, unless the command still turns the fan backwards
abbrev pub fan_reset : Meaning → Meaning
fan_reset m = with_fault m (cond (is_backwards m.command) m.fault 0)
