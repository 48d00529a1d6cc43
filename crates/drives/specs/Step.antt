-- What a step makes of any drive. Assumes nothing.
use Rattle.std.specs.Prelude.{◌≡◌, Ok, Result}
use Rattle.drive.specs.Command.{command_of}
use Rattle.drive.specs.Meaning.{Meaning, with_command, change_answer, changed, Ticked, Reset as OnlyFault}
use Rattle.drive.specs.declared.error.ChangeError.{ChangeError}
use Rattle.drives.specs.declared.step.Step.{Step}
use Rattle.drives.specs.declared.step.Step.TheVariants.{Command, Change, Tick, Reset}

-- the answer to a step, and the meaning before and after it; ticks, resets and keeps are what the make of drive says besides
abbrev pub Stepped : (ticks resets keeps : Type 0) → Step → Result Unit ChangeError → Meaning → Meaning → Type 0
Stepped ticks resets keeps (Command c) r before after = (r ≡ Ok tt) × (after ≡ with_command before (command_of c)) × keeps
Stepped ticks resets keeps (Change c) r before after = (r ≡ change_answer before c) × (after ≡ changed r before c) × keeps
Stepped ticks resets keeps Tick r before after = (r ≡ Ok tt) × Ticked before after × ticks
Stepped ticks resets keeps Reset r before after = (r ≡ Ok tt) × OnlyFault before after × resets
