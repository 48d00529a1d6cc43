use Rattle.drive.specs.Laws.{Steps, HoweverManyTicks}
use Rattle.drive.proofs.ticking.tick_times.Given as goal

abbrev pub invariant-loop-done : goal.invariant-loop-done
invariant-loop-done g l =
    Steps g.D.Drive.ticks l._done l.initial.drive l.drive
    × HoweverManyTicks (g.D.Drive.meaning l.initial.drive) (g.D.Drive.meaning l.drive)
