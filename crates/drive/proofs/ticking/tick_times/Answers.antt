use Rattle.std.proofs.Common.{refl, add-one}
use Rattle.drive.proofs.Ticks.{no_tick, one_more}
use Rattle.drive.proofs.ticking.tick_times.Goals as goal

pub loop-done-init : goal.loop-done-init
loop-done-init g c = (refl, no_tick _)

pub loop-done-preserved : goal.loop-done-preserved
loop-done-preserved g c = (
  rw add-one (c.loop-done.drive, c.loop-done.invariant.0, c.tick.ensures.exact),
  one_more _ _ _ c.loop-done.invariant.1 c.tick.ensures.after,
)
