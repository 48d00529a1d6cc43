use Rattle.std.proofs.Common.{◌≡◌, ℕ, zero, suc, refl, ◌∙◌, rules}
use Rattle.control.specs.Step.{one_step, steps, stepped}
use Rattle.control.specs.declared.drive_state.DriveState.{DriveState}
use Rattle.control.proofs.transitions.step.Goals as goal

-- after two steps a third changes nothing
stepped_still : (w : ℕ) (s : DriveState) → one_step w (stepped w s) ≡ stepped w s
stepped_still w s = search rules

-- steps made before change nothing at the end
stepped_steps : (w n : ℕ) (s : DriveState) → stepped w (steps n w s) ≡ stepped w s
stepped_steps w zero s = refl
stepped_steps w (suc n) s = stepped_still w (steps n w s) ∙ stepped_steps w n s

pub returns-clause-stands_still : goal.returns-clause-stands_still
returns-clause-stands_still c = search (rules, stepped_still, stepped_steps)
