use Rattle.std.proofs.Common.{◌≡◌, Some, sym, ◌∙◌, arith, w32, rules}
use Rattle.std.proofs.lemmas.Int.{to_z-of_z}
use Rattle.std.proofs.lemmas.Result.{err_from_is_err_and}
use Rattle.drive.proofs.Changing.{answered}
use Rattle.fan_drive.specs.Fan.{fan_meaning}
use Rattle.fan_drive.proofs.StepCell.{taken_step}
use Rattle.fan_drive.proofs.fan.FanDriveDrive.change.Goals as goal

pub returns-in_err-check_change-clause-answer : goal.returns-in_err-check_change-clause-answer
returns-in_err-check_change-clause-answer c =
    let found : c.cell.result ≡ Some c.in_ok-cell.cell = grind (arith, c.in_ok-cell.ensures.value) in
    let p = err_from_is_err_and c.from_residual-in_err-check_change.result c.from_residual-in_err-check_change.ensures.1 in
    rw (p.1, p.2) (answered (fan_meaning c.args.self.now) c.args.change _ (to_z-of_z w32 c.args.change.value (search rules)) _ _ (sym found ∙ c.cell.ensures.value) c.in_err-check_change.ensures.value)

pub overflow_cast-self : goal.overflow_cast-self
overflow_cast-self c =
    let found : c.cell.result ≡ Some c.in_ok-cell.cell = grind (arith, c.in_ok-cell.ensures.value) in
    let s = taken_step _ _ c.args.change.key.group c.args.change.key.number c.in_ok-cell.cell (sym found ∙ c.cell.ensures.value) c.in_ok-check_change.ensures.taken_fits in
    (s.sign, s.fits)

pub invariant_of-self : goal.invariant_of-self
invariant_of-self c =
    let found : c.cell.result ≡ Some c.in_ok-cell.cell = grind (arith, c.in_ok-cell.ensures.value) in
    let s = taken_step _ _ c.args.change.key.group c.args.change.key.number c.in_ok-cell.cell (sym found ∙ c.cell.ensures.value) c.in_ok-check_change.ensures.taken_fits in
    record { low = s.low; high = s.high }
