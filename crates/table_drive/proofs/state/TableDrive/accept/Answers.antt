use Rattle.table_drive.proofs.InUse.{finds}
use Rattle.table_drive.proofs.state.TableDrive.accept.Goals as goal

pub returns-clause-finds : goal.returns-clause-finds
returns-clause-finds c = finds c.judged-verdict.result c.args.self.now.cells.now _ c.is_ok-self.ensures.value c.judged-verdict.ensures
