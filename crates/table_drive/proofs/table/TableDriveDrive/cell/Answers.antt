use Rattle.std.proofs.Common.{sym, ◌∙◌}
use Rattle.drive.proofs.Lawful.{cells_lawful}
use Rattle.table_drive.specs.Table.{table_meaning}
use Rattle.table_drive.proofs.InUse.{placed_none, placed_some, sound_in_use}
use Rattle.table_drive.proofs.table.TableDriveDrive.cell.Goals as goal

pub returns-in_err-i : goal.returns-in_err-i
returns-in_err-i c =
    let t = c.args.self.now in
    record {
      value = c.from_residual.ensures ∙ sym (placed_none t.accepted t.cells.now c.args.key c.in_err-i.ensures);
      lawful = cells_lawful (table_meaning t) (sound_in_use t.accepted t.cells.now t.sound);
    }

pub returns : goal.returns
returns c =
    let t = c.args.self.now in
    record {
      value = sym ((placed_some t.accepted t.cells.now c.args.key c.in_ok-i.i t.rising c.in_ok-i.ensures).used _);
      lawful = cells_lawful (table_meaning t) (sound_in_use t.accepted t.cells.now t.sound);
    }
