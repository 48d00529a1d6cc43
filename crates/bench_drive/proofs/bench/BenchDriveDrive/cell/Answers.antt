use Rattle.drive.proofs.Lawful.{cells_lawful}
use Rattle.bench_drive.specs.Bench.{bench_meaning}
use Rattle.bench_drive.proofs.Values.{cells_sound}
use Rattle.bench_drive.proofs.bench.BenchDriveDrive.cell.Goals as goal

pub returns-in_err-place-clause-lawful : goal.returns-in_err-place-clause-lawful
returns-in_err-place-clause-lawful c = let b = c.args.self.now in cells_lawful (bench_meaning b) (cells_sound b.values b.within)

pub returns-clause-lawful : goal.returns-clause-lawful
returns-clause-lawful c = let b = c.args.self.now in cells_lawful (bench_meaning b) (cells_sound b.values b.within)
