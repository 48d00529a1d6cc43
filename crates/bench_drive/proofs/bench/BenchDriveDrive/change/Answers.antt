use Rattle.std.proofs.Common.{◌≡◌, Some, ap, arith, w32, to_z, of_z, rules}
use Rattle.std.proofs.lemmas.Int.{ints, to_z-of_z}
use Rattle.drive.specs.Meaning.{with_cells}
use Rattle.bench_drive.specs.Bench.{bench_meaning}
use Rattle.bench_drive.specs.Cells.{place}
use Rattle.bench_drive.proofs.Values.{cells_set, within_set}
use Rattle.bench_drive.proofs.bench.BenchDriveDrive.change.Goals as goal

pub invariant_of-self-clause-within : goal.invariant_of-self-clause-within
invariant_of-self-clause-within c = within_set c.args.self.now.values c.in_ok-place.place _ (grind (arith, ints, c.in_ok-check_change.ensures.taken_fits)) c.args.self.now.within

pub returns-clause-after : goal.returns-clause-after
returns-clause-after c =
    let b = c.args.self.now in
    let ch = c.args.change in
    let same : to_z w32 (of_z w32 ch.value) ≡ ch.value = to_z-of_z w32 ch.value (search rules) in
    let found : Some c.in_ok-place.place ≡ place ch.key.group ch.key.number = grind (arith, c.in_ok-place.ensures.value) in
    simp same (ap (with_cells (bench_meaning b)) (cells_set b.values ch.key.group ch.key.number c.in_ok-place.place ch.value (search rules) found))
