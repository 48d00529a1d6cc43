use Rattle.std.proofs.Common.{arith}
use Rattle.std.proofs.lemmas.Int.{ints, clamps}
use Rattle.drive.proofs.speed.Speed.toward.Goals as goal

pub returns-then-up-target : goal.returns-then-up-target
returns-then-up-target c = record {
  value = grind (arith, ints);
  between = record { low = omega (arith, ints, clamps); high = omega (arith, ints, clamps) };
}

pub returns-then-target-down : goal.returns-then-target-down
returns-then-target-down c = record {
  value = grind (arith, ints);
  between = record { low = omega (arith, ints, clamps); high = omega (arith, ints, clamps) };
}

pub returns : goal.returns
returns c = record {
  value = grind (arith, ints);
  between = record { low = omega (arith, ints, clamps); high = omega (arith, ints, clamps) };
}
