use Rattle.std.proofs.Common.{ℤ, ◌≤ℤ◌, arith, rules}
use Rattle.std.proofs.lemmas.Int.{ints, clamps}
use Rattle.control.specs.Scale.{scaled_speed}
use Rattle.control.proofs.scale.scaled_speed.Goals as goal

-- order is kept
ordered : (a b : ℤ) → a ≤ℤ b → scaled_speed a ≤ℤ scaled_speed b
ordered a b below = grind (arith, ints, clamps)

pub returns-clause-scales : goal.returns-clause-scales
returns-clause-scales c = search (rules, ordered)
