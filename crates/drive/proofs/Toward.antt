-- A step towards a target stays between the two. Assumes nothing.
use Rattle.std.proofs.Common.{◌≡◌, ℕ, ℤ, pos, ◌+ℤ◌, ◌-ℤ◌, ◌≤ℤ◌, ◌<ℤ◌, arith}
use Rattle.std.proofs.lemmas.Int.{ints, clamps}
use Rattle.drive.specs.Speed.{toward, InSpan}

pub toward_up : (s t z : ℤ) (k : ℕ) → z ≡ s +ℤ pos k → z <ℤ t → z ≡ toward s t k
toward_up s t z k is lt = grind (arith, ints)

pub toward_down : (s t z : ℤ) (k : ℕ) → z ≡ s -ℤ pos k → t <ℤ z → z ≡ toward s t k
toward_down s t z k is lt = grind (arith, ints)

pub toward_there : (s t : ℤ) (k : ℕ) → t ≤ℤ (s +ℤ pos k) → (s -ℤ pos k) ≤ℤ t → t ≡ toward s t k
toward_there s t k up down = grind (arith, ints)

pub up_between : (s t z : ℤ) (k : ℕ) → z ≡ s +ℤ pos k → z <ℤ t → InSpan s t z
up_between s t z k is lt = record { low = omega (arith, ints, clamps); high = omega (arith, ints, clamps) }

pub down_between : (s t z : ℤ) (k : ℕ) → z ≡ s -ℤ pos k → t <ℤ z → InSpan s t z
down_between s t z k is lt = record { low = omega (arith, ints, clamps); high = omega (arith, ints, clamps) }

pub itself_between : (s t : ℤ) → InSpan s t t
itself_between s t = record { low = omega (arith, ints, clamps); high = omega (arith, ints, clamps) }
