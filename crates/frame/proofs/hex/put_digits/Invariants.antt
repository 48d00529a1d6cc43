use Rattle.std.proofs.Common.{◌≡◌, ◌*◌}
use Rattle.frame.specs.Hex.{digits_of}
use Rattle.frame.proofs.Digits.{over}
use Rattle.frame.proofs.hex.put_digits.Given as goal

abbrev pub invariant-loop-i : goal.invariant-loop-i
invariant-loop-i l = l.text ≡ over l.initial.text (digits_of l.bytes) (2 * l.i)
