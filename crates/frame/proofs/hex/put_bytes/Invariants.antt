use Rattle.std.proofs.Common.{◌≡◌}
use Rattle.frame.specs.Hex.{bytes_of}
use Rattle.frame.proofs.Digits.{over}
use Rattle.frame.proofs.hex.put_bytes.Given as goal

abbrev pub invariant-loop-i : goal.invariant-loop-i
invariant-loop-i l = l.bytes ≡ over l.initial.bytes (bytes_of l.text) l.i
