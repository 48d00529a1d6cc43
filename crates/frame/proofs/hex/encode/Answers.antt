use Rattle.std.proofs.Common.{arith}
use Rattle.frame.proofs.Digits.{length_digits}
use Rattle.frame.proofs.DigitsBack.{read_back}
use Rattle.frame.proofs.hex.encode.Goals as goal

pub returns-then-text-n : goal.returns-then-text-n
returns-then-text-n c =
    let n = length_digits c.args.bytes.now in
    record { value = grind arith; after = grind arith; digits_are_read_back = tt }

pub returns-clause-digits_are_read_back : goal.returns-clause-digits_are_read_back
returns-clause-digits_are_read_back c = read_back c.args.bytes.now c.args.text.now _ (λ k. (c.type_inv.bytes k).fits) c.put_digits.ensures
