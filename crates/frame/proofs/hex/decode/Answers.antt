use Rattle.std.proofs.Common.{arith}
use Rattle.std.proofs.lemmas.Bool.Decides.{nat_tests}
use Rattle.frame.proofs.Digits.{length_bytes}
use Rattle.frame.proofs.DigitsBack.{text_is_its_digits}
use Rattle.frame.proofs.hex.decode.Goals as goal

pub returns-then-bytes-n : goal.returns-then-bytes-n
returns-then-bytes-n c =
    let n = length_bytes c.args.text.now in
    record { value = grind (arith, nat_tests); after = grind (arith, nat_tests); text_is_its_digits = text_is_its_digits c.args.text.now }

pub returns : goal.returns
returns c =
    let n = length_bytes c.args.text.now in
    record { value = grind (arith, nat_tests); after = grind (arith, nat_tests); text_is_its_digits = text_is_its_digits c.args.text.now }
