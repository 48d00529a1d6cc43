use Rattle.std.proofs.Common.{◌≡◌, ◌*◌, length, ap, ◌∙◌, arith}
use Rattle.frame.specs.Hex.{digits_of}
use Rattle.frame.proofs.Digits.{over, over_all, length_digits, digits_more}
use Rattle.frame.proofs.hex.put_digits.Goals as goal

pub loop-i-preserved : goal.loop-i-preserved
loop-i-preserved c =
    digits_more c.args.bytes.now c.args.text.now c.loop-i.text c.loop-i.i _ _ (omega arith) c.requires c.loop-i.invariant c.digit.ensures c.digit-in-loop-i.ensures

pub returns : goal.returns
returns c =
    let all : c.loop-i.i ≡ length c.args.bytes.now = omega arith in
    c.loop-i.invariant
    ∙ ap (λ n. over c.args.text.now (digits_of c.args.bytes.now) (2 * n)) all
    ∙ over_all c.args.text.now (digits_of c.args.bytes.now) _ (length_digits c.args.bytes.now)
