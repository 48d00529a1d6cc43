use Rattle.std.proofs.Common.{◌≡◌, ◌/◌, length, ap, ◌∙◌, arith}
use Rattle.frame.specs.Hex.{bytes_of}
use Rattle.frame.proofs.Digits.{over, over_all, length_bytes, pair_of_digits, pairs_more}
use Rattle.frame.proofs.hex.put_bytes.Goals as goal

pub value-requires : goal.value-requires
value-requires c = (pair_of_digits c.args.text.now c.args.bytes.now _ c.as_chunks.ensures.front c.loop-i.i (omega arith) c.requires.0).0

pub value-requires-in-loop-i : goal.value-requires-in-loop-i
value-requires-in-loop-i c = (pair_of_digits c.args.text.now c.args.bytes.now _ c.as_chunks.ensures.front c.loop-i.i (omega arith) c.requires.0).1

pub loop-i-preserved : goal.loop-i-preserved
loop-i-preserved c =
    pairs_more c.args.text.now c.args.bytes.now _ c.as_chunks.ensures.front c.loop-i.i (omega arith) _ _ _ c.requires.1 c.loop-i.invariant c.value.ensures.is c.value-in-loop-i.ensures.is

pub returns : goal.returns
returns c =
    let all : c.loop-i.i ≡ length c.args.text.now / 2 = omega arith in
    c.loop-i.invariant
    ∙ ap (over c.args.bytes.now (bytes_of c.args.text.now)) all
    ∙ over_all c.args.bytes.now (bytes_of c.args.text.now) _ (length_bytes c.args.text.now)
