use Rattle.std.proofs.Common.{replicate, lit≤}
use Rattle.frame.specs.Telegram.{fields_of}
use Rattle.frames.proofs.Same.{same}
use Rattle.frames.proofs.decoded.decode.Goals as goal

pub returns-clause-same : goal.returns-clause-same
returns-clause-same c =
    same c.args.bytes.now (replicate 255 0) _ (fields_of c.in_ok-frame.frame) c.in_ok-n.n _ c.in_ok-frame.ensures.accepted_is_written (lit≤ tt) c.in_ok-n.ensures.value c.in_ok-n.ensures.after c.eq-same.ensures
