use Rattle.std.proofs.Common.{sym, rules}
use Rattle.frame.proofs.Put.{long_put, long_length}
use Rattle.frame.proofs.writer.put.Goals as goal

pub returns : goal.returns
returns c =
    let t = c.args.telegram.now in
    record {
      count = sym (long_length t.destination.0 t.source.0 t.function.0 t.«data».now (search rules));
      bytes = long_put c.args.buffer.now t.«data».now t.destination.0 t.source.0 t.function.0 _ _ _ _ (search rules) c.copy_from_slice-2.ensures.after c.copy_from_slice-3.ensures.after c.check_byte-fcs-2.ensures c.copy_from_slice-4.ensures.after;
    }
