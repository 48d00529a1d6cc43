use Rattle.std.proofs.Common.{◌≡◌, rules}
use Rattle.frame.specs.Reader.{reading, outcome}
use Rattle.frame.proofs.Exact.{exact}
use Rattle.frame.proofs.Damage.{changed_refused}
use Rattle.frame.proofs.reader.read.Goals as goal

pub returns-then-is_short : goal.returns-then-is_short
returns-then-is_short c =
    let v : outcome c.fields.result ≡ reading c.args.bytes.now = search rules in
    record {
      value = v;
      accepted_is_written = exact _ _ v;
      changed_is_refused = changed_refused _ _ (λ k. (c.type_inv.bytes k).fits) v;
    }

pub returns-then-is_long : goal.returns-then-is_long
returns-then-is_long c =
    let v : outcome c.fields-then-is_long.result ≡ reading c.args.bytes.now = search rules in
    record {
      value = v;
      accepted_is_written = exact _ _ v;
      changed_is_refused = changed_refused _ _ (λ k. (c.type_inv.bytes k).fits) v;
    }
