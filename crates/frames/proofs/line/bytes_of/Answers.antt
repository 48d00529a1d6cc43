use Rattle.std.proofs.Common.{ap, ◌∙◌, arith}
use Rattle.std.specs.Bool.{then_some}
use Rattle.std.specs.Option.{option_map}
use Rattle.std.specs.Result.{is_ok}
use Rattle.std.specs.Vec.{vec_items, with_items}
use Rattle.std.proofs.lemmas.List.{with_items_is}
use Rattle.frames.proofs.Held.{held}
use Rattle.frames.proofs.line.bytes_of.Goals as goal

pub returns : goal.returns
returns c =
    let bytes = with_items c.in_ok-bytes.bytes c.decode-decoded.new.bytes in
    ap (option_map vec_items) (c.then_some.ensures ∙ ap (λ b. then_some b bytes) (c.is_ok.ensures.value ∙ ap is_ok c.decode-decoded.ensures.value))
    ∙ held c.args.line.now c.as_mut_slice.result.now c.if-is_empty.ensures (c.as_mut_slice.ensures.len ∙ c.in_ok-bytes.ensures.len) bytes (with_items_is c.in_ok-bytes.bytes _ (omega arith) ∙ c.decode-decoded.ensures.after)
