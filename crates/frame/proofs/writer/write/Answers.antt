use Rattle.std.proofs.Common.{◌≡◌, Some, arith, refl}
use Rattle.std.proofs.lemmas.Option.{MatchOption-at_some}
use Rattle.std.specs.Array.{IsFirstChunk}
use Rattle.frame.specs.Telegram.{telegram_fields}
use Rattle.frame.proofs.Put.{put_in_room, room_and_rest, too_long, wrote}
use Rattle.frame.proofs.Trip.{read_back}
use Rattle.frame.proofs.writer.write.Goals as goal

pub returns-then-telegram-gt-MOST_DATA : goal.returns-then-telegram-gt-MOST_DATA
returns-then-telegram-gt-MOST_DATA c =
    let some : c.first_chunk_mut.result ≡ Some c.in_ok-room.room = grind (arith, c.in_ok-room.ensures.value) in
    let chunk : IsFirstChunk c.args.buffer.now c.in_ok-room.room.now 255 = MatchOption-at_some _ _ _ some c.first_chunk_mut.ensures.cases in
    let p = too_long (telegram_fields c.args.telegram.now) _ _ chunk.enough c.if-telegram-gt-MOST_DATA.true (room_and_rest _ _ chunk) in
    record { value = p.0; after = p.1; written_is_read_back = tt }

pub returns : goal.returns
returns c =
    let f = telegram_fields c.args.telegram.now in
    let few = c.if-telegram-gt-MOST_DATA.false in
    let some : c.first_chunk_mut.result ≡ Some c.in_ok-room.room = grind (arith, c.in_ok-room.ensures.value) in
    let chunk : IsFirstChunk c.args.buffer.now c.in_ok-room.room.now 255 = MatchOption-at_some _ _ _ some c.first_chunk_mut.ensures.cases in
    let put = put_in_room f _ _ _ _ few chunk c.put.ensures in
    let p = wrote f _ _ _ chunk.enough few put in
    record { value = p.0; after = p.1; written_is_read_back = read_back f _ _ _ refl few put }
