use Rattle.std.proofs.Common.{rules}
use Rattle.std.proofs.lemmas.List.Sorted.{answers_always}
use Rattle.table_drive.specs.Key.{key_of}
use Rattle.table_drive.proofs.InUse.{placed}
use Rattle.table_drive.proofs.state.TableDrive.place.Goals as goal

pub returns : goal.returns
returns c =
    let t = c.args.self.now in
    let found = c.binary_search_by_key.ensures.position key_of (answers_always _ _ _ (λ f a r g call. search rules)) in
    rw c.ok.ensures.value (placed t.accepted t.cells.now c.args.key c.binary_search_by_key.result c.if-not-self.false t.rising c.binary_search_by_key.ensures.bound found)
