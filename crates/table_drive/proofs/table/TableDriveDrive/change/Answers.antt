use Rattle.std.proofs.Common.{set, sym, refl, ap, ◌∙◌, subst, w32, rules}
use Rattle.std.proofs.lemmas.Int.{to_z-of_z}
use Rattle.std.proofs.lemmas.Result.{err_from_is_err_and}
use Rattle.drive.proofs.Changing.{answered, accepted, not_found_by}
use Rattle.table_drive.specs.Acceptance.{cells_rise, all_sound}
use Rattle.table_drive.specs.Table.{table_meaning, put_value, Placed}
use Rattle.table_drive.proofs.InUse.{placed_none, placed_ok}
use Rattle.table_drive.proofs.Writing.{rises_set, sound_set, list_written, cells_written}
use Rattle.table_drive.proofs.table.TableDriveDrive.change.Goals as goal

pub returns-in_err-i-clause-answer : goal.returns-in_err-i-clause-answer
returns-in_err-i-clause-answer c =
    let t = c.args.self.now in
    let k = c.args.change.key in
    let p = err_from_is_err_and c.from_residual.result c.from_residual.ensures.1 in
    rw (p.1, p.2) (not_found_by (table_meaning t) c.args.change c.place.result _ c.in_err-i.ensures.value (λ none. placed_none t.accepted t.cells.now k (subst (Placed t.accepted t.cells.now k) none c.place.ensures)))

pub returns-in_err-check_change-clause-answer : goal.returns-in_err-check_change-clause-answer
returns-in_err-check_change-clause-answer c =
    let t = c.args.self.now in
    let p = err_from_is_err_and c.from_residual-in_err-check_change.result c.from_residual-in_err-check_change.ensures.1 in
    let at = placed_ok t.accepted t.cells.now c.args.change.key c.place.result c.in_ok-i.i t.rising c.place.ensures c.in_ok-i.ensures.value in
    rw (p.1, p.2) (answered (table_meaning t) c.args.change _ (to_z-of_z w32 c.args.change.value (search rules)) _ _ (sym (at.used _)) c.in_err-check_change.ensures.value)

pub invariant_of-self : goal.invariant_of-self
invariant_of-self c =
    let t = c.args.self.now in
    let list = t.cells.now in
    let i = c.in_ok-i.i in
    let at = placed_ok t.accepted list c.args.change.key c.place.result i t.rising c.place.ensures c.in_ok-i.ensures.value in
    let fits = c.in_ok-check_change.ensures.taken_fits in
    record {
      rising = λ used. ap (λ n. cells_rise (set list i n)) c.with_value.ensures ∙ rises_set list i _ _ (t.rising used);
      sound = λ used. ap (λ n. all_sound (set list i n)) c.with_value.ensures ∙ sound_set list i _ _ (t.sound used) at.within fits.0 fits.1;
    }

pub returns-clause-answer : goal.returns-clause-answer
returns-clause-answer c =
    let t = c.args.self.now in
    let at = placed_ok t.accepted t.cells.now c.args.change.key c.place.result c.in_ok-i.i t.rising c.place.ensures c.in_ok-i.ensures.value in
    answered (table_meaning t) c.args.change _ (to_z-of_z w32 c.args.change.value (search rules)) _ _ (sym (at.used _)) c.in_ok-check_change.ensures.value

pub returns-clause-after : goal.returns-clause-after
returns-clause-after c =
    let t = c.args.self.now in
    let k = c.args.change.key in
    let at = placed_ok t.accepted t.cells.now k c.place.result c.in_ok-i.i t.rising c.place.ensures c.in_ok-i.ensures.value in
    accepted (table_meaning t) c.args.change _ (to_z-of_z w32 c.args.change.value (search rules)) _ tt _ refl (cells_written t.cells.now k c.in_ok-i.i _ _ _ c.with_value.ensures (t.rising at.accepted) at.within (at.named _) t.accepted at.accepted)

pub returns-clause-list : goal.returns-clause-list
returns-clause-list c =
    let t = c.args.self.now in
    let k = c.args.change.key in
    let at = placed_ok t.accepted t.cells.now k c.place.result c.in_ok-i.i t.rising c.place.ensures c.in_ok-i.ensures.value in
    list_written t.cells.now k c.in_ok-i.i _ _ _ c.with_value.ensures (t.rising at.accepted) at.within (at.named _)
    ∙ ap (put_value t.cells.now k) (to_z-of_z w32 c.args.change.value (search rules))
