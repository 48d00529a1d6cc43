use Rattle.std.proofs.Common.{rules, ap, ◌∙◌}
use Rattle.std.proofs.lemmas.List.Sorted.{answers_always}
use Rattle.std.specs.Ordering.{is_lt}
use Rattle.table_drive.specs.Key.{key_of}
use Rattle.table_drive.specs.Order.{rises}
use Rattle.table_drive.proofs.KeyOrder.{derived, derived_is}
use Rattle.table_drive.proofs.Searching.{told}
use Rattle.table_drive.proofs.acceptance.rises.Goals as goal

pub returns : goal.returns
returns c =
    told derived key_of c.args.cells.now _ (c.is_sorted_by.ensures.cases (λ x y. is_lt (derived (key_of x) (key_of y))) (answers_always _ _ _ (λ f a r g call. search rules)))
    ∙ ap (λ order. rises order key_of c.args.cells.now) derived_is
