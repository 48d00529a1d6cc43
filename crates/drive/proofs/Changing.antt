-- What a drive's maker owes of a change, from the cell that was found and its check. Assumes nothing.
use Rattle.std.proofs.Common.{◌≡◌, ℕ, ℤ, Some, None, Ok, Err, Option, Result, sym, refl, ap, ◌∙◌}
use mathlib.Core.Path.{fun_ext}
use Rattle.std.specs.Option.{ok_or}
use Rattle.drive.specs.Cell.{change_check}
use Rattle.drive.specs.Meaning.{Meaning, Cells, change_found, change_answer, changed, put, with_cells, RefusedLeaves}
use Rattle.drive.specs.declared.cell.Cell.{Cell}
use Rattle.drive.specs.declared.change.Change.{Change}
use Rattle.drive.specs.declared.error.ChangeError.{ChangeError}
use Rattle.drive.specs.declared.error.ChangeError.TheVariants.{NoCell}

-- x is the value asked for, as the code holds it
module _ (m : Meaning) (ch : Change) (x : ℤ) (same : x ≡ ch.value) (r : Result Unit ChangeError) where
  -- the answer is the check of the cell that was found
  pub answered : (c : Cell) → Some c ≡ m.cells ch.key.group ch.key.number → r ≡ change_check c m.command ch.width x → r ≡ change_answer m ch
  answered c found checked = checked ∙ ap (change_check c m.command ch.width) same ∙ ap (λ o. change_found o m.command ch.width ch.value) found

  -- an accepted change: only the cells differ, and each is as `put` says
  pub accepted : (u : Unit {0}) (cells : Cells) → r ≡ Ok u → ((h k : ℕ) → cells h k ≡ put m.cells ch.key.group ch.key.number x h k) → with_cells m cells ≡ changed r m ch
  accepted u cells ok each =
      ap (with_cells m) (fun_ext (λ h. fun_ext (λ k. each h k)))
      ∙ ap (λ z. with_cells m (put m.cells ch.key.group ch.key.number z)) same
      ∙ ap (λ q. changed q m ch) (sym ok)

  pub accepted_leaves : (u : Unit {0}) (after : Meaning) → r ≡ Ok u → RefusedLeaves r m after
  accepted_leaves u after ok = rw ok tt

-- nothing is found
pub not_found : (m : Meaning) (ch : Change) → m.cells ch.key.group ch.key.number ≡ None → Err NoCell ≡ change_answer m ch
not_found m ch none = ap (λ o. change_found o m.command ch.width ch.value) (sym none)

-- nothing is found, where `ok_or` and `?` say so of whatever a maker looks a cell up by
pub not_found_by : {P : Type 0} (m : Meaning) (ch : Change) (place : Option P) (e : ChangeError) → Err e ≡ ok_or place NoCell → (place ≡ None → m.cells ch.key.group ch.key.number ≡ None) → Err e ≡ change_answer m ch
not_found_by m ch None e is none = let same : e ≡ NoCell = cc in ap Err same ∙ not_found m ch (none refl)
not_found_by m ch (Some p) e is none = cc

-- a refused change leaves the meaning
module _ (m : Meaning) (ch : Change) (r : Result Unit ChangeError) (e : ChangeError) (refused : r ≡ Err e) where
  pub refused_same : m ≡ changed r m ch
  refused_same = ap (λ q. changed q m ch) (sym refused)

  pub refused_leaves : RefusedLeaves r m m
  refused_leaves = rw refused refl
