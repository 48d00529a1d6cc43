-- The keys of cells are in a total order, and it is the one that is derived. Assumes nothing.
use Rattle.std.proofs.Common.{◌≡◌, ℕ, ◌<◌, List, length, get_or, Ordering, Less, Equal, sym, ap, ◌∙◌, arith}
use mathlib.Core.Path.{fun_ext}
use Rattle.std.proofs.lemmas.List.{get_or_default}
use Rattle.std.proofs.lemmas.Bool.Decides.{nat_tests}
use Rattle.std.specs.Cmp.{IsTotalOrder}
use Rattle.std.specs.Ordering.{ordering_reverse, ordering_then, nat_cmp}
use Rattle.drive.specs.declared.cell.Cell.{Cell}
use Rattle.drive.specs.declared.key.Key.{Key}
use Rattle.table_drive.specs.Key.{by_key, key_of}

pub trans : (x y z : Key) → by_key x y ≡ Less → by_key y z ≡ Less → by_key x z ≡ Less
trans x y z a b = grind (arith, nat_tests)

pub itself : (x : Key) → by_key x x ≡ Equal
itself x = grind (arith, nat_tests)

pub same : (x y : Key) → by_key x y ≡ Equal → x ≡ y
same x y e = grind (arith, nat_tests)

antisymm : (x y : Key) → by_key x y ≡ ordering_reverse (by_key y x)
antisymm x y = grind (arith, nat_tests)

congr : (x y z : Key) → by_key x y ≡ Equal → by_key x z ≡ by_key y z
congr x y z e = grind (arith, nat_tests)

pub total : IsTotalOrder by_key
total = record { antisymm = antisymm; trans = trans; congr = congr }

-- the order that is derived: group, then number
abbrev pub derived : Key → Key → Ordering
derived x y = ordering_then (nat_cmp x.group y.group) (nat_cmp x.number y.number)

derived_at : (x y : Key) → derived x y ≡ by_key x y
derived_at x y = grind (arith, nat_tests)

pub derived_is : derived ≡ by_key
derived_is = fun_ext (λ x. fun_ext (λ y. derived_at x y))

-- what a comparison at a place told, at any default
pub told_at : (cs : List Cell) (k : Key) (m : ℕ) (e : Cell) (y : Key) (r : Ordering) → m < length cs → y ≡ key_of (get_or cs m e) → r ≡ by_key y k → (d : Cell) → by_key (key_of (get_or cs m d)) k ≡ r
told_at cs k m e y r h at told d =
    ap (λ z. by_key (key_of z) k) (get_or_default cs m d e h) ∙ ap (λ z. by_key z k) (sym at) ∙ sym told
