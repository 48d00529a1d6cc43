-- What the reader accepts is exactly what the writer makes of its fields. Assumes nothing.
use Rattle.std.proofs.Common.{◌≡◌, ℕ, ◌+◌, ◌≤◌, Bool, true, cond, ◌⊎◌, List, length, get_or, Ok, Err, Result, sym, ap, ◌∙◌, ⊎_elim, arith}
use Rattle.std.specs.List.{between}
use Rattle.std.proofs.lemmas.Bool.{eqb-true}
use Rattle.std.proofs.lemmas.Bool.Decides.{nat_tests}
use Rattle.frame.specs.Check.{check_byte}
use Rattle.frame.specs.Telegram.{Fields, fields_bytes}
use Rattle.frame.specs.Reader.{reading, fields_from, is_long, is_short}
use Rattle.frame.specs.Laws.{AcceptedIsWritten}
use Rattle.frame.specs.declared.refusal.Refusal.{Refusal}
use Rattle.frame.specs.declared.refusal.Refusal.TheVariants.{NoLayout, WrongCheckByte}
use Rattle.frame.proofs.Shape.{Long, Short, long_facts, short_facts, short_bytes, long_bytes, data_length}

-- how a telegram came to be accepted
pub data Way (bytes : List ℕ) (f : Fields) : Type 0 where
  short : Short bytes → check_byte (between 1 4 bytes) ≡ get_or bytes 4 0 → f ≡ fields_from bytes 1 4 → Way bytes f
  long : Long bytes → check_byte (between 4 (get_or bytes 1 0 + 4) bytes) ≡ get_or bytes (get_or bytes 1 0 + 4) 0 → f ≡ fields_from bytes 4 (get_or bytes 1 0 + 4) → Way bytes f

choose : (s l c d : Bool) (g h f : Fields) → cond s (cond c (Ok g) (Err WrongCheckByte)) (cond l (cond d (Ok h) (Err WrongCheckByte)) (Err NoLayout)) ≡ Ok f → ((s ≡ true) × (c ≡ true) × (f ≡ g)) ⊎ ((l ≡ true) × (d ≡ true) × (f ≡ h))
choose s l c d g h f e = grind arith

pub way : (bytes : List ℕ) (f : Fields) → reading bytes ≡ Ok f → Way bytes f
way bytes f e =
    ⊎_elim
    (λ p. short (short_facts bytes p.0) (eqb-true _ _ p.1) p.2)
    (λ p. long (long_facts bytes p.0) (eqb-true _ _ p.1) p.2)
    (choose (is_short bytes) (is_long bytes) _ _ _ _ f e)

-- the bytes of an accepted telegram are those of its fields
same_bytes : (bytes : List ℕ) (f : Fields) → Way bytes f → (bytes ≡ fields_bytes f) × (length f.«data» ≤ 246)
same_bytes bytes f (short s c e) = (short_bytes bytes s c ∙ ap fields_bytes (sym e), rw e (omega arith))
same_bytes bytes f (long l c e) = (long_bytes bytes l c ∙ ap fields_bytes (sym e), rw e (omega (arith, data_length bytes l)))

by_fields : (bytes : List ℕ) (f : Fields) → bytes ≡ fields_bytes f → length f.«data» ≤ 246 → AcceptedIsWritten bytes (Ok f)
by_fields bytes f e few buffer room = (grind (arith, nat_tests), grind (arith, nat_tests))

pub exact : (bytes : List ℕ) (r : Result Fields Refusal) → r ≡ reading bytes → AcceptedIsWritten bytes r
exact bytes (Ok f) e = let p = same_bytes bytes f (way bytes f (sym e)) in by_fields bytes f p.0 p.1
exact bytes (Err r) e = tt
