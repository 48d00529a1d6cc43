-- What the reader accepts, the writer makes again. Assumes nothing.
use Rattle.std.proofs.Common.{◌≡◌, ℕ, ◌-◌, ◌≤◌, Bool, true, false, List, length, take, drop, Ok, nat_eq, refl, ap, ◌∙◌, arith}
use Rattle.std.specs.Cmp.Lexicographic.{pointwise, other_text}
use Rattle.std.proofs.lemmas.List.{take_at}
use Rattle.frame.specs.Telegram.{Fields}
use Rattle.frame.specs.Writer.{writing, written}
use Rattle.frame.specs.Laws.{AcceptedIsWritten}

-- a test of two runs of bytes that are the same says so
told_same : (xs ys : List ℕ) (r : Bool) → r ≡ pointwise nat_eq xs ys → xs ≡ ys → r ≡ true
told_same xs ys true test is = refl
told_same xs ys false test is = absurd (other_text xs ys test is)

pub same : (bytes buffer after : List ℕ) (f : Fields) (n : ℕ) (r : Bool) → AcceptedIsWritten bytes (Ok f) → 255 ≤ length buffer → Ok n ≡ writing f (length buffer) → after ≡ written f buffer → r ≡ pointwise nat_eq (take (n - 0) after) bytes → r ≡ true
same bytes buffer after f n r law room answer holds test =
    let p = law buffer room in
    let ok = answer ∙ p.0 in
    let count : n ≡ length bytes = cc in
    let front : take (n - 0) after ≡ bytes = ap (take (n - 0)) (holds ∙ p.1) ∙ take_at bytes (drop (length bytes) buffer) (n - 0) (omega arith) in
    told_same (take (n - 0) after) bytes r test front
