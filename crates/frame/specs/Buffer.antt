-- What an answer leaves in a lent buffer. Assumes nothing.
use Rattle.std.specs.Prelude.{ℕ, List, ◌++◌, drop, Ok, Err, Result}

-- the bytes put down, then those that were there; a refusal leaves every byte
abbrev pub put_by : {E : Type 0} → Result ℕ E → List ℕ → List ℕ → List ℕ
put_by (Ok n) bytes buffer = bytes ++ drop n buffer
put_by (Err e) bytes buffer = buffer
