-- The check byte of a telegram. Assumes nothing.
use Rattle.std.specs.Prelude.{ℕ, ◌%◌, List, sum}

-- FCS: the sum of the bytes modulo 256
abbrev pub check_byte : List ℕ → ℕ
check_byte bytes = sum bytes % 256
