-- What a cell is found by, in words. Assumes nothing.
use Rattle.std.specs.Prelude.{ℕ, ◌-◌, ◌^◌, List, ◌∷◌, ◌++◌, decimal}
use Rattle.std.specs.Fmt.{styled_decimal, format_spec}
use Rattle.drive.specs.declared.key.Key.{Key}

-- a number in two digits at least, as a format's hole `02` writes it
abbrev pub two_digits : ℕ → List ℕ
two_digits n = styled_decimal (format_spec 32 0 4 2 (2 ^ 64 - 1)) n

-- group and number with a dot between them
abbrev pub key_text : Key → List ℕ
key_text k = decimal k.group ++ (46 ∷ two_digits k.number)
