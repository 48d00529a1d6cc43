-- Whether the drive can be reached. Assumes nothing.
use Rattle.std.specs.Prelude.{ℕ, cond, List, codes, ◌==◌}
use Rattle.drive.specs.declared.link.Link.{Link}
use Rattle.drive.specs.declared.link.Link.TheVariants.{Good, LostForNow, LostForGood}

-- the number of a link
abbrev pub link_number : Link → ℕ
link_number Good = 0
link_number LostForNow = 1
link_number LostForGood = 2

-- the link with a number, where those above 2 mean 2
abbrev pub link_of : ℕ → Link
link_of n = cond (n == 0) Good (cond (n == 1) LostForNow LostForGood)

-- the words for a link
abbrev pub link_text : Link → List ℕ
link_text Good = codes "good"
link_text LostForNow = codes "lost for now"
link_text LostForGood = codes "lost for good"
