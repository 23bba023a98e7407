-- How many rows of a list are shown.
use Rattle.std.specs.Prelude.{ℕ, zero, suc, ◌-◌, min, List, [], ◌∷◌, ◌++◌, codes, decimal}
use Rattle.mintcx_manners.specs.declared.manners.Limit.{Limit}
use Rattle.mintcx_manners.specs.declared.manners.Limit.TheVariants.{All, Rows}

-- how many of so many rows a limit leaves
abbrev pub shown_rows : Limit → ℕ → ℕ
shown_rows All count = count
shown_rows (Rows most) count = min count most

-- the line for rows that are left out; none for none
abbrev pub left_text : ℕ → List ℕ
left_text zero = []
left_text (suc n) = codes "  " ++ decimal (suc n) ++ codes " more (--limit all)" ++ 10 ∷ []

-- the line for those of so many rows that a limit leaves out
abbrev pub more_text : Limit → ℕ → List ℕ
more_text limit count = left_text (count - shown_rows limit count)
