-- The table of a design.
use Rattle.std.specs.Prelude.{◌≡◌, ℕ, List, ◌++◌, length, codes}
use Rattle.mintc_text.specs.Lines.{ended}
use Rattle.mintc_timing.specs.Design.{Design}
use Rattle.mintc_timing_text.specs.TableText.{IsTableText, inner_names}

-- a design with its inner bits called by their numbers, as those of a table are
abbrev pub numbered : Design → Design
numbered d = record d { inner = inner_names (length d.inner) }

-- The text is a table of the design, whose inner bits it calls by their numbers; and it begins with `table 3`.
pub record IsTableOf (d : Design) (text : List ℕ) : Type 0 where
  pub is_table : IsTableText text (numbered d)
  pub rest : List ℕ
  pub third : text ≡ ended (codes "table 3") ++ rest

-- A design has at most one such text.
abbrev pub HaveOneTable : Type 0
HaveOneTable = (d : Design) (a b : List ℕ) → IsTableOf d a → IsTableOf d b → a ≡ b
