-- The table of a verdict.
use Rattle.std.specs.Prelude.{ℕ, List, [], ◌∷◌, codes, decimal}
use Rattle.mintc_checker.specs.declared.verdict.Verdict.{Verdict}
use Rattle.mintc_checker.specs.declared.verdict.Verdict.TheVariants.{Valid, Invalid}
use Rattle.mintcx_verdicts.specs.Verdicts.{test_name, test_of}
use Rattle.mintcx_csv.specs.Tables.{IsTable}

-- the head line
abbrev pub verdict_fields : List (List ℕ)
verdict_fields = codes "verdict" ∷ codes "test" ∷ codes "fails" ∷ []

-- the row of a verdict: whether it is valid, and else the first test that fails, by its number and by what it looks at
abbrev pub verdict_record : Verdict → List (List ℕ)
verdict_record Valid = codes "valid" ∷ [] ∷ [] ∷ []
verdict_record (Invalid n) = codes "invalid" ∷ decimal n ∷ test_name (test_of n) ∷ []

-- The text is the table of a verdict, of one row.
abbrev pub IsVerdictTable : Verdict → List ℕ → Type 0
IsVerdictTable v text = IsTable (verdict_fields ∷ verdict_record v ∷ []) text
