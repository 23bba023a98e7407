-- Why words gave nothing.
use Rattle.std.specs.Prelude.{◌≡◌, ◌⊎◌, ⊤, ℕ, List, Some, None, option_and_then, Result, MatchResult}
use Rattle.clap.specs.Words.{App, IsAmong, Kinds, fault_of, subcommand_of}
use Rattle.clap.specs.declared.error.kind.ErrorKind.{ErrorKind}
use Rattle.clap.specs.declared.error.kind.ErrorKind.TheVariants.{DisplayHelp, DisplayVersion, OutOfMemory}
use Rattle.mintcx_requests.specs.declared.given.Given.{Given}
use Rattle.mintcx_words.specs.declared.words.Misread.{Misread}
use Rattle.mintcx_words.specs.declared.words.Misread.TheVariants as misread
use Rattle.mintcx_words.specs.Given.{given_of}

-- the words ask for help or the version
abbrev pub IsAsking : ErrorKind → Type 0
IsAsking kind = (kind ≡ DisplayHelp) ⊎ (kind ≡ DisplayVersion)

-- what is made of an error of this kind; a want of memory says nothing
abbrev pub IsMisread : ErrorKind → Misread → Type 0
IsMisread kind (misread.Answer text) = IsAsking kind
IsMisread kind (misread.Wrong text) = (IsAsking kind → ⊥) × (kind ≡ OutOfMemory → ⊥)
IsMisread kind misread.NoCommand = ⊥
IsMisread kind misread.OutOfMemory = ⊤

-- a kind among these that is so
abbrev pub Allows : Kinds → (ErrorKind → Type 0) → Type 0
Allows kinds P = (kind : ErrorKind) × IsAmong kind kinds × P kind

-- Help and the version are answered only where the words ask for them, and wrong words are told only where clap's
-- definition finds a fault of another kind.
abbrev pub Misreads : App → List (List ℕ) → Misread → Type 0
Misreads a words (misread.Answer text) = Allows (fault_of a words) IsAsking
Misreads a words (misread.Wrong text) = Allows (fault_of a words) (λ kind. IsAsking kind → ⊥)
Misreads a words misread.NoCommand = option_and_then given_of (subcommand_of a words) ≡ None
Misreads a words misread.OutOfMemory = ⊤

-- what the words give, or why they give nothing
abbrev pub IsReading : App → List (List ℕ) → Result Given Misread → Type 0
IsReading a words r =
    MatchResult r (λ given. option_and_then given_of (subcommand_of a words) ≡ Some given) (Misreads a words)
