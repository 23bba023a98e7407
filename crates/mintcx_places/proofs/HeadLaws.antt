-- What doesn't begin a library.
use Rattle.std.proofs.Common.{◌≡◌, List, None, arith}
use Rattle.mintc_liberty_tokens.specs.declared.reader.Kind.TheVariants as kind
use Rattle.mintc_liberty_tokens.specs.Tokens.{Token, after_left}
use Rattle.mintc_liberty_tokens.specs.Reading.{kind_of}

-- no `{` comes next
pub not-left : (ts : List Token) → (kind.Left ≡ kind_of ts → ⊥) → after_left ts ≡ None
not-left ts n = grind arith
