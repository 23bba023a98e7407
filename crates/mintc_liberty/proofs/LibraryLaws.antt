-- A library in the grammar, and one that isn't.
use Rattle.std.proofs.Common.{◌≡◌, ℕ, ◌+◌, ◌<◌, true, false, List, length, Some, None, Err, IsOk, refl, arith}
use Rattle.mintc_liberty_tokens.specs.declared.reader.Kind.TheVariants as kind
use Rattle.mintc_liberty_tokens.specs.Tokens.{Token, after_left}
use Rattle.mintc_liberty_tokens.specs.Statements.{Front, count}
use Rattle.mintc_liberty.specs.Texts.{behind_head, is_end, whole}
use Rattle.mintc_liberty_tokens.specs.Reading.{kind_of}

pub is-whole : (f : Front) → is_end f.after ≡ true → IsOk (whole f)
is-whole f e = rw e refl

pub is-broken : (f : Front) (n : ℕ) → is_end f.after ≡ false → count f.statements ≡ n → whole f ≡ Err (n + 1)
is-broken f n e c = rw (e, c) refl

pub no-end : (ts : List Token) → (kind.Right ≡ kind_of ts → ⊥) → is_end ts ≡ false
no-end ts n = grind arith

pub not-left : (ts : List Token) → (kind.Left ≡ kind_of ts → ⊥) → after_left ts ≡ None
not-left ts n = grind arith

-- what is left behind the head is shorter
pub head-shorter : (ts us : List Token) → behind_head ts ≡ Some us → length us < length ts
head-shorter ts us e = grind arith
