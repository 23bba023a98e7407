-- Tables as CSV.
use Rattle.std.specs.Prelude.{◌≡◌, ◌+◌, ℕ, ℤ, pos, if◌then◌else◌, int_lt, List, take, flat_map}
use Rattle.csv.specs.Reading.{default_config, records}
use Rattle.csv.specs.Writing.{default_writer, row_text, with_terminator}
use Rattle.csv.specs.declared.parser.Terminator.TheVariants as terminator
use Rattle.csv.specs.declared.writer.WriterBuilder.{WriterBuilder}

-- how `csv` is set up to write as RFC 4180 has it: with a carriage return and a line feed at the end of each record
abbrev pub by_rfc : WriterBuilder
by_rfc = with_terminator default_writer terminator.CRLF

-- the text of some records as `csv` then writes it: a comma between two fields, and quotes round those that need them
abbrev pub text_of : List (List (List ℕ)) → List ℕ
text_of rows = flat_map (row_text by_rfc) rows

-- the fields of a row of which den, the denominator of its times, stands behind so many others: where den is 1, it is
-- left out
abbrev pub shown_over : ℤ → ℕ → List (List ℕ) → List (List ℕ)
shown_over den columns fields = take (if int_lt (pos 1) den then columns + 1 else columns) fields

-- The text is a table of these rows, the head line first.
pub record IsTable (rows : List (List (List ℕ))) (text : List ℕ) : Type 0 where
  -- they are what `csv` reads of it
  pub read : records default_config text ≡ rows
  -- and this is how it stands there
  pub written : text ≡ text_of rows
