-- The tokens of parts of an object.
use Rattle.std.specs.Prelude.{List, [], ◌∷◌, ◌++◌}
use Rattle.json.specs.Json.{Json}
use Rattle.json.specs.Token.{Token}
use Rattle.json.specs.Tree.{json_tokens}
use Rattle.mintcx_json.specs.Objects.{Field}

-- the tokens of some members of an object
abbrev pub fields_tokens : List Field → List Token
fields_tokens [] = []
fields_tokens (field ∷ fields) = Token.key field.0 ∷ (json_tokens field.1 ++ fields_tokens fields)

-- the tokens of some items of an array
abbrev pub values_tokens : List Json → List Token
values_tokens [] = []
values_tokens (value ∷ values) = json_tokens value ++ values_tokens values
