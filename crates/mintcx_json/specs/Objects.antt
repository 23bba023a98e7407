-- Answers as values of JSON, and their texts.
use Rattle.std.specs.Prelude.{◌≡◌, ℕ, ℤ, List, [], ◌∷◌, ◌++◌, codes, decimal, Some}
use Rattle.std.specs.Fmt.{signed_decimal}
use Rattle.std.specs.Str.Lossy.{utf8_lossy}
use Rattle.json.specs.Json.{Json, number, string, array, object, document}
use Rattle.json.specs.Json.{Items, no_items, item, Members, no_members, member}
use Rattle.json.specs.Print.{print}
use Rattle.json.specs.Tree.{json_tokens}

-- a member of an object: its key and its value
abbrev pub Field : Type 0
Field = List ℕ × Json

-- the members of an object, in order
abbrev pub members_of : List Field → Members
members_of [] = no_members
members_of (field ∷ fields) = member field.0 field.1 (members_of fields)

-- the object of some members
abbrev pub object_of : List Field → Json
object_of fields = object (members_of fields)

-- the items of an array, in order
abbrev pub items_of : List Json → Items
items_of [] = no_items
items_of (value ∷ values) = item value (items_of values)

-- the array of some items
abbrev pub array_of : List Json → Json
array_of values = array (items_of values)

-- a name as a string: its bytes are read as UTF-8, and what isn't has the replacement character in its place
abbrev pub name : List ℕ → Json
name bytes = string (utf8_lossy bytes)

-- a whole number
abbrev pub whole : ℤ → Json
whole z = number (signed_decimal z)

-- a count, which is never below 0
abbrev pub count : ℕ → Json
count n = number (decimal n)

-- The first members of each answer: the version of this form, the command, how its run ends, warnings, what is
-- answered, what it is about, and the unit of its times.
abbrev pub head_fields : List ℕ → ℕ → List ℕ → List ℕ → List Field
head_fields command status answer subject =
    (codes "mintcx", count 1) ∷ (codes "command", string command) ∷ (codes "status", count status) ∷
    (codes "warnings", array_of []) ∷ (codes "answer", string answer) ∷ (codes "design", name subject) ∷
    (codes "unit", string (codes "fs")) ∷ []

-- The text is a value of JSON, on one line.
pub record IsTextOf (value : Json) (text : List ℕ) : Type 0 where
  -- it is the value without a blank, and a line feed
  pub written : text ≡ print (json_tokens value) ++ 10 ∷ []
  -- and what stands before the line feed is read as that value
  pub read : document (print (json_tokens value)) ≡ Some value
