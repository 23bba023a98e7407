-- What a document says without the keys of senses.
use Rattle.std.specs.Prelude.{ℕ, Bool, if◌then◌else◌, List, [], codes, bytes_eq}
use Rattle.toml.specs.Data.{Data, table, Members, no_members, member, get_member, same_key}
use Rattle.mintc_toml.specs.Lookups.{text_in}

-- whether a table is that of a clock cell, which has no such keys
abbrev pub is_clock : Members → Bool
is_clock ms = bytes_eq (text_in [] (get_member (codes "kind") ms)) (codes "clock")

-- a table without a key, which stands in it once at most
abbrev pub without : List ℕ → Members → Members
without key no_members = no_members
without key (member k d ms) = if same_key key k then ms else member k d (without key ms)

-- a table without both keys, or as it is where it is that of a clock cell
abbrev pub plain_table : Members → Members
plain_table ms = if is_clock ms then ms else without (codes "negative") (without (codes "positive") ms)

-- an entry without them
abbrev pub plain_entry : Data → Data
plain_entry (table ms) = table (plain_table ms)
plain_entry d = d

-- a table with each of its values changed
abbrev pub each_value : (Data → Data) → Members → Members
each_value f no_members = no_members
each_value f (member k d ms) = member k (f d) (each_value f ms)

-- a table of entries without them
abbrev pub plain_entries : Data → Data
plain_entries (table ms) = table (each_value plain_entry ms)
plain_entries d = d

-- a document without them: its tables, of which only `cell` is in form, without those of their entries
abbrev pub plain_document : Members → Members
plain_document ms = each_value plain_entries ms
