-- The place in its file that a refusal speaks of.
use Rattle.std.specs.Prelude.{◌≡◌, ◌<◌, ◌≤◌, ℕ, ◌-◌, ◌⊎◌, true, false, List, None, length, nat_lt, if◌then◌else◌}
use Rattle.mintc_sdf_tokens.specs.Reading.{after_opening}
use Rattle.mintc_sdf_tokens.specs.Tokens.{tokens_of}
use Rattle.mintc_text.specs.declared.refusals.Role.TheVariants as role
use Rattle.mintc_text.specs.declared.refusals.Refusal.{Refusal}
use Rattle.mintc_text.specs.declared.refusals.Refusal.TheVariants as refusal
use Rattle.mintcx_places.specs.declared.lines.Range.{Range}
use Rattle.mintcx_places.specs.Lines.{HasNoLine, IsNumbered}
use Rattle.mintcx_places.specs.Statements.{HasNoStatement, IsStatement}
use Rattle.mintcx_places.specs.Entries.{HasNoEntry, IsEntry, IsList}
use Rattle.mintcx_places.specs.Library.{HasNoLibraryStatement, IsLibraryStatement}
use Rattle.mintcx_refusals.specs.declared.places.Place.{Place}
use Rattle.mintcx_refusals.specs.declared.places.Pointer.{Pointer}
use Rattle.mintcx_refusals.specs.declared.places.Pointer.TheVariants.{Statement, Entry, Delays, LibraryStatement, Line}
use Rattle.mintcx_refusals.specs.declared.places.Pointer.TheVariants.{Somewhere, Nowhere}

-- what is pointed at: a statement of the netlist or of the library, an entry of the delays or all of them, a line of a
-- table, a schedule or a certificate, some place that is looked for, or no place that is known; a schedule says on line
-- 4 how many phases it has
abbrev pub pointer_of : Refusal → Pointer
pointer_of (refusal.Syntax role.Netlist entry) = Statement entry
pointer_of (refusal.Syntax role.Delays entry) = Entry entry
pointer_of (refusal.Syntax role.Cells entry) = LibraryStatement entry
pointer_of (refusal.Syntax role.Table entry) = Line entry
pointer_of (refusal.Syntax role.Schedule entry) = Line entry
pointer_of (refusal.Syntax role.Certificate entry) = Line entry
pointer_of (refusal.NameTwice entry) = Statement entry
pointer_of (refusal.NoModule entry) = Statement entry
pointer_of (refusal.Recursive entry) = Statement entry
pointer_of (refusal.NoPin entry) = Statement entry
pointer_of (refusal.Width entry) = Statement entry
pointer_of (refusal.TwoDrivers entry) = Statement entry
pointer_of (refusal.NoInstance role.Delays entry) = Entry entry
pointer_of (refusal.NoArc entry) = Entry entry
pointer_of (refusal.Negative entry) = Entry entry
pointer_of (refusal.Range entry) = Entry entry
pointer_of (refusal.PhaseMismatch design schedule) = Line 4
pointer_of (refusal.NoInstance role.Clock entry) = Somewhere
pointer_of (refusal.BadCell entry rule) = Somewhere
pointer_of (refusal.BadClock entry rule) = Somewhere
pointer_of (refusal.TopUnclear count) = Somewhere
pointer_of (refusal.CombinationalLoop arcs) = Somewhere
pointer_of (refusal.NoPhase element) = Somewhere
pointer_of (refusal.PathRange element bit) = Somewhere
pointer_of _ = Nowhere

-- the statement, the entry or the line before; before the first entry the list that delays are
abbrev pub before : Pointer → Pointer
before (Statement n) = Statement (n - 1)
before (Entry n) = if nat_lt 1 n then Entry (n - 1) else Delays
before (LibraryStatement n) = LibraryStatement (n - 1)
before (Line n) = Line (n - 1)
before Delays = Nowhere
before Somewhere = Nowhere
before Nowhere = Nowhere

-- a range is that of what is pointed at, or one of the file
abbrev pub IsAt : List ℕ → Pointer → Range → Type 0
IsAt file (Statement n) range = IsStatement file n range
IsAt file (Entry n) range = IsEntry file n range
IsAt file Delays range = IsList file (tokens_of file) range
IsAt file (LibraryStatement n) range = IsLibraryStatement file n range
IsAt file (Line n) range = IsNumbered file n range
IsAt file Somewhere range = (range.from < range.to) × (range.to ≤ length file)
IsAt file Nowhere range = ⊥

-- the file has nothing that is pointed at, or it isn't said whether it has
abbrev pub HasNone : List ℕ → Pointer → Type 0
HasNone file (Statement n) = HasNoStatement file n
HasNone file (Entry n) = HasNoEntry file n
HasNone file Delays = after_opening (tokens_of file) ≡ None
HasNone file (LibraryStatement n) = HasNoLibraryStatement file n
HasNone file (Line n) = HasNoLine file n
HasNone file Somewhere = Unit {0}
HasNone file Nowhere = Unit {0}

-- a place is that of what is pointed at, or of the last before, where the file ends too soon
abbrev pub IsPlaceAt : List ℕ → Pointer → Place → Type 0
IsPlaceAt file pointer place =
    ((place.is_last ≡ false) × IsAt file pointer place.range)
    ⊎ ((place.is_last ≡ true) × HasNone file pointer × IsAt file (before pointer) place.range)

-- what is marked of a place lies inside of it
abbrev pub HasMark : Place → Type 0
HasMark place =
    (place.range.from ≤ place.mark.from) × (place.mark.from ≤ place.mark.to) × (place.mark.to ≤ place.range.to)

-- the place that a refusal speaks of, in its file, with what is marked of it
abbrev pub IsPlace : List ℕ → Refusal → Place → Type 0
IsPlace file refused place = IsPlaceAt file (pointer_of refused) place × HasMark place

-- a refusal speaks of no place of its file that is known
abbrev pub HasNoPlace : List ℕ → Refusal → Type 0
HasNoPlace file refused = HasNone file (pointer_of refused) × HasNone file (before (pointer_of refused))
