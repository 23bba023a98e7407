-- What is put into tables, key by key: the parts of a cell's table, which are all of it.
use Rattle.std.specs.Prelude.{ℕ, Bool, true, false, List, codes}
use Rattle.std.specs.Ordering.{nat_cmp, match_ordering}
use Rattle.std.specs.Cmp.Lexicographic.{slice_cmp}
use Rattle.toml.specs.Data.{Data, string, integer, boolean, Members, no_members, member}
use Rattle.mintc_cells.specs.declared.cell.Cell.{Cell}
use Rattle.mintc_cells.specs.declared.cell.Cell.TheVariants.{Gate, Latch, Flop, Clock}
use Rattle.liberty2toml_command.specs.Tables.{texts, one_of}

-- a member put in its place by its key, in place of what is there
abbrev pub put_member : List ℕ → Data → Members → Members
put_member k d no_members = member k d no_members
put_member k d (member l e ms) = match_ordering (slice_cmp nat_cmp k l) (member k d (member l e ms)) (member l d ms)
    (member l e (put_member k d ms))

-- a member put in its place, where it is there
abbrev pub put_if : Bool → List ℕ → Data → Members → Members
put_if true k d ms = put_member k d ms
put_if false k d ms = ms

-- the word for a cell's kind
abbrev pub kind_of : Cell → List ℕ
kind_of (Gate inputs outputs min max) = codes "gate"
kind_of (Latch pin_d pin_g high outputs ignored setup hold has_hold dq_min dq_max cq_min cq_max has_cq width) = codes
    "latch"
kind_of (Flop pin_d pin_clock rising outputs ignored setup hold has_hold cq_min cq_max width) = codes "flop"
kind_of (Clock input output invert ignored) = codes "clock"

-- the pins that have a key of their own
abbrev pub put_pins : Cell → Members → Members
put_pins (Gate inputs outputs min max) ms = ms
put_pins (Latch pin_d pin_g high outputs ignored setup hold has_hold dq_min dq_max cq_min cq_max has_cq width) ms =
    put_member (codes "g") (string pin_g) (put_member (codes "d") (string pin_d) ms)
put_pins (Flop pin_d pin_clock rising outputs ignored setup hold has_hold cq_min cq_max width) ms =
    put_member (codes "clock") (string pin_clock) (put_member (codes "d") (string pin_d) ms)
put_pins (Clock input output invert ignored) ms = put_member (codes "output") (string output)
    (put_member (codes "input") (string input) ms)

-- the lists of pins
abbrev pub put_lists : Cell → Members → Members
put_lists (Gate inputs outputs min max) ms = put_member (codes "outputs") (texts outputs)
    (put_member (codes "inputs") (texts inputs) ms)
put_lists (Latch pin_d pin_g high outputs ignored setup hold has_hold dq_min dq_max cq_min cq_max has_cq width) ms =
    put_member (codes "ignored") (texts ignored) (put_member (codes "outputs") (texts outputs) ms)
put_lists (Flop pin_d pin_clock rising outputs ignored setup hold has_hold cq_min cq_max width) ms =
    put_member (codes "ignored") (texts ignored) (put_member (codes "outputs") (texts outputs) ms)
put_lists (Clock input output invert ignored) ms = put_member (codes "ignored") (texts ignored) ms

-- the level, the edge, or whether the clock is inverted
abbrev pub put_sense : Cell → Members → Members
put_sense (Gate inputs outputs min max) ms = ms
put_sense (Latch pin_d pin_g high outputs ignored setup hold has_hold dq_min dq_max cq_min cq_max has_cq width) ms =
    put_member (codes "active") (one_of high (codes "high") (codes "low")) ms
put_sense (Flop pin_d pin_clock rising outputs ignored setup hold has_hold cq_min cq_max width) ms =
    put_member (codes "edge") (one_of rising (codes "rising") (codes "falling")) ms
put_sense (Clock input output invert ignored) ms = put_member (codes "invert") (boolean invert) ms

-- the delays
abbrev pub put_delays : Cell → Members → Members
put_delays (Gate inputs outputs min max) ms = put_member (codes "max") (integer max)
    (put_member (codes "min") (integer min) ms)
put_delays (Latch pin_d pin_g high outputs ignored setup hold has_hold dq_min dq_max cq_min cq_max has_cq width) ms =
    put_if has_cq (codes "cq_max") (integer cq_max) (put_if has_cq (codes "cq_min") (integer cq_min)
    (put_member (codes "dq_max") (integer dq_max) (put_member (codes "dq_min") (integer dq_min) ms)))
put_delays (Flop pin_d pin_clock rising outputs ignored setup hold has_hold cq_min cq_max width) ms =
    put_member (codes "cq_max") (integer cq_max) (put_member (codes "cq_min") (integer cq_min) ms)
put_delays (Clock input output invert ignored) ms = ms

-- what a latch or flop asks of its data and of its clock
abbrev pub put_checks : Cell → Members → Members
put_checks (Gate inputs outputs min max) ms = ms
put_checks (Latch pin_d pin_g high outputs ignored setup hold has_hold dq_min dq_max cq_min cq_max has_cq width) ms =
    put_if has_hold (codes "hold") (integer hold)
    (put_member (codes "width") (integer width) (put_member (codes "setup") (integer setup) ms))
put_checks (Flop pin_d pin_clock rising outputs ignored setup hold has_hold cq_min cq_max width) ms =
    put_if has_hold (codes "hold") (integer hold)
    (put_member (codes "width") (integer width) (put_member (codes "setup") (integer setup) ms))
put_checks (Clock input output invert ignored) ms = ms
