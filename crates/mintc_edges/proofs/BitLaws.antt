-- As many bits are listed as ports have.
use Rattle.std.proofs.Common.{◌≡◌, Bool, List, length, sym, ap, ◌∙◌}
use Rattle.std.proofs.lemmas.List.{length-map}
use Rattle.mintc_clock.specs.declared.clock.Listed.{Listed}
use Rattle.mintc_flatten_hierarchy.specs.declared.hierarchy.Hierarchy.{Hierarchy}
use Rattle.mintc_annotate.specs.declared.listing.ListedBit.{ListedBit}
use Rattle.mintc_annotate.specs.Counts.{with_port}
use Rattle.mintc_annotate.specs.Gathered.{AreBits}
use Rattle.mintc_annotate.specs.Made.{bits_of}

pub as-many-bits : (h : Hierarchy) (output : Bool) (listed : List Listed) (bits : List ListedBit) → AreBits h output listed bits → length bits ≡ length (bits_of h output listed)
as-many-bits h output listed bits are = sym (length-map bits (with_port listed)) ∙ ap length are.same
