-- The edges that a delay text speaks of, and those of its ports.
use Rattle.std.specs.Prelude.{ℕ, true, false, Bool, ◌||◌, ◌==◌, if◌then◌else◌, List, Option}
use Rattle.std.specs.Prelude.{Some, None, option_map, codes, bytes_eq}
use Rattle.mintc_sdf_tokens.specs.Items.{Items, none, leaf, quoted, list, is_none}
use Rattle.mintc_sdf_tokens.specs.Words.{is_key}
use Rattle.mintc_sdf.specs.Forms.{with_items}
use Rattle.mintc_sdf_edges.specs.declared.delays.Edges.{Edges}

-- both edges
abbrev pub both_edges : Edges
both_edges = record { rise = true; fall = true }

-- a rise alone
abbrev pub rising : Edges
rising = record { rise = true; fall = false }

-- a fall alone
abbrev pub falling : Edges
falling = record { rise = false; fall = true }

-- the words that are a rise
abbrev pub is_rise : List ℕ → Bool
is_rise w =
    is_key (codes "posedge") w || bytes_eq w (codes "01") || bytes_eq w (codes "0z") || bytes_eq w (codes "z1")

-- The edge that a word is before a port's name: a rise, or else a fall.
abbrev pub edge_of : List ℕ → Edges
edge_of w = if is_rise w then rising else falling

-- the edge inside the parentheses of a port: `edge name`, or `COND .. port`, of which the last item counts
unfoldable mutual
  pub inner_edge : Items → Option Edges
  inner_edge (leaf k is) = if is_key (codes "COND") k then last_edge is else Some (edge_of k)
  inner_edge _ = None

  -- .. port : what stands before the last item is passed over
  pub last_edge : Items → Option Edges
  last_edge none = None
  last_edge (leaf w is) = if is_none is then Some both_edges else last_edge is
  last_edge (quoted s is) = if is_none is then None else last_edge is
  last_edge (list inner is) = if is_none is then inner_edge inner else last_edge is

-- port .. : the edges of the port that comes first, which are both of a bare name, and the items behind it
abbrev pub edge_at : Items → Option (Edges × Items)
edge_at (leaf w is) = Some (both_edges, is)
edge_at (list inner is) = option_map (with_items is) (inner_edge inner)
edge_at _ = None

-- Of so many values that of a place, counted from 0, speaks of these edges: of both where it is the only one; else the
-- first of a rise, the second of a fall, and each further one, which is a turn to or from Z, of both.
abbrev pub speaks : ℕ → ℕ → Edges
speaks count place =
    if count == 1 then both_edges
    else (if place == 0 then rising
    else (if place == 1 then falling
    else both_edges))
