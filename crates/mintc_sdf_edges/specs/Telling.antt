-- What the items of a text in form tell of its delays by edge.
use Rattle.std.specs.Prelude.{ℕ, suc, ℤ, Bool, true, false, ◌||◌, if◌then◌else◌, List, [], ◌∷◌, ◌++◌, length, Option}
use Rattle.std.specs.Prelude.{Some, None, is_some, option_map, option_and_then, codes}
use Rattle.std.specs.List.{list_any}
use Rattle.mintc_sdf_tokens.specs.Items.{Items, none, leaf, quoted, list, is_none}
use Rattle.mintc_sdf_tokens.specs.Words.{is_key}
use Rattle.mintc_sdf.specs.declared.delays.Delay.{Delay}
use Rattle.mintc_sdf.specs.Forms.{scale_of}
use Rattle.mintc_sdf_edges.specs.declared.delays.Edges.{Edges}
use Rattle.mintc_sdf_edges.specs.declared.delays.EdgeDelay.{EdgeDelay}
use Rattle.mintc_sdf_edges.specs.Edges.{both_edges, edge_at, speaks}
use Rattle.mintc_sdf_edges.specs.Spans.{Span, value_spans}

-- What is known between two items: how many femtoseconds the number 1 stands for, the delays that are still to be told
-- apart, and what is told so far.
pub record Progress : Type 0 where
  pub scale : ℕ
  pub left : List Delay
  pub found : List EdgeDelay

-- Delays

-- a delay with the numbers of one value
abbrev pub with_span : Delay → ℤ × ℤ → Delay
with_span d r = record {
  entry = d.entry;
  celltype = d.celltype;
  place = d.place;
  subject = d.subject;
  least = r.0;
  greatest = r.1;
}

-- what a value says of a delay, if it has a number
abbrev pub told_one : Delay → Edges → Edges → Span → List EdgeDelay
told_one d edge speaks None = []
told_one d edge speaks (Some r) = record { delay = with_span d r; edge = edge; speaks = speaks } ∷ []

-- what values say of a delay, of so many, from a place on
abbrev pub told : Delay → Edges → ℕ → ℕ → List Span → List EdgeDelay
told d edge count place [] = []
told d edge count place (s ∷ ss) = told_one d edge (speaks count place) s ++ told d edge count (suc place) ss

-- what is known when values took the next delay
abbrev pub take_next : Edges → List Span → Progress → List Delay → Option Progress
take_next edge ss p [] = None
take_next edge ss p (d ∷ ds) = Some (record {
  scale = p.scale;
  left = ds;
  found = p.found ++ told d edge (length ss) 0 ss;
})

-- what is known after what was said with these values, which is a delay where one of them has a number
abbrev pub keep : Edges → List Span → Progress → Option Progress
keep edge ss p = if list_any is_some ss then take_next edge ss p p.left else Some p

-- the same, where each value is said of another subject
abbrev pub keep_each : Edges → List Span → Progress → Option Progress
keep_each edge [] p = Some p
keep_each edge (s ∷ ss) p = option_and_then (keep_each edge ss) (keep edge (s ∷ []) p)

-- by whether each value is said of another subject
abbrev pub keep_all : Bool → Edges → List Span → Progress → Option Progress
keep_all each edge ss p = if each then keep_each edge ss p else keep edge ss p

-- Definitions and checks

-- (WIDTH port ..) and (PORT port ..) : of one port, whose edge isn't read
abbrev pub has_one_port : List ℕ → Bool
has_one_port k = is_key (codes "PORT") k || is_key (codes "WIDTH") k

-- (IOPATH port port ..) and the like: the edge of the first of two ports counts
abbrev pub has_two_ports : List ℕ → Bool
has_two_ports k =
    is_key (codes "IOPATH") k || is_key (codes "INTERCONNECT") k || is_key (codes "SETUP") k
    || is_key (codes "HOLD") k || is_key (codes "SETUPHOLD") k

-- port .. or port port .. : the edges that count, and the items behind the ports
abbrev pub heading : Bool → Items → Option (Edges × Items)
heading false is = option_map (λ port. (both_edges, port.1)) (edge_at is)
heading true is = option_and_then (λ first. option_map (λ second. (first.0, second.1)) (edge_at first.1)) (edge_at is)

-- port .. value .. : what is known after these ports and values; those of a SETUPHOLD are of a setup and of a hold
abbrev pub said : Progress → List ℕ → Items → Option Progress
said p k is =
    option_and_then (λ h. option_and_then (λ ss. keep_all (is_key (codes "SETUPHOLD") k) h.0 ss p)
    (value_spans p.scale h.1)) (heading (has_two_ports k) is)

-- another scale
abbrev pub with_scale : Progress → ℕ → Progress
with_scale p n = record { scale = n; left = p.left; found = p.found }

-- what is known after a list with this keyword that is no condition
abbrev pub plain : Progress → List ℕ → Items → Option Progress
plain p k is =
    if has_two_ports k || has_one_port k then said p k is
    else (if is_key (codes "TIMESCALE") k then option_map (with_scale p) (scale_of is)
    else Some p)

-- The same of a list that may be a condition: of a COND its last item counts, of a CONDELSE its only one.
unfoldable mutual
  pub item : Progress → Items → Option Progress
  item p (leaf k is) =
      if is_key (codes "COND") k then last_item p is
      else (if is_key (codes "CONDELSE") k then lone_item p is
      else plain p k is)
  item p _ = None

  -- (COND .. item) : what stands before the last item is passed over
  pub last_item : Progress → Items → Option Progress
  last_item p none = None
  last_item p (leaf w is) = last_item p is
  last_item p (quoted s is) = last_item p is
  last_item p (list inner is) = if is_none is then item p inner else last_item p is

  -- (CONDELSE item)
  pub lone_item : Progress → Items → Option Progress
  lone_item p (list inner is) = if is_none is then item p inner else None
  lone_item p _ = None

-- by whether the condition is a CONDELSE
abbrev pub conditional : Bool → Progress → Items → Option Progress
conditional lone p is = if lone then lone_item p is else last_item p is

-- (CELL ..) and the like: lists whose items tell
abbrev pub is_block : List ℕ → Bool
is_block k =
    is_key (codes "CELL") k || is_key (codes "DELAY") k || is_key (codes "ABSOLUTE") k
    || is_key (codes "TIMINGCHECK") k

-- What is known after some items, one after the other and from the outside in.
unfoldable mutual
  pub after_items : Progress → Items → Option Progress
  after_items p none = Some p
  after_items p (list inner is) = option_and_then (λ q. after_items q is) (after_list p inner)
  after_items p _ = None

  -- and after one list
  pub after_list : Progress → Items → Option Progress
  after_list p (leaf k is) = if is_block k then after_items p is else item p (leaf k is)
  after_list p _ = None
