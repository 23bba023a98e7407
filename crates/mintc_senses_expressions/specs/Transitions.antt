-- Which edges at one place make which edges at another one. An edge is a rise, `true`, or a fall, `false`.
use Rattle.std.specs.Prelude.{Bool, true, false, not, ◌||◌, if◌then◌else◌}
use Rattle.mintc_senses_expressions.specs.declared.transitions.Transitions.{Transitions}

-- whether an edge at the start may make this edge at the end
abbrev pub has : Transitions → Bool → Bool → Bool
has t true true = t.rise_to_rise
has t true false = t.rise_to_fall
has t false true = t.fall_to_rise
has t false false = t.fall_to_fall

-- no edge makes any
abbrev pub no_transitions : Transitions
no_transitions = record { rise_to_rise = false; rise_to_fall = false; fall_to_rise = false; fall_to_fall = false }

-- each edge makes its own kind
abbrev pub same_edges : Transitions
same_edges = record { rise_to_rise = true; rise_to_fall = false; fall_to_rise = false; fall_to_fall = true }

-- each edge makes the other kind
abbrev pub other_edges : Transitions
other_edges = record { rise_to_rise = false; rise_to_fall = true; fall_to_rise = true; fall_to_fall = false }

-- each edge may make both
abbrev pub all_transitions : Transitions
all_transitions = record { rise_to_rise = true; rise_to_fall = true; fall_to_rise = true; fall_to_fall = true }

-- the edges at the end turned
abbrev pub turned : Transitions → Transitions
turned t = record {
  rise_to_rise = t.rise_to_fall;
  rise_to_fall = t.rise_to_rise;
  fall_to_rise = t.fall_to_fall;
  fall_to_fall = t.fall_to_rise;
}

-- those of one and those of the other
abbrev pub together : Transitions → Transitions → Transitions
together s t = record {
  rise_to_rise = s.rise_to_rise || t.rise_to_rise;
  rise_to_fall = s.rise_to_fall || t.rise_to_fall;
  fall_to_rise = s.fall_to_rise || t.fall_to_rise;
  fall_to_fall = s.fall_to_fall || t.fall_to_fall;
}

-- whether some edge makes some
abbrev pub has_some : Transitions → Bool
has_some t = (t.rise_to_rise || t.rise_to_fall) || (t.fall_to_rise || t.fall_to_fall)

-- all of them where there is one
abbrev pub all_if_some : Transitions → Transitions
all_if_some t = if has_some t then all_transitions else no_transitions
