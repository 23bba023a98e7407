-- The limits of a run.
use Rattle.std.specs.Prelude.{◌≤◌, ◌+◌}
use Rattle.mintc_text.specs.declared.limits.Most.{Most}
use Rattle.mintc_text.specs.declared.limits.TheConstants.{MOST_ARCS, MOST_BYTES, MOST_ELEMENTS, MOST_INNER, MOST_LEAVES}
use Rattle.mintc_text.specs.declared.limits.TheConstants.{MOST_MEMBERS, MOST_PAIRS, MOST_SCOPES, MOST_SLACK}

-- Each is within the limit of what can be worked on, and a chain has a member for time 0, for the start and the end
-- of each of 8 phases and for each element.
pub record AreLimits (most : Most) : Type 0 where
  pub bytes : most.bytes ≤ MOST_BYTES
  pub elements : most.elements ≤ MOST_ELEMENTS
  pub inner : most.inner ≤ MOST_INNER
  pub arcs : most.arcs ≤ MOST_ARCS
  pub pairs : most.pairs ≤ MOST_PAIRS
  pub scopes : most.scopes ≤ MOST_SCOPES
  pub leaves : most.leaves ≤ MOST_LEAVES
  pub members : most.members ≤ MOST_MEMBERS
  pub slack : most.slack ≤ MOST_SLACK
  pub chains : most.elements + 17 ≤ most.members

-- the limits of mintc
abbrev pub usual : Most
usual = record {
  bytes = 67108864;
  elements = 2000;
  inner = 262144;
  arcs = 524288;
  pairs = 200000;
  scopes = 50000;
  leaves = 50000;
  members = 4096;
  slack = 2000;
}

-- the largest limits
abbrev pub large : Most
large = record {
  bytes = 1073741824;
  elements = 20000;
  inner = 8388608;
  arcs = 16777216;
  pairs = 10000000;
  scopes = 1000000;
  leaves = 1000000;
  members = 32768;
  slack = 2000;
}
