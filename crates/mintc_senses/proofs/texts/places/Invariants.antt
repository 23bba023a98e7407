use Rattle.std.proofs.Common.{◌≡◌, ℕ, ◌<◌, get_or, None, vec_len}
use Rattle.mintc_senses.specs.Seen.{inside_seen}
use Rattle.mintc_senses.proofs.texts.places.Given as goal

abbrev pub invariant-loop-place : goal.invariant-loop-place
invariant-loop-place l = record {
  length : vec_len l.found ≡ l._place;
  none : (k : ℕ) → k < l._place → inside_seen (get_or l.found.items k None) ≡ None;
}
