use Rattle.std.proofs.Common.{◌≡◌, ◌≤◌}
use Rattle.mintc_senses.specs.Words.{words_of, is_wanted_among}
use Rattle.mintc_senses.specs.Seen.{words_from}
use Rattle.mintc_senses.proofs.words.has_word.Given as goal

-- the words that are passed aren't wanted
abbrev pub invariant-loop-place : goal.invariant-loop-place
invariant-loop-place l = record {
  word : l.from ≤ l.place;
  same : is_wanted_among l.same l.word (words_of l.cut l.text) ≡ is_wanted_among l.same l.word (words_from l.cut l.text l.from l.place);
}
