-- The lines of slacks, written one by one.
use Rattle.std.proofs.Common.{◌≡◌, ℕ, ◌+◌, ◌<◌, ◌≤◌, ℤ, pos, List, [], ◌∷◌, ◌++◌, length, get_or, take, map, arith, append_assoc, sym, ap, ◌∙◌}
use Rattle.std.proofs.lemmas.List.{get_or_default, map-append, take_all, take_more}
use Rattle.std.proofs.lemmas.Slice.Zip.{get_or-zip, length-zip}
use Rattle.std.specs.List.{zip}
use Rattle.mintc_text.specs.Lines.{ended, text_of}
use Rattle.mintc_text.proofs.SharedLinesLaws.{text_of-push}
use Rattle.mintc_timing.specs.declared.parts.Pair.{Pair}
use Rattle.mintc_timing.specs.Design.{Timing, no_pair}
use Rattle.mintc_slack.specs.SlackText.{slack_line}

module _ (t : Timing) (extra : List ℤ) (same : length extra ≡ length t.pairs) where
  abbrev all : List (Pair × ℤ)
  all = zip t.pairs extra

  count : length all ≡ length extra
  count = length-zip t.pairs extra ∙ omega arith

  pub slacks_more : (i : ℕ) (x : ℤ) (old now new : List ℕ) → i < length extra → get_or extra i (pos 0) ≡ x → now ≡ old ++ text_of (map (slack_line t.flat) (take i all)) →
      new ≡ now ++ ended (slack_line t.flat (get_or t.pairs i no_pair, x)) → new ≡ old ++ text_of (map (slack_line t.flat) (take (i + 1) all))
  slacks_more i x old now new h is before step =
      let p : Pair × ℤ = (get_or t.pairs i no_pair, x) in
      let inside : i < length all = omega (arith, count) in
      let at = get_or_default all i p (no_pair, pos 0) inside ∙ get_or-zip t.pairs extra i (no_pair, pos 0) (omega arith) h ∙ ap (λ (y : ℤ). (get_or t.pairs i no_pair, y)) is in
      let items = take_more all i p inside ∙ ap (λ (y : Pair × ℤ). take i all ++ y ∷ []) at in
      let lines = ap (map (slack_line t.flat)) items ∙ map-append (slack_line t.flat) (take i all) (p ∷ []) in
      let written = append_assoc old (text_of (map (slack_line t.flat) (take i all))) (ended (slack_line t.flat p)) ∙ ap (λ v. old ++ v) (sym (text_of-push (map (slack_line t.flat) (take i all)) (slack_line t.flat p))) in
      step ∙ ap (λ v. v ++ ended (slack_line t.flat p)) before ∙ written ∙ ap (λ v. old ++ text_of v) (sym lines)

  pub slacks_all : (i : ℕ) → length extra ≤ i → take i all ≡ all
  slacks_all i h = take_all i all (omega (arith, count))
