-- Each text leads to the last line of its format, or has a first line out of form, where of each line it can be decided
-- whether it may come next.
use Rattle.std.proofs.Common.{◌≡◌, ◌≢◌, ℕ, zero, suc, ◌<◌, ◌≤◌, ◌+◌, List, [], ◌∷◌, ◌++◌, length, take, drop, length-append, append_assoc, arith, refl, ap, ◌∙◌, sym, subst, ◌⊎◌, inl, inr, ⊎_elim}
use Rattle.mintc_text.specs.Signs.{line_feed}
use Rattle.mintc_text.specs.Lines.{ended, text_of, words, IsText, IsFault}
use Rattle.mintc_timing_text.specs.Fields.{Spells}
use Rattle.mintc_timing_text.proofs.SharedDeciding.{Decided, same_decided, both_decided, text_decided, Searched, searched_numbers}

module _ {S : Type 0} (next : S → List ℕ → S → Type 0) (is_end : S → Type 0) (ends : (a : S) → Decided (is_end a))
    (decides : (a : S) (line : List ℕ) → Decided ((after : S) × next a line after)) where
  -- a line at the front of a text that may come next
  abbrev Goes : S → List ℕ → Type 0
  Goes a text = (line : List ℕ) × (more : List ℕ) × (after : S) × (text ≡ ended line ++ more) × next a line after

  front : (line more : List ℕ) → take (length line) (ended line ++ more) ≡ line
  front [] more = refl
  front (x ∷ line) more = ap (λ (xs : List ℕ). x ∷ xs) (front line more)

  back : (line more : List ℕ) → drop (length line + 1) (ended line ++ more) ≡ more
  back line more = back_by line more (length line + 1) (omega arith)
    where
      back_by : (line more : List ℕ) (n : ℕ) → n ≡ suc (length line) → drop n (ended line ++ more) ≡ more
      back_by [] more zero e = absurd (omega arith)
      back_by [] more (suc zero) e = refl
      back_by [] more (suc (suc n)) e = absurd (omega arith)
      back_by (x ∷ line) more zero e = absurd (omega arith)
      back_by (x ∷ line) more (suc n) e = back_by line more n (omega arith)

  abbrev GoesAt : S → List ℕ → ℕ → Type 0
  GoesAt a text k = (text ≡ ended (take k text) ++ drop (k + 1) text) × ((after : S) × next a (take k text) after)

  goes_at : (a : S) (text line more : List ℕ) (after : S) → text ≡ ended line ++ more → next a line after → (k : ℕ) × (k ≤ length text) × GoesAt a text k
  goes_at a text line more after whole h =
      let first : take (length line) text ≡ line = ap (take (length line)) whole ∙ front line more in
      let rest : drop (length line + 1) text ≡ more = ap (drop (length line + 1)) whole ∙ back line more in
      let size = ap length whole in
      let count = length-append (ended line) more in
      let ending = length-append line (line_feed ∷ []) in (
        length line,
        omega arith,
        (
          whole ∙ ap (λ (xs : List ℕ). ended xs ++ more) (sym first) ∙ ap (λ (ys : List ℕ). ended (take (length line) text) ++ ys) (sym rest),
          (after, subst (λ (xs : List ℕ). next a xs after) (sym first) h),
        ),
      )

  goes : (a : S) (text : List ℕ) → Decided (Goes a text)
  goes a text = same_decided
      (λ h. (take h.0 text, drop (h.0 + 1) text, h.2.1.0, h.2.0, h.2.1.1))
      (λ h. goes_at a text h.0 h.1 h.2 h.3 h.4)
      (searched_numbers (length text) (GoesAt a text) (λ k. both_decided (text_decided text (ended (take k text) ++ drop (k + 1) text)) (decides a (take k text))))

  -- the text is in form, or a line is at fault
  abbrev pub Judged : S → List ℕ → Type 0
  Judged a text = ((b : S) × is_end b × IsText next a b text) ⊎ ((n : ℕ) × IsFault next is_end a text n)

  stuck_here : (a : S) (text : List ℕ) → (Goes a text → ⊥) → (is_end a → text ≢ []) → Judged a text
  stuck_here a text none unfinished = inr (
    1,
    record {
      before = [];
      left = text;
      state = a;
      whole = refl;
      follows = refl;
      count = refl;
      stuck = λ line more after whole h. none (line, more, after, whole, h);
      unfinished = unfinished;
    },
  )

  at_end : (a : S) → Decided (is_end a) → Judged a []
  at_end a (inl last) = inl (a, last, record { lines = []; whole = refl; follows = refl })
  at_end a (inr none) = stuck_here a [] (λ h. nothing h.0 h.1 h.3) (λ last same. none last)
    where
      nothing : (line more : List ℕ) → [] ≡ ended line ++ more → ⊥
      nothing [] more same = cc same
      nothing (x ∷ line) more same = cc same

  longer : (line more text : List ℕ) → text ≡ ended line ++ more → length more < length text
  longer line more text whole =
      let size = ap length whole in
      let count = length-append (ended line) more in
      let ending = length-append line (line_feed ∷ []) in
      omega arith

  one_more : (a : S) (text line more : List ℕ) (after : S) → text ≡ ended line ++ more → next a line after → Judged after more → Judged a text
  one_more a text line more after whole h (inl (b, last, is)) =
      inl (b, last, record { lines = line ∷ is.lines; whole = whole ∙ ap (λ (xs : List ℕ). ended line ++ xs) is.whole; follows = (after, h, is.follows) })
  one_more a text line more after whole h (inr (n, is)) = inr (
    n + 1,
    record {
      before = line ∷ is.before;
      left = is.left;
      state = is.state;
      whole = whole ∙ ap (λ (xs : List ℕ). ended line ++ xs) is.whole ∙ sym (append_assoc (ended line) (text_of is.before) is.left);
      follows = (after, h, is.follows);
      count = let count = is.count in omega arith;
      stuck = is.stuck;
      unfinished = is.unfinished;
    },
  )

  judged_within : (most : ℕ) (a : S) (text : List ℕ) → length text ≤ most → Judged a text
  judged_within zero a [] low = at_end a (ends a)
  judged_within zero a (x ∷ text) low = absurd (omega arith)
  judged_within (suc most) a [] low = at_end a (ends a)
  judged_within (suc most) a (x ∷ text) low = ⊎_elim
      (λ (h : Goes a (x ∷ text)).
      let shorter = longer h.0 h.1 (x ∷ text) h.3 in
      one_more a (x ∷ text) h.0 h.1 h.2 h.3 h.4 (judged_within most h.2 h.1 (omega arith)))
      (λ (none : Goes a (x ∷ text) → ⊥). stuck_here a (x ∷ text) none (λ last same. cc same))
      (goes a (x ∷ text))

  pub judged : (a : S) (text : List ℕ) → Judged a text
  judged a text = judged_within (length text) a text (omega arith)

-- Whether a line spells a value, where each value within bounds has its words.
pub spelled_by : {V : Type 0} (F : V → List (List ℕ) → Type 0) (B R : V → Type 0) (f : V → List (List ℕ)) → Searched B → ((v : V) → Decided (R v)) →
    ((v : V) (ws : List (List ℕ)) → F v ws → B v × R v × (ws ≡ f v)) → ((v : V) → B v → R v → F v (f v)) → (line : List ℕ) → Decided ((v : V) × Spells F v line)
spelled_by F B R f search each there back line = same_decided
    (λ h. (h.0, (f h.0, back h.0 h.1 h.2.0, h.2.1)))
    (λ h.
    let parts = there h.0 h.1.0 h.1.1 in
    (h.0, parts.0, (parts.1, h.1.2 ∙ ap words parts.2)))
    (search (λ v. R v × (line ≡ words (f v))) (λ v. both_decided (each v) (text_decided line (words (f v)))))

-- whether a state comes after a line that spells a value
pub after_spelled : {V S : Type 0} (F : V → List (List ℕ) → Type 0) (g : V → S) (line : List ℕ) → Decided ((v : V) × Spells F v line) → Decided ((after : S) × ((v : V) × Spells F v line × (after ≡ g v)))
after_spelled F g line h = same_decided (λ s. (g s.0, (s.0, s.1, refl))) (λ s. (s.1.0, s.1.1)) h
