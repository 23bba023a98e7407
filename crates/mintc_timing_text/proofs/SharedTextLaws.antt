-- Texts of plain lines have one end and one fault.
use Rattle.std.proofs.Common.{◌≡◌, ℕ, suc, false, List, [], ◌∷◌, ◌++◌, length, length-append, ◌+◌, append_assoc, All, Contains, eqb, refl, ap, ◌∙◌, sym, subst, arith}
use Rattle.std.proofs.lemmas.List.{append-nil}
use Rattle.mintc_text.specs.Lines.{Follows, IsText, IsFault, IsStuck, text_of, ended, words}
use Rattle.mintc_timing_text.specs.Fields.{fields_of, Spells}
use Rattle.mintc_timing_text.proofs.SharedFieldsLaws.{fields-words}
use Rattle.mintc_timing_text.proofs.SharedLineLaws.{IsForm, spelled_same}
use Rattle.mintc_timing_text.proofs.SharedSpelling.{IsSpelled, IsSpelledStep, one_text}
use Rattle.mintc_timing_text.proofs.SharedReadingLaws.{one_line, line_free, words_free}

-- what each line keeps, all lines keep
pub along : {S : Type 0} (next : S → List ℕ → S → Type 0) (P : S → Type 0) → ((a : S) (line : List ℕ) (b : S) → next a line b → P a → P b) →
    (a : S) (lines : List (List ℕ)) (b : S) → Follows next a lines b → P a → P b
along next P keeps a [] b h p = subst P h p
along next P keeps a (line ∷ lines) b h p = along next P keeps h.0 lines b h.2 (keeps a line h.0 h.1 p)

-- ---- a format whose lines are determined

-- Of the states that are reached, each has one state after a line, and no line has a line feed.
pub record IsPlainFormat {S : Type 0} (next : S → List ℕ → S → Type 0) (P : S → Type 0) : Type 0 where
  pub keeps : (a b : S) (line : List ℕ) → P a → next a line b → P b
  pub one : (a b c : S) (line : List ℕ) → P a → next a line b → next a line c → b ≡ c
  pub free : (a b : S) (line : List ℕ) → P a → next a line b → All (λ x. eqb x 10 ≡ false) line

pub no_line : (line more : List ℕ) → [] ≡ ended line ++ more → ⊥
no_line line more h = omega (arith, ap length h, length-append (ended line) more, length-append line (10 ∷ []))

-- Two ways through one text, each as far as it leads, come to one end.
pub one_way : {S : Type 0} (next : S → List ℕ → S → Type 0) (P : S → Type 0) → IsPlainFormat next P → (a b c : S) (before others : List (List ℕ)) (left rest : List ℕ) → P a → text_of before ++ left ≡ text_of others ++ rest →
    Follows next a before b → Follows next a others c → IsStuck next b left → IsStuck next c rest → (b ≡ c) × (left ≡ rest) × (length before ≡ length others)
one_way next P plain a b c [] [] left rest p e h g stuck other_stuck = (sym h ∙ g, e, refl)
one_way {S} next P plain a b c [] (other ∷ others) left rest p e h g stuck other_stuck =
    absurd (stuck other (text_of others ++ rest) g.0 (e ∙ append_assoc (ended other) (text_of others) rest) (subst (λ (s : S). next s other g.0) h g.1))
one_way {S} next P plain a b c (line ∷ before) [] left rest p e h g stuck other_stuck =
    absurd (other_stuck line (text_of before ++ left) h.0 (sym e ∙ append_assoc (ended line) (text_of before) left) (subst (λ (s : S). next s line h.0) g h.1))
one_way {S} next P plain a b c (line ∷ before) (other ∷ others) left rest p e h g stuck other_stuck =
    let same = one_line line other (text_of before ++ left) (text_of others ++ rest) (plain.free a h.0 line p h.1) (plain.free a g.0 other p g.1)
    (sym (append_assoc (ended line) (text_of before) left) ∙ e ∙ append_assoc (ended other) (text_of others) rest) in
    let step : h.0 ≡ g.0 = plain.one a h.0 g.0 other p (subst (λ (l : List ℕ). next a l h.0) same.0 h.1) g.1 in
    let more = one_way next P plain g.0 b c before others left rest (plain.keeps a g.0 other p g.1) same.1 (subst (λ (s : S). Follows next s before b) step h.2) g.2 stuck other_stuck in
    (more.0, more.1, ap suc more.2)

-- A text is that of at most one value; where it is that of one, no line is at fault; and at most one line is.
pub record ArePlainTexts {S E : Type 0} (next : S → List ℕ → S → Type 0) (is_end : S → Type 0) (start : S) (whole : E → S) : Type 0 where
  pub value : (text : List ℕ) (c d : E) → IsText next start (whole c) text → IsText next start (whole d) text → c ≡ d
  pub no_fault : (text : List ℕ) (c : E) (n : ℕ) → IsText next start (whole c) text → IsFault next is_end start text n → ⊥
  pub fault : (text : List ℕ) (m n : ℕ) → IsFault next is_end start text m → IsFault next is_end start text n → m ≡ n

pub plain_texts : {S E : Type 0} {next : S → List ℕ → S → Type 0} {P is_end : S → Type 0} {start : S} (whole : E → S) → IsPlainFormat next P → P start → ((c d : E) → whole c ≡ whole d → c ≡ d) → ((c : E) → is_end (whole c)) →
    ArePlainTexts next is_end start whole
plain_texts {next = next} {P = P} {is_end = is_end} {start = start} whole plain p one ends = record {
  value = λ text c d h g.
      let way = one_way next P plain start (whole c) (whole d) h.lines g.lines [] [] p (ap (λ l. l ++ []) (sym h.whole ∙ g.whole)) h.follows g.follows (λ line more after e step. no_line line more e) (λ line more after e step. no_line line more e) in
      one c d way.0;
  no_fault = λ text c n h f.
      let way = one_way next P plain start (whole c) f.state h.lines f.before [] f.left p (append-nil (text_of h.lines) ∙ sym h.whole ∙ f.whole) h.follows f.follows (λ line more after e step. no_line line more e) f.stuck in
      f.unfinished (subst is_end way.0 (ends c)) (sym way.1);
  fault = λ text m n f g.
      let way = one_way next P plain start f.state g.state f.before g.before f.left g.left p (sym f.whole ∙ g.whole) f.follows g.follows f.stuck g.stuck in
      f.count ∙ ap (λ n. n + 1) way.2 ∙ sym g.count;
}

-- ---- the words of a line are determined by it

spelled_one : {V : Type 0} (F : V → List (List ℕ) → Type 0) → IsForm F → (v w : V) (line : List ℕ) → Spells F v line → Spells F w line → v ≡ w
spelled_one F form v w line h g =
    let same = sym (fields-words h.0 (form.plain v h.0 h.1)) ∙ ap fields_of (sym h.2 ∙ g.2) ∙ fields-words g.0 (form.plain w g.0 g.1) in
    form.one v w g.0 (subst (F v) same h.1) g.1

-- ---- a state after which lines of one form come

-- The line spells a value, and the value leads to the state.
abbrev pub LeadsBy : {S V : Type 0} → (V → List (List ℕ) → Type 0) → (V → S) → List ℕ → S → Type 0
LeadsBy {S} {V} F to line after = (v : V) × Spells F v line × (after ≡ to v)

-- A line leads to one state, of which this holds, and has no line feed.
pub record IsPlainStep {S : Type 0} (leads : List ℕ → S → Type 0) (P : S → Type 0) : Type 0 where
  pub keeps : (b : S) (line : List ℕ) → leads line b → P b
  pub one : (b c : S) (line : List ℕ) → leads line b → leads line c → b ≡ c
  pub free : (b : S) (line : List ℕ) → leads line b → All (λ x. eqb x 10 ≡ false) line

pub plain_step : {S V : Type 0} {F : V → List (List ℕ) → Type 0} {to : V → S} {P : S → Type 0} → IsForm F → ((v : V) (ws : List (List ℕ)) → F v ws → P (to v)) → IsPlainStep (LeadsBy F to) P
plain_step {F = F} {to = to} {P = P} form keeps = record {
  keeps = λ b line h. subst P (sym h.2) (keeps h.0 h.1.0 h.1.1);
  one = λ b c line h g. h.2 ∙ ap to (spelled_one F form h.0 g.0 line h.1 g.1) ∙ sym g.2;
  free = λ b line h. subst (λ (l : List ℕ). All (λ x. eqb x 10 ≡ false) l) (sym h.1.2) (words_free h.1.0 (form.plain h.0 h.1.0 h.1.1));
}

pub no_step : {S : Type 0} {P : S → Type 0} → IsPlainStep (λ line b. ⊥) P
no_step = record { keeps = λ b line h. absurd h; one = λ b c line h g. absurd h; free = λ b line h. absurd h }

-- Two lines that lead on to one end are one, and so are the states that they lead to.
pub step_by : {S V : Type 0} {F : V → List (List ℕ) → Type 0} {to : V → S} {B : S → Type 0} → IsForm F → ((v w : V) → B (to v) → B (to w) → v ≡ w) → IsSpelledStep (LeadsBy F to) B
step_by {F = F} {to = to} {B = B} form same = record {
  alike = λ b c line other h g i j.
      let v = same h.0 g.0 (subst B h.2 i) (subst B g.2 j) in
      (spelled_same F form.words h.0 g.0 line other v h.1 g.1, h.2 ∙ ap to v ∙ sym g.2);
}

pub no_way : {S : Type 0} {leads : List ℕ → S → Type 0} {B : S → Type 0} → ((line : List ℕ) (b : S) → leads line b → B b → ⊥) → IsSpelledStep leads B
no_way none = record { alike = λ b c line other h g i j. absurd (none line b h i) }

-- ---- the first line of a text, and what comes after it

-- what stands after the first line
pub record IsAfter {S : Type 0} (next : S → List ℕ → S → Type 0) (first last : S) (line x : List ℕ) : Type 0 where
  pub state : S
  pub lines : List (List ℕ)
  pub begins : next first line state
  pub whole : x ≡ text_of lines
  pub follows : Follows next state lines last

after_lines : {S : Type 0} (next : S → List ℕ → S → Type 0) (P : S → Type 0) (first last : S) → IsPlainFormat next P → P first → (first ≡ last → ⊥) → (line x : List ℕ) (lines : List (List ℕ)) → (Contains line 10 → ⊥) →
    ended line ++ x ≡ text_of lines → Follows next first lines last → IsAfter next first last line x
after_lines next P first last plain p apart line x [] free e h = absurd (apart h)
after_lines next P first last plain p apart line x (l ∷ ls) free e h =
    let same = one_line line l x (text_of ls) (line_free line free) (plain.free first h.0 l p h.1) e in
    record { state = h.0; lines = ls; begins = subst (λ (w : List ℕ). next first w h.0) (sym same.0) h.1; whole = same.1; follows = h.2 }

pub after_first : {S : Type 0} {next : S → List ℕ → S → Type 0} {P : S → Type 0} {first last : S} → IsPlainFormat next P → P first → (first ≡ last → ⊥) → (line x : List ℕ) → (Contains line 10 → ⊥) →
    IsText next first last (ended line ++ x) → IsAfter next first last line x
after_first {next = next} {P = P} {first = first} {last = last} plain p apart line x free h = after_lines next P first last plain p apart line x h.lines free h.whole h.follows

-- A value has one text with a given first line.
pub one_text_after : {S E : Type 0} {next : S → List ℕ → S → Type 0} {P Q : S → Type 0} {end : E → S} {Begins : S → E → Type 0} {first : S} →
    IsPlainFormat next P → IsSpelled next Q end Begins → P first → ((b : S) (line : List ℕ) → next first line b → Q b) → ((e : E) → first ≡ end e → ⊥) →
    (line x y : List ℕ) (e : E) → (Contains line 10 → ⊥) → IsText next first (end e) (ended line ++ x) → IsText next first (end e) (ended line ++ y) → x ≡ y
one_text_after {next = next} {Q = Q} {end = end} {Begins = Begins} {first = first} plain spelled p keeps apart line x y e free h g =
    let a = after_first plain p (apart e) line x free h in
    let b = after_first plain p (apart e) line y free g in
    let state : a.state ≡ b.state = plain.one first a.state b.state line p a.begins b.begins in
    let rest : a.lines ≡ b.lines = one_text next Q end Begins spelled b.state a.lines b.lines e (keeps b.state line b.begins) (subst (λ s. Follows next s a.lines (end e)) state a.follows) b.follows in
    a.whole ∙ ap text_of rest ∙ sym b.whole
