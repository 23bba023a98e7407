-- Where a reader of lines stands.
use Rattle.std.proofs.Common.{◌≡◌, ℕ, suc, ◌<◌, ◌≤◌, ◌+◌, ◌-◌, true, false, Option, Some, None, MatchOption, List, [], ◌∷◌, ◌++◌, length, length-append, refl, ap, ◌∙◌, sym, subst, arith, eqb, All, Contains, append_assoc}
use Rattle.std.proofs.lemmas.Grind.{flat_map-append, get_or_default_zero}
use Rattle.std.proofs.lemmas.List.{append_cancel_left, append-nil}
use Rattle.std.proofs.lemmas.List.Elements.{All-append, All-cons}
use Rattle.std.proofs.lemmas.List.Splits.{slice_split_at}
use Rattle.std.specs.List.{slice_split}
use Rattle.mintc_text.specs.declared.limits.TheConstants.{MOST_BYTES}
use Rattle.mintc_text.specs.Lines.{words, ended, text_of, Follows, IsFault, IsText}
use Rattle.mintc_timing_text.specs.Fields.{plain, plain_line, Spells}
use Rattle.mintc_timing_text.specs.Reading.{Reading, HasRead, HasNone, HasPassed, HasStopped, IsAt, number_after}
use Rattle.mintc_timing_text.proofs.SharedFieldsLaws.{and_parts, no_space, plain_free, short}

-- ---- where a line ends

-- what stands before the first line feed is determined
pub one_line : (a b x y : List ℕ) → All (λ c. eqb c 10 ≡ false) a → All (λ c. eqb c 10 ≡ false) b → ended a ++ x ≡ ended b ++ y → (a ≡ b) × (x ≡ y)
one_line a b x y free other e =
    let cut_a : slice_split (λ c. eqb c 10) (a ++ 10 ∷ x) ≡ a ∷ slice_split (λ c. eqb c 10) x = slice_split_at (λ c. eqb c 10) a 10 x free refl in
    let cut_b : slice_split (λ c. eqb c 10) (b ++ 10 ∷ y) ≡ b ∷ slice_split (λ c. eqb c 10) y = slice_split_at (λ c. eqb c 10) b 10 y other refl in
    let whole : a ++ 10 ∷ x ≡ b ++ 10 ∷ y = sym (append_assoc a (10 ∷ []) x) ∙ e ∙ append_assoc b (10 ∷ []) y in
    let parts : a ∷ slice_split (λ c. eqb c 10) x ≡ b ∷ slice_split (λ c. eqb c 10) y = sym cut_a ∙ ap (slice_split (λ c. eqb c 10)) whole ∙ cut_b in
    let same : a ≡ b = cc in
    (same, append_cancel_left (ended a) x y (e ∙ ap (λ (v : List ℕ). ended v ++ y) (sym same)))

pub line_free : (line : List ℕ) → (Contains line 10 → ⊥) → All (λ c. eqb c 10 ≡ false) line
line_free line none = no_space 10 line (λ k h e. none (k, h, get_or_default_zero line k 10 h ∙ e))

pub words_free : (ws : List (List ℕ)) → plain_line ws ≡ true → All (λ c. eqb c 10 ≡ false) (words ws)
words_free [] h = absurd (cc h)
words_free (w ∷ []) h = plain_free 10 w (omega arith) h
words_free (w ∷ x ∷ ws) h =
    let p = and_parts (plain w) (plain_line (x ∷ ws)) h in
    All-append (λ c. eqb c 10 ≡ false) w (32 ∷ words (x ∷ ws)) (plain_free 10 w (omega arith) p.0)
    (All-cons (λ c. eqb c 10 ≡ false) 32 (words (x ∷ ws)) refl (words_free (x ∷ ws) p.1))

-- ---- a line that is read by its words

-- what the reader of words says, said of the text: the next line has these words
pub read_there : {V : Type 0} {T : Type 0} (F : V → List (List ℕ) → Type 0) (see : T → V) (left new : List ℕ) (fields : List (List ℕ)) (r : Option T) →
    ((v : V) (ws : List (List ℕ)) → F v ws → plain_line ws ≡ true) →
    (left ≡ ended (words fields) ++ new) →
    ((ws : List (List ℕ)) (more : List ℕ) → plain_line ws ≡ true → left ≡ ended (words ws) ++ more → fields ≡ ws) →
    MatchOption r ((v : V) → F v fields → ⊥) (λ x. F (see x) fields) →
    MatchOption r (HasNone F left) (λ x. HasRead F left (see x) new)
read_there F see left new fields None plain_words whole only h =
    λ v line more e s. h v (subst (F v) (sym (only s.0 more (plain_words v s.0 s.1) (e ∙ ap (λ (l : List ℕ). ended l ++ more) s.2))) s.1)
read_there F see left new fields (Some x) plain_words whole only h = record { line = words fields; spells = (fields, h, refl); whole = whole }

-- ---- the lines of a format, one after another

length_lines : (lines : List (List ℕ)) → length lines ≤ length (text_of lines)
length_lines [] = omega arith
length_lines (line ∷ lines) = omega (arith, length_lines lines, length-append (ended line) (text_of lines), length-append line (10 ∷ []))

pub Follows-append : {S : Type 0} (next : S → List ℕ → S → Type 0) (a b c : S) (lines more : List (List ℕ)) → Follows next a lines b → Follows next b more c → Follows next a (lines ++ more) c
Follows-append next a b c [] more h g = subst (λ s. Follows next s more c) (sym h) g
Follows-append next a b c (line ∷ lines) more h g = (h.0, h.1, Follows-append next h.0 b c lines more h.2 g)

pub passed_none : {S : Type 0} (next : S → List ℕ → S → Type 0) (a : S) (reading : Reading) → HasPassed next a reading reading a
passed_none next a reading = record { lines = []; whole = refl; follows = refl; count = λ few. omega arith }

passed_on : {S : Type 0} {next : S → List ℕ → S → Type 0} {a b c : S} {old mid new : Reading} → HasPassed next a old mid b → HasPassed next b mid new c → HasPassed next a old new c
passed_on {next = next} {a = a} {b = b} {c = c} {new = new} p q = record {
  lines = p.lines ++ q.lines;
  whole = p.whole ∙ ap (λ l. text_of p.lines ++ l) q.whole ∙ sym (append_assoc (text_of p.lines) (text_of q.lines) new.left) ∙ ap (λ l. l ++ new.left) (sym (flat_map-append ended p.lines q.lines));
  follows = Follows-append next a b c p.lines q.lines p.follows q.follows;
  count = λ few.
      let one = p.count (omega (arith, few, length-append p.lines q.lines)) in
      omega (arith, length-append p.lines q.lines, one, q.count (omega (arith, few, length-append p.lines q.lines, one)));
}

pub at_start : {S : Type 0} (next : S → List ℕ → S → Type 0) (start : S) (text : List ℕ) (at : Reading) → length text ≤ MOST_BYTES → at.left ≡ text → at.number ≡ 0 →
    IsAt next start text at start
at_start next start text at short left number = record { short = short; passed = record { lines = []; whole = sym left; follows = refl; count = λ few. number } }

counted_on : {S : Type 0} (next : S → List ℕ → S → Type 0) (start : S) (text : List ℕ) (old : Reading) (state : S) (number : ℕ) →
    (at : IsAt next start text old state) → number ≡ number_after old.number → number ≡ length at.passed.lines + 1
counted_on next start text old state number at counted =
    let whole : text ≡ text_of at.passed.lines ++ old.left = at.passed.whole in
    let few : length at.passed.lines ≤ MOST_BYTES = omega (arith, at.short, length_lines at.passed.lines, ap length whole, length-append (text_of at.passed.lines) old.left) in
    omega (arith, counted, few, at.passed.count (omega (arith, few)))

fault_there : {S : Type 0} {next : S → List ℕ → S → Type 0} {is_end : S → Type 0} {start : S} {text : List ℕ} {number : ℕ} → length text ≤ MOST_BYTES →
    HasStopped next is_end start (record { left = text; number = 0 }) number → IsFault next is_end start text number
fault_there {next = next} {start = start} {text = text} {number = number} short h = record {
  before = h.passed.lines;
  left = h.here.left;
  state = h.state;
  whole = h.passed.whole;
  follows = h.passed.follows;
  count = counted_on next start text h.here h.state number (record { short = short; passed = h.passed }) h.counted;
  stuck = h.stuck;
  unfinished = λ e. absurd (h.open_there e);
}

module _ {S : Type 0} {next : S → List ℕ → S → Type 0} {start : S} {first old : Reading} {state : S} where
  -- a line in form leads on
  pub passed_more : {V : Type 0} {F : V → List (List ℕ) → Type 0} {v : V} (new : Reading) (after : S) → HasPassed next start first old state → HasRead F old.left v new.left → new.number ≡ number_after old.number →
      ((line : List ℕ) → Spells F v line → next state line after) → HasPassed next start first new after
  passed_more new after passed read counted leads = passed_on passed (record {
    lines = read.line ∷ [];
    whole = read.whole ∙ ap (λ l. l ++ new.left) (sym (append-nil (ended read.line)));
    follows = (after, leads read.line read.spells, refl);
    count = λ few. omega (arith, counted, few);
  })

  -- and where none comes, reading stops
  pub passed_stop : {V : Type 0} {is_last : S → Type 0} {number : ℕ} {F : V → List (List ℕ) → Type 0} → HasPassed next start first old state → HasNone F old.left → number ≡ number_after old.number → (is_last state → ⊥) →
      ((line : List ℕ) (after : S) → next state line after → (v : V) × Spells F v line) → HasStopped next is_last start first number
  passed_stop passed none counted open_there only = record {
    state = state;
    here = old;
    passed = passed;
    open_there = open_there;
    stuck = λ line more after e step. none (only line after step).0 line more e (only line after step).1;
    counted = counted;
  }

module _ {S : Type 0} {next : S → List ℕ → S → Type 0} {start : S} {text : List ℕ} {old : Reading} {state : S} where
  -- the same from the start of a text
  pub at_more : {V : Type 0} {F : V → List (List ℕ) → Type 0} {v : V} (new : Reading) (after : S) → IsAt next start text old state → HasRead F old.left v new.left → new.number ≡ number_after old.number →
      ((line : List ℕ) → Spells F v line → next state line after) → IsAt next start text new after
  at_more new after at read counted leads = record { short = at.short; passed = passed_more new after at.passed read counted leads }

  pub at_fault : {V : Type 0} {is_end : S → Type 0} {number : ℕ} {F : V → List (List ℕ) → Type 0} → IsAt next start text old state → HasNone F old.left → number ≡ number_after old.number → (is_end state → ⊥) →
      ((line : List ℕ) (after : S) → next state line after → (v : V) × Spells F v line) → IsFault next is_end start text number
  at_fault at none counted unfinished only = fault_there at.short (passed_stop at.passed none counted unfinished only)

  -- the text ends where the format does
  pub at_end : IsAt next start text old state → old.left ≡ [] → IsText next start state text
  at_end at e = record {
    lines = at.passed.lines;
    whole = at.passed.whole ∙ ap (λ (l : List ℕ). text_of at.passed.lines ++ l) e ∙ append-nil (text_of at.passed.lines);
    follows = at.passed.follows;
  }

  -- or goes on, and that is the fault
  pub at_past : {is_end : S → Type 0} {number : ℕ} → IsAt next start text old state → (old.left ≡ [] → ⊥) → number ≡ number_after old.number → ((line : List ℕ) (after : S) → next state line after → ⊥) → IsFault next is_end start text number
  at_past {number = number} at left counted none = record {
    before = at.passed.lines;
    left = old.left;
    state = state;
    whole = at.passed.whole;
    follows = at.passed.follows;
    count = counted_on next start text old state number at counted;
    stuck = λ line more after e step. none line after step;
    unfinished = λ e. left;
  }

-- ---- lines that are a part of those of a format

follows_within : {A S : Type 0} (part : A → List ℕ → A → Type 0) (next : S → List ℕ → S → Type 0) (within : A → S) → ((x y : A) (line : List ℕ) → part x line y → next (within x) line (within y)) →
    (x y : A) (lines : List (List ℕ)) → Follows part x lines y → Follows next (within x) lines (within y)
follows_within part next within leads x y [] h = ap within h
follows_within part next within leads x y (line ∷ lines) h = (within h.0, leads x h.0 line h.1, follows_within part next within leads h.0 y lines h.2)

module _ {A S : Type 0} {part : A → List ℕ → A → Type 0} {next : S → List ℕ → S → Type 0} (within : A → S) (leads : (x y : A) (line : List ℕ) → part x line y → next (within x) line (within y)) where
  pub at_within : {start : S} {text : List ℕ} {a b : A} {old new : Reading} → IsAt next start text old (within a) → HasPassed part a old new b → IsAt next start text new (within b)
  at_within {a = a} {b = b} at p =
      record { short = at.short; passed = passed_on at.passed (record { lines = p.lines; whole = p.whole; follows = follows_within part next within leads a b p.lines p.follows; count = p.count }) }

  pub at_stopped : {start : S} {text : List ℕ} {a : A} {old : Reading} {number : ℕ} {is_last : A → Type 0} {is_end : S → Type 0} → IsAt next start text old (within a) → HasStopped part is_last a old number →
      ((x : A) (line : List ℕ) (after : S) → (is_last x → ⊥) → next (within x) line after → (y : A) × part x line y) → ((x : A) → is_end (within x) → ⊥) → IsFault next is_end start text number
  at_stopped at h only unfinished = fault_there at.short (record {
    state = within h.state;
    here = h.here;
    passed = (at_within at h.passed).passed;
    open_there = unfinished h.state;
    stuck = λ line more after e step. let inside = only h.state line after h.open_there step in h.stuck line more inside.0 e inside.1;
    counted = h.counted;
  })

-- ---- a list: a state for each number of lines that are left

module _ {S X : Type 0} {next : S → List ℕ → S → Type 0} {start : S} (st : ℕ → List X → S) where
  pub list_more : (F : X → List (List ℕ) → Type 0) (text : List ℕ) (old new : Reading) (found found' : List X) (i count : ℕ) (x : X) →
      IsAt next start text old (st (count - i) found) → i < count → HasRead F old.left x new.left → new.number ≡ number_after old.number → found' ≡ found ++ x ∷ [] →
      ((left : ℕ) (all : List X) (line : List ℕ) → Spells F x line → next (st (suc left) all) line (st left (all ++ x ∷ []))) → IsAt next start text new (st (count - (i + 1)) found')
  list_more F text old new found found' i count x at low read counted e law =
      let left : count - i ≡ suc (count - (i + 1)) = omega arith in
      subst (λ (xs : List X). IsAt next start text new (st (count - (i + 1)) xs)) (sym e)
      (at_more new (st (count - (i + 1)) (found ++ x ∷ [])) (subst (λ (n : ℕ). IsAt next start text old (st n found)) left at) read counted (law (count - (i + 1)) found))

  pub list_fault : {is_end : S → Type 0} (F : X → List (List ℕ) → Type 0) (text : List ℕ) (old : Reading) (number : ℕ) (found : List X) (i count : ℕ) →
      IsAt next start text old (st (count - i) found) → i < count → HasNone F old.left → number ≡ number_after old.number → ((left : ℕ) (all : List X) → is_end (st (suc left) all) → ⊥) →
      ((left : ℕ) (all : List X) (line : List ℕ) (after : S) → next (st (suc left) all) line after → (x : X) × Spells F x line) → IsFault next is_end start text number
  list_fault F text old number found i count at low none counted unfinished only =
      let left : count - i ≡ suc (count - (i + 1)) = omega arith in
      at_fault (subst (λ (n : ℕ). IsAt next start text old (st n found)) left at) none counted (unfinished (count - (i + 1)) found) (only (count - (i + 1)) found)

  pub list_all : (text : List ℕ) (reading : Reading) (found : List X) (i count : ℕ) → IsAt next start text reading (st (count - i) found) → count ≤ i → IsAt next start text reading (st 0 found)
  list_all text reading found i count at low =
      let none : count - i ≡ 0 = omega arith in subst (λ (n : ℕ). IsAt next start text reading (st n found)) none at
