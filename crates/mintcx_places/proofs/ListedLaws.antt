-- Statements one by one, and in the list of all.
use Rattle.std.proofs.Common.{◌≡◌, ℕ, zero, suc, ◌+◌, ◌-◌, ◌<◌, Bool, true, false, ◌&&◌, ◌||◌, ◌==◌, if◌then◌else◌, List, [], ◌∷◌, ◌++◌, length, take, drop, refl, sym, ap, ◌∙◌, subst, arith, append_assoc, length-append}
use Rattle.std.proofs.lemmas.Bool.Decides.{nat_tests}
use Rattle.std.proofs.Math.Seq.{drop-append_seam, take-append_seam}
use Rattle.mintc_vlex.specs.declared.token_list.Token.{Token}
use Rattle.mintc_vlex.specs.declared.statement_list.Statement.{Statement}
use Rattle.mintc_vlex.specs.Tokens.{tokens_of}
use Rattle.mintc_vlex.specs.Statements.{is_endmodule, is_semicolon, statements_from, to_semicolon, behind_semicolon, first_statement, behind_statement}
use Rattle.mintcx_places.specs.Statements.{behind_statements, end_of}
use Rattle.mintcx_places.specs.Laws.{StatementsAreListed}

abbrev statement : ℕ → ℕ → Statement
statement from to = record { from = from; to = to }

-- the statements of these tokens, the first of which has a number
abbrev after : List ℕ → ℕ → List Token → List Statement
after text at ts = statements_from text at at ts

apart : (from more : ℕ) → 0 < more → (from == from + more) ≡ false
apart from more h = grind (arith, nat_tests)

alike : (n : ℕ) → (n == n) ≡ true
alike n = grind (arith, nat_tests)

after_none : (text : List ℕ) (at : ℕ) → after text at [] ≡ []
after_none text at = ap (λ b. if b then [] else (statement at at ∷ [])) (alike at)

-- The statement of which some tokens are passed already ends at the next `;`.
abbrev Goes : List ℕ → ℕ → ℕ → List Statement → List Token → List Token → Type 0
Goes text from k all ended ts = all ≡ statement from (from + (k + length ended)) ∷ after text (from + (k + length ended)) ts

goes_last : (text : List ℕ) (from k : ℕ) → 0 < k → Goes text from k (statements_from text from (from + k) []) [] []
goes_last text from k h =
    let same : from + k ≡ from + (k + 0) = omega arith in
    ap (λ b. if b then [] else (statement from (from + k) ∷ [])) (apart from k h)
    ∙ ap (λ n. statement from n ∷ []) same
    ∙ ap (λ l. statement from (from + (k + 0)) ∷ l) (sym (after_none text (from + (k + 0))))

goes_by : (text : List ℕ) (from k : ℕ) (t : Token) (ts : List Token) (b : Bool) →
    Goes text from (k + 1) (statements_from text from (from + (k + 1)) ts) (to_semicolon text ts) (behind_semicolon text ts) →
    Goes text from k
    (if b || (false && is_endmodule text t) then statement from (from + k + 1) ∷ statements_from text (from + k + 1) (from + k + 1) ts else statements_from text from (from + k + 1) ts)
    (t ∷ (if b then [] else to_semicolon text ts)) (if b then ts else behind_semicolon text ts)
goes_by text from k t ts true on = let same : from + k + 1 ≡ from + (k + 1) = omega arith in ap (λ n. statement from n ∷ after text n ts) same
goes_by text from k t ts false on =
    let same : from + k + 1 ≡ from + (k + 1) = omega arith in
    let size : from + (k + 1 + length (to_semicolon text ts)) ≡ from + (k + length (t ∷ to_semicolon text ts)) = omega arith in
    ap (λ n. statements_from text from n ts) same ∙ on ∙ ap (λ n. statement from n ∷ after text n (behind_semicolon text ts)) size

goes : (text : List ℕ) (from k : ℕ) (ts : List Token) → 0 < k → Goes text from k (statements_from text from (from + k) ts) (to_semicolon text ts) (behind_semicolon text ts)
goes text from k [] h = goes_last text from k h
goes text from k (t ∷ ts) h =
    ap (λ b. if is_semicolon text t || (b && is_endmodule text t) then statement from (from + k + 1) ∷ statements_from text (from + k + 1) (from + k + 1) ts else statements_from text from (from + k + 1) ts) (apart from k h)
    ∙ goes_by text from k t ts (is_semicolon text t) (goes text from (k + 1) ts (omega arith))

-- The first statement of some tokens, and the later ones.
abbrev Begins : List ℕ → ℕ → List Statement → List Token → List Token → Type 0
Begins text at all held ts = all ≡ statement at (at + length held) ∷ after text (at + length held) ts

begins_by : (text : List ℕ) (at : ℕ) (t : Token) (ts : List Token) (e s : Bool) →
    Begins text at
    (if s || (true && e) then statement at (at + 1) ∷ statements_from text (at + 1) (at + 1) ts else statements_from text at (at + 1) ts)
    (if e then t ∷ [] else (t ∷ (if s then [] else to_semicolon text ts))) (if e then ts else (if s then ts else behind_semicolon text ts))
begins_by text at t ts true true = refl
begins_by text at t ts true false = refl
begins_by text at t ts false true = refl
begins_by text at t ts false false =
    let size : at + (1 + length (to_semicolon text ts)) ≡ at + length (t ∷ to_semicolon text ts) = omega arith in
    goes text at 1 ts (omega arith) ∙ ap (λ n. statement at n ∷ after text n (behind_semicolon text ts)) size

begins : (text : List ℕ) (at : ℕ) (t : Token) (ts : List Token) → Begins text at (after text at (t ∷ ts)) (first_statement text t ts) (behind_statement text t ts)
begins text at t ts =
    ap (λ b. if is_semicolon text t || (b && is_endmodule text t) then statement at (at + 1) ∷ statements_from text (at + 1) (at + 1) ts else statements_from text at (at + 1) ts) (alike at)
    ∙ begins_by text at t ts (is_endmodule text t) (is_semicolon text t)

-- the two parts are all tokens
semicolon_splits : (text : List ℕ) (ts : List Token) → ts ≡ to_semicolon text ts ++ behind_semicolon text ts
semicolon_splits text [] = refl
semicolon_splits text (t ∷ ts) = grind (arith, semicolon_splits text ts)

splits : (text : List ℕ) (t : Token) (ts : List Token) → t ∷ ts ≡ first_statement text t ts ++ behind_statement text t ts
splits text t ts = grind (arith, semicolon_splits text ts)

-- a statement that holds some of the tokens
cut : (all front held ts : List Token) → all ≡ front ++ (held ++ ts) → take (length front + length held - length front) (drop (length front) all) ≡ held
cut all front held ts e =
    let size : length front + length held - length front ≡ length held = omega arith in
    ap (λ n. take n (drop (length front) all)) size
    ∙ ap (λ l. take (length held) (drop (length front) l)) e
    ∙ ap (take (length held)) (drop-append_seam front (held ++ ts))
    ∙ take-append_seam held ts

-- the entry behind so many others in a list of statements, and its tokens
record Entry (text : List ℕ) (all : List Statement) (before : ℕ) (held : List Token) : Type 0 where
  earlier : List Statement
  entry : Statement
  later : List Statement
  whole : all ≡ earlier ++ entry ∷ later
  count : before ≡ length earlier
  tokens : take (entry.to - entry.from) (drop entry.from (tokens_of text)) ≡ held

here : (text : List ℕ) (front ts more : List Token) (first : Token) → tokens_of text ≡ front ++ ts → ts ≡ first ∷ more →
    Entry text (after text (length front) ts) 0 (first_statement text first more)
here text front ts more first e f =
    let held = first_statement text first more in
    let at = length front in
    record {
      earlier = [];
      entry = statement at (at + length held);
      later = after text (at + length held) (behind_statement text first more);
      whole = ap (after text at) f ∙ begins text at first more;
      count = refl;
      tokens = cut (tokens_of text) front held (behind_statement text first more) (e ∙ ap (λ l. front ++ l) (f ∙ splits text first more));
    }

one_before : (text : List ℕ) (s : Statement) (all rest : List Statement) (n : ℕ) (held : List Token) → all ≡ s ∷ rest → Entry text rest n held → Entry text all (suc n) held
one_before text s all rest n held e entry = record {
  earlier = s ∷ entry.earlier;
  entry = entry.entry;
  later = entry.later;
  whole = e ∙ ap (λ l. s ∷ l) entry.whole;
  count = ap suc entry.count;
  tokens = entry.tokens;
}

nothing : (first : Token) (more : List Token) → [] ≡ first ∷ more → ⊥
nothing first more e = cc

listed : (text : List ℕ) (n : ℕ) (front ts more : List Token) (first : Token) → tokens_of text ≡ front ++ ts → behind_statements text n ts ≡ first ∷ more →
    Entry text (after text (length front) ts) n (first_statement text first more)
listed text zero front ts more first e f = here text front ts more first e f
listed text (suc n) front [] more first e f = absurd (nothing first more f)
listed text (suc n) front (t ∷ ts) more first e f =
    let held = first_statement text t ts in
    let rest = behind_statement text t ts in
    let split : tokens_of text ≡ (front ++ held) ++ rest = e ∙ ap (λ l. front ++ l) (splits text t ts) ∙ sym (append_assoc front held rest) in
    let P : ℕ → Type 0 = λ a. Entry text (after text a rest) n (first_statement text first more) in
    one_before text (statement (length front) (length front + length held)) (after text (length front) (t ∷ ts)) (after text (length front + length held) rest) n (first_statement text first more)
    (begins text (length front) t ts)
    (subst P (length-append front held) (listed text n (front ++ held) rest more first split f))

-- a statement's tokens begin with its first
headed : (t : Token) (e : Bool) (l : List Token) → (others : List Token) × ((if e then t ∷ [] else (t ∷ l)) ≡ t ∷ others)
headed t true l = ([], refl)
headed t false l = (l, refl)

pub statements_are_listed_lem : StatementsAreListed
statements_are_listed_lem text before range is =
    let entry = listed text before [] (tokens_of text) is.more is.first refl is.whole in
    let head = headed is.first (is_endmodule text is.first) (if is_semicolon text is.first then [] else to_semicolon text is.more) in
    record {
      earlier = entry.earlier;
      statement = entry.entry;
      later = entry.later;
      first = is.first;
      others = head.0;
      whole = entry.whole;
      count = entry.count;
      tokens = entry.tokens ∙ head.1;
      from = is.from;
      to = is.to ∙ ap (end_of is.first.to) head.1;
    }
