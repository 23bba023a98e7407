-- What is read as pieces is written as an expression of them.
use Rattle.std.proofs.Common.{◌≡◌, ℕ, zero, suc, ◌*◌, ◌≤◌, Bool, true, ◌&&◌, nat_le, if◌then◌else◌, List, [], ◌∷◌, ◌++◌, length, Option, Some, None, option_map, option_and_then, refl, sym, ap, ◌∙◌, subst, arith, append_assoc, leb-true}
use Rattle.std.proofs.lemmas.Bool.Decides.{nat_tests}
use Rattle.mintc_netlist.specs.declared.expression.Piece.{Piece}
use Rattle.mintc_verilog_expressions.specs.Lexemes.{Lexeme, number, sign}
use Rattle.mintc_verilog_expressions.specs.Expressions.{Tree, Trees, plain, concat, repeat, one, more, spell_piece, spell, spell_all, repeated, pieces, pieces_all, depth, depth_all, Repeats, RepeatAll}
use Rattle.mintc_verilog_expressions.specs.Reading.{Read, Pieces, eat, number_at, plain_at, one_piece, limited, items, join_items, braces, concat_end, repeat_end, expression_with, expression}
use Rattle.mintc_verilog_expressions.proofs.SharedWritten.{length-repeated}

pub and_then-some : {A B : Type 0} (r : Option A) (f : A → Option B) (y : B) → option_and_then f r ≡ Some y → (x : A) × (r ≡ Some x) × (f x ≡ Some y)
and_then-some None f y e = absurd (cc)
and_then-some (Some x) f y e = (x, refl, e)

pub map-some : {A B : Type 0} (r : Option A) (f : A → B) (y : B) → option_map f r ≡ Some y → (x : A) × (r ≡ Some x) × (f x ≡ y)
map-some None f y e = absurd (cc)
map-some (Some x) f y e = (x, refl, cc)

pub if-some : {A : Type 0} (b : Bool) (x y : A) → (if b then Some x else None) ≡ Some y → (b ≡ true) × (x ≡ y)
if-some b x y e = grind arith

pub both-true : (a b : Bool) → (a && b) ≡ true → (a ≡ true) × (b ≡ true)
both-true a b e = grind arith

pub eat-some : (s : ℕ) (ls rest : List Lexeme) → eat s ls ≡ Some rest → ls ≡ sign s ∷ rest
eat-some s ls rest e = grind (arith, nat_tests)

pub number-some : (ls : List Lexeme) (n : ℕ × List Lexeme) → number_at ls ≡ Some n → ls ≡ number n.0 ∷ n.1
number-some ls n e = grind arith

-- the piece is written in front of what is left
abbrev Spells : List Lexeme → Piece × List Lexeme → Type 0
Spells ls p = ls ≡ spell_piece p.0 ++ p.1

plain-found : (ls : List Lexeme) (p : Piece × List Lexeme) → plain_at ls ≡ Some p → Spells ls p
plain-found ls p e = grind (arith, eat-some, number-some)

-- a tree of these pieces is written in front of what is left
pub record Reads (d : ℕ) (ls : List Lexeme) (p : Pieces × List Lexeme) : Type 0 where
  pub tree : Tree
  pub written : ls ≡ spell tree ++ p.1
  pub stands : p.0 ≡ pieces tree
  pub repeats : Repeats tree
  pub nested : depth tree ≤ d
  pub count : length p.0 ≤ 65536

pub record ReadsAll (d : ℕ) (ls : List Lexeme) (p : Pieces × List Lexeme) : Type 0 where
  pub trees : Trees
  pub written : ls ≡ spell_all trees ++ p.1
  pub stands : p.0 ≡ pieces_all trees
  pub repeats : RepeatAll trees
  pub nested : depth_all trees ≤ d
  pub count : length p.0 ≤ 65536

abbrev Finds : ℕ → Read Pieces → Type 0
Finds d read = (ls : List Lexeme) (p : Pieces × List Lexeme) → read ls ≡ Some p → Reads d ls p

join-found : (d : ℕ) (more-items : Read Pieces) → ((ls : List Lexeme) (p : Pieces × List Lexeme) → more-items ls ≡ Some p → ReadsAll d ls p) →
    (ls : List Lexeme) (p q : Pieces × List Lexeme) (o : Option (List Lexeme)) → eat 44 p.1 ≡ o → Reads d ls p → join_items more-items p o ≡ Some q → ReadsAll d ls q
unfolding spell pieces depth Repeats
join-found d next found ls p q None o r e =
    let same : p ≡ q = cc in
    subst (ReadsAll d ls) same (record { trees = one r.tree; written = r.written; stands = r.stands; repeats = r.repeats; nested = r.nested; count = r.count })
join-found d next found ls p q (Some rest) o r e =
    let a = and_then-some (next rest) (λ s. limited (p.0 ++ s.0) s.1) q e in
    let s = found rest a.0 a.1 in
    let b = if-some (nat_le (length (p.0 ++ a.0.0)) 65536) (p.0 ++ a.0.0, a.0.1) q a.2 in
    subst (ReadsAll d ls) b.1 (record {
      trees = more r.tree s.trees;
      written = r.written ∙ ap (λ l. spell r.tree ++ l) (eat-some 44 p.1 rest o ∙ ap (λ l. sign 44 ∷ l) s.written) ∙ sym (append_assoc (spell r.tree) (sign 44 ∷ spell_all s.trees) a.0.1);
      stands = ap (λ l. l ++ a.0.0) r.stands ∙ ap (λ l. pieces r.tree ++ l) s.stands;
      repeats = (r.repeats, s.repeats);
      nested = omega (arith, r.nested, s.nested);
      count = leb-true _ _ b.0;
    })

pub items-found : (d : ℕ) (read : Read Pieces) → Finds d read → (n : ℕ) (ls : List Lexeme) (p : Pieces × List Lexeme) → items read n ls ≡ Some p → ReadsAll d ls p
unfolding items
items-found d read finds zero ls p e = absurd (cc)
items-found d read finds (suc n) ls p e =
    let a = and_then-some (read ls) (λ p. join_items (items read n) p (eat 44 p.1)) p e in
    join-found d (items read n) (λ ls p. items-found d read finds n ls p) ls a.0 p (eat 44 a.0.1) refl (finds ls a.0 a.1) a.2

plain-reads_as : (d : ℕ) (ls : List Lexeme) (p : Pieces × List Lexeme) → one_piece (plain_at ls) ≡ Some p → Reads d ls p
unfolding spell pieces depth Repeats
plain-reads_as d ls p e =
    let a = map-some (plain_at ls) (λ (p : Piece × List Lexeme). (p.0 ∷ [], p.1)) p e in
    subst (Reads d ls) a.2 (record { tree = plain a.0.0; written = plain-found ls a.0 a.1; stands = refl; repeats = tt; nested = omega arith; count = omega arith })

-- two depths of braces: what stands in one, and in two
braces-found : (d : ℕ) (inner two : Read Pieces) → ((ls : List Lexeme) (p : Pieces × List Lexeme) → inner ls ≡ Some p → ReadsAll d ls p) →
    ((ls : List Lexeme) (p : Pieces × List Lexeme) → two ls ≡ Some p → (e : ℕ) × (d ≡ suc e) × ReadsAll e ls p) →
    (ls : List Lexeme) (p : Pieces × List Lexeme) (o : Option (ℕ × List Lexeme)) → number_at ls ≡ o → braces inner two ls o ≡ Some p → Reads (suc d) (sign 123 ∷ ls) p
unfolding spell pieces depth Repeats
braces-found d inner two found found-two ls p None o e =
    let a = and_then-some (inner ls) concat_end p e in
    let s = found ls a.0 a.1 in
    let b = map-some (eat 125 a.0.1) (λ rest. (a.0.0, rest)) p a.2 in
    subst (Reads (suc d) (sign 123 ∷ ls)) b.2 (record {
      tree = concat s.trees;
      written = ap (λ l. sign 123 ∷ l) (s.written ∙ ap (λ l. spell_all s.trees ++ l) (eat-some 125 a.0.1 b.0 b.1) ∙ sym (append_assoc (spell_all s.trees) (sign 125 ∷ []) b.0));
      stands = s.stands;
      repeats = s.repeats;
      nested = omega (arith, s.nested);
      count = s.count;
    })
braces-found d inner two found found-two ls p (Some n) o e =
    let a = and_then-some (option_and_then two (eat 123 n.1)) (repeat_end n.0) p e in
    let b = and_then-some (eat 123 n.1) two a.0 a.1 in
    let s = found-two b.0 a.0 b.2 in
    let c = by n.0 a.0 p a.2 in
    let times = both-true (nat_le 1 n.0) (nat_le (n.0 * length a.0.0) 65536) c.0 in
    let g = map-some (option_and_then (eat 125) (eat 125 a.0.1)) (λ rest. (repeated n.0 a.0.0, rest)) p c.1 in
    let h = and_then-some (eat 125 a.0.1) (eat 125) g.0 g.1 in
    subst (Reads (suc d) (sign 123 ∷ ls)) g.2 (record {
      tree = repeat n.0 s.2.trees;
      written = ap (λ l. sign 123 ∷ l) (number-some ls n o ∙ ap (λ l. number n.0 ∷ l) (eat-some 123 n.1 b.0 b.1) ∙ ap (λ l. number n.0 ∷ sign 123 ∷ l)
          (s.2.written ∙ ap (λ l. spell_all s.2.trees ++ l) (eat-some 125 a.0.1 h.0 h.1 ∙ ap (λ l. sign 125 ∷ l) (eat-some 125 h.0 g.0 h.2)) ∙ sym (append_assoc (spell_all s.2.trees) (sign 125 ∷ sign 125 ∷ []) g.0)));
      stands = ap (repeated n.0) s.2.stands;
      repeats = (leb-true _ _ times.0, s.2.repeats);
      nested = omega (arith, s.1, s.2.nested);
      count = omega (arith, length-repeated n.0 a.0.0, leb-true _ _ times.1);
    })
  where
    by : (n : ℕ) (q p : Pieces × List Lexeme) → repeat_end n q ≡ Some p →
        ((nat_le 1 n && nat_le (n * length q.0) 65536) ≡ true) × (option_map (λ rest. (repeated n q.0, rest)) (option_and_then (eat 125) (eat 125 q.1)) ≡ Some p)
    by n q p e = grind arith

with-found : (d : ℕ) (inner two : Read Pieces) → ((ls : List Lexeme) (p : Pieces × List Lexeme) → inner ls ≡ Some p → ReadsAll d ls p) →
    ((ls : List Lexeme) (p : Pieces × List Lexeme) → two ls ≡ Some p → (e : ℕ) × (d ≡ suc e) × ReadsAll e ls p) →
    (ls : List Lexeme) (p : Pieces × List Lexeme) (o : Option (List Lexeme)) → eat 123 ls ≡ o → expression_with inner two ls o ≡ Some p → Reads (suc d) ls p
with-found d inner two found found-two ls p None o e = plain-reads_as (suc d) ls p e
with-found d inner two found found-two ls p (Some rest) o e =
    subst (λ l. Reads (suc d) l p) (sym (eat-some 123 ls rest o)) (braces-found d inner two found found-two rest p (number_at rest) refl e)

pub found : (d : ℕ) → Finds d (expression d)
unfolding expression
found zero ls p e = plain-reads_as 0 ls p e
found (suc zero) ls p e =
    with-found 0 (λ l. items (expression zero) (length l) l) (λ l. None) (λ l q. items-found 0 (expression zero) (found zero) (length l) l q) (λ l q f. absurd (cc)) ls p (eat 123 ls) refl e
found (suc (suc d)) ls p e =
    with-found (suc d) (λ l. items (expression (suc d)) (length l) l) (λ l. items (expression d) (length l) l)
    (λ l q. items-found (suc d) (expression (suc d)) (found (suc d)) (length l) l q)
    (λ l q f. (d, refl, items-found d (expression d) (found d) (length l) l q f)) ls p (eat 123 ls) refl e
