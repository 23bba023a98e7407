-- The names of a module's nets as they are taken in.
use Rattle.std.proofs.Common.{◌≡◌, ℕ, List, [], ◌∷◌, ◌++◌, Bool, true, false, ◌||◌, cond, Option, Some, None, bytes_eq, refl, sym, ap, ◌∙◌, append_assoc}
use Rattle.std.specs.List.{fold, flat_map, filter_map, cons_option}
use Rattle.std.specs.Option.{option_to_list}
use Rattle.std.proofs.lemmas.List.{append-nil}
use Rattle.mintc_netlist.specs.declared.expression.Piece.{Piece}
use Rattle.mintc_netlist.specs.declared.module.Connection.{Connection}
use Rattle.mintc_netlist.specs.Nets.{piece_names}
use Rattle.mintc_text_names.specs.Names.{is_among, with_name}
use Rattle.mintc_netlist.specs.Again.{firsts_after}

-- names that are found by the same tests are passed by the same names
or_swap : (a b c : Bool) → (a || (b || c)) ≡ (b || (a || c))
or_swap true true c = refl
or_swap true false c = refl
or_swap false b c = refl

pub among_last : (name x : List ℕ) (xs : List (List ℕ)) → is_among name (xs ++ x ∷ []) ≡ is_among name (x ∷ xs)
among_last name x [] = refl
among_last name x (y ∷ xs) = ap (λ b. bytes_eq name y || b) (among_last name x xs) ∙ or_swap (bytes_eq name y) (bytes_eq name x) (is_among name xs)

firsts_by : (name : List ℕ) (seen seen' names : List (List ℕ)) (b : Bool) → firsts_after seen names ≡ firsts_after seen' names → firsts_after (name ∷ seen) names ≡ firsts_after (name ∷ seen') names →
    cond b (firsts_after seen names) (name ∷ firsts_after (name ∷ seen) names) ≡ cond b (firsts_after seen' names) (name ∷ firsts_after (name ∷ seen') names)
firsts_by name seen seen' names true e f = e
firsts_by name seen seen' names false e f = ap (λ ns. name ∷ ns) f

firsts_same : (seen seen' names : List (List ℕ)) → ((name : List ℕ) → is_among name seen ≡ is_among name seen') → firsts_after seen names ≡ firsts_after seen' names
firsts_same seen seen' [] same = refl
firsts_same seen seen' (name ∷ names) same =
    firsts_by name seen seen' names (is_among name seen) (firsts_same seen seen' names same) (firsts_same (name ∷ seen) (name ∷ seen') names (λ n. ap (λ b. bytes_eq n name || b) (same n)))
    ∙ ap (λ (b : Bool). cond b (firsts_after seen' names) (name ∷ firsts_after (name ∷ seen') names)) (same name)

-- what names that are taken in one by one become
fold_by : (seen : List (List ℕ)) (name : List ℕ) (names : List (List ℕ)) (b : Bool) → fold with_name seen names ≡ seen ++ firsts_after seen names →
    fold with_name (seen ++ name ∷ []) names ≡ (seen ++ name ∷ []) ++ firsts_after (seen ++ name ∷ []) names →
    fold with_name (cond b seen (seen ++ name ∷ [])) names ≡ seen ++ cond b (firsts_after seen names) (name ∷ firsts_after (name ∷ seen) names)
fold_by seen name names true h k = h
fold_by seen name names false h k =
    k ∙ append_assoc seen (name ∷ []) (firsts_after (seen ++ name ∷ []) names)
    ∙ ap (λ ns. seen ++ (name ∷ ns)) (firsts_same (seen ++ name ∷ []) (name ∷ seen) names (λ n. among_last n name seen))

pub fold-firsts : (seen names : List (List ℕ)) → fold with_name seen names ≡ seen ++ firsts_after seen names
fold-firsts seen [] = sym (append-nil seen)
fold-firsts seen (name ∷ names) = fold_by seen name names (is_among name seen) (fold-firsts seen names) (fold-firsts (seen ++ name ∷ []) names)

pub fold-append : (seen xs ys : List (List ℕ)) → fold with_name seen (xs ++ ys) ≡ fold with_name (fold with_name seen xs) ys
fold-append seen [] ys = refl
fold-append seen (x ∷ xs) ys = fold-append (with_name seen x) xs ys

-- the names of a module's nets, part by part
pub three_parts : (a b c : List (List ℕ)) → fold with_name (fold with_name (fold with_name [] a) b) c ≡ firsts_after [] (a ++ b ++ c)
three_parts a b c =
    ap (λ (seen : List (List ℕ)). fold with_name seen c) (sym (fold-append [] a b)) ∙ sym (fold-append [] (a ++ b) c) ∙ fold-firsts [] (a ++ b ++ c)

-- the names in what is connected
abbrev pub connected_names : List Connection → List (List ℕ)
connected_names cs = flat_map (flat_map piece_names) (filter_map (λ (c : Connection). c.expr) cs)

abbrev pub connection_names : Option (List Piece) → List (List ℕ)
connection_names e = flat_map (flat_map piece_names) (option_to_list e)

names_cons : (e : Option (List Piece)) (es : List (List Piece)) → flat_map (flat_map piece_names) (cons_option e es) ≡ connection_names e ++ flat_map (flat_map piece_names) es
names_cons None es = refl
names_cons (Some e) es = ap (λ ns. ns ++ flat_map (flat_map piece_names) es) (sym (append-nil (flat_map piece_names e)))

pub connected-push : (cs : List Connection) (c : Connection) → connected_names (cs ++ c ∷ []) ≡ connected_names cs ++ connection_names c.expr
connected-push [] c = names_cons c.expr [] ∙ append-nil (connection_names c.expr)
connected-push (x ∷ cs) c =
    names_cons x.expr (filter_map (λ (c : Connection). c.expr) (cs ++ c ∷ []))
    ∙ ap (λ ns. connection_names x.expr ++ ns) (connected-push cs c)
    ∙ sym (append_assoc (connection_names x.expr) (connected_names cs) (connection_names c.expr))
    ∙ ap (λ ns. ns ++ connection_names c.expr) (sym (names_cons x.expr (filter_map (λ (c : Connection). c.expr) cs)))
