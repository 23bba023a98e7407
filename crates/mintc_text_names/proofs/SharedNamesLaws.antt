-- Names in a set of vectors are those of their list.
use Rattle.std.proofs.Common.{◌≡◌, ℕ, suc, ◌+◌, List, [], ◌∷◌, ◌++◌, map, length, Bool, false, not, ◌||◌, Some, None, cond, nat_lt, Vec, Global, nat_eq, bytes_eq, position, refl, sym, ap, ◌∙◌}
use Rattle.std.specs.List.{list_any, position_or_len}
use Rattle.std.specs.Cmp.Lexicographic.{pointwise}
use Rattle.std.proofs.lemmas.List.{map-append}
use Rattle.indexmap.specs.IndexSet.{insert_key}
use Rattle.mintc_text_names.specs.Names.{is_among, with_name}

abbrev pub is_key : List ℕ → Vec ℕ Global → Bool
is_key name key = pointwise nat_eq name key.items

-- what is seen of the keys
abbrev pub seen : List (Vec ℕ Global) → List (List ℕ)
seen ks = map (λ (k : Vec ℕ Global). k.items) ks

pub among-seen : (name : List ℕ) (ks : List (Vec ℕ Global)) → is_among name (seen ks) ≡ list_any (is_key name) ks
among-seen name [] = refl
among-seen name (k ∷ ks) = ap (λ b. is_key name k || b) (among-seen name ks)

length-seen : (ks : List (Vec ℕ Global)) → length (seen ks) ≡ length ks
length-seen [] = refl
length-seen (k ∷ ks) = ap suc (length-seen ks)

prefix-seen : (name : List ℕ) (ks : List (Vec ℕ Global)) → position_or_len (bytes_eq name) (seen ks) ≡ position_or_len (is_key name) ks
prefix-seen name [] = refl
prefix-seen name (k ∷ ks) = ap (λ (n : ℕ). cond (not (bytes_eq name k.items)) (1 + n) 0) (prefix-seen name ks)

pub position-seen : (name : List ℕ) (ks : List (Vec ℕ Global)) → position (is_key name) ks ≡ position (bytes_eq name) (seen ks)
position-seen name ks =
    ap (λ (n : ℕ). cond (nat_lt n (length ks)) (Some n) None) (sym (prefix-seen name ks))
    ∙ ap (λ (m : ℕ). cond (nat_lt (position_or_len (bytes_eq name) (seen ks)) m) (Some (position_or_len (bytes_eq name) (seen ks))) None) (sym (length-seen ks))

-- whether a name is among what is seen of the keys
pub among : (name : List ℕ) (ks : List (Vec ℕ Global)) (names : List (List ℕ)) (b c : Bool) → b ≡ list_any (is_key name) ks → seen ks ≡ names → b ≡ c → is_among name names ≡ c
among name ks names b c found same answer = ap (is_among name) (sym same) ∙ among-seen name ks ∙ sym found ∙ answer

abbrev pub key_eq : Vec ℕ Global → Vec ℕ Global → Bool
key_eq x y = is_key x.items y

-- the names after one is taken in
pub taken : (name : List ℕ) (bytes : Vec ℕ Global) (ks more : List (Vec ℕ Global)) (names : List (List ℕ)) → bytes.items ≡ name → list_any (is_key name) ks ≡ false →
    more ≡ insert_key key_eq ks bytes → seen ks ≡ names → seen more ≡ with_name names name
taken name bytes ks more names same absent put view =
    let other : list_any (key_eq bytes) ks ≡ false = ap (λ (n : List ℕ). list_any (is_key n) ks) same ∙ absent in
    let last : more ≡ ks ++ bytes ∷ [] = put ∙ ap (λ b. cond b ks (ks ++ bytes ∷ [])) other in
    let shown : seen more ≡ names ++ name ∷ [] = ap seen last ∙ map-append (λ (k : Vec ℕ Global). k.items) ks (bytes ∷ []) ∙ ap (λ (n : List ℕ). seen ks ++ n ∷ []) same ∙ ap (λ (ns : List (List ℕ)). ns ++ name ∷ []) view in
    let new : is_among name names ≡ false = among name ks names (list_any (is_key name) ks) false refl view absent in
    shown ∙ ap (λ b. cond b names (names ++ name ∷ [])) (sym new)
