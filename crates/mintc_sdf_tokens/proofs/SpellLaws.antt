-- Items and how they are written: what stands at the front of tokens is written there, and what is written is read back.
use Rattle.std.proofs.Common.{◌≡◌, ℕ, zero, suc, List, ◌∷◌, ◌++◌, refl, sym, ap, ◌∙◌, append_assoc}
use Rattle.mintc_sdf_tokens.specs.Tokens.{Token, opening, closing, word, string}
use Rattle.mintc_sdf_tokens.specs.Items.{Items, none, leaf, quoted, list, spell, Front, with_leaf, with_quoted, with_list, nest, fronts, front, items, after}
use Rattle.mintc_sdf_tokens.proofs.ItemLaws.{closed-list}

abbrev Writes : List Token → Front → Type 0
Writes ts f = ts ≡ spell f.items ++ f.after

nest-written : (go : List Token → Front) (ts : List Token) (inner : Items) (af : List Token) → ((rest : List Token) → Writes rest (go rest)) → ts ≡ spell inner ++ af → Writes (opening ∷ ts) (nest go ts inner af)
unfolding spell
nest-written go ts inner (closing ∷ rest) h e =
    ap (λ l. opening ∷ l) (e ∙ ap (λ l. spell inner ++ closing ∷ l) (h rest) ∙ sym (append_assoc (spell inner) (closing ∷ spell (go rest).items) (go rest).after))
nest-written go ts inner _ h e = refl

written-by : (n : ℕ) (ts : List Token) → Writes ts (fronts n ts)
unfolding fronts spell
written-by zero ts = refl
written-by (suc n) (word w ∷ ts) = ap (λ l. word w ∷ l) (written-by n ts)
written-by (suc n) (string s ∷ ts) = ap (λ l. string s ∷ l) (written-by n ts)
written-by (suc n) (opening ∷ ts) = nest-written (fronts n) ts (fronts n ts).items (fronts n ts).after (λ rest. written-by n rest) (written-by n ts)
written-by (suc n) _ = refl

pub written : (ts : List Token) → ts ≡ spell (items ts) ++ after ts
written ts = written-by _ ts

pub read_back : (is : Items) (rest : List Token) → front (spell is ++ closing ∷ rest) ≡ record { items = is; after = closing ∷ rest }
unfolding fronts spell
read_back none rest = refl
read_back (leaf w is) rest = ap (with_leaf w) (read_back is rest)
read_back (quoted s is) rest = ap (with_quoted s) (read_back is rest)
read_back (list inner is) rest =
    let more = spell is ++ closing ∷ rest in
    let inside = read_back inner more in
    ap (λ l. front (opening ∷ l)) (append_assoc (spell inner) (closing ∷ spell is) (closing ∷ rest))
    ∙ closed-list (spell inner ++ closing ∷ more) more (ap (λ (f : Front). f.after) inside)
    ∙ ap (λ (f : Front). with_list f.items (front more)) inside
    ∙ ap (with_list inner) (read_back is rest)
