-- The items of a text, and those that they become.
use Rattle.std.proofs.Common.{◌≡◌, ℕ, suc, Bool, true, false, if◌then◌else◌, List, ◌∷◌, ◌++◌, refl, sym, ap, ◌∙◌, append_assoc}
use Rattle.mintc_sdf_tokens.specs.Tokens.{Token, opening, closing, word, string}
use Rattle.mintc_sdf_tokens.specs.Items.{Items, none, leaf, quoted, list, spell}
use Rattle.mintcx_clamp.specs.declared.walking.Mode.TheVariants as mode
use Rattle.mintcx_clamp.specs.Words.{clamped_word}
use Rattle.mintcx_clamp.specs.Walking.{is_signed, is_unsigned, behind, followed}

-- the items inside of a list that stands among values
abbrev pub value : Items → Items
value (leaf w none) = leaf (clamped_word w) none
value is = is

-- the items of a list whose numbers may not be below 0
abbrev pub values : Items → Items
values none = none
values (leaf w is) = leaf w (values is)
values (quoted s is) = quoted s (values is)
values (list inner is) = list (value inner) (values is)

-- all other items, and the items inside of a list among them
unfoldable mutual
  pub outer : Items → Items
  outer none = none
  outer (leaf w is) = leaf w (outer is)
  outer (quoted s is) = quoted s (outer is)
  outer (list inner is) = list (inside inner) (outer is)

  pub inside : Items → Items
  inside none = none
  inside (leaf k is) = leaf k (if is_signed k then is else (if is_unsigned k then values is else outer is))
  inside (quoted s is) = quoted s (outer is)
  inside (list inner is) = list (inside inner) (outer is)

-- how a list is written before more
list-before : (inner is : Items) (rest : List Token) → spell (list inner is) ++ rest ≡ opening ∷ (spell inner ++ closing ∷ (spell is ++ rest))
unfolding spell
list-before inner is rest = ap (λ l. opening ∷ l) (append_assoc (spell inner) (closing ∷ spell is) rest)

-- what stays as it is
kept-items : (d : ℕ) (is : Items) (rest : List Token) → followed (mode.Kept d) (spell is ++ rest) ≡ spell is ++ followed (mode.Kept d) rest
unfolding spell
kept-items d none rest = refl
kept-items d (leaf w is) rest = ap (λ l. word w ∷ l) (kept-items d is rest)
kept-items d (quoted s is) rest = ap (λ l. string s ∷ l) (kept-items d is rest)
kept-items d (list inner is) rest =
    ap (followed (mode.Kept d)) (list-before inner is rest)
    ∙ ap (λ l. opening ∷ l) (kept-items (suc d) inner (closing ∷ (spell is ++ rest)) ∙ ap (λ l. spell inner ++ closing ∷ l) (kept-items d is rest))
    ∙ sym (list-before inner is (followed (mode.Kept d) rest))

inner-items : (d : ℕ) (is : Items) (rest : List Token) → followed (mode.Inner d) (spell is ++ rest) ≡ spell is ++ followed (mode.Inner d) rest
unfolding spell
inner-items d none rest = refl
inner-items d (leaf w is) rest = ap (λ l. word w ∷ l) (inner-items d is rest)
inner-items d (quoted s is) rest = ap (λ l. string s ∷ l) (inner-items d is rest)
inner-items d (list inner is) rest =
    ap (followed (mode.Inner d)) (list-before inner is rest)
    ∙ ap (λ l. opening ∷ l) (inner-items (suc d) inner (closing ∷ (spell is ++ rest)) ∙ ap (λ l. spell inner ++ closing ∷ l) (inner-items d is rest))
    ∙ sym (list-before inner is (followed (mode.Inner d) rest))

-- a list among values
value-items : (is : Items) (rest : List Token) → followed mode.Begun (spell is ++ closing ∷ rest) ≡ spell (value is) ++ closing ∷ followed mode.Values rest
unfolding spell
value-items none rest = refl
value-items (leaf w none) rest = refl
value-items (leaf w (leaf v is)) rest = ap (λ l. word w ∷ word v ∷ l) (inner-items 0 is (closing ∷ rest))
value-items (leaf w (quoted s is)) rest = ap (λ l. word w ∷ string s ∷ l) (inner-items 0 is (closing ∷ rest))
value-items (leaf w (list inner is)) rest = ap (λ l. word w ∷ l) (inner-items 0 (list inner is) (closing ∷ rest))
value-items (quoted s is) rest = ap (λ l. string s ∷ l) (inner-items 0 is (closing ∷ rest))
value-items (list inner is) rest =
    ap (followed mode.Begun) (list-before inner is (closing ∷ rest))
    ∙ ap (λ l. opening ∷ l) (inner-items 1 inner (closing ∷ (spell is ++ closing ∷ rest)) ∙ ap (λ l. spell inner ++ closing ∷ l) (inner-items 0 is (closing ∷ rest)))
    ∙ sym (list-before inner is (closing ∷ followed mode.Values rest))

values-items : (is : Items) (rest : List Token) → followed mode.Values (spell is ++ rest) ≡ spell (values is) ++ followed mode.Values rest
unfolding spell
values-items none rest = refl
values-items (leaf w is) rest = ap (λ l. word w ∷ l) (values-items is rest)
values-items (quoted s is) rest = ap (λ l. string s ∷ l) (values-items is rest)
values-items (list inner is) rest =
    ap (followed mode.Values) (list-before inner is rest)
    ∙ ap (λ l. opening ∷ l) (value-items inner (spell is ++ rest) ∙ ap (λ l. spell (value inner) ++ closing ∷ l) (values-items is rest))
    ∙ sym (list-before (value inner) (values is) (followed mode.Values rest))

-- what stands behind the keyword of a list
behind-items : (k : List ℕ) (is : Items) (rest : List Token) → ((more : List Token) → followed mode.Free (spell is ++ more) ≡ spell (outer is) ++ followed mode.Free more) →
    followed (behind k) (spell is ++ closing ∷ rest) ≡ spell (if is_signed k then is else (if is_unsigned k then values is else outer is)) ++ closing ∷ followed mode.Free rest
behind-items k is rest go = by (is_signed k) (is_unsigned k)
  where
    by : (a b : Bool) → followed (if a then mode.Kept 0 else (if b then mode.Values else mode.Free)) (spell is ++ closing ∷ rest)
        ≡ spell (if a then is else (if b then values is else outer is)) ++ closing ∷ followed mode.Free rest
    by true b = kept-items 0 is (closing ∷ rest)
    by false true = values-items is (closing ∷ rest)
    by false false = go (closing ∷ rest)

-- all items
mutual
  unfolding spell outer inside

  pub outer-items : (is : Items) (rest : List Token) → followed mode.Free (spell is ++ rest) ≡ spell (outer is) ++ followed mode.Free rest
  outer-items none rest = refl
  outer-items (leaf w is) rest = ap (λ l. word w ∷ l) (outer-items is rest)
  outer-items (quoted s is) rest = ap (λ l. string s ∷ l) (outer-items is rest)
  outer-items (list inner is) rest =
      ap (followed mode.Free) (list-before inner is rest)
      ∙ ap (λ l. opening ∷ l) (inside-items inner (spell is ++ rest) ∙ ap (λ l. spell (inside inner) ++ closing ∷ l) (outer-items is rest))
      ∙ sym (list-before (inside inner) (outer is) (followed mode.Free rest))

  inside-items : (is : Items) (rest : List Token) → followed mode.Opened (spell is ++ closing ∷ rest) ≡ spell (inside is) ++ closing ∷ followed mode.Free rest
  inside-items none rest = refl
  inside-items (leaf k is) rest = ap (λ l. word k ∷ l) (behind-items k is rest (λ more. outer-items is more))
  inside-items (quoted s is) rest = ap (λ l. string s ∷ l) (outer-items is (closing ∷ rest))
  inside-items (list inner is) rest =
      ap (followed mode.Opened) (list-before inner is (closing ∷ rest))
      ∙ ap (λ l. opening ∷ l) (inside-items inner (spell is ++ closing ∷ rest) ∙ ap (λ l. spell (inside inner) ++ closing ∷ l) (outer-items is (closing ∷ rest)))
      ∙ sym (list-before (inside inner) (outer is) (closing ∷ followed mode.Free rest))
