-- Conditions, by one walk over the tokens.
--
-- Which item of a condition counts is said by `inner_def` and `inner_port` in mintc_sdf/specs/Forms.antt: of a COND the
-- last, of a CONDELSE its only one, and where that is a condition too, the item that counts of it. That is the rule.
-- This file is for the code, which builds no items: it says how a reader that passes each token once finds where that
-- item begins, by how many items each condition has so far. That the two agree is proved (`found-inside` in
-- proofs/SharedConditionLaws.antt, `def-found` and `port-found` in mintc_sdf/proofs/ConditionLaws.antt).
use Rattle.std.specs.Prelude.{ℕ, zero, suc, nat_lt, Bool, true, false, ◌&&◌, if◌then◌else◌, List, [], ◌∷◌, ◌++◌}
use Rattle.std.specs.Prelude.{length, take, slice_index_or, Option, Some, None, option_map, codes}
use Rattle.std.specs.List.{list_any}
use Rattle.mintc_sdf_tokens.specs.declared.conditions.Layer.{Layer}
use Rattle.mintc_sdf_tokens.specs.declared.conditions.Layer.TheVariants as layer
use Rattle.mintc_sdf_tokens.specs.Tokens.{Token, opening, closing, word, string, bad}
use Rattle.mintc_sdf_tokens.specs.Words.{is_key}
use Rattle.mintc_sdf_tokens.specs.Reading.{with_rest}

-- The condition that a keyword opens, with no item in it yet: COND, and where both kinds may stand also CONDELSE.
abbrev pub kind_of : Bool → List ℕ → Option Layer
kind_of both k = if is_key (codes "COND") k then Some layer.Any
    else (if both && is_key (codes "CONDELSE") k then Some layer.Empty else None)

-- Behind the parenthesis that opens a list: the condition that the list is, and what stands behind its keyword; None of
-- a list that is no condition.
abbrev pub condition_at : Bool → List Token → Option (Layer × List Token)
condition_at both (word k ∷ ts) = option_map (with_rest ts) (kind_of both k)
condition_at both _ = None

-- a condition with one item more in it
abbrev pub more : Layer → Layer
more layer.Any = layer.Any
more layer.Empty = layer.Full
more layer.Full = layer.Over
more layer.Over = layer.Over

-- more items stand in a condition than may
abbrev pub is_over : Layer → Bool
is_over layer.Over = true
is_over _ = false

-- so it is with one of these conditions
abbrev pub has_over : List Layer → Bool
has_over ls = list_any is_over ls

-- The walk knows a list of conditions: the outermost, the one that its latest item is, the one that the latest item of
-- that is, and so on. They are counted from 0. What begins where d lists are open inside of the outermost is an item of
-- condition d, if there is one, and else stands within an item that is no condition.
abbrev pub is_item : ℕ → List Layer → Bool
is_item d ls = nat_lt d (length ls)

-- the conditions when an item of condition d has begun: d has one item more, and those inside of its item before go
abbrev pub noted : ℕ → List Layer → List Layer
noted d ls = take d ls ++ more (slice_index_or ls d layer.Any) ∷ []

-- the conditions when something has begun where d lists are open
abbrev pub after_start : ℕ → List Layer → List Layer
after_start d ls = if is_item d ls then noted d ls else ls

-- Where the item begins that counts so far, when something has begun at `here`, where d lists are open; `last` is where
-- it did before.
abbrev pub last_start : ℕ → List Layer → List Token → Option (List Token) → Option (List Token)
last_start d ls here last = if is_item d ls then Some here else last

-- At the end of the outermost condition: where the item begins that counts, and what is left. None where no item
-- counts, and where one of the conditions has more than may stand in it.
abbrev pub at_end : List Layer → Option (List Token) → List Token → Option (List Token × List Token)
at_end ls last rest = if has_over ls then None else option_map (with_rest rest) last

-- `inward`, given the condition, where an item is one; `other` where it is none, and of what is no item
abbrev pub if_condition : {A : Type 0} → Bool → Option Layer → (Layer → A) → A → A
if_condition true (Some l) inward other = inward l
if_condition _ _ inward other = other

-- The walk to the end of the outermost condition, from a place where d lists are open inside of it, with the conditions
-- and the start of the item that counts so far. It gives where the item begins that counts in the end, and what is left
-- behind the outermost condition; None also of one that isn't closed.
abbrev pub walked : Bool → List Layer → Option (List Token) → ℕ → List Token → Option (List Token × List Token)
walked both ls last d [] = None
walked both ls last d (bad ∷ ts) = None
walked both ls last zero (closing ∷ ts) = at_end ls last ts
walked both ls last (suc d) (closing ∷ ts) = walked both ls last d ts
walked both ls last d (word w ∷ ts) =
    walked both (after_start d ls) (last_start d ls (word w ∷ ts) last) d ts
walked both ls last d (string s ∷ ts) =
    walked both (after_start d ls) (last_start d ls (string s ∷ ts) last) d ts
walked both ls last d (opening ∷ word k ∷ ts) =
    if_condition (is_item d ls) (kind_of both k) (λ l. walked both (noted d ls ++ l ∷ []) None (suc d) ts)
    (walked both (after_start d ls) (last_start d ls (opening ∷ word k ∷ ts) last) (suc d) (word k ∷ ts))
walked both ls last d (opening ∷ ts) =
    walked both (after_start d ls) (last_start d ls (opening ∷ ts) last) (suc d) ts
