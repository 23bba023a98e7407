-- What a reader finds at the front of tokens.
use Rattle.std.specs.Prelude.{ℕ, zero, suc, ◌==◌, if◌then◌else◌, List, [], ◌∷◌, Option, Some, None, option_map}
use Rattle.mintc_text.specs.Signs.{close_parenthesis, open_parenthesis, quote}
use Rattle.mintc_sdf_tokens.specs.declared.reader.TokenKind.{TokenKind}
use Rattle.mintc_sdf_tokens.specs.declared.reader.TokenKind.TheVariants as mark
use Rattle.mintc_sdf_tokens.specs.Tokens.{Token, opening, closing, word, string, bad}
use Rattle.mintc_sdf_tokens.specs.Items.{Items, items, after}

-- what follows an opening parenthesis
abbrev pub after_opening : List Token → Option (List Token)
after_opening (opening ∷ ts) = Some ts
after_opening _ = None

-- what follows a closing parenthesis
abbrev pub after_closing : List Token → Option (List Token)
after_closing (closing ∷ ts) = Some ts
after_closing _ = None

-- a word and what follows it
abbrev pub word_at : List Token → Option (List ℕ × List Token)
word_at (word w ∷ ts) = Some (w, ts)
word_at _ = None

-- a string and what follows it
abbrev pub string_at : List Token → Option (List ℕ × List Token)
string_at (string s ∷ ts) = Some (s, ts)
string_at _ = None

-- what comes next: nothing, a parenthesis, a word, or a quote
abbrev pub mark_of : List Token → TokenKind
mark_of [] = mark.End
mark_of (opening ∷ ts) = mark.Open
mark_of (closing ∷ ts) = mark.Close
mark_of (word w ∷ ts) = mark.Word
mark_of (string s ∷ ts) = mark.Quote
mark_of (bad ∷ ts) = mark.Quote

-- the same by the first byte of a text that begins with a token
abbrev pub mark_by : List ℕ → TokenKind
mark_by [] = mark.End
mark_by (b ∷ bs) = if b == open_parenthesis then mark.Open
    else (if b == close_parenthesis then mark.Close else (if b == quote then mark.Quote else mark.Word))

-- what a reader passes, and what is left then: nothing at the end, and at a string that isn't closed
abbrev pub stepped : List Token → TokenKind × List Token
stepped [] = (mark.End, [])
stepped (opening ∷ ts) = (mark.Open, ts)
stepped (closing ∷ ts) = (mark.Close, ts)
stepped (word w ∷ ts) = (mark.Word, ts)
stepped (string s ∷ ts) = (mark.Quote, ts)
stepped (bad ∷ ts) = (mark.End, bad ∷ ts)

-- what is left behind the parenthesis that closes a list, where so many more lists are open inside of it
abbrev pub passing : ℕ → List Token → Option (List Token)
passing d [] = None
passing d (opening ∷ ts) = passing (suc d) ts
passing zero (closing ∷ ts) = Some ts
passing (suc d) (closing ∷ ts) = passing d ts
passing d (word w ∷ ts) = passing d ts
passing d (string s ∷ ts) = passing d ts
passing d (bad ∷ ts) = None

-- something, with the tokens that are left behind it
abbrev pub with_rest : {A : Type 0} → List Token → A → A × List Token
with_rest rest a = (a, rest)

-- What a form gives of the items of a list, and what is left behind the list, given the tokens behind the items; None
-- of a list that isn't closed.
abbrev pub inside_by : {A : Type 0} → (Items → Option A) → Items → List Token → Option (A × List Token)
inside_by f is (closing ∷ rest) = option_map (with_rest rest) (f is)
inside_by f is _ = None

-- what a form gives of the items of the list that is open, and what is left behind it; None of a list that isn't closed
abbrev pub inside : {A : Type 0} → (Items → Option A) → List Token → Option (A × List Token)
inside f ts = inside_by f (items ts) (after ts)
