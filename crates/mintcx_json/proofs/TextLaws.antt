-- The text of a value is read back as that value.
use Rattle.std.proofs.Common.{◌≡◌, ℕ, ◌≤◌, List, [], ◌∷◌, ◌++◌, Some, Result, IfOk, option_and_then, ap, ◌∙◌, sym, append-nil, subst}
use Rattle.std.proofs.lemmas.Result.{IfOk-weaker}
use Rattle.json.specs.Json.{Json, document, if_last, max_depth, value}
use Rattle.json.specs.Lex.{tokens}
use Rattle.json.specs.Print.{print}
use Rattle.json.specs.Token.{Token}
use Rattle.json.specs.Tree.{depth, json_tokens}
use Rattle.json.proofs.Printed.Trees.{value-json_tokens}
use Rattle.mintcx_json.specs.Objects.{IsTextOf}

read_back : (j : Json) → tokens (print (json_tokens j)) ≡ json_tokens j → depth j ≤ max_depth → document (print (json_tokens j)) ≡ Some j
read_back j back shallow =
    ap (option_and_then (λ p. if_last p.0 p.1)) (ap (value max_depth) (back ∙ sym (append-nil (json_tokens j))) ∙ value-json_tokens j max_depth [] shallow)

pub is_text : (j : Json) (written : List Token) (text : List ℕ) → written ≡ json_tokens j → depth j ≤ max_depth → tokens (print written) ≡ written →
    text ≡ print written ++ 10 ∷ [] → IsTextOf j text
is_text j written text e shallow back f = record {
  written = f ∙ ap (λ (ts : List Token). print ts ++ 10 ∷ []) e;
  read = read_back j (subst (λ (ts : List Token). tokens (print ts) ≡ ts) e back) shallow;
}

-- what is written of a sheet that was empty
pub whole_text : {E : Type 0} (r : Result (List ℕ) E) (j : Json) (begun written : List Token) → begun ≡ [] → written ≡ begun ++ json_tokens j → depth j ≤ max_depth →
    tokens (print written) ≡ written → IfOk r (λ (text : List ℕ). text ≡ print written ++ 10 ∷ []) → IfOk r (IsTextOf j)
whole_text r j begun written e f shallow back h =
    IfOk-weaker r _ _ (λ text g. is_text j written text (f ∙ ap (λ (ts : List Token). ts ++ json_tokens j) e) shallow back g) h
