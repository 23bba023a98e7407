-- Statements behind statements.
use Rattle.std.proofs.Common.{◌≡◌, ℕ, zero, suc, ◌+◌, ◌≤◌, List, [], ◌∷◌, length, refl, arith, add-one}
use Rattle.std.proofs.lemmas.List.{drop_all}
use Rattle.mintc_vlex.specs.declared.token_list.Token.{Token}
use Rattle.mintc_vlex.specs.Tokens.{tokens_behind, tokens_from}
use Rattle.mintc_vlex.specs.Statements.{behind_statement}
use Rattle.mintcx_places.specs.Statements.{behind_statements}

-- one statement more
step : (text : List ℕ) (n : ℕ) (ts more : List Token) (t : Token) → behind_statements text n ts ≡ t ∷ more → behind_statements text (suc n) ts ≡ behind_statement text t more
step text zero [] more t h = cc
step text zero (s ∷ ts) more t h = let a : s ≡ t = cc in let b : ts ≡ more = cc in rw (a, b) refl
step text (suc n) [] more t h = cc
step text (suc n) (s ∷ ts) more t h = step text n (behind_statement text s ts) more t h

pub one_more : (text : List ℕ) (n : ℕ) (ts more : List Token) (t : Token) → behind_statements text n ts ≡ t ∷ more → behind_statements text (n + 1) ts ≡ behind_statement text t more
one_more text n ts more t h = rw add-one (step text n ts more t h)

-- where nothing is left, nothing is left later
pub none_later : (text : List ℕ) (n m : ℕ) (ts : List Token) → n ≤ m → behind_statements text n ts ≡ [] → behind_statements text m ts ≡ []
none_later text zero zero ts h e = e
none_later text zero (suc m) [] h e = refl
none_later text zero (suc m) (t ∷ ts) h e = cc
none_later text (suc n) zero ts h e = absurd (omega arith)
none_later text (suc n) (suc m) [] h e = refl
none_later text (suc n) (suc m) (t ∷ ts) h e = none_later text n m (behind_statement text t ts) (omega arith) e

-- no token stands behind the end of a text
pub none_at_end : (text : List ℕ) → tokens_behind text (length text) ≡ []
unfolding tokens_from
none_at_end text = rw (drop_all (length text) text (omega arith)) refl
