-- Lines of one count, name or number have one spelling.
use Rattle.std.proofs.Common.{◌≡◌, ℕ, ℤ, pos, negsuc, ◌≤ℤ◌, ◌<◌, ◌^◌, true, List, refl, ap, ◌∙◌, sym, subst, arith}
use Rattle.mintc_text.specs.Lines.{words}
use Rattle.mintc_timing_text.specs.Fields.{plain, plain_line, Spells, IsWordLine, IsNumberLine, IsCountLine, IsNameLine}
use Rattle.mintc_timing_text.proofs.SharedFieldsLaws.{seen, read_back}

-- A form of lines: each has words that can be seen and one value, and each value has one line.
pub record IsForm {V : Type 0} (F : V → List (List ℕ) → Type 0) : Type 0 where
  pub plain : (v : V) (ws : List (List ℕ)) → F v ws → plain_line ws ≡ true
  pub one : (v w : V) (ws : List (List ℕ)) → F v ws → F w ws → v ≡ w
  pub words : (v : V) (ws xs : List (List ℕ)) → F v ws → F v xs → ws ≡ xs

pub word_form : (word : List ℕ) → plain word ≡ true → IsForm (IsWordLine word)
word_form word h = record { plain = λ u ws e. ap plain_line e ∙ h; one = λ u w ws h g. refl; words = λ u ws xs h g. h ∙ sym g }

pub count_form : (word : List ℕ) (least most : ℕ) → plain word ≡ true → most < 2 ^ 32 → IsForm (IsCountLine word least most)
count_form word least most h few =
    record { plain = λ n ws e. grind (arith, seen); one = λ m n ws e f. grind (arith, read_back); words = λ n ws xs h g. h.2 ∙ sym g.2 }

pub number_form : (word : List ℕ) (least most : ℤ) → plain word ≡ true → negsuc 999999999999999998 ≤ℤ least → most ≤ℤ pos 999999999999999999 → IsForm (IsNumberLine word least most)
number_form word least most h low high =
    record { plain = λ z ws e. grind (arith, seen); one = λ y z ws e f. grind (arith, read_back); words = λ z ws xs h g. h.1 ∙ sym g.1 }

pub name_form : (word : List ℕ) → plain word ≡ true → IsForm (IsNameLine word)
name_form word h = record { plain = λ name ws e. grind (arith, seen); one = λ a b ws e f. grind arith; words = λ name ws xs h g. h.1 ∙ sym g.1 }

pub spelled_same : {V : Type 0} (F : V → List (List ℕ) → Type 0) → ((v : V) (ws xs : List (List ℕ)) → F v ws → F v xs → ws ≡ xs) → (v w : V) (line other : List ℕ) → v ≡ w → Spells F v line → Spells F w other → line ≡ other
spelled_same {V} F one v w line other e h g =
    let same = one w h.0 g.0 (subst (λ (x : V). F x h.0) e h.1) g.1 in h.2 ∙ ap words same ∙ sym g.2
