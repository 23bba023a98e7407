-- Steps through two texts side by side.
use Rattle.std.proofs.Common.{◌≡◌, ℕ, if◌then◌else◌, List, [], ◌∷◌, Some, refl, sym, ap, ◌∙◌, arith}
use Rattle.mintc_sdf_tokens.specs.declared.reader.TokenKind.TheVariants as mark
use Rattle.mintc_sdf_tokens.specs.Tokens.{Token, opening, closing, word, string}
use Rattle.mintc_sdf_tokens.specs.Reading.{after_opening, after_closing, word_at, string_at, mark_of}
use Rattle.mintc_sdf_tokens.proofs.SharedInsideLaws.{opening-next, closing-next, word-next, string-next}
use Rattle.mintcx_clamp.specs.declared.walking.Mode.{Mode}
use Rattle.mintcx_clamp.specs.Words.{clamped_word}
use Rattle.mintcx_clamp.specs.Walking.{is_value, turned, followed}

pub both-open : (m n : Mode) (ts us vs ws : List Token) → after_opening ts ≡ Some us → after_opening vs ≡ Some ws → n ≡ turned m mark.Open [] → followed n us ≡ ws → followed m ts ≡ vs
both-open m n ts us vs ws e f g h =
    ap (followed m) (opening-next ts us e) ∙ ap (λ k. opening ∷ followed k us) (sym g) ∙ ap (λ l. opening ∷ l) h ∙ sym (opening-next vs ws f)

pub both-close : (m n : Mode) (ts us vs ws : List Token) → after_closing ts ≡ Some us → after_closing vs ≡ Some ws → n ≡ turned m mark.Close [] → followed n us ≡ ws → followed m ts ≡ vs
both-close m n ts us vs ws e f g h =
    ap (followed m) (closing-next ts us e) ∙ ap (λ k. closing ∷ followed k us) (sym g) ∙ ap (λ l. closing ∷ l) h ∙ sym (closing-next vs ws f)

pub both-string : (m n : Mode) (s t : List ℕ) (ts us vs ws : List Token) → string_at ts ≡ Some (s, us) → string_at vs ≡ Some (t, ws) → s ≡ t → n ≡ turned m mark.Quote [] → followed n us ≡ ws → followed m ts ≡ vs
both-string m n s t ts us vs ws e f same g h =
    ap (followed m) (string-next ts s us e) ∙ ap (λ k. string s ∷ followed k us) (sym g) ∙ ap (λ l. string s ∷ l) h ∙ ap (λ x. string x ∷ ws) same ∙ sym (string-next vs t ws f)

pub both-word : (m n : Mode) (w v : List ℕ) (ts us vs ws : List Token) → word_at ts ≡ Some (w, us) → word_at vs ≡ Some (v, ws) → v ≡ (if is_value m (mark_of us) then clamped_word w else w) →
    n ≡ turned m mark.Word w → followed n us ≡ ws → followed m ts ≡ vs
both-word m n w v ts us vs ws e f same g h =
    ap (followed m) (word-next ts w us e) ∙ ap (λ k. word (if is_value m (mark_of us) then clamped_word w else w) ∷ followed k us) (sym g)
    ∙ ap (λ l. word (if is_value m (mark_of us) then clamped_word w else w) ∷ l) h ∙ ap (λ x. word x ∷ ws) (sym same) ∙ sym (word-next vs v ws f)

pub none-left : (ts : List Token) → mark_of ts ≡ mark.End → ts ≡ []
none-left [] e = refl
none-left (t ∷ ts) e = absurd (grind (arith, e))

pub both-end : (m : Mode) (ts vs : List Token) → mark_of ts ≡ mark.End → mark_of vs ≡ mark.End → followed m ts ≡ vs
both-end m ts vs e f = ap (followed m) (none-left ts e) ∙ sym (none-left vs f)
