-- A record that ends as RFC 4180 has it is read back as it was.
use Rattle.std.proofs.Common.{◌≡◌, ◌==◌, ◌++◌, ◌∷◌, [], ◌∙◌, ℕ, List, Bool, true, false, Some, refl, ap, append_assoc, inl, inr}
use Rattle.std.specs.Prelude.{◌||◌}
use Rattle.std.specs.List.{list_any}
use Rattle.std.proofs.lemmas.Bool.{cases_Bool}
use Rattle.csv.specs.Machine.{next_record}
use Rattle.csv.specs.Reading.{default_config}
use Rattle.csv.specs.Writing.{default_writer, escaped, field_text, fields_text, is_blank, needs_byte, row_text}
use Rattle.csv.specs.declared.parser.State.TheVariants as st
use Rattle.csv.proofs.RoundTrip.{field-run, record-same}
use Rattle.mintcx_csv.specs.Tables.{by_rfc}

-- fields are written as they are by default
same_escaped : (x : List ℕ) → escaped by_rfc x ≡ escaped default_writer x
unfolding escaped
same_escaped [] = refl
same_escaped (b ∷ rest) = rw (same_escaped rest) refl

same_field : (x : List ℕ) → field_text by_rfc x ≡ field_text default_writer x
same_field x = rw (same_escaped x) refl

same_fields : (xs : List (List ℕ)) → fields_text by_rfc xs ≡ fields_text default_writer xs
unfolding fields_text
same_fields [] = refl
same_fields (x ∷ xs) = rw (same_field x, same_fields xs) refl

-- what stands behind a field is a comma or a carriage return
abbrev first_of : List (List ℕ) → ℕ
first_of [] = 13
first_of (y ∷ ys) = 44

abbrev others_of : List (List ℕ) → List ℕ → List ℕ
others_of [] tail = tail
others_of (y ∷ ys) tail = (field_text default_writer y ++ fields_text default_writer ys) ++ (13 ∷ tail)

behind : (ys : List (List ℕ)) (tail : List ℕ) → fields_text default_writer ys ++ (13 ∷ tail) ≡ first_of ys ∷ others_of ys tail
unfolding fields_text
behind [] tail = refl
behind (y ∷ ys) tail = refl

no_quote : (ys : List (List ℕ)) → (first_of ys == 34) ≡ false
no_quote [] = refl
no_quote (y ∷ ys) = refl

end_field : (fields : List (List ℕ)) (x u : List ℕ)
    → next_record default_config st.InField fields x (44 ∷ u) ≡ next_record default_config st.StartField (fields ++ (x ∷ [])) [] u
unfolding next_record
end_field fields x u = refl

-- the fields behind one, up to the carriage return
rest_read : (fields : List (List ℕ)) (x : List ℕ) (rest : List (List ℕ)) (tail : List ℕ)
    → next_record default_config st.InField fields x (fields_text default_writer rest ++ (13 ∷ tail)) ≡ Some (fields ++ (x ∷ rest), st.AfterCr, tail)
unfolding next_record fields_text
rest_read fields x [] tail = refl
rest_read fields x (y ∷ ys) tail =
    let e = behind ys tail in
    let u : (field_text default_writer y ++ fields_text default_writer ys) ++ (13 ∷ tail) ≡ field_text default_writer y ++ (first_of ys ∷ others_of ys tail) =
    append_assoc (field_text default_writer y) (fields_text default_writer ys) (13 ∷ tail) ∙ ap (λ (t : List ℕ). field_text default_writer y ++ t) e in
    let run = field-run (fields ++ (x ∷ [])) y (first_of ys) (others_of ys tail) (no_quote ys) in
    let more = rw e at (rest_read (fields ++ (x ∷ [])) y ys tail) in
    rw (end_field fields x _, u) (run ∙ more ∙ rw (append_assoc fields (x ∷ []) (y ∷ ys)) refl)

-- a byte that calls for no quotes ends no record
or_right : (a b : Bool) → (a || b) ≡ false → b ≡ false
or_right false b e = e
or_right true b e = cc e

or_left : (a b : Bool) → (a || b) ≡ false → a ≡ false
or_left false b e = refl
or_left true b e = cc e

not_true : (x : Bool) → (x ≡ true → ⊥) → x ≡ false
not_true true n = absurd (n refl)
not_true false n = refl

plain_byte : (b : ℕ) → needs_byte default_writer b ≡ false → ((b == 13) ≡ false) × ((b == 10) ≡ false)
plain_byte b e =
    let a = not_true (b == 44) (λ t. cc (rw t at e)) in
    let q = not_true (b == 34) (λ t. cc (rw (a, t) at e)) in
    let r = not_true (b == 13) (λ t. cc (rw (a, q, t) at e)) in
    let n = not_true (b == 10) (λ t. cc (rw (a, q, r, t) at e)) in
    (r, n)

-- a record of several fields starts as its first field does
plain_start : (x tail : List ℕ) → list_any (needs_byte default_writer) x ≡ false
    → next_record default_config st.StartRecord [] [] (x ++ (44 ∷ tail)) ≡ next_record default_config st.StartField [] [] (x ++ (44 ∷ tail))
plain_start [] tail p = record-same [] [] 44 tail refl refl
plain_start (b ∷ rest) tail p =
    let q = plain_byte b (or_left _ _ p) in
    record-same [] [] b (rest ++ (44 ∷ tail)) q.0 q.1

start : (x tail : List ℕ)
    → next_record default_config st.StartRecord [] [] (field_text default_writer x ++ (44 ∷ tail))
    ≡ next_record default_config st.StartField [] [] (field_text default_writer x ++ (44 ∷ tail))
start x tail = elim (cases_Bool (list_any (needs_byte default_writer) x)) [
  | inl needs ↦ rw needs (record-same [] [] 34 _ refl refl)
  | inr plain ↦ rw plain (plain_start x tail plain)
]

-- the text of a record of several fields
row_parts : (x y : List ℕ) (ys : List (List ℕ)) (tail : List ℕ)
    → row_text by_rfc (x ∷ y ∷ ys) ++ tail ≡ field_text default_writer x ++ (fields_text default_writer (y ∷ ys) ++ (13 ∷ 10 ∷ tail))
unfolding is_blank
row_parts x y ys tail = rw (same_field x, same_fields (y ∷ ys))
    (append_assoc (field_text default_writer x ++ fields_text default_writer (y ∷ ys)) (13 ∷ 10 ∷ []) tail
    ∙ append_assoc (field_text default_writer x) (fields_text default_writer (y ∷ ys)) (13 ∷ 10 ∷ tail))

-- the whole record; the line feed is passed with the next one
pub row_read : (x y : List ℕ) (ys : List (List ℕ)) (tail : List ℕ)
    → next_record default_config st.StartRecord [] [] (row_text by_rfc (x ∷ y ∷ ys) ++ tail) ≡ Some (x ∷ y ∷ ys, st.AfterCr, 10 ∷ tail)
row_read x y ys tail =
    let e = behind (y ∷ ys) (10 ∷ tail) in
    let t = others_of (y ∷ ys) (10 ∷ tail) in
    let more = rw e at (rest_read [] x (y ∷ ys) (10 ∷ tail)) in
    rw (row_parts x y ys tail, e) (start x t ∙ field-run [] x 44 t refl ∙ more)
