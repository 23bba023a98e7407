-- What is written of a table is what is read of it.
use Rattle.std.proofs.Common.{◌≡◌, ◌++◌, ◌∷◌, [], ◌∙◌, ◌≤◌, ◌+◌, ℕ, zero, suc, List, length, map, refl, sym, ap, arith, append_assoc, length-append}
use Rattle.std.specs.Prelude.{⊤}
use Rattle.std.proofs.lemmas.List.{append-nil}
use Rattle.csv.specs.Machine.{next_record}
use Rattle.csv.specs.Reading.{default_config, records_from}
use Rattle.csv.specs.Writing.{row_text}
use Rattle.csv.specs.declared.parser.State.TheVariants as st
use Rattle.mintcx_csv.specs.Tables.{IsTable, by_rfc, text_of}
use Rattle.mintcx_csv.proofs.ReadingLaws.{row_read}

-- each row has several fields
abbrev pub HasSeveral : List (List ℕ) → Type 0
HasSeveral (x ∷ y ∷ ys) = ⊤
HasSeveral (x ∷ []) = ⊥
HasSeveral [] = ⊥

abbrev pub AllHaveSeveral : List (List (List ℕ)) → Type 0
AllHaveSeveral [] = ⊤
AllHaveSeveral (row ∷ rows) = HasSeveral row × AllHaveSeveral rows

-- the line feed behind a record is passed with the next one
passed : (n : ℕ) (text : List ℕ) → records_from default_config n st.AfterCr (10 ∷ text) ≡ records_from default_config n st.StartRecord text
unfolding records_from next_record
passed zero text = refl
passed (suc n) text = refl

-- the rows, by as many reads as there are or more
read_all : (n : ℕ) (rows : List (List (List ℕ))) → length rows ≤ n → AllHaveSeveral rows → records_from default_config n st.StartRecord (text_of rows) ≡ rows
unfolding records_from next_record
read_all zero [] h s = refl
read_all (suc n) [] h s = refl
read_all zero (row ∷ rows) h s = absurd (omega (arith, h))
read_all (suc n) ([] ∷ rows) h s = absurd s.0
read_all (suc n) ((x ∷ []) ∷ rows) h s = absurd s.0
read_all (suc n) ((x ∷ y ∷ ys) ∷ rows) h s =
    rw (row_read x y ys (text_of rows))
    (ap (λ (t : List (List (List ℕ))). (x ∷ y ∷ ys) ∷ t) (passed n (text_of rows) ∙ read_all n rows (omega (arith, h)) s.1))

-- each record has a byte, that of its end
some_bytes : (row : List (List ℕ)) → 1 ≤ length (row_text by_rfc row)
some_bytes row = grind (arith, length-append)

few_rows : (rows : List (List (List ℕ))) → length rows ≤ length (text_of rows)
few_rows [] = omega arith
few_rows (row ∷ rows) = omega (arith, some_bytes row, few_rows rows, length-append (row_text by_rfc row) (text_of rows))

-- a text of rows with several fields each is their table
pub is_table : (rows : List (List (List ℕ))) (text : List ℕ) → text ≡ text_of rows → AllHaveSeveral rows → IsTable rows text
is_table rows text e several = record {
  read = rw e (read_all (length (text_of rows) + 1) rows (omega (arith, few_rows rows)) several);
  written = e;
}

-- so are rows that are made of items
pub made_of : {X : Type 0} (f : X → List (List ℕ)) → ((x : X) → HasSeveral (f x)) → (xs : List X) → AllHaveSeveral (map f xs)
made_of f several [] = tt
made_of f several (x ∷ xs) = (several x, made_of f several xs)

-- the text of some rows and one more
more_text : (rows : List (List (List ℕ))) (row : List (List ℕ)) → text_of rows ++ row_text by_rfc row ≡ text_of (rows ++ row ∷ [])
more_text [] row = sym (append-nil (row_text by_rfc row))
more_text (first ∷ rows) row = append_assoc (row_text by_rfc first) (text_of rows) (row_text by_rfc row) ∙ ap (λ (t : List ℕ). row_text by_rfc first ++ t) (more_text rows row)

-- a row more
pub one_more : (old new : List ℕ) (begun row : List (List ℕ)) (done : List (List (List ℕ))) → old ≡ text_of (begun ∷ done) → new ≡ old ++ row_text by_rfc row →
    new ≡ text_of (begun ∷ (done ++ row ∷ []))
one_more old new begun row done e h = rw (h, e) (more_text (begun ∷ done) row)

-- a row more behind others
pub next_row : (old now new : List ℕ) (row : List (List ℕ)) (done : List (List (List ℕ))) → now ≡ old ++ text_of done → new ≡ now ++ row_text by_rfc row →
    new ≡ old ++ text_of (done ++ row ∷ [])
next_row old now new row done e h =
    rw (h, e) (append_assoc old (text_of done) (row_text by_rfc row) ∙ ap (λ (t : List ℕ). old ++ t) (more_text done row))

-- a head line and the rows below it
pub whole_table : (begun old new : List ℕ) (head : List (List ℕ)) (rows : List (List (List ℕ))) → begun ≡ [] → old ≡ begun ++ row_text by_rfc head → new ≡ old ++ text_of rows →
    new ≡ text_of (head ∷ rows)
whole_table begun old new head rows e g h = rw (h, g, e) refl

-- a head line and one row
pub two_rows : (begun old new : List ℕ) (head row : List (List ℕ)) → begun ≡ [] → old ≡ begun ++ row_text by_rfc head → new ≡ old ++ row_text by_rfc row →
    new ≡ text_of (head ∷ row ∷ [])
two_rows begun old new head row e g h = whole_table begun old new head (row ∷ []) e g (h ∙ ap (λ (t : List ℕ). old ++ t) (sym (append-nil (row_text by_rfc row))))

-- four fields as a row
pub four_fields : {a b c d p q r s : List ℕ} → a ≡ p → b ≡ q → c ≡ r → d ≡ s → a ∷ b ∷ c ∷ d ∷ [] ≡ p ∷ q ∷ r ∷ s ∷ []
four_fields e f g h = rw (e, f, g, h) refl
