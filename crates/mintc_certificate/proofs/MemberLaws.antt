-- The words of members, and what the reader finds among them.
use Rattle.std.proofs.Common.{◌≡◌, ℕ, ◌<◌, ◌≤◌, ◌+◌, suc, true, if◌then◌else◌, List, [], ◌∷◌, ◌++◌, length, get_or, drop, drop-cons, map, refl, ap, ◌∙◌, sym, arith, codes}
use Rattle.std.proofs.lemmas.Fmt.{decimal_is_IsNumeral}
use Rattle.std.proofs.lemmas.Grind.{common_steps}
use Rattle.std.proofs.lemmas.List.{drop-map}
use Rattle.std.proofs.lemmas.List.Elements.{All-head, All-tail, All-get_or}
use Rattle.std.proofs.Math.Seq.{drop-append_seam}
use Rattle.std.specs.List.{All}
use Rattle.std.specs.Str.{bytes_eq}
use Rattle.std.specs.Str.Parse.{digits_value}
use Rattle.mintc_text.specs.declared.limits.TheConstants.{MOST_COUNT}
use Rattle.mintc_text.specs.ReadErrors.{Halts}
use Rattle.mintc_timing_text.specs.Fields.{IsCount, number, plain, plain_line}
use Rattle.mintc_timing_text.proofs.SharedFieldsLaws.{and_both, plain_number}
use Rattle.mintc_text.specs.declared.read_error.ReadError.{ReadError}
use Rattle.mintc_text.specs.declared.read_error.ReadError.TheVariants.{Malformed, OutOfMemory}
use Rattle.mintc_certificate.specs.declared.member_lines.MemberWord.{MemberWord}
use Rattle.mintc_certificate.specs.declared.member_lines.MemberWord.TheVariants.{One, Apart, Reach}
use Rattle.mintc_certificate.specs.declared.member_lines.Single.TheVariants as one
use Rattle.mintc_certificate.specs.declared.members.Member.{Member}
use Rattle.mintc_certificate.specs.declared.members.Member.TheVariants as member
use Rattle.mintc_certificate.specs.declared.version.Version.{Version}
use Rattle.mintc_certificate.specs.CertificateText.{member_words, IsCounted, IsMemberLine}
use Rattle.mintc_certificate.specs.MemberWords.{single, member_word, AreNumbers}

-- ---- a member read back from its words

abbrev pub all_words : List MemberWord
all_words = One one.Start ∷ One one.Cycle ∷ One one.Order ∷ One one.Span ∷ One one.Width ∷ Apart ∷ One one.Opening ∷ One one.Opened ∷ Reach ∷ One one.Setup ∷ One one.Bound ∷ []

-- the first of these words that is written so
abbrev pub first_with : List ℕ → List MemberWord → MemberWord
first_with word [] = Apart
first_with word (w ∷ ws) = if bytes_eq word (member_word w) then w else first_with word ws

-- the number of a numeral
abbrev value : List ℕ → ℕ
value digits = digits_value 10 digits

-- the member of a word, with the words after it
abbrev with_words : MemberWord → List (List ℕ) → Member
with_words (One s) ws = single s (value (get_or ws 0 []))
with_words Apart ws = member.Apart (value (get_or ws 0 [])) (value (get_or ws 1 []))
with_words Reach ws = member.Reach (value (get_or ws 0 [])) (value (get_or ws 1 [])) (map value (drop 3 ws))

abbrev read : List (List ℕ) → Member
read ws = with_words (first_with (get_or ws 0 []) all_words) (drop 1 ws)

value_of : (n : ℕ) → IsCount n → value (number n) ≡ n
value_of n few = (decimal_is_IsNumeral n (omega (arith, few))).1

values_of : (path : List ℕ) → All IsCount path → map value (map number path) ≡ path
values_of [] h = refl
values_of (n ∷ path) h =
    let here = value_of n (All-head IsCount n path h) in
    let rest = values_of path (All-tail IsCount n path h) in
    cc

read_back : (m : Member) → IsCounted m → read (member_words m) ≡ m
read_back m h = grind (arith, value_of, values_of)

-- a member's line has one value
pub member_one : (v : Version) (m n : Member) (ws : List (List ℕ)) → IsMemberLine v m ws → IsMemberLine v n ws → m ≡ n
member_one v m n ws h g = sym (read_back m h.counted) ∙ ap read (sym h.spelled ∙ g.spelled) ∙ read_back n g.counted

-- ---- where the words are of no member

pub reach_none : (v : Version) (rest : List (List ℕ)) (j l count : ℕ) (more : List (List ℕ)) → IsCount count → rest ≡ number j ∷ number l ∷ number count ∷ more →
    ((path : List ℕ) → AreNumbers count path more → ⊥) → (m : Member) → IsMemberLine v m (codes "reach" ∷ rest) → ⊥
reach_none v rest j l count more few is none m h =
    let each : (path : List ℕ) → length path ≡ count → All IsCount path → more ≡ map number path → ⊥ = λ path a b e. none path (record { counted = a; each = b; spelled = e }) in
    let same = value_of count few in
    grind (arith, each, value_of)

-- what is said where a form is missing
pub halts_by : {A B : Type 0} → (A → B) → (h : ReadError) → Halts A h → Halts B h
halts_by f Malformed a = f a
halts_by f OutOfMemory a = tt

-- ---- so many numbers

-- The numbers found so far are the first words, and these are left.
pub record AreFound (count : ℕ) (found : List ℕ) (all now : List (List ℕ)) : Type 0 where
  pub counted : length found ≡ count
  pub each : All IsCount found
  pub spelled : all ≡ map number found ++ now

-- where no number comes next, the words aren't so many numbers
pub numbers_none : (i count : ℕ) (found : List ℕ) (all now : List (List ℕ)) → AreFound i found all now → i < count → ((n : ℕ) (more : List (List ℕ)) → 0 ≤ n → n ≤ MOST_COUNT → now ≡ number n ∷ more → ⊥) →
    (numbers : List ℕ) → AreNumbers count numbers all → ⊥
numbers_none i count found all now so low none numbers h =
    let k = length (map number found) in
    let left : now ≡ map number (drop k numbers) = sym (drop-append_seam (map number found) now) ∙ ap (drop k) (sym so.spelled ∙ h.spelled) ∙ drop-map number k numbers in
    let first : drop k numbers ≡ get_or numbers k 0 ∷ drop (suc k) numbers = drop-cons numbers k 0 (grind (arith, common_steps)) in
    none (get_or numbers k 0) (map number (drop (suc k) numbers)) (omega arith) (All-get_or IsCount numbers k 0 (grind (arith, common_steps)) h.each) (left ∙ ap (map number) first)

-- ---- the line of a member has words that can be seen

plain_numbers : (w : List ℕ) (numbers : List ℕ) → plain w ≡ true → All IsCount numbers → plain_line (w ∷ map number numbers) ≡ true
plain_numbers w [] h each = h
plain_numbers w (n ∷ ns) h each =
    let few = All-head IsCount n ns each in
    and_both (plain w) (plain_line (number n ∷ map number ns)) h (plain_numbers (number n) ns (plain_number n (omega (arith, few))) (All-tail IsCount n ns each))

pub plain_words : (m : Member) → IsCounted m → plain_line (member_words m) ≡ true
plain_words m h = grind (arith, plain_number, plain_numbers)
