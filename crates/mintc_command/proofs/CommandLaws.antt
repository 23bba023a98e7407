-- Words and commands.
use Rattle.std.proofs.Common.{◌≡◌, ◌≤◌, ◌-◌, ◌+◌, ◌*◌, ℕ, suc, List, [], ◌++◌, codes, length, get_or, replicate, take, drop, arith, refl, ap, ◌∙◌, sym, subst, String, length-drop}
use Rattle.std.proofs.lemmas.List.{take_all, drop-map, length-append, length-map, length-replicate}
use Rattle.std.specs.String.{string_bytes}
use Rattle.mintc_text.specs.declared.refusals.Role.TheVariants as role
use Rattle.std.proofs.lemmas.Fmt.{decimal_injective}
use Rattle.mintc_command_answers.specs.Commands.{AreWordsOf, IsNumberInRange, bytes_of, job_word, source_word, roles_of, words_of}
use Rattle.mintc_command_answers.specs.declared.command.Command.{Command}
use Rattle.mintc_command_answers.specs.declared.command.Command.TheVariants.{OfDesign, Sample, Corners}
use Rattle.mintc_command_answers.specs.declared.command.Job.{Job}
use Rattle.mintc_command_answers.specs.declared.command.Job.TheVariants.{Check, Optimise, Verify, Report, Safe, Slack}
use Rattle.mintc_command_answers.specs.declared.command.Source.{Source}
use Rattle.mintc_command_answers.specs.declared.command.Source.TheVariants.{Table, Files, Liberty}

-- A word asks for one job: the words of jobs, `sample` and `corners` differ in their first or third letters.
letters : List ℕ → ℕ
letters word = get_or word 0 0 * 256 + get_or word 2 0

letter : Job → ℕ
letter Check = 25445
letter Optimise = 28532
letter Verify = 30322
letter Report = 29296
letter Safe = 29542
letter Slack = 29537

first_letter : (job : Job) → letters (job_word job) ≡ letter job
unfolding letter letters
first_letter Check = refl
first_letter Optimise = refl
first_letter Verify = refl
first_letter Report = refl
first_letter Safe = refl
first_letter Slack = refl

by_letter : (a b : Job) → letter a ≡ letter b → a ≡ b
unfolding letter
by_letter Check Check e = refl
by_letter Check Optimise e = absurd (omega arith)
by_letter Check Verify e = absurd (omega arith)
by_letter Check Report e = absurd (omega arith)
by_letter Check Safe e = absurd (omega arith)
by_letter Check Slack e = absurd (omega arith)
by_letter Optimise Check e = absurd (omega arith)
by_letter Optimise Optimise e = refl
by_letter Optimise Verify e = absurd (omega arith)
by_letter Optimise Report e = absurd (omega arith)
by_letter Optimise Safe e = absurd (omega arith)
by_letter Optimise Slack e = absurd (omega arith)
by_letter Verify Check e = absurd (omega arith)
by_letter Verify Optimise e = absurd (omega arith)
by_letter Verify Verify e = refl
by_letter Verify Report e = absurd (omega arith)
by_letter Verify Safe e = absurd (omega arith)
by_letter Verify Slack e = absurd (omega arith)
by_letter Report Check e = absurd (omega arith)
by_letter Report Optimise e = absurd (omega arith)
by_letter Report Verify e = absurd (omega arith)
by_letter Report Report e = refl
by_letter Report Safe e = absurd (omega arith)
by_letter Report Slack e = absurd (omega arith)
by_letter Safe Check e = absurd (omega arith)
by_letter Safe Optimise e = absurd (omega arith)
by_letter Safe Verify e = absurd (omega arith)
by_letter Safe Report e = absurd (omega arith)
by_letter Safe Safe e = refl
by_letter Safe Slack e = absurd (omega arith)
by_letter Slack Check e = absurd (omega arith)
by_letter Slack Optimise e = absurd (omega arith)
by_letter Slack Verify e = absurd (omega arith)
by_letter Slack Report e = absurd (omega arith)
by_letter Slack Safe e = absurd (omega arith)
by_letter Slack Slack e = refl

one_job : (a b : Job) → job_word a ≡ job_word b → a ≡ b
one_job a b e = by_letter a b (sym (first_letter a) ∙ ap letters e ∙ first_letter b)

source_letter : Source → ℕ
source_letter Table = 116
source_letter Files = 102
source_letter Liberty = 108

first_source_letter : (source : Source) → get_or (source_word source) 0 0 ≡ source_letter source
unfolding source_letter
first_source_letter Table = refl
first_source_letter Files = refl
first_source_letter Liberty = refl

by_source_letter : (a b : Source) → source_letter a ≡ source_letter b → a ≡ b
unfolding source_letter
by_source_letter Table Table e = refl
by_source_letter Table Files e = absurd (omega arith)
by_source_letter Table Liberty e = absurd (omega arith)
by_source_letter Files Table e = absurd (omega arith)
by_source_letter Files Files e = refl
by_source_letter Files Liberty e = absurd (omega arith)
by_source_letter Liberty Table e = absurd (omega arith)
by_source_letter Liberty Files e = absurd (omega arith)
by_source_letter Liberty Liberty e = refl

one_source : (a b : Source) → source_word a ≡ source_word b → a ≡ b
one_source a b e = by_source_letter a b (sym (first_source_letter a) ∙ ap (λ (w : List ℕ). get_or w 0 0) e ∙ first_source_letter b)

-- The word `sample` asks for no job.
letters_of_sample : letters (codes "sample") ≡ 29549
unfolding letters
letters_of_sample = refl

sample_letter : (job : Job) → letter job ≡ 29549 → ⊥
unfolding letter
sample_letter Check e = omega (arith, e)
sample_letter Optimise e = omega (arith, e)
sample_letter Verify e = omega (arith, e)
sample_letter Report e = omega (arith, e)
sample_letter Safe e = omega (arith, e)
sample_letter Slack e = omega (arith, e)

no_sample_job : (job : Job) → job_word job ≡ codes "sample" → ⊥
no_sample_job job e = sample_letter job (sym (first_letter job) ∙ ap letters e ∙ letters_of_sample)

-- Nor does the word `corners`, which isn't `sample`.
letters_of_corners : letters (codes "corners") ≡ 25458
unfolding letters
letters_of_corners = refl

corners_letter : (job : Job) → letter job ≡ 25458 → ⊥
unfolding letter
corners_letter Check e = omega (arith, e)
corners_letter Optimise e = omega (arith, e)
corners_letter Verify e = omega (arith, e)
corners_letter Report e = omega (arith, e)
corners_letter Safe e = omega (arith, e)
corners_letter Slack e = omega (arith, e)

no_corners_job : (job : Job) → job_word job ≡ codes "corners" → ⊥
no_corners_job job e = corners_letter job (sym (first_letter job) ∙ ap letters e ∙ letters_of_corners)

no_corners_sample : codes "sample" ≡ codes "corners" → ⊥
no_corners_sample e = let both : 29549 ≡ 25458 = sym letters_of_sample ∙ ap letters e ∙ letters_of_corners in omega (arith, both)

-- `corners` names as many files as it has delay files, and three more.
corner_names : (count : ℕ) (names : List (List ℕ)) → length names ≡ length (roles_of (Corners count)) → length names ≡ 3 + count
corner_names count names h =
    let roles : length (replicate count role.Delays) ≡ count = length-replicate count role.Delays in
    let own : length names ≡ suc (suc (suc (length (replicate count role.Delays)))) = h in
    omega (arith, roles, own)

-- The words that a command begins with, with as many names as it has, are those of no other.
one_beginning : (a b : Command) (names others : List (List ℕ)) → IsNumberInRange a → IsNumberInRange b → length names ≡ length (roles_of a) → length others ≡ length (roles_of b) →
    words_of a ++ names ≡ words_of b ++ others → a ≡ b
one_beginning (OfDesign job source) (OfDesign other from) names others x y h g e =
    let jobs : job ≡ other = one_job job other (ap (λ (ws : List (List ℕ)). get_or ws 0 []) e) in
    let sources : source ≡ from = one_source source from (ap (λ (ws : List (List ℕ)). get_or ws 1 []) e) in
    cc
one_beginning (OfDesign job source) (Sample number) names others x y h g e = absurd (no_sample_job job (ap (λ (ws : List (List ℕ)). get_or ws 0 []) e))
one_beginning (OfDesign job source) (Corners count) names others x y h g e = absurd (no_corners_job job (ap (λ (ws : List (List ℕ)). get_or ws 0 []) e))
one_beginning (Sample number) (OfDesign job source) names others x y h g e = absurd (no_sample_job job (sym (ap (λ (ws : List (List ℕ)). get_or ws 0 []) e)))
one_beginning (Sample number) (Sample other) names others x y h g e = ap Sample (decimal_injective number other x y (ap (λ (ws : List (List ℕ)). get_or ws 1 []) e))
one_beginning (Sample number) (Corners count) names others x y h g e = absurd (no_corners_sample (ap (λ (ws : List (List ℕ)). get_or ws 0 []) e))
one_beginning (Corners count) (OfDesign job source) names others x y h g e = absurd (no_corners_job job (sym (ap (λ (ws : List (List ℕ)). get_or ws 0 []) e)))
one_beginning (Corners count) (Sample number) names others x y h g e = absurd (no_corners_sample (sym (ap (λ (ws : List (List ℕ)). get_or ws 0 []) e)))
one_beginning (Corners count) (Corners other) names others x y h g e =
    let same : length names ≡ length others = ap (λ (ws : List (List ℕ)). length (drop 1 ws)) e in
    let a = corner_names count names h in
    let b = corner_names other others g in
    let counts : count ≡ other = omega (arith, same, a, b) in
    ap Corners counts

-- The first words say which command it is, and the others are the names of its files.
pub record AreSaid (command : Command) (names words : List (List ℕ)) : Type 0 where
  pub first : take (length (words_of command)) words ≡ words_of command
  pub rest : drop (length (words_of command)) words ≡ names

pub AreSaid-of : (command : Command) (names words : List (List ℕ)) → AreWordsOf command names words → AreSaid command names words
AreSaid-of (OfDesign job source) names words are = record {
  first = ap (λ (x : List (List ℕ)). take 2 x) are.whole;
  rest = ap (λ (x : List (List ℕ)). drop 2 x) are.whole;
}
AreSaid-of (Sample number) names words are = record {
  first = ap (λ (x : List (List ℕ)). take 2 x) are.whole;
  rest = ap (λ (x : List (List ℕ)). drop 2 x) are.whole;
}
AreSaid-of (Corners count) names words are = record {
  first = ap (λ (x : List (List ℕ)). take 1 x) are.whole;
  rest = ap (λ (x : List (List ℕ)). drop 1 x) are.whole;
}

-- Words are those of one command, with one list of names.
pub one_command : (a b : Command) (names others words : List (List ℕ)) → AreWordsOf a names words → AreWordsOf b others words → a ≡ b
one_command a b names others words h g = one_beginning a b names others h.in_range g.in_range h.count g.count (sym h.whole ∙ g.whole)

-- So many words and more, as there are words that a command begins with.
pub enough_words : (command : Command) (names words : List (List ℕ)) → AreWordsOf command names words → length (words_of command) ≤ length words
enough_words command names words h =
    let count : length words ≡ length (words_of command) + length names = ap (λ (ws : List (List ℕ)). length ws) h.whole ∙ length-append (words_of command) names in
    omega (arith, count)

-- The names of a command's files are the words after those that it begins with, as a slice has them; so they are where the
-- command is known by other names.
pub read-names : {Z : Type 0} (words : List (String Z)) (n : ℕ) (own command : Command) (own_names names : List (List ℕ)) → n ≡ length (words_of own) →
    AreWordsOf own own_names (bytes_of words) → AreWordsOf command names (bytes_of words) → bytes_of (take (length words - n) (drop n words)) ≡ names
read-names {Z} words n own command own_names names is h g =
    let same : own ≡ command = one_command own command own_names names (bytes_of words) h g in
    let own_rest : drop n (bytes_of words) ≡ names =
    subst (λ (m : ℕ). drop m (bytes_of words) ≡ names) (sym (is ∙ ap (λ (x : Command). length (words_of x)) same)) (AreSaid-of command names (bytes_of words) g).rest in
    let count : length (drop n words) ≡ length words - n = length-drop n words in
    let whole : take (length words - n) (drop n words) ≡ drop n words = take_all (length words - n) (drop n words) (omega arith) in
    ap (λ (ws : List (String Z)). bytes_of ws) whole ∙ sym (drop-map string_bytes n words) ∙ own_rest

-- so there are as many of these words as names
pub read-count : {Z : Type 0} (words : List (String Z)) (n : ℕ) (own command : Command) (own_names names : List (List ℕ)) → n ≡ length (words_of own) →
    AreWordsOf own own_names (bytes_of words) → AreWordsOf command names (bytes_of words) → length (take (length words - n) (drop n words)) ≡ length names
read-count {Z} words n own command own_names names is h g =
    sym (length-map (take (length words - n) (drop n words)) string_bytes) ∙ ap (λ (ns : List (List ℕ)). length ns) (read-names words n own command own_names names is h g)
