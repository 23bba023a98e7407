-- `corners` is answered where files have systems, and a few systems a joint optimum.
use Rattle.std.proofs.Common.{◌≡◌, ◌<◌, ◌≤◌, ℕ, suc, List, [], ◌∷◌, length, map, drop, refl, sym, subst, inl, inr, ◌⊎◌, ⊎_elim, arith}
use Rattle.std.specs.List.{All}
use Rattle.std.proofs.lemmas.Bool.{cases_lt}
use Rattle.std.proofs.lemmas.List.{get_or_past}
use Rattle.std.proofs.lemmas.List.Elements.{All-nil, All-cons}
use Rattle.mintc_text.specs.Limits.{AreLimits}
use Rattle.mintc_text.specs.Lines.{text_of}
use Rattle.mintc_text.specs.declared.limits.Most.{Most}
use Rattle.mintc_text.specs.declared.refusals.Kind.TheVariants as kind
use Rattle.mintc_text.specs.declared.refusals.Refusal.{Refusal}
use Rattle.mintc_text.specs.declared.refusals.Refusal.TheVariants as refusal
use Rattle.mintc_timing.specs.Design.{Timing}
use Rattle.mintc_timing.specs.Order.{IsTiming}
use Rattle.mintc_build.specs.Laws.{CornersDifferInNumbers}
use Rattle.mintc_corners.specs.declared.certificate.CornerCertificate.{CornerCertificate}
use Rattle.mintc_corners.specs.declared.certificate.CornerCertificate.TheVariants as certificate
use Rattle.mintc_corners.specs.CornerOptimum.{IsOptimumOf}
use Rattle.mintc_corners.specs.CornerText.{corner_lines}
use Rattle.mintc_corners.specs.Laws.{AreSystems}
use Rattle.mintc_corners_laws.specs.Existence.{JointOptimaExist}
use Rattle.mintc_command_answers.specs.Answers.{IsDefined, of_contents, too_long}
use Rattle.mintc_command_answers.specs.Commands.{roles_of}
use Rattle.mintc_command_answers.specs.Corners.{AreGiven, IsFirstRefused, corner_status, corners_of, elements_together, files_with, of_corner, of_elements}
use Rattle.mintc_command_answers.specs.Sources.{AreShort, Gives, IsLengthRefusal, IsSourceRefused, file_at}
use Rattle.mintc_command_answers.specs.declared.command.Command.TheVariants.{Corners}
use Rattle.mintc_command_answers.specs.declared.command.Source.TheVariants.{Files}
use Rattle.mintc_answer_laws.proofs.SharedCornerLaws.{all_elements, are_corners, as_many}
use Rattle.mintc_existence.specs.Commands.{CornersAreAnswered, HasTimings, IsAnswered}
use Rattle.mintc_existence.proofs.CommandLaws.{lengths}

module _ (most : Most) where
  -- a file of those, or nothing past their end, isn't too long
  short_at : (files : List (List ℕ)) (n : ℕ) → AreShort most files → length (file_at files n) ≤ most.bytes
  short_at files n short =
      ⊎_elim
      (λ (inside : n < length files). short n [] inside)
      (λ (past : length files ≤ n). subst (λ (bytes : List ℕ). length bytes ≤ most.bytes) (sym (get_or_past files n [] past)) (omega arith))
      (cases_lt n (length files))

  abbrev Short : List ℕ → Type 0
  Short bytes = length bytes ≤ most.bytes

  corner_short : (files : List (List ℕ)) (delays : List ℕ) → AreShort most files → Short delays → AreShort most (files_with files delays)
  corner_short files delays short own =
      All-cons Short (file_at files 0) (delays ∷ file_at files 1 ∷ file_at files 2 ∷ []) (short_at files 0 short)
      (All-cons Short delays (file_at files 1 ∷ file_at files 2 ∷ []) own
      (All-cons Short (file_at files 1) (file_at files 2 ∷ []) (short_at files 1 short) (All-cons Short (file_at files 2) [] (short_at files 2 short) (All-nil Short))))

  -- All corners give systems, or one is the first that is refused.
  abbrev IsGivenOrRefused : List (List (List ℕ)) → ℕ → Type 0
  IsGivenOrRefused corners c = ((ts : List Timing) × AreGiven most corners ts × AreSystems ts) ⊎ ((corner : ℕ) × (own : Refusal) × IsFirstRefused most corners c corner own)

  one_more : (files : List (List ℕ)) (corners : List (List (List ℕ))) (c : ℕ) (t : Timing) → Gives most Files files t → IsTiming t.flat t.order t.pairs → IsGivenOrRefused corners (suc c) → IsGivenOrRefused (files ∷ corners) c
  one_more files corners c t gives kept (inl (ts, given, systems)) = inl (t ∷ ts, (gives, given), (gives.accepted.limits, kept, systems))
  one_more files corners c t gives kept (inr (corner, own, first)) = inr (corner, own, inr (t, gives, first))

  given_or_refused : HasTimings most Files → (files : List (List ℕ)) (delays : List (List ℕ)) (c : ℕ) → AreShort most files → All Short delays → IsGivenOrRefused (map (files_with files) delays) c
  given_or_refused timings files [] c short each = inl ([], tt, tt)
  given_or_refused timings files (d ∷ delays) c short each =
      ⊎_elim
      (λ (given : (t : Timing) × Gives most Files (files_with files d) t × IsTiming t.flat t.order t.pairs).
      one_more (files_with files d) (map (files_with files) delays) c given.0 given.1 given.2
      (given_or_refused timings files delays (suc c) short (λ k e inside. each (suc k) e (omega (arith, inside)))))
      (λ (refused : (own : Refusal) × IsSourceRefused most Files (files_with files d) own). inr (c, refused.0, inl (refl, refused.1)))
      (timings (files_with files d) (corner_short files d short (each 0 d (omega arith))))

  -- An optimum of the corners is the command's answer.
  answered : (count : ℕ) (files : List (List ℕ)) (ts : List Timing) (c : CornerCertificate) → AreShort most files → AreGiven most (corners_of files) ts → elements_together ts ≤ most.elements → IsOptimumOf ts c →
      IsDefined most (Corners count) files (corner_status c) (text_of (corner_lines c))
  answered count files ts (certificate.Least s d chain) short given few optimum = (short, (ts, given, few, (certificate.Least s d chain, optimum, refl, refl)))
  answered count files ts (certificate.Never chain) short given few optimum = (short, (ts, given, few, (certificate.Never chain, optimum, refl, refl)))

  on_systems : CornersDifferInNumbers → JointOptimaExist → AreLimits most → (count : ℕ) (files : List (List ℕ)) → length files ≡ length (roles_of (Corners count)) → 2 ≤ count → count ≤ 4 → AreShort most files →
      (ts : List Timing) → AreGiven most (corners_of files) ts → AreSystems ts → IsAnswered most (Corners count) files
  on_systems numbers optima limits count files many low high short ts given systems =
      ⊎_elim
      (λ (over : most.elements < elements_together ts). inl (refusal.Limit kind.Elements (elements_together ts), of_contents short (of_elements ts given (over, refl))))
      (λ (few : elements_together ts ≤ most.elements).
      let long : length ts ≡ count = as_many most files count ts many given in
      let corners = are_corners numbers most files (drop 3 files) ts (omega (arith, long, low)) given in
      let found = optima ts (omega (arith, long, high)) corners (omega (arith, all_elements ts corners, few, limits.elements)) systems in
      inr (corner_status found.0, text_of (corner_lines found.0), answered count files ts found.0 short given few found.1))
      (cases_lt most.elements (elements_together ts))

pub corners_are_answered_lem : CornersDifferInNumbers → JointOptimaExist → CornersAreAnswered
corners_are_answered_lem numbers optima most limits timings count files many low high =
    ⊎_elim
    (λ (short : AreShort most files).
    ⊎_elim
    (λ (given : (ts : List Timing) × AreGiven most (corners_of files) ts × AreSystems ts). on_systems most numbers optima limits count files many low high short given.0 given.1 given.2)
    (λ (refused : (corner : ℕ) × (own : Refusal) × IsFirstRefused most (corners_of files) 1 corner own).
    inl (refusal.Corner refused.0, of_contents short (of_corner refused.0 refused.1 refused.2 refl)))
    (given_or_refused most timings files (drop 3 files) 1 short (dropped most files short)))
    (λ (long : (refused : Refusal) × IsLengthRefusal most (roles_of (Corners count)) files refused). inl (long.0, too_long long.1))
    (lengths most (roles_of (Corners count)) files many)
  where
    dropped : (most : Most) (files : List (List ℕ)) → AreShort most files → All (λ (bytes : List ℕ). length bytes ≤ most.bytes) (drop 3 files)
    dropped most [] short = short
    dropped most (a ∷ []) short = All-nil (λ (bytes : List ℕ). length bytes ≤ most.bytes)
    dropped most (a ∷ b ∷ []) short = All-nil (λ (bytes : List ℕ). length bytes ≤ most.bytes)
    dropped most (a ∷ b ∷ c ∷ files) short = λ k d inside. short (suc (suc (suc k))) d (omega (arith, inside))
