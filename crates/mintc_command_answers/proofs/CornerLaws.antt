-- Corners: what is given of them, and what is refused.
use Rattle.std.proofs.Common.{◌≡◌, ◌≤◌, ◌<◌, ◌+◌, ◌-◌, ◌*◌, ℕ, zero, suc, List, [], ◌∷◌, ◌++◌, length, get_or, replicate, take, drop, map, flat_map, inl, inr, refl, ap, ◌∙◌, sym, subst, arith, length-drop, Result, Ok, Err, IfOk}
use Rattle.std.proofs.Math.Nat.{suc-mul}
use Rattle.std.proofs.lemmas.List.{length-append, length-map, length-replicate, length-take-le, take_all}
use Rattle.std.proofs.lemmas.Slice.Zip.{AllZip-long}
use Rattle.mintc_text.specs.declared.limits.Most.{Most}
use Rattle.mintc_text.specs.Lines.{text_of}
use Rattle.mintc_text.specs.Refusals.{refusal_line}
use Rattle.mintc_text.specs.declared.refusals.Refusal.{Refusal}
use Rattle.mintc_text.specs.declared.refusals.Refusal.TheVariants as refusal
use Rattle.mintc_text.specs.declared.refusals.Kind.TheVariants as kind
use Rattle.mintc_text.specs.declared.refusals.Role.TheVariants as role
use Rattle.mintc_timing.specs.declared.parts.Element.{Element}
use Rattle.mintc_timing.specs.Design.{Timing, element_count}
use Rattle.mintc_build.specs.Laws.{CornersDifferInNumbers}
use Rattle.mintc_corners.specs.Joint.{AreCorners}
use Rattle.mintc_timing.specs.Numbers.{unnumbered}
use Rattle.mintc_corners.specs.CornerOptimum.{IsOptimumOf}
use Rattle.mintc_corners.specs.CornerText.{corner_lines}
use Rattle.mintc_corners.specs.declared.certificate.CornerCertificate.{CornerCertificate}
use Rattle.mintc_corners.specs.declared.certificate.CornerCertificate.TheVariants.{Least, Never}
use Rattle.mintc_command_answers.specs.Answers.{IsAnswerOn, of_contents}
use Rattle.mintc_command_answers.specs.Contents.{content_roles}
use Rattle.mintc_command_answers.specs.Corners.{AreGiven, AreTooMany, HaveStopped, IsCornerStop, IsCornersAnswer, IsFirstRefused, of_corner, of_elements, corner_status, corners_of, elements_together, files_with}
use Rattle.mintc_command_answers.specs.Sources.{AreShort, Gives, IsSourceRefused}
use Rattle.mintc_command_answers.specs.declared.answer.Answer.{Answer}
use Rattle.mintc_command_answers.specs.declared.command.Command.TheVariants.{Corners}
use Rattle.mintc_command_answers.specs.declared.corners_answers.CornerStop.{CornerStop}
use Rattle.mintc_command_answers.specs.declared.corners_answers.CornerStop.TheVariants as stop
use Rattle.mintc_command_answers.specs.declared.command.Source.TheVariants.{Files}
use Rattle.mintc_command_answers.specs.declared.status.Status.{Status}
use Rattle.mintc_command_answers.specs.declared.status.Status.TheVariants.{Refused}

-- Corners have as many elements each, since they differ in numbers alone.
rest_elements : (t : Timing) (ts : List Timing) → AreCorners (t ∷ ts) → length (flat_map (λ (u : Timing). u.flat.elements) ts) ≡ length ts * element_count t.flat
rest_elements t [] corners = omega arith
rest_elements t (u ∷ ts) corners =
    let own : length u.flat.elements ≡ element_count t.flat =
    sym (length-map u.flat.elements unnumbered) ∙ ap (λ (es : List Element). length es) corners.0.elements ∙ length-map t.flat.elements unnumbered in
    let rest = rest_elements t ts corners.1 in
    let count : length (u.flat.elements ++ flat_map (λ (x : Timing). x.flat.elements) ts) ≡ length u.flat.elements + length (flat_map (λ (x : Timing). x.flat.elements) ts) =
    length-append u.flat.elements (flat_map (λ (x : Timing). x.flat.elements) ts) in
    let product : suc (length ts) * element_count t.flat ≡ length ts * element_count t.flat + element_count t.flat = suc-mul (length ts) (element_count t.flat) in
    omega (arith, own, rest, count, product)

pub elements-together : (ts : List Timing) → AreCorners ts → length (flat_map (λ (u : Timing). u.flat.elements) ts) ≡ elements_together ts
elements-together [] corners = absurd corners
elements-together (t ∷ ts) corners =
    let count : length (t.flat.elements ++ flat_map (λ (x : Timing). x.flat.elements) ts) ≡ length t.flat.elements + length (flat_map (λ (x : Timing). x.flat.elements) ts) =
    length-append t.flat.elements (flat_map (λ (x : Timing). x.flat.elements) ts) in
    let rest = rest_elements t ts corners in
    let product : suc (length ts) * element_count t.flat ≡ length ts * element_count t.flat + element_count t.flat = suc-mul (length ts) (element_count t.flat) in
    omega (arith, rest, count, product)

-- The delay files are the texts from the fourth on, as a slice has them.
pub delay_files : (texts : List (List ℕ)) → take (length texts - 3) (drop 3 texts) ≡ drop 3 texts
delay_files texts = let count : length (drop 3 texts) ≡ length texts - 3 = length-drop 3 texts in take_all (length texts - 3) (drop 3 texts) (omega arith)

-- In a run with these limits.
module _ (most : Most) where
  -- One corner more gives a timing.
  given_next : (texts delays : List (List ℕ)) (n : ℕ) (ts : List Timing) (own : List ℕ) (t : Timing) → n < length delays → own ≡ get_or delays n [] →
      AreGiven most (map (files_with texts) (take n delays)) ts → Gives most Files (files_with texts own) t → AreGiven most (map (files_with texts) (take (suc n) delays)) (ts ++ t ∷ [])
  given_next texts [] n ts own t below is given h = absurd (omega (arith, below))
  given_next texts (d ∷ delays) zero [] own t below is given h = (subst (λ (x : List ℕ). Gives most Files (files_with texts x) t) is h, tt)
  given_next texts (d ∷ delays) zero (u ∷ ts) own t below is given h = absurd given
  given_next texts (d ∷ delays) (suc n) [] own t below is given h = absurd given
  given_next texts (d ∷ delays) (suc n) (u ∷ ts) own t below is given h = (given.0, given_next texts delays n ts own t (omega (arith, below)) is given.1 h)

  pub given_more : (texts delays : List (List ℕ)) (n : ℕ) (ts now : List Timing) (own : List ℕ) (t : Timing) → n < length delays → own ≡ get_or delays n [] → now ≡ ts ++ t ∷ [] →
      AreGiven most (map (files_with texts) (take n delays)) ts → Gives most Files (files_with texts own) t → AreGiven most (map (files_with texts) (take (n + 1) delays)) now
  given_more texts delays n ts now own t below is pushed given h =
      let next : suc n ≡ n + 1 = omega arith in
      let P : ℕ → Type 0 = λ m. AreGiven most (map (files_with texts) (take m delays)) now in
      let Q : List Timing → Type 0 = λ x. AreGiven most (map (files_with texts) (take (suc n) delays)) x in
      subst P next (subst Q (sym pushed) (given_next texts delays n ts own t below is given h))

  -- A corner that is refused, after some that aren't, is the first.
  pub first_refused : (texts delays : List (List ℕ)) (n c corner : ℕ) (ts : List Timing) (own : List ℕ) (refused : Refusal) → n < length delays → corner ≡ c + n →
      own ≡ get_or delays n [] → AreGiven most (map (files_with texts) (take n delays)) ts → IsSourceRefused most Files (files_with texts own) refused →
      IsFirstRefused most (map (files_with texts) delays) c corner refused
  first_refused texts [] n c corner ts own refused below at is given h = absurd (omega (arith, below))
  first_refused texts (d ∷ delays) zero c corner ts own refused below at is given h =
      inl (omega (arith, at), subst (λ (x : List ℕ). IsSourceRefused most Files (files_with texts x) refused) is h)
  first_refused texts (d ∷ delays) (suc n) c corner [] own refused below at is given h = absurd given
  first_refused texts (d ∷ delays) (suc n) c corner (t ∷ ts) own refused below at is given h =
      inr (t, given.0, first_refused texts delays n (suc c) corner ts own refused (omega (arith, below)) (omega (arith, at)) is given.1 h)

  -- There are as many timings as corners.
  pub as_many_corners : (texts delays : List (List ℕ)) (n : ℕ) (ts : List Timing) → n ≤ length delays → AreGiven most (map (files_with texts) (take n delays)) ts → length ts ≡ n
  as_many_corners texts delays n ts below given =
      AllZip-long (Gives most Files) (map (files_with texts) (take n delays)) ts given ∙ length-map (take n delays) (files_with texts) ∙ length-take-le n delays below

  -- Corners differ in numbers alone.
  alike : CornersDifferInNumbers → (texts : List (List ℕ)) (d : List ℕ) (delays : List (List ℕ)) (t : Timing) (ts : List Timing) → Gives most Files (files_with texts d) t →
      AreGiven most (map (files_with texts) delays) ts → AreCorners (t ∷ ts)
  alike law texts d [] t [] gives given = tt
  alike law texts d [] t (u ∷ ts) gives given = absurd given
  alike law texts d (e ∷ delays) t [] gives given = tt
  alike law texts d (e ∷ delays) t (u ∷ ts) gives given =
      (law most _ _ _ _ _ t.flat u.flat gives.design given.0.design, alike law texts d delays t ts gives given.1)

  pub AreCorners-given : CornersDifferInNumbers → (texts delays : List (List ℕ)) (ts : List Timing) → 1 ≤ length ts → AreGiven most (map (files_with texts) delays) ts → AreCorners ts
  AreCorners-given law texts delays [] some given = absurd (omega (arith, some))
  AreCorners-given law texts [] (t ∷ ts) some given = absurd given
  AreCorners-given law texts (d ∷ delays) (t ∷ ts) some given = alike law texts d delays t ts given.0 given.1

  pub AreGiven-all : (texts sliced : List (List ℕ)) (ts : List Timing) → sliced ≡ drop 3 texts → AreGiven most (map (files_with texts) sliced) ts → AreGiven most (corners_of texts) ts
  AreGiven-all texts sliced ts whole given = subst (λ (x : List (List ℕ)). AreGiven most (map (files_with texts) x) ts) whole given

  pub as_many_all : (texts : List (List ℕ)) (count : ℕ) (ts : List Timing) → length texts ≡ length (content_roles (Corners count)) → AreGiven most (corners_of texts) ts → length ts ≡ count
  as_many_all texts count ts many given =
      let roles : length (replicate count role.Delays) ≡ count = length-replicate count role.Delays in
      let all : length texts ≡ suc (suc (suc (length (replicate count role.Delays)))) = many in
      let rest : length (drop 3 texts) ≡ length texts - 3 = length-drop 3 texts in
      let same = AllZip-long (Gives most Files) (corners_of texts) ts given ∙ length-map (drop 3 texts) (files_with texts) in
      omega (arith, roles, all, rest, same)

  -- what stops the corners of the delays stops those of the texts
  pub stopped_corners : (texts sliced : List (List ℕ)) (s : CornerStop) → sliced ≡ drop 3 texts → IsCornerStop most (map (files_with texts) sliced) 1 s → HaveStopped most texts s
  stopped_corners texts sliced (stop.Refused corner own) whole h = subst (λ (x : List (List ℕ)). IsFirstRefused most (map (files_with texts) x) 1 corner own) whole h
  stopped_corners texts sliced (stop.TooMany refused) whole h = absurd h
  stopped_corners texts sliced stop.OutOfMemory whole h = tt

  -- The answers of `corners`: of a corner that is refused, of too many elements, and of an optimum.
  pub refused_corner : {E : Type 0} (r : Result Answer E) (count : ℕ) (texts : List (List ℕ)) (corner : ℕ) (own : Refusal) → AreShort most texts → IsFirstRefused most (corners_of texts) 1 corner own →
      IfOk r (λ (a : Answer). a.status ≡ Refused) → IfOk r (λ (a : Answer). a.text ≡ refusal_line (refusal.Corner corner) ++ refusal_line own) →
      IfOk r (λ (a : Answer). IsAnswerOn most (Corners count) texts a.status a.text)
  refused_corner (Err e) count texts corner own short first s t = tt
  refused_corner (Ok a) count texts corner own short first s t =
      let answer : IsAnswerOn most (Corners count) texts Refused a.text = (refusal.Corner corner, of_contents short (of_corner corner own first refl), (own, first, t)) in
      subst (λ (x : Status). IsAnswerOn most (Corners count) texts x a.text) (sym s) answer

  pub refused_number : {E : Type 0} (r : Result Answer E) (count : ℕ) (texts : List (List ℕ)) (ts : List Timing) (refused : Refusal) → AreShort most texts → AreGiven most (corners_of texts) ts →
      AreTooMany most ts refused → IfOk r (λ (a : Answer). a.status ≡ Refused) → IfOk r (λ (a : Answer). a.text ≡ refusal_line refused) →
      IfOk r (λ (a : Answer). IsAnswerOn most (Corners count) texts a.status a.text)
  refused_number (Err e) count texts ts refused short given many s t = tt
  refused_number (Ok a) count texts ts refused short given many s t =
      let limit : Refusal = refusal.Limit kind.Elements (elements_together ts) in
      let line : a.text ≡ refusal_line limit = t ∙ ap refusal_line many.1 in
      let answer : IsAnswerOn most (Corners count) texts Refused a.text = (limit, of_contents short (of_elements ts given (many.0, refl)), line) in
      subst (λ (x : Status). IsAnswerOn most (Corners count) texts x a.text) (sym s) answer

  on_certificate : (count : ℕ) (texts : List (List ℕ)) (ts : List Timing) (c : CornerCertificate) (text : List ℕ) → AreShort most texts → AreGiven most (corners_of texts) ts → elements_together ts ≤ most.elements →
      IsOptimumOf ts c → text ≡ text_of (corner_lines c) → IsAnswerOn most (Corners count) texts (corner_status c) text
  on_certificate count texts ts (Least s ds m) text short given few optimum written = (short, (ts, given, few, (Least s ds m, optimum, refl, written)))
  on_certificate count texts ts (Never m) text short given few optimum written = (short, (ts, given, few, (Never m, optimum, refl, written)))

  pub answered_corners : {E : Type 0} (r : Result Answer E) (count : ℕ) (texts : List (List ℕ)) (ts : List Timing) → AreShort most texts → AreGiven most (corners_of texts) ts → elements_together ts ≤ most.elements →
      IfOk r (λ (a : Answer). IsCornersAnswer ts a.status a.text) → IfOk r (λ (a : Answer). IsAnswerOn most (Corners count) texts a.status a.text)
  answered_corners (Err e) count texts ts short given few h = tt
  answered_corners (Ok a) count texts ts short given few (c, optimum, s, t) =
      subst (λ (x : Status). IsAnswerOn most (Corners count) texts x a.text) (sym s) (on_certificate count texts ts c a.text short given few optimum t)
