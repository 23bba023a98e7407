-- The answers to `corners` where files are refused: one corner is the first, with one refusal of its own files.
use Rattle.std.proofs.Common.{◌≡◌, ℕ, zero, suc, ◌<◌, ◌≤◌, List, [], ◌∷◌, ◌++◌, length, map, drop, refl, ap, ◌∙◌, sym, subst, inl, inr, ◌⊎◌, ⊎_elim, arith}
use Rattle.std.proofs.lemmas.Bool.{cases_lt}
use Rattle.std.proofs.lemmas.List.{get_or_past}
use Rattle.std.proofs.lemmas.List.Elements.{All-nil, All-cons, All-tail}
use Rattle.mintc_text.specs.declared.limits.Most.{Most}
use Rattle.mintc_text.specs.declared.refusals.Refusal.{Refusal}
use Rattle.mintc_text.specs.declared.refusals.Refusal.TheVariants as refusal
use Rattle.mintc_text.specs.declared.refusals.Kind.TheVariants as kind
use Rattle.mintc_text.specs.declared.refusals.Role.{Role}
use Rattle.mintc_text.specs.Refusals.{refusal_line}
use Rattle.mintc_build.specs.Laws.{IsLoopRefusal}
use Rattle.mintc_command_answers.specs.Answers.{IsRefusalOn, IsRefusalText, of_contents, of_design, too_long}
use Rattle.mintc_command_answers.specs.Contents.{content_roles}
use Rattle.mintc_command_answers.specs.Corners.{IsFirstRefused, corners_of, elements_together, files_with, of_corner, of_elements}
use Rattle.mintc_command_answers.specs.Laws.{RefusalsAreDetermined}
use Rattle.mintc_command_answers.specs.Sources.{AreShort, IsLengthRefusal, file_at}
use Rattle.mintc_command_answers.specs.declared.command.Command.TheVariants.{OfDesign, Corners}
use Rattle.mintc_command_answers.specs.declared.command.Job.TheVariants.{Optimise}
use Rattle.mintc_command_answers.specs.declared.command.Source.TheVariants.{Files}
use Rattle.mintc_answer_laws.specs.Free.{AreCornersOfArcs, CornerRefusalsAreTheSame, DifferInArcs}

-- In a run with these limits.
module _ (most : Most) where
  -- ---- the files of corners are no longer than the texts that they are taken from

  abbrev IsShort : List ℕ → Type 0
  IsShort bytes = length bytes ≤ most.bytes

  file-short : (texts : List (List ℕ)) (n : ℕ) → AreShort most texts → IsShort (file_at texts n)
  file-short texts n short =
      ⊎_elim
      (λ (below : n < length texts). short n [] below)
      (λ (past : length texts ≤ n).
      let none : file_at texts n ≡ [] = get_or_past texts n [] past in
      let empty : length (file_at texts n) ≡ 0 = ap (λ (xs : List ℕ). length xs) none in
      omega (arith, empty))
      (cases_lt n (length texts))

  files-short : (texts : List (List ℕ)) (delays : List ℕ) → AreShort most texts → IsShort delays → AreShort most (files_with texts delays)
  files-short texts delays short own =
      All-cons IsShort (file_at texts 0) (delays ∷ file_at texts 1 ∷ file_at texts 2 ∷ []) (file-short texts 0 short)
      (All-cons IsShort delays (file_at texts 1 ∷ file_at texts 2 ∷ []) own
      (All-cons IsShort (file_at texts 1) (file_at texts 2 ∷ []) (file-short texts 1 short)
      (All-cons IsShort (file_at texts 2) [] (file-short texts 2 short) (All-nil IsShort))))

  rest-short : (k : ℕ) (texts : List (List ℕ)) → AreShort most texts → AreShort most (drop k texts)
  rest-short zero texts short = short
  rest-short (suc k) [] short = All-nil IsShort
  rest-short (suc k) (bytes ∷ texts) short = rest-short k texts (All-tail IsShort bytes texts short)

  -- ---- the first corner that is refused

  first-low : (corners : List (List (List ℕ))) (c corner : ℕ) (own : Refusal) → IsFirstRefused most corners c corner own → c ≤ corner
  first-low [] c corner own h = absurd h
  first-low (files ∷ corners) c corner own (inl h) = let is = h.0 in omega (arith, is)
  first-low (files ∷ corners) c corner own (inr h) = let rest = first-low corners (suc c) corner own h.2 in omega (arith, rest)

  -- Two refusals of one corner's files are one, but for the arcs of a loop.
  one_own : RefusalsAreDetermined → (texts delays : List (List ℕ)) (c corner : ℕ) (own other : Refusal) → AreShort most texts → AreShort most delays →
      IsFirstRefused most (map (files_with texts) delays) c corner own → IsFirstRefused most (map (files_with texts) delays) c corner other → DifferInArcs own other
  one_own law texts [] c corner own other short rest h g = absurd h
  one_own law texts (d ∷ delays) c corner own other short rest (inl h) (inl g) =
      let files = files-short texts d short (rest zero [] (omega arith)) in
      law most (OfDesign Optimise Files) (files_with texts d) own other (of_contents files (of_design h.1)) (of_contents files (of_design g.1))
  one_own law texts (d ∷ delays) c corner own other short rest (inl h) (inr g) =
      let low = first-low (map (files_with texts) delays) (suc c) corner other g.2 in
      let is = h.0 in
      absurd (omega (arith, low, is))
  one_own law texts (d ∷ delays) c corner own other short rest (inr h) (inl g) =
      let low = first-low (map (files_with texts) delays) (suc c) corner own h.2 in
      let is = g.0 in
      absurd (omega (arith, low, is))
  one_own law texts (d ∷ delays) c corner own other short rest (inr h) (inr g) =
      one_own law texts delays (suc c) corner own other short (All-tail IsShort d delays rest) h.2 g.2

  -- ---- the lines of a refusal

  -- The refusal is of a corner, and its text has the line of the corner's own; or it is of none, and has one line.
  abbrev IsOfCorner : List (List ℕ) → Refusal → List ℕ → Type 0
  IsOfCorner texts refused text =
      (corner : ℕ) × (own : Refusal) × (refused ≡ refusal.Corner corner) × AreShort most texts × IsFirstRefused most (corners_of texts) 1 corner own
      × (text ≡ refusal_line (refusal.Corner corner) ++ refusal_line own)

  abbrev IsOfNone : Refusal → List ℕ → Type 0
  IsOfNone refused text = ((corner : ℕ) → refused ≡ refusal.Corner corner → ⊥) × (IsLoopRefusal refused → ⊥) × (text ≡ refusal_line refused)

  abbrev IsEither : List (List ℕ) → Refusal → List ℕ → Type 0
  IsEither texts refused text = IsOfCorner texts refused text ⊎ IsOfNone refused text

  length-named : (roles : List Role) (files : List (List ℕ)) (refused : Refusal) → IsLengthRefusal most roles files refused → (role : Role) × (refused ≡ refusal.TooLong role)
  length-named [] files refused h = absurd h
  length-named (role ∷ roles) [] refused h = absurd h
  length-named (role ∷ roles) (bytes ∷ files) refused (inl h) = (role, h.1)
  length-named (role ∷ roles) (bytes ∷ files) refused (inr h) = length-named roles files refused h.1

  long_is_none : (role : Role) → ((corner : ℕ) → refusal.TooLong role ≡ refusal.Corner corner → ⊥) × (IsLoopRefusal (refusal.TooLong role) → ⊥)
  long_is_none role = ((λ corner e. cc), (λ (some : IsLoopRefusal (refusal.TooLong role)). let e = some.1 in cc))

  limit_is_none : (n : ℕ) → ((corner : ℕ) → refusal.Limit kind.Elements n ≡ refusal.Corner corner → ⊥) × (IsLoopRefusal (refusal.Limit kind.Elements n) → ⊥)
  limit_is_none n = ((λ corner e. cc), (λ (some : IsLoopRefusal (refusal.Limit kind.Elements n)). let e = some.1 in cc))

  -- what a refusal of that name has
  of_name : (count : ℕ) (texts : List (List ℕ)) (refused named : Refusal) (text : List ℕ) → refused ≡ named →
      (IsRefusalText most (Corners count) texts named text → IsEither texts named text) → IsRefusalText most (Corners count) texts refused text → IsEither texts refused text
  of_name count texts refused named text is have h =
      subst (λ (x : Refusal). IsEither texts x text) (sym is) (have (subst (λ (x : Refusal). IsRefusalText most (Corners count) texts x text) is h))

  either : (count : ℕ) (texts : List (List ℕ)) (refused : Refusal) (text : List ℕ) → IsRefusalOn most (Corners count) texts refused → IsRefusalText most (Corners count) texts refused text → IsEither texts refused text
  either count texts refused text (too_long h) =
      let named = length-named (content_roles (Corners count)) texts refused h in
      let none = long_is_none named.0 in
      of_name count texts refused (refusal.TooLong named.0) text named.1 (λ w. inr (none.0, none.1, w))
  either count texts refused text (of_contents short (of_corner corner own first is)) =
      of_name count texts refused (refusal.Corner corner) text is (λ w. inl (corner, w.0, refl, short, w.1, w.2))
  either count texts refused text (of_contents short (of_elements ts given many)) =
      let none = limit_is_none (elements_together ts) in
      of_name count texts refused (refusal.Limit kind.Elements (elements_together ts)) text many.1 (λ w. inr (none.0, none.1, w))

  corner_number : (a b : ℕ) → refusal.Corner a ≡ refusal.Corner b → a ≡ b
  corner_number a b e = cc

  no_loop_corner : (corner : ℕ) → IsLoopRefusal (refusal.Corner corner) → ⊥
  no_loop_corner corner some = let e = some.1 in cc

  -- Where both are of one refusal.
  same_texts : RefusalsAreDetermined → (texts : List (List ℕ)) (refused other : Refusal) (text another : List ℕ) → refused ≡ other → IsEither texts refused text → IsEither texts other another →
      (text ≡ another) ⊎ AreCornersOfArcs text another
  same_texts law texts refused other text another same (inl a) (inl b) =
      let number : b.0 ≡ a.0 = corner_number b.0 a.0 (sym b.2 ∙ sym same ∙ a.2) in
      let first : IsFirstRefused most (corners_of texts) 1 a.0 b.1 = subst (λ (n : ℕ). IsFirstRefused most (corners_of texts) 1 n b.1) number b.4 in
      let written : another ≡ refusal_line (refusal.Corner a.0) ++ refusal_line b.1 = subst (λ (n : ℕ). another ≡ refusal_line (refusal.Corner n) ++ refusal_line b.1) number b.5 in
      inr (a.0, a.1, b.1, one_own law texts (drop 3 texts) 1 a.0 a.1 b.1 a.3 (rest-short 3 texts a.3) a.4 first, a.5, written)
  same_texts law texts refused other text another same (inl a) (inr b) = absurd (b.0 a.0 (sym same ∙ a.2))
  same_texts law texts refused other text another same (inr a) (inl b) = absurd (a.0 b.0 (same ∙ b.2))
  same_texts law texts refused other text another same (inr a) (inr b) = inl (a.2 ∙ ap refusal_line same ∙ sym b.2)

  -- Neither is of a loop of arcs.
  no_loop_either : (texts : List (List ℕ)) (refused : Refusal) (text : List ℕ) → IsEither texts refused text → IsLoopRefusal refused → ⊥
  no_loop_either texts refused text (inl a) loop = no_loop_corner a.0 (subst IsLoopRefusal a.2 loop)
  no_loop_either texts refused text (inr a) loop = a.1 loop

  one_text : RefusalsAreDetermined → (count : ℕ) (files : List (List ℕ)) (refused other : Refusal) (text another : List ℕ) → IsRefusalOn most (Corners count) files refused → IsRefusalOn most (Corners count) files other →
      IsRefusalText most (Corners count) files refused text → IsRefusalText most (Corners count) files other another → (text ≡ another) ⊎ AreCornersOfArcs text another
  one_text law count files refused other text another a b w v =
      let first = either count files refused text a w in
      ⊎_elim
      (λ (same : refused ≡ other). same_texts law files refused other text another same first (either count files other another b v))
      (λ (loops : IsLoopRefusal refused × IsLoopRefusal other). absurd (no_loop_either files refused text first loops.0))
      (law most (Corners count) files refused other a b)

pub corner_refusals_lem : RefusalsAreDetermined → CornerRefusalsAreTheSame
corner_refusals_lem law most count files text another h g = one_text most law count files h.0 g.0 text another h.1 g.1 h.2 g.2
