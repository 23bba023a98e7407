-- A text in form tells by edge what its delays say.
use Rattle.std.proofs.Common.{◌≡◌, ℕ, ◌+◌, Bool, true, false, ◌||◌, if◌then◌else◌, List, [], ◌∷◌, ◌++◌, Option, Some, None, option_map, option_and_then, Result, Ok, Err, codes, refl, sym, ap, subst, ◌∙◌, append_assoc, append-nil}
use Rattle.mintc_text.specs.declared.refusals.Refusal.{Refusal}
use Rattle.mintc_sdf_tokens.specs.Tokens.{Token, tokens_of}
use Rattle.mintc_sdf_tokens.specs.Items.{Items, none, leaf, quoted, list, items, after}
use Rattle.mintc_sdf_tokens.specs.Words.{is_key}
use Rattle.mintc_sdf.specs.declared.delays.Delay.{Delay}
use Rattle.mintc_sdf.specs.declared.delays.Place.{Place}
use Rattle.mintc_sdf.specs.Forms.{with_items, Claim, check, each, each_def, delay_item, part, celltype, instance, place_of, Cell, cell_with, one_list, cell, is_passed_header, Settings, settings, divider_of, scale_of, header}
use Rattle.mintc_sdf.specs.Texts.{Said, Progress as Known, said_by, after_cell, after_header, after_entry, go_on, entries, whole, is_end, after_head, said_behind, first_fault, delays_from, judged, reading, start as known}
use Rattle.mintc_sdf_edges.specs.declared.delays.EdgeDelay.{EdgeDelay}
use Rattle.mintc_sdf_edges.specs.Telling.{Progress, with_scale, is_block, after_items, after_list}
use Rattle.mintc_sdf_edges.specs.Texts.{start, told_behind, told_in}
use Rattle.mintc_sdf_edges.specs.Laws.{AreMerged, Merge}
use Rattle.mintc_sdf_edges.proofs.ValueLaws.{apart}
use Rattle.mintc_sdf_edges.proofs.MergedLaws.{Tells, tells-same, tells-then, tells-nothing, delays-append, AreSound, sound-apart, merged-append}
use Rattle.mintc_sdf_edges.proofs.FormLaws.{like-block, scale-list, sayings, Quiet, quiet, quiet-tells, def-tells, check-tells}

-- a block
block-list : (p : Progress) (k : List ℕ) (is : Items) → is_block k ≡ true → after_list p (leaf k is) ≡ after_items p is
unfolding after_list
block-list p k is e = rw e refl

key-block : (a k : List ℕ) → is_key a k ≡ true → is_block a ≡ true → is_block k ≡ true
key-block a k e f = like-block a k e ∙ f

items-list : (p : Progress) (inner is : Items) → after_items p (list inner is) ≡ option_and_then (λ q. after_items q is) (after_list p inner)
unfolding after_items
items-list p inner is = refl

items-none : (p : Progress) → after_items p none ≡ Some p
unfolding after_items
items-none p = refl

module _ (entry scale : ℕ) (type_name : List ℕ) (place : Place) where
  abbrev told : List Claim → List Said
  told cs = sayings entry scale type_name place cs

  told-append : (xs ys : List Claim) → told (xs ++ ys) ≡ told xs ++ told ys
  told-append [] ys = refl
  told-append (x ∷ xs) ys = ap (λ l. told (x ∷ []) ++ l) (told-append xs ys)

  -- lists of which each is told
  each-tells : (says : Items → Option (List Claim)) → ((is : Items) (cs : List Claim) → says is ≡ Some cs → AreSound (told cs) → Tells scale (λ p. after_list p is) (told cs)) → (is : Items) (cs : List Claim) →
      each says is ≡ Some cs → AreSound (told cs) → Tells scale (λ p. after_items p is) (told cs)
  each-tells says one_tells none cs e sound =
      let same : [] ≡ cs = cc in
      subst (λ l. Tells scale (λ p. after_items p none) (told l)) same (tells-same scale (λ p. Some p) (λ p. after_items p none) [] (λ p s. items-none p) (tells-nothing scale))
  each-tells says one_tells (list inner is) cs e sound =
      let a = apart (says inner) (each says is) cs e in
      let sounds = sound-apart (told a.0) (told a.1) (subst AreSound (ap told a.4 ∙ told-append a.0 a.1) sound) in
      let both =
      tells-then scale (λ p. after_list p inner) (λ p. after_items p is) (told a.0) (told a.1) (one_tells inner a.0 a.2 sounds.0) (each-tells says one_tells is a.1 a.3 sounds.1) in
      subst (Tells scale (λ p. after_items p (list inner is))) (sym (ap told a.4 ∙ told-append a.0 a.1))
      (tells-same scale (λ p. option_and_then (λ q. after_items q is) (after_list p inner)) (λ p. after_items p (list inner is)) (told a.0 ++ told a.1) (λ p s. items-list p inner is) both)
  each-tells says one_tells (leaf w is) cs e sound = absurd (cc)
  each-tells says one_tells (quoted w is) cs e sound = absurd (cc)

  -- what stands in a block
  block-tells : (a k : List ℕ) (is : Items) (cs : List Claim) → is_key a k ≡ true → is_block a ≡ true → Tells scale (λ p. after_items p is) (told cs) → Tells scale (λ p. after_list p (leaf k is)) (told cs)
  block-tells a k is cs e b tells = tells-same scale (λ p. after_items p is) (λ p. after_list p (leaf k is)) (told cs) (λ p s. block-list p k is (key-block a k e b)) tells

  nothing-told : (is : Items) (cs : List Claim) → Some [] ≡ Some cs → Quiet is → Tells scale (λ p. after_list p is) (told cs)
  nothing-told is cs e q = let same : [] ≡ cs = cc in subst (λ l. Tells scale (λ p. after_list p is) (told l)) same (quiet-tells scale is q)

  -- an item of a DELAY
  delay-tells : (d : ℕ) (is : Items) (cs : List Claim) → delay_item d is ≡ Some cs → AreSound (told cs) → Tells scale (λ p. after_list p is) (told cs)
  unfolding delay_item
  delay-tells d (leaf k is) cs e sound = keyed (is_key (codes "ABSOLUTE") k) refl (is_key (codes "PATHPULSE") k) refl (is_key (codes "PATHPULSEPERCENT") k) refl e
    where
      keyed : (a : Bool) → is_key (codes "ABSOLUTE") k ≡ a → (b : Bool) → is_key (codes "PATHPULSE") k ≡ b → (c : Bool) → is_key (codes "PATHPULSEPERCENT") k ≡ c →
          (if a then each (each_def d) is else (if b || c then Some [] else None)) ≡ Some cs → Tells scale (λ p. after_list p (leaf k is)) (told cs)
      keyed true ea b eb c ec e = block-tells (codes "ABSOLUTE") k is cs ea refl (each-tells (each_def d) (def-tells entry scale type_name place d) is cs e sound)
      keyed false ea true eb c ec e = nothing-told (leaf k is) cs e (quiet (codes "PATHPULSE") k is eb refl refl refl refl refl)
      keyed false ea false eb true ec e = nothing-told (leaf k is) cs e (quiet (codes "PATHPULSEPERCENT") k is ec refl refl refl refl refl)
      keyed false ea false eb false ec e = absurd (cc)
  delay-tells d none cs e sound = absurd (cc)
  delay-tells d (quoted w is) cs e sound = absurd (cc)
  delay-tells d (list w is) cs e sound = absurd (cc)

  -- a part of a CELL
  part-tells : (d : ℕ) (is : Items) (cs : List Claim) → part d is ≡ Some cs → AreSound (told cs) → Tells scale (λ p. after_list p is) (told cs)
  unfolding part
  part-tells d (leaf k is) cs e sound = keyed (is_key (codes "DELAY") k) refl (is_key (codes "TIMINGCHECK") k) refl (is_key (codes "LABEL") k) refl (is_key (codes "TIMINGENV") k) refl e
    where
      keyed : (a : Bool) → is_key (codes "DELAY") k ≡ a → (b : Bool) → is_key (codes "TIMINGCHECK") k ≡ b → (c : Bool) → is_key (codes "LABEL") k ≡ c → (t : Bool) → is_key (codes "TIMINGENV") k ≡ t →
          (if a then each (delay_item d) is else (if b then each check is else (if c || t then Some [] else None))) ≡ Some cs → Tells scale (λ p. after_list p (leaf k is)) (told cs)
      keyed true ea b eb c ec t et e = block-tells (codes "DELAY") k is cs ea refl (each-tells (delay_item d) (delay-tells d) is cs e sound)
      keyed false ea true eb c ec t et e = block-tells (codes "TIMINGCHECK") k is cs eb refl (each-tells check (check-tells entry scale type_name place) is cs e sound)
      keyed false ea false eb true ec t et e = nothing-told (leaf k is) cs e (quiet (codes "LABEL") k is ec refl refl refl refl refl)
      keyed false ea false eb false ec true et e = nothing-told (leaf k is) cs e (quiet (codes "TIMINGENV") k is et refl refl refl refl refl)
      keyed false ea false eb false ec false et e = absurd (cc)
  part-tells d none cs e sound = absurd (cc)
  part-tells d (quoted w is) cs e sound = absurd (cc)
  part-tells d (list w is) cs e sound = absurd (cc)

-- the cell type and the instance
type-quiet : (is : Items) (n : List ℕ) → celltype is ≡ Some n → Quiet is
type-quiet (leaf k (quoted s none)) n e = keyed (is_key (codes "CELLTYPE") k) refl e
  where
    keyed : (b : Bool) → is_key (codes "CELLTYPE") k ≡ b → (if b then Some s else None) ≡ Some n → Quiet (leaf k (quoted s none))
    keyed true f g = quiet (codes "CELLTYPE") k (quoted s none) f refl refl refl refl refl
    keyed false f g = absurd (cc)
type-quiet _ n e = absurd (cc)

instance-quiet : (d : ℕ) (is : Items) (w : Place) → instance d is ≡ Some w → Quiet is
instance-quiet d (leaf k is) w e = keyed (is_key (codes "INSTANCE") k) refl e
  where
    keyed : (b : Bool) → is_key (codes "INSTANCE") k ≡ b → (if b then place_of d is else None) ≡ Some w → Quiet (leaf k is)
    keyed true f g = quiet (codes "INSTANCE") k is f refl refl refl refl refl
    keyed false f g = absurd (cc)
instance-quiet d none w e = absurd (cc)
instance-quiet d (quoted v is) w e = absurd (cc)
instance-quiet d (list v is) w e = absurd (cc)

-- a list that comes first
list-there : {A B : Type 0} (form : Items → Option A) (next : A → Items → Option B) (is : Items) (b : B) → one_list form next is ≡ Some b →
    (a : A) × (inner rest : Items) × (is ≡ list inner rest) × (form inner ≡ Some a) × (next a rest ≡ Some b)
list-there {A} {B} form next (list inner rest) b e = by (form inner) refl e
  where
    by : (o : Option A) → form inner ≡ o → option_and_then (λ (first : A × Items). next first.0 first.1) (option_map (with_items rest) o) ≡ Some b →
        (a : A) × (i r : Items) × (list inner rest ≡ list i r) × (form i ≡ Some a) × (next a r ≡ Some b)
    by None f g = absurd (cc)
    by (Some a) f g = (a, inner, rest, refl, f, g)
list-there form next none b e = absurd (cc)
list-there form next (leaf w is) b e = absurd (cc)
list-there form next (quoted w is) b e = absurd (cc)

skip : (p : Progress) (inner is : Items) → Quiet inner → after_items p (list inner is) ≡ after_items p is
skip p inner is q = items-list p inner is ∙ ap (option_and_then (λ q. after_items q is)) (q p)

map-one : {A B : Type 0} (f : A → B) (o : Option A) (b : B) → option_map f o ≡ Some b → (a : A) × (o ≡ Some a) × (b ≡ f a)
map-one f None b e = absurd (cc)
map-one f (Some a) b e = let same : f a ≡ b = cc in (a, refl, sym same)

-- a CELL
cell-tells : (entry scale d : ℕ) (is : Items) (c : Cell) → cell d is ≡ Some c → AreSound (said_by entry scale c) → Tells scale (λ p. after_items p is) (said_by entry scale c)
cell-tells entry scale d is c e sound =
    let first = list-there celltype (λ name. one_list (instance d) (λ w parts. option_map (cell_with name w) (each (part d) parts))) is c e in
    let second = list-there (instance d) (λ w parts. option_map (cell_with first.0 w) (each (part d) parts)) first.2 c first.5 in
    let claims = map-one (cell_with first.0 second.0) (each (part d) second.2) c second.5 in
    let quiets : (p : Progress) → after_items p is ≡ after_items p second.2 =
    λ p.
    ap (after_items p) first.3 ∙ skip p first.1 first.2 (type-quiet first.1 first.0 first.4) ∙ ap (after_items p) second.3 ∙ skip p second.1 second.2 (instance-quiet d second.1 second.0 second.4) in
    let sounds = subst (λ (x : Cell). AreSound (said_by entry scale x)) claims.2 sound in
    subst (λ (x : Cell). Tells scale (λ p. after_items p is) (said_by entry scale x)) (sym claims.2)
    (tells-same scale (λ p. after_items p second.2) (λ p. after_items p is) (told entry scale first.0 second.0 claims.0) (λ p s. quiets p)
    (each-tells entry scale first.0 second.0 (part d) (part-tells entry scale first.0 second.0 d) second.2 claims.0 claims.1 sounds))

-- Entries, which may change the scale

abbrev Told : (Progress → Option Progress) → Known → Known → Type 0
Told f k l =
    (ss : List Said) × (l.said ≡ k.said ++ ss)
    × (AreSound ss → (p : Progress) (rest : List Delay) → p.scale ≡ k.settings.scale → p.left ≡ delays_from ss ++ rest →
    (q : Progress) × (es : List EdgeDelay) × (f p ≡ Some q) × (q.scale ≡ l.settings.scale) × (q.left ≡ rest) × (q.found ≡ p.found ++ es) × AreMerged es (delays_from ss))

told-tells : (f : Progress → Option Progress) (k l : Known) (ss : List Said) → l.said ≡ k.said ++ ss → l.settings.scale ≡ k.settings.scale → (AreSound ss → Tells k.settings.scale f ss) → Told f k l
told-tells f k l ss e s tells = (
  ss,
  e,
  λ sound p rest scale left.
      let g = tells sound p rest scale left in
      let t = g.2 in
      (g.0, t.0, g.1, t.1 ∙ scale ∙ sym s, t.2, t.3, t.4),
)

told-then : (f g : Progress → Option Progress) (k l m : Known) → Told f k l → Told g l m → Told (λ p. option_and_then g (f p)) k m
told-then f g k l m h i = (
  h.0 ++ i.0,
  i.1 ∙ ap (λ ss. ss ++ i.0) h.1 ∙ append_assoc k.said h.0 i.0,
  λ sound p rest scale left.
      let sounds = sound-apart h.0 i.0 sound in
      let first = h.2 sounds.0 p (delays_from i.0 ++ rest) scale (left ∙ ap (λ ds. ds ++ rest) (delays-append h.0 i.0) ∙ append_assoc (delays_from h.0) (delays_from i.0) rest) in
      let second = i.2 sounds.1 first.0 rest first.3 first.4 in (
        second.0,
        first.1 ++ second.1,
        ap (option_and_then g) first.2 ∙ second.2,
        second.3,
        second.4,
        second.5 ∙ ap (λ es. es ++ second.1) first.5 ∙ append_assoc p.found first.1 second.1,
        subst (AreMerged (first.1 ++ second.1)) (sym (delays-append h.0 i.0)) (merged-append first.1 second.1 (delays_from h.0) (delays_from i.0) first.6 second.6),
      ),
)

told-same : (f g : Progress → Option Progress) (k l : Known) → ((p : Progress) → g p ≡ f p) → Told f k l → Told g k l
told-same f g k l same h = (
  h.0,
  h.1,
  λ sound p rest scale left.
      let t = h.2 sound p rest scale left in
      (t.0, t.1, same p ∙ t.2, t.3, t.4, t.5, t.6),
)

-- a header that tells nothing
quiet-header : (k : Known) (l : Known) (is : Items) → l.said ≡ k.said → l.settings.scale ≡ k.settings.scale → Quiet is → Told (λ p. after_list p is) k l
quiet-header k l is e s q = told-tells (λ p. after_list p is) k l [] (e ∙ sym (append-nil k.said)) s (λ sound. quiet-tells k.settings.scale is q)

passed-header : (k : List ℕ) (is : Items) → is_passed_header k ≡ true → Quiet (leaf k is)
passed-header k is e =
    by (is_key (codes "SDFVERSION") k) refl (is_key (codes "DESIGN") k) refl (is_key (codes "DATE") k) refl (is_key (codes "VENDOR") k) refl (is_key (codes "PROGRAM") k) refl (is_key (codes "VERSION") k) refl
    (is_key (codes "VOLTAGE") k) refl (is_key (codes "PROCESS") k) refl (is_key (codes "TEMPERATURE") k) refl e
  where
    by : (a : Bool) → is_key (codes "SDFVERSION") k ≡ a → (b : Bool) → is_key (codes "DESIGN") k ≡ b → (c : Bool) → is_key (codes "DATE") k ≡ c → (d : Bool) → is_key (codes "VENDOR") k ≡ d →
        (f : Bool) → is_key (codes "PROGRAM") k ≡ f → (g : Bool) → is_key (codes "VERSION") k ≡ g → (h : Bool) → is_key (codes "VOLTAGE") k ≡ h → (i : Bool) → is_key (codes "PROCESS") k ≡ i →
        (j : Bool) → is_key (codes "TEMPERATURE") k ≡ j → (a || b || c || d || f || g || h || i || j) ≡ true → Quiet (leaf k is)
    by true ea b eb c ec d ed f ef g eg h eh i ei j ej e = quiet (codes "SDFVERSION") k is ea refl refl refl refl refl
    by false ea true eb c ec d ed f ef g eg h eh i ei j ej e = quiet (codes "DESIGN") k is eb refl refl refl refl refl
    by false ea false eb true ec d ed f ef g eg h eh i ei j ej e = quiet (codes "DATE") k is ec refl refl refl refl refl
    by false ea false eb false ec true ed f ef g eg h eh i ei j ej e = quiet (codes "VENDOR") k is ed refl refl refl refl refl
    by false ea false eb false ec false ed true ef g eg h eh i ei j ej e = quiet (codes "PROGRAM") k is ef refl refl refl refl refl
    by false ea false eb false ec false ed false ef true eg h eh i ei j ej e = quiet (codes "VERSION") k is eg refl refl refl refl refl
    by false ea false eb false ec false ed false ef false eg true eh i ei j ej e = quiet (codes "VOLTAGE") k is eh refl refl refl refl refl
    by false ea false eb false ec false ed false ef false eg false eh true ei j ej e = quiet (codes "PROCESS") k is ei refl refl refl refl refl
    by false ea false eb false ec false ed false ef false eg false eh false ei true ej e = quiet (codes "TEMPERATURE") k is ej refl refl refl refl refl
    by false ea false eb false ec false ed false ef false eg false eh false ei false ej e = absurd (cc)

scaled : (k : Known) (key : List ℕ) (is : Items) (n : ℕ) → is_key (codes "TIMESCALE") key ≡ true → scale_of is ≡ Some n → Told (λ p. after_list p (leaf key is)) k (after_header k (settings k.settings.divider n))
scaled k key is n e f = (
  [],
  sym (append-nil k.said),
  λ sound p rest scale left.
      (with_scale p n, [], scale-list p key is e ∙ ap (option_map (with_scale p)) f, refl, left, sym (append-nil p.found), refl),
)

header-told : (k : Known) (key : List ℕ) (is : Items) (s : Settings) → header k.settings key is ≡ Some s → Told (λ p. after_list p (leaf key is)) k (after_header k s)
unfolding header
header-told k key is s e = keyed (is_passed_header key) refl (is_key (codes "DIVIDER") key) refl (is_key (codes "TIMESCALE") key) refl e
  where
    keyed : (a : Bool) → is_passed_header key ≡ a → (b : Bool) → is_key (codes "DIVIDER") key ≡ b → (c : Bool) → is_key (codes "TIMESCALE") key ≡ c →
        (if a then Some k.settings else (if b then option_map (λ d. settings d k.settings.scale) (divider_of is) else (if c then option_map (λ n. settings k.settings.divider n) (scale_of is) else None))) ≡ Some s →
        Told (λ p. after_list p (leaf key is)) k (after_header k s)
    keyed true ea b eb c ec f =
        let same : k.settings ≡ s = cc in
        quiet-header k (after_header k s) (leaf key is) refl (ap (λ (x : Settings). x.scale) (sym same)) (passed-header key is ea)
    keyed false ea true eb c ec f =
        let d = map-one (λ d. settings d k.settings.scale) (divider_of is) s f in
        quiet-header k (after_header k s) (leaf key is) refl (ap (λ (x : Settings). x.scale) d.2) (quiet (codes "DIVIDER") key is eb refl refl refl refl refl)
    keyed false ea false eb true ec f =
        let n = map-one (λ n. settings k.settings.divider n) (scale_of is) s f in
        subst (λ (x : Settings). Told (λ p. after_list p (leaf key is)) k (after_header k x)) (sym n.2) (scaled k key is n.0 ec n.1)
    keyed false ea false eb false ec f = absurd (cc)

entry-told : (entry : ℕ) (k l : Known) (is : Items) → after_entry entry k is ≡ Some l → Told (λ p. after_list p is) k l
unfolding after_entry
entry-told entry k l (leaf key is) e = keyed (is_key (codes "CELL") key) refl k.in_cells e
  where
    keyed : (a : Bool) → is_key (codes "CELL") key ≡ a → (b : Bool) →
        (if a then option_map (after_cell entry k) (cell k.settings.divider is) else (if b then None else option_map (after_header k) (header k.settings key is))) ≡ Some l →
        Told (λ p. after_list p (leaf key is)) k l
    keyed true ea b f =
        let c = map-one (after_cell entry k) (cell k.settings.divider is) l f in
        subst (λ (x : Known). Told (λ p. after_list p (leaf key is)) k x) (sym c.2)
        (told-tells (λ p. after_list p (leaf key is)) k (after_cell entry k c.0) (said_by entry k.settings.scale c.0) refl refl
        (λ sound.
        tells-same k.settings.scale (λ p. after_items p is) (λ p. after_list p (leaf key is)) (said_by entry k.settings.scale c.0) (λ p s. block-list p key is (key-block (codes "CELL") key ea refl))
        (cell-tells entry k.settings.scale k.settings.divider is c.0 c.1 sound)))
    keyed false ea true f = absurd (cc)
    keyed false ea false f =
        let s = map-one (after_header k) (header k.settings key is) l f in
        subst (λ (x : Known). Told (λ p. after_list p (leaf key is)) k x) (sym s.2) (header-told k key is s.0 s.1)
entry-told entry k l none e = absurd (cc)
entry-told entry k l (quoted w is) e = absurd (cc)
entry-told entry k l (list w is) e = absurd (cc)

entries-told : (entry : ℕ) (k : Known) (is : Items) (r : ℕ × Known) → entries entry k is ≡ Ok r → Told (λ p. after_items p is) k r.1
unfolding entries
entries-told entry k none r e =
    let same : (entry, k) ≡ r = cc in
    subst (λ (x : ℕ × Known). Told (λ p. after_items p none) k x.1) same
    (told-tells (λ p. after_items p none) k k [] (sym (append-nil k.said)) refl (λ sound. tells-same k.settings.scale (λ p. Some p) (λ p. after_items p none) [] (λ p s. items-none p) (tells-nothing k.settings.scale)))
entries-told entry k (list inner is) r e = by (after_entry entry k inner) refl (λ l. entries-told (entry + 1) l is r) e
  where
    by : (o : Option Known) → after_entry entry k inner ≡ o → ((l : Known) → entries (entry + 1) l is ≡ Ok r → Told (λ p. after_items p is) l r.1) → go_on entry (λ q. entries (entry + 1) q is) o ≡ Ok r →
        Told (λ p. after_items p (list inner is)) k r.1
    by None f go g = absurd (cc)
    by (Some l) f go g =
        told-same (λ p. option_and_then (λ q. after_items q is) (after_list p inner)) (λ p. after_items p (list inner is)) k r.1 (λ p. items-list p inner is)
        (told-then (λ p. after_list p inner) (λ p. after_items p is) k l r.1 (entry-told entry k l inner f) (go l g))
entries-told entry k (leaf w is) r e = absurd (cc)
entries-told entry k (quoted w is) r e = absurd (cc)

-- The text

judged-sound : (ss : List Said) (ds : List Delay) → judged ss (first_fault ss) ≡ Ok ds → AreSound ss × (ds ≡ delays_from ss)
judged-sound ss ds e = by (first_fault ss) refl e
  where
    by : (o : Option Refusal) → first_fault ss ≡ o → judged ss o ≡ Ok ds → (first_fault ss ≡ None) × (ds ≡ delays_from ss)
    by None f g = let same : delays_from ss ≡ ds = cc in (f, sym same)
    by (Some r) f g = absurd (cc)

abbrev Merges : List ℕ → List Delay → Type 0
Merges text ds = (es : List EdgeDelay) × (told_in text ds ≡ Some es) × AreMerged es ds

told-whole : (text : List ℕ) (ds : List Delay) (ts : List Token) (r : ℕ × Known) → after_head (tokens_of text) ≡ Some ts → entries 1 known (items ts) ≡ Ok r → judged r.1.said (first_fault r.1.said) ≡ Ok ds → Merges text ds
told-whole text ds ts r e f g =
    let t = entries-told 1 known (items ts) r f in
    let sounds = judged-sound r.1.said ds g in
    let sound = subst AreSound t.1 sounds.0 in
    let same : ds ≡ delays_from t.0 = sounds.1 ∙ ap delays_from t.1 in
    let end = t.2 sound (start ds) [] refl (same ∙ sym (append-nil (delays_from t.0))) in (
      end.1,
      ap (option_and_then (told_behind ds)) e ∙ ap (option_map (λ (p : Progress). p.found)) end.2 ∙ ap (λ l. Some l) end.5,
      subst (AreMerged end.1) (sym same) end.6,
    )

pub merge : Merge
merge text ds e = by (after_head (tokens_of text)) refl e
  where
    behind : (ts : List Token) → after_head (tokens_of text) ≡ Some ts → (b : Bool) (r : Result (ℕ × Known) ℕ) → entries 1 known (items ts) ≡ r → reading (whole b r) ≡ Ok ds → Merges text ds
    behind ts f true (Ok r) g h = told-whole text ds ts r f g h
    behind ts f false (Ok r) g h = absurd (cc)
    behind ts f b (Err n) g h = absurd (cc)

    by : (o : Option (List Token)) → after_head (tokens_of text) ≡ o → reading (said_behind o) ≡ Ok ds → Merges text ds
    by None f g = absurd (cc)
    by (Some ts) f g = behind ts f (is_end (after ts)) (entries 1 known (items ts)) refl g
