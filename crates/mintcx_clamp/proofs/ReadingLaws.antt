-- The entries of a text: what they say, and what those say that they become.
use Rattle.std.proofs.Common.{◌≡◌, ℕ, ◌+◌, Bool, true, false, true≢false, if◌then◌else◌, List, [], ◌∷◌, ◌++◌, map, Option, Some, None, option_map, Result, Ok, Err, codes, refl, sym, ap, ◌∙◌}
use Rattle.std.specs.List.{AllZip}
use Rattle.mintc_sdf_tokens.specs.Tokens.{Token, opening, closing, word}
use Rattle.mintc_sdf_tokens.specs.Items.{Items, none, leaf, quoted, list, spell, Front, front, items, after}
use Rattle.mintc_sdf_tokens.specs.Words.{is_key}
use Rattle.mintc_sdf_tokens.specs.Laws.{AreWritten, AreReadBack}
use Rattle.mintc_sdf.specs.declared.delays.Place.{Place}
use Rattle.mintc_sdf.specs.Forms.{Claim, Settings, Cell, cell, header}
use Rattle.mintc_sdf.specs.Texts.{Said, Progress, start, said_by, after_cell, after_header, after_entry, go_on, entries, is_end, whole, said_behind, said_in}
use Rattle.mintcx_clamp.specs.declared.walking.Mode.TheVariants as mode
use Rattle.mintcx_clamp.specs.Walking.{is_unsigned, behind, followed}
use Rattle.mintcx_clamp.proofs.BesideLaws.{Beside, Claims_beside, Said_beside, zip-append, beside-map}
use Rattle.mintcx_clamp.proofs.TreeLaws.{values, outer, inside, outer-items}
use Rattle.mintcx_clamp.proofs.FormLaws.{not-unsigned, not-signed, keyed, Cell_beside, cell-beside, cell-refl, header-values, header-outer}

-- what is known after some entries, with other claims
abbrev pub with_said : Progress → List Said → Progress
with_said p said = record { settings = p.settings; in_cells = p.in_cells; said = said }

-- what is known after some entries of both texts
abbrev pub Progress_beside : Progress → Progress → Type 0
Progress_beside p q = (said : List Said) × AllZip Said_beside p.said said × (q ≡ with_said p said)

-- what is known in the end
abbrev pub Ends_beside : Result (ℕ × Progress) ℕ → Result (ℕ × Progress) ℕ → Type 0
Ends_beside (Ok r) (Ok s) = Progress_beside r.1 s.1
Ends_beside (Err n) (Err m) = Unit {0}
Ends_beside _ _ = ⊥

never : {A : Type 0} (b : Bool) → b ≡ true → b ≡ false → A
never b e f = absurd (true≢false (sym e ∙ f))

said-claims : (n scale : ℕ) (t u : List ℕ) (p q : Place) (cs ds : List Claim) → u ≡ t → q ≡ p → Claims_beside cs ds →
    AllZip Said_beside (map (λ c. record { entry = n; scale = scale; celltype = t; place = p; claim = c }) cs) (map (λ c. record { entry = n; scale = scale; celltype = u; place = q; claim = c }) ds)
said-claims n scale t u p q [] [] e f h = tt
said-claims n scale t u p q [] (d ∷ ds) e f h = absurd h
said-claims n scale t u p q (c ∷ cs) [] e f h = absurd h
said-claims n scale t u p q (c ∷ cs) (d ∷ ds) e f h = ((d, h.0, rw (e, f) refl), said-claims n scale t u p q cs ds e f h.1)

cell-after : (n : ℕ) (p : Progress) (said : List Said) (c e : Cell) → AllZip Said_beside p.said said → Cell_beside c e → Progress_beside (after_cell n p c) (after_cell n (with_said p said) e)
cell-after n p said c e h g = (
  said ++ said_by n p.settings.scale e,
  zip-append Said_beside p.said said (said_by n p.settings.scale c) (said_by n p.settings.scale e) h
      (said-claims n p.settings.scale c.celltype e.celltype c.place e.place c.claims e.claims g.0 g.1 g.2),
  refl,
)

header-after : (p : Progress) (said : List Said) (o s : Option Settings) → AllZip Said_beside p.said said → s ≡ o →
    Beside Progress_beside (option_map (after_header p) o) (option_map (after_header (with_said p said)) s)
header-after p said o s h e = rw e (by o)
  where
    by : (o : Option Settings) → Beside Progress_beside (option_map (after_header p) o) (option_map (after_header (with_said p said)) o)
    by None = tt
    by (Some s) = (said, h, refl)

-- an entry, given what both make of it
entry-key : (n : ℕ) (p : Progress) (said : List Said) (k : List ℕ) (is js : Items) → AllZip Said_beside p.said said →
    (is_key (codes "CELL") k ≡ true → Beside Cell_beside (cell p.settings.divider is) (cell p.settings.divider js)) → header p.settings k js ≡ header p.settings k is →
    Beside Progress_beside (after_entry n p (leaf k is)) (after_entry n (with_said p said) (leaf k js))
unfolding after_entry
entry-key n p said k is js h c g = by (is_key (codes "CELL") k) refl p.in_cells
  where
    by : (a : Bool) → is_key (codes "CELL") k ≡ a → (b : Bool) → Beside Progress_beside
        (if a then option_map (after_cell n p) (cell p.settings.divider is) else (if b then None else option_map (after_header p) (header p.settings k is)))
        (if a then option_map (after_cell n (with_said p said)) (cell p.settings.divider js) else (if b then None else option_map (after_header (with_said p said)) (header p.settings k js)))
    by true e b = beside-map Cell_beside Progress_beside (after_cell n p) (after_cell n (with_said p said)) (λ c d r. cell-after n p said c d h r) (cell p.settings.divider is) (cell p.settings.divider js) (c e)
    by false e true = tt
    by false e false = header-after p said (header p.settings k is) (header p.settings k js) h g

entry-beside : (n : ℕ) (p : Progress) (said : List Said) → AllZip Said_beside p.said said → (is : Items) → Beside Progress_beside (after_entry n p is) (after_entry n (with_said p said) (inside is))
unfolding after_entry inside
entry-beside n p said h none = tt
entry-beside n p said h (quoted s is) = tt
entry-beside n p said h (list inner is) = tt
entry-beside n p said h (leaf k is) =
    keyed Progress_beside k (λ js. after_entry n p (leaf k js)) (λ js. after_entry n (with_said p said) (leaf k js)) is
    (entry-key n p said k is is h (λ e. cell-refl (cell p.settings.divider is)) refl)
    (λ s u. entry-key n p said k is (values is) h (λ e. never (is_unsigned k) u (not-unsigned (codes "CELL") k e refl)) (header-values p.settings k is))
    (λ s u. entry-key n p said k is (outer is) h (λ e. cell-beside p.settings.divider is) (header-outer p.settings k is))

next-beside : (n : ℕ) (f g : Progress → Result (ℕ × Progress) ℕ) → ((p : Progress) (said : List Said) → AllZip Said_beside p.said said → Ends_beside (f p) (g (with_said p said))) →
    (o s : Option Progress) → Beside Progress_beside o s → Ends_beside (go_on n f o) (go_on n g s)
next-beside n f g h None None r = tt
next-beside n f g h (Some p) (Some q) r = rw r.2 (h p r.0 r.1)
next-beside n f g h None (Some q) r = absurd r
next-beside n f g h (Some p) None r = absurd r

entries-beside : (n : ℕ) (p : Progress) (said : List Said) → AllZip Said_beside p.said said → (is : Items) → Ends_beside (entries n p is) (entries n (with_said p said) (outer is))
unfolding entries outer
entries-beside n p said h none = (said, h, refl)
entries-beside n p said h (leaf w is) = tt
entries-beside n p said h (quoted s is) = tt
entries-beside n p said h (list inner is) =
    next-beside n (λ r. entries (n + 1) r is) (λ r. entries (n + 1) r (outer is)) (λ r more k. entries-beside (n + 1) r more k is) (after_entry n p inner) (after_entry n (with_said p said) (inside inner)) (entry-beside n p said h inner)

-- the whole text
closed : (ts : List Token) → is_end ts ≡ true → ts ≡ closing ∷ []
closed (closing ∷ []) h = refl
closed _ h = absurd (cc)

whole-beside : (r s : Result (ℕ × Progress) ℕ) (ss : List Said) → Ends_beside r s → whole true r ≡ Ok ss → (us : List Said) × (whole true s ≡ Ok us) × AllZip Said_beside ss us
whole-beside (Ok r) (Ok s) ss h e = let same : r.1.said ≡ ss = cc in (h.0, ap (λ (q : Progress). Ok q.said) h.2, rw (sym same) h.1)
whole-beside (Ok r) (Err m) ss h e = absurd h
whole-beside (Err n) s ss h e = absurd (cc)

ended : (b : Bool) (r : Result (ℕ × Progress) ℕ) (ss : List Said) → whole b r ≡ Ok ss → b ≡ true
ended true r ss e = refl
ended false (Ok r) ss e = absurd (cc)
ended false (Err n) ss e = absurd (cc)

body-said : AreWritten → AreReadBack → (ts : List Token) (ss : List Said) → whole (is_end (after ts)) (entries 1 start (items ts)) ≡ Ok ss →
    (us : List Said) × (whole (is_end (after (followed mode.Free ts))) (entries 1 start (items (followed mode.Free ts))) ≡ Ok us) × AllZip Said_beside ss us
body-said written read_back ts ss e =
    let end = ended (is_end (after ts)) (entries 1 start (items ts)) ss e in
    let last = closed (after ts) end in
    let text : followed mode.Free ts ≡ spell (outer (items ts)) ++ closing ∷ [] =
    ap (followed mode.Free) (written ts ∙ ap (λ l. spell (items ts) ++ l) last) ∙ outer-items (items ts) (closing ∷ []) in
    let back : front (followed mode.Free ts) ≡ record { items = outer (items ts); after = closing ∷ [] } = ap front text ∙ read_back (outer (items ts)) [] in
    let done = whole-beside (entries 1 start (items ts)) (entries 1 start (outer (items ts))) ss (entries-beside 1 start [] tt (items ts)) (sym (ap (λ b. whole b (entries 1 start (items ts))) end) ∙ e) in
    (done.0, ap (λ (f : Front). whole (is_end f.after) (entries 1 start f.items)) back ∙ done.1, done.2)

free-behind : (k : List ℕ) → is_key (codes "DELAYFILE") k ≡ true → behind k ≡ mode.Free
free-behind k e = rw (not-signed (codes "DELAYFILE") k e refl, not-unsigned (codes "DELAYFILE") k e refl) refl

pub text-said : AreWritten → AreReadBack → (ts : List Token) (ss : List Said) → said_in ts ≡ Ok ss → (us : List Said) × (said_in (followed mode.Free ts) ≡ Ok us) × AllZip Said_beside ss us
text-said written read_back (opening ∷ word k ∷ ts) ss e = by (is_key (codes "DELAYFILE") k) refl e
  where
    by : (b : Bool) → is_key (codes "DELAYFILE") k ≡ b → said_behind (if b then Some ts else None) ≡ Ok ss →
        (us : List Said) × (said_behind (if is_key (codes "DELAYFILE") k then Some (followed (behind k) ts) else None) ≡ Ok us) × AllZip Said_beside ss us
    by false f g = absurd (cc)
    by true f g = let done = body-said written read_back ts ss g in (done.0, rw (f, free-behind k f) (done.1), done.2)
text-said written read_back _ ss e = absurd (cc)
