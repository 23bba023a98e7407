-- The words of an element's line.
use Rattle.std.proofs.Common.{◌≡◌, ℕ, ℤ, ◌≤◌, Bool, List, [], ◌∷◌, arith, codes}
use Rattle.mintc_text.specs.Lines.{numeral_of}
use Rattle.mintc_timing.specs.declared.parts.Element.{Element}
use Rattle.mintc_timing_text.specs.declared.table_lines.ElementNumbers.{ElementNumbers}
use Rattle.mintc_timing_text.specs.declared.table_lines.Version.{Version}
use Rattle.mintc_timing_text.specs.Fields.{IsName, AreDelays, number}
use Rattle.mintc_timing.specs.Limits.{IsElement, IsDelay, IsGap}
use Rattle.mintc_timing_text.specs.ElementWords.{named, IsKind, IsHold, IsOpening}
use Rattle.mintc_timing_text.specs.TableText.{hold_word, with_kind, with_openings, element_words, IsOfVersion, IsElementLine}
use Rattle.mintc_timing_text.proofs.SharedFieldsLaws.{read_back}

-- ---- the parts of an element's line

pub kind_same : (v : Version) (a b : Bool) (x y : List (List ℕ)) → IsKind v a → IsKind v b → with_kind v a x ≡ with_kind v b y → (a ≡ b) × (x ≡ y)
kind_same v a b x y h g e = grind arith

pub openings_same : (v : Version) (a b c d : ℤ) (x y : List (List ℕ)) → with_openings v a b x ≡ with_openings v c d y → x ≡ y
openings_same v a b c d x y e = grind arith

pub same_delays : (a b c d : ℤ) (more left : List (List ℕ)) → AreDelays a b → AreDelays c d → numeral_of a ∷ numeral_of b ∷ more ≡ numeral_of c ∷ numeral_of d ∷ left → (a ≡ c) × (b ≡ d)
same_delays a b c d more left h g e = grind (arith, read_back)

pub kind_of : (v : Version) (e : Element) → IsOfVersion v e → IsKind v e.flop
kind_of v e h = grind arith

pub opening_of : (v : Version) (k : ℕ) (e : Element) (flop : Bool) (low high : ℤ) → IsElement k e → IsOfVersion v e → flop ≡ e.flop → low ≡ e.dq_min → high ≡ e.dq_max →
    IsOpening v flop low high e.cq_min e.cq_max
opening_of v k e flop low high h g same from to = grind arith

-- what is left of an element's words after its kind, its setup, its hold and its delays from the data
abbrev pub after_dq : Version → Element → List (List ℕ)
after_dq v e = with_openings v e.cq_min e.cq_max (numeral_of e.width ∷ [])

abbrev pub after_hold : Version → Element → List (List ℕ)
after_hold v e = numeral_of e.dq_min ∷ numeral_of e.dq_max ∷ after_dq v e

abbrev pub after_setup : Version → Element → List (List ℕ)
after_setup v e = hold_word e.has_hold e.hold ∷ after_hold v e

abbrev pub after_kind : Version → Element → List (List ℕ)
after_kind v e = numeral_of e.setup ∷ after_setup v e

pub element_phase : (v : Version) (e : Element) (name : List ℕ) (ws a b : List (List ℕ)) → ws ≡ codes "element" ∷ a → a ≡ name ∷ b → ws ≡ element_words v e →
    b ≡ number e.phase ∷ with_kind v e.flop (after_kind v e)
element_phase v e name ws a b first second words = grind arith

pub element_kind : (v : Version) (e : Element) (name : List ℕ) (phase : ℕ) (flop : Bool) (ws a b c d : List (List ℕ)) → ws ≡ codes "element" ∷ a → a ≡ name ∷ b → b ≡ number phase ∷ c → c ≡ with_kind v flop d →
    IsKind v flop → IsOfVersion v e → ws ≡ element_words v e → (flop ≡ e.flop) × (d ≡ after_kind v e)
element_kind v e name phase flop ws a b c d first second third fourth kind version words = grind arith

-- the words that were read, put together
pub element_read : (v : Version) (k : ℕ) (name : List ℕ) (n : ElementNumbers) (ws a b c d f g h i j : List (List ℕ)) → ws ≡ codes "element" ∷ a → IsName name × (a ≡ name ∷ b) → (1 ≤ n.phase) × (n.phase ≤ k) × (b ≡ number n.phase ∷ c) →
    IsKind v n.flop × (c ≡ with_kind v n.flop d) → IsGap n.setup × (d ≡ numeral_of n.setup ∷ f) → IsHold n.has_hold n.hold × (f ≡ hold_word n.has_hold n.hold ∷ g) →
    AreDelays n.dq_min n.dq_max × (g ≡ numeral_of n.dq_min ∷ numeral_of n.dq_max ∷ h) → IsOpening v n.flop n.dq_min n.dq_max n.cq_min n.cq_max × (h ≡ with_openings v n.cq_min n.cq_max i) →
    IsDelay n.width × (i ≡ numeral_of n.width ∷ j) → j ≡ [] → IsElementLine v k (named name n) ws
element_read v k name n ws a b c d f g h i j e1 e2 e3 e4 e5 e6 e7 e8 e9 e10 = grind arith
