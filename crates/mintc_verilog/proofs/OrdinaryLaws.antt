-- The netlist of a text is ordinary.
use Rattle.std.proofs.Common.{◌≡◌, ℕ, ◌+◌, ◌-◌, ◌≤◌, ◌<◌, ◌^◌, Bool, List, [], ◌∷◌, ◌++◌, length, take, drop, map, Option, Some, None, IfSome, sym, ap, ◌∙◌, subst, arith, append_assoc, append-nil, length-append, length-take}
use Rattle.std.specs.Prelude.{All}
use Rattle.std.specs.List.{flat_map}
use Rattle.std.proofs.lemmas.Grind.{flat_map-append}
use Rattle.std.proofs.lemmas.List.{length-map, map-append}
use Rattle.std.proofs.lemmas.List.Elements.{All-nil, All-cons, All-tail, All-head, All-append, All-map, All-push, All-weaker}
use Rattle.mintc_text.specs.declared.limits.TheConstants.{MOST_BYTES}
use Rattle.mintc_vlex.specs.declared.token_list.Token.{Token}
use Rattle.mintc_vlex.specs.declared.statement_list.Statement.{Statement}
use Rattle.mintc_vlex.specs.Tokens.{tokens_of}
use Rattle.mintc_vlex.specs.Statements.{statements_from, statements_of}
use Rattle.mintc_netlist.specs.declared.module.Module.{Module}
use Rattle.mintc_netlist.specs.Ordinary.{IsItem, IsModule, DontFall, entry_of, entries_of}
use Rattle.mintc_verilog.specs.declared.open_module.OpenModule.{OpenModule}
use Rattle.mintc_verilog.specs.declared.open_module.Said.{Said}
use Rattle.mintc_verilog.specs.declared.open_module.Said.TheVariants as said
use Rattle.mintc_verilog_expressions.specs.Lexemes.{Lexeme, lexeme_of, lexemes_within, lexemes_of}
use Rattle.mintc_verilog.specs.Netlists.{State, start, state_of, module_of, says, next, Leads}
use Rattle.mintc_verilog.specs.Laws.{AreOrdinary}
use Rattle.mintc_verilog.proofs.Sound.{AreSound, tokens-sound, IsSaid, form-sound, IsNumbered, says-numbered}
use Rattle.mintc_verilog.proofs.StatementLaws.{tokens-few}

-- the numbers of statements so far
abbrev held_entries : Option OpenModule → List ℕ
held_entries None = []
held_entries (Some o) = o.entry ∷ map entry_of o.items

abbrev entries_in : List Module → Option OpenModule → List ℕ
entries_in done current = flat_map entries_of done ++ held_entries current

abbrev AreUpTo : ℕ → List ℕ → Type 0
AreUpTo e ns = All (λ n. n ≤ e) ns

abbrev AreAll : ℕ → List ℕ → Type 0
AreAll e ns = All (λ n. n ≡ e) ns

even : (least e : ℕ) (ns : List ℕ) → least ≤ e → AreAll e ns → DontFall least ns
even least e [] h s = tt
even least e (n ∷ ns) h s =
    let same : n ≡ e = All-head (λ n. n ≡ e) n ns s in
    (omega (arith, same), even n e ns (omega (arith, same)) (All-tail (λ n. n ≡ e) n ns s))

rise : (least e : ℕ) (ms ns : List ℕ) → least ≤ e → AreUpTo e ms → AreAll e ns → DontFall least ms → DontFall least (ms ++ ns)
rise least e [] ns h b s d = even least e ns h s
rise least e (m ∷ ms) ns h b s d = (d.0, rise m e ms ns (All-head (λ n. n ≤ e) m ms b) (All-tail (λ n. n ≤ e) m ms b) s d.1)

raise : (e : ℕ) (ms ns : List ℕ) → AreUpTo e ms → AreAll e ns → AreUpTo (e + 1) (ms ++ ns)
raise e ms ns b s =
    All-append (λ n. n ≤ e + 1) ms ns (All-weaker (λ n. n ≤ e) (λ n. n ≤ e + 1) (λ n h. omega arith) ms b) (All-weaker (λ n. n ≡ e) (λ n. n ≤ e + 1) (λ n h. omega (arith, h)) ns s)

-- a module that is open, with items from so many lexemes
abbrev IsHeld : ℕ → OpenModule → Type 0
IsHeld used o = (length o.ports < 2 ^ 32) × (length o.items ≤ used) × All IsItem o.items

-- what is known before the statement with a number, after so many lexemes
record Stands (used entry : ℕ) (done : List Module) (current : Option OpenModule) : Type 0 where
  count : length done ≤ used
  each : All IsModule done
  held : IfSome current (IsHeld used)
  first : 1 ≤ entry
  below : AreUpTo entry (entries_in done current)
  order : DontFall 1 (entries_in done current)

abbrev StandsIn : ℕ → ℕ → State → Type 0
StandsIn used entry s = Stands used entry s.done s.current

stands-on : (used more entry : ℕ) (done done2 : List Module) (current current2 : Option OpenModule) (ns : List ℕ) → Stands used entry done current →
    entries_in done2 current2 ≡ entries_in done current ++ ns → AreAll entry ns → length done2 ≤ more → All IsModule done2 → IfSome current2 (IsHeld more) →
    Stands more (entry + 1) done2 current2
stands-on used more entry done done2 current current2 ns h e all count each held = record {
  count = count;
  each = each;
  held = held;
  first = omega (arith, h.first);
  below = subst (AreUpTo (entry + 1)) (sym e) (raise entry (entries_in done current) ns h.below all);
  order = subst (DontFall 1) (sym e) (rise 1 entry (entries_in done current) ns h.first h.below all h.order);
}

opened : (used n entry : ℕ) (done : List Module) (o : OpenModule) → Stands used entry done None → IsSaid n (said.Opens o) → IsNumbered entry (said.Opens o) → used + n ≤ MOST_BYTES →
    Stands (used + n) (entry + 1) done (Some o)
opened used n entry done o h s numbered few =
    stands-on used (used + n) entry done done None (Some o) (held_entries (Some o)) h
    (ap (λ l. l ++ held_entries (Some o)) (sym (append-nil (flat_map entries_of done))))
    (All-cons (λ k. k ≡ entry) o.entry (map entry_of o.items) numbered.0 (All-map (λ k. k ≡ entry) entry_of o.items numbered.1))
    (omega (arith, h.count)) h.each (omega (arith, s.0), omega (arith, s.1), s.2)

added : (used n entry : ℕ) (done : List Module) (o : OpenModule) (declares : Bool) (items : List _) → Stands used entry done (Some o) → IsSaid n (said.Adds declares items) → IsNumbered entry (said.Adds declares items) →
    Stands (used + n) (entry + 1) done (Some (record o { items = o.items ++ items }))
added used n entry done o declares items h s numbered =
    let flat = flat_map entries_of done in
    stands-on used (used + n) entry done done (Some o) (Some (record o { items = o.items ++ items })) (map entry_of items) h
    (ap (λ l. flat ++ o.entry ∷ l) (map-append entry_of o.items items) ∙ sym (append_assoc flat (o.entry ∷ map entry_of o.items) (map entry_of items)))
    (All-map (λ k. k ≡ entry) entry_of items numbered)
    (omega (arith, h.count)) h.each (h.held.0, omega (arith, h.held.1, s.0, length-append o.items items), All-append IsItem o.items items h.held.2 s.1)

closed : (used n entry : ℕ) (done : List Module) (o : OpenModule) → Stands used entry done (Some o) → 1 ≤ n → used + n ≤ MOST_BYTES → Stands (used + n) (entry + 1) (done ++ module_of o ∷ []) None
closed used n entry done o h s few =
    let flat = flat_map entries_of done in
    stands-on used (used + n) entry done (done ++ module_of o ∷ []) (Some o) None [] h
    (ap (λ l. l ++ []) (flat_map-append entries_of done (module_of o ∷ []) ∙ ap (λ l. flat ++ l) (append-nil (entries_of (module_of o)))))
    (All-nil (λ k. k ≡ entry))
    (omega (arith, h.count, length-append done (module_of o ∷ [])))
    (All-push IsModule done (module_of o) h.each (record { ports = h.held.0; items = omega (arith, h.held.1); each = h.held.2 }))
    tt

next-stands : (used n entry : ℕ) (done : List Module) (current : Option OpenModule) (s : Said) (c : State) → Stands used entry done current → IsSaid n s → IsNumbered entry s → used + n ≤ MOST_BYTES →
    next done current s ≡ Some c → StandsIn (used + n) (entry + 1) c
next-stands used n entry done None (said.Opens o) c h s numbered few e =
    let same : state_of done (Some o) ≡ c = cc in
    subst (StandsIn (used + n) (entry + 1)) same (opened used n entry done o h s numbered few)
next-stands used n entry done None (said.Adds declares items) c h s numbered few e = absurd (cc)
next-stands used n entry done None said.Closes c h s numbered few e = absurd (cc)
next-stands used n entry done (Some o) (said.Opens p) c h s numbered few e = absurd (cc)
next-stands used n entry done (Some o) (said.Adds declares items) c h s numbered few e =
    let same : state_of done (Some (record o { items = o.items ++ items })) ≡ c = grind arith in
    subst (StandsIn (used + n) (entry + 1)) same (added used n entry done o declares items h s numbered)
next-stands used n entry done (Some o) said.Closes c h s numbered few e =
    let same : state_of (done ++ module_of o ∷ []) None ≡ c = cc in
    subst (StandsIn (used + n) (entry + 1)) same (closed used n entry done o h s few)

-- how many lexemes statements have together
abbrev total : List (List Lexeme) → ℕ
total [] = 0
total (ls ∷ more) = length ls + total more

abbrev AllSound : List (List Lexeme) → Type 0
AllSound [] = Unit {0}
AllSound (ls ∷ more) = AreSound ls × AllSound more

leads-stand : (used entry : ℕ) (a b : State) (all : List (List Lexeme)) → StandsIn used entry a → AllSound all → used + total all ≤ MOST_BYTES → Leads entry a all b →
    (u : ℕ) × (e : ℕ) × (u ≤ MOST_BYTES) × StandsIn u e b
leads-stand used entry a b [] h s few leads = (used, entry, omega arith, subst (StandsIn used entry) leads h)
leads-stand used entry a b (ls ∷ more) h s few (form, c, is, e, leads) =
    let said = form-sound entry ls form (record { sound = s.0; few = omega arith }) is in
    let on = next-stands used (length ls) entry a.done a.current (says entry form) c h said (says-numbered entry form) (omega arith) e in
    leads-stand (used + length ls) (entry + 1) c b more on s.1 (omega arith) leads

-- the lexemes of a text: all sound, no more than there are bytes
abbrev spans : List Statement → ℕ
spans [] = 0
spans (s ∷ ss) = (s.to - s.from) + spans ss

abbrev statement : ℕ → ℕ → Statement
statement from to = record { from = from; to = to }

spans-from : (text : List ℕ) (from at : ℕ) (ts : List Token) → from ≤ at → spans (statements_from text from at ts) ≤ length ts + (at - from)
spans-from text from at [] h = grind arith
spans-from text from at (t ∷ ts) h = grind (arith, spans-from text (at + 1) (at + 1) ts, spans-from text from (at + 1) ts)

total-spans : (text : List ℕ) (ts : List Token) (ss : List Statement) → total (map (lexemes_within text ts) ss) ≤ spans ss
total-spans text ts [] = omega arith
total-spans text ts (s ∷ ss) =
    omega (arith, total-spans text ts ss, length-map (take (s.to - s.from) (drop s.from ts)) (lexeme_of text), length-take (s.to - s.from) (drop s.from ts))

total-few : (text : List ℕ) → total (lexemes_of text) ≤ length text
unfolding lexemes_of
total-few text =
    let ts = tokens_of text in
    omega (arith, total-spans text ts (statements_of text ts), spans-from text 0 0 ts (omega arith), tokens-few text)

all-sound : (text : List ℕ) (ts : List Token) (ss : List Statement) → AllSound (map (lexemes_within text ts) ss)
all-sound text ts [] = tt
all-sound text ts (s ∷ ss) = (tokens-sound text (take (s.to - s.from) (drop s.from ts)), all-sound text ts ss)

lexemes-sound : (text : List ℕ) → AllSound (lexemes_of text)
unfolding lexemes_of
lexemes-sound text = all-sound text (tokens_of text) (statements_of text (tokens_of text))

begun : Stands 0 1 [] None
begun = record { count = omega arith; each = All-nil IsModule; held = tt; first = omega arith; below = All-nil (λ n. n ≤ 1); order = tt }

pub are_ordinary : AreOrdinary
are_ordinary text n few is =
    let h = leads-stand 0 1 start (state_of n.modules None) (lexemes_of text) begun (lexemes-sound text) (omega (arith, total-few text)) is in
    record {
      count = omega (arith, h.3.count);
      each = h.3.each;
      order = subst (DontFall 1) (append-nil (flat_map entries_of n.modules)) h.3.order;
    }
