-- Each text stands for a netlist, or a statement of it is at fault.
use Rattle.std.proofs.Common.{◌≡◌, ℕ, ◌+◌, List, [], ◌∷◌, ◌++◌, length, Option, Some, None, is_some, refl, sym, ap, ◌∙◌, subst, arith, append_assoc, append-nil, ◌⊎◌, inl, inr}
use Rattle.mintc_netlist.specs.declared.module.Netlist.{Netlist}
use Rattle.mintc_verilog.specs.declared.open_module.OpenModule.{OpenModule}
use Rattle.mintc_verilog_expressions.specs.Lexemes.{Lexeme, lexemes_of}
use Rattle.mintc_verilog.specs.FormReading.{after_lexemes}
use Rattle.mintc_verilog.specs.Netlists.{State, start, state_of, Leads, IsNetlist, IsFault}
use Rattle.mintc_verilog.specs.Laws.{HaveAnAnswer}
use Rattle.mintc_verilog.proofs.NetlistLaws.{leads-push, no-step}

abbrev Answer : List ℕ → Type 0
Answer text = ((n : Netlist) × IsNetlist text n) ⊎ ((k : ℕ) × IsFault text k)

abbrev netlist : State → Netlist
netlist s = record { modules = s.done }

at-end : (text : List ℕ) (before : List (List Lexeme)) (s : State) (o : Option OpenModule) → s.current ≡ o → lexemes_of text ≡ before ++ [] → Leads 1 start before s → Answer text
at-end text before s None f e h =
    let ends : s ≡ state_of s.done None = ap (state_of s.done) f in
    inl (netlist s, subst (λ l. Leads 1 start l (state_of s.done None)) (sym (e ∙ append-nil before)) (subst (Leads 1 start before) ends h))
at-end text before s (Some o) f e h = inr (
  length before + 1,
  record {
    before = before;
    left = [];
    state = s;
    whole = e;
    leads = h;
    count = refl;
    stuck = λ ls more form c l is step-on. absurd (cc);
    unfinished = λ none. ap is_some f;
  },
)

at-next : (text : List ℕ) (before : List (List Lexeme)) (ls : List Lexeme) (more : List (List Lexeme)) (s : State) (o : Option State) →
    ((c : State) → Leads 1 start (before ++ ls ∷ []) c → Answer text) → after_lexemes (length before + 1) s ls ≡ o → lexemes_of text ≡ before ++ ls ∷ more → Leads 1 start before s → Answer text
at-next text before ls more s (Some c) on f e h =
    let place : 1 + length before ≡ length before + 1 = omega arith in
    on c (leads-push 1 start s c before ls h (ap (λ n. after_lexemes n s ls) place ∙ f))
at-next text before ls more s None on f e h = inr (
  length before + 1,
  record {
    before = before;
    left = ls ∷ more;
    state = s;
    whole = e;
    leads = h;
    count = refl;
    stuck = λ l rest form c w is step-on. let same : l ≡ ls = cc in no-step (length before + 1) s c l form (ap (after_lexemes (length before + 1) s) same ∙ f) is step-on;
    unfinished = λ none. absurd (cc);
  },
)

go-on : (text : List ℕ) (before left : List (List Lexeme)) (s : State) → lexemes_of text ≡ before ++ left → Leads 1 start before s → Answer text
go-on text before [] s e h = at-end text before s s.current refl e h
go-on text before (ls ∷ more) s e h =
    at-next text before ls more s (after_lexemes (length before + 1) s ls)
    (λ c leads. go-on text (before ++ ls ∷ []) more c (e ∙ sym (append_assoc before (ls ∷ []) more)) leads) refl e h

pub an_answer : HaveAnAnswer
an_answer text = go-on text [] (lexemes_of text) start refl refl
