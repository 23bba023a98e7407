-- Answers on the texts that a command works on.
use Rattle.std.proofs.Common.{◌≡◌, ℕ, List, [], ◌∷◌, sym, subst, ap, ◌∙◌, inl, inr, Result, Ok, Err, IfOk, IfErr}
use Rattle.mintc_text.specs.declared.limits.Most.{Most}
use Rattle.mintc_text.specs.Refusals.{refusal_line}
use Rattle.mintc_text.specs.declared.refusals.Refusal.{Refusal}
use Rattle.mintc_text.specs.declared.refusals.Refusal.TheVariants as refusal
use Rattle.mintc_text.specs.declared.refusals.Role.{Role}
use Rattle.mintc_text.specs.declared.refusals.Stop.{Stop}
use Rattle.mintc_text.specs.declared.refusals.Stop.TheVariants as stop
use Rattle.mintc_text.specs.Stops.{StopsAt}
use Rattle.mintc_command_answers.specs.Answers.{IsAnswerOn, IsContentRefusal, IsDefined, IsRefusalText, too_long, of_contents}
use Rattle.mintc_command_answers.specs.Contents.{content_roles, sample_texts}
use Rattle.mintc_command_answers.specs.Sources.{AreShort, IsLengthRefusal}
use Rattle.mintc_command_answers.specs.declared.answer.Answer.{Answer}
use Rattle.mintc_command_answers.specs.declared.command.Command.{Command}
use Rattle.mintc_command_answers.specs.declared.command.Command.TheVariants.{OfDesign, Sample, Corners}
use Rattle.mintc_command_answers.specs.declared.status.Status.{Status}
use Rattle.mintc_command_answers.specs.declared.status.Status.TheVariants.{Refused}

-- what a call says that stops at a refusal
pub stopped : {A : Type 0} (P : Refusal → Type 0) (answer r : Result A Stop) (s : Stop) (refused : Refusal) → answer ≡ r → answer ≡ Err s → s ≡ stop.Refused refused →
    IfErr r (StopsAt P) → P refused
stopped {A} P answer r s refused same is told h =
    let Q : Result A Stop → Type 0 = λ x. IfErr x (StopsAt P) in
    subst Q (sym same ∙ is ∙ ap (λ (x : Stop). Err x) told) h

-- In a run with these limits.
module _ (most : Most) where
  -- The answer on the texts of a sample is that of its command.
  pub sampled : {E : Type 0} (r : Result Answer E) (command : Command) (number : ℕ) (files texts : List (List ℕ)) → command ≡ Sample number → texts ≡ sample_texts number →
      IfOk r (λ (a : Answer). IsAnswerOn most (Sample number) texts a.status a.text) → IfOk r (λ (a : Answer). IsDefined most command files a.status a.text)
  sampled (Err e) command number files texts is same h = tt
  sampled (Ok a) command number files texts is same h =
      let P : List (List ℕ) → Type 0 = λ x. IsAnswerOn most (Sample number) x a.status a.text in
      let Q : Command → Type 0 = λ x. IsDefined most x files a.status a.text in
      let own : IsDefined most (Sample number) files a.status a.text = subst P same h in
      subst Q (sym is) own

  -- The text of a refusal for its length is its line, whatever the command.
  length_text : (command : Command) (texts : List (List ℕ)) (roles : List Role) (files : List (List ℕ)) (refused : Refusal) (text : List ℕ) → IsLengthRefusal most roles files refused →
      text ≡ refusal_line refused → IsRefusalText most command texts refused text
  length_text command texts [] files refused text h line = absurd h
  length_text command texts (r ∷ roles) [] refused text h line = absurd h
  length_text (OfDesign job source) texts (r ∷ roles) (bytes ∷ files) refused text (inl h) line = line
  length_text (Sample number) texts (r ∷ roles) (bytes ∷ files) refused text (inl h) line = line
  length_text (Corners count) texts (r ∷ roles) (bytes ∷ files) refused text (inl h) line =
      let own : IsRefusalText most (Corners count) texts (refusal.TooLong r) text = line ∙ ap refusal_line h.1 in
      subst (λ (x : Refusal). IsRefusalText most (Corners count) texts x text) (sym h.1) own
  length_text command texts (r ∷ roles) (bytes ∷ files) refused text (inr h) line = length_text command texts roles files refused text h.1 line

  pub refused_length : {E : Type 0} (r : Result Answer E) (command : Command) (texts : List (List ℕ)) (roles : List Role) (refused : Refusal) → roles ≡ content_roles command →
      IsLengthRefusal most roles texts refused → IfOk r (λ (a : Answer). a.status ≡ Refused) → IfOk r (λ (a : Answer). a.text ≡ refusal_line refused) →
      IfOk r (λ (a : Answer). IsAnswerOn most command texts a.status a.text)
  refused_length (Err e) command texts roles refused same h s t = tt
  refused_length (Ok a) command texts roles refused same h s t =
      let own : IsLengthRefusal most (content_roles command) texts refused = subst (λ (x : List Role). IsLengthRefusal most x texts refused) same h in
      let answer : IsAnswerOn most command texts Refused a.text = (refused, too_long own, length_text command texts roles texts refused a.text h t) in
      subst (λ (x : Status). IsAnswerOn most command texts x a.text) (sym s) answer

  -- The text of another refusal is its line, where the command isn't `corners`.
  pub refused_content : {E : Type 0} (r : Result Answer E) (command own : Command) (texts : List (List ℕ)) (refused : Refusal) → ((text : List ℕ) → text ≡ refusal_line refused →
      IsRefusalText most own texts refused text) → command ≡ own → AreShort most texts → IsContentRefusal most own texts refused → IfOk r (λ (a : Answer). a.status ≡ Refused) →
      IfOk r (λ (a : Answer). a.text ≡ refusal_line refused) → IfOk r (λ (a : Answer). IsAnswerOn most command texts a.status a.text)
  refused_content (Err e) command own texts refused said is short h s t = tt
  refused_content (Ok a) command own texts refused said is short h s t =
      let answer : IsAnswerOn most own texts Refused a.text = (refused, of_contents short h, said a.text t) in
      subst (λ (x : Command). IsAnswerOn most x texts a.status a.text) (sym is) (subst (λ (x : Status). IsAnswerOn most own texts x a.text) (sym s) answer)
