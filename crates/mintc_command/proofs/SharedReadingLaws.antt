-- What is held of the files after each read.
use Rattle.std.proofs.Common.{◌≡◌, ◌≤◌, ◌+◌, ℕ, List, [], ◌∷◌, ◌++◌, length, arith, refl, ◌∙◌, Option, Some, None}
use Rattle.std.specs.List.{AllZip}
use Rattle.std.proofs.lemmas.List.{length-append}
use Rattle.std.proofs.lemmas.List.Elements.{All-nil, All-cons, All-append}
use Rattle.mintc_text.specs.Outside.{Files, Holds, IsFront, Rose}
use Rattle.mintc_command.specs.Answers.{AreFronts, HoldsAll, MakesAtMost}
use Rattle.mintc_command.proofs.SharedCalls.{MakesAtMost-none, MakesAtMost-sum}

-- A shelf after the files of some names were read: what it is now, against what it was.
pub record IsReading (old now : Option Files) (old_faults now_faults : ℕ) (old_calls now_calls : Option ℕ) (most : ℕ) (names fronts : List (List ℕ)) : Type 0 where
  pub are_fronts : AreFronts old most names fronts
  pub all_held : HoldsAll old names
  pub same : now ≡ old
  pub later : old_faults ≤ now_faults
  pub calls : MakesAtMost (length names) old_calls now_calls

AllZip-push : {A B : Type 0} (R : A → B → Type 0) (xs : List A) (ys : List B) (x : A) (y : B) → AllZip R xs ys → R x y → AllZip R (xs ++ x ∷ []) (ys ++ y ∷ [])
AllZip-push R [] [] x y h r = (r, tt)
AllZip-push R [] (b ∷ ys) x y h r = absurd h
AllZip-push R (a ∷ xs) [] x y h r = absurd h
AllZip-push R (a ∷ xs) (b ∷ ys) x y h r = (h.0, AllZip-push R xs ys x y h.1 r)

Holds-front : (files : Option Files) (name : List ℕ) (most : ℕ) (front : List ℕ) → IsFront files name most front → Holds files name
Holds-front None name most front h = h
Holds-front (Some files) name most front h = (h.0, h.1)

pub IsReading-none : (old : Option Files) (faults : ℕ) (calls : Option ℕ) (most : ℕ) → IsReading old old faults faults calls calls most [] []
IsReading-none old faults calls most = record {
  are_fronts = tt;
  all_held = All-nil (Holds old);
  same = refl;
  later = omega arith;
  calls = MakesAtMost-none calls;
}

pub IsReading-more : (old now next : Option Files) (f g h : ℕ) (c d e : Option ℕ) (most : ℕ) (names fronts : List (List ℕ)) (name front : List ℕ) →
    IsReading old now f g c d most names fronts → IsFront now name most front → next ≡ now → g ≤ h → MakesAtMost 1 d e →
    IsReading old next f h c e most (names ++ name ∷ []) (fronts ++ front ∷ [])
IsReading-more old now next f g h c d e most names fronts name front r is_front same later counted =
    let here : IsFront old name most front = rw r.same at is_front in
    let count : length (names ++ name ∷ []) ≡ length names + 1 = length-append names (name ∷ []) in
    record {
      are_fronts = AllZip-push (λ n b. IsFront old n most b) names fronts name front r.are_fronts here;
      all_held = All-append (Holds old) names (name ∷ []) r.all_held (All-cons (Holds old) name [] (Holds-front old name most front here) (All-nil (Holds old)));
      same = same ∙ r.same;
      later = let a = r.later in omega arith;
      calls = rw count (MakesAtMost-sum (length names) 1 c d e r.calls counted);
    }

pub Rose-later : (a b c : ℕ) → a ≤ b → Rose b c → Rose a c
Rose-later a b c h g = omega (arith, g)
