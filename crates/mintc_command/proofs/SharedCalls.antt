-- How many calls of the outside are made.
use Rattle.std.proofs.Common.{◌≡◌, ℕ, ◌+◌, ◌≤◌, ◌^◌, ◌-◌, Option, Some, None, arith, refl, min}
use Rattle.mintc_text.specs.Outside.{CountsCall}
use Rattle.mintc_command.specs.Answers.{MakesAtMost}

-- no call, one call, and one call more
pub MakesAtMost-none : (calls : Option ℕ) → MakesAtMost 0 calls calls
MakesAtMost-none None = refl
MakesAtMost-none (Some n) = (n, refl, omega arith)

pub MakesAtMost-more : (count : ℕ) (a b c : Option ℕ) → MakesAtMost count a b → CountsCall b c → MakesAtMost (count + 1) a c
MakesAtMost-more count None b c h g = let e : CountsCall None c = rw h at g in e
MakesAtMost-more count (Some n) b c h g =
    let e : c ≡ Some (min (h.0 + 1) (2 ^ 32 - 1)) = rw h.1 at g in
    (min (h.0 + 1) (2 ^ 32 - 1), e, omega (arith, h.2))

pub MakesAtMost-one : (a b : Option ℕ) → CountsCall a b → MakesAtMost 1 a b
MakesAtMost-one a b h = MakesAtMost-more 0 a a b (MakesAtMost-none a) h

pub MakesAtMost-fewer : (few many : ℕ) (a b : Option ℕ) → few ≤ many → MakesAtMost few a b → MakesAtMost many a b
MakesAtMost-fewer few many None b h g = g
MakesAtMost-fewer few many (Some n) b h g = (g.0, g.1, omega (arith, g.2))

-- calls add up
pub MakesAtMost-sum : (few more : ℕ) (a b c : Option ℕ) → MakesAtMost few a b → MakesAtMost more b c → MakesAtMost (few + more) a c
MakesAtMost-sum few more None b c h g = let e : MakesAtMost more None c = rw h at g in e
MakesAtMost-sum few more (Some n) b c h g =
    let e : MakesAtMost more (Some h.0) c = rw h.1 at g in
    (e.0, e.1, omega (arith, h.2, e.2))
