-- Where times stand.
use Rattle.std.proofs.Common.{◌≡◌, ℕ, ◌+◌, ◌*◌, ◌<◌, ◌≤◌, ℤ, pos, negsuc, ◌≤ℤ◌, ◌<ℤ◌, ◌+ℤ◌, ◌-ℤ◌, ◌*ℤ◌, refl, ap, ◌∙◌, sym, subst, arith}
use Rattle.std.specs.Prelude.{unsigned_abs}
use Rattle.std.specs.Int.{int_div_euclid, int_max, int_min}
use Rattle.std.proofs.lemmas.Int.{ints, clamps}
use Rattle.std.proofs.Math.Nat.{div-add-mod, mod-lt, mul-le-mul_left, mul-le-mul_right}
use borrow.Author.Differences.{up, down}
use Rattle.mintcx_picture.specs.declared.scale.Scale.{Scale}
use Rattle.mintcx_picture.specs.Places.{IsNearest, IsScale, exact_of, pixels_of, place_of, shown_time, span_of, twice_span}

-- the quotient that is rounded down
pub quotient_low : (x y : ℤ) → pos 1 ≤ℤ y → (int_div_euclid x y *ℤ y) ≤ℤ x
quotient_low (pos a) (pos b) p = omega (arith, ints, div-add-mod a b)
quotient_low (negsuc a) (pos b) p =
    let some : 0 < b = omega (arith, ints) in
    omega (arith, ints, div-add-mod a b, mod-lt a some)
quotient_low x (negsuc b) p = absurd (omega (arith, ints))

pub quotient_high : (x y : ℤ) → pos 1 ≤ℤ y → x <ℤ (int_div_euclid x y *ℤ y +ℤ y)
quotient_high (pos a) (pos b) p =
    let some : 0 < b = omega (arith, ints) in
    omega (arith, ints, div-add-mod a b, mod-lt a some)
quotient_high (negsuc a) (pos b) p = omega (arith, ints, div-add-mod a b)
quotient_high x (negsuc b) p = absurd (omega (arith, ints))

-- half a pixel more, rounded down, is the nearest one
below_of : (n p v y : ℤ) → y ≡ v +ℤ v → (n +ℤ v) <ℤ (p +ℤ y) → n <ℤ (p +ℤ v)
below_of n p v y twice h = omega (arith, ints, twice, h)

twice_some : (v : ℤ) → pos 1 ≤ℤ v → pos 1 ≤ℤ (v +ℤ v)
twice_some v some = omega (arith, ints, some)

nearest_pixels : (scale : Scale) (time : ℤ) → pos 1 ≤ℤ span_of scale → IsNearest scale time (pixels_of scale time)
nearest_pixels scale time some =
    let n = exact_of scale time +ℤ exact_of scale time in
    let q = pixels_of scale time in
    let v = span_of scale in
    let positive : pos 1 ≤ℤ twice_span scale = twice_some v some in
    record {
      above = quotient_low (n +ℤ v) (twice_span scale) positive;
      below = below_of n (q *ℤ twice_span scale) v (twice_span scale) refl (quotient_high (n +ℤ v) (twice_span scale) positive);
    }

-- a number of pixels that is nearest to a part of a whole is from 0 to the whole
not_below : (q n v y : ℤ) → pos 1 ≤ℤ v → y ≡ v +ℤ v → pos 0 ≤ℤ n → n <ℤ (q *ℤ y +ℤ v) → pos 0 ≤ℤ q
not_below (pos q) n v y some twice size less = omega (arith, ints)
not_below (negsuc q) n v (pos b) some twice size less =
    let e : q * 0 ≤ q * b = mul-le-mul_left q (omega arith) in
    absurd (omega (arith, ints, e, some, twice, size, less))
not_below (negsuc q) n v (negsuc b) some twice size less = absurd (omega (arith, ints, some, twice))

not_above : (q n v y : ℤ) (w : ℕ) → pos 1 ≤ℤ v → y ≡ v +ℤ v → n ≤ℤ (v *ℤ pos w) → (q *ℤ y) ≤ℤ (n +ℤ n +ℤ v) → q ≤ℤ pos w
not_above (negsuc q) n v y w some twice most less = omega (arith, ints)
not_above (pos q) n (pos v) (pos b) w some twice most less =
    let f : w + 1 ≤ q → (w + 1) * b ≤ q * b = λ h. mul-le-mul_right b h in
    let same : b ≡ v + v = omega (arith, ints, twice) in
    let product : w * b ≡ w * v + w * v = ap (λ k. w * k) same ∙ omega arith in
    grind (arith, ints, f, same, product, most, less, some)
not_above (pos q) n (negsuc v) y w some twice most less = absurd (omega (arith, ints, some))
not_above (pos q) n (pos v) (negsuc b) w some twice most less = absurd (omega (arith, ints, some, twice))

-- an order, times a number
times-mono : (x y : ℤ) (n : ℕ) → x ≤ℤ y → (x *ℤ pos n) ≤ℤ (y *ℤ pos n)
times-mono x y n h =
    let e : up x + down y ≤ up y + down x = omega (arith, ints) in
    omega (arith, ints, mul-le-mul_left n e)

sum_some : (n : ℤ) → pos 0 ≤ℤ n → pos 0 ≤ℤ (n +ℤ n)
sum_some n some = omega (arith, ints, some)

exact_some : (d : ℤ) (w : ℕ) → pos 0 ≤ℤ d → pos 0 ≤ℤ (d *ℤ pos w)
exact_some d w some = let h = times-mono (pos 0) d w some in omega (arith, ints, h)

span_some : (scale : Scale) → IsScale scale → pos 1 ≤ℤ span_of scale
span_some scale h = omega (arith, ints, h.some)

-- so the pixels of a time of the stretch are from 0 to all of them
pub inside_low : (scale : Scale) (time : ℤ) → IsScale scale → scale.first ≤ℤ time → pos 0 ≤ℤ pixels_of scale time
inside_low scale time h first =
    let some = span_some scale h in
    not_below (pixels_of scale time) (exact_of scale time +ℤ exact_of scale time) (span_of scale) (twice_span scale) some refl
    (sum_some (exact_of scale time) (exact_some (time -ℤ scale.first) scale.wide (omega (arith, ints, first)))) (nearest_pixels scale time some).below

pub inside_high : (scale : Scale) (time : ℤ) → IsScale scale → time ≤ℤ scale.last → pixels_of scale time ≤ℤ pos scale.wide
inside_high scale time h last =
    let some = span_some scale h in
    not_above (pixels_of scale time) (exact_of scale time) (span_of scale) (twice_span scale) scale.wide some refl
    (times-mono (time -ℤ scale.first) (span_of scale) scale.wide (omega (arith, ints, last))) (nearest_pixels scale time some).above

-- a time of the stretch is shown where it is
shown_same : (first last time : ℤ) → first ≤ℤ time → time ≤ℤ last → int_min (int_max time first) last ≡ time
shown_same first last time low high = omega (arith, ints, clamps, low, high)

back : (q : ℤ) → pos 0 ≤ℤ q → pos (272 + unsigned_abs q) -ℤ pos 272 ≡ q
back (pos q) h = omega (arith, ints)
back (negsuc q) h = absurd (omega (arith, ints))

pub nearest : (scale : Scale) (time : ℤ) → IsScale scale → scale.first ≤ℤ time → time ≤ℤ scale.last →
    IsNearest scale time (pos (place_of scale time) -ℤ pos 272)
nearest scale time h first last =
    let same : pixels_of scale (shown_time scale time) ≡ pixels_of scale time = ap (pixels_of scale) (shown_same scale.first scale.last time first last) in
    let is : pos (place_of scale time) -ℤ pos 272 ≡ pixels_of scale time =
    ap (λ (q : ℤ). pos (272 + unsigned_abs q) -ℤ pos 272) same ∙ back (pixels_of scale time) (inside_low scale time h first) in
    subst (IsNearest scale time) (sym is) (nearest_pixels scale time (span_some scale h))

-- a time taken so many times
pub times_low : (time : ℤ) (wide : ℕ) → negsuc 99999999999999999999999 ≤ℤ time → wide ≤ 2400 → negsuc 239999999999999999999999999 ≤ℤ (time *ℤ pos wide)
times_low time wide low most = let h = times-mono (negsuc 99999999999999999999999) time wide low in omega (arith, ints)

pub times_high : (time : ℤ) (wide : ℕ) → time ≤ℤ pos 100000000000000000000000 → wide ≤ 2400 → (time *ℤ pos wide) ≤ℤ pos 240000000000000000000000000
times_high time wide high most = let h = times-mono time (pos 100000000000000000000000) wide high in omega (arith, ints)

size : (q : ℤ) (w : ℕ) → pos 0 ≤ℤ q → q ≤ℤ pos w → unsigned_abs q ≤ w
size (pos q) w low high = omega (arith, ints, high)
size (negsuc q) w low high = absurd (omega (arith, ints, low))

-- the pixels of what is shown
pub pixels_size : (scale : Scale) (time : ℤ) → IsScale scale → scale.first ≤ℤ time → time ≤ℤ scale.last → unsigned_abs (pixels_of scale time) ≤ scale.wide
pixels_size scale time h first last = size (pixels_of scale time) scale.wide (inside_low scale time h first) (inside_high scale time h last)
