-- Numbers as bytes: put then read, read then put, by one law each over the width.
-- Rests on the definitions of `be`, `spell` and `put`.
use mathlib.Core.Path.{◌≡◌, refl, ap, sym, ◌∙◌}
use mathlib.Core.List.{List, [], ◌∷◌, ◌++◌, append_assoc, append-nil}
use Prim.Native.Nat.{ℕ, zero, suc, ◌+◌, ◌-◌, ◌*◌, ◌/◌, ◌%◌, ◌^◌, ◌≤◌, ◌<◌}
use native.Mathlib.Omega.{arith}
use native.Mathlib.Numerals.{add-one}
use native.Mathlib.Nat.{add-zero, zero-add, pow-suc}
use lib.ListN.{length, get_or, set, take, drop, length-append, take-append-drop}
use lib.Seq.{sets-eq, take_at, drop-append-add, drop-drop, length-take-le}
use lib.Dec.{lit<}
use lib.IntN.{ℤ}
use mir.Syntax.{w8, w16, w32}
use Rattle.std.specs.Int.{to_be_bytes}
use borrow.Rule.Slice.PartMut.{put_mid}
use mir.Val.{to_z, of_z, Fits, SFits}
use mir.ValLaws.{to_z-of_z}
use Rattle.fields.specs.Reading.{be}
use Rattle.fields.specs.Writing.{spell, put}

-- ---- what stands where

pub spell-length : (w x : ℕ) → length (spell w x) ≡ w
unfolding spell
spell-length zero x = refl
spell-length (suc w) x = length-append (spell w (x / 256)) (x % 256 ∷ []) ∙ (let e = spell-length w (x / 256) in omega arith)

-- one run and then the next are both
pub put-none : (b : List ℕ) (at : ℕ) → put b at [] ≡ b
unfolding put
put-none b at =
    ap (λ (l : List ℕ). l ++ drop (at + 0) b) (append-nil (take at b)) ∙ ap (λ (k : ℕ). take at b ++ drop k b) (add-zero at) ∙ take-append-drop at b

pub put-put : (b xs ys : List ℕ) (at : ℕ) → at ≤ length b → put (put b at xs) (at + length xs) ys ≡ put b at (xs ++ ys)
unfolding put
put-put b xs ys at h =
    let p = take at b ++ xs in
    let k = at + length xs in
    let e : length p ≡ k = omega (arith, length-append (take at b) xs, length-take-le at b h) in
    let z : k + length ys ≡ at + length (xs ++ ys) = omega (arith, length-append xs ys) in
    ap (λ (l : List ℕ). (l ++ ys) ++ drop (k + length ys) (p ++ drop k b)) (take_at p (drop k b) k e)
    ∙ ap (λ (l : List ℕ). (p ++ ys) ++ l)
    (ap (λ (n : ℕ). drop (n + length ys) (p ++ drop k b)) (sym e) ∙ drop-append-add p (drop k b) (length ys) ∙ drop-drop (length ys) k b)
    ∙ ap (λ (l : List ℕ). l ++ drop (k + length ys) b) (append_assoc (take at b) xs ys)
    ∙ ap (λ (n : ℕ). take at b ++ (xs ++ ys) ++ drop n b) z

-- stores in a row are a run
pub put_one : (b : List ℕ) (at x : ℕ) → at + 1 ≤ length b → set b at x ≡ put b at (x ∷ [])
unfolding put
put_one b at x h = sets-eq (x ∷ []) b at h

pub put_two : (b : List ℕ) (at x y : ℕ) → at + 2 ≤ length b → set (set b at x) (at + 1) y ≡ put b at (x ∷ y ∷ [])
unfolding put
put_two b at x y h = rw (add-one at) (sets-eq (x ∷ y ∷ []) b at h)

pub put_four : (b : List ℕ) (at p q r s : ℕ) → at + 4 ≤ length b
    → set (set (set (set b at p) (at + 1) q) (at + 2) r) (at + 3) s ≡ put b at (p ∷ q ∷ r ∷ s ∷ [])
unfolding put
put_four b at p q r s h =
    let e2 : at + 2 ≡ suc (suc at) = omega arith in
    let e3 : at + 3 ≡ suc (suc (suc at)) = omega arith in
    rw (add-one at, e2, e3) (sets-eq (p ∷ q ∷ r ∷ s ∷ []) b at h)

-- ---- the numbers of 1, 2 and 4 bytes

pub spell1 : (x : ℕ) → x < 256 → spell 1 x ≡ x ∷ []
unfolding spell
spell1 x h = ap (λ (n : ℕ). n ∷ []) (omega arith)

pub spell2 : (x : ℕ) → spell 2 x ≡ x / 256 % 256 ∷ x % 256 ∷ []
unfolding spell
spell2 x = refl

pub spell4 : (x : ℕ) → spell 4 x ≡ x / 16777216 % 256 ∷ x / 65536 % 256 ∷ x / 256 % 256 ∷ x % 256 ∷ []
unfolding spell
spell4 x =
    let a : x / 256 / 256 / 256 % 256 ≡ x / 16777216 % 256 = omega arith in
    let b : x / 256 / 256 % 256 ≡ x / 65536 % 256 = omega arith in
    rw (a, b)

pub be2 : (s : List ℕ) (p : ℕ) → be 2 s p ≡ get_or s p 0 * 256 + get_or s (p + 1) 0
unfolding be
be2 s p = simp (add-zero, zero-add)

pub be4 : (s : List ℕ) (p : ℕ) → be 4 s p ≡ ((get_or s p 0 * 256 + get_or s (p + 1) 0) * 256 + get_or s (p + 2) 0) * 256 + get_or s (p + 3) 0
unfolding be
be4 s p = simp (add-zero, zero-add)

-- ---- what a function that puts a number shows

pub put1 : (b : List ℕ) (at x : ℕ) → x < 256 → at + 1 ≤ length b → set b at x ≡ put b at (spell 1 x)
put1 b at x e h = rw (spell1 x e) (put_one b at x h)

pub put2 : (b : List ℕ) (at x : ℕ) → at + 2 ≤ length b → set (set b at (x / 256 % 256)) (at + 1) (x % 256) ≡ put b at (spell 2 x)
put2 b at x h = rw (spell2 x) (put_two b at _ _ h)

pub put4 : (b : List ℕ) (at x : ℕ) → at + 4 ≤ length b
    → set (set (set (set b at (x / 16777216 % 256)) (at + 1) (x / 65536 % 256)) (at + 2) (x / 256 % 256)) (at + 3) (x % 256) ≡ put b at (spell 4 x)
put4 b at x h = rw (spell4 x) (put_four b at _ _ _ _ h)

pub put-signed : (b : List ℕ) (at : ℕ) (z : ℤ) {u : ℕ} {c : List ℕ} → c ≡ put b at (spell 4 u) → u ≡ of_z w32 (to_z w32 (of_z w32 z)) → SFits w32 z
    → c ≡ put b at (spell 4 (of_z w32 z))
put-signed b at z e h f = e ∙ ap (λ (n : ℕ). put b at (spell 4 n)) (h ∙ ap (of_z w32) (to_z-of_z w32 z f))

-- ---- round trips

-- equal bytes spell equal numbers
pub be-same : (w : ℕ) (s t : List ℕ) (p q : ℕ) → ((i : ℕ) → i < w → get_or s (p + i) 0 ≡ get_or t (q + i) 0) → be w s p ≡ be w t q
unfolding be
be-same zero s t p q h = refl
be-same (suc w) s t p q h =
    let a = be-same w s t p q (λ i k. h i (omega arith)) in
    let b = h w (omega arith) in
    omega arith

-- every element is a byte, as a slice of u8 tells; then a number of w bytes is below 256 ^ w
abbrev pub Bytes : List ℕ → Type 0
Bytes s = (i : ℕ) → Fits w8 (get_or s i 0)

pub be-below : (w : ℕ) (s : List ℕ) (p : ℕ) → Bytes s → be w s p < 256 ^ w
unfolding be
be-below zero s p h = lit< tt
be-below (suc w) s p h =
    let a = be-below w s p h in
    let b = (h (p + w)).fits in
    rw (pow-suc 256 w) (omega arith)

-- a run copied into its part of the buffer
put_part : (b ys : List ℕ) (at w : ℕ) → length ys ≡ w → put_mid at (at + w - at) b ys ≡ put b at ys
unfolding put
put_part b ys at w e =
    let y : at + (at + w - at) ≡ at + length ys = omega (arith, e) in
    rw (drop-drop (at + w - at) at b, y) (sym (append_assoc (take at b) ys (drop (at + length ys) b)))

-- the bytes of a number, as the library has them
pub put_part2 : {ys : List ℕ} (b : List ℕ) (at x : ℕ) → ys ≡ to_be_bytes w16 x → put_mid at (at + 2 - at) b ys ≡ put b at (spell 2 x)
put_part2 {ys} b at x e = put_part b ys at 2 (ap (λ (l : List ℕ). length l) e) ∙ ap (put b at) (e ∙ sym (spell2 x))

pub put_part4 : {ys : List ℕ} (b : List ℕ) (at x : ℕ) → ys ≡ to_be_bytes w32 x → put_mid at (at + 4 - at) b ys ≡ put b at (spell 4 x)
put_part4 {ys} b at x e = put_part b ys at 4 (ap (λ (l : List ℕ). length l) e) ∙ ap (put b at) (e ∙ sym (spell4 x))
