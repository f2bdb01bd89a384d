-- Runs of bytes put in turn, from the front on or from the back: with the rest put from here the buffer is what it shall be.
-- Rests on the laws of `put` of Bytes.antt.
use mathlib.Core.Path.{◌≡◌, refl, ap, sym, ◌∙◌}
use mathlib.Core.List.{List, [], ◌∷◌, ◌++◌, append_assoc}
use Prim.Native.Nat.{ℕ, suc, ◌+◌, ◌≤◌, ◌<◌}
use native.Mathlib.Omega.{arith}
use lib.ListN.{length, set, take, drop, length-append}
use lib.Seq.{take-set-le, set_split, take-take, take-append-le, take_at, drop_at, drop-append-add, length-take-le}
use Rattle.fields.specs.Writing.{put, Wrote}
use Rattle.fields.proofs.Bytes.{put-none, put-put, put_one}

-- one run and then the next
pub wrote_then : {b c d : List ℕ} {at r q : ℕ} (xs ys : List ℕ) → Wrote b at xs c r → Wrote c r ys d q → at ≤ length b → Wrote b at (xs ++ ys) d q
wrote_then {b} {at = at} xs ys u v h =
    record { holds = rw (v.holds, u.holds, u.next) (put-put b xs ys at h); next = omega (arith, u.next, v.next, length-append xs ys) }

-- and a single byte
pub wrote-byte : {b c : List ℕ} {at r : ℕ} (xs : List ℕ) (x : ℕ) → Wrote b at xs c r → at ≤ length b → r + 1 ≤ length c → Wrote b at (xs ++ (x ∷ [])) (set c r x) (r + 1)
wrote-byte {c = c} {r = r} xs x w h l = wrote_then xs (x ∷ []) w (record { holds = put_one c r x l; next = refl }) h

-- a run whose last byte was stored first
pub put_last : (b xs : List ℕ) (at d : ℕ) → at + length xs < length b → put (set b (at + length xs) d) at xs ≡ put b at (xs ++ (d ∷ []))
unfolding put
put_last b xs at d h =
    let k = at + length xs in
    let z : at + length (xs ++ (d ∷ [])) ≡ suc k = omega (arith, length-append xs (d ∷ [])) in
    let y : drop k (set b k d) ≡ d ∷ drop (suc k) b = ap (drop k) (set_split b k d h) ∙ drop_at (take k b) (d ∷ drop (suc k) b) k (length-take-le k b (omega arith)) in
    rw (take-set-le at b k d (omega arith), y, z) (simp append_assoc)

-- a run, and then what stands before it
put-before : (b xs ys : List ℕ) (at : ℕ) → at + length xs ≤ length b → put (put b (at + length xs) ys) at xs ≡ put b at (xs ++ ys)
unfolding put
put-before b xs ys at h =
    let k = at + length xs in
    let rest = drop (k + length ys) b in
    let t : take at (take k b ++ ys ++ rest) ≡ take at b =
    ap (take at) (append_assoc (take k b) ys rest) ∙ take-append-le at (take k b) (ys ++ rest) (omega (arith, length-take-le k b h)) ∙ take-take at k b (omega arith) in
    let d : drop k (take k b ++ ys ++ rest) ≡ ys ++ rest = ap (drop k) (append_assoc (take k b) ys rest) ∙ drop_at (take k b) (ys ++ rest) k (length-take-le k b h) in
    let e : k + length ys ≡ at + length (xs ++ ys) = omega (arith, length-append xs ys) in
    rw (t, d, ← e) (simp append_assoc)

pub wrote-before : {b c d : List ℕ} {at r q : ℕ} (xs ys : List ℕ) → Wrote b r ys c q → Wrote c at xs d r → r ≤ length b → Wrote b at (xs ++ ys) d q
wrote-before {b} {at = at} xs ys u v h =
    record { holds = rw (v.holds, u.holds, v.next) (put-before b xs ys at (omega (arith, v.next))); next = omega (arith, u.next, v.next, length-append xs ys) }

-- a run whose end is put over
put-over : (b xs ys zs : List ℕ) (at : ℕ) → length ys ≡ length zs → at ≤ length b → put (put b at (xs ++ ys)) (at + length xs) zs ≡ put b at (xs ++ zs)
unfolding put
put-over b xs ys zs at e h =
    let k = at + length xs in
    let p = take at b ++ xs in
    let rest = drop (at + length (xs ++ ys)) b in
    let l : length p ≡ k = omega (arith, length-append (take at b) xs, length-take-le at b h) in
    let n : at + length (xs ++ ys) ≡ at + length (xs ++ zs) = omega (arith, length-append xs ys, length-append xs zs) in
    let s : take at b ++ (xs ++ ys) ++ rest ≡ p ++ (ys ++ rest) = simp append_assoc in
    let t : take k (take at b ++ (xs ++ ys) ++ rest) ≡ p = ap (take k) s ∙ take_at p (ys ++ rest) k l in
    let d : drop (k + length zs) (take at b ++ (xs ++ ys) ++ rest) ≡ rest =
    ap (drop (k + length zs)) s ∙ ap (λ (i : ℕ). drop (i + length zs) (p ++ (ys ++ rest))) (sym l) ∙ drop-append-add p (ys ++ rest) (length zs) ∙ drop_at ys rest (length zs) e in
    rw (t, d, n) (simp append_assoc)

pub wrote-over : {b c d : List ℕ} {at r q : ℕ} (xs ys zs : List ℕ) → length ys ≡ length zs → Wrote b at (xs ++ ys) c q → Wrote c r zs d q → at ≤ length b → Wrote b at (xs ++ zs) d q
wrote-over {b} {at = at} {r} xs ys zs e u v h =
    let z : r ≡ at + length xs = omega (arith, u.next, v.next, length-append xs ys) in
    record { holds = rw (v.holds, u.holds, z) (put-over b xs ys zs at e h); next = omega (arith, u.next, length-append xs ys, length-append xs zs) }

-- with the rest put from here, b is what it shall be
pub record Putting (b₀ : List ℕ) (from : ℕ) (whole b : List ℕ) (at : ℕ) (rest : List ℕ) : Type 0 where
  pub same : put b at rest ≡ put b₀ from whole
  pub offset : at + length rest ≡ from + length whole
  pub long : length b ≡ length b₀

pub putting-init : (b : List ℕ) (from : ℕ) (whole : List ℕ) → Putting b from whole b from whole
putting-init b from whole = record { same = refl; offset = refl; long = refl }

pub putting-step : {b₀ whole b c : List ℕ} {from at r : ℕ} (xs rest : List ℕ) → Putting b₀ from whole b at (xs ++ rest) → at ≤ length b → Wrote b at xs c r → length c ≡ length b
    → Putting b₀ from whole c r rest
putting-step {b = b} {at = at} xs rest w h k l =
    record {
      same = rw (k.holds, k.next) (put-put b xs rest at h ∙ w.same);
      offset = omega (arith, k.next, w.offset, length-append xs rest);
      long = l ∙ w.long;
    }

pub putting-exit : {b₀ whole b : List ℕ} {from at : ℕ} → Putting b₀ from whole b at [] → Wrote b₀ from whole b at
putting-exit {b = b} {at = at} w = record { holds = sym (put-none b at) ∙ w.same; next = omega (arith, w.offset) }
