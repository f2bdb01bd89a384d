-- The lines of an input that comes in parts: those of whole records, then those of the rest, are the lines of the input.
-- Rests on reading a field at its place: inside the first part, or beyond it as in the rest.
use mathlib.Core.Path.{◌≡◌, refl, ap, ap₂, sym, ◌∙◌}
use mathlib.Core.Bool.{Bool, true, false, cond}
use mathlib.Core.List.{List, [], ◌++◌, append_assoc, append-nil}
use Prim.Native.Nat.{ℕ, zero, suc, ◌+◌, ◌*◌, ◌≤◌, ◌<◌}
use native.Mathlib.Omega.{arith}
use native.Mathlib.Nat.{zero-add}
use native.Mathlib.Decide.{dec_lt}
use borrow.Author.Tests.{lt-ltb, le-ltb, le-leb, lt-leb}
use lib.Dec.{leb, ltb, eqb}
use lib.ListN.{length, get_or, length-append, get_or-append}
use lib.Seq.{get_or-append-add}
use Rattle.fields.specs.Reading.{Got, got, bad, part, be, whole, field, mark}
use Rattle.fields.proofs.Reading.{whole_got}
use Rattle.fields.proofs.Bytes.{be-same}
use Rattle.lines.specs.Record.{PS, pass_at}
use Rattle.lines.specs.declared.Days.{Days}
use Rattle.lines.specs.Line.{bad_line_of}
use Rattle.calls.specs.Program.{line_for, ends, lines_at, last_at}

module _ (s t : List ℕ) where
  -- ---- a record inside the first part

  be-first : (w p : ℕ) → p + w ≤ length s → be w (s ++ t) p ≡ be w s p
  be-first w p h = be-same w (s ++ t) s p p (λ i l. get_or-append s t 0 (p + i) (omega arith))

  whole-first : (w p : ℕ) → p + w ≤ length s → whole w (s ++ t) p ≡ whole w s p
  whole-first w p h =
      whole_got w (s ++ t) p (omega (arith, length-append s t)) ∙ ap (λ (v : ℕ). got v (p + w)) (be-first w p h) ∙ sym (whole_got w s p h)

  pass-first : (p : ℕ) → p + 6 ≤ length s → pass_at (s ++ t) p ≡ pass_at s p
  unfolding pass_at mark field part
  pass-first p h =
      rw (whole-first 2 p (omega arith), whole_got 2 s p (omega arith)) (go (eqb (be 2 s p) (be 2 PS 0)))
    where
      go : (b : Bool) → ◌≡◌ {A = Got Days}
          (part (cond b (got (be 2 s p) (p + 2)) (bad 1 p)) λ _ p. part (whole 2 (s ++ t) p) λ a p. part (whole 2 (s ++ t) p) λ b p. got (record { a = a; b = b }) p)
          (part (cond b (got (be 2 s p) (p + 2)) (bad 1 p)) λ _ p. part (whole 2 s p) λ a p. part (whole 2 s p) λ b p. got (record { a = a; b = b }) p)
      go true = rw (whole-first 2 (p + 2) (omega arith), whole_got 2 s (p + 2) (omega arith), whole-first 2 (p + 2 + 2) (omega arith))
      go false = refl

  -- ---- a reading beyond it

  abbrev beyond : {A : Type 0} → Got A → Got A
  beyond (got a p) = got a (length s + p)
  beyond (bad n o) = bad n (length s + o)

  part-beyond : {A B : Type 0} (g : Got A) (k j : A → ℕ → Got B) → ((a : A) (p : ℕ) → k a (length s + p) ≡ beyond (j a p)) → part (beyond g) k ≡ beyond (part g j)
  unfolding part
  part-beyond (got a p) k j f = f a p
  part-beyond (bad n o) k j f = refl

  whole-beyond : (w p : ℕ) → whole w (s ++ t) (length s + p) ≡ beyond (whole w t p)
  unfolding whole
  whole-beyond w p = go (dec_lt (length t) (p + w))
    where
      same : be w (s ++ t) (length s + p) ≡ be w t p
      same = be-same w (s ++ t) t (length s + p) p (λ i l. ap (λ (j : ℕ). get_or (s ++ t) j 0) (let z : length s + p + i ≡ length s + (p + i) = omega arith in z) ∙ get_or-append-add s t (p + i) 0)

      go : Dec (length t < p + w) → cond (leb (length s + p + w) (length (s ++ t))) (got (be w (s ++ t) (length s + p)) (length s + p + w)) (bad 2 (length s + p))
          ≡ beyond (cond (leb (p + w) (length t)) (got (be w t p) (p + w)) (bad 2 p))
      go (yes h) = rw (lt-leb (length s + p + w) (length (s ++ t)) (omega (arith, length-append s t)), lt-leb (p + w) (length t) h)
      go (no h) =
          rw (le-leb (length s + p + w) (length (s ++ t)) (omega (arith, length-append s t)), le-leb (p + w) (length t) (omega arith), same)
          (ap (got (be w t p)) (let z : length s + p + w ≡ length s + (p + w) = omega arith in z))

  pass-beyond : (p : ℕ) → pass_at (s ++ t) (length s + p) ≡ beyond (pass_at t p)
  unfolding pass_at mark field
  pass-beyond p =
      ap (λ (g : Got ℕ). part (part g (λ v q. cond (eqb v (be 2 PS 0)) (got v q) (bad 1 (length s + p)))) (after (s ++ t))) (whole-beyond 2 p)
      ∙ ap (λ (g : Got ℕ). part g (after (s ++ t))) (part-beyond (whole 2 t p) _ (λ v q. cond (eqb v (be 2 PS 0)) (got v q) (bad 1 p)) (λ v q. letters (eqb v (be 2 PS 0)) v q))
      ∙ part-beyond (part (whole 2 t p) (λ v q. cond (eqb v (be 2 PS 0)) (got v q) (bad 1 p))) (after (s ++ t)) (after t) (λ _ q. days q)
    where
      after : List ℕ → ℕ → ℕ → Got Days
      after u _ p = part (whole 2 u p) λ a p. part (whole 2 u p) λ b p. got (record { a = a; b = b }) p

      letters : (b : Bool) (v q : ℕ) → cond b (got v (length s + q)) (bad 1 (length s + p)) ≡ beyond (cond b (got v q) (bad 1 p))
      letters true v q = refl
      letters false v q = refl

      days : (q : ℕ) → after (s ++ t) 0 (length s + q) ≡ beyond (after t 0 q)
      days q =
          ap (λ (g : Got ℕ). part g (λ a p. part (whole 2 (s ++ t) p) λ b p. got (record { a = a; b = b }) p)) (whole-beyond 2 q)
          ∙ part-beyond (whole 2 t q) _ (λ a p. part (whole 2 t p) λ b p. got (record { a = a; b = b }) p) (λ a p.
          ap (λ (g : Got ℕ). part g (λ b p. got (record { a = a; b = b }) p)) (whole-beyond 2 p) ∙ part-beyond (whole 2 t p) _ (λ b p. got (record { a = a; b = b }) p) (λ b p. refl))

  -- ---- the lines

  line-beyond : (f p : List ℕ) (from : ℕ) (g : Got Days) → line_for f p from (beyond g) ≡ line_for f p (from + length s) g
  unfolding line_for
  line-beyond f p from (got x q) = refl
  line-beyond f p from (bad n o) = ap (bad_line_of n) (let z : from + (length s + o) ≡ from + length s + o = omega arith in z)

  ends-beyond : (g : Got Days) → ends (beyond g) ≡ ends g
  unfolding ends
  ends-beyond (got x q) = refl
  ends-beyond (bad n o) = refl

  test-beyond : (i : ℕ) → ltb (length s + i) (length (s ++ t)) ≡ ltb i (length t)
  test-beyond i = go (dec_lt i (length t))
    where
      go : Dec (i < length t) → ltb (length s + i) (length (s ++ t)) ≡ ltb i (length t)
      go (yes h) = lt-ltb (length s + i) (length (s ++ t)) (omega (arith, length-append s t)) ∙ sym (lt-ltb i (length t) h)
      go (no h) = le-ltb (length s + i) (length (s ++ t)) (omega (arith, length-append s t)) ∙ sym (le-ltb i (length t) (omega arith))

  module _ (f p : List ℕ) (from : ℕ) where
    lines-beyond : (k i : ℕ) → lines_at f p from (s ++ t) k (length s + i) ≡ lines_at f p (from + length s) t k i
    unfolding lines_at
    lines-beyond zero i = refl
    lines-beyond (suc k) i =
        let z : length s + i + 6 ≡ length s + (i + 6) = omega arith in
        rw (test-beyond i, pass-beyond i, line-beyond f p from (pass_at t i), ends-beyond (pass_at t i), z, lines-beyond k (i + 6))

    lines_join : (k m at : ℕ) → at + 6 * m ≡ length s
        → lines_at f p from (s ++ t) (m + k) at ≡ lines_at f p from s m at ++ cond (last_at s m at) [] (lines_at f p (from + length s) t k 0)
    unfolding lines_at last_at
    lines_join k zero at e =
        let z : at ≡ length s + 0 = omega arith in
        ap₂ (lines_at f p from (s ++ t)) (zero-add k) z ∙ lines-beyond k 0
    lines_join k (suc m) at e =
        let n : suc m + k ≡ suc (m + k) = omega arith in
        rw (n, lt-ltb at (length (s ++ t)) (omega (arith, length-append s t)), lt-ltb at (length s) (omega arith), pass-first at (omega arith))
        (go (ends (pass_at s at)) (lines_at f p from s m (at + 6)) (lines_at f p (from + length s) t k 0) (last_at s m (at + 6)) (lines_join k m (at + 6) (omega arith)))
      where
        go : (b : Bool) {xs : List ℕ} (ys zs : List ℕ) (c : Bool) → xs ≡ ys ++ cond c [] zs
            → line_for f p from (pass_at s at) ++ cond b [] xs ≡ (line_for f p from (pass_at s at) ++ cond b [] ys) ++ cond (cond b true c) [] zs
        go true ys zs c q = sym (append-nil (line_for f p from (pass_at s at) ++ []))
        go false ys zs c q = ap (λ (l : List ℕ). line_for f p from (pass_at s at) ++ l) q ∙ sym (append_assoc (line_for f p from (pass_at s at)) ys (cond c [] zs))

-- m records, then what follows them, which stands in the input so much further on; a bad record ends the run
pub parts_join : (f p : List ℕ) (from : ℕ) (s t : List ℕ) (m k : ℕ) → length s ≡ 6 * m
    → lines_at f p from (s ++ t) (m + k) 0 ≡ lines_at f p from s m 0 ++ cond (last_at s m 0) [] (lines_at f p (from + length s) t k 0)
parts_join f p from s t m k e = lines_join s t f p from k m 0 (omega arith)
