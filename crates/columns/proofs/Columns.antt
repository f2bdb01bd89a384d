-- One column: spaces that fill it, a text with spaces before it, and the texts of a choice and of a value.
-- Rests on the laws of `put` of the crate fields, and on the number of decimal digits.
use mathlib.Core.Path.{◌≡◌, refl, ap, sym, subst, ◌∙◌}
use mathlib.Core.List.{List, [], ◌∷◌, ◌++◌, append_assoc}
use Prim.Native.Nat.{ℕ, suc, ◌+◌, ◌-◌, ◌^◌, ◌≤◌, ◌<◌}
use native.Mathlib.Omega.{arith}
use borrow.Author.Tests.{eq-eqb, ne_eqb}
use lib.IntN.{ℤ}
use lib.ListN.{length, set, take, drop, length-replicate, replicate-append-replicate}
use lib.Seq.{drop-drop}
use borrow.Rule.Slice.PartMut.{put_mid, same_len_mid, mid_len}
use mir.Syntax.{w32}
use mir.ValLaws.{to_z_pos}
use Rattle.fields.specs.Writing.{put, Wrote}
use Rattle.fields.proofs.Bytes.{put_one}
use Rattle.fields.proofs.Signed.{signed_high}
use Rattle.fields.proofs.Putting.{wrote-before, wrote-over}
use Rattle.decimals.specs.Decimal.{decimal}
use Rattle.decimals.proofs.Decimal.{short-byte, short-value}
use Rattle.schema.specs.declared.Variable.{Variable}
use Rattle.schema.specs.declared.Variable.TheVariants.{Number, Listed}
use Rattle.instances.specs.File.{value_of}
use Rattle.columns.specs.Sheet.{spaces, right_aligned, signed_decimal, choice_column}

-- ---- a part of the buffer, copied or filled

part_put : (b ys : List ℕ) (from end : ℕ) → from ≤ end → length ys ≡ end - from → put_mid from (end - from) b ys ≡ put b from ys
unfolding put
part_put b ys from end h e =
    let y : from + (end - from) ≡ from + length ys = omega (arith, e) in
    rw (drop-drop (end - from) from b, y) (sym (append_assoc (take from b) ys (drop (from + length ys) b)))

module _ (b : List ℕ) (from end : ℕ) (h : from ≤ end) (g : end ≤ length b) {ys : List ℕ} (e : ys ≡ spaces (length (take (end - from) (drop from b)))) where
  pub spaces_wrote : Wrote b from (spaces (end - from)) (put_mid from (end - from) b ys) end
  spaces_wrote =
      let z : ys ≡ spaces (end - from) = e ∙ ap spaces (mid_len from end b g) in
      let l : length ys ≡ end - from = ap length z ∙ length-replicate {A = ℕ} (end - from) 32 in
      record { holds = part_put b ys from end h l ∙ ap (put b from) z; next = omega (arith, length-replicate {A = ℕ} (end - from) 32) }

  pub spaces_long : length (put_mid from (end - from) b ys) ≡ length b
  spaces_long = same_len_mid from (end - from) b ys (ap length e ∙ length-replicate {A = ℕ} (length (take (end - from) (drop from b))) 32)

-- ---- a text, right-aligned

module _ (b : List ℕ) (at w : ℕ) (l : at + w ≤ length b) {ys : List ℕ} (e : ys ≡ spaces (length (take (at + w - at) (drop at b)))) where
  pub right_wrote : (text : List ℕ) {d : List ℕ} {r : ℕ} → length text ≤ w → Wrote (put_mid at (at + w - at) b ys) r text d (at + w)
      → Wrote b at (right_aligned w text) d (at + w)
  unfolding right_aligned
  right_wrote text h k =
      let n = length text in
      let z : at + w - at ≡ w - n + n = omega arith in
      let u : Wrote b at (spaces (w - n) ++ spaces n) (put_mid at (at + w - at) b ys) (at + w) =
      subst (λ (xs : List ℕ). Wrote b at xs (put_mid at (at + w - at) b ys) (at + w)) (ap spaces z ∙ sym (replicate-append-replicate {A = ℕ} (w - n) n 32))
      (spaces_wrote b at (at + w) (omega arith) l e) in
      wrote-over (spaces (w - n)) (spaces n) text (length-replicate {A = ℕ} n 32) u k (omega arith)

  -- a number below zero: the sign straight before its digits
  pub negative_wrote : (x : ℕ) {d : List ℕ} {r : ℕ} → length (decimal x) < w → Wrote (put_mid at (at + w - at) b ys) r (decimal x) d (at + w)
      → length d ≡ length (put_mid at (at + w - at) b ys) → Wrote b at (right_aligned w (45 ∷ decimal x)) (set d (r - 1) 45) (at + w)
  negative_wrote x {d} {r} h k n =
      let m = spaces_long b at (at + w) (omega arith) l e in
      right_wrote (45 ∷ decimal x) (omega arith)
      (wrote-before (45 ∷ []) (decimal x) k (record { holds = put_one d (r - 1) 45 (omega (arith, k.next)); next = omega (arith, k.next) }) (omega (arith, k.next)))

-- a space before a text is one of those that align it
space-right : (w : ℕ) (text : List ℕ) → length text ≤ w → spaces 1 ++ right_aligned w text ≡ right_aligned (suc w) text
unfolding right_aligned
space-right w text h = let z : suc w - length text ≡ suc (w - length text) = omega arith in rw z

-- ---- a choice

pub choice_room : (c : ℕ) → c < 256 → length (decimal c) ≤ 4
choice_room c h = omega (arith, short-byte c h)

module _ (b : List ℕ) (at c : ℕ) where
  pub choice_none : c ≡ 255 → at + 4 ≤ length b → {ys : List ℕ} → ys ≡ 32 ∷ 45 ∷ 45 ∷ 45 ∷ []
      → Wrote b at (spaces 1 ++ choice_column c) (put_mid at (at + 4 - at) b ys) (at + 4)
  unfolding choice_column
  choice_none e h {ys} k =
      let l : length ys ≡ at + 4 - at = omega (arith, ap length k) in
      rw (eq-eqb c 255 e) (record { holds = part_put b ys at (at + 4) (omega arith) l ∙ ap (put b at) k; next = refl })

  pub choice_some : {d : List ℕ} → (c ≡ 255 → ⊥) → c < 256 → Wrote b at (right_aligned 4 (decimal c)) d (at + 4) → Wrote b at (spaces 1 ++ choice_column c) d (at + 4)
  unfolding choice_column
  choice_some e h k = rw (ne_eqb c 255 e, space-right 3 (decimal c) (short-byte c h)) k

-- ---- a value

module _ (u : ℕ) (h : u < 2 ^ 32) where
  pub digits_room : length (decimal u) ≤ 12
  digits_room = omega (arith, short-value u h)

  pub sign_room : 2147483648 ≤ u → length (decimal (4294967296 - u)) < 12
  sign_room l = omega (arith, short-value (4294967296 - u) (omega arith))

module _ (v : Variable) (u : ℕ) (b : List ℕ) (at : ℕ) {c : List ℕ} where
  value-wrote : {text : List ℕ} → signed_decimal (value_of v u) ≡ text → length text ≤ 11 → Wrote b at (right_aligned 12 text) c (at + 12)
      → Wrote b at (spaces 1 ++ right_aligned 11 (signed_decimal (value_of v u))) c (at + 12)
  value-wrote {text} e h k = rw (e, space-right 11 text h) k

  pub number_low : {lo hi : ℤ} → v ≡ Number lo hi → u < 2147483648 → Wrote b at (right_aligned 12 (decimal u)) c (at + 12)
      → Wrote b at (spaces 1 ++ right_aligned 11 (signed_decimal (value_of v u))) c (at + 12)
  unfolding signed_decimal value_of
  number_low e h k = value-wrote (rw (e, to_z_pos w32 u h)) (omega (arith, short-value u (omega arith))) k

  pub number_high : {lo hi : ℤ} → v ≡ Number lo hi → 2147483648 ≤ u → u < 2 ^ 32 → Wrote b at (right_aligned 12 (45 ∷ decimal (4294967296 - u))) c (at + 12)
      → Wrote b at (spaces 1 ++ right_aligned 11 (signed_decimal (value_of v u))) c (at + 12)
  unfolding signed_decimal value_of
  number_high e l h k =
      let z : 4294967295 - u + 1 ≡ 4294967296 - u = omega arith in
      value-wrote (rw (e, signed_high u l h, z)) (omega (arith, short-value (4294967296 - u) (omega arith))) k

  pub listed_any : {size : ℕ} → v ≡ Listed size → u < 2 ^ 32 → Wrote b at (right_aligned 12 (decimal u)) c (at + 12)
      → Wrote b at (spaces 1 ++ right_aligned 11 (signed_decimal (value_of v u))) c (at + 12)
  unfolding signed_decimal value_of
  listed_any e h k = value-wrote (rw e) (omega (arith, short-value u h)) k
