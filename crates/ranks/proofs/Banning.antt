-- The columns in which a PN has 255: by the greatest rank of each of eight, or one column after the other.
-- Rests on the law of a turn, in Allowing, and on the laws of a store in a list.
use mathlib.Core.Path.{◌≡◌, refl, ap, sym, ◌∙◌}
use mathlib.Core.Bool.{Bool, true, false, not, ◌&&◌}
use mathlib.Core.List.{List, [], ◌∷◌}
use Prim.Native.Nat.{ℕ, zero, suc, ◌+◌, ◌≤◌, ◌<◌, max}
use native.Mathlib.Omega.{arith}
use native.Mathlib.Decide.{ℕ_discrete}
use borrow.Author.Tests.{eq-eqb, ne_eqb}
use lib.Dec.{eqb}
use lib.ListN.{length, get_or, take, drop, set, length-set}
use lib.Seq.{get_or-set_same, get_or-set_other, get_or-take, get_or-drop}
use Rattle.fields.proofs.Bytes.{Bytes}
use Rattle.fields.proofs.Tests.{never}
use Rattle.policies.specs.Rows.{BytesAt}
use Rattle.policies.proofs.Offsets.{stretch}
use Rattle.policies.proofs.Part.{rest}
use Rattle.ranks.specs.Ranks.{Bans, allowed_at, BansEight, GreaterRanks}
use Rattle.ranks.proofs.Allowing.{ask_first, asked_all}

-- ---- the greater of two ranks

greater-bans : (a b r : ℕ) → r ≡ max a b → a < 256 → b < 256 → not (eqb r 255) ≡ not (eqb a 255) && not (eqb b 255)
greater-bans a b r e h k = go (ℕ_discrete a 255) (ℕ_discrete b 255)
  where
    go : Dec (a ≡ 255) → Dec (b ≡ 255) → not (eqb r 255) ≡ not (eqb a 255) && not (eqb b 255)
    go (yes x) d = rw (eq-eqb a 255 x, eq-eqb r 255 (omega arith)) refl
    go (no x) (yes y) = rw (ne_eqb a 255 x, eq-eqb b 255 y, eq-eqb r 255 (omega arith)) refl
    go (no x) (no y) = rw (ne_eqb a 255 x, ne_eqb b 255 y, ne_eqb r 255 (λ z. omega arith)) refl

-- ---- the greatest ranks

and-true : (a : Bool) → a && true ≡ a
and-true true = refl
and-true false = refl

and_left : (a b c : Bool) → a && (b && c) ≡ (a && b) && c
and_left true b c = refl
and_left false b c = refl

pub below-eight : (P : ℕ → Type 0) → P 0 → P 1 → P 2 → P 3 → P 4 → P 5 → P 6 → P 7 → (k : ℕ) → k < 8 → P k
below-eight P a b c d e f g h zero l = a
below-eight P a b c d e f g h (suc zero) l = b
below-eight P a b c d e f g h (suc (suc zero)) l = c
below-eight P a b c d e f g h (suc (suc (suc zero))) l = d
below-eight P a b c d e f g h (suc (suc (suc (suc zero)))) l = e
below-eight P a b c d e f g h (suc (suc (suc (suc (suc zero))))) l = f
below-eight P a b c d e f g h (suc (suc (suc (suc (suc (suc zero)))))) l = g
below-eight P a b c d e f g h (suc (suc (suc (suc (suc (suc (suc zero))))))) l = h
below-eight P a b c d e f g h (suc (suc (suc (suc (suc (suc (suc (suc k)))))))) l = absurd (omega arith)

-- eight by one another
pub greater_each : (a b : List ℕ) {x₀ x₁ x₂ x₃ x₄ x₅ x₆ x₇ : ℕ} → x₀ ≡ max (get_or a 0 0) (get_or b 0 0) → x₁ ≡ max (get_or a 1 0) (get_or b 1 0)
    → x₂ ≡ max (get_or a 2 0) (get_or b 2 0) → x₃ ≡ max (get_or a 3 0) (get_or b 3 0) → x₄ ≡ max (get_or a 4 0) (get_or b 4 0)
    → x₅ ≡ max (get_or a 5 0) (get_or b 5 0) → x₆ ≡ max (get_or a 6 0) (get_or b 6 0) → x₇ ≡ max (get_or a 7 0) (get_or b 7 0)
    → GreaterRanks a b (x₀ ∷ x₁ ∷ x₂ ∷ x₃ ∷ x₄ ∷ x₅ ∷ x₆ ∷ x₇ ∷ [])
greater_each a b {x₀} {x₁} {x₂} {x₃} {x₄} {x₅} {x₆} {x₇} e₀ e₁ e₂ e₃ e₄ e₅ e₆ e₇ =
    record {
      long = refl;
      each =
          below-eight (λ k. get_or (x₀ ∷ x₁ ∷ x₂ ∷ x₃ ∷ x₄ ∷ x₅ ∷ x₆ ∷ x₇ ∷ []) k 0 ≡ max (get_or a k 0) (get_or b k 0))
          e₀ e₁ e₂ e₃ e₄ e₅ e₆ e₇;
    }

-- the offsets from row r on are left for column k, whose greatest rank so far is x
record GreatestAt (p offsets : List ℕ) (r k x : ℕ) : Type 0 where
  small : x < 256
  left : allowed_at p offsets k ≡ not (eqb x 255) && allowed_at p (drop r offsets) k

-- for each of eight columns, of which t has the greatest ranks so far
pub record Greatest (p offsets : List ℕ) (r : ℕ) (t : List ℕ) : Type 0 where
  pub long : length t ≡ 8
  each : (k : ℕ) → k < 8 → GreatestAt p offsets r k (get_or t k 0)

pub greatest_none : (p offsets : List ℕ) → Greatest p offsets 0 (0 ∷ 0 ∷ 0 ∷ 0 ∷ 0 ∷ 0 ∷ 0 ∷ 0 ∷ [])
greatest_none p offsets =
    record {
      long = refl;
      each =
          below-eight (λ k. GreatestAt p offsets 0 k (get_or (0 ∷ 0 ∷ 0 ∷ 0 ∷ 0 ∷ 0 ∷ 0 ∷ 0 ∷ []) k 0))
          (start 0) (start 1) (start 2) (start 3) (start 4) (start 5) (start 6) (start 7);
    }
  where
    start : (k : ℕ) → GreatestAt p offsets 0 k 0
    start k = record { small = omega arith; left = refl }

module _ (p offsets : List ℕ) (r : ℕ) (t : List ℕ) (w : Greatest p offsets r t) where
  -- eight ranks stand from an offset on
  pub greatest_more : {s u : List ℕ} {o : ℕ} → Bytes p → r < length offsets → o ≡ get_or offsets r 0 → s ≡ take 8 (stretch p o) → GreaterRanks t s u → Greatest p offsets (r + 1) u
  greatest_more {s} {u} {o} y h eo e g = record { long = g.long; each = λ k l. turn k l }
    where
      turn : (k : ℕ) → k < 8 → GreatestAt p offsets (r + 1) k (get_or u k 0)
      turn k l =
          let x = get_or t k 0 in
          let b = get_or p (get_or offsets r 0 + k) 0 in
          let q = allowed_at p (drop (r + 1) offsets) k in
          let z : get_or s k 0 ≡ b =
          ap (λ (i : List ℕ). get_or i k 0) (e ∙ ap (take 8) (rest p o) ∙ ap (λ (i : ℕ). take 8 (drop i p)) eo) ∙ get_or-take 8 (drop (get_or offsets r 0) p) k 0 l ∙ get_or-drop (get_or offsets r 0) p k 0 in
          let m : get_or u k 0 ≡ max x b = g.each k l ∙ ap (max x) z in
          let n = (y (get_or offsets r 0 + k)).fits in
          record {
            small = omega (arith, (w.each k l).small);
            left =
                (w.each k l).left
                ∙ ap (λ (c : Bool). not (eqb x 255) && c) (ask_first p k offsets r h)
                ∙ and_left (not (eqb x 255)) (not (eqb b 255)) q
                ∙ ap (λ (c : Bool). c && q) (sym (greater-bans x b (get_or u k 0) m (w.each k l).small n));
          }

  pub greatest_done : length offsets ≤ r → BansEight (allowed_at p offsets) t true
  greatest_done h = record { long = w.long; told = λ _. record { long = w.long; each = λ k v. sym (one k v) } }
    where
      one : (k : ℕ) → k < 8 → allowed_at p offsets k ≡ not (eqb (get_or t k 0) 255)
      one k v =
          let x = not (eqb (get_or t k 0) 255) in
          (w.each k v).left ∙ ap (λ (b : Bool). x && b) (asked_all p k offsets r h) ∙ and-true x

-- where fewer bytes stand, nothing is told
pub eight_no : (ok : ℕ → Bool) (t : List ℕ) → length t ≡ 8 → BansEight ok t false
eight_no ok t l = record { long = l; told = λ e. never e }

pub eight_long : (ok : ℕ → Bool) (t : List ℕ) {r : Bool} → BansEight ok t r → length t ≡ 8
eight_long ok t b = b.long

-- ---- one column after the other

pub fewer_bytes : (p offsets : List ℕ) (k width : ℕ) → BytesAt p offsets width → k ≤ width → BytesAt p offsets k
fewer_bytes p offsets k width b h = record { few = b.few; each = λ r l. omega (arith, b.each r l) }

pub column_room : (p offsets : List ℕ) (columns k : ℕ) → BytesAt p offsets columns → k < columns → BytesAt p offsets (k + 1)
column_room p offsets columns k b h = fewer_bytes p offsets (k + 1) columns b (omega arith)

module _ (ok : ℕ → Bool) where
  pub banning_none : (t : List ℕ) → length t ≡ 8 → Bans ok 0 t
  banning_none t l = record { long = l; each = λ i h. absurd (omega arith) }

  -- column k is told by v
  module _ (k : ℕ) (t : List ℕ) {columns : ℕ} {x : Bool} (w : Bans ok k t) (e : x ≡ ok k) (h : k < columns) (m : columns ≤ 8) where
    told : (v : ℕ) → not (eqb v 255) ≡ x → Bans ok (k + 1) (set t k v)
    told v y = record { long = length-set t k v ∙ w.long; each = λ i l. one i l (ℕ_discrete i k) }
      where
        one : (i : ℕ) → i < k + 1 → Dec (i ≡ k) → not (eqb (get_or (set t k v) i 0) 255) ≡ ok i
        one i l (yes z) = rw z (ap (λ (m : ℕ). not (eqb m 255)) (get_or-set_same t k v 0 (omega (arith, w.long))) ∙ y ∙ e)
        one i l (no z) = ap (λ (m : ℕ). not (eqb m 255)) (get_or-set_other t k i v 0 z) ∙ w.each i (omega arith)

    pub banning_keep : {v : ℕ} → x ≡ true → v ≡ 0 → Bans ok (k + 1) (set t k v)
    banning_keep {v} y z = told v (ap (λ (m : ℕ). not (eqb m 255)) z ∙ sym y)

    pub banning_ban : {v : ℕ} → x ≡ false → v ≡ 255 → Bans ok (k + 1) (set t k v)
    banning_ban {v} y z = told v (ap (λ (m : ℕ). not (eqb m 255)) z ∙ sym y)
