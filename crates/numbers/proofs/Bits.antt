-- Bits of masks and of sets of nodes: what setting, turning and joining do to each bit, the lowest bit that is set, and how many are.
-- Rests on the library's laws of `/ 2 ^ k`, `bit_and`, `bit_or` and `bit_xor`, digit by digit.
use mathlib.Core.Path.{◌≡◌, refl, ap, sym, ◌∙◌, subst}
use mathlib.Core.Logic.{◌⊎◌, inl, inr}
use mathlib.Core.Bool.{Bool, true, false, cond, ◌&&◌, ◌||◌, not}
use mathlib.Core.List.Memᴰ
use mathlib.Core.List.{List, [], ◌∷◌, Memᴰ}
use Prim.Native.Nat.{ℕ, zero, suc, ◌+◌, ◌-◌, ◌*◌, ◌/◌, ◌%◌, ◌^◌, ◌≤◌, ◌<◌, min, max}
use native.Mathlib.Nat.{pow-suc, pow-succ', div-one, div-div-eq-div-mul, div-lt_iff_lt-mul, zero-lt-suc, mod-eq_of_lt, one-mul, div-eq_of_lt, div_self, zero-div, mul-mod_left, lt_of_lt_of_le, lt_of_mul-lt-mul_right}
use native.Mathlib.Omega.{arith}
use native.Mathlib.Decide.{dec_lt}
use borrow.Author.Tests.{lt-ltb, le-ltb, eq-eqb, ne_eqb, eqb-true}
use lib.Dec.{eqb, ltb}
use lib.Bits.{bit_and, bit_or, bit_xor, differ, and_shr, and_step, or_shr, or_step, or_zero_r, xor_shr, xor_step}
use lib.Pow.{pow_pos, pow-lt, pow_mono, pow-add, shl-shr, shl_exact, ones_split, high, ones_lt}
use lib.Count.{count_trailing_zeros, under, ones as set_digits, ones_step, ones-le}
use Rattle.fields.proofs.Tests.{never, or_left, or_right, and_yes, and-true, alike, is-not}
use Rattle.numbers.specs.Bits.{bit, ones, with, turned, without, with_all, cardinality}
use Rattle.numbers.specs.Lowest.{Lowest}

abbrev digit : ℕ → ℕ → ℕ
digit m k = m / 2 ^ k % 2

is_one : (m k : ℕ) → bit m k ≡ true → digit m k ≡ 1
unfolding bit
is_one m k h = eqb-true (digit m k) 1 h

one-is : (m k : ℕ) → digit m k ≡ 1 → bit m k ≡ true
unfolding bit
one-is m k e = eq-eqb (digit m k) 1 e

-- ---- what the code computes

module _ (x : ℕ) where
  shifted : x < 64 → 1 * 2 ^ x % 18446744073709551616 ≡ 2 ^ x
  shifted h = let l : 2 ^ x < 2 ^ 64 = pow-lt h in ap (λ (z : ℕ). z % 18446744073709551616) (one-mul (2 ^ x)) ∙ mod-eq_of_lt l

  pub with_in : (m : ℕ) → x < 64 → bit_or m (1 * 2 ^ x % 18446744073709551616) ≡ with m x
  unfolding with
  with_in m h = rw (shifted h, lt-ltb x 64 h)

  pub with_out : (m : ℕ) → 64 ≤ x → m ≡ with m x
  unfolding with
  with_out m h = rw (le-ltb x 64 h)

  pub turned-in : (m : ℕ) → x < 64 → bit_xor m (1 * 2 ^ x % 18446744073709551616) ≡ turned m x
  unfolding turned
  turned-in m h = rw (shifted h, lt-ltb x 64 h)

  pub turned-out : (m : ℕ) → 64 ≤ x → m ≡ turned m x
  unfolding turned
  turned-out m h = rw (le-ltb x 64 h)

  pub without-by : (m : ℕ) {a r : ℕ} → a ≡ with m x → r ≡ turned a x → r ≡ without m x
  unfolding without
  without-by m e f = f ∙ ap (λ (a : ℕ). turned a x) e

module _ (n : ℕ) where
  one_at : n < 32 → 1 * 2 ^ n % 4294967296 ≡ 2 ^ n
  one_at h = let l : 2 ^ n < 2 ^ 32 = pow-lt h in ap (λ (z : ℕ). z % 4294967296) (one-mul (2 ^ n)) ∙ mod-eq_of_lt l

  pub ones-room : n < 32 → 1 ≤ 1 * 2 ^ n % 4294967296
  ones-room h = rw (one_at h) (pow_pos n)

  pub ones-part : n < 32 → 1 * 2 ^ n % 4294967296 - 1 ≡ ones n
  unfolding ones
  ones-part h = rw (one_at h)

  pub ones-whole : n ≤ 32 → 32 ≤ n → 4294967295 ≡ ones n
  unfolding ones
  ones-whole h l = let e : n ≡ 32 = omega arith in rw e

-- nothing at or above bit n is left exactly if m is below 2 ^ n
pub part-size : (m n : ℕ) → eqb (m / 2 ^ n) 0 ≡ ltb m (2 ^ n)
part-size m n = go (dec_lt m (2 ^ n))
  where
    go : Dec (m < 2 ^ n) → eqb (m / 2 ^ n) 0 ≡ ltb m (2 ^ n)
    go (yes h) = eq-eqb (m / 2 ^ n) 0 (div-eq_of_lt h) ∙ sym (lt-ltb m (2 ^ n) h)
    go (no h) =
        ne_eqb (m / 2 ^ n) 0 (λ z. h (let q : m / 2 ^ n < 1 = omega arith in rw (one-mul (2 ^ n)) at ((div-lt_iff_lt-mul (pow_pos n)).0 q)))
        ∙ sym (le-ltb m (2 ^ n) (omega arith))

pub whole-size : (m n : ℕ) → m < 2 ^ 32 → 32 ≤ n → true ≡ ltb m (2 ^ n)
whole-size m n h l = sym (lt-ltb m (2 ^ n) (lt_of_lt_of_le h (pow_mono l)))

-- a mask moved up by its spare bits, and what that says of it
pub moved_up : (m k : ℕ) → m < 2 ^ 32 → k ≤ 32 → m * 2 ^ k % 18446744073709551616 / 2 ^ 32 ≡ m * 2 ^ k / 2 ^ 32
moved_up m k h l = let e : m * 2 ^ k % 2 ^ 64 ≡ m * 2 ^ k = shl_exact 32 k 64 h (omega arith) in ap (λ (i : ℕ). i / 2 ^ 32) e

pub spare-within : (m size : ℕ) → m * 2 ^ (32 - size) < 2 ^ 32 → m < 2 ^ size
spare-within m size l = go (dec_lt 32 size)
  where
    go : Dec (32 < size) → m < 2 ^ size
    go (yes a) =
        let e : 32 - size ≡ 0 = omega arith in
        let h : m < 2 ^ 32 = omega (arith, rw e at l) in
        lt_of_lt_of_le h (pow_mono (let z : 32 ≤ size = omega arith in z))
    go (no a) =
        let e : size + (32 - size) ≡ 32 = omega arith in
        lt_of_mul-lt-mul_right (2 ^ (32 - size)) (subst (λ (i : ℕ). m * 2 ^ (32 - size) < i) (ap (λ (i : ℕ). 2 ^ i) (sym e) ∙ pow-add 2 size (32 - size)) l)

-- ---- one bit of each

or-digit : (a b k : ℕ) → digit (bit_or a b) k ≡ max (digit a k) (digit b k)
or-digit a b k = ap (λ (x : ℕ). x % 2) (or_shr a b k) ∙ omega (arith, or_step (a / 2 ^ k) (b / 2 ^ k))

-- two digits
either-one : (p q : ℕ) → p < 2 → q < 2 → eqb (max p q) 1 ≡ eqb p 1 || eqb q 1
either-one zero zero h l = refl
either-one zero (suc zero) h l = refl
either-one (suc zero) zero h l = refl
either-one (suc zero) (suc zero) h l = refl
either-one zero (suc (suc q)) h l = absurd (omega arith)
either-one (suc zero) (suc (suc q)) h l = absurd (omega arith)
either-one (suc (suc p)) q h l = absurd (omega arith)

apart : (p : ℕ) (b : Bool) → p < 2 → eqb (differ p (cond b 1 0)) 1 ≡ cond b (not (eqb p 1)) (eqb p 1)
apart zero true h = refl
apart zero false h = refl
apart (suc zero) true h = refl
apart (suc zero) false h = refl
apart (suc (suc p)) b h = absurd (omega arith)

differ-low : (p q y : ℕ) {x : ℕ} → p < 2 → q < 2 → x ≡ y * 2 + differ p q → x % 2 ≡ differ p q
differ-low zero q y h l e = omega arith
differ-low (suc zero) zero y h l e = omega arith
differ-low (suc zero) (suc zero) y h l e = omega arith
differ-low (suc zero) (suc (suc q)) y h l e = absurd (omega arith)
differ-low (suc (suc p)) q y h l e = absurd (omega arith)

xor-digit : (a b k : ℕ) → digit (bit_xor a b) k ≡ differ (digit a k) (digit b k)
xor-digit a b k =
    ap (λ (x : ℕ). x % 2) (xor_shr a b k)
    ∙ differ-low (a / 2 ^ k % 2) (b / 2 ^ k % 2) (bit_xor (a / 2 ^ k / 2) (b / 2 ^ k / 2)) (omega arith) (omega arith) (xor_step (a / 2 ^ k) (b / 2 ^ k))

pow-digit : (x k : ℕ) → digit (2 ^ x) k ≡ cond (eqb k x) 1 0
pow-digit x k = go (dec_lt k x) (dec_lt x k)
  where
    go : Dec (k < x) → Dec (x < k) → digit (2 ^ x) k ≡ cond (eqb k x) 1 0
    go (yes h) b =
        let e : x ≡ suc (x - suc k) + k = omega arith in
        ap (λ (z : ℕ). 2 ^ z / 2 ^ k % 2) e
        ∙ ap (λ (z : ℕ). z / 2 ^ k % 2) (pow-add 2 (suc (x - suc k)) k)
        ∙ ap (λ (z : ℕ). z % 2) (shl-shr (2 ^ suc (x - suc k)) k ∙ pow-suc 2 (x - suc k))
        ∙ mul-mod_left (2 ^ (x - suc k)) 2
        ∙ ap (λ (z : Bool). cond z 1 0) (sym (ne_eqb k x (λ z. omega arith)))
    go (no h) (yes b) = ap (λ (z : ℕ). z % 2) (div-eq_of_lt (pow-lt b)) ∙ ap (λ (z : Bool). cond z 1 0) (sym (ne_eqb k x (λ z. omega arith)))
    go (no h) (no b) =
        let e : k ≡ x = omega arith in
        ap (λ (z : ℕ). 2 ^ z / 2 ^ k % 2) (sym e) ∙ ap (λ (z : ℕ). z % 2) (div_self (pow_pos k)) ∙ ap (λ (z : Bool). cond z 1 0) (sym (eq-eqb k x e))

test-one : (b : Bool) → eqb (cond b 1 0) 1 ≡ b
test-one true = refl
test-one false = refl

pub pow-bit : (x k : ℕ) → bit (2 ^ x) k ≡ eqb k x
unfolding bit
pow-bit x k = ap (λ (z : ℕ). eqb z 1) (pow-digit x k) ∙ test-one (eqb k x)

pub no-bit : (n : ℕ) → bit 0 n ≡ false
unfolding bit
no-bit n = ap (λ (z : ℕ). eqb (z % 2) 1) (zero-div (2 ^ n))

pub with-bit : (m x k : ℕ) → x < 64 → bit (with m x) k ≡ bit m k || eqb k x
unfolding bit with
with-bit m x k h =
    rw (lt-ltb x 64 h)
    (ap (λ (z : ℕ). eqb z 1) (or-digit m (2 ^ x) k)
    ∙ either-one (digit m k) (digit (2 ^ x) k) (omega arith) (omega arith)
    ∙ ap (λ (z : ℕ). eqb (digit m k) 1 || eqb z 1) (pow-digit x k)
    ∙ ap (λ (z : Bool). eqb (digit m k) 1 || z) (test-one (eqb k x)))

pub turned_bit : (m x k : ℕ) → x < 64 → bit (turned m x) k ≡ cond (eqb k x) (not (bit m k)) (bit m k)
unfolding bit turned
turned_bit m x k h =
    rw (lt-ltb x 64 h)
    (ap (λ (z : ℕ). eqb z 1) (xor-digit m (2 ^ x) k ∙ ap (differ (digit m k)) (pow-digit x k))
    ∙ apart (digit m k) (eqb k x) (omega arith))

pub without-bit : (m x k : ℕ) → x < 64 → bit (without m x) k ≡ bit m k && not (eqb k x)
unfolding without
without-bit m x k h = turned_bit (with m x) x k h ∙ rw (with-bit m x k h) (go (bit m k) (eqb k x))
  where
    go : (a t : Bool) → cond t (not (a || t)) (a || t) ≡ a && not t
    go true true = refl
    go true false = refl
    go false true = refl
    go false false = refl

pub or-bit : (a b k : ℕ) → bit (bit_or a b) k ≡ bit a k || bit b k
unfolding bit
or-bit a b k = ap (λ (z : ℕ). eqb z 1) (or-digit a b k) ∙ either-one (digit a k) (digit b k) (omega arith) (omega arith)

-- ---- a list of bits set

or_assoc : (a b c : Bool) → (a || b) || c ≡ a || (b || c)
or_assoc true b c = refl
or_assoc false b c = refl

or-false : (a : Bool) → a ≡ a || false
or-false true = refl
or-false false = refl

-- el is any test whether k stands in a list
module _ (k : ℕ) (el : List ℕ → Bool) (none : el [] ≡ false) (more : (x : ℕ) (xs : List ℕ) → el (x ∷ xs) ≡ eqb k x || el xs) where
  pub all-bit : (m : ℕ) (l : List ℕ) → ((x : ℕ) → Memᴰ x l → x < 64) → bit (with_all m l) k ≡ bit m k || el l
  unfolding with_all
  all-bit m [] f = rw none (or-false (bit m k))
  all-bit m (x ∷ xs) f =
      all-bit (with m x) xs (λ y h. f y (Memᴰ.tail h))
      ∙ ap (λ (z : Bool). z || el xs) (with-bit m x k (f x (Memᴰ.head refl)))
      ∙ or_assoc (bit m k) (eqb k x) (el xs)
      ∙ ap (λ (z : Bool). bit m k || z) (sym (more x xs))

with-keeps : (m x k : ℕ) → bit m k ≡ true → bit (with m x) k ≡ true
with-keeps m x k h = go (dec_lt x 64)
  where
    go : Dec (x < 64) → bit (with m x) k ≡ true
    go (yes l) = with-bit m x k l ∙ or_left (bit m k) (eqb k x) h
    go (no l) = rw (with_out x m (omega arith)) at h

pub all-keeps : (m k : ℕ) (l : List ℕ) → bit m k ≡ true → bit (with_all m l) k ≡ true
unfolding with_all
all-keeps m k [] h = h
all-keeps m k (x ∷ xs) h = all-keeps (with m x) k xs (with-keeps m x k h)

pub all_in : (m k : ℕ) (l : List ℕ) → k < 64 → Memᴰ k l → bit (with_all m l) k ≡ true
unfolding with_all
all_in m k [] l i = absurd (Memᴰ.not-nil i)
all_in m k (x ∷ xs) l i = go (Memᴰ.cases_cons i) (all_in (with m x) k xs l)
  where
    go : (k ≡ x) ⊎ Memᴰ k xs → (Memᴰ k xs → bit (with_all (with m x) xs) k ≡ true) → bit (with_all (with m x) xs) k ≡ true
    go (inl e) ih = all-keeps (with m x) k xs (with-bit m x k (omega arith) ∙ or_right (bit m k) (eqb k x) (eq-eqb k x e))
    go (inr i) ih = ih i

-- ---- masks

and-digit : (a b k : ℕ) → digit (bit_and a b) k ≡ min (digit a k) (digit b k)
and-digit a b k = ap (λ (x : ℕ). x % 2) (and_shr a b k) ∙ omega (arith, and_step (a / 2 ^ k) (b / 2 ^ k))

pub and-bit : (a b k : ℕ) → bit (bit_and a b) k ≡ true → (bit a k ≡ true) × (bit b k ≡ true)
and-bit a b k h =
    let e : min (digit a k) (digit b k) ≡ 1 = sym (and-digit a b k) ∙ is_one (bit_and a b) k h in
    (one-is a k (omega arith), one-is b k (omega arith))

pub bit-and : (a b k : ℕ) → bit a k ≡ true → bit b k ≡ true → bit (bit_and a b) k ≡ true
bit-and a b k h l = one-is (bit_and a b) k (and-digit a b k ∙ omega (arith, is_one a k h, is_one b k l))

pub both-bit : (a b k : ℕ) → bit (bit_and a b) k ≡ bit a k && bit b k
both-bit a b k =
    alike (bit (bit_and a b) k) (bit a k && bit b k) (λ t. let z = and-bit a b k t in and_yes z.0 z.1) (λ t. let z = and-true (bit a k) (bit b k) t in bit-and a b k z.0 z.1)

-- a mask of k ones has the bits below k, and no number below 2 ^ k has another
ones_low : (i : ℕ) → (2 ^ suc i - 1) % 2 ≡ 1
ones_low i = omega (arith, pow_pos i)

pub ones_bit : (k y : ℕ) → y < k → bit (ones k) y ≡ true
unfolding ones
ones_bit k y h = one-is (2 ^ k - 1) y (subst (λ (x : ℕ). digit (2 ^ x - 1) y ≡ 1) e there)
  where
    e : suc (k - suc y) + y ≡ k
    e = omega arith

    there : digit (2 ^ (suc (k - suc y) + y) - 1) y ≡ 1
    there = ap (λ (x : ℕ). x / 2 ^ y % 2) (ones_split (suc (k - suc y)) y) ∙ ap (λ (x : ℕ). x % 2) (high (2 ^ suc (k - suc y) - 1) y (ones_lt y)) ∙ ones_low (k - suc y)

pub bit_below : (m k y : ℕ) → m < 2 ^ k → bit m y ≡ true → y < k
bit_below m k y h b = go (dec_lt y k)
  where
    go : Dec (y < k) → y < k
    go (yes l) = l
    go (no l) =
        absurd (let z : m / 2 ^ y ≡ 0 = div-eq_of_lt (lt_of_lt_of_le h (pow_mono (let w : k ≤ y = omega arith in w))) in
        let w : m / 2 ^ y % 2 ≡ 1 = is_one m y b in
        let v : ◌≡◌ {A = ℕ} 0 1 = rw z at w in
        omega arith)

-- ---- the lowest bit

digit-zero : (m : ℕ) → digit m 0 ≡ m % 2
digit-zero m = ap (λ (x : ℕ). x % 2) (div-one m)

digit-suc : (m k : ℕ) → digit m (suc k) ≡ digit (m / 2) k
digit-suc m k = ap (λ (x : ℕ). m / x % 2) (pow-succ' 2 k) ∙ ap (λ (x : ℕ). x % 2) (sym (div-div-eq-div-mul m 2 (2 ^ k)))

half-below : (k m : ℕ) → m < 2 ^ suc k → m / 2 < 2 ^ k
half-below k m h = (div-lt_iff_lt-mul (zero-lt-suc 1)).1 (subst (λ (x : ℕ). m < x) (pow-suc 2 k) h)

tz-one : (k m : ℕ) → 0 < m → m < 2 ^ k → digit m (count_trailing_zeros k m) ≡ 1
unfolding count_trailing_zeros
tz-one zero m p u = absurd (let v : m < 1 = u in omega arith)
tz-one (suc k) m p u = go (m % 2) refl (λ w. tz-one k (m / 2) w (half-below k m u))
  where
    go : (r : ℕ) → m % 2 ≡ r → (0 < m / 2 → digit (m / 2) (count_trailing_zeros k (m / 2)) ≡ 1) → digit m (under r (count_trailing_zeros k (m / 2))) ≡ 1
    go zero e ih = digit-suc m _ ∙ ih (omega arith)
    go (suc r) e ih = digit-zero m ∙ omega arith

tz-low : (k m y : ℕ) → digit m y ≡ 1 → count_trailing_zeros k m ≤ y
unfolding count_trailing_zeros
tz-low zero m y e = omega arith
tz-low (suc k) m y e = go (m % 2) refl y e (tz-low k (m / 2))
  where
    go : (r : ℕ) → m % 2 ≡ r → (x : ℕ) → digit m x ≡ 1 → ((v : ℕ) → digit (m / 2) v ≡ 1 → count_trailing_zeros k (m / 2) ≤ v) → under r (count_trailing_zeros k (m / 2)) ≤ x
    go zero a zero b ih = absurd (let c : digit m 0 ≡ m % 2 = digit-zero m in omega arith)
    go zero a (suc x) b ih = let c : count_trailing_zeros k (m / 2) ≤ x = ih x (sym (digit-suc m x) ∙ b) in omega arith
    go (suc r) a x b ih = omega arith

pub tz-small : (k m : ℕ) → 0 < m → m < 2 ^ k → count_trailing_zeros k m < k
unfolding count_trailing_zeros
tz-small zero m p u = absurd (let v : m < 1 = u in omega arith)
tz-small (suc k) m p u = go (m % 2) refl (λ w. tz-small k (m / 2) w (half-below k m u))
  where
    go : (r : ℕ) → m % 2 ≡ r → (0 < m / 2 → count_trailing_zeros k (m / 2) < k) → under r (count_trailing_zeros k (m / 2)) < suc k
    go zero e ih = let w = ih (omega arith) in omega arith
    go (suc r) e ih = omega arith

pub tz-bit : (k m : ℕ) → 0 < m → m < 2 ^ k → bit m (count_trailing_zeros k m) ≡ true
tz-bit k m h l = one-is m (count_trailing_zeros k m) (tz-one k m h l)

-- whatever the size, where it is below k
tz-below : (k m : ℕ) → count_trailing_zeros k m < k → digit m (count_trailing_zeros k m) ≡ 1
unfolding count_trailing_zeros
tz-below zero m h = absurd (omega arith)
tz-below (suc k) m h = go (m % 2) refl (tz-below k (m / 2)) h
  where
    go : (r : ℕ) → m % 2 ≡ r → (count_trailing_zeros k (m / 2) < k → digit (m / 2) (count_trailing_zeros k (m / 2)) ≡ 1) → under r (count_trailing_zeros k (m / 2)) < suc k → digit m (under r (count_trailing_zeros k (m / 2))) ≡ 1
    go zero e ih l = digit-suc m _ ∙ ih (omega arith)
    go (suc r) e ih l = digit-zero m ∙ omega arith

pub lowest-bit : (k m : ℕ) {r : ℕ} → Lowest k m r → bit m r ≡ true
lowest-bit k m l = rw l.is (one-is m (count_trailing_zeros k m) (tz-below k m (omega (arith, l.is, l.small))))

pub tz-above : (k m x : ℕ) → x < k → ((i : ℕ) → bit m i ≡ true → x < i) → x < count_trailing_zeros k m
tz-above k m x l f = go (dec_lt (count_trailing_zeros k m) k)
  where
    go : Dec (count_trailing_zeros k m < k) → x < count_trailing_zeros k m
    go (yes h) = f (count_trailing_zeros k m) (one-is m (count_trailing_zeros k m) (tz-below k m h))
    go (no h) = omega arith

pub tz-least : (k m y : ℕ) → bit m y ≡ true → count_trailing_zeros k m ≤ y
tz-least k m y h = tz-low k m y (is_one m y h)

-- ---- numbers with the same bits

same-digit : (p q : ℕ) → p < 2 → q < 2 → eqb p 1 ≡ eqb q 1 → p ≡ q
same-digit zero zero h l e = refl
same-digit zero (suc zero) h l e = never e
same-digit (suc zero) zero h l e = never (sym e)
same-digit (suc zero) (suc zero) h l e = refl
same-digit zero (suc (suc q)) h l e = absurd (omega arith)
same-digit (suc zero) (suc (suc q)) h l e = absurd (omega arith)
same-digit (suc (suc p)) q h l e = absurd (omega arith)

digits_same : (k a b : ℕ) → a < 2 ^ k → b < 2 ^ k → ((i : ℕ) → digit a i ≡ digit b i) → a ≡ b
digits_same zero a b h l f = let x : a < 1 = h in let y : b < 1 = l in omega arith
digits_same (suc k) a b h l f =
    omega (
      arith,
      digits_same k (a / 2) (b / 2) (half-below k a h) (half-below k b l) (λ i. sym (digit-suc a i) ∙ f (suc i) ∙ digit-suc b i),
      sym (digit-zero a) ∙ f 0 ∙ digit-zero b,
    )

below-pow : (m : ℕ) → m < 2 ^ m
below-pow zero = omega arith
below-pow (suc m) = omega (arith, below-pow m, pow-suc 2 m)

pub bits-same : (a b : ℕ) → ((i : ℕ) → bit a i ≡ bit b i) → a ≡ b
unfolding bit
bits-same a b f = digits_same (a + b) a b (below a (omega arith)) (below b (omega arith)) (λ i. same-digit (digit a i) (digit b i) (omega arith) (omega arith) (f i))
  where
    below : (x : ℕ) → x ≤ a + b → x < 2 ^ (a + b)
    below x h = lt_of_lt_of_le (below-pow x) (pow_mono h)

-- a bit that was not set, set and turned
pub turned-with : (m x : ℕ) → x < 64 → bit m x ≡ false → turned (with m x) x ≡ m
turned-with m x h e = bits-same (turned (with m x) x) m (λ i. turned_bit (with m x) x i h ∙ rw (with-bit m x i h) (go i (eqb i x) refl))
  where
    go : (i : ℕ) (t : Bool) → eqb i x ≡ t → cond t (not (bit m i || t)) (bit m i || t) ≡ bit m i
    go i true q = ap not (or_right (bit m i) true refl) ∙ sym (ap (bit m) (eqb-true i x q) ∙ e)
    go i false q = sym (or-false (bit m i))

-- a set without nodes
pub no_bits : (m : ℕ) → ((i : ℕ) → bit m i ≡ true → ⊥) → m ≡ 0
no_bits m f = bits-same m 0 (λ i. is-not (bit m i) (f i) ∙ sym (no-bit i))

-- all nodes of a are in b
pub subset-in : (a b k : ℕ) → bit_and a b ≡ a → bit a k ≡ true → bit b k ≡ true
subset-in a b k e t = (and-bit a b k (ap (λ (m : ℕ). bit m k) e ∙ t)).1

pub in-subset : (a b : ℕ) → ((k : ℕ) → bit a k ≡ true → bit b k ≡ true) → bit_and a b ≡ a
in-subset a b f = bits-same (bit_and a b) a (λ k. alike (bit (bit_and a b) k) (bit a k) (λ t. (and-bit a b k t).0) (λ t. bit-and a b k t (f k t)))

-- ---- how many bits are set

pub cardinality-none : cardinality 0 ≡ 0
unfolding cardinality
cardinality-none = omega (arith, ones-le 0 0 (omega arith))

more-digits : (x m : ℕ) → digit m x ≡ 0 → set_digits (bit_or m (2 ^ x)) ≡ suc (set_digits m)
more-digits zero m e =
    let z = digit-zero m in
    let s = or_step m 1 in
    let o = or_zero_r (m / 2) in
    let h : bit_or m 1 / 2 ≡ m / 2 = omega (arith, s, o) in
    let l : bit_or m 1 % 2 ≡ 1 = omega (arith, s, o) in
    omega (arith, ones_step (bit_or m 1), ones_step m, ap set_digits h)
more-digits (suc x) m e =
    let p = pow-suc 2 x in
    let s = or_step m (2 ^ suc x) in
    let d : 2 ^ suc x / 2 ≡ 2 ^ x = omega (arith, p) in
    let o : bit_or (m / 2) (2 ^ suc x / 2) ≡ bit_or (m / 2) (2 ^ x) = ap (bit_or (m / 2)) d in
    let h : bit_or m (2 ^ suc x) / 2 ≡ bit_or (m / 2) (2 ^ x) = omega (arith, s, o, p) in
    let l : bit_or m (2 ^ suc x) % 2 ≡ m % 2 = omega (arith, s, o, p) in
    omega (arith, ones_step (bit_or m (2 ^ suc x)), ones_step m, ap set_digits h, more-digits x (m / 2) (sym (digit-suc m x) ∙ e))

-- one more, where a bit that was not set is
pub cardinality-with : (m x : ℕ) → x < 64 → bit m x ≡ false → cardinality (with m x) ≡ suc (cardinality m)
unfolding cardinality with bit
cardinality-with m x h e = rw (lt-ltb x 64 h) (more-digits x m (go (digit m x) (omega arith) e))
  where
    go : (d : ℕ) → d < 2 → eqb d 1 ≡ false → d ≡ 0
    go zero l t = refl
    go (suc zero) l t = never (sym t)
    go (suc (suc d)) l t = absurd (omega arith)

pub cardinality-fits : (m : ℕ) → m < 2 ^ 64 → cardinality m ≤ 64
unfolding cardinality
cardinality-fits m h = ones-le 64 m h
