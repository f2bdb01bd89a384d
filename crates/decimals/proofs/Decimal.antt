-- A number is its last digit after the digits of its tenth, whatever the fuel; so much bounds and counts the digits.
-- Rests on the definition of `digits`.
use mathlib.Core.Path.{◌≡◌, refl, ap, sym, ◌∙◌}
use mathlib.Core.Bool.{Bool, true, false}
use mathlib.Core.List.{List, [], ◌∷◌, ◌++◌}
use Prim.Native.Nat.{ℕ, zero, suc, ◌+◌, ◌*◌, ◌/◌, ◌%◌, ◌^◌, ◌≤◌, ◌<◌, max}
use Rattle.std.proofs.Math.Nat.{one-le-pow, max-eq_left}
use native.Mathlib.Omega.{arith}
use native.Mathlib.Nat.{pow-suc}
use borrow.Author.Tests.{ltb-true, ltb-false}
use lib.Dec.{ltb}
use lib.ListN.{length, length-append}
use Rattle.decimals.specs.Decimal.{digits, decimal}

-- by whether x is a single digit
single : {X : Type 0} (x : ℕ) → (x < 10 → X) → (10 ≤ x → X) → X
single {X} x f h = go (ltb x 10) refl
  where
    go : (t : Bool) → ltb x 10 ≡ t → X
    go true e = f (ltb-true x 10 e)
    go false e = h (ltb-false x 10 e)

zero_or : {X : Type 0} (x : ℕ) → (x ≡ 0 → X) → (0 < x → X) → X
zero_or zero f h = f refl
zero_or (suc y) f h = h (omega arith)

digits-none : (k : ℕ) → digits k 0 ≡ []
unfolding digits
digits-none zero = refl
digits-none (suc k) = refl

digits-some : (k x : ℕ) → 0 < x → digits (suc k) x ≡ digits k (x / 10) ++ ((48 + x % 10) ∷ [])
unfolding digits
digits-some k zero h = absurd (omega arith)
digits-some k (suc y) h = refl

-- enough fuel is enough
digits_same : (j k x : ℕ) → x ≤ j → x ≤ k → digits j x ≡ digits k x
digits_same zero k x h l = let z : x ≡ 0 = omega arith in rw z (digits-none 0 ∙ sym (digits-none k))
digits_same (suc j) zero x h l = let z : x ≡ 0 = omega arith in rw z (digits-none (suc j) ∙ sym (digits-none 0))
digits_same (suc j) (suc k) x h l =
    zero_or x (λ z. rw z (digits-none (suc j) ∙ sym (digits-none (suc k))))
    (λ e. digits-some j x e ∙ ap (λ (ds : List ℕ). ds ++ ((48 + x % 10) ∷ [])) (digits_same j k (x / 10) (omega arith) (omega arith)) ∙ sym (digits-some k x e))

pub decimal-one : (x : ℕ) → x < 10 → decimal x ≡ (48 + x) ∷ []
unfolding decimal
decimal-one x h =
    let z : x / 10 ≡ 0 = omega arith in
    let y : x % 10 ≡ x = omega arith in
    rw (z, y, digits-none x)

pub decimal-more : (x : ℕ) → 10 ≤ x → decimal x ≡ decimal (x / 10) ++ ((48 + x % 10) ∷ [])
unfolding decimal
decimal-more x h =
    ap (λ (ds : List ℕ). ds ++ ((48 + x % 10) ∷ [])) (digits_same x (suc (x / 10)) (x / 10) (omega arith) (omega arith) ∙ digits-some (x / 10) (x / 10) (omega arith))

-- what holds of single digits, and of a number where it holds of its tenth, holds of every number
pub by-tens : (P : ℕ → Type 0) → ((x : ℕ) → x < 10 → P x) → ((x : ℕ) → 10 ≤ x → P (x / 10) → P x) → (x : ℕ) → P x
by-tens P f h x = go (suc x) x (omega arith)
  where
    go : (k x : ℕ) → x < k → P x
    go zero x l = absurd (omega arith)
    go (suc k) x l = single x (f x) (λ e. h x e (go k (x / 10) (omega arith)))

-- ---- how many digits

pub length-one : (x : ℕ) → x < 10 → length (decimal x) ≡ 1
length-one x h = ap length (decimal-one x h)

pub length_more : (x : ℕ) → 10 ≤ x → length (decimal x) ≡ length (decimal (x / 10)) + 1
length_more x h = ap length (decimal-more x h) ∙ length-append (decimal (x / 10)) ((48 + x % 10) ∷ [])

pub decimal-some : (x : ℕ) → 1 ≤ length (decimal x)
decimal-some x = single x (λ e. omega (arith, length-one x e)) (λ e. omega (arith, length_more x e))

pub decimal-short : (k x : ℕ) → x < 10 ^ suc k → length (decimal x) ≤ suc k
decimal-short zero x h = omega (arith, length-one x (omega arith))
decimal-short (suc k) x h =
    single x (λ e. omega (arith, length-one x e))
    (λ e. let z = decimal-short k (x / 10) (omega (arith, pow-suc 10 (suc k))) in omega (arith, length_more x e))

pub short-byte : (x : ℕ) → x < 256 → length (decimal x) ≤ 3
short-byte x h = decimal-short 2 x (omega arith)

pub short-day : (x : ℕ) → x < 65536 → length (decimal x) ≤ 5
short-day x h = decimal-short 4 x (omega arith)

pub short-value : (x : ℕ) → x < 4294967296 → length (decimal x) ≤ 10
short-value x h = decimal-short 9 x (omega arith)

pub short-word : (x : ℕ) → x < 18446744073709551616 → length (decimal x) ≤ 20
short-word x h = decimal-short 19 x (omega arith)

decimal-long : (k x : ℕ) → 10 ^ k ≤ x → suc k ≤ length (decimal x)
decimal-long zero x h = decimal-some x
decimal-long (suc k) x h =
    let p = one-le-pow k 10 (omega arith) in
    let s = pow-suc 10 k in
    single x (λ e. absurd (omega arith)) (λ e. let z = decimal-long k (x / 10) (omega arith) in omega (arith, length_more x e))

-- the power of ten that a number reaches tells how many; 0 has as many as 1
counted : (k x : ℕ) → 10 ^ k ≤ x → x < 10 * 10 ^ k → k + 1 ≡ length (decimal x)
counted k x h l = let a = decimal-long k x h in let b = decimal-short k x (omega (arith, pow-suc 10 k)) in omega arith

pub digits_counted : (x k : ℕ) {y : ℕ} → y ≡ max x 1 → 10 ^ k ≤ y → y < 10 * 10 ^ k → k + 1 ≡ length (decimal x)
digits_counted zero k e h l = let z : k + 1 ≡ length (decimal 1) = counted k 1 (omega arith) (omega arith) in omega (arith, length-one 1 (omega arith), length-one 0 (omega arith))
digits_counted (suc x) k e h l = let z = max-eq_left {n = suc x} {m = 1} (omega arith) in counted k (suc x) (omega arith) (omega arith)
