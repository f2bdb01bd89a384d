-- What decimal digits say, read from them alone: a number's text says the number, has no character but digits, and no zero in front; and such a text is the number's.
-- Rests on Decimal.antt, by the number's tenth.
use mathlib.Core.Path.{◌≡◌, refl, ap, sym, ◌∙◌}
use mathlib.Core.Bool.{Bool, true, ◌&&◌}
use mathlib.Core.List.{List, [], ◌∷◌, ◌++◌, append_assoc, append-nil}
use mathlib.Core.Logic.{◌⊎◌, inl, inr}
use Prim.Native.Nat.{ℕ, ◌+◌, ◌*◌, ◌-◌, ◌/◌, ◌%◌, ◌≤◌, ◌<◌}
use native.Mathlib.Omega.{arith}
use native.Mathlib.Nat.{zero-add}
use borrow.Author.Tests.{le-leb, leb-true}
use lib.Dec.{leb}
use lib.ListN.{length, get_or, get_or-append}
use Rattle.fields.proofs.Tests.{and_yes, and-true}
use Rattle.decimals.specs.Decimal.{decimal}
use Rattle.decimals.proofs.Decimal.{by-tens, decimal-one, decimal-more, decimal-some}

-- the number that decimal digits say, v being what those before them say
unfoldable pub number_from : ℕ → List ℕ → ℕ
number_from v [] = v
number_from v (c ∷ cs) = number_from (v * 10 + (c - 48)) cs

unfoldable pub number_of : List ℕ → ℕ
number_of cs = number_from 0 cs

-- 0 to 9
unfoldable pub is_digit : ℕ → Bool
is_digit c = leb 48 c && leb c 57

-- each character of a text is such a one
unfoldable pub every : (ℕ → Bool) → List ℕ → Bool
every p [] = true
every p (c ∷ cs) = p c && every p cs

value-last : (v c : ℕ) (cs : List ℕ) → number_from v (cs ++ (c ∷ [])) ≡ number_from v cs * 10 + (c - 48)
unfolding number_from
value-last v c [] = refl
value-last v c (d ∷ cs) = value-last (v * 10 + (d - 48)) c cs

-- the digits say the number
pub decimal-back : (x : ℕ) → number_of (decimal x) ≡ x
unfolding number_of number_from
decimal-back = by-tens (λ x. number_from 0 (decimal x) ≡ x) (λ x h. rw (decimal-one x h) (omega arith))
    (λ x h e. rw (decimal-more x h, value-last 0 (48 + x % 10) (decimal (x / 10)), e) (omega arith))

every-last : (p : ℕ → Bool) (c : ℕ) (cs : List ℕ) → every p cs ≡ true → p c ≡ true → every p (cs ++ (c ∷ [])) ≡ true
unfolding every
every-last p c [] e h = and_yes h refl
every-last p c (d ∷ cs) e h = let z = and-true (p d) (every p cs) e in and_yes z.0 (every-last p c cs z.1 h)

pub digit-of : (n : ℕ) → n < 10 → is_digit (48 + n) ≡ true
unfolding is_digit
digit-of n h = and_yes (le-leb 48 (48 + n) (omega arith)) (le-leb (48 + n) 57 (omega arith))

-- it has no character but digits
pub decimal-digits : (x : ℕ) → every is_digit (decimal x) ≡ true
unfolding every
decimal-digits = by-tens (λ x. every is_digit (decimal x) ≡ true) (λ x h. rw (decimal-one x h) (and_yes (digit-of x h) refl))
    (λ x h e. rw (decimal-more x h) (every-last is_digit (48 + x % 10) (decimal (x / 10)) e (digit-of (x % 10) (omega arith))))

-- a zero stands in front only where it is the number
pub decimal-first : (x : ℕ) → get_or (decimal x) 0 0 ≡ 48 → x ≡ 0
decimal-first = by-tens (λ x. get_or (decimal x) 0 0 ≡ 48 → x ≡ 0) (λ x h e. omega (arith, ap (λ (ds : List ℕ). get_or ds 0 0) (decimal-one x h)))
    (λ x h f e.
    let d = decimal (x / 10) in
    let z : x / 10 ≡ 0 =
    f (sym (get_or-append d ((48 + x % 10) ∷ []) 0 0 (omega (arith, decimal-some (x / 10)))) ∙ ap (λ (ds : List ℕ). get_or ds 0 0) (sym (decimal-more x h)) ∙ e) in
    absurd (omega arith))

-- ---- and back

digit-range : (c : ℕ) → is_digit c ≡ true → (48 ≤ c) × (c ≤ 57)
unfolding is_digit
digit-range c e = let z = and-true (leb 48 c) (leb c 57) e in (leb-true 48 c z.0, leb-true c 57 z.1)

digit-exact : (c : ℕ) → is_digit c ≡ true → decimal (c - 48) ≡ c ∷ []
digit-exact c e =
    let r = digit-range c e in
    let z : 48 + (c - 48) ≡ c = omega arith in
    decimal-one (c - 48) (omega arith) ∙ rw z

-- one digit more
more-exact : (v c : ℕ) → 1 ≤ v → is_digit c ≡ true → decimal (v * 10 + (c - 48)) ≡ decimal v ++ (c ∷ [])
more-exact v c h e =
    let r = digit-range c e in
    let x = v * 10 + (c - 48) in
    let tenth : x / 10 ≡ v = omega arith in
    let last : 48 + x % 10 ≡ c = omega arith in
    decimal-more x (omega arith) ∙ rw (tenth, last)

from-exact : (v : ℕ) (cs : List ℕ) → 1 ≤ v → every is_digit cs ≡ true → decimal (number_from v cs) ≡ decimal v ++ cs
unfolding number_from every
from-exact v [] h e = sym (append-nil (decimal v))
from-exact v (c ∷ cs) h e =
    let z = and-true (is_digit c) (every is_digit cs) e in
    from-exact (v * 10 + (c - 48)) cs (omega arith) z.1 ∙ ap (λ (ds : List ℕ). ds ++ cs) (more-exact v c h z.0) ∙ append_assoc (decimal v) (c ∷ []) cs

-- digits are the text of the number that they say, where no zero stands in front of others
pub decimal-exact : (cs : List ℕ) → every is_digit cs ≡ true → (length cs ≡ 1) ⊎ (48 < get_or cs 0 0) → decimal (number_of cs) ≡ cs
unfolding number_of number_from every
decimal-exact [] e (inl h) = absurd (omega arith)
decimal-exact [] e (inr h) = absurd (omega arith)
decimal-exact (c ∷ []) e (inl h) = ap decimal (zero-add (c - 48)) ∙ digit-exact c (and-true (is_digit c) true e).0
decimal-exact (c ∷ d ∷ cs) e (inl h) = absurd (omega arith)
decimal-exact (c ∷ cs) e (inr h) =
    let z = and-true (is_digit c) (every is_digit cs) e in
    rw zero-add (from-exact (c - 48) cs (omega arith) z.1 ∙ ap (λ (ds : List ℕ). ds ++ cs) (digit-exact c z.0))
