-- The members of a set in turn: the first is its lowest bit, and the others are those of the set with that bit turned.
-- Rests on the laws of bits.
use mathlib.Core.Path.{◌≡◌, refl, ap, ◌∙◌}
use mathlib.Core.Bool.{true, false}
use mathlib.Core.List.{List, [], ◌∷◌}
use Prim.Native.Nat.{ℕ, zero, suc, ◌+◌, ◌≤◌, ◌<◌}
use native.Mathlib.Omega.{arith}
use native.Mathlib.Decide.{dec_lt}
use borrow.Author.Tests.{eq-eqb, ne_eqb}
use Rattle.std.specs.List.{filter, range_with_len}
use Rattle.fields.proofs.Tests.{is-not}
use Rattle.numbers.specs.Bits.{bit, turned}
use Rattle.numbers.specs.Lowest.{Lowest}
use Rattle.numbers.specs.Members.{members}
use Rattle.numbers.proofs.Bits.{no-bit, turned_bit, lowest-bit, tz-least}

-- no member is left of no set
none_from : (a k : ℕ) → filter (bit 0) (range_with_len a k) ≡ []
none_from a zero = refl
none_from a (suc k) = rw (no-bit a) (none_from (a + 1) k)

pub no_members : {m : ℕ} → m ≡ 0 → members m ≡ []
unfolding members
no_members e = rw e (none_from 0 64)

module _ (m n : ℕ) (small : n < 64) where
  abbrev from : ℕ → ℕ → ℕ → List ℕ
  from x a k = filter (bit x) (range_with_len a k)

  -- another number stays, whether it is a member or not
  other : (a : ℕ) → (a ≡ n → ⊥) → bit (turned m n) a ≡ bit m a
  other a ne = turned_bit m n a small ∙ rw (ne_eqb a n ne)

  above : (a k : ℕ) → n < a → from m a k ≡ from (turned m n) a k
  above a zero h = refl
  above a (suc k) h = rw (other a (λ e. omega arith), above (a + 1) k (omega arith))

  module _ (set : bit m n ≡ true) (least : (j : ℕ) → bit m j ≡ true → n ≤ j) where
    first_from : (a k : ℕ) → a ≤ n → n < a + k → from m a k ≡ n ∷ from (turned m n) a k
    first_from a zero h l = absurd (omega arith)
    first_from a (suc k) h l = go (dec_lt a n) (first_from (a + 1) k)
      where
        go : Dec (a < n) → (a + 1 ≤ n → n < a + 1 + k → from m (a + 1) k ≡ n ∷ from (turned m n) (a + 1) k) → from m a (suc k) ≡ n ∷ from (turned m n) a (suc k)
        go (yes b) ih =
            let off : bit m a ≡ false = is-not (bit m a) (λ t. let z = least a t in omega arith) in
            rw (other a (λ e. omega arith), off) (ih (omega arith) (omega arith))
        go (no b) ih =
            let e : a ≡ n = omega arith in
            rw (turned_bit m n a small, eq-eqb a n e, e, set) (ap (λ (xs : List ℕ). n ∷ xs) (above (n + 1) k (omega arith)))

    pub members_first : members m ≡ n ∷ members (turned m n)
    unfolding members
    members_first = first_from 0 64 (omega arith) (omega arith)

pub lowest_first : {m n u : ℕ} → Lowest 64 m n → u ≡ turned m n → members m ≡ n ∷ members u
lowest_first {m} {n} l e =
    rw e (members_first m n l.small (lowest-bit 64 m l) (λ j t. let z = tz-least 64 m j t in omega (arith, l.is)))
