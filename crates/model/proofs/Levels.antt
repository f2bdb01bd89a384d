-- Induction from the highest node down, and tests that ask of nodes above: as many levels as there are nodes are enough.
-- Rests on nothing but the definition of `within`.
use mathlib.Core.Path.{◌≡◌, sym, ◌∙◌}
use mathlib.Core.Bool.{Bool}
use Prim.Native.Nat.{ℕ, zero, suc, ◌+◌, ◌≤◌, ◌<◌}
use native.Mathlib.Omega.{arith}
use Rattle.model.specs.Order.{within}

-- the nodes that count are below the count
module _ (count : ℕ) (P : ℕ → Type 0) (low : (n : ℕ) → P n → n < count) where
  module _ (Q : ℕ → Type 0) (down : (n : ℕ) → P n → ((s : ℕ) → n < s → P s → Q s) → Q n) where
    descend-from : (d n : ℕ) → count ≤ n + d → P n → Q n
    descend-from zero n h p = absurd (let z = low n p in omega arith)
    descend-from (suc d) n h p = down n p (λ s u v. descend-from d s (omega arith) v)

    pub descend : (n : ℕ) → P n → Q n
    descend n p = descend-from count n (omega arith) p

  module _ (step : (ℕ → Bool) → ℕ → Bool) (local : (h k : ℕ → Bool) (n : ℕ) → P n → ((s : ℕ) → n < s → P s → h s ≡ k s) → step h n ≡ step k n) where
    within_same : (i j n : ℕ) → P n → count ≤ n + i → count ≤ n + j → within step i n ≡ within step j n
    unfolding within
    within_same zero j n p a b = absurd (let z = low n p in omega arith)
    within_same (suc i) zero n p a b = absurd (let z = low n p in omega arith)
    within_same (suc i) (suc j) n p a b = local (within step i) (within step j) n p (λ s u v. within_same i j s v (omega arith) (omega arith))

    pub within_step : (n : ℕ) → P n → within step count n ≡ step (within step count) n
    unfolding within
    within_step n p = within_same count (suc count) n p (omega arith) (omega arith)

    -- for an engine: a table that is right above n gives what is right at n
    pub by-table : (tab : ℕ → Bool) (n : ℕ) → P n → ((s : ℕ) → n < s → P s → tab s ≡ within step count s) → step tab n ≡ within step count n
    by-table tab n p f = local tab (within step count) n p f ∙ sym (within_step n p)
