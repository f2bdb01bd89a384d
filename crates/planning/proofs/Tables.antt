-- The table that tells which of a node's successors are in a set, filled column by column.
-- Rests on the laws of a store in a list.
use mathlib.Core.Path.{◌≡◌, refl, ap, ◌∙◌}
use mathlib.Core.Bool.{Bool, true, false}
use mathlib.Core.List.{List}
use Prim.Native.Nat.{ℕ, ◌+◌, ◌≤◌, ◌<◌}
use native.Mathlib.Omega.{arith}
use native.Mathlib.Decide.{dec_lt}
use mir.Val.{bool_byte}
use lib.Dec.{eqb}
use lib.ListN.{length, get_or, set, length-set}
use lib.Seq.{get_or-set_same, get_or-set_other}
use Rattle.numbers.specs.Bits.{bit}
use Rattle.order.specs.Order.{in_set}
use Rattle.planning.specs.Sweep.{SuccessorsIn}

pub record Marking (xs : List ℕ) (k nodes : ℕ) (t : List ℕ) : Type 0 where
  pub each : (i : ℕ) → i < k → in_set t i ≡ bit nodes (get_or xs i 0)
  pub long : length t ≡ 8

pub marking_init : (xs : List ℕ) (nodes : ℕ) (t : List ℕ) → length t ≡ 8 → Marking xs 0 nodes t
marking_init xs nodes t e = record { each = λ i h. absurd (omega arith); long = e }

module _ (xs : List ℕ) (k nodes : ℕ) (t : List ℕ) (w : Marking xs k nodes t) where
  pub marking_step : {x v : ℕ} {b : Bool} → k < length xs → length xs ≤ 8 → x ≡ get_or xs k 0 → b ≡ bit nodes x → v ≡ bool_byte b → Marking xs (k + 1) nodes (set t k v)
  marking_step {x} {v} {b} h few e q z = record { each = λ i a. one i a (dec_lt i k); long = length-set t k v ∙ w.long }
    where
      mark : (b : Bool) → eqb (bool_byte b) 1 ≡ b
      mark true = refl
      mark false = refl

      one : (i : ℕ) → i < k + 1 → Dec (i < k) → in_set (set t k v) i ≡ bit nodes (get_or xs i 0)
      one i a (yes y) = ap (λ (z : ℕ). eqb z 1) (get_or-set_other t k i v 0 (λ z. omega arith)) ∙ w.each i y
      one i a (no y) =
          let j : i ≡ k = omega arith in
          rw j (ap (λ (z : ℕ). eqb z 1) (get_or-set_same t k v 0 (omega (arith, w.long)) ∙ z) ∙ mark b ∙ q ∙ ap (bit nodes) e)

  pub marking_exit : length xs ≤ k → SuccessorsIn xs nodes t
  marking_exit h = record { each = λ i a. w.each i (omega arith) }
