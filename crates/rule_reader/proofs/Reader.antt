-- The reader's loops: what is left to read from here equals the whole.
-- Rests on the definitions of the readings and on the laws of fields taken in turn.
use mathlib.Core.Path.{◌≡◌, ap, sym, ◌∙◌}
use mathlib.Core.Bool.{Bool, true}
use mathlib.Core.List.{List, ◌∷◌}
use Prim.Native.Nat.{ℕ, ◌+◌, ◌-◌, ◌^◌, ◌≤◌, ◌<◌}
use native.Mathlib.Omega.{arith}
use native.Mathlib.Numerals.{add-one}
use lib.ListN.{length, get_or, drop, drop_of_length-le}
use lib.Seq.{drop-cons}
use lib.Dec.{ltb}
use Rattle.fields.specs.Reading.{Got, got, bad, part, whole, field}
use Rattle.fields.specs.Answers.{end_of}
use Rattle.fields.proofs.Reading.{stepped, stopped}
use Rattle.fields.proofs.Loops.{forget, many_done, many_bad, many_more}
use Rattle.schema.specs.Schema.{Node, no_variable}
use Rattle.schema.specs.Table.{AtMost}
use Rattle.schema.specs.declared.Variable.{Variable}
use Rattle.schema.specs.declared.Variable.TheVariants.{Listed}
use Rattle.schema.specs.Layout.{rank_count}
use Rattle.policies.specs.Policies.{ranks, condition, conditions, rule_of}

-- the loop over k ranks, of which j are read
pub ranks_init : (s : List ℕ) (k p : ℕ) → end_of (ranks s (k - 0) p) ≡ end_of (ranks s k p)
ranks_init s k p = let z : k - 0 ≡ k = omega arith in ap (λ (i : ℕ). end_of (ranks s i p)) z

module _ (s : List ℕ) (k j p : ℕ) {X : Got Unit} where
  pub ranks_done : end_of (ranks s (k - j) p) ≡ X → k ≤ j → got tt p ≡ X
  unfolding ranks
  ranks_done i h = many_done {S = ℕ} (λ _ p. whole 1 s p) (λ i _. i) (k - j) 0 p i (omega arith)

  pub ranks_bad : {n o : ℕ} → end_of (ranks s (k - j) p) ≡ X → j < k → bad n o ≡ whole 1 s p → bad n o ≡ X
  unfolding ranks
  ranks_bad i h e = many_bad {S = ℕ} (λ _ p. whole 1 s p) (λ i _. i) (k - j) 0 p i (omega arith) (sym e)

  pub ranks_more : {v q : ℕ} → end_of (ranks s (k - j) p) ≡ X → j < k → got v q ≡ whole 1 s p → end_of (ranks s (k - (j + 1)) q) ≡ X
  unfolding ranks
  ranks_more {q = q} i h e =
      let z : k - (j + 1) ≡ k - j - 1 = omega arith in
      rw z (many_more {S = ℕ} (λ _ p. whole 1 s p) (λ i _. i) (k - j) 0 p i (omega arith) (sym e))

-- a mask that fits
pub mask_ok : (s : List ℕ) (p : ℕ) (v : Variable) {size x q : ℕ} {t : Bool} → got x q ≡ whole 4 s p → v ≡ Listed size → t ≡ ltb x (2 ^ size) → t ≡ true
    → got tt q ≡ end_of (condition s v p)
unfolding condition field part
mask_ok s p v e h d k = rw (h, ← e, sym d ∙ k)

-- one condition of those that are left
open-one : (vs : List Variable) (n k : ℕ) (s : List ℕ) (p : ℕ) {v : Variable} → k < n → AtMost 4 (length vs) n → v ≡ get_or vs k no_variable
    → conditions s (drop k vs) p ≡ conditions s (v ∷ drop (k + 1) vs) p
open-one vs n k s p h m e = rw (e, add-one k) (ap (λ (l : List Variable). conditions s l p) (drop-cons vs k no_variable (omega (arith, m.is))))

module _ (vs : List Variable) (n k : ℕ) (s : List ℕ) (p : ℕ) {v : Variable} {X : Got Unit} where
  pub conditions_bad : {m o : ℕ} → end_of (conditions s (drop k vs) p) ≡ X → k < n → AtMost 4 (length vs) n → v ≡ get_or vs k no_variable
      → bad m o ≡ end_of (condition s v p) → bad m o ≡ X
  unfolding conditions part
  conditions_bad i h a e g = rw (open-one vs n k s p h a e, stopped (condition s v p) g) at i

  pub conditions_more : {q : ℕ} → end_of (conditions s (drop k vs) p) ≡ X → k < n → AtMost 4 (length vs) n → v ≡ get_or vs k no_variable
      → got tt q ≡ end_of (condition s v p) → end_of (conditions s (drop (k + 1) vs) q) ≡ X
  unfolding conditions part
  conditions_more {q} i h a e g =
      let c = stepped (condition s v p) g in
      sym (forget (conditions s (drop (k + 1) vs) q) (λ cs. c.0 ∷ cs)) ∙ (rw (open-one vs n k s p h a e, c.1) at i)

pub conditions_done : (vs : List Variable) (n k : ℕ) (s : List ℕ) (p : ℕ) {X : Got Unit} → end_of (conditions s (drop k vs) p) ≡ X → n ≤ k
    → AtMost 4 (length vs) n → got tt p ≡ X
unfolding conditions
conditions_done vs n k s p i h a = rw (drop_of_length-le vs {i = k} (omega (arith, a.is))) at i

-- ranks, then conditions
module _ (s : List ℕ) (x : Node) (n p k : ℕ) (a : AtMost 8 (rank_count x) k) where
  pub fields_cut : {m o : ℕ} → bad m o ≡ end_of (ranks s k p) → bad m o ≡ end_of (rule_of s x n p)
  unfolding rule_of part
  fields_cut e = rw (← a.is, stopped (ranks s k p) e)

  pub fields_rest : {q : ℕ} {X : Got Unit} → got tt q ≡ end_of (ranks s k p) → X ≡ end_of (conditions s x.variables q) → X ≡ end_of (rule_of s x n p)
  unfolding rule_of part
  fields_rest {q} e h = rw (← a.is, (stepped (ranks s k p) e).1) (h ∙ sym (forget (conditions s x.variables q) _))
