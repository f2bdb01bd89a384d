-- Going over a node's successors and variables, and what a node that chooses reaches.
-- Rests on what the schema's accessors answer.
use mathlib.Core.Path.{◌≡◌, refl, ap, sym, ◌∙◌}
use mathlib.Core.Bool.{Bool, true, false, cond, ◌&&◌}
use mathlib.Core.List.{List, ◌∷◌}
use Prim.Native.Nat.{ℕ, ◌+◌, ◌≤◌, ◌<◌}
use native.Mathlib.Omega.{arith}
use lib.Dec.{eqb, ltb}
use lib.ListN.{length, get_or, drop, drop_of_length-le}
use Rattle.std.proofs.lemmas.List.{drop_more}
use Rattle.fields.proofs.Tests.{and-true}
use Rattle.numbers.specs.Bits.{with, with_all}
use Rattle.schema.specs.Schema.{Node, no_variable}
use Rattle.schema.specs.Layout.{rank_count}
use Rattle.schema.specs.Table.{AtMost}
use Rattle.schema.specs.declared.Variable.{Variable}
use Rattle.instances.specs.Instance.{chooses, reaches}

-- ---- its successors, from successor j on

module _ (xs : List ℕ) (j : ℕ) where
  pub with_more : (r : ℕ) {r₁ X : ℕ} → with_all r (drop j xs) ≡ X → j < length xs → r₁ ≡ with r (get_or xs j 0) → with_all r₁ (drop (j + 1) xs) ≡ X
  unfolding with_all
  with_more r v h w = rw w (sym (ap (with_all r) (drop_more xs j 0 h)) ∙ v)

  pub with_done : (r : ℕ) {X : ℕ} → with_all r (drop j xs) ≡ X → length xs ≤ j → r ≡ X
  unfolding with_all
  with_done r v h = sym (ap (with_all r) (drop_of_length-le xs {i = j} h)) ∙ v

-- ---- its kind

module _ (x : Node) where
  pub chooses_ranked : {r : ℕ} → AtMost 8 (rank_count x) r → ltb 0 r ≡ chooses x
  unfolding chooses rank_count
  chooses_ranked w = ap (ltb 0) w.is ∙ go (eqb x.kind 1)
    where
      go : (b : Bool) → ltb 0 (cond b (length x.successors) 0) ≡ (b && ltb 0 (length x.successors))
      go true = refl
      go false = refl

  -- a node that chooses has a rank for each successor
  pub chooses_columns : chooses x ≡ true → rank_count x ≡ length x.successors
  unfolding chooses rank_count
  chooses_columns q = rw (and-true (eqb x.kind 1) (ltb 0 (length x.successors)) q).0

  module _ {b : Bool} (c : ℕ) where
    pub reach_one : (m : ℕ) {r : ℕ} → b ≡ chooses x → b ≡ true → r ≡ with m c → r ≡ with_all m (reaches x c)
    unfolding reaches with_all
    reach_one m e t h = rw (sym e ∙ t) h

    pub reach_all : (m : ℕ) {r : ℕ} → b ≡ chooses x → b ≡ false → r ≡ with_all m x.successors → r ≡ with_all m (reaches x c)
    unfolding reaches with_all
    reach_all m e t h = rw (sym e ∙ t) h

-- ---- its variables, from variable k on

pub vars_more : (x : Node) (k : ℕ) {n : ℕ} {v : Variable} → AtMost 4 (length x.variables) n → k < n → v ≡ get_or x.variables k no_variable
    → drop k x.variables ≡ v ∷ drop (k + 1) x.variables
vars_more x k l h e = rw e (drop_more x.variables k no_variable (omega (arith, l.is)))
