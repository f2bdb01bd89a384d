-- What the methods of an iterator answer of a node's successors is what the definitions say.
-- Rests on the definitions.
use mathlib.Core.Path.{◌≡◌, refl, ap, sym, ◌∙◌}
use mathlib.Core.Bool.{Bool, true, false, cond, ◌&&◌}
use mathlib.Core.List.{List, [], ◌∷◌}
use Prim.Native.Nat.{ℕ, suc, ◌+◌, ◌≤◌, ◌<◌}
use native.Mathlib.Omega.{arith}
use borrow.Author.Tests.{lt-ltb, le-ltb}
use native.Mathlib.Decide.{dec_lt}
use lib.Dec.{eqb}
use lib.ListN.{length, get_or}
use Rattle.std.specs.declared.option.Option.{Option}
use Rattle.std.specs.List.{position, position_or_len, list_all}
use Rattle.std.specs.Option.{unwrap_or}
use Rattle.std.proofs.lemmas.List.{get_or_default}
use Rattle.std.proofs.lemmas.List.Recursion.{is_position_or_len}
use Rattle.schema.specs.Schema.{schema_of, node_at}
use Rattle.schema.specs.Table.{AtMost}
use Rattle.schema.proofs.Access.{successors_few, successor_below}
use Rattle.schema.proofs.Accepted.{file-of}
use Rattle.model.specs.Satisfaction.{column_of, every}
use Rattle.nodes.specs.declared.Schema.{Schema}
use Rattle.order.specs.Order.{in_set}

column-position : (x : ℕ) (xs : List ℕ) → column_of x xs ≡ position_or_len (λ s. eqb s x) xs
unfolding column_of
column-position x xs = is_position_or_len (column_of x) (λ s. eqb s x) refl (λ y ys. ap (cond (eqb y x) 0) (let z : suc (column_of x ys) ≡ 1 + column_of x ys = omega arith in z)) xs

column-most : (x : ℕ) (xs : List ℕ) → column_of x xs ≤ length xs
unfolding column_of
column-most x [] = omega arith
column-most x (y ∷ xs) = go (eqb y x) (column-most x xs)
  where
    go : (b : Bool) → column_of x xs ≤ length xs → cond b 0 (suc (column_of x xs)) ≤ suc (length xs)
    go true h = omega arith
    go false h = omega arith

module _ (x : Schema) (n : ℕ) (l : n < length (schema_of x.bytes.now)) where
  abbrev links : List ℕ
  links = (node_at (schema_of x.bytes.now) n).successors

  pub column_found : (s : ℕ) {o : Option ℕ} {xs : List ℕ} {r : ℕ} → xs ≡ links → o ≡ position (λ i. eqb i s) xs → r ≡ unwrap_or o (length xs) → AtMost 8 (column_of s links) r
  column_found s {o} {xs} {r} e f h =
      record { is = is; most = let z = column-most s links in let y = successors_few x.bytes.now n l in omega (arith, is) }
    where
      place : ℕ
      place = position_or_len (λ i. eqb i s) xs

      go : Dec (place < length xs) → place ≤ length xs → unwrap_or (position (λ i. eqb i s) xs) (length xs) ≡ place
      go (yes a) b = rw (lt-ltb place (length xs) a) refl
      go (no a) b = rw (le-ltb place (length xs) (omega arith)) (omega arith)

      found : unwrap_or (position (λ i. eqb i s) xs) (length xs) ≡ place
      found = go (dec_lt place (length xs)) (rw (column-position s xs) at (column-most s xs))

      is : r ≡ column_of s links
      is = h ∙ ap (λ (o : Option ℕ). unwrap_or o (length xs)) f ∙ found ∙ sym (column-position s xs) ∙ ap (column_of s) e

  pub all_every : (nodes : List ℕ) {xs : List ℕ} {b : Bool} → xs ≡ links → b ≡ list_all (in_set nodes) xs → b ≡ every (in_set nodes) links
  all_every nodes {xs} e f = f ∙ same xs ∙ ap (every (in_set nodes)) e
    where
      same : (ys : List ℕ) → list_all (in_set nodes) ys ≡ every (in_set nodes) ys
      same [] = refl
      same (y ∷ ys) = ap (λ (t : Bool). in_set nodes y && t) (same ys)

  pub successors_low : {xs : List ℕ} → xs ≡ links → (k v : ℕ) → k < length xs → v ≡ get_or xs k v → v < 64
  successors_low {xs} e k v h q =
      let w = successor_below x.bytes.now n k l (rw e at h) in
      let f = file-of x.bytes.now (omega arith) in
      let z : get_or links k v ≡ get_or links k 0 = get_or_default links k v 0 (rw e at h) in
      omega (arith, w, f.few, q ∙ ap (λ (ys : List ℕ). get_or ys k v) e, z)
