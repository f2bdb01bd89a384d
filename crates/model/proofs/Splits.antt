-- The forbidden fields of an instance file in their order: of an entry its choice, then its values, then the later entries'.
-- Rests on how long an entry is when written.
use mathlib.Core.Path.{◌≡◌, refl, sym, subst}
use mathlib.Core.Logic.{◌⊎◌, inl, inr}
use mathlib.Core.List.{List, ◌∷◌, Memᴰ}
use mathlib.Core.Bool.{true}
use Prim.Native.Nat.{ℕ, ◌+◌, ◌≤◌}
use native.Mathlib.Omega.{arith}
use lib.ListN.{length, length-append}
use lib.IntN.{ℤ}
use Rattle.schema.specs.Schema.{Node, node_at}
use Rattle.schema.specs.declared.Variable.{Variable}
use Rattle.policies.specs.Policies.{Policy}
use Rattle.instances.specs.Instance.{Entry, chooses}
use Rattle.instances.specs.File.{value_width, encode_value, encode_values, encode_entry}
use Rattle.instances.proofs.Lengths.{value-width, entry_length}
use Rattle.model.specs.Satisfaction.{rank, condition_at, meets}
use Rattle.model.proofs.Relations.{ForbiddenValue, here, next, ForbiddenField, at-choice, at_value, after}
use Rattle.model.proofs.Search.{Either}

module _ (ps : List Policy) (n : ℕ) where
  -- value x of variable k, which is v
  pub record Value (k : ℕ) (v : Variable) (x : ℤ) : Type 0 where
    pub by : Policy
    pub one : Memᴰ by ps
    pub bans : meets v (condition_at by n k) x ≡ true → ⊥

  pub value-from : {k : ℕ} {vs : List Variable} {xs : List ℤ} {p o : ℕ} → ForbiddenValue ps n k vs xs p o → p ≤ o
  value-from (here q m h) = omega arith
  value-from (next f) = let z = value-from f in omega arith

  pub value-upto : {k : ℕ} {vs : List Variable} {xs : List ℤ} {p o : ℕ} → ForbiddenValue ps n k vs xs p o → o ≤ p + length (encode_values vs xs)
  unfolding encode_values
  value-upto (here q m h) = omega arith
  value-upto (next {v = v} {vs} {x} {xs} f) = let z = value-upto f in omega (arith, length-append (encode_value v x) (encode_values vs xs), value-width v x)

  pub values-split : (k : ℕ) (v : Variable) (vs : List Variable) (x : ℤ) (xs : List ℤ) (p : ℕ)
      → Either (ForbiddenValue ps n k (v ∷ vs) (x ∷ xs) p) (λ o. (o ≡ p) × Value k v x) (ForbiddenValue ps n (k + 1) vs xs (p + value_width v))
  values-split k v vs x xs p =
      record {
        split = λ o f. parts f;
        first = λ o h. subst (ForbiddenValue ps n k (v ∷ vs) (x ∷ xs) p) (sym h.0) (here h.1.by h.1.one h.1.bans);
        second = λ o f. next f;
        behind = λ o q h f. let z : o ≡ p = h.0 in let y = value-from f in omega arith;
      }
    where
      parts : {o : ℕ} → ForbiddenValue ps n k (v ∷ vs) (x ∷ xs) p o → ((o ≡ p) × Value k v x) ⊎ ForbiddenValue ps n (k + 1) vs xs (p + value_width v) o
      parts (here q m h) = inl (refl, record { by = q; one = m; bans = h })
      parts (next f) = inr f

module _ (g : List Node) (ps : List Policy) where
  -- the choice of an entry
  pub record Choice (e : Entry) : Type 0 where
    pub by : Policy
    pub one : Memᴰ by ps
    pub picks : chooses (node_at g e.node) ≡ true
    pub bans : rank g by e.node e.choice ≡ 255

  field-from : {i : List Entry} {p o : ℕ} → ForbiddenField g ps i p o → p ≤ o
  field-from (at-choice q m c h) = omega arith
  field-from (at_value {e = e} f) = let z = value-from ps e.node f in omega arith
  field-from (after f) = let z = field-from f in omega arith

  -- a value of an entry that stands at p
  abbrev pub Values : Entry → ℕ → ℕ → Type 0
  Values e p o = ForbiddenValue ps e.node 0 (node_at g e.node).variables e.values (p + 4) o

  -- a field of that entry
  pub data Own (e : Entry) (p : ℕ) : ℕ → Type 0 where
    its-choice : Choice e → Own e p (p + 3)
    its-value : {o : ℕ} → Values e p o → Own e p o

  pub own_split : (e : Entry) (p : ℕ) → Either (Own e p) (λ o. (o ≡ p + 3) × Choice e) (Values e p)
  own_split e p =
      record {
        split = λ o f. parts f;
        first = λ o h. subst (Own e p) (sym h.0) (its-choice h.1);
        second = λ o f. its-value f;
        behind = λ o q h f. let z : o ≡ p + 3 = h.0 in let y = value-from ps e.node f in omega arith;
      }
    where
      parts : {o : ℕ} → Own e p o → ((o ≡ p + 3) × Choice e) ⊎ Values e p o
      parts (its-choice h) = inl (refl, h)
      parts (its-value f) = inr f

  pub entries-split : (e : Entry) (i : List Entry) (p : ℕ) → Either (ForbiddenField g ps (e ∷ i) p) (Own e p) (ForbiddenField g ps i (p + length (encode_entry g e)))
  entries-split e i p =
      record {
        split = λ o f. parts f;
        first = λ o f. own f;
        second = λ o f. after f;
        behind = λ o q f h. let y = upto f in let z = field-from h in omega (arith, entry_length g e);
      }
    where
      parts : {o : ℕ} → ForbiddenField g ps (e ∷ i) p o → Own e p o ⊎ ForbiddenField g ps i (p + length (encode_entry g e)) o
      parts (at-choice q m c h) = inl (its-choice (record { by = q; one = m; picks = c; bans = h }))
      parts (at_value f) = inl (its-value f)
      parts (after f) = inr f

      own : {o : ℕ} → Own e p o → ForbiddenField g ps (e ∷ i) p o
      own (its-choice h) = at-choice h.by h.one h.picks h.bans
      own (its-value f) = at_value f

      upto : {o : ℕ} → Own e p o → o ≤ p + 4 + length (encode_values (node_at g e.node).variables e.values)
      upto (its-choice h) = omega arith
      upto (its-value f) = value-upto ps e.node f
