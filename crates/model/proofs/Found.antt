-- The first forbidden field of an entry is found: its choice, or a value.
-- Rests on the laws of `every`, and on the order of an entry's fields.
use mathlib.Core.Path.{◌≡◌, refl, sym, subst, ◌∙◌}
use mathlib.Core.List.{List, [], ◌∷◌, Memᴰ}
use mathlib.Core.Bool.{Bool, true, false, not, ◌&&◌, ◌||◌}
use Prim.Native.Nat.{ℕ, ◌+◌}
use borrow.Author.Tests.{eqb-true}
use lib.Dec.{eqb}
use lib.IntN.{ℤ}
use Rattle.fields.proofs.Tests.{never}
use Rattle.schema.specs.Schema.{Node, node_at}
use Rattle.schema.specs.declared.Variable.{Variable}
use Rattle.policies.specs.Policies.{Policy}
use Rattle.instances.specs.Instance.{Entry, chooses}
use Rattle.instances.specs.File.{value_width}
use Rattle.model.specs.Satisfaction.{rank, condition_at, meets, every, allowed, admitted, choice_meets}
use Rattle.model.specs.Comparing.{forbidden_value, forbidden_entry}
use Rattle.model.proofs.Relations.{ForbiddenValue}
use Rattle.model.proofs.Satisfaction.{allowed-iff, admitted-iff}
use Rattle.model.proofs.Search.{Finds, nothing, finds-next, finds-here, or-next}
use Rattle.model.proofs.Splits.{Value, values-split, Choice, Own, own_split}

-- not every one passes: one does not
some-fails : {A : Type 0} (ok : A → Bool) (l : List A) → every ok l ≡ false → (x : A) × Memᴰ x l × (ok x ≡ true → ⊥)
some-fails ok [] e = never (sym e)
some-fails ok (x ∷ l) e = go (ok x) refl (some-fails ok l) e
  where
    go : (b : Bool) → ok x ≡ b → (every ok l ≡ false → (y : _) × Memᴰ y l × (ok y ≡ true → ⊥)) → b && every ok l ≡ false → (y : _) × Memᴰ y (x ∷ l) × (ok y ≡ true → ⊥)
    go true t ih f = let w = ih f in (w.0, Memᴰ.tail w.1, w.2)
    go false t ih f = (x, Memᴰ.head refl, λ u. never (sym t ∙ u))

module _ (ps : List Policy) (n : ℕ) where
  value-fails : (k : ℕ) (v : Variable) (x : ℤ) → admitted ps n k v x ≡ false → Value ps n k v x
  unfolding admitted
  value-fails k v x t = let w = some-fails (λ (q : Policy). meets v (condition_at q n k) x) ps t in record { by = w.0; one = w.1; bans = w.2 }

  pub values-found : (k : ℕ) (vs : List Variable) (xs : List ℤ) (p : ℕ) → Finds (ForbiddenValue ps n k vs xs p) (forbidden_value ps n k vs xs p)
  unfolding forbidden_value
  values-found k [] xs p = nothing (λ o. elim [ ])
  values-found k (v ∷ vs) [] p = nothing (λ o. elim [ ])
  values-found k (v ∷ vs) (x ∷ xs) p =
      subst (Finds (ForbiddenValue ps n k (v ∷ vs) (x ∷ xs) p)) (sym (or-next (admitted ps n k v x) p (forbidden_value ps n (k + 1) vs xs (p + value_width v))))
      (finds-next (values-split ps n k v vs x xs p)
      (finds-here p (admitted ps n k v x) (λ t h. h.bans ((admitted-iff ps n k v x).0 t h.by h.one)) (value-fails k v x))
      (values-found (k + 1) vs xs (p + value_width v)))

module _ (g : List Node) (ps : List Policy) where
  pub choice-fails : (e : Entry) → choice_meets g ps e ≡ false → Choice g ps e
  unfolding choice_meets allowed
  choice-fails e t = go (chooses (node_at g e.node)) refl t
    where
      banned : (b : Bool) → (not b ≡ true → ⊥) → b ≡ true
      banned true f = refl
      banned false f = absurd (f refl)

      go : (c : Bool) → chooses (node_at g e.node) ≡ c → (not c || allowed g ps e.node e.choice) ≡ false → Choice g ps e
      go true c f =
          let w = some-fails (λ (p : Policy). not (eqb (rank g p e.node e.choice) 255)) ps f in
          record { by = w.0; one = w.1; picks = c; bans = eqb-true (rank g w.0 e.node e.choice) 255 (banned (eqb (rank g w.0 e.node e.choice) 255) w.2) }
      go false c f = never (sym f)

  pub choice-meets : (e : Entry) → choice_meets g ps e ≡ true → Choice g ps e → ⊥
  unfolding choice_meets
  choice-meets e t h =
      let u : not (chooses (node_at g e.node)) || allowed g ps e.node e.choice ≡ true = t in
      (allowed-iff g ps e.node e.choice).0 (rw h.picks at u) h.by h.one h.bans

  pub own-found : (e : Entry) (p : ℕ) → Finds (Own g ps e p) (forbidden_entry g ps e p)
  unfolding forbidden_entry
  own-found e p =
      let c = finds-here (p + 3) (choice_meets g ps e) (choice-meets e) (choice-fails e) in
      let v = values-found ps e.node 0 (node_at g e.node).variables e.values (p + 4) in
      subst (Finds (Own g ps e p)) (sym (or-next (choice_meets g ps e) (p + 3) _)) (finds-next (own_split g ps e p) c v)
