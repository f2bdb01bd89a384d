-- 18 is at the first forbidden field: of an entry's choice, its values and the later entries, the first that has one has the lowest.
-- Rests on what is found of an entry, and on the order of the fields.
use mathlib.Core.Path.{◌≡◌, ap, subst}
use mathlib.Core.Logic.{◌↔◌}
use mathlib.Core.List.{List, [], ◌∷◌}
use mathlib.Core.Option.{Option, none, some, some-injective}
use Prim.Native.Nat.{ℕ, ◌+◌}
use native.Mathlib.Omega.{arith}
use lib.ListN.{length}
use Rattle.schema.specs.Schema.{Node}
use Rattle.policies.specs.Policies.{Policy}
use Rattle.instances.specs.Instance.{Entry}
use Rattle.instances.specs.File.{encode_entry}
use Rattle.model.specs.Comparing.{forbidden_from, forbidden}
use Rattle.model.proofs.Relations.{ForbiddenField, First}
use Rattle.model.proofs.Search.{Finds, nothing, at, finds-next}
use Rattle.model.proofs.Splits.{entries-split}
use Rattle.model.proofs.Found.{own-found}

module _ (g : List Node) (ps : List Policy) where
  fields-found : (i : List Entry) (p : ℕ) → Finds (ForbiddenField g ps i p) (forbidden_from g ps i p)
  unfolding forbidden_from
  fields-found [] p = nothing (λ o. elim [ ])
  fields-found (e ∷ i) p = finds-next (entries-split g ps e i p) (own-found g ps e p) (fields-found i (p + length (encode_entry g e)))

  -- '18 first choice or value field that a policy in force forbids'
  pub forbidden-first : (i : List Entry) (o : ℕ) → (forbidden g ps i ≡ some o) ↔ First (ForbiddenField g ps i 3) o
  unfolding forbidden
  forbidden-first i o = go (forbidden_from g ps i 3) (fields-found i 3)
    where
      go : (x : Option ℕ) → Finds (ForbiddenField g ps i 3) x → (x ≡ some o) ↔ First (ForbiddenField g ps i 3) o
      go none (nothing h) = (λ e. absurd (let z : ◌≡◌ {A = ℕ} 0 1 = cc in omega arith), λ w. absurd (h o w.has))
      go (some r) (at w) = (
        λ e. subst (First (ForbiddenField g ps i 3)) (some-injective r o e) w,
        λ v. ap {B = Option ℕ} some (let y = w.least o v.has in let z = v.least r w.has in omega arith),
      )
