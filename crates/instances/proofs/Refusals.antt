-- A refused instance file has a number that is not 0: so has each of its parts.
-- Rests on the field laws of refusals.
use mathlib.Core.Path.{◌≡◌, refl}
use mathlib.Core.List.{List, [], ◌∷◌}
use Prim.Native.Nat.{ℕ, zero, suc}
use lib.ListN.{length}
use Rattle.fields.specs.Reading.{got, bad, whole, mark}
use Rattle.fields.proofs.Refusals.{Numbered, numbered, cond-numbered, part-numbered, whole-numbered, field-numbered, mark-numbered, ended-numbered}
use Rattle.schema.specs.Schema.{Node, node_at}
use Rattle.schema.specs.declared.Variable.{Variable}
use Rattle.instances.specs.Instance.{Entry, right_choice, in_domain}
use Rattle.instances.specs.File.{IH, IN, due, none_below, lowest_due, value_width, value_of, value, values, entry_of, entry, entries, instance}

module _ (s : List ℕ) where
  value-numbered : (v : Variable) (p : ℕ) → Numbered (value s v p)
  unfolding value
  value-numbered v p = field-numbered (value_width v) 17 (λ u. in_domain v (value_of v u)) s p _ refl (λ u q. tt)

  values-numbered : (vs : List Variable) (p : ℕ) → Numbered (values s vs p)
  unfolding values
  values-numbered [] p = tt
  values-numbered (v ∷ vs) p =
      part-numbered (value s v p) _ (value-numbered v p) (λ x q. part-numbered (values s vs q) _ (values-numbered vs q) (λ xs r. tt))

  entry-numbered : (g : List Node) (es : List Entry) (p : ℕ) → Numbered (entry s g es p)
  unfolding entry entry_of
  entry-numbered g es p =
      part-numbered (mark IN s p) _ (mark-numbered IN s p) (λ _ p.
      field-numbered 1 15 (lowest_due g es) s p _ refl (λ n p.
      field-numbered 1 16 (right_choice (node_at g n)) s p _ refl (λ c p.
      part-numbered (values s (node_at g n).variables p) _ (values-numbered (node_at g n).variables p) (λ xs p. tt))))

  entries-numbered : (g : List Node) (m : ℕ) (es : List Entry) (p : ℕ) → Numbered (entries s g m es p)
  unfolding entries
  entries-numbered g zero es p = cond-numbered (none_below (due g es) (length g)) (got [] p) (bad 15 2) tt refl
  entries-numbered g (suc m) es p =
      part-numbered (entry s g es p) _ (entry-numbered g es p) (λ e p.
      part-numbered (entries s g m (e ∷ es) p) _ (entries-numbered g m (e ∷ es) p) (λ rest p. tt))

pub instance-numbered : (g : List Node) (s : List ℕ) → Numbered (instance g s)
unfolding instance
instance-numbered g s =
    part-numbered (mark IH s 0) _ (mark-numbered IH s 0) (λ _ p.
    part-numbered (whole 1 s p) _ (whole-numbered 1 s p) (λ m p.
    part-numbered (entries s g m [] p) _ (entries-numbered s g m [] p) (λ i p. ended-numbered s i p)))

pub refused : (g : List Node) (s : List ℕ) {n o : ℕ} → instance g s ≡ bad n o → n ≡ 0 → ⊥
refused g s e = numbered (instance-numbered g s) e
