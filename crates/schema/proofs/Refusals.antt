-- A refused schema file has a number that is not 0: so has each of its parts.
-- Rests on the field laws of refusals.
use mathlib.Core.Path.{◌≡◌, refl}
use mathlib.Core.Bool.{◌&&◌, ◌||◌}
use mathlib.Core.List.{List}
use Prim.Native.Nat.{ℕ}
use lib.Dec.{leb, ltb, eqb}
use lib.Signed.{le_z}
use Rattle.fields.specs.Reading.{bad, got, whole, mark, signed}
use Rattle.fields.proofs.Refusals.{Numbered, numbered, cond-numbered, part-numbered, whole-numbered, field-numbered, mark-numbered, many-numbered, ended-numbered}
use Rattle.schema.specs.Schema.{SH, SN, successors, links, number, listed, variable, variables, variables_of, node, nodes, body, schema}

module _ (s : List ℕ) where
  links-numbered : (count own kind p : ℕ) → Numbered (links s count own kind p)
  unfolding links successors
  links-numbered count own kind p =
      field-numbered 1 4 (λ c. leb c 8 && (ltb 0 c || eqb kind 1)) s p _ refl (λ c p.
      many-numbered _ _ (λ above p. field-numbered 1 5 (λ x. ltb above x && ltb x count) s p got refl (λ v q. tt)) c own p)

  variable-numbered : (p : ℕ) → Numbered (variable s p)
  unfolding variable number listed
  variable-numbered p =
      field-numbered 1 6 (λ type. leb type 1) s p _ refl (λ type p.
      cond-numbered (eqb type 0) (number s p) (listed s p)
      (part-numbered (whole 4 s p) _ (whole-numbered 4 s p) (λ lo p.
      field-numbered 4 6 (λ hi. le_z (signed lo) (signed hi)) s p _ refl (λ hi q. tt)))
      (field-numbered 1 6 (λ size. ltb 0 size && leb size 32) s p _ refl (λ size q. tt)))

  variables-numbered : (p : ℕ) → Numbered (variables_of s p)
  unfolding variables_of variables
  variables-numbered p =
      field-numbered 1 6 (λ v. leb v 4) s p _ refl (λ v p.
      many-numbered {S = ℕ} _ _ (λ _ p. variable-numbered p) v 0 p)

  node-numbered : (count own p : ℕ) → Numbered (node s count own p)
  unfolding node
  node-numbered count own p =
      part-numbered (mark SN s p) _ (mark-numbered SN s p) (λ _ p.
      field-numbered 1 4 (λ kind. leb kind 1) s p _ refl (λ kind p.
      part-numbered (links s count own kind p) _ (links-numbered count own kind p) (λ next p.
      part-numbered (variables_of s p) _ (variables-numbered p) (λ vs p. tt))))

  pub schema-numbered : Numbered (schema s)
  unfolding schema body nodes
  schema-numbered =
      part-numbered (mark SH s 0) _ (mark-numbered SH s 0) (λ _ p.
      field-numbered 1 3 (λ count. ltb 0 count && leb count 64) s p _ refl (λ count p.
      part-numbered (nodes s count count 0 p) _ (many-numbered _ _ (λ own p. node-numbered count own p) count 0 p) (λ g p. ended-numbered s g p)))

  pub refused : {n o : ℕ} → schema s ≡ bad n o → n ≡ 0 → ⊥
  refused e = numbered schema-numbered e
