-- A cut schema file is refused with 2 at the first field that is not whole, an extended one with 7 at the first byte that remains: the definitions, read on two files at once.
-- Rests on the field laws of cut files.
use mathlib.Core.Path.{◌≡◌, refl}
use mathlib.Core.Bool.{◌&&◌, ◌||◌}
use mathlib.Core.List.{List, [], ◌∷◌, ◌++◌, flat_map}
use Prim.Native.Nat.{ℕ, ◌<◌}
use lib.Dec.{leb, ltb, eqb}
use lib.ListN.{length, take}
use lib.Signed.{le_z}
use Rattle.fields.specs.Reading.{got, bad, signed, ended}
use Rattle.fields.proofs.Cut.{field_at, Same, Agree, unasked, got-agree, ended-agree, cond-agree, last-agree, part-agree, whole_agree, field-agree, mark-agree, many-agree, file-cut, file-extended}
use Rattle.schema.specs.Schema.{Node, SH, SN, successors, links, number, listed, variable, variables, variables_of, node, nodes, body, most_nodes, schema}
use Rattle.schema.specs.declared.Variable.{Variable}
use Rattle.schema.specs.declared.Variable.TheVariants.{Number, Listed}

-- ---- the fields

-- type, then lo and hi or size
abbrev pub variable_fields : Variable → List ℕ
variable_fields (Number lo hi) = 1 ∷ 4 ∷ 4 ∷ []
variable_fields (Listed size) = 1 ∷ 1 ∷ []

-- c, then the successors
abbrev pub links_fields : List ℕ → List ℕ
links_fields next = 1 ∷ flat_map (λ _. 1 ∷ []) next

-- v, then the variables
abbrev pub variables_fields : List Variable → List ℕ
variables_fields vs = 1 ∷ flat_map variable_fields vs

-- mark, kind, successors, variables
abbrev pub node_fields : Node → List ℕ
node_fields x = 2 ∷ 1 ∷ links_fields x.successors ++ variables_fields x.variables

-- mark, count, nodes
abbrev pub schema_fields : List Node → List ℕ
schema_fields g = 2 ∷ 1 ∷ flat_map node_fields g

-- ---- two readings

module _ {s t : List ℕ} (same : Same s t) where
  links-agree : (count own kind p : ℕ) → Agree s t unasked links_fields [] p (links s count own kind p) (links t count own kind p)
  unfolding links successors
  links-agree count own kind p =
      field-agree same 1 4 (λ c. leb c 8 && (ltb 0 c || eqb kind 1)) (λ c p.
      last-agree (λ next. refl)
      (many-agree _ (λ above p. field-agree same 1 5 (λ x. ltb above x && ltb x count) (λ x p. got-agree x refl)) c own p))

  variable-agree : (p : ℕ) → Agree s t unasked variable_fields [] p (variable s p) (variable t p)
  unfolding variable number listed
  variable-agree p =
      field-agree same 1 6 (λ type. leb type 1) (λ type p.
      cond-agree (eqb type 0)
      (part-agree (whole_agree same 4 p) (λ lo p.
      field-agree same 4 6 (λ hi. le_z (signed lo) (signed hi)) (λ hi p. got-agree (Number (signed lo) (signed hi)) refl)))
      (field-agree same 1 6 (λ size. ltb 0 size && leb size 32) (λ size p. got-agree (Listed size) refl)))

  variables-agree : (p : ℕ) → Agree s t unasked variables_fields [] p (variables_of s p) (variables_of t p)
  unfolding variables_of variables
  variables-agree p =
      field-agree same 1 6 (λ v. leb v 4) (λ v p.
      last-agree (λ vs. refl) (many-agree {S = ℕ} _ (λ _ p. variable-agree p) v 0 p))

  node-agree : (count own p : ℕ) → Agree s t unasked node_fields [] p (node s count own p) (node t count own p)
  unfolding node
  node-agree count own p =
      part-agree (mark-agree same SN p) (λ _ p.
      field-agree same 1 4 (λ kind. leb kind 1) (λ kind p.
      part-agree (links-agree count own kind p) (λ next p.
      part-agree (variables-agree p) (λ vs p. got-agree (record { kind = kind; successors = next; variables = vs }) refl))))

  schema-agree : Agree s t ended schema_fields [] 0 (schema s) (schema t)
  unfolding schema body nodes
  schema-agree =
      part-agree (mark-agree same SH 0) (λ _ p.
      field-agree same 1 3 (λ count. ltb 0 count && leb count most_nodes) (λ count p.
      part-agree (many-agree _ (λ own p. node-agree count own p) count 0 p) (λ g p. ended-agree g refl)))

-- ---- a file

pub schema-cut : (f : List ℕ) {g : List Node} {q : ℕ} → schema f ≡ got g q → (k : ℕ) → k < length f → schema (take k f) ≡ bad 2 (field_at (schema_fields g) 0 k)
schema-cut f e = file-cut schema_fields schema (λ s t same. schema-agree same) f e

pub schema-extended : (f : List ℕ) {g : List Node} {q : ℕ} → schema f ≡ got g q → (b : ℕ) (more : List ℕ) → schema (f ++ (b ∷ more)) ≡ bad 7 (length f)
schema-extended f e = file-extended schema_fields schema (λ s t same. schema-agree same) f e
