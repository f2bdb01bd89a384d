-- What an accepted schema's bytes and layouts tell of a node, at the places that the methods read.
-- Rests on the laws of those places and of a node's successors, in the schema's Access.
use mathlib.Core.Path.{◌≡◌, ap, sym, subst, ◌∙◌}
use mathlib.Core.Bool.{true}
use mathlib.Core.List.{List}
use Prim.Native.Nat.{ℕ, ◌+◌, ◌-◌, ◌≤◌, ◌<◌}
use native.Mathlib.Omega.{arith}
use lib.ListN.{length, get_or, take, drop, length-drop}
use lib.Seq.{get_or-take, get_or-drop, length-take-le, ext_get_or}
use lib.IntN.{ℤ}
use mir.Val.{to_z, of_z}
use mir.Syntax.{w32}
use Rattle.std.specs.List.{All}
use Rattle.std.proofs.lemmas.List.Elements.{All-same, All-from_get_or}
use Rattle.fields.specs.Reading.{be}
use Rattle.schema.specs.Schema.{schema_of, node_at, variable_at, is_number}
use Rattle.schema.specs.Layout.{rank_count}
use Rattle.schema.specs.Table.{node_width, layout_at, successor_set, Accepted, AtMost}
use Rattle.schema.specs.declared.Variable.TheVariants.{Number, Listed}
use Rattle.schema.proofs.Node.{OneNode}
use Rattle.schema.proofs.Access as access
use Rattle.nodes.specs.declared.Schema.{Schema}

pub count_inside : (s : List ℕ) → Accepted s → 2 < length s
count_inside = access.count-inside

pub count_is : (s : List ℕ) {r : ℕ} → Accepted s → r ≡ get_or s 2 0 → AtMost 64 (length (schema_of s)) r
count_is = access.count_at

pub node_inside : (x : Schema) (n : ℕ) → n < length (schema_of x.bytes.now) → n < length x.layouts.now
node_inside x n l = omega (arith, x.tabled.long)

module _ (x : Schema) (n : ℕ) (l : n < length (schema_of x.bytes.now)) where
  abbrev here : OneNode x.bytes.now (length (schema_of x.bytes.now)) n (layout_at x.layouts.now n).start (node_at (schema_of x.bytes.now) n) ((layout_at x.layouts.now n).start + node_width (node_at (schema_of x.bytes.now) n))
  here = access.here x.bytes.now x.layouts.now n x.tabled l

  -- ---- its successors stand after their number, which is the fourth byte of its record

  module _ {a : ℕ} (e : a ≡ (layout_at x.layouts.now n).start) where
    pub record_inside : a + 3 < length x.bytes.now
    record_inside = omega (arith, e, here.inside)

    module _ {k : ℕ} (f : k ≡ get_or x.bytes.now (a + 3) 0) where
      size_is : length (node_at (schema_of x.bytes.now) n).successors ≡ k
      size_is = here.linked ∙ (rw (← e) (sym f))

      pub successors_inside : a + 4 + k ≤ length x.bytes.now
      successors_inside = omega (arith, e, here.inside, size_is)

      pub successors_are : take (a + 4 + k - (a + 4)) (drop (a + 4) x.bytes.now) ≡ (node_at (schema_of x.bytes.now) n).successors
      successors_are =
          let w : a + 4 + k - (a + 4) ≡ k = omega arith in
          let m : length (take k (drop (a + 4) x.bytes.now)) ≡ k = length-take-le k (drop (a + 4) x.bytes.now) (omega (arith, length-drop (a + 4) x.bytes.now, successors_inside)) in
          rw w (ext_get_or 0 (take k (drop (a + 4) x.bytes.now)) (node_at (schema_of x.bytes.now) n).successors (m ∙ sym size_is)
          (λ j h. get_or-take k (drop (a + 4) x.bytes.now) j 0 (omega (arith, m)) ∙ get_or-drop (a + 4) x.bytes.now j 0
          ∙ (rw (← e) at (sym (here.links j (omega (arith, m, size_is)))))))

  -- they are few, and nodes above it

  abbrev links : List ℕ
  links = (node_at (schema_of x.bytes.now) n).successors

  module _ (xs : List ℕ) (e : xs ≡ links) where
    pub successors_few : length xs ≤ 8
    successors_few = omega (arith, ap length e, access.successors_few x.bytes.now n l)

    pub successors_above : All (λ y. n < y) xs
    successors_above = All-same (λ (y : ℕ). n < y) xs links e (All-from_get_or (λ (y : ℕ). n < y) links 0 (λ j h. access.successor_above x.bytes.now n j l h))

    pub successors_below : All (λ y. y < length (schema_of x.bytes.now)) xs
    successors_below =
        All-same (λ (y : ℕ). y < length (schema_of x.bytes.now)) xs links e
        (All-from_get_or (λ (y : ℕ). y < length (schema_of x.bytes.now)) links 0 (λ j h. access.successor_below x.bytes.now n j l h))

  -- ---- what its layout tells alone

  pub set_is : (layout_at x.layouts.now n).successors ≡ successor_set (node_at (schema_of x.bytes.now) n)
  set_is = access.successors-set x.bytes.now x.layouts.now n x.tabled l

  pub ranks_are : {r : ℕ} → r ≡ (layout_at x.layouts.now n).ranks → AtMost 8 (rank_count (node_at (schema_of x.bytes.now) n)) r
  ranks_are e = subst (AtMost 8 (rank_count (node_at (schema_of x.bytes.now) n))) (sym e) (access.ranks-count x.bytes.now x.layouts.now n x.tabled l)

  pub variables_are : {r : ℕ} → r ≡ (layout_at x.layouts.now n).variable_count → AtMost 4 (length (node_at (schema_of x.bytes.now) n).variables) r
  variables_are e = subst (AtMost 4 (length (node_at (schema_of x.bytes.now) n).variables)) (sym e) (access.variables-count x.bytes.now x.layouts.now n x.tabled l)

  -- ---- its variable k: the type, then the bounds or the size

  module _ (k : ℕ) (m : k < length (node_at (schema_of x.bytes.now) n).variables) where
    pub place_inside : k < 4
    place_inside = omega (arith, access.variables_few x.bytes.now n l)

    module _ {p : ℕ} (e : p ≡ get_or (layout_at x.layouts.now n).variables k 0) where
      pub type_inside : p < length x.bytes.now
      type_inside = access.variable-inside x.bytes.now x.layouts.now n k x.tabled l m e

      module _ (z : get_or x.bytes.now p 0 ≡ 0) where
        pub number_inside : p + 9 ≤ length x.bytes.now
        number_inside = access.number-inside x.bytes.now x.layouts.now n k x.tabled l m e z

        pub number_is : (lo hi : ℤ) → of_z w32 lo ≡ be 4 x.bytes.now (p + 1) → of_z w32 hi ≡ be 4 x.bytes.now (p + 5)
            → Number (to_z w32 (of_z w32 lo)) (to_z w32 (of_z w32 hi)) ≡ variable_at (schema_of x.bytes.now) n k
        number_is = access.number_at x.bytes.now x.layouts.now n k x.tabled l m e z

      module _ (z : get_or x.bytes.now p 0 ≡ 0 → ⊥) where
        pub listed_inside : p + 2 ≤ length x.bytes.now
        listed_inside = access.listed-inside x.bytes.now x.layouts.now n k x.tabled l m e z

        pub listed_is : Listed (get_or x.bytes.now (p + 1) 0) ≡ variable_at (schema_of x.bytes.now) n k
        listed_is = access.listed_at x.bytes.now x.layouts.now n k x.tabled l m e z

      -- where it is known to be a number
      module _ (q : is_number (variable_at (schema_of x.bytes.now) n k) ≡ true) where
        pub bounds_inside : p + 9 ≤ length x.bytes.now
        bounds_inside = number_inside (access.type-zero x.bytes.now x.layouts.now n k x.tabled l m e q)

        pub bounds_are : (lo hi : ℤ) → of_z w32 lo ≡ be 4 x.bytes.now (p + 1) → of_z w32 hi ≡ be 4 x.bytes.now (p + 5)
            → Number (to_z w32 (of_z w32 lo)) (to_z w32 (of_z w32 hi)) ≡ variable_at (schema_of x.bytes.now) n k
        bounds_are = number_is (access.type-zero x.bytes.now x.layouts.now n k x.tabled l m e q)

-- for the methods; the others stand in their answers
pub ruleset of_nodes = (
  count_inside,
  count_is,
  node_inside,
  record_inside,
  successors_inside,
  successors_are,
  place_inside,
  type_inside,
  number_inside,
  listed_inside,
  listed_is,
  bounds_inside,
)
