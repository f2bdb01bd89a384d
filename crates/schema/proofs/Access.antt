-- What stands at the places that an accessor reads, in a node's layout and in the file.
-- Rests on the table's laws and on the view of a node's record.
use mathlib.Core.Path.{◌≡◌, refl, ap, sym, subst, ◌∙◌}
use mathlib.Core.Bool.{Bool, true, false, cond}
use mathlib.Core.List.{List, [], ◌∷◌, ◌++◌, map}
use Prim.Native.Nat.{ℕ, zero, suc, ◌+◌, ◌*◌, ◌≤◌, ◌<◌}
use native.Mathlib.Omega.{arith}
use borrow.Author.Tests.{eqb-true, eq-eqb, ne_eqb}
use lib.Dec.{eqb}
use lib.ListN.{length, get_or, replicate}
use lib.Seq.{get_or-take}
use lib.IntN.{ℤ}
use mir.Val.{to_z, of_z}
use mir.Syntax.{w32}
use Rattle.fields.specs.Reading.{be}
use Rattle.fields.specs.Shorts.{short}
use Rattle.fields.proofs.Shorts.{short-is}
use Rattle.schema.specs.Schema.{Node, schema_of, node_at, no_variable, is_number, variable}
use Rattle.schema.specs.Layout.{rank_count, offset_of, rule_length, masks_of, skips_of, spare_of}
use Rattle.schema.specs.Table.{variable_width, variables_width, body_of, node_width, places_of, for_four, layout_of_variables, layout_of, layout_at, successor_set, Accepted, Tabled, AtMost}
use Rattle.schema.specs.declared.Layout.{Layout}
use Rattle.schema.specs.declared.Variable.{Variable}
use Rattle.schema.specs.declared.Variable.TheVariants.{Number, Listed}
use Rattle.schema.proofs.Sound.{Rising}
use Rattle.schema.proofs.Node.{OneNode, OneVariable, variable_place, variable-back, variables-back}
use Rattle.schema.proofs.Accepted.{node_place, File, file-of, view}
use Rattle.schema.proofs.Table.{table-at}

pub rising-at : (own count : ℕ) (xs : List ℕ) (j : ℕ) → Rising own count xs → j < length xs → (own < get_or xs j 0) × (get_or xs j 0 < count)
rising-at own count [] j r h = absurd (omega arith)
rising-at own count (x ∷ xs) zero r h = (r.0, r.1)
rising-at own count (x ∷ xs) (suc j) r h = let w = rising-at x count xs j r.2 (omega arith) in let z = r.0 in (omega (arith, w.0), w.1)

-- ---- every offset of an accepted file is below 65,536

variable-wide : (v : Variable) → variable_width v ≤ 9
unfolding variable_width
variable-wide (Number lo hi) = omega arith
variable-wide (Listed size) = omega arith

variables-wide : (vs : List Variable) → variables_width vs ≤ 9 * length vs
unfolding variables_width
variables-wide [] = omega arith
variables-wide (v ∷ vs) = omega (arith, variable-wide v, variables-wide vs)

variable-near : (p : ℕ) (vs : List Variable) (k : ℕ) → variable_place p vs k ≤ p + 9 * k
unfolding variable_place
variable-near p vs zero = omega arith
variable-near p [] (suc k) = omega arith
variable-near p (v ∷ vs) (suc k) = omega (arith, variable-wide v, variable-near (p + variable_width v) vs k)

node-near : (p : ℕ) (g : List Node) (j : ℕ) → ((i : ℕ) → i < length g → node_width (node_at g i) ≤ 49) → node_place p g j ≤ p + 49 * j
unfolding node_place
node-near p g zero h = omega arith
node-near p [] (suc j) h = omega arith
node-near p (x ∷ g) (suc j) h = omega (arith, h 0 (omega arith), node-near (p + node_width x) g j (λ i l. h (suc i) (omega arith)))

node_wide : (s : List ℕ) {g : List Node} → File s g → (i : ℕ) → i < length g → node_width (node_at g i) ≤ 49
unfolding node_width
node_wide s {g} f i h = let o = view s f i h in omega (arith, o.few-successors, o.few-variables, variables-wide (node_at g i).variables)

-- the layout of node n
pub laid : (s : List ℕ) (t : List Layout) (n : ℕ) → Tabled s t → n < length (schema_of s) → layout_at t n ≡ layout_of (node_place 3 (schema_of s) n) (node_at (schema_of s) n)
laid s t n h l = ap (λ (t : List Layout). layout_at t n) h.filled ∙ table-at (length t) (schema_of s) n l h.long

-- a node is one of the most that there may be
pub node_small : (s : List ℕ) (n : ℕ) → n < length (schema_of s) → n < 64
node_small s n l = let f = file-of s (omega arith) in omega (arith, f.few)

-- of the four numbers those that are there, and 0 for the others
padded-at : (xs : List ℕ) (m k : ℕ) → get_or (xs ++ replicate m 0) k 0 ≡ get_or xs k 0
padded-at [] zero k = refl
padded-at [] (suc m) zero = refl
padded-at [] (suc m) (suc k) = padded-at [] m k
padded-at (x ∷ xs) m zero = refl
padded-at (x ∷ xs) m (suc k) = padded-at xs m k

pub four-at : (xs : List ℕ) (k : ℕ) → k < 4 → get_or (for_four xs) k 0 ≡ get_or xs k 0
four-at xs k h = get_or-take 4 (xs ++ replicate 4 0) k 0 h ∙ padded-at xs 4 k

place-at : (p : ℕ) (vs : List Variable) (k : ℕ) → k < length vs → get_or (places_of p vs) k 0 ≡ short (variable_place p vs k)
unfolding places_of variable_place
place-at p [] k h = absurd (omega arith)
place-at p (v ∷ vs) zero h = refl
place-at p (v ∷ vs) (suc k) h = place-at (p + variable_width v) vs k (omega arith)

-- a node's successors are above it and below the count
pub successor_above : (s : List ℕ) (n j : ℕ) → n < length (schema_of s) → j < length (node_at (schema_of s) n).successors → n < get_or (node_at (schema_of s) n).successors j 0
successor_above s n j l k = (rising-at n (length (schema_of s)) (node_at (schema_of s) n).successors j (view s (file-of s (omega arith)) n l).rising k).0

pub successor_below : (s : List ℕ) (n j : ℕ) → n < length (schema_of s) → j < length (node_at (schema_of s) n).successors
    → get_or (node_at (schema_of s) n).successors j 0 < length (schema_of s)
successor_below s n j l k = (rising-at n (length (schema_of s)) (node_at (schema_of s) n).successors j (view s (file-of s (omega arith)) n l).rising k).1

pub successors_few : (s : List ℕ) (n : ℕ) → n < length (schema_of s) → length (node_at (schema_of s) n).successors ≤ 8
successors_few s n l = (view s (file-of s (omega arith)) n l).few-successors

pub variables_few : (s : List ℕ) (n : ℕ) → n < length (schema_of s) → length (node_at (schema_of s) n).variables ≤ 4
variables_few s n l = (view s (file-of s (omega arith)) n l).few-variables

pub ranks_few : (x : Node) → length x.successors ≤ 8 → rank_count x ≤ 8
unfolding rank_count
ranks_few x h = go (eqb x.kind 1)
  where
    go : (b : Bool) → cond b (length x.successors) 0 ≤ 8
    go true = h
    go false = omega arith

-- what node n's layout tells of it
module _ (s : List ℕ) (t : List Layout) (n : ℕ) (h : Tabled s t) (l : n < length (schema_of s)) where
  abbrev layout : Layout
  layout = layout_at t n

  abbrev node : Node
  node = node_at (schema_of s) n

  -- its record
  pub here : OneNode s (length (schema_of s)) n layout.start node (layout.start + node_width node)
  unfolding layout_of
  here =
      let f = file-of s (omega arith) in
      let z = node-near 3 (schema_of s) n (node_wide s f) in
      let e : layout.start ≡ node_place 3 (schema_of s) n = ap (λ (x : Layout). x.start) (laid s t n h l) ∙ short-is (node_place 3 (schema_of s) n) (omega (arith, f.few)) in
      let o = subst (λ (p : ℕ). OneNode s (length (schema_of s)) n p node (node_place 3 (schema_of s) (suc n))) (sym e) (view s f n l) in
      subst (OneNode s (length (schema_of s)) n layout.start node) o.end o

  -- how many ranks and variables it has
  pub ranks-count : AtMost 8 (rank_count node) layout.ranks
  unfolding layout_of layout_of_variables
  ranks-count =
      let e : layout.ranks ≡ rank_count node = ap (λ (x : Layout). x.ranks) (laid s t n h l) in
      record { is = e; most = omega (arith, ranks_few node (successors_few s n l)) }

  pub variables-count : AtMost 4 (length node.variables) layout.variable_count
  unfolding layout_of layout_of_variables
  variables-count =
      let e : layout.variable_count ≡ length node.variables = ap (λ (x : Layout). x.variable_count) (laid s t n h l) in
      record { is = e; most = omega (arith, variables_few s n l) }

  -- the bytes of its PN, its masks, where each stands and how many bits it has to spare
  pub width-is : layout.rule_width ≡ rule_length node
  unfolding layout_of layout_of_variables rule_length offset_of
  width-is = ap (λ (x : Layout). x.rule_width) (laid s t n h l)

  pub masks-is : layout.masks ≡ masks_of node.variables
  unfolding layout_of layout_of_variables
  masks-is = ap (λ (x : Layout). x.masks) (laid s t n h l)

  pub skip-at : (k : ℕ) → k < 4 → get_or layout.skips k 0 ≡ get_or (skips_of (rank_count node) node.variables) k 0
  unfolding layout_of layout_of_variables
  skip-at k b = ap (λ (x : Layout). get_or x.skips k 0) (laid s t n h l) ∙ four-at (skips_of (rank_count node) node.variables) k b

  pub spare-at : (k : ℕ) → k < 4 → get_or layout.spares k 0 ≡ get_or (map spare_of node.variables) k 0
  unfolding layout_of layout_of_variables
  spare-at k b = ap (λ (x : Layout). get_or x.spares k 0) (laid s t n h l) ∙ four-at (map spare_of node.variables) k b

  -- its successors
  pub successors-set : layout.successors ≡ successor_set node
  unfolding layout_of
  successors-set = ap (λ (x : Layout). x.successors) (laid s t n h l)

-- the count
pub count-inside : (s : List ℕ) → Accepted s → 2 < length s
count-inside s a = (file-of s a.some).inside

pub count_at : (s : List ℕ) {r : ℕ} → Accepted s → r ≡ get_or s 2 0 → AtMost 64 (length (schema_of s)) r
count_at s a e = let f = file-of s a.some in record { is = e ∙ sym f.count; most = omega (arith, f.few, f.count) }

-- ---- a variable, where the layout tells that it begins

-- its type: the bytes of the variable at a place
abbrev width_at : List ℕ → ℕ → ℕ
width_at s p = cond (eqb (get_or s p 0) 0) 9 2

type-inside : (s : List ℕ) (p : ℕ) {v : Variable} {q : ℕ} → OneVariable s p v q → p < length s
unfolding variable_width
type-inside s p {v} o = go v o
  where
    go : (v : Variable) {q : ℕ} → OneVariable s p v q → p < length s
    go (Number lo hi) o = omega (arith, o.end, o.inside)
    go (Listed size) o = omega (arith, o.end, o.inside)

type-is : (s : List ℕ) (p : ℕ) (v : Variable) → cond (eqb (get_or s p 0) 0) 9 2 ≡ variable_width v → eqb (get_or s p 0) 0 ≡ is_number v
unfolding variable_width
type-is s p (Number lo hi) e = go (eqb (get_or s p 0) 0) e
  where
    go : (b : Bool) → ◌≡◌ {A = ℕ} (cond b 9 2) 9 → b ≡ true
    go true e = refl
    go false e = absurd (omega arith)
type-is s p (Listed size) e = go (eqb (get_or s p 0) 0) e
  where
    go : (b : Bool) → ◌≡◌ {A = ℕ} (cond b 9 2) 2 → b ≡ false
    go true e = absurd (omega arith)
    go false e = refl

module _ (s : List ℕ) (t : List Layout) (n k : ℕ) (h : Tabled s t) (l : n < length (schema_of s)) (m : k < length (node_at (schema_of s) n).variables) where
  place_is : get_or (layout_at t n).variables k 0 ≡ variable_place (node_place 3 (schema_of s) n + body_of (node_at (schema_of s) n)) (node_at (schema_of s) n).variables k
  unfolding layout_of layout_of_variables
  place_is =
      let f = file-of s (omega arith) in
      let o = view s f n l in
      let vs = (node_at (schema_of s) n).variables in
      let x = node_place 3 (schema_of s) n + body_of (node_at (schema_of s) n) in
      let y = node-near 3 (schema_of s) n (node_wide s f) in
      let z = variable-near x vs k in
      let b : variable_place x vs k < 65536 = omega (arith, o.few-successors, o.few-variables, f.few) in
      ap (λ (x : Layout). get_or x.variables k 0) (laid s t n h l)
      ∙ four-at (places_of x vs) k (omega (arith, o.few-variables))
      ∙ place-at x vs k m
      ∙ short-is (variable_place x vs k) b

  module _ {p : ℕ} (e : p ≡ get_or (layout_at t n).variables k 0) where
    pub one-variable : (q : ℕ) × OneVariable s p (get_or (node_at (schema_of s) n).variables k no_variable) q
    one-variable =
        let x = node_place 3 (schema_of s) n + body_of (node_at (schema_of s) n) in
        let o = view s (file-of s (omega arith)) n l in
        let v = variables-back s (length (node_at (schema_of s) n).variables) x o.vars in
        (variable_place x (node_at (schema_of s) n).variables (suc k), variable-back s p (ap (variable s) (e ∙ place_is) ∙ v.each k m))

    pub variable-inside : p < length s
    variable-inside = type-inside s p one-variable.1

    type_at : eqb (get_or s p 0) 0 ≡ is_number (get_or (node_at (schema_of s) n).variables k no_variable)
    type_at = type-is s p (get_or (node_at (schema_of s) n).variables k no_variable) one-variable.1.type

    wide_at : p + width_at s p ≤ length s
    wide_at = let o = one-variable.1 in omega (arith, o.end, o.inside, o.type)

    pub type-zero : is_number (get_or (node_at (schema_of s) n).variables k no_variable) ≡ true → get_or s p 0 ≡ 0
    type-zero q = eqb-true (get_or s p 0) 0 (type_at ∙ q)

    module _ (z : get_or s p 0 ≡ 0) where
      pub number-inside : p + 9 ≤ length s
      number-inside = rw (eq-eqb (get_or s p 0) 0 z) at wide_at

      pub number_at : (lo hi : ℤ) → of_z w32 lo ≡ be 4 s (p + 1) → of_z w32 hi ≡ be 4 s (p + 5)
          → Number (to_z w32 (of_z w32 lo)) (to_z w32 (of_z w32 hi)) ≡ get_or (node_at (schema_of s) n).variables k no_variable
      number_at lo hi a b =
          let y = rw (eq-eqb (get_or s p 0) 0 z) at one-variable.1.is in
          rw (a, b) (sym y)

    module _ (z : get_or s p 0 ≡ 0 → ⊥) where
      pub listed-inside : p + 2 ≤ length s
      listed-inside = rw (ne_eqb (get_or s p 0) 0 z) at wide_at

      pub listed_at : Listed (get_or s (p + 1) 0) ≡ get_or (node_at (schema_of s) n).variables k no_variable
      listed_at = sym (rw (ne_eqb (get_or s p 0) 0 z) at one-variable.1.is)
