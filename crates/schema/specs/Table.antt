-- Where the records and variables of an accepted schema stand in its file, what the reader's table of layouts holds of it, and what the accessors tell.
use Rattle.std.specs.Prelude.{Result, ℕ, ◌+◌, ◌<◌, ◌≤◌, ◌≡◌, List, [], ◌∷◌, ◌++◌, length, cond, get_or, set, map, take, replicate}
use Rattle.fields.specs.Reading.{Got, got, bad}
use Rattle.fields.specs.Answers.{as_end, end_of}
use Rattle.fields.specs.Shorts.{short}
use Rattle.fields.specs.declared.Breach.{Breach}
use Rattle.numbers.specs.Bits.{with_all}
use Rattle.schema.specs.Schema.{Node, is_number, most_nodes, schema, schema_of}
use Rattle.schema.specs.Layout.{rank_count, spans, masks_of, skips_of, spare_of}
use Rattle.schema.specs.declared.Layout.{Layout}
use Rattle.schema.specs.declared.Variable.{Variable}
use Rattle.schema.specs.declared.Variable.TheVariants.{Number, Listed}
use Rattle.schema.specs.declared.Successors.{Successors}

-- the bytes of a variable, of its variables and of a node's whole record
unfoldable pub variable_width : Variable → ℕ
variable_width (Number lo hi) = 9
variable_width (Listed size) = 2

unfoldable pub variables_width : List Variable → ℕ
variables_width [] = 0
variables_width (v ∷ vs) = variable_width v + variables_width vs

-- the place of a node's first variable, counted from its record
abbrev pub body_of : Node → ℕ
body_of x = 5 + length x.successors

unfoldable pub node_width : Node → ℕ
node_width x = body_of x + variables_width x.variables

-- where each variable begins, the first at p
unfoldable pub places_of : ℕ → List Variable → List ℕ
places_of p [] = []
places_of p (v ∷ vs) = short p ∷ places_of (p + variable_width v) vs

-- as many as a node may have, 0 for those that it has not
abbrev pub for_four : List ℕ → List ℕ
for_four xs = take 4 (xs ++ replicate 4 0)

-- the layout of no node
abbrev pub blank : Layout
blank =
    record {
      start = 0;
      variables = for_four [];
      rule_width = 0;
      masks = 0;
      ranks = 0;
      variable_count = 0;
      skips = for_four [];
      spares = for_four [];
      successors = 0;
    }

-- the part of variables in a layout, where the first begins at p and a PN has w ranks
unfoldable pub layout_of_variables : ℕ → ℕ → List Variable → Layout
layout_of_variables w p vs = record blank {
  variables = for_four (places_of p vs);
  rule_width = 3 + (w + spans (length vs) vs);
  masks = masks_of vs;
  ranks = w;
  variable_count = length vs;
  skips = for_four (skips_of w vs);
  spares = for_four (map spare_of vs);
}

-- the set of a node's successors
abbrev pub successor_set : Node → ℕ
successor_set x = with_all 0 x.successors

-- the layout of a node whose record begins at p
unfoldable pub layout_of : ℕ → Node → Layout
layout_of p x = record (layout_of_variables (rank_count x) (p + body_of x) x.variables) { start = short p; successors = successor_set x }

-- what a table has of node n
abbrev pub layout_at : List Layout → ℕ → Layout
layout_at t n = get_or t n (record blank { variables = []; skips = []; spares = [] })

-- the nodes from n on
unfoldable pub fill_nodes : ℕ → ℕ → List Node → List Layout → List Layout
fill_nodes n p [] t = t
fill_nodes n p (x ∷ xs) t = fill_nodes (n + 1) (p + node_width x) xs (set t n (layout_of p x))

-- all of them, in a table of m layouts
unfoldable pub table_of : ℕ → List Node → List Layout
table_of m g = fill_nodes 0 3 g (replicate m blank)

-- the file is accepted
pub record Accepted (s : List ℕ) : Type 0 where
  pub some : 0 < length (schema_of s)

-- t is the table of the file s; it may be longer than the nodes need
pub record Tabled (s : List ℕ) (t : List Layout) : Type 0 where
  pub filled : t ≡ table_of (length t) (schema_of s)
  pub long : length (schema_of s) ≤ length t

-- the count that the file s tells
abbrev pub count_in : List ℕ → ℕ
count_in s = get_or s 2 0

-- m entries are room for the nodes of the file s, if there are not more than a schema may have
pub record RoomIn (s : List ℕ) (m : ℕ) : Type 0 where
  pub most : m ≤ most_nodes
  pub enough : count_in s ≤ most_nodes → count_in s ≤ m

-- a table with nothing in it, and with room for the nodes of the file s, if there are not more than a schema may have
pub record Room (s : List ℕ) (t : List Layout) : Type 0 where
  pub empty : t ≡ replicate (length t) blank
  pub long : count_in s ≤ most_nodes → count_in s ≤ length t

-- r and the table at exit are what reading the file s yields; after a refusal the table holds anything
pub record YieldsSchema (s : List ℕ) (r : Result ℕ Breach) (t : List Layout) : Type 0 where
  pub answer : as_end r ≡ end_of (schema s)
  pub tabled : Accepted s → Tabled s t

-- r is x, which is at most m
pub record AtMost (m x r : ℕ) : Type 0 where
  pub is : r ≡ x
  pub most : r ≤ m

-- ---- for the contracts of functions that only their own crate calls

-- whether a variable has a mask, as a number
unfoldable pub mask_count : Variable → ℕ
mask_count (Number lo hi) = 0
mask_count (Listed size) = 1

-- a layout into which variable v was written as the j-th, which begins at p and whose condition stands w bytes after the first rank
abbrev pub put_variable : ℕ → ℕ → ℕ → Variable → Layout → Layout
put_variable j p w v l = record l {
  variables = set l.variables j (short p);
  masks = l.masks + mask_count v;
  skips = set l.skips j (cond (is_number v) 0 w);
  spares = set l.spares j (spare_of v);
}

-- a layout into which the part of variables was written, where the first begins at p and a PN has w ranks
abbrev pub put_variables : ℕ → ℕ → List Variable → Layout → Layout
put_variables w p vs l = record (layout_of_variables w p vs) { start = l.start; successors = l.successors }

-- a layout into which that of a node was written whose record begins at p
abbrev pub put_node : ℕ → Node → Layout → Layout
put_node p x l = layout_of p x

-- what is made of what was read
abbrev pub made : {A B : Type 0} → (A → B) → Got A → Got B
made f (got x p) = got (f x) p
made f (bad n o) = bad n o

-- successors as a set and how many
abbrev pub linked : List ℕ → Successors
linked xs = record { set = with_all 0 xs; count = length xs }

-- the table has room for so many nodes
pub record RoomFor (count : ℕ) (t : List Layout) : Type 0 where
  pub few : count ≤ most_nodes
  pub long : count ≤ length t
