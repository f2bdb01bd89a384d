-- The schema file (01, 'Schema').
use Rattle.std.specs.Prelude.{ℕ, ◌+◌, List, [], ◌∷◌, Bool, true, false, cond, ◌&&◌, ◌||◌, get_or, leb, ltb, eqb}
use Rattle.std.specs.Int.Signed.{le_z}
use Rattle.fields.specs.Reading.{Got, got, bad, part, whole, field, mark, many, ended, signed}
use Rattle.schema.specs.declared.Variable.{Variable}
use Rattle.schema.specs.declared.Variable.TheVariants.{Number, Listed}

-- a node; kind '0 = all, 1 = one'
pub record Node : Type 0 where
  pub kind : ℕ
  pub successors : List ℕ
  pub variables : List Variable

abbrev pub SH : List ℕ
SH = 0x53 ∷ 0x48 ∷ []

abbrev pub SN : List ℕ
SN = 0x53 ∷ 0x4e ∷ []

-- 'c successor numbers u8, strictly ascending, each above the node's own number and below the count'
unfoldable pub successors : List ℕ → ℕ → ℕ → ℕ → ℕ → Got (List ℕ)
successors s count own c p =
    many (λ above p. field 1 5 (λ x. ltb above x && ltb x count) s p got) (λ _ x. x) c own p

-- 'c u8, 0 to 8', 'kind 0 has c at least 1'; then the successors
unfoldable pub links : List ℕ → ℕ → ℕ → ℕ → ℕ → Got (List ℕ)
links s count own kind p =
    field 1 4 (λ c. leb c 8 && (ltb 0 c || eqb kind 1)) s p λ c p.
    successors s count own c p

-- 'for type 0 (number) lo i32 and hi i32, lo ≤ hi'
unfoldable pub number : List ℕ → ℕ → Got Variable
number s p =
    part (whole 4 s p) λ lo p.
    field 4 6 (λ hi. le_z (signed lo) (signed hi)) s p λ hi p.
    got (Number (signed lo) (signed hi)) p

-- 'for type 1 (listed) size u8, 1 to 32'
unfoldable pub listed : List ℕ → ℕ → Got Variable
listed s p =
    field 1 6 (λ size. ltb 0 size && leb size 32) s p λ size p.
    got (Listed size) p

unfoldable pub variable : List ℕ → ℕ → Got Variable
variable s p =
    field 1 6 (λ type. leb type 1) s p λ type p.
    cond (eqb type 0) (number s p) (listed s p)

-- k variables
unfoldable pub variables : List ℕ → ℕ → ℕ → Got (List Variable)
variables s k p = many {S = ℕ} (λ _ p. variable s p) (λ i _. i) k 0 p

-- 'v u8, 0 to 4, then v variables'
unfoldable pub variables_of : List ℕ → ℕ → Got (List Variable)
variables_of s p =
    field 1 6 (λ v. leb v 4) s p λ v p.
    variables s v p

-- the SN of node own
unfoldable pub node : List ℕ → ℕ → ℕ → ℕ → Got Node
node s count own p =
    part (mark SN s p) λ _ p.
    field 1 4 (λ kind. leb kind 1) s p λ kind p.
    part (links s count own kind p) λ next p.
    part (variables_of s p) λ vs p.
    got (record { kind = kind; successors = next; variables = vs }) p

-- k nodes from node own on
unfoldable pub nodes : List ℕ → ℕ → ℕ → ℕ → ℕ → Got (List Node)
nodes s count k own p = many (node s count) (λ own _. own + 1) k own p

-- 'then one SN for each node, numbered from 0', and no byte after them
unfoldable pub body : List ℕ → ℕ → ℕ → Got (List Node)
body s count p =
    part (nodes s count count 0 p) λ g p.
    ended s g p

-- 'node count u8, 1 to 64'
abbrev pub most_nodes : ℕ
most_nodes = 64

-- 'one SH'
unfoldable pub schema : List ℕ → Got (List Node)
schema s =
    part (mark SH s 0) λ _ p.
    field 1 3 (λ count. ltb 0 count && leb count most_nodes) s p λ count p.
    body s count p

-- the nodes of a file: none where it is refused
abbrev pub nodes_in : Got (List Node) → List Node
nodes_in (got g p) = g
nodes_in (bad n o) = []

unfoldable pub schema_of : List ℕ → List Node
schema_of s = nodes_in (schema s)

abbrev pub no_node : Node
no_node = record { kind = 0; successors = []; variables = [] }

abbrev pub node_at : List Node → ℕ → Node
node_at g n = get_or g n no_node

abbrev pub no_variable : Variable
no_variable = Listed 0

abbrev pub variable_at : List Node → ℕ → ℕ → Variable
variable_at g n k = get_or (node_at g n).variables k no_variable

abbrev pub is_number : Variable → Bool
is_number (Number lo hi) = true
is_number (Listed size) = false
