-- The table of layouts: what stands at each node's place after the stores.
-- Rests on the laws of a store in a list.
use mathlib.Core.Path.{◌≡◌, refl, ap, ◌∙◌}
use mathlib.Core.List.{List, [], ◌∷◌}
use Prim.Native.Nat.{ℕ, zero, suc, ◌+◌, ◌≤◌, ◌<◌}
use native.Mathlib.Omega.{arith}
use native.Mathlib.Nat.{add-zero, zero-add}
use lib.ListN.{length, set, replicate, length-set, length-replicate}
use lib.Seq.{get_or-set_same, get_or-set_other}
use Rattle.schema.specs.Schema.{Node, node_at}
use Rattle.schema.specs.Table.{node_width, blank, layout_of, layout_at, fill_nodes, table_of}
use Rattle.schema.specs.declared.Layout.{Layout}
use Rattle.schema.proofs.Accepted.{node_place}

pub nodes-long : (n p : ℕ) (g : List Node) (t : List Layout) → length (fill_nodes n p g t) ≡ length t
unfolding fill_nodes
nodes-long n p [] t = refl
nodes-long n p (x ∷ g) t = nodes-long (n + 1) (p + node_width x) g (set t n (layout_of p x)) ∙ length-set t n (layout_of p x)

-- those before node n's stay
nodes-other : (n p : ℕ) (g : List Node) (t : List Layout) (i : ℕ) → i < n → layout_at (fill_nodes n p g t) i ≡ layout_at t i
unfolding fill_nodes
nodes-other n p [] t i h = refl
nodes-other n p (x ∷ g) t i h =
    nodes-other (n + 1) (p + node_width x) g (set t n (layout_of p x)) i (omega arith) ∙ get_or-set_other t n i (layout_of p x) _ (λ e. omega arith)

nodes-from : (n p : ℕ) (g : List Node) (t : List Layout) (j : ℕ) → j < length g → n + length g ≤ length t
    → layout_at (fill_nodes n p g t) (n + j) ≡ layout_of (node_place p g j) (node_at g j)
unfolding fill_nodes node_place
nodes-from n p [] t j h l = absurd (omega arith)
nodes-from n p (x ∷ g) t zero h l =
    ap (λ (i : ℕ). layout_at (fill_nodes (n + 1) (p + node_width x) g (set t n (layout_of p x))) i) (add-zero n)
    ∙ nodes-other (n + 1) (p + node_width x) g (set t n (layout_of p x)) n (omega arith)
    ∙ get_or-set_same t n (layout_of p x) _ (omega arith)
nodes-from n p (x ∷ g) t (suc j) h l =
    let z : n + suc j ≡ n + 1 + j = omega arith in
    ap (λ (i : ℕ). layout_at (fill_nodes (n + 1) (p + node_width x) g (set t n (layout_of p x))) i) z
    ∙ nodes-from (n + 1) (p + node_width x) g (set t n (layout_of p x)) j (omega arith) (omega (arith, length-set t n (layout_of p x)))

pub table-at : (m : ℕ) (g : List Node) (n : ℕ) → n < length g → length g ≤ m → layout_at (table_of m g) n ≡ layout_of (node_place 3 g n) (node_at g n)
unfolding table_of
table-at m g n h l =
    rw (zero-add n) at (nodes-from 0 3 g (replicate m blank) n h (omega (arith, length-replicate {A = Layout} m blank)))
