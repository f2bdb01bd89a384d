-- The bytes of a PN by the layout of its node: so the reader takes them by one test of the length, and one of its masks.
-- For the contracts of functions that no other crate calls.
use Rattle.std.specs.Prelude.{ℕ, ◌+◌, ◌-◌, ◌*◌, ◌/◌, ◌^◌, ◌<◌, ◌≤◌, ◌≡◌, List, Bool, ◌&&◌, ◌||◌, length, get_or, leb, eqb}
use Rattle.fields.specs.Reading.{be}
use Rattle.schema.specs.Schema.{most_nodes}
use Rattle.schema.specs.Table.{layout_at}
use Rattle.schema.specs.declared.Layout.{Layout}
use Rattle.policies.specs.Policies.{PN}

-- what the mask of variable k has among its spare bits, in a PN whose ranks begin at p, its node's layout being x
unfoldable pub excess_of : Layout → List ℕ → ℕ → ℕ → ℕ
excess_of x s p k = be 4 s (p + get_or x.skips k 0) * 2 ^ get_or x.spares k 0 / 2 ^ 32

-- none of its four has a bit there
unfoldable pub masks_fit : Layout → List ℕ → ℕ → Bool
masks_fit x s p = (eqb (excess_of x s p 0) 0 && eqb (excess_of x s p 1) 0) && (eqb (excess_of x s p 2) 0 && eqb (excess_of x s p 3) 0)

-- they are there
pub record Looking (x : Layout) (s : List ℕ) (p : ℕ) : Type 0 where
  pub there : (k : ℕ) → k < 4 → p + get_or x.skips k 0 + 4 ≤ length s
  pub spare : (k : ℕ) → k < 4 → get_or x.spares k 0 ≤ 32

-- w bytes are there from p on, and the first two are the mark
unfoldable pub is_whole : List ℕ → ℕ → ℕ → Bool
is_whole s w p = leb w (length s - p) && eqb (be 2 s p) (be 2 PN 0)

-- so are those of a PN of a node, and its masks fit
unfoldable pub is_good : Layout → List ℕ → ℕ → Bool
is_good x s p = is_whole s x.rule_width p && (eqb x.masks 0 || masks_fit x s (p + 3))

-- so are those of a PN that names node n
unfoldable pub is_next : Layout → List ℕ → ℕ → ℕ → Bool
is_next x s n p = is_good x s p && eqb (get_or s (p + 2) 0) n

-- the PN of a node with the layout x can be looked at
pub record Shape (x : Layout) : Type 0 where
  pub least : 3 ≤ x.rule_width
  pub there : (k : ℕ) → k < 4 → (x.masks ≡ 0 → ⊥) → get_or x.skips k 0 + 7 ≤ x.rule_width
  pub spare : (k : ℕ) → k < 4 → get_or x.spares k 0 ≤ 32

-- that of each of so many nodes
pub record Shapes (t : List Layout) (count : ℕ) : Type 0 where
  pub few : count ≤ most_nodes
  pub long : count ≤ length t
  pub each : (n : ℕ) → n < count → Shape (layout_at t n)
