-- What an accepted schema file's nodes are like: the statement, for the crates above.
-- Rests on nothing.
use mathlib.Core.Path.{◌≡◌}
use mathlib.Core.Bool.{true}
use mathlib.Core.List.{List, [], ◌∷◌}
use Prim.Native.Nat.{ℕ, ◌≤◌, ◌<◌}
use lib.ListN.{length}
use lib.Signed.{le_z}
use mir.Val.{SFits}
use mir.Syntax.{w32}
use Rattle.schema.specs.Schema.{Node, node_at}
use Rattle.schema.specs.declared.Variable.{Variable}
use Rattle.schema.specs.declared.Variable.TheVariants.{Number, Listed}

-- strictly ascending, the first above own, each below the count
abbrev pub Rising : ℕ → ℕ → List ℕ → Type 0
Rising own count [] = Unit {0}
Rising own count (x ∷ xs) = (own < x) × (x < count) × Rising x count xs

abbrev pub SoundVariable : Variable → Type 0
SoundVariable (Number lo hi) = SFits w32 lo × SFits w32 hi × (le_z lo hi ≡ true)
SoundVariable (Listed size) = (0 < size) × (size ≤ 32)

abbrev pub SoundVariables : List Variable → Type 0
SoundVariables [] = Unit {0}
SoundVariables (v ∷ vs) = SoundVariable v × SoundVariables vs

pub record SoundNode (count own : ℕ) (x : Node) : Type 0 where
  pub kind-most : x.kind ≤ 1
  pub some : x.kind ≡ 0 → 0 < length x.successors
  pub few : length x.successors ≤ 8
  pub rising : Rising own count x.successors
  pub few-variables : length x.variables ≤ 4
  pub variables : SoundVariables x.variables

pub record Sound (g : List Node) : Type 0 where
  pub some : 0 < length g
  pub few : length g ≤ 64
  pub nodes : (n : ℕ) → n < length g → SoundNode (length g) n (node_at g n)
