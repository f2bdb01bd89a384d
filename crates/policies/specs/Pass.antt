-- The pass, and the policies in force in it (01, 'Instance and satisfaction').
use Rattle.std.specs.Prelude.{ℕ, ◌+◌, List, [], ◌∷◌, Bool, cond, ◌&&◌, leb}
use Rattle.fields.specs.Reading.{Got, got, bad}
use Rattle.policies.specs.Policies.{Policy}

-- '12 b below a or above a + 1; offset 0'; what is read is the first day
unfoldable pub pass : ℕ → ℕ → Got ℕ
pass a b = cond (leb a b && leb b (a + 1)) (got a 0) (bad 12 0)

-- 'a policy is in force if its first day ≤ b and its last day ≥ a'
unfoldable pub in_force : ℕ → ℕ → Policy → Bool
in_force a b x = leb x.first b && leb a x.last

-- those of a list that are in force, in file order
unfoldable pub forced : ℕ → ℕ → List Policy → List Policy
forced a b [] = []
forced a b (x ∷ xs) = cond (in_force a b x) (x ∷ forced a b xs) (forced a b xs)
