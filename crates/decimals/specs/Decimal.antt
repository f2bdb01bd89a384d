-- The text of a number 'in decimal', as ASCII codes.
use Rattle.std.specs.Prelude.{ℕ, zero, suc, ◌+◌, ◌/◌, ◌%◌, List, [], ◌∷◌, ◌++◌}

-- the digits of x, highest first, none for 0; k is enough where x ≤ k
unfoldable pub digits : ℕ → ℕ → List ℕ
digits zero x = []
digits (suc k) zero = []
digits (suc k) (suc y) = digits k (suc y / 10) ++ ((48 + suc y % 10) ∷ [])

-- the last digit after those of the tenth
unfoldable pub decimal : ℕ → List ℕ
decimal x = digits x (x / 10) ++ ((48 + x % 10) ∷ [])
