-- Numbers and marks put into a buffer.
use Rattle.std.specs.Prelude.{ℕ, zero, suc, ◌+◌, ◌/◌, ◌%◌, ◌≡◌, List, [], ◌∷◌, ◌++◌, length, get_or, take, drop, ℤ}
use Rattle.std.proofs.Common.{of_z}
use Rattle.std.specs.Int.{w32}

-- the w bytes of a number, 'high byte first'
unfoldable pub spell : ℕ → ℕ → List ℕ
spell zero x = []
spell (suc w) x = spell w (x / 256) ++ (x % 256 ∷ [])

-- the 32 bits of a signed number
abbrev pub unsigned : ℤ → ℕ
unsigned z = of_z w32 z

-- the two letters of a mark
abbrev pub letters : List ℕ → List ℕ
letters m = get_or m 0 0 ∷ get_or m 1 0 ∷ []

-- b with bs put at a place
unfoldable pub put : List ℕ → ℕ → List ℕ → List ℕ
put b at bs = take at b ++ bs ++ drop (at + length bs) b

-- after is b with bs put at a place, and r the place after them
pub record Wrote (b : List ℕ) (at : ℕ) (bs after : List ℕ) (r : ℕ) : Type 0 where
  pub holds : after ≡ put b at bs
  pub next : r ≡ at + length bs
