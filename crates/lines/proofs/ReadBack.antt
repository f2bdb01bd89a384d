-- What a line says, read from its signs alone: the round trips are stated with it.
-- Rests on nothing of the layout.
use Prim.Native.Nat.{ℕ, ◌+◌, ◌*◌, ◌-◌}
use mathlib.Core.Bool.{Bool, cond, ◌&&◌, ◌||◌}
use mathlib.Core.List.{List, [], ◌∷◌, ◌++◌}
use lib.Dec.{ltb, leb, eqb}
use Rattle.decimals.proofs.ReadBack.{is_digit}

-- the words of a line, w being what is read of the first: a space parts two words, a line feed ends the last
unfoldable pub words_from : List ℕ → List ℕ → List (List ℕ)
words_from w [] = []
words_from w (c ∷ cs) = cond (eqb c 10) (w ∷ []) (cond (eqb c 32) (w ∷ words_from [] cs) (words_from (w ++ (c ∷ [])) cs))

unfoldable pub words_of : List ℕ → List (List ℕ)
words_of cs = words_from [] cs

-- what a hex digit says: 0 to 9 stand from 48 on, a to f from 97 on
unfoldable pub half_of : ℕ → ℕ
half_of c = cond (ltb c 58) (c - 48) (c - 97 + 10)

-- the bytes that hex digits say, two digits a byte
unfoldable pub bytes_of : List ℕ → List ℕ
bytes_of [] = []
bytes_of (c ∷ []) = []
bytes_of (c ∷ d ∷ cs) = (half_of c * 16 + half_of d) ∷ bytes_of cs

-- 0 to 9 and a to f
unfoldable pub is_hex_digit : ℕ → Bool
is_hex_digit c = is_digit c || (leb 97 c && leb c 102)
