-- Whether none of the PN at the offsets has rank 255 in a column: what the method answers, and the first PN by itself.
-- Rests on the definition of what is asked.
use mathlib.Core.Path.{◌≡◌, refl, ap, ◌∙◌}
use mathlib.Core.Bool.{Bool, true, not, ◌&&◌}
use mathlib.Core.List.{List, [], ◌∷◌}
use Prim.Native.Nat.{ℕ, ◌+◌, ◌≤◌, ◌<◌}
use native.Mathlib.Omega.{arith}
use lib.Dec.{eqb}
use lib.ListN.{length, get_or, drop, drop_of_length-le}
use Rattle.std.specs.List.{list_all}
use Rattle.std.proofs.lemmas.List.{drop_more, get_or_default}
use Rattle.policies.specs.Rows.{BytesAt}
use Rattle.ranks.specs.Ranks.{allowed_at}

-- the PN that has 255 in column k is not among those at o
abbrev pub allows_at : List ℕ → ℕ → ℕ → Bool
allows_at p k o = not (eqb (get_or p (o + k) 0) 255)

-- the rank is in the file
pub rank_inside : {p offsets : List ℕ} (k : ℕ) → BytesAt p offsets (k + 1) → (r o : ℕ) → r < length offsets → o ≡ get_or offsets r o → o + k < length p
rank_inside {p} {offsets} k b r o h e = omega (arith, b.each r h, e ∙ get_or_default offsets r o 0 h)

pub none_has : (p : List ℕ) (k : ℕ) (offsets : List ℕ) {b : Bool} → b ≡ list_all (allows_at p k) offsets → b ≡ allowed_at p offsets k
unfolding allowed_at
none_has p k offsets e = e ∙ same offsets
  where
    same : (os : List ℕ) → list_all (allows_at p k) os ≡ allowed_at p os k
    same [] = refl
    same (o ∷ os) = ap (λ (b : Bool). allows_at p k o && b) (same os)

-- the PN of row r is asked first
pub ask_first : (p : List ℕ) (k : ℕ) (offsets : List ℕ) (r : ℕ) → r < length offsets
    → allowed_at p (drop r offsets) k ≡ allows_at p k (get_or offsets r 0) && allowed_at p (drop (r + 1) offsets) k
unfolding allowed_at
ask_first p k offsets r h = ap (λ (os : List ℕ). allowed_at p os k) (drop_more offsets r 0 h)

pub asked_all : (p : List ℕ) (k : ℕ) (offsets : List ℕ) (r : ℕ) → length offsets ≤ r → allowed_at p (drop r offsets) k ≡ true
unfolding allowed_at
asked_all p k offsets r h = ap (λ (os : List ℕ). allowed_at p os k) (drop_of_length-le offsets h)
