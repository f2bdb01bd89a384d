-- A file's fields, taken in turn (01, 'Where a number arises').
use Rattle.std.specs.Prelude.{ℕ, zero, suc, ◌+◌, ◌*◌, List, [], ◌∷◌, Bool, cond, length, get_or, leb, ltb, eqb, ℤ}
use Rattle.std.proofs.Common.{to_z}
use Rattle.std.specs.Int.{w32}

-- a value and the position after it, or the number of a breach and its offset
pub data Got (A : Type 0) : Type 0 where
  got : A → ℕ → Got A
  bad : ℕ → ℕ → Got A

-- what follows is taken from where this ended; 'the first breach wins'
unfoldable pub part : {A B : Type 0} → Got A → (A → ℕ → Got B) → Got B
part (got a p) k = k a p
part (bad n o) k = bad n o

-- the number that w bytes from p on spell, 'high byte first'
unfoldable pub be : ℕ → List ℕ → ℕ → ℕ
be zero s p = 0
be (suc w) s p = be w s p * 256 + get_or s (p + w) 0

-- '"signed" means two's complement'
abbrev pub signed : ℕ → ℤ
signed u = to_z w32 u

-- w bytes: 'incomplete gives 2', 'its offset is the field's first byte'
unfoldable pub whole : ℕ → List ℕ → ℕ → Got ℕ
whole w s p = cond (leb (p + w) (length s)) (got (be w s p) (p + w)) (bad 2 p)

-- a field of w bytes, 'then its own rule', whose breach gives n; then what follows
unfoldable pub field : {B : Type 0} → ℕ → ℕ → (ℕ → Bool) → List ℕ → ℕ → (ℕ → ℕ → Got B) → Got B
field w n rule s p k = part (whole w s p) λ v q. cond (rule v) (k v q) (bad n p)

-- 'a mark of two ASCII letters', one field of two bytes: '1 wrong letters'
unfoldable pub mark : List ℕ → List ℕ → ℕ → Got ℕ
mark m s p = field 2 1 (λ v. eqb v (be 2 m 0)) s p got

-- k readings one after the other; what is read may decide how the next one is judged
unfoldable pub many : {S A : Type 0} → (S → ℕ → Got A) → (S → A → S) → ℕ → S → ℕ → Got (List A)
many step next zero st p = got [] p
many step next (suc k) st p =
    part (step st p) λ x p.
    part (many step next k (next st x) p) λ xs p.
    got (x ∷ xs) p

-- 'after schema or instance: 7 a byte remains (offset of that byte)'
unfoldable pub ended : {A : Type 0} → List ℕ → A → ℕ → Got A
ended s x p = cond (ltb p (length s)) (bad 7 p) (got x p)
