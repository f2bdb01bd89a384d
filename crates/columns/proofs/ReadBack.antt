-- What the sheet says, read from its characters alone, column by column: the round trips are stated with it.
-- Rests on what decimal digits say, and on nothing of the layout.
use mathlib.Core.Bool.{cond, ◌&&◌, ◌||◌}
use mathlib.Core.List.{List, [], ◌∷◌}
use mathlib.Core.Option.{Option, none, some, map, bind, or_else}
use Prim.Native.Nat.{ℕ, zero, suc, ◌*◌, ◌-◌, ◌/◌}
use lib.Dec.{ltb, eqb}
use lib.IntN.{ℤ, pos, negsuc}
use lib.ListN.{length, get_or, take, drop, replicate}
use Rattle.decimals.proofs.ReadBack.{number_of, is_digit, every}
use Rattle.schema.specs.Schema.{Node, node_at}
use Rattle.instances.specs.Instance.{Entry}

-- ---- what a text says

-- a number: no character but digits, a single one or the first above 0
unfoldable pub natural_read : List ℕ → Option ℕ
natural_read cs = cond (every is_digit cs && (eqb (length cs) 1 || ltb 48 (get_or cs 0 0))) (some (number_of cs)) none

-- so far below zero; '-0' says nothing
unfoldable pub below_zero : ℕ → Option ℤ
below_zero zero = none
below_zero (suc x) = some (negsuc x)

-- this text stands in front; then what k says of the rest
unfoldable pub literal : {A : Type 0} → List ℕ → List ℕ → (List ℕ → Option A) → Option A
literal [] cs k = k cs
literal (t ∷ ts) [] k = none
literal (t ∷ ts) (c ∷ cs) k = cond (eqb c t) (literal ts cs k) none

-- x, if nothing is left
unfoldable pub at_end : {A : Type 0} → List ℕ → A → Option A
at_end [] x = some x
at_end (c ∷ cs) x = none

-- a value: a number, or a minus sign straight before one
unfoldable pub integer_read : List ℕ → Option ℤ
integer_read cs = or_else (map pos (natural_read cs)) (literal (45 ∷ []) cs λ cs. bind (natural_read cs) below_zero)

-- a choice: a number, but --- for 255
unfoldable pub choice_read : List ℕ → Option ℕ
choice_read cs = or_else (bind (natural_read cs) λ c. cond (eqb c 255) none (some c)) (literal (45 ∷ 45 ∷ 45 ∷ []) cs λ cs. at_end cs 255)

-- ---- what columns say

-- a text without the spaces in front of it
unfoldable pub unpadded : List ℕ → List ℕ
unpadded [] = []
unpadded (c ∷ cs) = cond (eqb c 32) (unpadded cs) (c ∷ cs)

-- what the text at the right end of w columns says; then what k says of the rest
unfoldable pub aligned : {A B : Type 0} → ℕ → (List ℕ → Option A) → List ℕ → (A → List ℕ → Option B) → Option B
aligned w of cs k = bind (of (unpadded (take w cs))) λ x. k x (drop w cs)

-- so many values, each a space and 11 columns
unfoldable pub values_read : {A : Type 0} → ℕ → List ℕ → (List ℤ → List ℕ → Option A) → Option A
values_read zero cs k = k [] cs
values_read (suc m) cs k =
    literal (32 ∷ []) cs λ cs.
    aligned 11 integer_read cs λ x cs.
    values_read m cs λ xs cs.
    k (x ∷ xs) cs

-- the entry of a line: node, choice, as many values as the node has variables, spaces for the rest of four, and a line feed
unfoldable pub line_read : List Node → List ℕ → Option Entry
line_read g cs =
    aligned 2 natural_read cs λ n cs.
    literal (32 ∷ []) cs λ cs.
    aligned 3 choice_read cs λ c cs.
    let m = length (node_at g n).variables in
    values_read m cs λ xs cs.
    literal (replicate (12 * (4 - m)) 32) cs λ cs.
    literal (10 ∷ []) cs λ cs.
    at_end cs (record { node = n; choice = c; values = xs })

-- ---- what the sheet says

-- the entries of so many lines of 55 bytes
unfoldable pub lines_read : List Node → ℕ → List ℕ → Option (List Entry)
lines_read g zero cs = at_end cs []
lines_read g (suc k) cs =
    bind (line_read g (take 55 cs)) λ e.
    bind (lines_read g k (drop 55 cs)) λ es.
    some (e ∷ es)

unfoldable pub sheet_read : List Node → List ℕ → Option (List Entry)
sheet_read g cs = lines_read g (length cs / 55) cs
