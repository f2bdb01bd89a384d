-- How wide the columns are: a text that is short enough fills its columns, so that every line has 55 bytes.
-- Rests on the number of decimal digits, and on what fits in 32 bits.
use mathlib.Core.Path.{◌≡◌, refl, ap, ◌∙◌}
use mathlib.Core.Bool.{Bool, true, false, cond}
use mathlib.Core.List.{List, [], ◌∷◌, ◌++◌}
use Prim.Native.Nat.{ℕ, zero, suc, ◌+◌, ◌*◌, ◌-◌, ◌≤◌, ◌<◌}
use native.Mathlib.Omega.{arith}
use lib.Dec.{eqb}
use lib.IntN.{ℤ, pos, negsuc}
use lib.ListN.{length, length-append, length-replicate, replicate-append-replicate}
use Rattle.decimals.specs.Decimal.{decimal}
use Rattle.decimals.proofs.Decimal.{decimal-short, short-byte, short-value}
use Rattle.instances.specs.Instance.{Entry}
use Rattle.columns.specs.Sheet.{spaces, right_aligned, signed_decimal, choice_column, value_columns, sheet_line, line_bytes}

pub right-length : (w : ℕ) (text : List ℕ) → length text ≤ w → length (right_aligned w text) ≡ w
unfolding right_aligned
right-length w text h = omega (arith, length-append (spaces (w - length text)) text, length-replicate {A = ℕ} (w - length text) 32)

-- ---- a value

-- it is no wider than 32 bits
pub data Narrow : ℤ → Type 0 where
  not_negative : {x : ℕ} → x < 4294967296 → Narrow (pos x)
  negative : {x : ℕ} → x < 2147483648 → Narrow (negsuc x)

pub value-short : {x : ℤ} → Narrow x → length (signed_decimal x) ≤ 11
unfolding signed_decimal
value-short (not_negative {x} h) = omega (arith, short-value x h)
value-short (negative {x} h) = omega (arith, short-value (x + 1) (omega arith))

pub data NarrowAll : List ℤ → Type 0 where
  none : NarrowAll []
  more : {x : ℤ} {xs : List ℤ} → Narrow x → NarrowAll xs → NarrowAll (x ∷ xs)

-- ---- the columns of a line

pub node-short : (n : ℕ) → n < 64 → length (decimal n) ≤ 2
node-short n h = decimal-short 1 n (omega arith)

pub choice-length : (c : ℕ) → c < 256 → length (choice_column c) ≡ 3
unfolding choice_column
choice-length c h = go (eqb c 255)
  where
    go : (t : Bool) → length (cond t (45 ∷ 45 ∷ 45 ∷ []) (right_aligned 3 (decimal c))) ≡ 3
    go true = refl
    go false = right-length 3 (decimal c) (short-byte c h)

-- columns without values are blank
pub no-values : (k : ℕ) → value_columns k [] ≡ spaces (12 * k)
unfolding value_columns
no-values zero = refl
no-values (suc k) =
    let z : 12 + 12 * k ≡ 12 * suc k = omega arith in
    ap (λ (l : List ℕ). spaces 12 ++ l) (no-values k) ∙ replicate-append-replicate {A = ℕ} 12 (12 * k) 32 ∙ ap spaces z

pub values_length : (k : ℕ) {xs : List ℤ} → NarrowAll xs → length xs ≤ k → length (value_columns k xs) ≡ 12 * k
unfolding value_columns
values_length zero none h = refl
values_length zero (more x xs) h = absurd (omega arith)
values_length (suc k) none h = ap length (no-values (suc k)) ∙ length-replicate {A = ℕ} (12 * suc k) 32
values_length (suc k) (more {x} {xs} n ns) h =
    let text = right_aligned 11 (signed_decimal x) in
    omega (
      arith,
      length-append (spaces 1 ++ text) (value_columns k xs),
      length-append (spaces 1) text,
      right-length 11 (signed_decimal x) (value-short n),
      values_length k ns (omega arith),
    )

-- ---- a line

-- an entry whose columns hold it
pub record Printable (e : Entry) : Type 0 where
  pub node : e.node < 64
  pub choice : e.choice < 256
  pub few : length e.values ≤ 4
  pub narrow : NarrowAll e.values

pub line-length : (e : Entry) → Printable e → length (sheet_line e) ≡ line_bytes
unfolding sheet_line
line-length e p =
    let node = right_aligned 2 (decimal e.node) in
    let choice = choice_column e.choice in
    let values = value_columns 4 e.values in
    omega (
      arith,
      length-append (node ++ spaces 1 ++ choice ++ values) (10 ∷ []),
      length-append (node ++ spaces 1 ++ choice) values,
      length-append (node ++ spaces 1) choice,
      length-append node (spaces 1),
      right-length 2 (decimal e.node) (node-short e.node p.node),
      choice-length e.choice p.choice,
      values_length 4 p.narrow p.few,
    )
