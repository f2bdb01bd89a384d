-- How long a line can be, for the buffer of a caller: word by word.
-- Rests on the number of decimal and of hex digits.
use mathlib.Core.Path.{◌≡◌, ◌∙◌}
use mathlib.Core.Bool.{Bool, true, false, cond}
use mathlib.Core.List.{List, [], ◌∷◌, ◌++◌}
use Prim.Native.Nat.{ℕ, ◌+◌, ◌*◌, ◌≤◌, ◌<◌}
use native.Mathlib.Omega.{arith}
use lib.Dec.{eqb}
use lib.ListN.{length, length-append}
use Rattle.lines.specs.Line.{hex, dash, words, line, result_text, line_of, bad_line_of}
use Rattle.decimals.specs.Decimal.{decimal}
use Rattle.decimals.proofs.Decimal.{length-one, short-byte, short-day, short-word}
use Rattle.lines.proofs.Hex.{hex-length}

pub word-length : (w : List ℕ) (ws : List (List ℕ)) → length (words (w ∷ ws)) ≡ length w + 1 + length (words ws)
unfolding words
word-length w ws = length-append w (32 ∷ words ws) ∙ omega arith

line-length : (ws : List (List ℕ)) (last : List ℕ) → length (line ws last) ≡ length (words ws) + length last + 1
unfolding line
line-length ws last = omega (arith, length-append (words ws ++ last) (10 ∷ []), length-append (words ws) last)

result-length : (number : ℕ) (instance : List ℕ) → length (result_text number instance) ≤ 2 * length instance + 1
unfolding result_text
result-length number instance = go (eqb number 0)
  where
    go : (t : Bool) → length (cond t (hex instance) dash) ≤ 2 * length instance + 1
    go true = omega (arith, hex-length instance)
    go false = omega arith

-- 2,609 bytes for the longest instance
pub line-short : (a b number file offset : ℕ) (instance : List ℕ) → a < 65536 → b < 65536 → number < 256 → file < 256 → offset < 18446744073709551616
    → length (line_of a b number file offset instance) ≤ 43 + 2 * length instance
unfolding line_of words
line-short a b number file offset instance ha hb hn hf ho =
    let w₅ = decimal offset ∷ [] in
    let w₄ = decimal file ∷ w₅ in
    let w₃ = decimal number ∷ w₄ in
    let w₂ = decimal b ∷ w₃ in
    omega (
      arith,
      line-length (decimal a ∷ w₂) (result_text number instance),
      word-length (decimal a) w₂,
      word-length (decimal b) w₃,
      word-length (decimal number) w₄,
      word-length (decimal file) w₅,
      word-length (decimal offset) [],
      short-day a ha,
      short-day b hb,
      short-byte number hn,
      short-byte file hf,
      short-word offset ho,
      result-length number instance,
    )

pub bad-line-short : (number offset : ℕ) → number < 256 → offset < 18446744073709551616 → length (bad_line_of number offset) ≤ 33
unfolding bad_line_of words
bad-line-short number offset hn ho =
    let w₅ = decimal offset ∷ [] in
    let w₄ = decimal 3 ∷ w₅ in
    let w₃ = decimal number ∷ w₄ in
    omega (
      arith,
      line-length (dash ∷ dash ∷ w₃) dash,
      word-length dash (dash ∷ w₃),
      word-length dash w₃,
      word-length (decimal number) w₄,
      word-length (decimal 3) w₅,
      word-length (decimal offset) [],
      short-byte number hn,
      length-one 3 (omega arith),
      short-word offset ho,
    )
