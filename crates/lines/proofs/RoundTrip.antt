-- The theorems on lines: split at its spaces a line gives its words, the hex digits say the bytes; no sign but digits.
-- Rests on what decimal digits say, and on Hex.antt, byte by byte.
use mathlib.Core.Path.{◌≡◌, refl, ap, ◌∙◌}
use mathlib.Core.Bool.{Bool, true, false, cond}
use mathlib.Core.List.{List, [], ◌∷◌, ◌++◌, append_assoc, append-nil}
use Prim.Native.Nat.{ℕ, suc, ◌+◌, ◌*◌, ◌/◌, ◌%◌, ◌<◌}
use native.Mathlib.Omega.{arith}
use borrow.Author.Tests.{lt-ltb, le-ltb, ltb-true, ltb-false, le-leb, leb-true, ne_eqb}
use lib.Dec.{ltb, leb, eqb}
use Rattle.fields.proofs.Bytes.{Bytes}
use Rattle.fields.proofs.Tests.{and_yes, and-true, or_left, or_right}
use Rattle.lines.specs.Line.{hex_digit, hex, dash, words, line, result_text, line_of, bad_line_of}
use Rattle.decimals.specs.Decimal.{decimal}
use Rattle.decimals.proofs.ReadBack.{is_digit, every, digit-of, decimal-digits}
use Rattle.lines.proofs.ReadBack.{words_from, words_of, half_of, bytes_of, is_hex_digit}
use Rattle.lines.proofs.Hex.{digit_low, digit-high}

-- ---- bytes

half_back : (n : ℕ) → n < 16 → half_of (hex_digit n) ≡ n
unfolding half_of
half_back n h = go (ltb n 10) refl
  where
    go : (t : Bool) → ltb n 10 ≡ t → half_of (hex_digit n) ≡ n
    go true e = let l = ltb-true n 10 e in rw (← digit_low n l, lt-ltb (48 + n) 58 (omega arith)) (omega arith)
    go false e = let l = ltb-false n 10 e in rw (← digit-high n l, le-ltb (87 + n) 58 (omega arith)) (omega arith)

-- the hex digits say the bytes
pub hex-back : (bs : List ℕ) → Bytes bs → bytes_of (hex bs) ≡ bs
unfolding hex bytes_of
hex-back [] f = refl
hex-back (b ∷ bs) f =
    let l = (f 0).fits in
    let z : b / 16 * 16 + b % 16 ≡ b = omega arith in
    rw (half_back (b / 16) (omega arith), half_back (b % 16) (omega arith), hex-back bs (λ i. f (suc i)), z)

half-digit : (n : ℕ) → n < 16 → is_hex_digit (hex_digit n) ≡ true
unfolding is_hex_digit
half-digit n h = go (ltb n 10) refl
  where
    go : (t : Bool) → ltb n 10 ≡ t → is_hex_digit (hex_digit n) ≡ true
    go true e = let l = ltb-true n 10 e in rw (← digit_low n l) (or_left (is_digit (48 + n)) _ (digit-of n l))
    go false e =
        let l = ltb-false n 10 e in
        rw (← digit-high n l) (or_right (is_digit (87 + n)) _ (and_yes (le-leb 97 (87 + n) (omega arith)) (le-leb (87 + n) 102 (omega arith))))

-- they are lower-case hex digits
pub hex-digits : (bs : List ℕ) → Bytes bs → every is_hex_digit (hex bs) ≡ true
unfolding hex every
hex-digits [] f = refl
hex-digits (b ∷ bs) f =
    let l = (f 0).fits in
    and_yes (half-digit (b / 16) (omega arith)) (and_yes (half-digit (b % 16) (omega arith)) (hex-digits bs (λ i. f (suc i))))

-- ---- lines

-- neither a space nor a line feed
abbrev is_sign : ℕ → Bool
is_sign c = ltb 32 c

every-too : (p q : ℕ → Bool) → ((c : ℕ) → p c ≡ true → q c ≡ true) → (cs : List ℕ) → every p cs ≡ true → every q cs ≡ true
unfolding every
every-too p q f [] e = refl
every-too p q f (c ∷ cs) e = let z = and-true (p c) (every p cs) e in and_yes (f c z.0) (every-too p q f cs z.1)

decimal-signs : (x : ℕ) → every is_sign (decimal x) ≡ true
unfolding is_digit
decimal-signs x = every-too is_digit is_sign (λ c e. lt-ltb 32 c (omega (arith, leb-true 48 c (and-true (leb 48 c) (leb c 57) e).0))) (decimal x) (decimal-digits x)

half-sign : (n : ℕ) → is_sign (hex_digit n) ≡ true
half-sign n = go (ltb n 10) refl
  where
    go : (t : Bool) → ltb n 10 ≡ t → is_sign (hex_digit n) ≡ true
    go true e = rw (← digit_low n (ltb-true n 10 e)) (lt-ltb 32 (48 + n) (omega arith))
    go false e = rw (← digit-high n (ltb-false n 10 e)) (lt-ltb 32 (87 + n) (omega arith))

hex-signs : (bs : List ℕ) → every is_sign (hex bs) ≡ true
unfolding hex every
hex-signs [] = refl
hex-signs (b ∷ bs) = and_yes (half-sign (b / 16)) (and_yes (half-sign (b % 16)) (hex-signs bs))

result-signs : (number : ℕ) (instance : List ℕ) → every is_sign (result_text number instance) ≡ true
unfolding result_text every
result-signs number instance = go (eqb number 0)
  where
    go : (t : Bool) → every is_sign (cond t (hex instance) dash) ≡ true
    go true = hex-signs instance
    go false = refl

-- a word is read to its end
word_read : (w v cs : List ℕ) → every is_sign w ≡ true → words_from v (w ++ cs) ≡ words_from (v ++ w) cs
unfolding words_from every
word_read [] v cs e = rw (append-nil v)
word_read (c ∷ w) v cs e =
    let z = and-true (is_sign c) (every is_sign w) e in
    let h = ltb-true 32 c z.0 in
    rw (ne_eqb c 10 (λ k. omega arith), ne_eqb c 32 (λ k. omega arith)) (word_read w (v ++ (c ∷ [])) cs z.1 ∙ ap (λ (u : List ℕ). words_from u cs) (append_assoc v (c ∷ []) w))

-- words of signs alone
data Signs : List (List ℕ) → Type 0 where
  none : Signs []
  more : {w : List ℕ} {ws : List (List ℕ)} → every is_sign w ≡ true → Signs ws → Signs (w ∷ ws)

line_read : {ws : List (List ℕ)} (last : List ℕ) → Signs ws → every is_sign last ≡ true → words_of (line ws last) ≡ ws ++ (last ∷ [])
unfolding words_of words_from line words
line_read {ws = []} last none e = word_read last [] (10 ∷ []) e
line_read {ws = w ∷ ws} last (more h hs) e =
    let r = words ws ++ last ++ (10 ∷ []) in
    let z : w ++ (32 ∷ words ws) ++ last ++ (10 ∷ []) ≡ w ++ (32 ∷ r) = simp append_assoc in
    ap (words_from []) z ∙ word_read w [] (32 ∷ r) h ∙ ap (λ (vs : List (List ℕ)). w ∷ vs) (line_read last hs e)

-- the line of a pass has these words
pub line-back : (a b number file offset : ℕ) (instance : List ℕ)
    → words_of (line_of a b number file offset instance) ≡ decimal a ∷ decimal b ∷ decimal number ∷ decimal file ∷ decimal offset ∷ result_text number instance ∷ []
unfolding line_of
line-back a b number file offset instance =
    line_read (result_text number instance)
    (more (decimal-signs a) (more (decimal-signs b) (more (decimal-signs number) (more (decimal-signs file) (more (decimal-signs offset) none)))))
    (result-signs number instance)

-- and the line of a bad PS these
pub bad-line-back : (number offset : ℕ) → words_of (bad_line_of number offset) ≡ dash ∷ dash ∷ decimal number ∷ decimal 3 ∷ decimal offset ∷ dash ∷ []
unfolding bad_line_of every
bad-line-back number offset =
    line_read dash (more refl (more refl (more (decimal-signs number) (more (decimal-signs 3) (more (decimal-signs offset) none))))) refl
