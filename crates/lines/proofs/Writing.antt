-- Writing at a growing position: with the rest put here, the buffer is what it shall be.
-- Rests on the laws of `put` of the crate fields.
use mathlib.Core.Path.{◌≡◌, refl, sym, subst, ◌∙◌}
use mathlib.Core.List.{List, [], ◌∷◌, ◌++◌, append_assoc}
use Prim.Native.Nat.{ℕ, ◌+◌, ◌*◌, ◌/◌, ◌%◌, ◌≤◌, ◌<◌}
use native.Mathlib.Omega.{arith}
use native.Mathlib.Numerals.{add-one}
use lib.ListN.{length, get_or, drop, drop_of_length-le}
use lib.Seq.{drop-cons}
use borrow.Author.Tests.{eq-eqb, ne_eqb}
use Rattle.std.specs.Prelude.{Result, Ok, Err}
use Rattle.std.specs.Borrow.{Bor}
use Rattle.fields.specs.Answers.{number, file_number}
use Rattle.fields.specs.Writing.{put, Wrote}
use Rattle.fields.specs.declared.Refusal.{Refusal}
use Rattle.fields.proofs.Putting.{wrote_then, Putting, putting-init, putting-step, putting-exit}
use Rattle.decimals.specs.Decimal.{decimal}
use Rattle.lines.specs.declared.Verdict.{Verdict}
use Rattle.lines.specs.Line.{hex_digit, hex, dash, words, line, result_text, line_of, bad_line_of, answer_text, instance_in, said, Laid}
use Rattle.decimals.proofs.Decimal.{short-byte, short-day, short-word}
use Rattle.lines.proofs.Hex.{hex-length}
use Rattle.lines.proofs.Lengths.{word-length}

-- ---- a number's digits

module _ (x : ℕ) (h : x < 18446744073709551616) where
  pub decimal_short : length (decimal x) ≤ 20
  decimal_short = short-word x h

  pub decimal_wrote : {b c : List ℕ} {at r n : ℕ} → Wrote b r (decimal x) c (at + n) → n ≡ length (decimal x) → Laid 20 b at (decimal x) c (at + n)
  decimal_wrote {b} {c} {at} {r} {n} w e =
      let z : r ≡ at = omega (arith, w.next) in
      record { wrote = subst (λ (k : ℕ). Wrote b k (decimal x) c (at + n)) z w; short = omega (arith, short-word x h) }

-- ---- bytes in hex

-- the bytes from i on are still to be put
pub record PuttingHex (b₀ : List ℕ) (from : ℕ) (bytes b : List ℕ) (at i : ℕ) : Type 0 where
  pub done : Putting b₀ from (hex bytes) b at (hex (drop i bytes))
  pub offset : at ≡ from + 2 * i

pub hex_init : (b : List ℕ) (from : ℕ) (bytes : List ℕ) → PuttingHex b from bytes b from 0
hex_init b from bytes = record { done = putting-init b from (hex bytes); offset = omega arith }

module _ (b₀ : List ℕ) (from : ℕ) (bytes b : List ℕ) (at i : ℕ) (w : PuttingHex b₀ from bytes b at i) where
  pub hex_room : i < length bytes → from + 2 * length bytes ≤ length b₀ → at + 2 ≤ length b
  hex_room h l = omega (arith, w.offset, w.done.long)

  pub hex_step : {c d : List ℕ} {h l q r : ℕ} → i < length bytes → from + 2 * length bytes ≤ length b₀
      → Wrote b at (h ∷ []) c q → Wrote c q (l ∷ []) d r → length c ≡ length b → length d ≡ length c
      → h ≡ hex_digit (get_or bytes i 0 / 16) → l ≡ hex_digit (get_or bytes i 0 % 16)
      → PuttingHex b₀ from bytes d r (i + 1)
  unfolding hex
  hex_step {h = h} {l} k m u v lc ld e f =
      let z = hex_room k m in
      let xs = h ∷ l ∷ [] in
      let y : hex (drop i bytes) ≡ xs ++ hex (drop (i + 1) bytes) = rw (e, f, drop-cons bytes i 0 k, add-one i) in
      record {
        done = putting-step xs (hex (drop (i + 1) bytes)) (rw y at w.done) (omega arith) (wrote_then (h ∷ []) (l ∷ []) u v (omega arith)) (ld ∙ lc);
        offset = omega (arith, w.offset, u.next, v.next);
      }

  pub hex_exit : length bytes ≤ i → Wrote b₀ from (hex bytes) b at
  unfolding hex
  hex_exit h = putting-exit (rw (drop_of_length-le bytes {i = i} h) at w.done)

-- ---- the words of a line

words-then : (vs ws : List (List ℕ)) → words (vs ++ ws) ≡ words vs ++ words ws
unfolding words
words-then [] ws = refl
words-then (v ∷ vs) ws = rw (words-then vs ws) (sym (append_assoc v (32 ∷ words vs) (words ws)))

-- the place after a word
word_end : {b c : List ℕ} {at r : ℕ} (k : ℕ) (w : List ℕ) → Wrote b at (words (w ∷ [])) c r → length w ≤ k → r ≤ at + (k + 1)
unfolding words
word_end k w e h = omega (arith, e.next, word-length w [])

pub day_end : {b c : List ℕ} {at r x : ℕ} → Wrote b at (words (decimal x ∷ [])) c r → x < 65536 → r ≤ at + 6
day_end {x = x} e h = word_end 5 (decimal x) e (short-day x h)

pub byte_end : {b c : List ℕ} {at r x : ℕ} → Wrote b at (words (decimal x ∷ [])) c r → x < 256 → r ≤ at + 4
byte_end {x = x} e h = word_end 3 (decimal x) e (short-byte x h)

pub offset_end : {b c : List ℕ} {at r x : ℕ} → Wrote b at (words (decimal x ∷ [])) c r → x < 18446744073709551616 → r ≤ at + 21
offset_end {x = x} e h = word_end 20 (decimal x) e (short-word x h)

module _ (b : List ℕ) (at : ℕ) where
  pub number_wrote : (x : ℕ) {c d : List ℕ} {r q : ℕ} → Laid 20 b at (decimal x) c r → Wrote c r (32 ∷ []) d q → at + 21 ≤ length b
      → Wrote b at (words (decimal x ∷ [])) d q
  unfolding words
  number_wrote x w v l = wrote_then (decimal x) (32 ∷ []) w.wrote v (omega arith)

  pub days_wrote : (x y : ℕ) {c d : List ℕ} {r q : ℕ} → Wrote b at (words (decimal x ∷ [])) c r → Wrote c r (words (decimal y ∷ [])) d q → x < 65536 → y < 65536 → at + 32 ≤ length b
      → Laid 12 b at (words (decimal x ∷ decimal y ∷ [])) d q
  days_wrote x y u v h k l =
      record {
        wrote = rw (words-then (decimal x ∷ []) (decimal y ∷ [])) (wrote_then (words (decimal x ∷ [])) (words (decimal y ∷ [])) u v (omega arith));
        short = omega (arith, day_end u h, day_end v k);
      }

  pub verdict_wrote : (x y z : ℕ) {c d e : List ℕ} {r q p : ℕ} → Wrote b at (words (decimal x ∷ [])) c r → Wrote c r (words (decimal y ∷ [])) d q → Wrote d q (words (decimal z ∷ [])) e p
      → x < 256 → y < 256 → z < 18446744073709551616 → at + 32 ≤ length b → Laid 29 b at (words (decimal x ∷ decimal y ∷ decimal z ∷ [])) e p
  verdict_wrote x y z u v w h k f l =
      let s = words (decimal x ∷ []) in
      let t = words (decimal y ∷ []) in
      record {
        wrote =
            rw (words-then (decimal x ∷ decimal y ∷ []) (decimal z ∷ []), words-then (decimal x ∷ []) (decimal y ∷ []))
            (wrote_then (s ++ t) (words (decimal z ∷ [])) (wrote_then s t u v (omega arith)) w (omega arith));
        short = omega (arith, byte_end u h, byte_end v k, offset_end w f);
      }

-- ---- what follows the days

module _ {b c d : List ℕ} {at r q : ℕ} (n file offset : ℕ) (i : List ℕ) (u : Laid 29 b at (words (decimal n ∷ decimal file ∷ decimal offset ∷ [])) c r) where
  pub answer_good : Wrote c r (hex i) d q → n ≡ 0 → at + 32 + 2 * length i ≤ length b → Laid (30 + 2 * length i) b at (answer_text n file offset i) d q
  unfolding answer_text result_text
  answer_good v e h =
      rw (eq-eqb n 0 e) (record {
        wrote = wrote_then (words (decimal n ∷ decimal file ∷ decimal offset ∷ [])) (hex i) u.wrote v (omega arith);
        short = omega (arith, u.short, v.next, hex-length i);
      })

  pub answer_bad : Wrote c r (45 ∷ []) d q → (n ≡ 0 → ⊥) → at + 32 + 2 * length i ≤ length b → Laid (30 + 2 * length i) b at (answer_text n file offset i) d q
  unfolding answer_text result_text
  answer_bad v e h =
      rw (ne_eqb n 0 e) (record {
        wrote = wrote_then (words (decimal n ∷ decimal file ∷ decimal offset ∷ [])) dash u.wrote v (omega arith);
        short = omega (arith, u.short, v.next);
      })

-- ---- the lines

twice : {o c : List ℕ} {at r : ℕ} → Wrote o at (45 ∷ 32 ∷ 45 ∷ 32 ∷ []) c r → Wrote o at (words (dash ∷ dash ∷ [])) c r
unfolding words
twice w = w

module _ (o : List ℕ) (at : ℕ) where
  pub line_wrote : (a b n file offset : ℕ) (instance : List ℕ) {v : Verdict} {o₁ o₂ o₃ : List ℕ} {r₁ r₂ r₃ : ℕ} → v ≡ record { number = n; file = file; offset = offset }
      → Laid 12 o at (words (decimal a ∷ decimal b ∷ [])) o₁ r₁ → Laid (30 + 2 * length instance) o₁ r₁ (answer_text v.number v.file v.offset instance) o₂ r₂ → Wrote o₂ r₂ (10 ∷ []) o₃ r₃
      → at + 64 + 2 * length instance ≤ length o → Laid (64 + 2 * length instance) o at (line_of a b n file offset instance) o₃ r₃
  unfolding line_of line answer_text
  line_wrote a b n file offset instance k u v w h =
      let d = rw k at v in
      let xs = words (decimal a ∷ decimal b ∷ []) in
      let ys = words (decimal n ∷ decimal file ∷ decimal offset ∷ []) in
      let zs = result_text n instance in
      let e : (xs ++ (ys ++ zs)) ++ (10 ∷ []) ≡ (xs ++ ys) ++ zs ++ (10 ∷ []) = simp append_assoc in
      record {
        wrote =
            rw (words-then (decimal a ∷ decimal b ∷ []) (decimal n ∷ decimal file ∷ decimal offset ∷ []), ← e)
            (wrote_then (xs ++ (ys ++ zs)) (10 ∷ []) (wrote_then xs (ys ++ zs) u.wrote d.wrote (omega arith)) w (omega arith));
        short = omega (arith, u.short, d.short, w.next);
      }

  module _ (a b : ℕ) (x : Result (Bor (List ℕ)) Refusal) {o₁ : List ℕ} {r : ℕ} where
    pub success_wrote : {i : Bor (List ℕ)} → x ≡ Ok i → Laid (64 + 2 * length i.now) o at (line_of a b 0 0 0 i.now) o₁ r → Laid (64 + 2 * length (instance_in x)) o at (said (line_of a b) x) o₁ r
    success_wrote e w = rw e w

    pub refusal_wrote : {y : Refusal} {n file : ℕ} → x ≡ Err y → n ≡ number y.fault → file ≡ file_number y.file → Laid 64 o at (line_of a b n file y.offset []) o₁ r
        → Laid (64 + 2 * length (instance_in x)) o at (said (line_of a b) x) o₁ r
    refusal_wrote e f g w = rw e (rw (f, g) at w)

  pub bad_line_wrote : (n offset : ℕ) {v : Verdict} {o₁ o₂ o₃ o₄ : List ℕ} {r : ℕ} → v ≡ record { number = n; file = 3; offset = offset } → o₁ ≡ put o at (45 ∷ 32 ∷ []) → o₂ ≡ put o₁ (at + 2) (45 ∷ 32 ∷ [])
      → Laid 29 o₂ (at + 4) (words (decimal v.number ∷ decimal v.file ∷ decimal v.offset ∷ [])) o₃ r → o₄ ≡ put o₃ r (45 ∷ 10 ∷ []) → at + 64 ≤ length o
      → Laid 64 o at (bad_line_of n offset) o₄ (r + 2)
  unfolding bad_line_of line
  bad_line_wrote n offset {o₁} {o₂} {o₃} {o₄} {r} k e f u g h =
      let w = rw k at u in
      let ds = dash ∷ dash ∷ [] in
      let vs = decimal n ∷ decimal 3 ∷ decimal offset ∷ [] in
      let d₁ : Wrote o at (45 ∷ 32 ∷ []) o₁ (at + 2) = record { holds = e; next = refl } in
      let d₂ : Wrote o₁ (at + 2) (45 ∷ 32 ∷ []) o₂ (at + 4) = record { holds = f; next = omega arith } in
      let d : Wrote o at (words ds) o₂ (at + 4) = twice (wrote_then (45 ∷ 32 ∷ []) (45 ∷ 32 ∷ []) d₁ d₂ (omega arith)) in
      record {
        wrote =
            rw (words-then ds vs, append_assoc (words ds ++ words vs) dash (10 ∷ []))
            (wrote_then (words ds ++ words vs) (45 ∷ 10 ∷ []) (wrote_then (words ds) (words vs) d w.wrote (omega arith)) (record { holds = g; next = refl }) (omega arith));
        short = omega (arith, w.short);
      }
