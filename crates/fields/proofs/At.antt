-- Bytes that stand at a place of a file, and a field that is read there: put then read and read then put, by one law each over the width, and for a signed number.
-- Rests on the definitions of `be`, `whole`, `field`, `mark`, `spell` and `put`.
use mathlib.Core.Path.{◌≡◌, refl, ap, sym, ◌∙◌, subst}
use mathlib.Core.Bool.{Bool, true}
use mathlib.Core.List.{List, [], ◌∷◌, ◌++◌, append_assoc}
use Prim.Native.Nat.{ℕ, zero, suc, ◌+◌, ◌*◌, ◌/◌, ◌%◌, ◌^◌, ◌≤◌, ◌<◌}
use native.Mathlib.Omega.{arith}
use native.Mathlib.Nat.{add-zero, zero-add, pow-suc}
use borrow.Author.Tests.{eq-eqb, eqb-true}
use lib.Dec.{eqb}
use lib.IntN.{ℤ}
use lib.ListN.{length, get_or, take, drop, length-append, take-append-drop}
use lib.Seq.{get_or-append_seam, ext_get_or, length-take-le, drop-cons}
use mir.Val.{SFits}
use mir.Syntax.{w32}
use Rattle.fields.specs.Reading.{Got, got, part, be, field, mark, signed}
use Rattle.fields.specs.Writing.{spell, put, unsigned}
use Rattle.fields.proofs.Bytes.{Bytes, be-below, spell-length}
use Rattle.fields.proofs.Reading.{whole_got}
use Rattle.fields.proofs.Signed.{signed-unsigned, unsigned_signed, unsigned-below}

-- ---- the elements are bytes

pub bytes-both : (a b : List ℕ) → Bytes a → Bytes b → Bytes (a ++ b)
bytes-both [] b h k j = k j
bytes-both (x ∷ a) b h k zero = h 0
bytes-both (x ∷ a) b h k (suc j) = bytes-both a b (λ i. h (suc i)) k j

pub bytes-none : Bytes []
bytes-none j = record { fits = omega arith }

pub bytes_one : (x : ℕ) → x < 256 → Bytes (x ∷ [])
bytes_one x h zero = record { fits = h }
bytes_one x h (suc j) = bytes-none j

pub spell-bytes : (w x : ℕ) → Bytes (spell w x)
unfolding spell
spell-bytes zero x = bytes-none
spell-bytes (suc w) x = bytes-both (spell w (x / 256)) (x % 256 ∷ []) (spell-bytes w (x / 256)) (bytes_one (x % 256) (omega arith))

-- ---- bs stand at p

abbrev pub At : List ℕ → ℕ → List ℕ → Type 0
At s p [] = p ≤ length s
At s p (b ∷ bs) = (get_or s p 0 ≡ b) × At s (p + 1) bs

pub at-inside : (s : List ℕ) (p : ℕ) (bs : List ℕ) → At s p bs → p + length bs ≤ length s
at-inside s p [] h = omega arith
at-inside s p (b ∷ bs) h = let z = at-inside s (p + 1) bs h.1 in omega arith

at_left : (s : List ℕ) (p : ℕ) (a b : List ℕ) → At s p (a ++ b) → At s p a
at_left s p [] b h = let z = at-inside s p b h in omega arith
at_left s p (x ∷ a) b h = (h.0, at_left s (p + 1) a b h.1)

at_right : (s : List ℕ) (p : ℕ) (a b : List ℕ) → At s p (a ++ b) → At s (p + length a) b
at_right s p [] b h = subst (λ (k : ℕ). At s k b) (sym (add-zero p)) h
at_right s p (x ∷ a) b h = subst (λ (k : ℕ). At s k b) (let z : p + 1 + length a ≡ p + suc (length a) = omega arith in z) (at_right s (p + 1) a b h.1)

pub at-parts : (s : List ℕ) (p : ℕ) (a b : List ℕ) {n : ℕ} → length a ≡ n → At s p (a ++ b) → At s p a × At s (p + n) b
at-parts s p a b e h = (at_left s p a b h, subst (λ (k : ℕ). At s (p + k) b) e (at_right s p a b h))

pub at_both : (s : List ℕ) (p : ℕ) (a b : List ℕ) → At s p a → At s (p + length a) b → At s p (a ++ b)
at_both s p [] b h k = subst (λ (k : ℕ). At s k b) (add-zero p) k
at_both s p (x ∷ a) b h k =
    (h.0, at_both s (p + 1) a b h.1 (subst (λ (k : ℕ). At s k b) (let z : p + suc (length a) ≡ p + 1 + length a = omega arith in z) k))

at-get : (s : List ℕ) (p : ℕ) (bs : List ℕ) → At s p bs → (j : ℕ) → j < length bs → get_or s (p + j) 0 ≡ get_or bs j 0
at-get s p [] h j l = absurd (omega arith)
at-get s p (b ∷ bs) h zero l = rw (add-zero p) h.0
at-get s p (b ∷ bs) h (suc j) l = ap (λ (k : ℕ). get_or s k 0) (let z : p + suc j ≡ p + 1 + j = omega arith in z) ∙ at-get s (p + 1) bs h.1 j (omega arith)

-- the whole list
pub at_all : (s bs : List ℕ) → length s ≡ length bs → At s 0 bs → bs ≡ s
at_all s bs e h = ext_get_or 0 bs s (sym e) (λ j l. sym (at-get s 0 bs h j l) ∙ ap (λ (k : ℕ). get_or s k 0) (zero-add j))

at-end : (a bs : List ℕ) → At (a ++ bs) (length a) bs
at-end a [] = omega (arith, length-append a [])
at-end a (b ∷ bs) = (
  get_or-append_seam a b bs 0,
  subst (λ (l : List ℕ). At l (length a + 1) bs) (append_assoc a (b ∷ []) bs)
      (subst (λ (k : ℕ). At (a ++ (b ∷ []) ++ bs) k bs) (length-append a (b ∷ [])) (at-end (a ++ (b ∷ [])) bs)),
)

pub at_self : (bs : List ℕ) → At bs 0 bs
at_self bs = at-end [] bs

-- what is put at p stands there, and to put what stands there changes nothing
pub at-put : (b : List ℕ) (p : ℕ) (bs : List ℕ) → p + length bs ≤ length b → At (put b p bs) p bs
unfolding put
at-put b p bs h =
    let r = drop (p + length bs) b in
    let e : length (take p b) ≡ p = length-take-le p b (omega arith) in
    subst (λ (l : List ℕ). At l p bs) (sym (append_assoc (take p b) bs r))
    (subst (λ (k : ℕ). At (take p b ++ (bs ++ r)) k bs) e (at_left (take p b ++ (bs ++ r)) (length (take p b)) bs r (at-end (take p b) (bs ++ r))))

at_drop : (s : List ℕ) (p : ℕ) (bs : List ℕ) → At s p bs → drop p s ≡ bs ++ drop (p + length bs) s
at_drop s p [] h = ap (λ (k : ℕ). drop k s) (sym (add-zero p))
at_drop s p (b ∷ bs) h =
    let i = at-inside s (p + 1) bs h.1 in
    let z : suc p ≡ p + 1 = omega arith in
    let y : p + 1 + length bs ≡ p + suc (length bs) = omega arith in
    drop-cons s p 0 (omega arith)
    ∙ ap (λ (x : ℕ). x ∷ drop (suc p) s) h.0
    ∙ ap (λ (k : ℕ). b ∷ drop k s) z
    ∙ ap (λ (l : List ℕ). b ∷ l) (at_drop s (p + 1) bs h.1)
    ∙ ap (λ (k : ℕ). b ∷ (bs ++ drop k s)) y

pub put-at : (s : List ℕ) (p : ℕ) (bs : List ℕ) → At s p bs → put s p bs ≡ s
unfolding put
put-at s p bs h =
    append_assoc (take p s) bs (drop (p + length bs) s)
    ∙ ap (λ (l : List ℕ). take p s ++ l) (sym (at_drop s p bs h))
    ∙ take-append-drop p s

-- ---- a number that was put is read, and one that was read was put

pub spell-read : (w x : ℕ) (s : List ℕ) (p : ℕ) → x < 256 ^ w → At s p (spell w x) → be w s p ≡ x
unfolding be spell
spell-read zero x s p h k = omega arith
spell-read (suc w) x s p h k =
    let q = at-parts s p (spell w (x / 256)) (x % 256 ∷ []) (spell-length w (x / 256)) k in
    let b = q.1.0 in
    let l : x < 256 ^ w * 256 = rw (pow-suc 256 w) at h in
    let a = spell-read w (x / 256) s p (let z : x / 256 < 256 ^ w = omega arith in z) q.0 in
    omega arith

pub read-spell : (w : ℕ) (s : List ℕ) (p : ℕ) → Bytes s → p + w ≤ length s → At s p (spell w (be w s p))
unfolding be spell
read-spell zero s p f i = omega arith
read-spell (suc w) s p f i =
    let b = (f (p + w)).fits in
    let u = be w s p * 256 + get_or s (p + w) 0 in
    let d : be w s p ≡ u / 256 = omega arith in
    let m : get_or s (p + w) 0 ≡ u % 256 = omega arith in
    let l = spell-length w (u / 256) in
    at_both s p (spell w (u / 256)) (u % 256 ∷ []) (subst (λ (k : ℕ). At s p (spell w k)) d (read-spell w s p f (omega arith)))
    (subst (λ (k : ℕ). At s (p + k) (u % 256 ∷ [])) (sym l) (m, omega arith))

pub signed-read : (z : ℤ) (s : List ℕ) (p : ℕ) → SFits w32 z → At s p (spell 4 (unsigned z)) → signed (be 4 s p) ≡ z
signed-read z s p f a = ap signed (spell-read 4 (unsigned z) s p (unsigned-below z f) a) ∙ signed-unsigned z f

pub read-signed : (s : List ℕ) (p : ℕ) → Bytes s → p + 4 ≤ length s → At s p (spell 4 (unsigned (signed (be 4 s p))))
read-signed s p f i = subst (λ (u : ℕ). At s p (spell 4 u)) (sym (unsigned_signed (be 4 s p) (be-below 4 s p f))) (read-spell 4 s p f i)

-- the same of the buffer that it was put into
pub put-read : (w x : ℕ) (b : List ℕ) (p : ℕ) → x < 256 ^ w → p + w ≤ length b → be w (put b p (spell w x)) p ≡ x
put-read w x b p h i = spell-read w x (put b p (spell w x)) p h (at-put b p (spell w x) (omega (arith, spell-length w x)))

pub read-put : (w : ℕ) (s : List ℕ) (p : ℕ) → Bytes s → p + w ≤ length s → put s p (spell w (be w s p)) ≡ s
read-put w s p f i = put-at s p (spell w (be w s p)) (read-spell w s p f i)

pub put-read-signed : (z : ℤ) (b : List ℕ) (p : ℕ) → SFits w32 z → p + 4 ≤ length b → signed (be 4 (put b p (spell 4 (unsigned z))) p) ≡ z
put-read-signed z b p f i = signed-read z (put b p (spell 4 (unsigned z))) p f (at-put b p (spell 4 (unsigned z)) (omega (arith, spell-length 4 (unsigned z))))

pub read-put-signed : (s : List ℕ) (p : ℕ) → Bytes s → p + 4 ≤ length s → put s p (spell 4 (unsigned (signed (be 4 s p)))) ≡ s
read-put-signed s p f i = put-at s p (spell 4 (unsigned (signed (be 4 s p)))) (read-signed s p f i)

-- a field whose bytes are there is read
pub field_at : {B : Type 0} (w n : ℕ) (rule : ℕ → Bool) (s : List ℕ) (p : ℕ) (k : ℕ → ℕ → Got B) (x : ℕ) {g : Got B} → x < 256 ^ w → At s p (spell w x) → rule x ≡ true
    → k x (p + w) ≡ g → field w n rule s p k ≡ g
unfolding field part
field_at w n rule s p k x h a t e =
    let i : p + w ≤ length s = omega (arith, at-inside s p (spell w x) a, spell-length w x) in
    rw (whole_got w s p i, spell-read w x s p h a, t) e

-- a mark is the number of its two letters
pub mark-at : (m s : List ℕ) (p : ℕ) → spell 2 (be 2 m 0) ≡ m → At s p m → mark m s p ≡ got (be 2 m 0) (p + 2)
unfolding mark
mark-at m s p e a =
    let h = be-below 2 m 0 (subst Bytes e (spell-bytes 2 (be 2 m 0))) in
    field_at 2 1 (λ v. eqb v (be 2 m 0)) s p got (be 2 m 0) h (subst (At s p) (sym e) a) (eq-eqb (be 2 m 0) (be 2 m 0) refl) refl

pub at_mark : (m s : List ℕ) (p : ℕ) → spell 2 (be 2 m 0) ≡ m → Bytes s → p + 2 ≤ length s → eqb (be 2 s p) (be 2 m 0) ≡ true → At s p m
at_mark m s p e f i t = subst (At s p) (ap (spell 2) (eqb-true (be 2 s p) (be 2 m 0) t) ∙ e) (read-spell 2 s p f i)
