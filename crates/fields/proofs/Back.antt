-- From an accepted reading back to the bytes: what went on was good so far.
-- Rests on the definitions of `part`, `whole`, `field`, `mark`, `many` and `ended`.
use mathlib.Core.Path.{◌≡◌, refl, ap, sym, ◌∙◌}
use mathlib.Core.Bool.{Bool, true, false, cond}
use mathlib.Core.List.{List, [], ◌∷◌}
use Prim.Native.Nat.{ℕ, zero, suc, ◌+◌, ◌≤◌}
use native.Mathlib.Omega.{arith}
use native.Mathlib.Nat.{add-zero, zero-add}
use borrow.Author.Tests.{leb-true, ltb-false}
use lib.ListN.{length, get_or}
use lib.Dec.{leb, ltb, eqb}
use Rattle.fields.specs.Reading.{Got, got, bad, part, be, whole, field, mark, many, ended}

pub record Went {A B : Type 0} (g : Got A) (k : A → ℕ → Got B) (b : B) (q : ℕ) : Type 0 where
  pub value : A
  pub after : ℕ
  pub first : g ≡ got value after
  pub then : k value after ≡ got b q

pub went : {A B : Type 0} (g : Got A) (k : A → ℕ → Got B) {b : B} {q : ℕ} → part g k ≡ got b q → Went g k b q
unfolding part
went (got a p) k e = record { value = a; after = p; first = refl; then = e }
went (bad n o) k e = absurd (let z : ◌≡◌ {A = ℕ} 0 1 = cc in omega arith)

-- a rule that was met
pub chosen : {B : Type 0} (t : Bool) (g : Got B) (n o : ℕ) {b : B} {q : ℕ} → cond t g (bad n o) ≡ got b q → (t ≡ true) × (g ≡ got b q)
chosen true g n o e = (refl, e)
chosen false g n o e = absurd (let z : ◌≡◌ {A = ℕ} 0 1 = cc in omega arith)

pub record Whole (w : ℕ) (s : List ℕ) (p v q : ℕ) : Type 0 where
  pub value : v ≡ be w s p
  pub next : q ≡ p + w
  pub inside : p + w ≤ length s

pub whole_back : (w : ℕ) (s : List ℕ) (p : ℕ) {v q : ℕ} → whole w s p ≡ got v q → Whole w s p v q
unfolding whole
whole_back w s p e =
    let h = chosen (leb (p + w) (length s)) (got (be w s p) (p + w)) 2 p e in
    let k = h.1 in
    record { value = cc; next = cc; inside = leb-true (p + w) (length s) h.0 }

-- a field that was taken: its bytes are there, its rule is met, and the rest was read after it
pub record Took {B : Type 0} (w : ℕ) (rule : ℕ → Bool) (s : List ℕ) (p : ℕ) (k : ℕ → ℕ → Got B) (b : B) (q : ℕ) : Type 0 where
  pub inside : p + w ≤ length s
  pub rule-met : rule (be w s p) ≡ true
  pub then : k (be w s p) (p + w) ≡ got b q

took-at : {B : Type 0} (w n : ℕ) (rule : ℕ → Bool) (s : List ℕ) (p : ℕ) (k : ℕ → ℕ → Got B) {b : B} {q v r : ℕ} → Whole w s p v r
    → cond (rule v) (k v r) (bad n p) ≡ got b q → Took w rule s p k b q
took-at w n rule s p k {v = v} {r} h e =
    let c = chosen (rule v) (k v r) n p e in
    record { inside = h.inside; rule-met = ap rule (sym h.value) ∙ c.0; then = (λ i. k (sym h.value i) (sym h.next i)) ∙ c.1 }

pub field_back : {B : Type 0} (w n : ℕ) (rule : ℕ → Bool) (s : List ℕ) (p : ℕ) (k : ℕ → ℕ → Got B) {b : B} {q : ℕ}
    → field w n rule s p k ≡ got b q → Took w rule s p k b q
unfolding field
field_back w n rule s p k e =
    let h = went (whole w s p) (λ v q. cond (rule v) (k v q) (bad n p)) e in
    took-at w n rule s p k (whole_back w s p h.first) h.then

-- w bytes under no rule
pub record Passed {B : Type 0} (w : ℕ) (s : List ℕ) (p : ℕ) (k : ℕ → ℕ → Got B) (b : B) (q : ℕ) : Type 0 where
  pub inside : p + w ≤ length s
  pub then : k (be w s p) (p + w) ≡ got b q

pub any-back : {B : Type 0} (w : ℕ) (s : List ℕ) (p : ℕ) (k : ℕ → ℕ → Got B) {b : B} {q : ℕ} → part (whole w s p) k ≡ got b q → Passed w s p k b q
any-back w s p k e =
    let h = went (whole w s p) k e in
    let z = whole_back w s p h.first in
    record { inside = z.inside; then = (λ i. k (sym z.value i) (sym z.next i)) ∙ h.then }

-- a mark that was read
pub record Marked (m s : List ℕ) (p q : ℕ) : Type 0 where
  pub inside : p + 2 ≤ length s
  pub letters : eqb (be 2 s p) (be 2 m 0) ≡ true
  pub next : q ≡ p + 2

pub mark-back : (m s : List ℕ) (p : ℕ) {v q : ℕ} → mark m s p ≡ got v q → Marked m s p q
unfolding mark
mark-back m s p e =
    let h = field_back 2 1 (λ v. eqb v (be 2 m 0)) s p got e in
    let z = h.then in
    record { inside = h.inside; letters = h.rule-met; next = cc }

-- the rest after a mark
pub record After {B : Type 0} (m s : List ℕ) (p : ℕ) (k : ℕ → ℕ → Got B) (b : B) (q : ℕ) : Type 0 where
  pub inside : p + 2 ≤ length s
  pub letters : eqb (be 2 s p) (be 2 m 0) ≡ true
  pub value : ℕ
  pub then : k value (p + 2) ≡ got b q

pub after-mark : {B : Type 0} (m s : List ℕ) (p : ℕ) (k : ℕ → ℕ → Got B) {b : B} {q : ℕ} → part (mark m s p) k ≡ got b q → After m s p k b q
after-mark m s p k e =
    let h = went (mark m s p) k e in
    let z = mark-back m s p h.first in
    record { inside = z.inside; letters = z.letters; value = h.value; then = (λ i. k h.value (sym z.next i)) ∙ h.then }

-- the first of several readings, and the others
pub record Turn {S A : Type 0} (step : S → ℕ → Got A) (next : S → A → S) (k : ℕ) (st : S) (p : ℕ) (xs : List A) (q : ℕ) : Type 0 where
  pub head : A
  pub tail : List A
  pub middle : ℕ
  pub is : xs ≡ head ∷ tail
  pub here : step st p ≡ got head middle
  pub rest : many step next k (next st head) middle ≡ got tail q

pub many-back : {S A : Type 0} (step : S → ℕ → Got A) (next : S → A → S) (k : ℕ) (st : S) (p : ℕ) {xs : List A} {q : ℕ}
    → many step next (suc k) st p ≡ got xs q → Turn step next k st p xs q
unfolding many
many-back step next k st p e =
    let h = went (step st p) _ e in
    let g = went (many step next k (next st h.value) h.after) _ h.then in
    let z = g.then in
    record { head = h.value; tail = g.value; middle = h.after; is = cc; here = h.first; rest = g.first ∙ (let w : got g.value g.after ≡ got g.value _ = cc in w) }

pub many-none : {S A : Type 0} (step : S → ℕ → Got A) (next : S → A → S) (st : S) (p : ℕ) {xs : List A} {q : ℕ}
    → many step next 0 st p ≡ got xs q → (xs ≡ []) × (q ≡ p)
unfolding many
many-none step next st p e = ((cc), (cc))

pub many-length : {S A : Type 0} (step : S → ℕ → Got A) (next : S → A → S) (k : ℕ) (st : S) (p : ℕ) {xs : List A} {q : ℕ}
    → many step next k st p ≡ got xs q → length xs ≡ k
many-length step next zero st p e = ap length (many-none step next st p e).0
many-length step next (suc k) st p e =
    let t = many-back step next k st p e in
    ap length t.is ∙ ap suc (many-length step next k (next st t.head) t.middle t.rest)

-- a file that ended where its last byte is
pub ended-back : {A : Type 0} (s : List ℕ) (x : A) (p : ℕ) {y : A} {q : ℕ} → ended s x p ≡ got y q → (y ≡ x) × (q ≡ p) × (length s ≤ p)
unfolding ended
ended-back {A} s x p {y} {q} e = go (ltb p (length s)) refl e
  where
    go : (t : Bool) → ltb p (length s) ≡ t → cond t (bad 7 p) (got x p) ≡ got y q → (y ≡ x) × (q ≡ p) × (length s ≤ p)
    go true t e = absurd (let z : ◌≡◌ {A = ℕ} 0 1 = cc in omega arith)
    go false t e = ((cc), (cc), ltb-false p (length s) t)

-- numbers of one byte
pub be1 : (s : List ℕ) (p : ℕ) → be 1 s p ≡ get_or s p 0
unfolding be
be1 s p = simp (add-zero, zero-add)
