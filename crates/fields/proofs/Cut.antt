-- A file that is cut or extended: a reading of bytes t goes as the one of bytes s went, field by field, as long as t has the bytes; the first field that t lacks is refused.
-- Rests on the definitions of `part`, `whole`, `field`, `mark`, `many` and `ended`, and on equal bytes spelling equal numbers.
use mathlib.Core.Path.{◌≡◌, refl, ap, sym, subst, ◌∙◌}
use mathlib.Core.Bool.{Bool, true, false, cond}
use mathlib.Core.List.{List, [], ◌∷◌, ◌++◌, append_assoc, append-nil, flat_map}
use Prim.Native.Nat.{ℕ, zero, suc, ◌+◌, ◌≤◌, ◌<◌}
use native.Mathlib.Omega.{arith}
use borrow.Author.Tests.{lt-ltb, le-ltb, ltb-true, ltb-false}
use lib.Dec.{ltb, eqb}
use lib.ListN.{length, get_or, take, length-append, get_or-append}
use lib.Seq.{get_or-take, length-take-le}
use Rattle.fields.specs.Reading.{Got, got, bad, part, be, whole, field, mark, many, ended}
use Rattle.fields.proofs.Bytes.{be-same}
use Rattle.fields.proofs.Reading.{whole_cut, whole_got, part-ok, ended-bad}
use Rattle.fields.proofs.Back.{went, whole_back, ended-back}

-- ---- the fields

-- of fields so wide, one after the other from p on, the first byte of the one in which byte k stands
unfoldable pub field_at : List ℕ → ℕ → ℕ → ℕ
field_at [] p k = p
field_at (w ∷ ws) p k = cond (ltb k (p + w)) p (field_at ws (p + w) k)

-- the position after them
unfoldable pub past : List ℕ → ℕ → ℕ
past [] p = p
past (w ∷ ws) p = past ws (p + w)

past-least : (ws : List ℕ) (p : ℕ) → p ≤ past ws p
unfolding past
past-least [] p = omega arith
past-least (w ∷ ws) p = omega (arith, past-least ws (p + w))

past-both : (ws vs : List ℕ) (p : ℕ) → past (ws ++ vs) p ≡ past vs (past ws p)
unfolding past
past-both [] vs p = refl
past-both (w ∷ ws) vs p = past-both ws vs (p + w)

field-before : (ws : List ℕ) (p k : ℕ) → k < p → field_at ws p k ≡ p
unfolding field_at
field-before [] p k h = refl
field-before (w ∷ ws) p k h = rw (lt-ltb k (p + w) (omega arith))

-- a byte of the first ones, and a byte after them
field-first : (ws vs : List ℕ) (p k : ℕ) → k < past ws p → field_at (ws ++ vs) p k ≡ field_at ws p k
unfolding field_at past
field-first [] vs p k h = field-before vs p k h
field-first (w ∷ ws) vs p k h = ap (cond (ltb k (p + w)) p) (field-first ws vs (p + w) k h)

field-later : (ws vs : List ℕ) (p k : ℕ) → past ws p ≤ k → field_at (ws ++ vs) p k ≡ field_at vs (past ws p) k
unfolding field_at past
field-later [] vs p k h = refl
field-later (w ∷ ws) vs p k h = rw (le-ltb k (p + w) (omega (arith, past-least ws (p + w)))) (field-later ws vs (p + w) k h)

-- ---- two readings

-- what follows the last field: nothing is asked; `ended` asks that no byte remains
abbrev pub unasked : {A : Type 0} → List ℕ → A → ℕ → Got A
unasked s a q = got a q

-- the bytes that both have are the same
pub record Same (s t : List ℕ) : Type 0 where
  pub byte : (i : ℕ) → i < length s → i < length t → get_or t i 0 ≡ get_or s i 0

-- over the fields ws s gave a, from p to q; h is what t gives from p on
pub record Agreed {A : Type 0} (s t : List ℕ) (close : List ℕ → A → ℕ → Got A) (ws : List ℕ) (p : ℕ) (a : A) (q : ℕ) (h : Got A) : Type 0 where
  pub end : q ≡ past ws p
  pub inside : p ≤ length s → q ≤ length s
  pub closed : close s a q ≡ got a q
  pub full : q ≤ length t → h ≡ close t a q
  pub cut : p ≤ length t → length t < q → h ≡ bad 2 (field_at ws p (length t))

-- g reads s from p on, h reads t; where g is accepted, its value tells the fields, of which some stand before p
pub record Agree {A : Type 0} (s t : List ℕ) (close : List ℕ → A → ℕ → Got A) (fields : A → List ℕ) (before : List ℕ) (p : ℕ) (g h : Got A) : Type 0 where
  pub accepted : {a : A} {q : ℕ} → g ≡ got a q → (ws : List ℕ) × (fields a ≡ before ++ ws) × Agreed s t close ws p a q h

-- what follows a breach is not read
stops : {A B : Type 0} (h : Got A) (l : A → ℕ → Got B) {n o : ℕ} → h ≡ bad n o → part h l ≡ bad n o
unfolding part
stops h l e = rw e

module _ {s t : List ℕ} where
  none-agreed : {A : Type 0} {p : ℕ} (close : List ℕ → A → ℕ → Got A) (a : A) {b : A} {q : ℕ} → close s a p ≡ got b q → b ≡ a → q ≡ p
      → Agreed s t close [] p b q (close t a p)
  unfolding past
  none-agreed close a e ea ep = record {
    end = ep;
    inside = λ h. omega arith;
    closed = (λ i. close s (ea i) (ep i)) ∙ e;
    full = λ h. λ i. close t (sym ea i) (sym ep i);
    cut = λ h k. absurd (omega arith);
  }

  part-agreed : {A B : Type 0} {close : List ℕ → B → ℕ → Got B} {ws vs : List ℕ} {p m q : ℕ} {a : A} {b : B} (h : Got A) (l : A → ℕ → Got B)
      → Agreed s t unasked ws p a m h → Agreed s t close vs m b q (l a m) → Agreed s t close (ws ++ vs) p b q (part h l)
  part-agreed {ws = ws} {vs} {p} {m} {q} h l x y =
      let least : m ≤ q = subst (λ (n : ℕ). m ≤ n) (sym y.end) (past-least vs m) in
      record {
        end = y.end ∙ ap (past vs) x.end ∙ sym (past-both ws vs p);
        inside = λ k. y.inside (x.inside k);
        closed = y.closed;
        full = λ k. part-ok h l (x.full (omega arith)) (y.full k);
        cut = λ i k. go (ltb (length t) m) refl i k;
      }
    where
      go : (c : Bool) → ltb (length t) m ≡ c → p ≤ length t → length t < q → part h l ≡ bad 2 (field_at (ws ++ vs) p (length t))
      go true c i k =
          let z = ltb-true (length t) m c in
          stops h l (x.cut i z) ∙ ap (bad 2) (sym (field-first ws vs p (length t) (subst (λ (n : ℕ). length t < n) x.end z)))
      go false c i k =
          let z = ltb-false (length t) m c in
          let f = field-later ws vs p (length t) (subst (λ (n : ℕ). n ≤ length t) x.end z) in
          part-ok h l (x.full z) (y.cut z k) ∙ ap (bad 2) (ap (λ (n : ℕ). field_at vs n (length t)) x.end ∙ sym f)

  module _ {A : Type 0} {fields : A → List ℕ} {before : List ℕ} {p : ℕ} where
    pub got-agree : (a : A) → fields a ≡ before → Agree s t unasked fields before p (got a p) (got a p)
    got-agree a f = record { accepted = λ {a = b} e. let ea : b ≡ a = cc in ([], ap fields ea ∙ f ∙ sym (append-nil before), none-agreed unasked a e ea (cc)) }

    pub ended-agree : (a : A) → fields a ≡ before → Agree s t ended fields before p (ended s a p) (ended t a p)
    ended-agree a f = record { accepted = λ e. let w = ended-back s a p e in ([], ap fields w.0 ∙ f ∙ sym (append-nil before), none-agreed ended a e w.0 w.1) }

    pub bad-agree : {close : List ℕ → A → ℕ → Got A} {n o : ℕ} {h : Got A} → Agree s t close fields before p (bad n o) h
    bad-agree = record { accepted = λ e. absurd (let z : ◌≡◌ {A = ℕ} 0 1 = cc in omega arith) }

    pub cond-agree : {close : List ℕ → A → ℕ → Got A} (b : Bool) {g g' h h' : Got A} → Agree s t close fields before p g h → Agree s t close fields before p g' h'
        → Agree s t close fields before p (cond b g g') (cond b h h')
    cond-agree true x y = x
    cond-agree false x y = y

    -- the last part, whose own fields are known
    pub last-agree : {close : List ℕ → A → ℕ → Got A} {own : A → List ℕ} {g h : Got A} → ((a : A) → fields a ≡ before ++ own a) → Agree s t close own [] p g h
        → Agree s t close fields before p g h
    last-agree f x = record { accepted = λ {a} e. let y = x.accepted e in (y.0, f a ∙ ap (λ (l : List ℕ). before ++ l) y.1, y.2) }

    pub part-agree : {B : Type 0} {close : List ℕ → A → ℕ → Got A} {own : B → List ℕ} {g h : Got B} {k l : B → ℕ → Got A} → Agree s t unasked own [] p g h
        → ((b : B) (m : ℕ) → Agree s t close fields (before ++ own b) m (k b m) (l b m)) → Agree s t close fields before p (part g k) (part h l)
    part-agree {own = own} {g} {h} {k} {l} x y = record {
      accepted = λ e.
          let w = went g k e in
          let u = x.accepted w.first in
          let v = (y w.value w.after).accepted w.then in (
            u.0 ++ v.0,
            v.1 ∙ append_assoc before (own w.value) v.0 ∙ ap (λ (o : List ℕ). before ++ (o ++ v.0)) u.1,
            part-agreed h l u.2 v.2,
          );
    }

  pub many-agree : {S A : Type 0} {fields : A → List ℕ} {step step' : S → ℕ → Got A} (next : S → A → S)
      → ((st : S) (p : ℕ) → Agree s t unasked fields [] p (step st p) (step' st p))
      → (k : ℕ) (st : S) (p : ℕ) → Agree s t unasked (flat_map fields) [] p (many step next k st p) (many step' next k st p)
  unfolding many flat_map
  many-agree next x zero st p = got-agree [] refl
  many-agree next x (suc k) st p = part-agree (x st p) (λ a p. part-agree (many-agree next x k (next st a) p) (λ rest p. got-agree (a ∷ rest) refl))

  module _ (same : Same s t) where
    pub whole_agree : (w p : ℕ) → Agree s t unasked (λ _. w ∷ []) [] p (whole w s p) (whole w t p)
    unfolding past field_at
    whole_agree w p = record {
      accepted = λ {a = v} e.
          let x = whole_back w s p e in
          let inside = x.inside in
          let next = x.next in
          let value : p + w ≤ length t → be w t p ≡ v = λ h. be-same w t s p p (λ i k. same.byte (p + i) (omega arith) (omega arith)) ∙ sym x.value in (
            w ∷ [],
            refl,
            record {
              end = next;
              inside = λ h. omega arith;
              closed = refl;
              full = λ h. whole_got w t p (omega arith) ∙ (λ i. got (value (omega arith) i) (sym next i));
              cut = λ h k. whole_cut w t p (omega arith) ∙ ap (bad 2) (rw (lt-ltb (length t) (p + w) (omega arith)));
            },
          );
    }

    pub field-agree : {A : Type 0} {close : List ℕ → A → ℕ → Got A} {fields : A → List ℕ} {before : List ℕ} {p : ℕ} (w n : ℕ) (rule : ℕ → Bool) {k l : ℕ → ℕ → Got A}
        → ((v m : ℕ) → Agree s t close fields (before ++ (w ∷ [])) m (k v m) (l v m)) → Agree s t close fields before p (field w n rule s p k) (field w n rule t p l)
    unfolding field
    field-agree {p = p} w n rule x = part-agree (whole_agree w p) (λ v m. cond-agree (rule v) (x v m) bad-agree)

    pub mark-agree : (m : List ℕ) (p : ℕ) → Agree s t unasked (λ _. 2 ∷ []) [] p (mark m s p) (mark m t p)
    unfolding mark
    mark-agree m p = field-agree 2 1 (λ v. eqb v (be 2 m 0)) (λ v q. got-agree v refl)

-- ---- a file

module _ {A : Type 0} (fields : A → List ℕ) (r : List ℕ → Got A) (agree : (s t : List ℕ) → Same s t → Agree s t ended fields [] 0 (r s) (r t)) (f : List ℕ) {a : A} {q : ℕ} (e : r f ≡ got a q) where
  pub file-cut : (k : ℕ) → k < length f → r (take k f) ≡ bad 2 (field_at (fields a) 0 k)
  file-cut k h =
      let l : length (take k f) ≡ k = length-take-le k f (omega arith) in
      let x = (agree f (take k f) (record { byte = λ i _ j. get_or-take k f i 0 (omega arith) })).accepted e in
      let w = (ended-back f a q x.2.closed).2 in
      x.2.cut (omega arith) (omega arith) ∙ (λ i. bad 2 (field_at (sym x.1 i) 0 (l i)))

  pub file-extended : (b : ℕ) (more : List ℕ) → r (f ++ (b ∷ more)) ≡ bad 7 (length f)
  file-extended b more =
      let t = f ++ (b ∷ more) in
      let l = length-append f (b ∷ more) in
      let x = (agree f t (record { byte = λ i j _. get_or-append f (b ∷ more) 0 i j })).accepted e in
      let w = (ended-back f a q x.2.closed).2 in
      let i = x.2.inside (omega arith) in
      x.2.full (omega arith) ∙ ended-bad t a q (omega arith) ∙ ap (bad 7) (omega arith)
