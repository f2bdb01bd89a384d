-- An instance that is written is read back, and what is read was written so: value by value, entry by entry, on the bytes where they stand.
-- Rests on `At` for the bytes and on `Follows` for the entries; nothing here looks into the graph.
use mathlib.Core.Path.{◌≡◌, refl, ap, sym, ◌∙◌, subst}
use mathlib.Core.Bool.{true, ◌&&◌}
use mathlib.Core.List.{List, [], ◌∷◌, ◌++◌, append_assoc, Memᴰ}
use Prim.Native.Nat.{ℕ, zero, suc, ◌+◌, ◌≤◌, ◌<◌, ◌^◌}
use native.Mathlib.Omega.{arith}
use native.Mathlib.Nat.{add-zero}
use borrow.Author.Tests.{leb-true, ltb-true}
use lib.Dec.{eqb, ltb}
use lib.IntN.{ℤ, pos, negsuc}
use lib.Signed.{le_z, mag}
use lib.ListN.{length, length-append}
use mir.Val.{SFits}
use mir.Syntax.{w32}
use Rattle.fields.specs.Reading.{got, part, be, whole, mark, signed}
use Rattle.fields.specs.Writing.{spell, unsigned}
use Rattle.fields.proofs.Tests.{and-true, never}
use Rattle.fields.proofs.Bytes.{Bytes, be-below, spell-length}
use Rattle.fields.proofs.Reading.{part-ok, whole_got, ended-ok}
use Rattle.fields.proofs.Signed.{signed-unsigned, unsigned_signed, unsigned-below}
use Rattle.fields.proofs.Back.{went, chosen, field_back, any-back, after-mark, ended-back}
use Rattle.schema.specs.Schema.{Node, node_at}
use Rattle.schema.specs.declared.Variable.{Variable}
use Rattle.schema.specs.declared.Variable.TheVariants.{Number, Listed}
use Rattle.schema.proofs.Sound.{SoundVariable, SoundVariables}
use Rattle.instances.specs.Instance.{Entry, right_choice, in_domain}
use Rattle.instances.specs.File.{IH, IN, due, none_below, lowest_due, value_width, value_of, value, values, entry_of, entry, entries, instance, encode_value, encode_values, encode_entry, encode_entries, encode}
use Rattle.instances.proofs.IsInstance.{in_domains, RightEntry}
use Rattle.fields.proofs.At.{At, at-parts, at_both, at-inside, at_all, at_self, spell-read, read-spell, field_at, mark-at, at_mark}
use Rattle.instances.proofs.Lengths.{entry_length}
use Rattle.instances.proofs.Valid.{Follows, none_left, and_then}

IH-letters : spell 2 (be 2 IH 0) ≡ IH
unfolding spell be
IH-letters = refl

IN-letters : spell 2 (be 2 IN 0) ≡ IN
unfolding spell be
IN-letters = refl

-- a number between two that fit fits
pub between : (lo hi x : ℤ) → SFits w32 lo → SFits w32 hi → le_z lo x && le_z x hi ≡ true → SFits w32 x
between lo hi x a b e = go lo hi x a.sfits b.sfits (and-true (le_z lo x) (le_z x hi) e)
  where
    go : (lo hi x : ℤ) → mag lo < 2 ^ 31 → mag hi < 2 ^ 31 → (le_z lo x ≡ true) × (le_z x hi ≡ true) → SFits w32 x
    go lo (pos h) (pos x) a b e = let z = leb-true x h e.1 in record { sfits = omega arith }
    go lo (negsuc h) (pos x) a b e = never e.1
    go (pos l) hi (negsuc x) a b e = never e.0
    go (negsuc l) hi (negsuc x) a b e = let z = leb-true x l e.0 in record { sfits = omega arith }

-- ---- written, then read

module _ (s : List ℕ) where
  value_read : (v : Variable) (p : ℕ) (x : ℤ) → SoundVariable v → in_domain v x ≡ true → At s p (encode_value v x) → value s v p ≡ got x (p + length (encode_value v x))
  unfolding value value_width value_of in_domain encode_value
  value_read (Number lo hi) p x f d h =
      let z = between lo hi x f.0 f.1 d in
      let w = signed-unsigned x z in
      rw (spell-length 4 (unsigned x)) (field_at 4 17 (λ u. le_z lo (signed u) && le_z (signed u) hi) s p (λ u p. got (signed u) p) (unsigned x) (unsigned-below x z) h (rw w d) (rw w))
  value_read (Listed size) p (pos x) f d h =
      let z = ltb-true x size d in
      let y = f.1 in
      rw (spell-length 1 x) (field_at 1 17 (λ u. ltb u size) s p (λ u p. got (pos u) p) x (omega arith) h d refl)
  value_read (Listed size) p (negsuc x) f d h = never d

  values-read : (vs : List Variable) (p : ℕ) (xs : List ℤ) → SoundVariables vs → in_domains vs xs ≡ true → At s p (encode_values vs xs)
      → values s vs p ≡ got xs (p + length (encode_values vs xs))
  unfolding values in_domains encode_values part
  values-read [] p [] f d h = ap (got []) (sym (add-zero p))
  values-read [] p (x ∷ xs) f d h = never d
  values-read (v ∷ vs) p [] f d h = never d
  values-read (v ∷ vs) p (x ∷ xs) f d h =
      let t = and-true (in_domain v x) (in_domains vs xs) d in
      let a = encode_value v x in
      let k = at-parts s p a (encode_values vs xs) refl h in
      let z : p + length a + length (encode_values vs xs) ≡ p + length (a ++ encode_values vs xs) = omega (arith, length-append a (encode_values vs xs)) in
      rw (value_read v p x f.0 t.0 k.0, values-read vs (p + length a) xs f.1 t.1 k.1) (ap (got (x ∷ xs)) z)

-- the fields of an entry before its values are bytes
pub record Small (e : Entry) : Type 0 where
  pub node-byte : e.node < 256
  pub choice-byte : e.choice < 256

pub entry-nest : (g : List Node) (e : Entry)
    → encode_entry g e ≡ IN ++ (spell 1 e.node ++ (spell 1 e.choice ++ encode_values (node_at g e.node).variables e.values))
unfolding encode_entry
entry-nest g e = simp append_assoc

module _ (g : List Node) (fit : (n : ℕ) → SoundVariables (node_at g n).variables) (s : List ℕ) where
  entry_read : (es : List Entry) (e : Entry) (p : ℕ) → Small e → lowest_due g es e.node ≡ true → RightEntry g e → At s p (encode_entry g e)
      → entry s g es p ≡ got e (p + length (encode_entry g e))
  unfolding entry entry_of
  entry_read es e p small l c h =
      let vs = (node_at g e.node).variables in
      let nb = spell 1 e.node in
      let cb = spell 1 e.choice in
      let vb = encode_values vs e.values in
      let a = at-parts s p IN (nb ++ (cb ++ vb)) refl (subst (At s p) (entry-nest g e) h) in
      let b = at-parts s (p + 2) nb (cb ++ vb) (spell-length 1 e.node) a.1 in
      let d = at-parts s (p + 2 + 1) cb vb (spell-length 1 e.choice) b.1 in
      let y : p + 2 + 1 + 1 + length vb ≡ p + length (encode_entry g e) = omega (arith, entry_length g e) in
      part-ok (mark IN s p) _ (mark-at IN s p IN-letters a.0)
      (field_at 1 15 (lowest_due g es) s (p + 2) _ e.node small.node-byte b.0 l
      (field_at 1 16 (right_choice (node_at g e.node)) s (p + 2 + 1) _ e.choice small.choice-byte d.0 c.right-choice
      (part-ok (values s vs (p + 2 + 1 + 1)) _ (values-read s vs (p + 2 + 1 + 1) e.values (fit e.node) c.in-domains d.1) (ap (got e) y))))

  entries-read : {es rest : List Entry} (p : ℕ) → Follows g es rest → ((d : Entry) → Memᴰ d rest → Small d) → At s p (encode_entries g rest)
      → entries s g (length rest) es p ≡ got rest (p + length (encode_entries g rest))
  unfolding entries encode_entries part
  entries-read p (none_left t) small h = rw t (ap (got []) (sym (add-zero p)))
  entries-read {es} p (and_then e {rest} l c f) small h =
      let a = encode_entry g e in
      let k = at-parts s p a (encode_entries g rest) refl h in
      let r = entry_read es e p (small e (Memᴰ.head refl)) l c k.0 in
      let q = entries-read (p + length a) f (λ d m. small d (Memᴰ.tail m)) k.1 in
      let z : p + length a + length (encode_entries g rest) ≡ p + length (a ++ encode_entries g rest) = omega (arith, length-append a (encode_entries g rest)) in
      rw (r, q) (ap (got (e ∷ rest)) z)

pub encode-nest : (g : List Node) (i : List Entry) → encode g i ≡ IH ++ (spell 1 (length i) ++ encode_entries g i)
unfolding encode
encode-nest g i = append_assoc IH (spell 1 (length i)) (encode_entries g i)

pub follows-read : (g : List Node) → ((n : ℕ) → SoundVariables (node_at g n).variables) → (i : List Entry) → Follows g [] i
    → ((d : Entry) → Memᴰ d i → Small d) → length i < 256 → instance g (encode g i) ≡ got i (length (encode g i))
unfolding instance
follows-read g fit i f small few =
    let s = encode g i in
    let mb = spell 1 (length i) in
    let eb = encode_entries g i in
    let nest : s ≡ IH ++ (mb ++ eb) = encode-nest g i in
    let a = at-parts s 0 IH (mb ++ eb) refl (subst (At s 0) nest (at_self s)) in
    let b = at-parts s 2 mb eb (spell-length 1 (length i)) a.1 in
    let y : 3 + length eb ≡ length s = omega (arith, ap length nest, length-append mb eb, spell-length 1 (length i)) in
    part-ok (mark IH s 0) _ (mark-at IH s 0 IH-letters a.0)
    (part-ok (whole 1 s 2) _ (whole_got 1 s 2 (omega arith) ∙ ap (λ (m : ℕ). got m 3) (spell-read 1 (length i) s 2 few b.0))
    (part-ok (entries s g (length i) [] 3) _ (entries-read g fit s 3 f small b.1)
    (ended-ok s i (3 + length eb) (omega arith) ∙ ap (got i) y)))

-- ---- read, then written

-- what an entry that was read has met, field by field
pub record EntryTook (s : List ℕ) (g : List Node) (es : List Entry) (p : ℕ) (e : Entry) (q : ℕ) : Type 0 where
  pub mark-inside : p + 2 ≤ length s
  pub letters : eqb (be 2 s p) (be 2 IN 0) ≡ true
  pub node-inside : p + 2 + 1 ≤ length s
  pub node-is : be 1 s (p + 2) ≡ e.node
  pub lowest : lowest_due g es e.node ≡ true
  pub choice-inside : p + 2 + 1 + 1 ≤ length s
  pub choice-is : be 1 s (p + 2 + 1) ≡ e.choice
  pub right : right_choice (node_at g e.node) e.choice ≡ true
  pub rest : values s (node_at g e.node).variables (p + 2 + 1 + 1) ≡ got e.values q

pub entry-took : (s : List ℕ) (g : List Node) (es : List Entry) (p : ℕ) {e : Entry} {q : ℕ} → entry s g es p ≡ got e q → EntryTook s g es p e q
unfolding entry entry_of
entry-took s g es p {e} {q} h =
    let m = after-mark IN s p _ h in
    let n = field_back 1 15 (lowest_due g es) s (p + 2) _ m.then in
    let nn = be 1 s (p + 2) in
    let c = field_back 1 16 (right_choice (node_at g nn)) s (p + 2 + 1) _ n.then in
    let v = went (values s (node_at g nn).variables (p + 2 + 1 + 1)) _ c.then in
    let t = v.then in
    let made : ◌≡◌ {A = Entry} (record { node = nn; choice = be 1 s (p + 2 + 1); values = v.value }) e = cc in
    let y : v.after ≡ q = cc in
    subst (λ (d : Entry). EntryTook s g es p d q) made
    (record {
      mark-inside = m.inside;
      letters = m.letters;
      node-inside = n.inside;
      node-is = refl;
      lowest = n.rule-met;
      choice-inside = c.inside;
      choice-is = refl;
      right = c.rule-met;
      rest = v.first ∙ ap (got v.value) y;
    })

-- bs stand from p to q
record Span (s : List ℕ) (p : ℕ) (bs : List ℕ) (q : ℕ) : Type 0 where
  there : At s p bs
  next : q ≡ p + length bs

module _ (s : List ℕ) (f : Bytes s) where
  span_none : {p q : ℕ} → p ≤ length s → q ≡ p → Span s p [] q
  span_none h e = record { there = h; next = omega arith }

  span-both : {p q r : ℕ} (a b : List ℕ) → Span s p a q → Span s q b r → Span s p (a ++ b) r
  span-both {p} {q} {r} a b h k =
      let u = h.next in
      let v = k.next in
      record { there = at_both s p a b h.there (subst (λ (z : ℕ). At s z b) u k.there); next = omega (arith, length-append a b) }

  -- the field that was read at p
  span-field : (w p : ℕ) {x q : ℕ} → p + w ≤ length s → be w s p ≡ x → p + w ≡ q → Span s p (spell w x) q
  span-field w p {x} {q} i e n = record {
    there = subst (λ (u : ℕ). At s p (spell w u)) e (read-spell w s p f i);
    next = omega (arith, spell-length w x);
  }

  value-back : (v : Variable) (p : ℕ) {x : ℤ} {q : ℕ} → value s v p ≡ got x q → Span s p (encode_value v x) q × (in_domain v x ≡ true)
  unfolding value value_width value_of encode_value
  value-back (Number lo hi) p {x} {q} e =
      let t = field_back 4 17 (λ u. in_domain (Number lo hi) (signed u)) s p (λ u p. got (signed u) p) e in
      let h = t.then in
      let ex : signed (be 4 s p) ≡ x = cc in
      (span-field 4 p t.inside (sym (unsigned_signed (be 4 s p) (be-below 4 s p f)) ∙ ap unsigned ex) (cc), subst (λ (y : ℤ). in_domain (Number lo hi) y ≡ true) ex t.rule-met)
  value-back (Listed size) p {x} {q} e =
      let t = field_back 1 17 (λ u. in_domain (Listed size) (pos u)) s p (λ u p. got (pos u) p) e in
      let h = t.then in
      let ex : pos (be 1 s p) ≡ x = cc in
      (span-field 1 p t.inside (ap mag ex) (cc), subst (λ (y : ℤ). in_domain (Listed size) y ≡ true) ex t.rule-met)

  values-back : (vs : List Variable) (p : ℕ) {xs : List ℤ} {q : ℕ} → p ≤ length s → values s vs p ≡ got xs q
      → Span s p (encode_values vs xs) q × (in_domains vs xs ≡ true)
  unfolding values part encode_values in_domains
  values-back [] p {xs} {q} i e =
      let a : [] ≡ xs = cc in
      subst (λ (l : List ℤ). Span s p (encode_values [] l) q × (in_domains [] l ≡ true)) a (span_none i (cc), refl)
  values-back (v ∷ vs) p {xs} {q} i e =
      let a = went (value s v p) _ e in
      let b = went (values s vs a.after) _ a.then in
      let t = b.then in
      let w : a.value ∷ b.value ≡ xs = cc in
      let y : b.after ≡ q = cc in
      let h = value-back v p a.first in
      let n = h.0.next in
      let k = values-back vs a.after (omega (arith, at-inside s p (encode_value v a.value) h.0.there)) (b.first ∙ ap (got b.value) y) in
      subst (λ (l : List ℤ). Span s p (encode_values (v ∷ vs) l) q × (in_domains (v ∷ vs) l ≡ true)) w (
        span-both (encode_value v a.value) (encode_values vs b.value) h.0 k.0,
        rw h.1 k.1,
      )

  module _ (g : List Node) where
    entry-span : (es : List Entry) (p : ℕ) {e : Entry} {q : ℕ} → EntryTook s g es p e q → Span s p (encode_entry g e) q × RightEntry g e
    unfolding encode_entry
    entry-span es p {e} {q} h =
        let nb = spell 1 e.node in
        let cb = spell 1 e.choice in
        let vs = (node_at g e.node).variables in
        let b = values-back vs (p + 2 + 1 + 1) h.choice-inside h.rest in
        let sm : Span s p IN (p + 2) = record { there = at_mark IN s p IN-letters f h.mark-inside h.letters; next = refl } in
        let sn = span-field 1 (p + 2) h.node-inside h.node-is refl in
        let sc = span-field 1 (p + 2 + 1) h.choice-inside h.choice-is refl in
        (span-both (IN ++ nb ++ cb) (encode_values vs e.values) (span-both (IN ++ nb) cb (span-both IN nb sm sn) sc) b.0, record { right-choice = h.right; in-domains = b.1 })

    record EntriesBack (es : List Entry) (m p : ℕ) (rest : List Entry) (q : ℕ) : Type 0 where
      span : Span s p (encode_entries g rest) q
      follows : Follows g es rest
      count : length rest ≡ m

    entries-back : (m : ℕ) (es : List Entry) (p : ℕ) {rest : List Entry} {q : ℕ} → p ≤ length s → entries s g m es p ≡ got rest q → EntriesBack es m p rest q
    unfolding entries part encode_entries
    entries-back zero es p {rest} {q} i e =
        let h = chosen (none_below (due g es) (length g)) (got [] p) 15 2 e in
        let k = h.1 in
        let w : [] ≡ rest = cc in
        subst (λ (l : List Entry). EntriesBack es 0 p l q) w (record { span = span_none i (cc); follows = none_left h.0; count = refl })
    entries-back (suc m) es p {rest} {q} i e =
        let a = went (entry s g es p) _ e in
        let b = went (entries s g m (a.value ∷ es) a.after) _ a.then in
        let t = b.then in
        let w : a.value ∷ b.value ≡ rest = cc in
        let y : b.after ≡ q = cc in
        let o = entry-took s g es p a.first in
        let h = entry-span es p o in
        let n = h.0.next in
        let k = entries-back m (a.value ∷ es) a.after (omega (arith, at-inside s p (encode_entry g a.value) h.0.there)) (b.first ∙ ap (got b.value) y) in
        subst (λ (l : List Entry). EntriesBack es (suc m) p l q) w
        (record {
          span = span-both (encode_entry g a.value) (encode_entries g b.value) h.0 k.span;
          follows = and_then a.value o.lowest h.1 k.follows;
          count = ap suc k.count;
        })

    -- a file that was read: its entries follow one another, and they make the file
    pub record ReadBack (i : List Entry) (q : ℕ) : Type 0 where
      pub same : encode g i ≡ s
      pub follows : Follows g [] i
      pub end : q ≡ length s

    pub read_back : {i : List Entry} {q : ℕ} → instance g s ≡ got i q → ReadBack i q
    unfolding instance encode
    read_back {i} {q} h =
        let m = after-mark IH s 0 _ h in
        let n = any-back 1 s 2 _ m.then in
        let nn = be 1 s 2 in
        let r = went (entries s g nn [] 3) _ n.then in
        let t = ended-back s r.value r.after r.then in
        let es = r.value in
        let k = entries-back nn [] 3 n.inside r.first in
        let sm : Span s 0 IH 2 = record { there = at_mark IH s 0 IH-letters f m.inside m.letters; next = refl } in
        let sn = span-field 1 2 n.inside (sym k.count) refl in
        let all = span-both (IH ++ spell 1 (length es)) (encode_entries g es) (span-both IH (spell 1 (length es)) sm sn) k.span in
        let u = t.1 in
        let v = t.2 in
        let z = at-inside s 0 (IH ++ spell 1 (length es) ++ encode_entries g es) all.there in
        let l : length s ≡ length (IH ++ spell 1 (length es) ++ encode_entries g es) = omega (arith, all.next) in
        subst (λ (j : List Entry). ReadBack j q) (sym t.0)
        (record { same = at_all s (encode g es) l all.there; follows = k.follows; end = omega (arith, all.next) })
