-- The theorems on the sheet: 55 bytes for each entry, each line says its entry, and so the sheet says the instance.
-- Rests on what decimal digits say, on the widths of the columns, and on what the entries of an instance hold.
use mathlib.Core.Path.{◌≡◌, refl, ap, sym, ◌∙◌}
use mathlib.Core.Bool.{Bool, true, false, cond, ◌||◌}
use mathlib.Core.List.{List, [], ◌∷◌, ◌++◌, append_assoc, Memᴰ}
use mathlib.Core.Option.{Option, none, some, bind, or_else, some-injective}
use Prim.Native.Nat.{ℕ, zero, suc, ◌+◌, ◌*◌, ◌-◌, ◌/◌, ◌≤◌, ◌<◌}
use native.Mathlib.Omega.{arith}
use native.Mathlib.Numerals.{add-one}
use native.Mathlib.Decide.{dec_lt}
use borrow.Author.Tests.{leb-true, ltb-true, lt-ltb, eq-eqb, ne_eqb, eqb-true, eqb-false}
use lib.Dec.{leb, ltb, eqb}
use lib.IntN.{ℤ, pos, negsuc}
use lib.ListN.{length, get_or, take, drop, get_elem?, length-append}
use lib.Seq.{take_at, drop_at, drop-nil, drop-append-add}
use mir.Syntax.{w32}
use mir.Val.{SFits}
use Rattle.fields.proofs.Tests.{and_yes, and-true, or_right, never}
use Rattle.decimals.specs.Decimal.{decimal}
use Rattle.decimals.proofs.Decimal.{length-one, decimal-some, short-byte}
use Rattle.decimals.proofs.ReadBack.{is_digit, every, decimal-back, decimal-digits, decimal-first}
use Rattle.schema.specs.Schema.{Node, node_at}
use Rattle.schema.specs.declared.Variable.{Variable}
use Rattle.schema.specs.declared.Variable.TheVariants.{Number, Listed}
use Rattle.schema.proofs.Sound.{SoundVariable, SoundVariables, Sound}
use Rattle.instances.specs.Instance.{Entry, in_domain}
use Rattle.instances.proofs.IsInstance.{in_domains, IsInstance}
use Rattle.instances.proofs.Valid.{few-variables, sound-variables}
use Rattle.instances.proofs.Trip.{between}
use Rattle.instances.proofs.RoundTrip.{node-below, small}
use Rattle.columns.specs.Sheet.{spaces, right_aligned, signed_decimal, choice_column, value_columns, sheet_line, sheet}
use Rattle.columns.proofs.Lengths.{right-length, Narrow, not_negative, negative, value-short, NarrowAll, none as no_more, more, node-short, no-values, Printable, line-length}
use Rattle.columns.proofs.ReadBack.{natural_read, below_zero, literal, integer_read, choice_read, unpadded, aligned, values_read, at_end, line_read, lines_read, sheet_read}

-- ---- numbers

first-digit : (cs : List ℕ) → every is_digit cs ≡ true → 1 ≤ length cs → 48 ≤ get_or cs 0 0
unfolding every is_digit
first-digit [] e h = absurd (omega arith)
first-digit (c ∷ cs) e h = leb-true 48 c (and-true (leb 48 c) (leb c 57) (and-true (is_digit c) (every is_digit cs) e).0).0

decimal-above : (x : ℕ) → 48 ≤ get_or (decimal x) 0 0
decimal-above x = first-digit (decimal x) (decimal-digits x) (decimal-some x)

natural-back : (x : ℕ) → natural_read (decimal x) ≡ some x
unfolding natural_read
natural-back x = rw (and_yes (decimal-digits x) (go (dec_lt x 10))) (ap {B = Option ℕ} some (decimal-back x))
  where
    go : Dec (x < 10) → (eqb (length (decimal x)) 1 || ltb 48 (get_or (decimal x) 0 0)) ≡ true
    go (yes h) = rw (length-one x h)
    go (no h) =
        let z : get_or (decimal x) 0 0 ≡ 48 → ⊥ = λ e. omega (arith, decimal-first x e) in
        or_right (eqb (length (decimal x)) 1) _ (lt-ltb 48 (get_or (decimal x) 0 0) (omega (arith, decimal-above x)))

minus-none : (cs : List ℕ) → natural_read (45 ∷ cs) ≡ none
unfolding natural_read every is_digit
minus-none cs = refl

integer-back : (x : ℤ) → integer_read (signed_decimal x) ≡ some x
unfolding integer_read signed_decimal or_else literal bind below_zero
integer-back (pos x) = rw (natural-back x)
integer-back (negsuc x) = rw (minus-none (decimal (x + 1)), natural-back (x + 1), add-one x)

choice-back : (c : ℕ) → (c ≡ 255 → ⊥) → choice_read (decimal c) ≡ some c
unfolding choice_read or_else bind
choice-back c h = rw (natural-back c, ne_eqb c 255 h)

dashes-back : choice_read (45 ∷ 45 ∷ 45 ∷ []) ≡ some 255
unfolding choice_read or_else bind literal at_end natural_read every is_digit
dashes-back = refl

-- ---- columns

unpadded-spaces : (k : ℕ) (text : List ℕ) → (get_or text 0 0 ≡ 32 → ⊥) → unpadded (spaces k ++ text) ≡ text
unfolding unpadded
unpadded-spaces zero [] h = refl
unpadded-spaces zero (c ∷ cs) h = rw (ne_eqb c 32 h)
unpadded-spaces (suc k) text h = unpadded-spaces k text h

-- a text that is short enough and begins with no space, right-aligned
aligned-back : {A B : Type 0} (w : ℕ) (of : List ℕ → Option A) (text : List ℕ) {x : A} → length text ≤ w → (get_or text 0 0 ≡ 32 → ⊥) → of text ≡ some x
    → (rest : List ℕ) (k : A → List ℕ → Option B) → aligned w of (right_aligned w text ++ rest) k ≡ k x rest
unfolding aligned right_aligned bind
aligned-back w of text h f e rest k =
    let l = right-length w text h in
    rw (take_at (right_aligned w text) rest w l, drop_at (right_aligned w text) rest w l, unpadded-spaces (w - length text) text f, e)

choice-column-back : {A : Type 0} (c : ℕ) → c < 256 → (rest : List ℕ) (k : ℕ → List ℕ → Option A) → aligned 3 choice_read (choice_column c ++ rest) k ≡ k c rest
unfolding choice_column right_aligned
choice-column-back {A} c h rest k = go (eqb c 255) refl
  where
    go : (t : Bool) → eqb c 255 ≡ t → aligned 3 choice_read (cond t (45 ∷ 45 ∷ 45 ∷ []) (right_aligned 3 (decimal c)) ++ rest) k ≡ k c rest
    go true e = aligned-back 3 choice_read (45 ∷ 45 ∷ 45 ∷ []) (omega arith) (λ z. omega arith) dashes-back rest k ∙ ap (λ (n : ℕ). k n rest) (sym (eqb-true c 255 e))
    go false e = aligned-back 3 choice_read (decimal c) (short-byte c h) (λ z. omega (arith, decimal-above c)) (choice-back c (eqb-false c 255 e)) rest k

literal-back : {A : Type 0} (text rest : List ℕ) (k : List ℕ → Option A) → literal text (text ++ rest) k ≡ k rest
unfolding literal
literal-back [] rest k = refl
literal-back (t ∷ ts) rest k = rw (eq-eqb t t refl) (literal-back ts rest k)

value-first : (x : ℤ) → get_or (signed_decimal x) 0 0 ≡ 32 → ⊥
unfolding signed_decimal
value-first (pos x) e = omega (arith, decimal-above x)
value-first (negsuc x) e = omega arith

-- the columns of a node's values, as many as there are
value-columns-back : {A : Type 0} {xs : List ℤ} → NarrowAll xs → (rest : List ℕ) (k : List ℤ → List ℕ → Option A) → values_read (length xs) (value_columns (length xs) xs ++ rest) k ≡ k xs rest
unfolding values_read value_columns literal
value-columns-back no_more rest k = refl
value-columns-back (more {x} {xs} n ns) rest k =
    let columns = value_columns (length xs) xs in
    rw (append_assoc (right_aligned 11 (signed_decimal x)) columns rest)
    (aligned-back 11 integer_read (signed_decimal x) (value-short n) (value-first x) (integer-back x) (columns ++ rest) _ ∙ value-columns-back ns rest _)

-- and spaces for the rest of k
pub value-columns-rest : (k : ℕ) (xs : List ℤ) → length xs ≤ k → value_columns k xs ≡ value_columns (length xs) xs ++ spaces (12 * (k - length xs))
unfolding value_columns
value-columns-rest k [] h = let z : 12 * k ≡ 12 * (k - 0) = omega arith in no-values k ∙ ap spaces z
value-columns-rest zero (x ∷ xs) h = absurd (omega arith)
value-columns-rest (suc k) (x ∷ xs) h =
    let z : suc k - suc (length xs) ≡ k - length xs = omega arith in
    rw (z, value-columns-rest k xs (omega arith)) (sym (append_assoc (spaces 1 ++ right_aligned 11 (signed_decimal x)) (value_columns (length xs) xs) (spaces (12 * (k - length xs)))))

-- ---- a line

pub line-back : (g : List Node) {e : Entry} → Printable e → length e.values ≡ length (node_at g e.node).variables → line_read g (sheet_line e) ≡ some e
unfolding line_read sheet_line literal at_end
line-back g {e} p h =
    rw (value-columns-rest 4 e.values p.few)
    (simp append_assoc
    (aligned-back 2 natural_read (decimal e.node) (node-short e.node p.node) (λ z. omega (arith, decimal-above e.node)) (natural-back e.node) _ _
    ∙ choice-column-back e.choice p.choice _ _
    ∙ rw (← h) (value-columns-back p.narrow _ _ ∙ literal-back (spaces (12 * (4 - length e.values))) _ _)))

-- ---- the entries of an instance

narrow-fits : (x : ℤ) → SFits w32 x → Narrow x
narrow-fits (pos x) f = not_negative {x = x} (omega (arith, f.sfits))
narrow-fits (negsuc x) f = negative f.sfits

narrow-domain : (v : Variable) (x : ℤ) → SoundVariable v → in_domain v x ≡ true → Narrow x
unfolding in_domain
narrow-domain (Number lo hi) x f d = narrow-fits x (between lo hi x f.0 f.1 d)
narrow-domain (Listed size) (pos x) f d = not_negative {x = x} (omega (arith, ltb-true x size d, f.1))
narrow-domain (Listed size) (negsuc x) f d = never d

narrow-domains : (vs : List Variable) (xs : List ℤ) → SoundVariables vs → in_domains vs xs ≡ true → NarrowAll xs
unfolding in_domains
narrow-domains [] [] f d = no_more
narrow-domains [] (x ∷ xs) f d = never d
narrow-domains (v ∷ vs) [] f d = never d
narrow-domains (v ∷ vs) (x ∷ xs) f d =
    let e = and-true (in_domain v x) (in_domains vs xs) d in
    more (narrow-domain v x f.0 e.0) (narrow-domains vs xs f.1 e.1)

domains-length : (vs : List Variable) (xs : List ℤ) → in_domains vs xs ≡ true → length xs ≡ length vs
unfolding in_domains
domains-length [] [] d = refl
domains-length [] (x ∷ xs) d = never d
domains-length (v ∷ vs) [] d = never d
domains-length (v ∷ vs) (x ∷ xs) d = ap suc (domains-length vs xs (and-true (in_domain v x) (in_domains vs xs) d).1)

module _ (g : List Node) (sound : Sound g) (i : List Entry) (is : IsInstance g i) (e : Entry) (m : Memᴰ e i) where
  pub values-each : length e.values ≡ length (node_at g e.node).variables
  values-each = domains-length (node_at g e.node).variables e.values (is.right e m).in-domains

  pub entry-printable : Printable e
  entry-printable =
      record {
        node = omega (arith, node-below g sound i is e m, sound.few);
        choice = (small g sound i is e m).choice-byte;
        few = omega (arith, values-each, few-variables g sound e.node);
        narrow = narrow-domains (node_at g e.node).variables e.values (sound-variables g sound e.node) (is.right e m).in-domains;
      }

-- ---- the sheet

-- what is promised of the sheet of an instance
pub record SheetReadsBack (g : List Node) (i : List Entry) : Type 0 where
  -- 'the sheet's length follows from the instance alone': 'one line for each entry, 54 bytes and a line feed'
  pub long : length (sheet i) ≡ 55 * length i
  -- 'with the schema each line reads back to its entry', the k-th to the k-th, and there is none after the last
  pub each : (k : ℕ) → line_read g (take 55 (drop (55 * k) (sheet i))) ≡ get_elem? i k
  -- so that the sheet reads back to the instance
  pub whole : sheet_read g (sheet i) ≡ some i

module _ (g : List Node) where
  no_line : line_read g [] ≡ none
  unfolding line_read aligned bind unpadded natural_read every is_digit
  no_line = refl

  back_none : SheetReadsBack g []
  unfolding sheet sheet_read lines_read at_end
  back_none = record { long = refl; each = λ k. ap (λ (l : List ℕ). line_read g (take 55 l)) (drop-nil (55 * k)) ∙ no_line; whole = refl }

  -- one line more, which has 55 bytes and says its entry
  back_more : (e : Entry) {es : List Entry} → length (sheet_line e) ≡ 55 → line_read g (sheet_line e) ≡ some e → SheetReadsBack g es → SheetReadsBack g (e ∷ es)
  unfolding sheet sheet_read lines_read bind
  back_more e {es} l h b = record { long = longer; each = λ k. go k; whole = all }
    where
      longer : length (sheet_line e ++ sheet es) ≡ 55 * suc (length es)
      longer = omega (arith, length-append (sheet_line e) (sheet es), b.long)

      go : (k : ℕ) → line_read g (take 55 (drop (55 * k) (sheet_line e ++ sheet es))) ≡ get_elem? (e ∷ es) k
      go zero = rw (take_at (sheet_line e) (sheet es) 55 l) h
      go (suc k) =
          let z : 55 * suc k ≡ length (sheet_line e) + 55 * k = omega arith in
          rw (z, drop-append-add (sheet_line e) (sheet es) (55 * k)) (b.each k)

      all : lines_read g (length (sheet_line e ++ sheet es) / 55) (sheet_line e ++ sheet es) ≡ some (e ∷ es)
      all =
          let z : length (sheet_line e ++ sheet es) / 55 ≡ suc (length (sheet es) / 55) = omega (arith, length-append (sheet_line e) (sheet es)) in
          rw (z, take_at (sheet_line e) (sheet es) 55 l, h, drop_at (sheet_line e) (sheet es) 55 l, b.whole)

pub reads-back : (g : List Node) → Sound g → (i : List Entry) → IsInstance g i → SheetReadsBack g i
reads-back g sound i is = go i (λ e m. m)
  where
    go : (es : List Entry) → ((e : Entry) → Memᴰ e es → Memᴰ e i) → SheetReadsBack g es
    go [] f = back_none g
    go (e ∷ es) f =
        let m = f e (Memᴰ.head refl) in
        let p = entry-printable g sound i is e m in
        back_more g e (line-length e p) (line-back g p (values-each g sound i is e m)) (go es (λ d n. f d (Memᴰ.tail n)))

-- two instances with one sheet are the same
pub same-sheet : (g : List Node) → Sound g → (i j : List Entry) → IsInstance g i → IsInstance g j → sheet i ≡ sheet j → i ≡ j
same-sheet g sound i j is js e =
    some-injective i j (sym (reads-back g sound i is).whole ∙ ap (sheet_read g) e ∙ (reads-back g sound j js).whole)
