-- The reader takes no text but the layout's: whatever a column's reader takes, the layout writes; so each text that says an entry is its line.
-- Rests on the digits that say a number being its text; no column is cut short, since what follows it never takes an empty rest.
use mathlib.Core.Path.{◌≡◌, refl, ap, sym, ◌∙◌}
use mathlib.Core.Bool.{Bool, true, false, cond, ◌&&◌, ◌||◌}
use mathlib.Core.List.{List, [], ◌∷◌, ◌++◌, append_assoc}
use mathlib.Core.Logic.{◌⊎◌, inl, inr}
use mathlib.Core.Option.{Option, none, some, map, bind, or_else, map-eq-some_iff, bind-eq-some_iff, some-injective, none-ne-some}
use Prim.Native.Nat.{ℕ, zero, suc, ◌*◌, ◌-◌, ◌/◌, ◌≤◌, ◌<◌}
use native.Mathlib.Omega.{arith}
use native.Mathlib.Numerals.{add-one}
use borrow.Author.Tests.{ltb-true, eqb-true}
use lib.Dec.{ltb, eqb}
use lib.IntN.{ℤ, pos, negsuc}
use lib.ListN.{length, get_or, take, drop, length-append, length-replicate, length-drop, take-append-drop}
use lib.Seq.{length-take-le}
use Rattle.fields.proofs.Tests.{and-true, or-true}
use Rattle.decimals.specs.Decimal.{decimal}
use Rattle.decimals.proofs.ReadBack.{number_of, is_digit, every, decimal-exact}
use Rattle.schema.specs.Schema.{Node, node_at}
use Rattle.schema.proofs.Sound.{Sound}
use Rattle.instances.specs.Instance.{Entry}
use Rattle.instances.proofs.Valid.{few-variables}
use Rattle.columns.specs.Sheet.{spaces, right_aligned, signed_decimal, choice_column, value_columns, sheet_line, sheet}
use Rattle.columns.proofs.ReadBack.{natural_read, below_zero, literal, integer_read, choice_read, unpadded, aligned, values_read, at_end, line_read, lines_read, sheet_read}
use Rattle.columns.proofs.RoundTrip.{value-columns-rest}

-- ---- a test, and a second try

if_some : {A : Type 0} (t : Bool) (o : Option A) {x : A} → cond t o none ≡ some x → (t ≡ true) × (o ≡ some x)
if_some true o e = (refl, e)
if_some false o {x} e = absurd (none-ne-some x e)

or_some : {A : Type 0} (o p : Option A) {x : A} → or_else o p ≡ some x → (o ≡ some x) ⊎ (p ≡ some x)
unfolding or_else
or_some none p e = inr e
or_some (some x) p e = inl e

-- ---- what stands in front

-- two texts in front, one after the other
both-front : (a b rest : List ℕ) {mid cs : List ℕ} → b ++ rest ≡ mid → a ++ mid ≡ cs → a ++ b ++ rest ≡ cs
both-front a b rest e h = append_assoc a b rest ∙ ap (λ (l : List ℕ). a ++ l) e ∙ h

-- this text stands in front, and k says x of the rest
record Front {A : Type 0} (text cs : List ℕ) (k : List ℕ → Option A) (x : A) : Type 0 where
  rest : List ℕ
  whole : text ++ rest ≡ cs
  says : k rest ≡ some x

literal-exact : {A : Type 0} (text cs : List ℕ) (k : List ℕ → Option A) {x : A} → literal text cs k ≡ some x → Front text cs k x
unfolding literal
literal-exact [] cs k e = record { rest = cs; whole = refl; says = e }
literal-exact (t ∷ ts) [] k {x} e = absurd (none-ne-some x e)
literal-exact (t ∷ ts) (c ∷ cs) k e =
    let z = if_some (eqb c t) (literal ts cs k) e in
    let f = literal-exact ts cs k z.1 in
    record { rest = f.rest; whole = cc (eqb-true c t z.0); says = f.says }

-- none stands in front of an empty text
literal-none : {A : Type 0} (text : List ℕ) (k : List ℕ → Option A) → k [] ≡ none → literal text [] k ≡ none
unfolding literal
literal-none [] k e = e
literal-none (t ∷ ts) k e = refl

end-exact : {A : Type 0} (cs : List ℕ) (x : A) {y : A} → at_end cs x ≡ some y → ([] ≡ cs) × (x ≡ y)
unfolding at_end
end-exact [] x {y} e = (refl, some-injective x y e)
end-exact (c ∷ cs) x {y} e = absurd (none-ne-some y e)

-- ---- what a text says

natural-exact : (cs : List ℕ) {x : ℕ} → natural_read cs ≡ some x → decimal x ≡ cs
unfolding natural_read
natural-exact cs {x} e =
    let single = eqb (length cs) 1 in
    let above = ltb 48 (get_or cs 0 0) in
    let z = if_some (every is_digit cs && (single || above)) (some (number_of cs)) e in
    let d = and-true (every is_digit cs) (single || above) z.0 in
    ap decimal (sym (some-injective (number_of cs) x z.1)) ∙ decimal-exact cs d.0 (go (or-true single above d.1))
  where
    go : (eqb (length cs) 1 ≡ true) ⊎ (ltb 48 (get_or cs 0 0) ≡ true) → (length cs ≡ 1) ⊎ (48 < get_or cs 0 0)
    go (inl h) = inl (eqb-true (length cs) 1 h)
    go (inr h) = inr (ltb-true 48 (get_or cs 0 0) h)

below-exact : (n : ℕ) {x : ℤ} → below_zero n ≡ some x → signed_decimal x ≡ 45 ∷ decimal n
unfolding below_zero signed_decimal
below-exact zero {x} e = absurd (none-ne-some x e)
below-exact (suc n) {x} e = ap signed_decimal (sym (some-injective (negsuc n) x e)) ∙ ap (λ (m : ℕ). 45 ∷ decimal m) (add-one n)

integer-exact : (cs : List ℕ) {x : ℤ} → integer_read cs ≡ some x → signed_decimal x ≡ cs
unfolding integer_read signed_decimal
integer-exact cs {x} e = go (or_some (map pos (natural_read cs)) _ e)
  where
    go : (map pos (natural_read cs) ≡ some x) ⊎ (literal (45 ∷ []) cs (λ cs. bind (natural_read cs) below_zero) ≡ some x) → signed_decimal x ≡ cs
    go (inl h) =
        let n = (map-eq-some_iff pos (natural_read cs)).0 h in
        ap signed_decimal (sym n.2) ∙ natural-exact cs n.1
    go (inr h) =
        let f = literal-exact (45 ∷ []) cs _ h in
        let n = (bind-eq-some_iff (natural_read f.rest) below_zero).0 f.says in
        below-exact n.0 n.2 ∙ ap (λ (ds : List ℕ). 45 ∷ ds) (natural-exact f.rest n.1) ∙ f.whole

number-exact : (n : ℕ) {c : ℕ} → cond (eqb n 255) none (some n) ≡ some c → choice_column c ≡ right_aligned 3 (decimal n)
unfolding choice_column
number-exact n {c} e = go (eqb n 255) refl e
  where
    go : (t : Bool) → eqb n 255 ≡ t → cond t none (some n) ≡ some c → choice_column c ≡ right_aligned 3 (decimal n)
    go true z e = absurd (none-ne-some c e)
    go false z e = ap choice_column (sym (some-injective n c e)) ∙ rw z

choice-exact : (cs : List ℕ) {c : ℕ} → choice_read cs ≡ some c → choice_column c ≡ right_aligned 3 cs
unfolding choice_read choice_column right_aligned
choice-exact cs {c} e = go (or_some (bind (natural_read cs) _) _ e)
  where
    go : (bind (natural_read cs) (λ c. cond (eqb c 255) none (some c)) ≡ some c) ⊎ (literal (45 ∷ 45 ∷ 45 ∷ []) cs (λ cs. at_end cs 255) ≡ some c) → choice_column c ≡ right_aligned 3 cs
    go (inl h) =
        let n = (bind-eq-some_iff (natural_read cs) _).0 h in
        number-exact n.0 n.2 ∙ ap (right_aligned 3) (natural-exact cs n.1)
    go (inr h) =
        let f = literal-exact (45 ∷ 45 ∷ 45 ∷ []) cs _ h in
        let z = end-exact f.rest 255 f.says in
        ap choice_column (sym z.1) ∙ ap (λ (r : List ℕ). right_aligned 3 (45 ∷ 45 ∷ 45 ∷ r)) z.0 ∙ ap (right_aligned 3) f.whole

-- ---- what columns say

abbrev node_column : ℕ → List ℕ
node_column n = right_aligned 2 (decimal n)

abbrev value_column : ℤ → List ℕ
value_column x = right_aligned 11 (signed_decimal x)

-- spaces, and what is left without them
padding : (cs : List ℕ) → (j : ℕ) × (spaces j ++ unpadded cs ≡ cs)
unfolding unpadded
padding [] = (0, refl)
padding (c ∷ cs) = go (eqb c 32) refl (padding cs)
  where
    go : (t : Bool) → eqb c 32 ≡ t → (j : ℕ) × (spaces j ++ unpadded cs ≡ cs) → (j : ℕ) × (spaces j ++ cond t (unpadded cs) (c ∷ cs) ≡ c ∷ cs)
    go true z p = (suc p.0, cc (eqb-true c 32 z))
    go false z p = (0, refl)

unpadded-exact : (w : ℕ) (cs : List ℕ) → length cs ≡ w → right_aligned w (unpadded cs) ≡ cs
unfolding right_aligned
unpadded-exact w cs h =
    let p = padding cs in
    let z : w - length (unpadded cs) ≡ p.0 = omega (arith, ap length p.1, length-append (spaces p.0) (unpadded cs), length-replicate {A = ℕ} p.0 32) in
    rw z p.1

-- the column of a value stands in front, and k says y of the value and the rest
record Column {A B : Type 0} (column : A → List ℕ) (cs : List ℕ) (k : A → List ℕ → Option B) (y : B) : Type 0 where
  value : A
  front : Front (column value) cs (k value) y

-- where k takes no empty rest, there are w columns
aligned-exact : {A B : Type 0} (w : ℕ) (of : List ℕ → Option A) (column : A → List ℕ) → ((text : List ℕ) (x : A) → of text ≡ some x → column x ≡ right_aligned w text)
    → (cs : List ℕ) (k : A → List ℕ → Option B) {y : B} → ((x : A) → k x [] ≡ none) → aligned w of cs k ≡ some y → Column column cs k y
unfolding aligned
aligned-exact {A} w of column exact cs k {y} f e =
    let z = (bind-eq-some_iff (of (unpadded (take w cs))) _).0 e in
    let l = length-take-le w cs (go z.0 (drop w cs) refl z.2) in
    let front = exact (unpadded (take w cs)) z.0 z.1 ∙ unpadded-exact w (take w cs) l in
    record { value = z.0; front = record { rest = drop w cs; whole = ap (λ (l : List ℕ). l ++ drop w cs) front ∙ take-append-drop w cs; says = z.2 } }
  where
    go : (x : A) (rest : List ℕ) → drop w cs ≡ rest → k x rest ≡ some y → w ≤ length cs
    go x [] h e = absurd (none-ne-some y (sym (f x) ∙ e))
    go x (d ∷ ds) h e = omega (arith, length-drop w cs, ap length h)

values-none : {A : Type 0} (m : ℕ) (k : List ℤ → List ℕ → Option A) → ((xs : List ℤ) → k xs [] ≡ none) → values_read m [] k ≡ none
unfolding values_read literal
values-none zero k f = f []
values-none (suc m) k f = refl

record Values {A : Type 0} (m : ℕ) (cs : List ℕ) (k : List ℤ → List ℕ → Option A) (y : A) : Type 0 where
  columns : Column (value_columns m) cs k y
  many : length columns.value ≡ m

values-exact : {A : Type 0} (m : ℕ) (cs : List ℕ) (k : List ℤ → List ℕ → Option A) {y : A} → ((xs : List ℤ) → k xs [] ≡ none) → values_read m cs k ≡ some y → Values m cs k y
unfolding values_read value_columns
values-exact zero cs k f e = record { columns = record { value = []; front = record { rest = cs; whole = refl; says = e } }; many = refl }
values-exact (suc m) cs k f e =
    let s = literal-exact (32 ∷ []) cs _ e in
    let x = aligned-exact 11 integer_read value_column (λ text x h. ap (right_aligned 11) (integer-exact text h)) s.rest _ (λ x. values-none m _ (λ xs. f (x ∷ xs))) s.says in
    let v = values-exact m x.front.rest _ (λ xs. f (x.value ∷ xs)) x.front.says in
    let xs = v.columns.value in
    let r = v.columns.front in
    let first = both-front (spaces 1) (value_column x.value) x.front.rest x.front.whole s.whole in
    let all = both-front (spaces 1 ++ value_column x.value) (value_columns m xs) r.rest r.whole first in
    record { columns = record { value = x.value ∷ xs; front = record { rest = r.rest; whole = all; says = r.says } }; many = ap suc v.many }

-- ---- a line

-- its columns, one after the other
line-whole : (e : Entry) (m : ℕ) {r₁ r₂ r₃ r₄ cs : List ℕ} → length e.values ≡ m → m ≤ 4 → spaces (12 * (4 - m)) ++ (10 ∷ []) ≡ r₄ → value_columns m e.values ++ r₄ ≡ r₃
    → choice_column e.choice ++ r₃ ≡ r₂ → spaces 1 ++ r₂ ≡ r₁ → node_column e.node ++ r₁ ≡ cs → sheet_line e ≡ cs
unfolding sheet_line
line-whole e m {r₂ = r₂} {r₃ = r₃} l h e₅ e₄ e₃ e₂ e₁ =
    let node = node_column e.node in
    let choice = choice_column e.choice in
    let values = value_columns 4 e.values in
    let rest : values ++ (10 ∷ []) ≡ r₃ =
    rw (value-columns-rest 4 e.values (omega arith), l) (both-front (value_columns m e.values) (spaces (12 * (4 - m))) (10 ∷ []) e₅ e₄) in
    both-front (node ++ spaces 1 ++ choice) values (10 ∷ []) rest (both-front (node ++ spaces 1) choice r₃ e₃ (both-front node (spaces 1) r₂ e₂ e₁))

-- a text that says an entry is its line
pub line-exact : (g : List Node) → Sound g → (cs : List ℕ) {e : Entry} → line_read g cs ≡ some e → sheet_line e ≡ cs
unfolding line_read literal
line-exact g sound cs h =
    let n = aligned-exact 2 natural_read node_column (λ text n h. ap (right_aligned 2) (natural-exact text h)) cs _ (λ n. refl) h in
    let s = literal-exact (32 ∷ []) n.front.rest _ n.front.says in
    let m = length (node_at g n.value).variables in
    let blank = spaces (12 * (4 - m)) in
    let c = aligned-exact 3 choice_read choice_column (λ text c h. choice-exact text h) s.rest _ (λ c. values-none m _ (λ xs. literal-none blank _ refl)) s.says in
    let v = values-exact m c.front.rest _ (λ xs. literal-none blank _ refl) c.front.says in
    let b = literal-exact blank v.columns.front.rest _ v.columns.front.says in
    let f = literal-exact (10 ∷ []) b.rest _ b.says in
    let z = end-exact f.rest _ f.says in
    let end = ap (λ (l : List ℕ). blank ++ (10 ∷ l)) z.0 ∙ ap (λ (l : List ℕ). blank ++ l) f.whole ∙ b.whole in
    ap sheet_line (sym z.1) ∙ line-whole _ m v.many (few-variables g sound n.value) end v.columns.front.whole c.front.whole s.whole n.front.whole

-- ---- the sheet

lines-exact : (g : List Node) → Sound g → (k : ℕ) (cs : List ℕ) {i : List Entry} → lines_read g k cs ≡ some i → sheet i ≡ cs
unfolding lines_read sheet
lines-exact g sound zero cs h = let z = end-exact cs [] h in ap sheet (sym z.1) ∙ z.0
lines-exact g sound (suc k) cs {i} h =
    let e = (bind-eq-some_iff (line_read g (take 55 cs)) _).0 h in
    let es = (bind-eq-some_iff (lines_read g k (drop 55 cs)) _).0 e.2 in
    ap sheet (sym (some-injective (e.0 ∷ es.0) i es.2))
    ∙ ap (λ (l : List ℕ). l ++ sheet es.0) (line-exact g sound (take 55 cs) e.1)
    ∙ ap (λ (l : List ℕ). take 55 cs ++ l) (lines-exact g sound k (drop 55 cs) es.1)
    ∙ take-append-drop 55 cs

-- a text that says entries is their sheet
pub sheet-exact : (g : List Node) → Sound g → (cs : List ℕ) {i : List Entry} → sheet_read g cs ≡ some i → sheet i ≡ cs
unfolding sheet_read
sheet-exact g sound cs h = lines-exact g sound (length cs / 55) cs h
