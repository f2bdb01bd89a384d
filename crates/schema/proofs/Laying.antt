-- A node's layout while it is read: what is left to read and to store of its variables equals the whole; and the layout that its parts make.
-- Rests on the laws of runs of the crate fields, and on where a record that was read ends.
use mathlib.Core.Path.{◌≡◌, refl, ap, sym, subst, ◌∙◌}
use mathlib.Core.Bool.{cond, ◌&&◌, ◌||◌}
use mathlib.Core.List.{List, [], ◌∷◌, map}
use Prim.Native.Nat.{ℕ, suc, ◌+◌, ◌-◌, ◌*◌, ◌%◌, ◌≤◌, ◌<◌}
use native.Mathlib.Omega.{arith}
use native.Mathlib.Nat.{add-zero, zero-add}
use borrow.Author.Tests.{le-leb, leb-true}
use lib.Dec.{leb, ltb, eqb}
use lib.ListN.{length, set}
use Rattle.fields.specs.Reading.{Got, got, bad, part, be, whole, field, mark, many}
use Rattle.std.specs.Prelude.{Result}
use Rattle.fields.specs.Answers.{end_of}
use Rattle.fields.specs.Runs.{Run, did, refused, outcome, run_of}
use Rattle.fields.specs.declared.Breach.{Breach}
use Rattle.fields.specs.Shorts.{short}
use Rattle.fields.proofs.Tests.{and-true}
use Rattle.fields.proofs.Reading.{stepped}
use Rattle.fields.proofs.Back.{whole_back, mark-back, field_back}
use Rattle.fields.proofs.Runs.{run_map, run_exit, run_refused, run_step}
use Rattle.numbers.specs.Bits.{with_all}
use Rattle.schema.specs.Schema.{SN, variable, variables, variables_of, links, node}
use Rattle.schema.specs.Layout.{rank_count, span, spans, masks_of, skips_of, spare_of}
use Rattle.schema.specs.Table.{variable_width, places_of, for_four, layout_of_variables, layout_of, mask_count, put_variable, put_variables, put_node, made, linked, AtMost}
use Rattle.schema.specs.declared.Layout.{Layout}
use Rattle.schema.specs.declared.Variable.{Variable}
use Rattle.schema.specs.declared.Variable.TheVariants.{Number, Listed}
use Rattle.schema.specs.declared.Successors.{Successors}
use Rattle.schema.proofs.Made.{making}
use Rattle.schema.proofs.Node.{links-back, variable-back, variables-back}

-- ---- a node's variables

-- the numbers xs stored from the j-th place on
unfoldable pub stored : ℕ → List ℕ → List ℕ → List ℕ
stored j [] t = t
stored j (x ∷ xs) t = stored (j + 1) xs (set t j x)

stored-all : (xs : List ℕ) → length xs ≤ 4 → stored 0 xs (for_four []) ≡ for_four xs
unfolding stored
stored-all [] h = refl
stored-all (a ∷ []) h = refl
stored-all (a ∷ b ∷ []) h = refl
stored-all (a ∷ b ∷ c ∷ []) h = refl
stored-all (a ∷ b ∷ c ∷ d ∷ []) h = refl
stored-all (a ∷ b ∷ c ∷ d ∷ e ∷ xs) h = absurd (omega arith)

places-long : (p : ℕ) (vs : List Variable) → length (places_of p vs) ≡ length vs
unfolding places_of
places-long p [] = refl
places-long p (v ∷ vs) = ap suc (places-long (p + variable_width v) vs)

skips-long : (w : ℕ) (vs : List Variable) → length (skips_of w vs) ≡ length vs
unfolding skips_of
skips-long w [] = refl
skips-long w (v ∷ vs) = ap suc (skips-long (w + span v) vs)

spares-long : (vs : List Variable) → length (map spare_of vs) ≡ length vs
spares-long [] = refl
spares-long (v ∷ vs) = ap suc (spares-long vs)

-- layout l with the variables vs from the j-th on, the first of which begins at p and stands w bytes after the first rank of a PN
unfoldable pub with_variables : ℕ → ℕ → ℕ → List Variable → Layout → Layout
with_variables j p w vs l = record l {
  variables = stored j (places_of p vs) l.variables;
  rule_width = 3 + (w + spans (length vs) vs);
  masks = l.masks + masks_of vs;
  skips = stored j (skips_of w vs) l.skips;
  spares = stored j (map spare_of vs) l.spares;
}

-- layout l with nothing stored of k variables yet, in a PN with so many ranks
abbrev pub cleared : ℕ → ℕ → Layout → Layout
cleared k ranks l = record l { variables = for_four []; masks = 0; ranks = ranks; variable_count = k; skips = for_four []; spares = for_four [] }

-- the first j of k are read: they end at at, their conditions at w
pub record VariablesLeft (s : List ℕ) (k ranks from : ℕ) (l₀ l : Layout) (j at w : ℕ) : Type 0 where
  pub upto : j ≤ k
  pub light : w ≤ 8 + 8 * j
  pub few : l.masks ≤ j
  pub rest : run_of (with_variables j at w) (variables s (k - j) at) l ≡ run_of (put_variables ranks from) (variables s k from) l₀

span_most : (v : Variable) → span v ≤ 8
unfolding span
span_most (Number lo hi) = omega arith
span_most (Listed size) = omega arith

mask_most : (v : Variable) → mask_count v ≤ 1
unfolding mask_count
mask_most (Number lo hi) = omega arith
mask_most (Listed size) = omega arith

masks-cons : (v : Variable) (vs : List Variable) → masks_of (v ∷ vs) ≡ mask_count v + masks_of vs
unfolding masks_of mask_count
masks-cons (Number lo hi) vs = omega arith
masks-cons (Listed size) vs = omega arith

-- so many as were read
whole-layout : (k w p : ℕ) (l : Layout) (vs : List Variable) → length vs ≡ k → k ≤ 4
    → with_variables 0 p w vs (cleared k w l) ≡ put_variables w p vs l
unfolding with_variables layout_of_variables
whole-layout k w p l vs e h =
    let a = stored-all (places_of p vs) (omega (arith, places-long p vs)) in
    let b = stored-all (skips_of w vs) (omega (arith, skips-long w vs)) in
    let c = stored-all (map spare_of vs) (omega (arith, spares-long vs)) in
    λ i. record l {
      variables = a i;
      rule_width = 3 + (w + spans (length vs) vs);
      masks = zero-add (masks_of vs) i;
      ranks = w;
      variable_count = sym e i;
      skips = b i;
      spares = c i;
    }

pub variables_init : (s : List ℕ) (k ranks from : ℕ) (l : Layout) → k ≤ 4 → ranks ≤ 8 → VariablesLeft s k ranks from l (cleared k ranks l) 0 from ranks
variables_init s k ranks from l f h =
    let z : k - 0 ≡ k = omega arith in
    record {
      upto = omega arith;
      light = omega arith;
      few = omega arith;
      rest = rw z (go (variables s k from) refl);
    }
  where
    go : (g : Got (List Variable)) → variables s k from ≡ g
        → run_of (with_variables 0 from ranks) g (cleared k ranks l) ≡ run_of (put_variables ranks from) g l
    go (got vs q) e = ap (did q) (whole-layout k ranks from l vs (variables-back s k from e).size f)
    go (bad n o) e = refl

module _ (s : List ℕ) (k ranks from : ℕ) (l₀ l : Layout) (j at w : ℕ) (i : VariablesLeft s k ranks from l₀ l j at w) where
  pub variables_light : k ≤ 4 → w ≤ 40
  variables_light h = omega (arith, i.light, i.upto)

  pub variables_few : k ≤ 4 → l.masks ≤ 4
  variables_few h = omega (arith, i.few, i.upto)

  pub variables_refused : {n o : ℕ} → j < k → bad n o ≡ variable s at → refused n o ≡ run_of (put_variables ranks from) (variables s k from) l₀
  unfolding variables
  variables_refused h e = run_refused {S = ℕ} (λ _ p. variable s p) (λ i _. i) (with_variables j at w) (k - j) 0 at l i.rest (omega arith) (sym e)

  pub variables_step : (v : Variable) {q d : ℕ} {l₁ : Layout} → j < k → got v q ≡ variable s at → l₁ ≡ put_variable j at w v l → d ≡ w + span v
      → VariablesLeft s k ranks from l₀ l₁ (j + 1) q d
  unfolding variables with_variables stored places_of skips_of spans
  variables_step v {q} {d} {l₁} h e el ed =
      let r = sym e in
      let eq = (variable-back s at r).end in
      let em : l₁.masks ≡ l.masks + mask_count v = ap (λ (x : Layout). x.masks) el in
      let z : k - j - 1 ≡ k - (j + 1) = omega arith in
      record {
        upto = omega arith;
        light = omega (arith, i.light, span_most v);
        few = omega (arith, i.few, mask_most v);
        rest = subst (λ (n : ℕ). run_of (with_variables (j + 1) q d) (many {S = ℕ} (λ _ p. variable s p) (λ i _. i) n 0 q) l₁ ≡ run_of (put_variables ranks from) (many {S = ℕ} (λ _ p. variable s p) (λ i _. i) k 0 from) l₀) z
            (run_step {S = ℕ} (λ _ p. variable s p) (λ i _. i) (with_variables j at w) (with_variables (j + 1) q d) (k - j) 0 at l l₁ i.rest (omega arith) r (turn eq));
      }
    where
      turn : q ≡ at + variable_width v → (vs : List Variable) → with_variables j at w (v ∷ vs) l ≡ with_variables (j + 1) q d vs l₁
      turn eq vs =
          let er : 3 + (w + (span v + spans (length vs) vs)) ≡ 3 + (w + span v + spans (length vs) vs) = omega arith in
          let es : l.masks + masks_of (v ∷ vs) ≡ l.masks + mask_count v + masks_of vs = omega (arith, masks-cons v vs) in
          (λ t. record (with_variables j at w (v ∷ vs) l) { rule_width = er t; masks = es t })
          ∙ (λ t. with_variables (j + 1) (sym eq t) (sym ed t) vs (sym el t))

  pub variables_exit : {r : ℕ} → k ≤ j → r ≡ 3 + w → did at (record l { rule_width = r }) ≡ run_of (put_variables ranks from) (variables s k from) l₀
  unfolding variables with_variables stored places_of skips_of spans masks_of
  variables_exit {r} h e =
      let er : r ≡ 3 + (w + 0) = omega arith in
      (λ t. did at (record l { rule_width = er t; masks = sym (add-zero l.masks) t }))
      ∙ run_exit {S = ℕ} (λ _ p. variable s p) (λ i _. i) (with_variables j at w) (k - j) 0 at l i.rest (omega arith)

-- their number, then they
pub variables_of_ok : (s : List ℕ) (ranks p : ℕ) (l : Layout) {v q : ℕ} {x : Run Layout} → got v q ≡ whole 1 s p → v ≤ 4
    → x ≡ run_of (put_variables ranks q) (variables s v q) l → x ≡ run_of (put_variables ranks (p + 1)) (variables_of s p) l
unfolding variables_of field part
variables_of_ok s ranks p l {v} {q} e h i =
    let w = whole_back 1 s p (sym e) in
    rw (← e, le-leb v 4 h) (i ∙ ap (λ (n : ℕ). run_of (put_variables ranks n) (variables s v q) l) w.next)

-- ---- a node

record LinksEnd (p : ℕ) (xs : List ℕ) (q : ℕ) : Type 0 where
  end : q ≡ p + 1 + length xs
  few : length xs ≤ 8

links_end : (s : List ℕ) (count own kind p : ℕ) {xs : List ℕ} {q : ℕ} → links s count own kind p ≡ got xs q → LinksEnd p xs q
unfolding links
links_end s count own kind p e =
    let c = field_back 1 4 (λ c. leb c 8 && (ltb 0 c || eqb kind 1)) s p _ e in
    let l = links-back s count own (be 1 s p) (p + 1) c.then in
    let r = and-true (leb (be 1 s p) 8) (ltb 0 (be 1 s p) || eqb kind 1) c.rule-met in
    let h = leb-true (be 1 s p) 8 r.0 in
    record { end = omega (arith, l.end, l.size); few = omega (arith, l.size) }

pub links_few : (s : List ℕ) (count own kind p : ℕ) {x : Successors} {q : ℕ} → got x q ≡ made linked (links s count own kind p) → x.count ≤ 8
links_few s count own kind p e =
    let l = making linked (links s count own kind p) e in
    let z : _ ≡ length l.value = ap (λ (x : Successors). x.count) l.is in
    omega (arith, (links_end s count own kind p l.read).few)

pub node_ok : (s : List ℕ) (count own from : ℕ) (l y : Layout) (r : Result ℕ Breach) {p₁ kind p₂ : ℕ} {x : Successors} {p₃ ranks : ℕ}
    → got tt p₁ ≡ end_of (mark SN s from) → got kind p₂ ≡ whole 1 s p₁ → kind ≤ 1 → got x p₃ ≡ made linked (links s count own kind p₂)
    → AtMost 8 (cond (eqb kind 1) x.count 0) ranks
    → outcome r y ≡ run_of (put_variables ranks (p₃ + 1)) (variables_of s p₃) (record l { start = from % 65536; successors = x.set })
    → outcome r y ≡ run_of (put_node from) (node s count own from) l
unfolding node layout_of layout_of_variables rank_count short part field
node_ok s count own from l y r {p₁} {kind} {p₂} {x} {p₃} {ranks} h₀ b k h₂ er h₃ =
    let a = stepped (mark SN s from) h₀ in
    let m = making linked (links s count own kind p₂) h₂ in
    let xs = m.value in
    let ec : x.count ≡ length xs = ap (λ (x : Successors). x.count) m.is in
    let es : x.set ≡ with_all 0 xs = ap (λ (x : Successors). x.set) m.is in
    let q₁ = (mark-back SN s from a.1).next in
    let q₂ = (whole_back 1 s p₁ (sym b)).next in
    let q₃ = (links_end s count own kind p₂ m.read).end in
    let eq : p₃ + 1 ≡ from + (5 + length xs) = omega arith in
    let ew : ranks ≡ cond (eqb kind 1) (length xs) 0 = er.is ∙ ap (λ (i : ℕ). cond (eqb kind 1) i 0) ec in
    let here : Layout = record l { start = from % 65536; successors = x.set } in
    rw (a.1, ← b, le-leb kind 1 k, m.read)
    (run_map (put_variables ranks (p₃ + 1)) (put_node from) (λ vs. record { kind = kind; successors = xs; variables = vs }) (variables_of s p₃) here y l y r h₃
    (λ vs z. z ∙ (λ i. record (layout_of_variables (ew i) (eq i) vs) { start = from % 65536; successors = es i })))
