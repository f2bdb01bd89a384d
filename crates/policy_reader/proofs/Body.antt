-- A PN is read to its end if its bytes are all there and its masks fit: so one test of the length, and one of the masks, will do.
-- Rests on the definitions of the readings, on what a layout tells, in schema's Access, and on Stretch: the bytes from p on are the rest's from 0 on.
use mathlib.Core.Path.{◌≡◌, refl, ap, ap₂, sym, ◌∙◌}
use mathlib.Core.Bool.{Bool, true, false, ◌&&◌, ◌||◌}
use mathlib.Core.List.{List, [], ◌∷◌, map}
use Prim.Native.Nat.{ℕ, zero, suc, ◌+◌, ◌-◌, ◌*◌, ◌/◌, ◌^◌, ◌≤◌, ◌<◌}
use native.Mathlib.Omega.{arith}
use native.Mathlib.Nat.{add-zero, zero-add}
use borrow.Author.Tests.{leb-true, le-leb, lt-leb, lt-ltb, ltb-true, eq-eqb, ne_eqb, eqb-true}
use lib.ListN.{length, get_or, drop, length-drop}
use lib.Dec.{leb, eqb}
use lib.Seq.{get_or-drop}
use mir.Val.{Fits}
use mir.Syntax.{w64}
use Rattle.fields.specs.Reading.{got, part, be, whole, field, many, signed}
use Rattle.fields.specs.Answers.{end_of}
use Rattle.fields.proofs.Reading.{whole_got}
use Rattle.fields.proofs.Tests.{and-true, and_no, and_yes, or_yes}
use Rattle.numbers.proofs.Bits.{part-size, spare-within}
use Rattle.schema.specs.Schema.{Node, schema_of, node_at, no_variable}
use Rattle.schema.specs.declared.Variable.{Variable}
use Rattle.schema.specs.declared.Variable.TheVariants.{Number, Listed}
use Rattle.schema.specs.Layout.{rank_count, span, spans, offset_of, rule_length, masks_of, skips_of, spare_of}
use Rattle.schema.specs.Table.{layout_at, Tabled}
use Rattle.schema.specs.declared.Layout.{Layout}
use Rattle.schema.proofs.Access.{variables_few, width-is, masks-is, skip-at, spare-at}
use Rattle.policies.specs.Policies.{Condition, range, mask, PN, ranks, condition, conditions, rule_of}
use Rattle.policies.proofs.Nodes.{nodes-few}
use Rattle.policies.proofs.Stretch.{be-stretch}
use Rattle.policy_reader.specs.Body.{excess_of, masks_fit, Looking, is_whole, is_good, is_next, Shape, Shapes}

-- the bytes of a node's ranks and conditions
unfoldable body_width : Node → ℕ
body_width x = offset_of x (length x.variables)

-- ---- the law: such a PN is read to its end

-- all of a node's ranks are there
ranks-there : (s : List ℕ) (k p : ℕ) → p + k ≤ length s → (rs : List ℕ) × (many {S = ℕ} (λ _ p. whole 1 s p) (λ i _. i) k 0 p ≡ got rs (p + k))
unfolding many part
ranks-there s zero p h = ([], ap (got []) (sym (add-zero p)))
ranks-there s (suc k) p h =
    let r = ranks-there s k (p + 1) (omega arith) in
    let e : p + 1 + k ≡ p + suc k = omega arith in
    (be 1 s p ∷ r.0, rw (whole_got 1 s p (omega arith), r.1) (ap (got (be 1 s p ∷ r.0)) e))

-- a mask that fits
abbrev Fit : List ℕ → ℕ → Variable → Type 0
Fit s p (Number lo hi) = Unit {0}
Fit s p (Listed size) = be 4 s p < 2 ^ size

condition-there : (s : List ℕ) (v : Variable) (p : ℕ) → p + span v ≤ length s → Fit s p v → (c : Condition) × (condition s v p ≡ got c (p + span v))
unfolding condition field part span
condition-there s (Number lo hi) p h m =
    let e : p + 4 + 4 ≡ p + 8 = omega arith in (
      range (signed (be 4 s p)) (signed (be 4 s (p + 4))),
      rw (whole_got 4 s p (omega arith), whole_got 4 s (p + 4) (omega arith)) (ap (got (range (signed (be 4 s p)) (signed (be 4 s (p + 4))))) e),
    )
condition-there s (Listed size) p h m = (mask (be 4 s p), rw (whole_got 4 s p h, lt-ltb (be 4 s p) (2 ^ size) m))

conditions-there : (s : List ℕ) (vs : List Variable) (p : ℕ) → p + spans (length vs) vs ≤ length s
    → ((k : ℕ) → k < length vs → Fit s (p + spans k vs) (get_or vs k no_variable)) → (cs : List Condition) × (conditions s vs p ≡ got cs (p + spans (length vs) vs))
unfolding conditions part spans
conditions-there s [] p h m = ([], ap (got []) (sym (add-zero p)))
conditions-there s (v ∷ vs) p h m =
    let c = condition-there s v p (omega arith) (rw (add-zero p) at (m 0 (omega arith))) in
    let r = conditions-there s vs (p + span v) (omega arith) (λ k l. next k (m (suc k) (omega arith))) in
    let e : p + span v + spans (length vs) vs ≡ p + (span v + spans (length vs) vs) = omega arith in
    (c.0 ∷ r.0, rw (c.1, r.1) (ap (got (c.0 ∷ r.0)) e))
  where
    next : (k : ℕ) → Fit s (p + (span v + spans k vs)) (get_or vs k no_variable) → Fit s (p + span v + spans k vs) (get_or vs k no_variable)
    next k f = let e : p + span v + spans k vs ≡ p + (span v + spans k vs) = omega arith in rw e f

body-there : (s : List ℕ) (x : Node) (n p : ℕ) → p + body_width x ≤ length s
    → ((k : ℕ) → k < length x.variables → Fit s (p + offset_of x k) (get_or x.variables k no_variable)) → got tt (p + body_width x) ≡ end_of (rule_of s x n p)
unfolding body_width offset_of rule_of ranks part
body-there s x n p h m =
    let r = ranks-there s (rank_count x) p (omega arith) in
    let c = conditions-there s x.variables (p + rank_count x) (omega arith) (λ k l. next k (m k l)) in
    let e : p + rank_count x + spans (length x.variables) x.variables ≡ p + (rank_count x + spans (length x.variables) x.variables) = omega arith in
    rw (r.1, c.1) (ap (got tt) (sym e))
  where
    next : (k : ℕ) → Fit s (p + (rank_count x + spans k x.variables)) (get_or x.variables k no_variable)
        → Fit s (p + rank_count x + spans k x.variables) (get_or x.variables k no_variable)
    next k f = let e : p + rank_count x + spans k x.variables ≡ p + (rank_count x + spans k x.variables) = omega arith in rw e f

-- ---- what the layout of a node tells

-- a condition has four bytes at least
span-least : (v : Variable) → 4 ≤ span v
unfolding span
span-least (Number lo hi) = omega arith
span-least (Listed size) = omega arith

masks-some : (vs : List Variable) → (masks_of vs ≡ 0 → ⊥) → 0 < length vs
unfolding masks_of
masks-some [] h = absurd (h refl)
masks-some (v ∷ vs) h = omega arith

-- where a node has variables the bytes at each mask's place are there
skip-room : (vs : List Variable) (w k : ℕ) → 0 < length vs → get_or (skips_of w vs) k 0 + 4 ≤ w + spans (length vs) vs
unfolding skips_of spans
skip-room [] w k h = absurd (omega arith)
skip-room (Number lo hi ∷ vs) w zero h = omega (arith, span-least (Number lo hi))
skip-room (Listed size ∷ vs) w zero h = omega (arith, span-least (Listed size))
skip-room (v ∷ []) w (suc k) h = omega (arith, span-least v)
skip-room (v ∷ u ∷ vs) w (suc k) h = omega (arith, skip-room (u ∷ vs) (w + span v) k (omega arith))

spare-most : (vs : List Variable) (k : ℕ) → get_or (map spare_of vs) k 0 ≤ 32
unfolding spare_of
spare-most [] k = omega arith
spare-most (Number lo hi ∷ vs) zero = omega arith
spare-most (Listed size ∷ vs) zero = omega arith
spare-most (v ∷ vs) (suc k) = spare-most vs k

-- a mask with no spare bit fits
fit-spare : (s : List ℕ) (p : ℕ) (vs : List Variable) (w k : ℕ) → k < length vs → be 4 s (p + get_or (skips_of w vs) k 0) * 2 ^ get_or (map spare_of vs) k 0 < 2 ^ 32
    → Fit s (p + (w + spans k vs)) (get_or vs k no_variable)
unfolding skips_of spare_of spans
fit-spare s p [] w k l h = absurd (omega arith)
fit-spare s p (Number lo hi ∷ vs) w zero l h = tt
fit-spare s p (Listed size ∷ vs) w zero l h = rw (add-zero w) (spare-within (be 4 s (p + w)) size h)
fit-spare s p (v ∷ vs) w (suc k) l h =
    let e : w + (span v + spans k vs) ≡ w + span v + spans k vs = omega arith in
    rw e (fit-spare s p vs (w + span v) k (omega arith) h)

-- where there is no mask all variables are numbers
fit_none : (s : List ℕ) (p : ℕ) (vs : List Variable) (k : ℕ) → k < length vs → masks_of vs ≡ 0 → Fit s p (get_or vs k no_variable)
unfolding masks_of
fit_none s p [] k l h = absurd (omega arith)
fit_none s p (Number lo hi ∷ vs) zero l h = tt
fit_none s p (Number lo hi ∷ vs) (suc k) l h = fit_none s p vs k (omega arith) h
fit_none s p (Listed size ∷ vs) k l h = absurd (omega arith)

-- ---- what the code's tests show

pub whole-inside : (s : List ℕ) (w p : ℕ) → is_whole s w p ≡ true → (w ≤ length s - p) × (be 2 s p ≡ be 2 PN 0)
unfolding is_whole
whole-inside s w p e =
    let both = and-true (leb w (length s - p)) (eqb (be 2 s p) (be 2 PN 0)) e in
    (leb-true w (length s - p) both.0, eqb-true (be 2 s p) (be 2 PN 0) both.1)

fits_one : (x : Layout) (s : List ℕ) (p k : ℕ) → eqb (excess_of x s p k) 0 ≡ true → be 4 s (p + get_or x.skips k 0) * 2 ^ get_or x.spares k 0 < 2 ^ 32
unfolding excess_of
fits_one x s p k e =
    let m = be 4 s (p + get_or x.skips k 0) * 2 ^ get_or x.spares k 0 in
    ltb-true m (2 ^ 32) (sym (part-size m 32) ∙ e)

fits-at : (x : Layout) (s : List ℕ) (p : ℕ) → masks_fit x s p ≡ true → (k : ℕ) → k < 4 → be 4 s (p + get_or x.skips k 0) * 2 ^ get_or x.spares k 0 < 2 ^ 32
unfolding masks_fit
fits-at x s p e k l =
    let both = and-true (eqb (excess_of x s p 0) 0 && eqb (excess_of x s p 1) 0) (eqb (excess_of x s p 2) 0 && eqb (excess_of x s p 3) 0) e in
    fits_one x s p k
    (one k l (and-true (eqb (excess_of x s p 0) 0) (eqb (excess_of x s p 1) 0) both.0) (and-true (eqb (excess_of x s p 2) 0) (eqb (excess_of x s p 3) 0) both.1))
  where
    one : (k : ℕ) → k < 4 → (eqb (excess_of x s p 0) 0 ≡ true) × (eqb (excess_of x s p 1) 0 ≡ true) → (eqb (excess_of x s p 2) 0 ≡ true) × (eqb (excess_of x s p 3) 0 ≡ true)
        → eqb (excess_of x s p k) 0 ≡ true
    one zero l a b = a.0
    one (suc zero) l a b = a.1
    one (suc (suc zero)) l a b = b.0
    one (suc (suc (suc zero))) l a b = b.1
    one (suc (suc (suc (suc k)))) l a b = absurd (omega arith)

module _ (schema : List ℕ) (t : List Layout) (n : ℕ) (d : Tabled schema t) (b : n < length (schema_of schema)) where
  abbrev node : Node
  node = node_at (schema_of schema) n

  abbrev x : Layout
  x = layout_at t n

  width_is : x.rule_width ≡ 3 + body_width node
  unfolding rule_length body_width
  width_is = width-is schema t n d b

  pub shape_of : Shape x
  unfolding body_width offset_of
  shape_of =
      record {
        least = omega (arith, width_is);
        there = λ k l h.
            let z = skip-room node.variables (rank_count node) k (masks-some node.variables (λ e. h (masks-is schema t n d b ∙ e))) in
            omega (arith, width_is, skip-at schema t n d b k l);
        spare = λ k l. omega (arith, spare-at schema t n d b k l, spare-most node.variables k);
      }

  -- a PN that passes is read to its end
  pub good-read : (s : List ℕ) (p : ℕ) → is_good x s p ≡ true → p ≤ length s → got tt (p + x.rule_width) ≡ end_of (rule_of s node n (p + 3))
  unfolding is_good offset_of
  good-read s p e l =
      let both = and-true (is_whole s x.rule_width p) (eqb x.masks 0 || masks_fit x s (p + 3)) e in
      let i = (whole-inside s x.rule_width p both.0).0 in
      let q : p + x.rule_width ≡ p + 3 + body_width node = omega (arith, width_is) in
      ap (got tt) q ∙ body-there s node n (p + 3) (omega (arith, width_is)) (fits (eqb x.masks 0) refl both.1)
    where
      spared : (k : ℕ) → k < length node.variables → k < 4 → be 4 s (p + 3 + get_or x.skips k 0) * 2 ^ get_or x.spares k 0 < 2 ^ 32
          → Fit s (p + 3 + offset_of node k) (get_or node.variables k no_variable)
      spared k l m h = fit-spare s (p + 3) node.variables (rank_count node) k l (rw (skip-at schema t n d b k m, spare-at schema t n d b k m) at h)

      fits : (m : Bool) → eqb x.masks 0 ≡ m → (m || masks_fit x s (p + 3)) ≡ true
          → (k : ℕ) → k < length node.variables → Fit s (p + 3 + offset_of node k) (get_or node.variables k no_variable)
      fits true e h k l =
          fit_none s (p + 3 + offset_of node k) node.variables k l (sym (masks-is schema t n d b) ∙ eqb-true x.masks 0 e)
      fits false e h k l = spared k l (let z = variables_few schema n b in omega arith) (fits-at x s (p + 3) h k (let z = variables_few schema n b in omega arith))

pub shapes-of : (schema : List ℕ) (t : List Layout) → Tabled schema t → Shapes t (length (schema_of schema))
shapes-of schema t d = record { few = nodes-few schema; long = d.long; each = λ n l. shape_of schema t n d l }

-- ---- the tests

and_last : (a : Bool) {b : Bool} → b ≡ false → (a && b) ≡ false
and_last true e = e
and_last false e = refl

and-alone : (a : Bool) {b : Bool} → b ≡ true → (a && b) ≡ a
and-alone true e = e
and-alone false e = refl

pub whole-short : (s : List ℕ) (w p : ℕ) → length s - p < w → false ≡ is_whole s w p
unfolding is_whole
whole-short s w p h = sym (and_no (eqb (be 2 s p) (be 2 PN 0)) (lt-leb w (length s - p) h))

pub whole-marked : (s : List ℕ) (w p : ℕ) {m : Bool} → w ≤ length s - p → m ≡ eqb (be 2 s p) (be 2 PN 0) → m ≡ is_whole s w p
unfolding is_whole
whole-marked s w p h e = rw (le-leb w (length s - p) h) e

module _ (x : Layout) (s : List ℕ) (p : ℕ) {v : Bool} (e : v ≡ is_whole s x.rule_width p) where
  pub good_not : v ≡ false → false ≡ is_good x s p
  unfolding is_good
  good_not h = sym (and_no (eqb x.masks 0 || masks_fit x s (p + 3)) (sym e ∙ h))

  pub next_not : (n : ℕ) → v ≡ false → false ≡ is_next x s n p
  unfolding is_next
  next_not n h = sym (and_no (eqb (get_or s (p + 2) 0) n) (sym (good_not h)))

  module _ (h : v ≡ true) where
    pub good_bare : x.masks ≡ 0 → true ≡ is_good x s p
    unfolding is_good
    good_bare z = sym (and_yes (sym e ∙ h) (or_yes (masks_fit x s (p + 3)) (eq-eqb x.masks 0 z)))

    pub good_masks : (x.masks ≡ 0 → ⊥) → {u : Bool} → u ≡ masks_fit x s (p + 3) → u ≡ is_good x s p
    unfolding is_good
    good_masks z d = rw (sym e ∙ h, ne_eqb x.masks 0 z) d

    module _ (w : Shape x) where
      whole-there : p + x.rule_width ≤ length s
      whole-there = let j = (whole-inside s x.rule_width p (sym e ∙ h)).0 in omega (arith, w.least)

      pub good_looking : (x.masks ≡ 0 → ⊥) → Looking x s (p + 3)
      good_looking z = record { there = λ k l. omega (arith, w.there k l z, whole-there); spare = w.spare }

      pub node_there : p + 2 < length s
      node_there = omega (arith, w.least, whole-there)

    module _ (n : ℕ) {b : ℕ} (j : b ≡ get_or s (p + 2) 0) where
      pub next_other : (b ≡ n → ⊥) → false ≡ is_next x s n p
      unfolding is_next
      next_other o = sym (and_last (is_good x s p) (ne_eqb (get_or s (p + 2) 0) n (λ i. o (j ∙ i))))

      module _ (o : b ≡ n) where
        named : eqb (get_or s (p + 2) 0) n ≡ true
        named = eq-eqb (get_or s (p + 2) 0) n (sym j ∙ o)

        pub next-bare : x.masks ≡ 0 → true ≡ is_next x s n p
        unfolding is_next
        next-bare z = sym (and_yes (sym (good_bare z)) named)

        pub next-masks : (x.masks ≡ 0 → ⊥) → {u : Bool} → u ≡ masks_fit x s (p + 3) → u ≡ is_next x s n p
        unfolding is_next
        next-masks z d = good_masks z d ∙ sym (and-alone (is_good x s p) named)

-- back
pub next-back : (x : Layout) (s : List ℕ) (n p : ℕ) → is_next x s n p ≡ true → (is_good x s p ≡ true) × (get_or s (p + 2) 0 ≡ n)
unfolding is_next
next-back x s n p e = let both = and-true (is_good x s p) (eqb (get_or s (p + 2) 0) n) e in (both.0, eqb-true (get_or s (p + 2) 0) n both.1)

-- ---- a PN that stands at p is the first of what is left from p on

module _ (s : List ℕ) (p : ℕ) (x : Layout) where
  excess-left : (q k : ℕ) → excess_of x (drop p s) q k ≡ excess_of x s (p + q) k
  unfolding excess_of
  excess-left q k =
      let z : p + (q + get_or x.skips k 0) ≡ p + q + get_or x.skips k 0 = omega arith in
      ap (λ (m : ℕ). m * 2 ^ get_or x.spares k 0 / 2 ^ 32) (sym (be-stretch p s 4 (q + get_or x.skips k 0)) ∙ ap (be 4 s) z)

  masks-left : (q : ℕ) → masks_fit x (drop p s) q ≡ masks_fit x s (p + q)
  unfolding masks_fit
  masks-left q = rw (excess-left q 0, excess-left q 1, excess-left q 2, excess-left q 3) refl

  whole-left : (w : ℕ) → is_whole (drop p s) w 0 ≡ is_whole s w p
  unfolding is_whole
  whole-left w =
      let z : length (drop p s) - 0 ≡ length s - p = omega (arith, length-drop p s) in
      let m : be 2 (drop p s) 0 ≡ be 2 s p = sym (be-stretch p s 2 0) ∙ ap (be 2 s) (add-zero p) in
      rw (z, m) refl

  pub next-left : (n : ℕ) → is_next x (drop p s) n 0 ≡ is_next x s n p
  unfolding is_next is_good
  next-left n = rw (whole-left x.rule_width, masks-left 3, get_or-drop p s 2 0) refl

-- ---- the masks

module _ (x : Layout) (s : List ℕ) (p k : ℕ) (w : Looking x s p) (l : k < 4) where
  pub mask_spare : get_or x.spares k 0 ≤ 32
  mask_spare = w.spare k l

  pub mask_there : p + get_or x.skips k 0 + 4 ≤ length s
  mask_there = w.there k l

  pub mask_fits : length s < 2 ^ 64 → Fits w64 (p + get_or x.skips k 0)
  mask_fits m = record { fits = omega (arith, mask_there) }

pub excess-is : (x : Layout) (s : List ℕ) (p k : ℕ) {u v r : ℕ} → u ≡ be 4 s (p + get_or x.skips k 0) → v ≡ get_or x.spares k 0 → r ≡ u * 2 ^ v / 2 ^ 32 → r ≡ excess_of x s p k
unfolding excess_of
excess-is x s p k e i d = d ∙ ap₂ (λ (u v : ℕ). u * 2 ^ v / 2 ^ 32) e i

none_both : (x y : ℕ) → eqb (x + y) 0 ≡ (eqb x 0 && eqb y 0)
none_both zero y = ap (λ (i : ℕ). eqb i 0) (zero-add y)
none_both (suc x) y = ne_eqb (suc x + y) 0 (λ e. omega arith) ∙ sym (and_no (eqb y 0) (ne_eqb (suc x) 0 (λ e. omega arith)))

pub masks-none : (l : Layout) (s : List ℕ) (p : ℕ) {w x y z : ℕ} → w ≡ excess_of l s p 0 → x ≡ excess_of l s p 1 → y ≡ excess_of l s p 2 → z ≡ excess_of l s p 3
    → eqb (w + x + (y + z)) 0 ≡ masks_fit l s p
unfolding masks_fit
masks-none l s p {w} {x} {y} {z} a b c d = rw (← a, ← b, ← c, ← d) (none_both (w + x) (y + z) ∙ ap₂ ◌&&◌ (none_both w x) (none_both y z))
