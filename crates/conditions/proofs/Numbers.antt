-- A node with four variables, all numbers: how that is told, and the loop over the offsets that narrows all four.
-- Rests on the laws of one variable's turn, in Narrowing.
use mathlib.Core.Path.{◌≡◌, refl, ap, sym, subst, ◌∙◌}
use mathlib.Core.Bool.{Bool, true, ◌&&◌}
use mathlib.Core.List.{List, [], ◌∷◌}
use Prim.Native.Nat.{ℕ, zero, suc, ◌+◌, ◌*◌, ◌^◌, ◌≤◌, ◌<◌}
use native.Mathlib.Omega.{arith}
use native.Mathlib.Nat.{zero-add}
use borrow.Author.Tests.{eqb-true, eq-eqb, ne_eqb}
use lib.Dec.{eqb}
use lib.ListN.{length, get_or, drop}
use lib.Seq.{ext_get_or}
use lib.Signed.{mag}
use mir.Syntax.{w32, w64}
use mir.Val.{Fits, to_z, of_z}
use Rattle.fields.specs.Reading.{be, signed}
use Rattle.fields.proofs.Tests.{and_no, and-true, never}
use Rattle.schema.specs.Schema.{Node, schema_of, node_at, no_variable, variable_at, is_number}
use Rattle.schema.specs.Table.{layout_at, AtMost}
use Rattle.schema.specs.declared.Variable.{Variable}
use Rattle.schema.specs.declared.Variable.TheVariants.{Number, Listed}
use Rattle.schema.specs.Layout.{rank_count, span, spans, offset_of, masks_of}
use Rattle.schema.proofs.Access.{masks-is}
use Rattle.nodes.specs.declared.Bounds.{Bounds}
use Rattle.nodes.specs.declared.Schema.{Schema}
use Rattle.policies.specs.Policies.{Condition, range, mask}
use Rattle.policies.specs.Rows.{rules_at, noted, offsets_in, RulesAt, BytesAt}
use Rattle.policies.specs.declared.Policies.{Policies}
use Rattle.policies.proofs.Offsets.{stretch, stretch_inside, stretch_room}
use Rattle.model.specs.Satisfaction.{every}
use Rattle.model.specs.Reconciling.{own, both, restrict_all, combined}
use Rattle.model.proofs.Values.{combined-at}
use Rattle.conditions.specs.Least.{ranges_in}
use Rattle.conditions.specs.Rules.{range_at, condition_in, narrowed_by, four_numbers}
use Rattle.conditions.proofs.Rules.{ConditionIn, conditions_bytes, conditions_left}
use Rattle.conditions.proofs.Row.{row_combined}
use Rattle.conditions.proofs.Least.{combined-length}
use Rattle.conditions.proofs.Narrowing.{kept, range_step, narrowed_exit}

-- ---- the test

masks-none : (vs : List Variable) → eqb (masks_of vs) 0 ≡ every is_number vs
unfolding masks_of
masks-none [] = refl
masks-none (Number lo hi ∷ vs) = masks-none vs
masks-none (Listed size ∷ vs) = ne_eqb (masks_of vs + 1) 0 (λ e. omega arith)

module _ (x : Schema) (n : ℕ) (h : n < length (schema_of x.bytes.now)) (v : ℕ) (m : AtMost 4 (length (node_at (schema_of x.bytes.now) n).variables) v) where
  abbrev own_vs : List Variable
  own_vs = (node_at (schema_of x.bytes.now) n).variables

  pub four_other : (v ≡ 4 → ⊥) → eqb v 4 ≡ four_numbers own_vs
  unfolding four_numbers
  four_other f = ne_eqb v 4 f ∙ sym (and_no (every is_number own_vs) (ne_eqb (length own_vs) 4 (λ e. f (m.is ∙ e))))

  pub four_masks : v ≡ 4 → eqb (layout_at x.layouts.now n).masks 0 ≡ four_numbers own_vs
  unfolding four_numbers
  four_masks e =
      ap (λ (c : ℕ). eqb c 0) (masks-is x.bytes.now x.layouts.now n x.tabled h)
      ∙ masks-none own_vs
      ∙ ap (λ (b : Bool). b && every is_number own_vs) (sym (eq-eqb (length own_vs) 4 (sym m.is ∙ e)))

-- ---- what it tells

pub four_told : (vs : List Variable) {x : Bool} → x ≡ four_numbers vs → x ≡ true → four_numbers vs ≡ true
four_told vs e t = sym e ∙ t

pub four-length : (vs : List Variable) → four_numbers vs ≡ true → length vs ≡ 4
unfolding four_numbers
four-length vs f = eqb-true (length vs) 4 (and-true (eqb (length vs) 4) (every is_number vs) f).0

pub every-number : (vs : List Variable) → four_numbers vs ≡ true → every is_number vs ≡ true
unfolding four_numbers
every-number vs f = (and-true (eqb (length vs) 4) (every is_number vs) f).1

pub number_at : (vs : List Variable) (k : ℕ) → every is_number vs ≡ true → k < length vs → is_number (get_or vs k no_variable) ≡ true
number_at [] k e h = absurd (omega arith)
number_at (v ∷ vs) zero e h = (and-true (is_number v) (every is_number vs) e).0
number_at (v ∷ vs) (suc k) e h = number_at vs k (and-true (is_number v) (every is_number vs) e).1 (omega arith)

span-number : (v : Variable) → is_number v ≡ true → span v ≡ 8
unfolding span
span-number (Number lo hi) e = refl
span-number (Listed size) e = never e

spans-numbers : (vs : List Variable) (k : ℕ) → every is_number vs ≡ true → k ≤ length vs → spans k vs ≡ 8 * k
unfolding spans
spans-numbers vs zero e h = refl
spans-numbers [] (suc k) e h = absurd (omega arith)
spans-numbers (v ∷ vs) (suc k) e h =
    let t = and-true (is_number v) (every is_number vs) e in
    omega (arith, span-number v t.0, spans-numbers vs k t.1 (omega arith))

pub four_below : (vs : List Variable) (k : ℕ) → four_numbers vs ≡ true → k < 4 → k < length vs
four_below vs k f h = omega (arith, four-length vs f)

pub four_number : (vs : List Variable) (k : ℕ) → four_numbers vs ≡ true → k < 4 → is_number (get_or vs k no_variable) ≡ true
four_number vs k f h = number_at vs k (every-number vs f) (four_below vs k f h)

-- ---- the loop

-- the offsets from row r on are left for variable k, which has its place in cs
abbrev Left : List Node → List ℕ → ℕ → List ℕ → ℕ → ℕ → List Condition → ℕ → Type 0
Left g p n offsets skip r cs k =
    narrowed_by (range_at p (skip + 8 * k)) (drop r offsets) (get_or cs k (mask 0)) ≡ narrowed_by (range_at p (skip + 8 * k)) offsets (own (variable_at g n k))

of-ranges : (p : List ℕ) (skip : ℕ) (v : Variable) → is_number v ≡ true → (os : List ℕ) (c : Condition) → narrowed_by (range_at p skip) os c ≡ narrowed_by (condition_in p skip v) os c
unfolding narrowed_by condition_in
of-ranges p skip (Number lo hi) e [] c = refl
of-ranges p skip (Number lo hi) e (o ∷ os) c = of-ranges p skip (Number lo hi) e os (both c (range_at p skip o))
of-ranges p skip (Listed size) e os c = never e

pub below-four : (P : ℕ → Type 0) → P 0 → P 1 → P 2 → P 3 → (k : ℕ) → k < 4 → P k
below-four P a b c d zero h = a
below-four P a b c d (suc zero) h = b
below-four P a b c d (suc (suc zero)) h = c
below-four P a b c d (suc (suc (suc zero))) h = d
below-four P a b c d (suc (suc (suc (suc k)))) h = absurd (omega arith)

pub record Four (g : List Node) (p : List ℕ) (n : ℕ) (offsets : List ℕ) (skip r : ℕ) (w x y z : Condition) : Type 0 where
  pub rules : RulesAt g p n offsets
  pub numbers : four_numbers (node_at g n).variables ≡ true
  pub first : AtMost 8 (rank_count (node_at g n)) skip
  pub each : (k : ℕ) → k < 4 → Left g p n offsets skip r (w ∷ x ∷ y ∷ z ∷ []) k

pub four_init : (g : List Node) (p : List ℕ) (n : ℕ) (offsets : List ℕ) {skip : ℕ} (w x y z : Bounds) → RulesAt g p n offsets
    → four_numbers (node_at g n).variables ≡ true → AtMost 8 (rank_count (node_at g n)) skip
    → Number w.lo w.hi ≡ variable_at g n 0 → Number x.lo x.hi ≡ variable_at g n 1 → Number y.lo y.hi ≡ variable_at g n 2 → Number z.lo z.hi ≡ variable_at g n 3
    → Four g p n offsets skip 0 (range w.lo w.hi) (range x.lo x.hi) (range y.lo y.hi) (range z.lo z.hi)
unfolding own
four_init g p n offsets {skip} w x y z f t m ew ex ey ez =
    record {
      rules = f;
      numbers = t;
      first = m;
      each =
          below-four (Left g p n offsets skip 0 (range w.lo w.hi ∷ range x.lo x.hi ∷ range y.lo y.hi ∷ range z.lo z.hi ∷ []))
          (ap (narrowed_by (range_at p (skip + 8 * 0)) offsets) (ap own ew))
          (ap (narrowed_by (range_at p (skip + 8 * 1)) offsets) (ap own ex))
          (ap (narrowed_by (range_at p (skip + 8 * 2)) offsets) (ap own ey))
          (ap (narrowed_by (range_at p (skip + 8 * 3)) offsets) (ap own ez));
    }

module _ (g : List Node) (p : List ℕ) (n : ℕ) (offsets : List ℕ) (skip r : ℕ) (w x y z : Condition) (u : Four g p n offsets skip r w x y z) where
  abbrev vs : List Variable
  vs = (node_at g n).variables

  place : (k : ℕ) → k < 4 → ConditionIn g n k (skip + 8 * k) (variable_at g n k)
  unfolding offset_of
  place k l =
      let h = four_below vs k u.numbers l in
      record {
        below = h;
        is = refl;
        place = omega (arith, u.first.is, spans-numbers vs k (every-number vs u.numbers) (omega arith));
      }

  module _ (h : r < length offsets) (o : ℕ) (q : o ≡ get_or offsets r 0) where
    abbrev here_on : List ℕ
    here_on = stretch p o

    last : BytesAt p offsets (skip + 24 + 8)
    last =
        subst (λ (b : ℕ). BytesAt p offsets (skip + 24 + b)) (span-number (variable_at g n 3) (four_number vs 3 u.numbers (omega arith)))
        (conditions_bytes g p n offsets u.rules 3 (skip + 24) (variable_at g n 3) (place 3 (omega arith)))

    pub four_inside : o ≤ length p
    four_inside = omega (arith, q, stretch_inside p offsets r (skip + 24 + 8) last h)

    room : skip + 24 + 8 ≤ length here_on
    room = rw q (stretch_room p offsets r (skip + 24 + 8) last h)

    pub first_room : skip + 8 ≤ length here_on
    first_room = omega (arith, room)

    pub next_room : (k : ℕ) → k ≤ 24 → skip + k + 8 ≤ length here_on
    next_room k l = omega (arith, room)

    pub next_fits : (k : ℕ) → k ≤ 24 → Fits w64 (skip + k)
    next_fits k l = record { fits = omega (arith, u.first.most) }

    turn : (k at : ℕ) → at ≡ skip + 8 * k → (c d : Condition) → narrowed_by (range_at p (skip + 8 * k)) (drop r offsets) c ≡ narrowed_by (range_at p (skip + 8 * k)) offsets (own (variable_at g n k))
        → d ≡ both c (range (signed (be 4 here_on at)) (signed (be 4 here_on (at + 4))))
        → narrowed_by (range_at p (skip + 8 * k)) (drop (r + 1) offsets) d ≡ narrowed_by (range_at p (skip + 8 * k)) offsets (own (variable_at g n k))
    turn k at i c d s e =
        range_step p (skip + 8 * k) offsets r c s h o q
        (e ∙ ap (λ (j : ℕ). both c (range (signed (be 4 here_on j)) (signed (be 4 here_on (j + 4))))) i)

    pub four_step : (w' x' y' z' : Condition)
        → w' ≡ both w (range (signed (be 4 here_on skip)) (signed (be 4 here_on (skip + 4))))
        → x' ≡ both x (range (signed (be 4 here_on (skip + 8))) (signed (be 4 here_on (skip + 8 + 4))))
        → y' ≡ both y (range (signed (be 4 here_on (skip + 16))) (signed (be 4 here_on (skip + 16 + 4))))
        → z' ≡ both z (range (signed (be 4 here_on (skip + 24))) (signed (be 4 here_on (skip + 24 + 4))))
        → Four g p n offsets skip (r + 1) w' x' y' z'
    four_step w' x' y' z' ew ex ey ez =
        record {
          rules = u.rules;
          numbers = u.numbers;
          first = u.first;
          each =
              below-four (Left g p n offsets skip (r + 1) (w' ∷ x' ∷ y' ∷ z' ∷ []))
              (turn 0 skip (omega arith) w w' (u.each 0 (omega arith)) ew)
              (turn 1 (skip + 8) (omega arith) x x' (u.each 1 (omega arith)) ex)
              (turn 2 (skip + 16) (omega arith) y y' (u.each 2 (omega arith)) ey)
              (turn 3 (skip + 24) (omega arith) z z' (u.each 3 (omega arith)) ez);
        }

  -- all rows are behind
  done_at : length offsets ≤ r → (k : ℕ) → k < 4 → get_or (combined g (rules_at g p n offsets) n) k (mask 0) ≡ get_or (w ∷ x ∷ y ∷ z ∷ []) k (mask 0)
  unfolding combined
  done_at h k l =
      combined-at (rules_at g p n offsets) n 0 k vs (mask 0) (four_below vs k u.numbers l)
      ∙ ap (λ (j : ℕ). restrict_all (rules_at g p n offsets) n j (own (variable_at g n k))) (zero-add k)
      ∙ sym (narrowed_exit (range_at p (skip + 8 * k)) offsets r (get_or (w ∷ x ∷ y ∷ z ∷ []) k (mask 0)) (u.each k l) h
      ∙ of-ranges p (skip + 8 * k) (variable_at g n k) (four_number vs k u.numbers l) offsets (own (variable_at g n k))
      ∙ conditions_left g p n offsets u.rules k (skip + 8 * k) (variable_at g n k) (place k l) (own (variable_at g n k)))

  four_is : length offsets ≤ r → w ∷ x ∷ y ∷ z ∷ [] ≡ combined g (rules_at g p n offsets) n
  unfolding combined
  four_is h =
      ext_get_or (mask 0) (w ∷ x ∷ y ∷ z ∷ []) (combined g (rules_at g p n offsets) n) (sym (combined-length (rules_at g p n offsets) n 0 vs ∙ four-length vs u.numbers)) λ k l.
      sym (done_at h k l)

-- the record, as the code makes it of the bounds, has what the noted policies leave
pub four_exit : (x : Policies) (n : ℕ) (h : n < length (schema_of x.schema.bytes.now)) (os : List ℕ) → os ≡ offsets_in x.rows.now n → (skip r : ℕ) (a b c d : Bounds)
    → Four (schema_of x.schema.bytes.now) x.bytes.now n os skip r (range a.lo a.hi) (range b.lo b.hi) (range c.lo c.hi) (range d.lo d.hi) → length os ≤ r
    → mag a.lo < 2 ^ 31 → mag b.lo < 2 ^ 31 → mag c.lo < 2 ^ 31 → mag d.lo < 2 ^ 31
    → mag a.hi < 2 ^ 31 → mag b.hi < 2 ^ 31 → mag c.hi < 2 ^ 31 → mag d.hi < 2 ^ 31
    → ranges_in (record {
      lo = to_z w32 (of_z w32 a.lo) ∷ to_z w32 (of_z w32 b.lo) ∷ to_z w32 (of_z w32 c.lo) ∷ to_z w32 (of_z w32 d.lo) ∷ [];
      hi = to_z w32 (of_z w32 a.hi) ∷ to_z w32 (of_z w32 b.hi) ∷ to_z w32 (of_z w32 c.hi) ∷ to_z w32 (of_z w32 d.hi) ∷ [];
      mask = 0 ∷ 0 ∷ 0 ∷ 0 ∷ [];
    }) ≡ combined (schema_of x.schema.bytes.now) (noted (schema_of x.schema.bytes.now) x.bytes.now x.rows.now) n
unfolding ranges_in
four_exit x n h os e skip r a b c d u l al bl cl dl ah bh ch dh =
    rw (kept a.lo al, kept b.lo bl, kept c.lo cl, kept d.lo dl, kept a.hi ah, kept b.hi bh, kept c.hi ch, kept d.hi dh)
    (four_is (schema_of x.schema.bytes.now) x.bytes.now n os skip r (range a.lo a.hi) (range b.lo b.hi) (range c.lo c.hi) (range d.lo d.hi) u l
    ∙ row_combined x n h os e u.rules)
