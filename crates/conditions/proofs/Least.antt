-- The least values left at a node: each variable's own, found one after the other; the first without one ends it.
-- Rests on the model's `least`, on bits that are read back as the value, and on what the conditions at the offsets leave, in Rules.
use mathlib.Core.Path.{◌≡◌, refl, ap, ap₂, sym, ◌∙◌}
use mathlib.Core.Bool.{Bool, true, false, cond}
use mathlib.Core.List.{List, [], ◌∷◌}
use mathlib.Core.Option.{Option, none, some}
use Prim.Native.Nat.{ℕ, zero, suc, ◌+◌, ◌*◌, ◌≤◌, ◌<◌, ◌^◌}
use native.Mathlib.Omega.{arith}
use native.Mathlib.Nat.{add-zero, zero-add}
use native.Mathlib.Decide.{dec_lt}
use borrow.Author.Tests.{eq-eqb, ne_eqb}
use lib.ListN.{length, get_or, set, length-set}
use lib.Seq.{get_or-set_same, get_or-set_other}
use lib.IntN.{ℤ, pos}
use lib.Signed.{le_z, mag}
use mir.Syntax.{w32, w64}
use mir.Val.{Fits, to_z, of_z}
use Rattle.std.specs.Prelude.{None, Some}
use Rattle.fields.proofs.Tests.{never}
use Rattle.numbers.specs.Bits.{ones}
use Rattle.numbers.specs.Lowest.{Lowest}
use Rattle.schema.specs.Schema.{Node, schema_of, node_at, no_variable, variable_at}
use Rattle.schema.specs.Table.{AtMost}
use Rattle.schema.specs.declared.Variable.{Variable}
use Rattle.schema.specs.declared.Variable.TheVariants.{Number, Listed}
use Rattle.schema.specs.Layout.{rank_count, span, offset_of}
use Rattle.schema.proofs.Sound.{SoundVariables}
use Rattle.schema.proofs.Accepted.{sound_of}
use Rattle.policies.specs.Policies.{Condition, range, mask, Policy}
use Rattle.policies.specs.Rows.{rules_at, noted, offsets_in, RulesAt, BytesAt}
use Rattle.policies.specs.declared.Policies.{Policies}
use Rattle.policies.proofs.Nodes.{offset-first, offset-next}
use Rattle.instances.specs.File.{value_of}
use Rattle.instances.specs.Plan.{values_from}
use Rattle.model.specs.Reconciling.{own, restrict_all, combined_from, combined, is_some, least, least_each, with_head}
use Rattle.model.proofs.Values.{combined-at}
use Rattle.conditions.specs.Least.{LeastIn, range_in, condition_of}
use Rattle.conditions.specs.declared.Conditions.{Conditions}
use Rattle.conditions.specs.Rules.{range_at, mask_at, condition_in, value_in, narrowed_by, size_of}
use Rattle.conditions.proofs.Rules.{ConditionIn, conditions_bytes, conditions_left}
use Rattle.conditions.proofs.Row.{row_combined}
use Rattle.conditions.proofs.Narrowing.{kept}

-- ---- conditions, each with the least value that it leaves

pub combined-length : (qs : List Policy) (n k : ℕ) (vs : List Variable) → length (combined_from qs n k vs) ≡ length vs
unfolding combined_from
combined-length qs n k [] = refl
combined-length qs n k (v ∷ vs) = ap suc (combined-length qs n (k + 1) vs)

each_none : (cs : List Condition) (k : ℕ) → k < length cs → least (get_or cs k (mask 0)) ≡ none → least_each cs ≡ none
unfolding least_each
each_none [] k h e = absurd (omega arith)
each_none (c ∷ cs) zero h e = rw e
each_none (c ∷ cs) (suc k) h e = rw (each_none cs k (omega arith) e) (go (least c))
  where
    go : (o : Option ℤ) → with_head o none ≡ none
    go none = refl
    go (some x) = refl

each-some : (vs : List Variable) (cs : List Condition) (t : List ℕ) (b : ℕ) → length cs ≡ length vs
    → ((k : ℕ) → k < length vs → least (get_or cs k (mask 0)) ≡ some (value_of (get_or vs k no_variable) (get_or t (b + k) 0)))
    → least_each cs ≡ some (values_from vs t b)
unfolding least_each values_from
each-some [] [] t b l f = refl
each-some [] (c ∷ cs) t b l f = absurd (omega arith)
each-some (v ∷ vs) [] t b l f = absurd (omega arith)
each-some (v ∷ vs) (c ∷ cs) t b l f =
    let x : least c ≡ some (value_of v (get_or t b 0)) = f 0 (omega arith) ∙ ap {B = Option ℤ} (λ (i : ℕ). some (value_of v (get_or t i 0))) (add-zero b) in
    let y = each-some vs cs t (b + 1) (omega arith) (λ k h.
    f (suc k) (omega arith)
    ∙ ap {B = Option ℤ} (λ (i : ℕ). some (value_of (get_or vs k no_variable) (get_or t i 0))) (let z : b + suc k ≡ b + 1 + k = omega arith in z)) in
    rw (x, y)

pub values-some : (vs : List Variable) (cs : List Condition) (t : List ℕ) → length cs ≡ length vs
    → ((k : ℕ) → k < length vs → least (get_or cs k (mask 0)) ≡ some (value_of (get_or vs k no_variable) (get_or t k 0)))
    → least_each cs ≡ some (values_from vs t 0)
values-some vs cs t l f =
    each-some vs cs t 0 l (λ k h. f k h ∙ ap {B = Option ℤ} (λ (i : ℕ). some (value_of (get_or vs k no_variable) (get_or t i 0))) (sym (zero-add k)))

-- ---- one variable: what the record holds of it, and the least value that is left

none_left : (o : Option ℤ) → is_some o ≡ false → none ≡ o
none_left none e = refl
none_left (some x) e = never (sym e)

pub left-range : (a b : ℤ) → is_some (least (range a b)) ≡ le_z a b
unfolding least
left-range a b = go (le_z a b)
  where
    go : (t : Bool) → is_some (cond t (some a) none) ≡ t
    go true = refl
    go false = refl

module _ (c : Conditions) (k : ℕ) where
  abbrev lo : ℤ
  lo = get_or c.lo k (pos 0)

  abbrev hi : ℤ
  hi = get_or c.hi k (pos 0)

  pub number_left : mag lo < 2 ^ 31 → mag hi < 2 ^ 31 → le_z (to_z w32 (of_z w32 lo)) (to_z w32 (of_z w32 hi)) ≡ is_some (least (range_in c k))
  number_left f g = ap₂ le_z (kept lo f) (kept hi g) ∙ sym (left-range lo hi)

  pub number_none : (v : Variable) {a b : ℤ} → v ≡ Number a b → {t : Bool} → t ≡ is_some (least (range_in c k)) → t ≡ false → value_in v None ≡ least (condition_of c k v)
  unfolding value_in condition_of
  number_none v e d t = none_left (least (range_in c k)) (sym d ∙ t) ∙ ap (λ (v : Variable). least (condition_of c k v)) (sym e)

  pub number_some : (v : Variable) {a b : ℤ} → v ≡ Number a b → {t : Bool} → t ≡ is_some (least (range_in c k)) → t ≡ true → mag lo < 2 ^ 31 → (u : ℕ) → u ≡ of_z w32 (to_z w32 (of_z w32 lo))
      → value_in v (Some u) ≡ least (condition_of c k v)
  unfolding value_in value_of condition_of least
  number_some v e d t f u i =
      ap {B = Option ℤ} (λ (v : Variable). some (value_of v u)) e
      ∙ ap {B = Option ℤ} some (ap (to_z w32) (i ∙ ap (of_z w32) (kept lo f)) ∙ kept lo f)
      ∙ sym (rw (sym (left-range lo hi) ∙ sym d ∙ t) refl)
      ∙ ap (λ (v : Variable). least (condition_of c k v)) (sym e)

  pub mask_none : (size : ℕ) → get_or c.mask k 0 ≡ 0 → value_in (Listed size) None ≡ least (condition_of c k (Listed size))
  unfolding value_in condition_of least
  mask_none size e = sym (rw (eq-eqb (get_or c.mask k 0) 0 e) refl)

  pub mask_some : (size : ℕ) → (get_or c.mask k 0 ≡ 0 → ⊥) → (u : ℕ) → Lowest 32 (get_or c.mask k 0) u → value_in (Listed size) (Some u) ≡ least (condition_of c k (Listed size))
  unfolding value_in value_of condition_of least
  mask_some size f u l = sym (rw (ne_eqb (get_or c.mask k 0) 0 f) (ap {B = Option ℤ} (λ (j : ℕ). some (pos j)) (sym l.is)))

-- narrowed, it is what the conditions leave
module _ (c : Conditions) (k : ℕ) (p : List ℕ) (skip : ℕ) (os : List ℕ) where
  pub combined_range : (v : Variable) (lo hi : ℤ) → v ≡ Number lo hi → mag lo < 2 ^ 31 → mag hi < 2 ^ 31 → (a b : ℤ) → mag a < 2 ^ 31 → mag b < 2 ^ 31
      → range a b ≡ narrowed_by (range_at p skip) os (range (to_z w32 (of_z w32 lo)) (to_z w32 (of_z w32 hi))) → k < length c.lo → k < length c.hi
      → condition_of (record { lo = set c.lo k (to_z w32 (of_z w32 a)); hi = set c.hi k (to_z w32 (of_z w32 b)); mask = c.mask }) k v ≡ narrowed_by (condition_in p skip v) os (own v)
  unfolding own condition_in condition_of
  combined_range v lo hi e fl fh a b fa fb d jl jh =
      ap (condition_of (record { lo = set c.lo k (to_z w32 (of_z w32 a)); hi = set c.hi k (to_z w32 (of_z w32 b)); mask = c.mask }) k) e
      ∙ ap₂ range (get_or-set_same c.lo k (to_z w32 (of_z w32 a)) (pos 0) jl ∙ kept a fa) (get_or-set_same c.hi k (to_z w32 (of_z w32 b)) (pos 0) jh ∙ kept b fb)
      ∙ d
      ∙ ap (narrowed_by (range_at p skip) os) (ap₂ range (kept lo fl) (kept hi fh))
      ∙ ap (λ (v : Variable). narrowed_by (condition_in p skip v) os (own v)) (sym e)

  pub combined_mask : (size m : ℕ) → mask m ≡ narrowed_by (mask_at p skip) os (mask (ones size)) → k < length c.mask
      → condition_of (record { lo = c.lo; hi = c.hi; mask = set c.mask k m }) k (Listed size) ≡ narrowed_by (condition_in p skip (Listed size)) os (own (Listed size))
  unfolding own condition_in condition_of
  combined_mask size m d j = ap mask (get_or-set_same c.mask k m 0 j) ∙ d

-- ---- all of a node's

module _ (g : List Node) (qs : List Policy) (n : ℕ) where
  abbrev cs : List Condition
  cs = combined g qs n

  abbrev vs : List Variable
  vs = (node_at g n).variables

  long_as : length cs ≡ length vs
  unfolding combined
  long_as = combined-length qs n 0 vs

  pub least_none : (t : List ℕ) (k : ℕ) → k < length vs → least (get_or cs k (mask 0)) ≡ none → LeastIn g n cs t false
  least_none t k h e =
      let q = each_none cs k (omega (arith, long_as)) e in
      record { found = sym (ap is_some q); values = λ y. never y }

  pub least_all : (t : List ℕ) → ((k : ℕ) → k < length vs → least (get_or cs k (mask 0)) ≡ some (value_of (get_or vs k no_variable) (get_or t k 0))) → LeastIn g n cs t true
  least_all t f =
      let q = values-some vs cs t long_as f in
      record { found = sym (ap is_some q); values = λ y. q }

-- what an accepted schema says of a variable's size
size-sound : (vs : List Variable) (k : ℕ) → SoundVariables vs → k < length vs → size_of (get_or vs k no_variable) ≤ 32
unfolding size_of
size-sound [] k s h = absurd (omega arith)
size-sound (Number lo hi ∷ vs) zero s h = omega arith
size-sound (Listed size ∷ vs) zero s h = s.0.1
size-sound (v ∷ vs) (suc k) s h = size-sound vs k s.1 (omega arith)

span_most : (v : Variable) → span v ≤ 8
unfolding span
span_most (Number lo hi) = omega arith
span_most (Listed size) = omega arith

-- ---- the loop over a node's variables: those before k have their least values

pub record Finding (g : List Node) (qs : List Policy) (n k skip : ℕ) (t : List ℕ) : Type 0 where
  pub place : skip ≡ offset_of (node_at g n) k
  pub small : skip ≤ 8 + 8 * k
  pub each : (i : ℕ) → i < k → least (get_or (combined g qs n) i (mask 0)) ≡ some (value_of (get_or (node_at g n).variables i no_variable) (get_or t i 0))
  pub long : length t ≡ 4

pub finding_init : (g : List Node) (qs : List Policy) (n : ℕ) (t : List ℕ) {skip : ℕ} → length t ≡ 4 → AtMost 8 (rank_count (node_at g n)) skip → Finding g qs n 0 skip t
finding_init g qs n t l m = record { place = offset-first (node_at g n) m; small = omega (arith, m.most); each = λ i h. absurd (omega arith); long = l }

-- a node without variables has them all
pub least_empty : (g : List Node) (qs : List Policy) (n : ℕ) (t : List ℕ) {v : ℕ} → AtMost 4 (length (node_at g n).variables) v → v ≡ 0 → LeastIn g n (combined g qs n) t true
least_empty g qs n t m e = least_all g qs n t (λ i h. absurd (omega (arith, m.is)))

module _ (x : Policies) (n k skip : ℕ) (t : List ℕ) (h : n < length (schema_of x.schema.bytes.now)) (w : Finding (schema_of x.schema.bytes.now) (noted (schema_of x.schema.bytes.now) x.bytes.now x.rows.now) n k skip t)
    {c : ℕ} (m : AtMost 4 (length (node_at (schema_of x.schema.bytes.now) n).variables) c) where
  abbrev g : List Node
  g = schema_of x.schema.bytes.now

  abbrev p : List ℕ
  p = x.bytes.now

  abbrev qs : List Policy
  qs = noted g p x.rows.now

  pub finding_exit : c ≤ k → LeastIn g n (combined g qs n) t true
  finding_exit l = least_all g qs n t (λ i h. w.each i (omega (arith, m.is)))

  module _ (l : k < c) where
    below : k < length (node_at g n).variables
    below = omega (arith, m.is)

    -- its condition ends inside a PN
    pub finding_fits : (v : Variable) (d : ℕ) → d ≡ span v → Fits w64 (skip + d)
    finding_fits v d e = record { fits = omega (arith, w.small, m.most, e, span_most v) }

    -- what its values are, and where its conditions stand
    module _ (v : Variable) (e : v ≡ variable_at g n k) where
      pub size_small : size_of v ≤ 32
      size_small = rw e (size-sound (node_at g n).variables k ((sound_of x.schema.bytes.now (let z = h in omega arith)).nodes n h).variables below)

      module _ (os : List ℕ) (i : os ≡ offsets_in x.rows.now n) (f : RulesAt g p n os) where
        place : ConditionIn g n k skip v
        place = record { below = below; is = e; place = w.place }

        pub condition_bytes : BytesAt p os (skip + span v)
        condition_bytes = conditions_bytes g p n os f k skip v place

        this : get_or (combined g qs n) k (mask 0) ≡ narrowed_by (condition_in p skip v) os (own v)
        unfolding combined
        this =
            ap (λ (cs : List Condition). get_or cs k (mask 0)) (sym (row_combined x n h os i f))
            ∙ combined-at (rules_at g p n os) n 0 k (node_at g n).variables (mask 0) below
            ∙ ap₂ (λ (j : ℕ) (u : Variable). restrict_all (rules_at g p n os) n j (own u)) (zero-add k) (sym e)
            ∙ sym (conditions_left g p n os f k skip v place (own v))

        pub finding_none : {d : Condition} → d ≡ narrowed_by (condition_in p skip v) os (own v) → value_in v None ≡ least d → LeastIn g n (combined g qs n) t false
        unfolding value_in
        finding_none f q = least_none g qs n t k below (ap least (this ∙ sym f) ∙ sym q)

        pub finding_some : {b : Condition} → b ≡ narrowed_by (condition_in p skip v) os (own v) → (u d : ℕ) → value_in v (Some u) ≡ least b → d ≡ span v
            → Finding g qs n (k + 1) (skip + d) (set t k u)
        unfolding value_in
        finding_some f u d q z =
            record {
              place = ap (λ (j : ℕ). skip + j) (z ∙ ap span e) ∙ offset-next (node_at g n) k w.place below;
              small = omega (arith, w.small, z, span_most v);
              each = λ i j. one i j (dec_lt i k);
              long = length-set t k u ∙ w.long;
            }
          where
            one : (i : ℕ) → i < k + 1 → Dec (i < k) → least (get_or (combined g qs n) i (mask 0)) ≡ some (value_of (get_or (node_at g n).variables i no_variable) (get_or (set t k u) i 0))
            one i j (yes y) =
                w.each i y ∙ ap {B = Option ℤ} (λ (j : ℕ). some (value_of (get_or (node_at g n).variables i no_variable) j)) (sym (get_or-set_other t k i u 0 (λ z. omega arith)))
            one i j (no y) =
                let s : i ≡ k = omega arith in
                rw s
                (ap least (this ∙ sym f) ∙ sym q
                ∙ ap₂ {C = Option ℤ} (λ (v : Variable) (j : ℕ). some (value_of v j)) e (sym (get_or-set_same t k u 0 (omega (arith, w.long, m.most)))))
