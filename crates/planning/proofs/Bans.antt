-- Which successors stay: a set loses those whose column is banned.
-- Rests on the laws of the columns that ranks answers, and on the successors of a sound schema.
use mathlib.Core.Path.{◌≡◌, refl, ap, sym, subst, ◌∙◌}
use mathlib.Core.Bool.{Bool, true, false, not, ◌&&◌}
use mathlib.Core.List.{List, [], ◌∷◌}
use Rattle.std.specs.List.{fold}
use Prim.Native.Nat.{ℕ, zero, suc, ◌+◌, ◌≤◌, ◌<◌, max}
use native.Mathlib.Omega.{arith}
use native.Mathlib.Decide.{dec_lt}
use borrow.Author.Tests.{eq-eqb, ne_eqb, eqb-true, ltb-true}
use lib.Dec.{eqb, ltb}
use lib.ListN.{length, get_or}
use Rattle.fields.proofs.Tests.{and_yes, and-true, not-not, not_yes, never, alike}
use Rattle.numbers.specs.Bits.{bit, without}
use Rattle.numbers.proofs.Bits.{without-bit}
use Rattle.schema.specs.Schema.{Node, schema_of, node_at}
use Rattle.schema.specs.Layout.{rank_count}
use Rattle.schema.proofs.Accepted.{sound_of}
use Rattle.policies.specs.Policies.{Policy}
use Rattle.policies.specs.Rows.{noted, offsets_in}
use Rattle.policies.specs.declared.Policies.{Policies}
use Rattle.instances.specs.Instance.{elem, chooses}
use Rattle.model.specs.Satisfaction.{allowed}
use Rattle.model.proofs.Lists.{at-elem, Place, elem_at}
use Rattle.instances.proofs.Valid.{successor-in}
use Rattle.instances.proofs.Node.{chooses_columns}
use Rattle.ranks.specs.Ranks.{allowed_column, Bans}
use Rattle.ranks.proofs.Ranks.{allowed-successor}
use Rattle.planning.specs.Sweep.{NoneBanned, Allowed}
use Rattle.planning.proofs.Unnamed.{unnamed-allowed}

-- column k is not banned
abbrev pub unbanned : List ℕ → ℕ → Bool
unbanned bans k = not (eqb (get_or bans k 0) 255)

-- ---- the greatest of all is below 255

fold-over : (xs : List ℕ) (a : ℕ) → (a ≤ fold max a xs) × ((k : ℕ) → k < length xs → get_or xs k 0 ≤ fold max a xs)
fold-over [] a = (omega arith, λ k h. absurd (omega arith))
fold-over (x ∷ xs) a = let w = fold-over xs (max a x) in (omega (arith, w.0), one w)
  where
    one : (max a x ≤ fold max (max a x) xs) × ((k : ℕ) → k < length xs → get_or xs k 0 ≤ fold max (max a x) xs) → (k : ℕ) → k < suc (length xs) → get_or (x ∷ xs) k 0 ≤ fold max (max a x) xs
    one w zero h = omega (arith, w.0)
    one w (suc k) h = w.1 k (omega arith)

pub none_banned : (t : List ℕ) (r : ℕ) → length t ≡ 8 → r ≡ fold max 0 t → NoneBanned t (ltb r 255)
none_banned t r l e = record { each = λ q k v z. let y = (fold-over t 0).1 k (omega arith) in let x = ltb-true r 255 q in omega arith }

-- ---- the columns so far

pub record Dropping (g : List Node) (n : ℕ) (bans : List ℕ) (set k r : ℕ) : Type 0 where
  pub upto : k ≤ length (node_at g n).successors
  pub within : (x : ℕ) → bit r x ≡ true → bit set x ≡ true
  pub clear : (x i : ℕ) → bit r x ≡ true → i < k → get_or (node_at g n).successors i 0 ≡ x → unbanned bans i ≡ true
  pub stays : (x : ℕ) → bit set x ≡ true → ((i : ℕ) → i < k → get_or (node_at g n).successors i 0 ≡ x → unbanned bans i ≡ true) → bit r x ≡ true

pub dropping_init : (g : List Node) (n : ℕ) (bans : List ℕ) (set : ℕ) → Dropping g n bans set 0 set
dropping_init g n bans set = record { upto = omega arith; within = λ x t. t; clear = λ x i t h. absurd (omega arith); stays = λ x t f. t }

module _ (schema : List ℕ) (n : ℕ) (bans : List ℕ) (set k r : ℕ) (w : Dropping (schema_of schema) n bans set k r) (v : n < length (schema_of schema))
    (xs : List ℕ) (c : xs ≡ (node_at (schema_of schema) n).successors) (l : k < length xs) where
  pub dropping_keep : {r' : ℕ} → (get_or bans k 0 ≡ 255 → ⊥) → r' ≡ r → Dropping (schema_of schema) n bans set (k + 1) r'
  dropping_keep q s = rw s (record { upto = omega (arith, ap length c); within = w.within; clear = λ x i t h a. clear x i t h a (dec_lt i k); stays = λ x t f. w.stays x t (λ i h. f i (omega arith)) })
    where
      clear : (x i : ℕ) → bit r x ≡ true → i < k + 1 → get_or (node_at (schema_of schema) n).successors i 0 ≡ x → Dec (i < k) → unbanned bans i ≡ true
      clear x i t h a (yes o) = w.clear x i t o a
      clear x i t h a (no o) = let z : i ≡ k = omega arith in rw z (ap not (ne_eqb (get_or bans k 0) 255 q))

  pub dropping_step : {y r₂ r₁ : ℕ} → get_or bans k 0 ≡ 255 → y ≡ get_or xs k 0 → r₂ ≡ without r y → r₁ ≡ r₂ → Dropping (schema_of schema) n bans set (k + 1) r₁
  dropping_step {y} {r₁ = r₁} q u₀ z₂ z₁ =
      record {
        upto = omega (arith, ap length c);
        within = λ x t. w.within x (parts x t).0;
        clear = λ x i t h a. clear x i t h a (dec_lt i k);
        stays = λ x t f. ap (λ (m : ℕ). bit m x) z ∙ without-bit r y x small ∙ and_yes (w.stays x t (λ i h. f i (omega arith))) (not-not (eqb x y) (λ o. absurd (apart x f (eqb-true x y o))));
      }
    where
      u : y ≡ get_or (node_at (schema_of schema) n).successors k 0
      u = u₀ ∙ ap (λ (l : List ℕ). get_or l k 0) c

      z : r₁ ≡ without r y
      z = z₁ ∙ z₂

      small : y < 64
      small =
          let A = sound_of schema (omega arith) in
          omega (arith, A.few, (successor-in (schema_of schema) A n y (subst (λ (i : ℕ). elem i (node_at (schema_of schema) n).successors ≡ true) (sym u) (at-elem (node_at (schema_of schema) n).successors k (omega (arith, ap length c))))).1)

      parts : (x : ℕ) → bit r₁ x ≡ true → (bit r x ≡ true) × (not (eqb x y) ≡ true)
      parts x t = and-true (bit r x) (not (eqb x y)) (sym (without-bit r y x small) ∙ ap (λ (m : ℕ). bit m x) (sym z) ∙ t)

      apart : (x : ℕ) → ((i : ℕ) → i < k + 1 → get_or (node_at (schema_of schema) n).successors i 0 ≡ x → unbanned bans i ≡ true) → x ≡ y → ⊥
      apart x f o = never (sym (ap not (eq-eqb (get_or bans k 0) 255 q)) ∙ f k (omega arith) (sym u ∙ sym o))

      clear : (x i : ℕ) → bit r₁ x ≡ true → i < k + 1 → get_or (node_at (schema_of schema) n).successors i 0 ≡ x → Dec (i < k) → unbanned bans i ≡ true
      clear x i t h a (yes o) = w.clear x i (parts x t).0 o a
      clear x i t h a (no v) =
          let o : i ≡ k = omega arith in
          let j : x ≡ y = sym a ∙ ap (λ (c : ℕ). get_or (node_at (schema_of schema) n).successors c 0) o ∙ sym u in
          absurd (not_yes (eqb x y) (parts x t).1 (eq-eqb x y j))

-- ---- what the policies say

module _ (schema : List ℕ) (qs : List Policy) (n : ℕ) (bans : List ℕ) (low : n < length (schema_of schema)) (q : chooses (node_at (schema_of schema) n) ≡ true)
    (B : Bans (allowed_column qs n) (rank_count (node_at (schema_of schema) n)) bans) where
  abbrev g : List Node
  g = schema_of schema

  same-allowed : (k : ℕ) → k < length (node_at g n).successors → unbanned bans k ≡ allowed g qs n (get_or (node_at g n).successors k 0)
  same-allowed k l =
      let i : k < rank_count (node_at g n) = omega (arith, chooses_columns (node_at g n) q) in
      B.each k i ∙ allowed-successor g (sound_of schema (omega arith)) qs n low k i

  dropping-all : (set k r : ℕ) → Dropping g n bans set k r → length (node_at g n).successors ≤ k → Allowed g qs n set r
  dropping-all set k r w l =
      record {
        successors = λ x m. inside x (elem_at (node_at g n).successors x m);
        others = λ x m. alike (bit r x) (bit set x) (w.within x) (λ t. w.stays x t (λ i v a. never (sym m ∙ subst (λ (z : ℕ). elem z (node_at g n).successors ≡ true) a (at-elem (node_at g n).successors i (omega (arith, w.upto))))));
      }
    where
      inside : (x : ℕ) → Place (node_at g n).successors x → bit r x ≡ bit set x && allowed g qs n x
      inside x u =
          alike (bit r x) (bit set x && allowed g qs n x)
          (λ t. and_yes (w.within x t) (ap (allowed g qs n) (sym u.is) ∙ sym (same-allowed u.place u.inside) ∙ w.clear x u.place t (omega (arith, u.inside)) u.is))
          (λ t. let z = and-true (bit set x) (allowed g qs n x) t in
          w.stays x z.0 (λ i v a. same-allowed i (omega (arith, w.upto)) ∙ ap (allowed g qs n) a ∙ z.1))

  pub dropping_exit : (set k r : ℕ) → Dropping g n bans set k r → (xs : List ℕ) → xs ≡ (node_at g n).successors → length xs ≤ k → Allowed g qs n set r
  dropping_exit set k r w xs e l = dropping-all set k r w (omega (arith, ap length e))

  -- no column is banned
  pub allowed_unbanned : (set : ℕ) {r : Bool} → NoneBanned bans r → r ≡ true → Allowed g qs n set set
  allowed_unbanned set w t =
      dropping-all set (length (node_at g n).successors) set
      (record { upto = omega arith; within = λ x t. t; clear = λ x i t l a. free i (omega (arith, ((sound_of schema (omega arith)).nodes n low).few)); stays = λ x t f. t }) (omega arith)
    where
      free : (i : ℕ) → i < 8 → unbanned bans i ≡ true
      free i l = ap not (ne_eqb (get_or bans i 0) 255 (w.each t i l))

-- no policy names the node
pub allowed_unnamed : (x : Policies) (n : ℕ) (h : n < length (schema_of x.schema.bytes.now)) (os : List ℕ) → os ≡ offsets_in x.rows.now n → {b : Bool} → b ≡ eqb (length os) 0 → b ≡ true → (set : ℕ)
    → Allowed (schema_of x.schema.bytes.now) (noted (schema_of x.schema.bytes.now) x.bytes.now x.rows.now) n set set
allowed_unnamed x n h os i a b set =
    record { successors = λ y m. sym (ap (λ (b : Bool). bit set y && b) (unnamed-allowed x n h os i (eqb-true (length os) 0 (sym a ∙ b)) y) ∙ and-all (bit set y)); others = λ y m. refl }
  where
    and-all : (a : Bool) → a && true ≡ a
    and-all true = refl
    and-all false = refl
