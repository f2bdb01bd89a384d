-- The successor that comes first in a set: the one whose column the order picks, or the lowest where nothing else is to be looked at.
-- Rests on the gathered ranks, which order the successors as the policies do, and on `best` over a strict and total order.
use mathlib.Core.Path.{◌≡◌, ap, sym, subst, ◌∙◌}
use mathlib.Core.Bool.{Bool, true, not}
use mathlib.Core.List.{List}
use mathlib.Core.Option
use mathlib.Core.Option.{Option, none, some}
use Prim.Native.Nat.{ℕ, ◌<◌}
use native.Mathlib.Omega.{arith}
use native.Mathlib.Decide.{ℕ_discrete}
use borrow.Author.Tests.{le-ltb, ne_eqb, eqb-true}
use lib.Dec.{eqb, ltb}
use lib.ListN.{length, get_or, take}
use Rattle.fields.proofs.Tests.{and_yes, never}
use Rattle.numbers.specs.Bits.{bit, without}
use Rattle.numbers.specs.Lowest.{Lowest}
use Rattle.numbers.proofs.Bits.{lowest-bit, tz-least, no-bit, no_bits, without-bit}
use Rattle.schema.specs.Schema.{Node, schema_of, node_at}
use Rattle.schema.specs.Layout.{rank_count}
use Rattle.schema.proofs.Sound.{Sound}
use Rattle.schema.proofs.Accepted.{sound_of}
use Rattle.policies.specs.Policies.{Policy}
use Rattle.policies.specs.Rows.{noted, offsets_in}
use Rattle.policies.specs.declared.Policies.{Policies}
use Rattle.instances.specs.Instance.{elem, chooses}
use Rattle.instances.proofs.Node.{chooses_columns}
use Rattle.model.specs.Order.{better}
use Rattle.model.specs.Reconciling.{best}
use Rattle.model.proofs.Lists.{at-elem, Place, elem_at}
use Rattle.model.proofs.Successors.{IsBest, no-best, a-best, best-is, best-at, best-only}
use Rattle.model.proofs.Ranks.{better-strict, better-total}
use Rattle.model.specs.Ranks.{count_up, better_in}
use Rattle.order.specs.Order.{in_set, first_column, Picked}
use Rattle.order.proofs.Best.{in-strict, count-length, count_of}
use Rattle.ranks.specs.Ranks.{better_column, RanksGathered}
use Rattle.ranks.proofs.Ranks.{better-gathered}
use Rattle.planning.specs.Sweep.{SuccessorsIn, Choice, Chosen}
use Rattle.planning.proofs.Unnamed.{unnamed-better}

-- ---- by the gathered ranks

module _ (schema : List ℕ) (qs : List Policy) (n : ℕ) (low : n < length (schema_of schema)) (w : chooses (node_at (schema_of schema) n) ≡ true) (eligible rows : ℕ) (t : List (List ℕ)) (set xs : List ℕ)
    (e : xs ≡ (node_at (schema_of schema) n).successors)
    (R : RanksGathered (better_column qs n) (rank_count (node_at (schema_of schema) n)) t rows) (S : SuccessorsIn xs eligible set) (C : Choice (schema_of schema) n eligible) where
  A : Sound (schema_of schema)
  A = sound_of schema (omega arith)

  columns : length xs ≡ rank_count (node_at (schema_of schema) n)
  columns = ap length e ∙ sym (chooses_columns (node_at (schema_of schema) n) w)

  at : ℕ → ℕ
  at k = get_or (node_at (schema_of schema) n).successors k 0

  in_list : (k : ℕ) → k < length xs → k < length (node_at (schema_of schema) n).successors
  in_list k h = omega (arith, ap length e)

  marked : (k : ℕ) → k < length xs → in_set set k ≡ bit eligible (at k)
  unfolding at
  marked k h = S.each k h ∙ ap (λ (l : List ℕ). bit eligible (get_or l k 0)) e

  same-better : (x y : ℕ) → x < length xs → y < length xs → better_in (take rows t) x y ≡ better (schema_of schema) qs n (at x) (at y)
  unfolding at
  same-better x y h k = better-gathered (schema_of schema) A qs n low t R x y (omega (arith, columns)) (omega (arith, columns))

  counted : (k : ℕ) → k < length xs → elem k (count_up (length xs) 0) ≡ true
  counted k h = subst (λ (y : ℕ). elem y (count_up (length xs) 0) ≡ true) (count_of (length xs) k h) (at-elem (count_up (length xs) 0) k (omega (arith, count-length (length xs) 0)))

  record Picks (r : ℕ) : Type 0 where
    pub inside : r < length xs
    pub is : best (bit eligible) (better (schema_of schema) qs n) (node_at (schema_of schema) n).successors ≡ some (at r)

  picks : (o : Option ℕ) → IsBest (in_set set) (better_in (take rows t)) (count_up (length xs) 0) o → Picks (Option.get_or o 8)
  unfolding at
  picks none (no-best f) =
      absurd (let z : eligible ≡ 0 = no_bits eligible (λ x b. found (elem_at (node_at (schema_of schema) n).successors x (C.successors x b)) b) in let y = C.some_in in omega arith)
    where
      found : {x : ℕ} → Place (node_at (schema_of schema) n).successors x → bit eligible x ≡ true → ⊥
      found u b =
          let l : u.place < length xs = omega (arith, ap length e, u.inside) in
          f u.place (counted u.place l) (marked u.place l ∙ ap (bit eligible) u.is ∙ b)
  picks (some z) (a-best v) =
      let q = elem_at (count_up (length xs) 0) z v.among in
      let l : z < length xs = let p = q.inside in let y = count_of (length xs) q.place (omega (arith, count-length (length xs) 0)) in let x = q.is in omega (arith, count-length (length xs) 0) in
      record {
        inside = l;
        is = best-at (bit eligible) (better (schema_of schema) qs n) (better-strict (schema_of schema) qs n) (node_at (schema_of schema) n).successors (better-total (schema_of schema) qs n) z (in_list z l)
            (sym (marked z l) ∙ v.passes)
            (λ k h m b. let y : k < length xs = omega (arith, ap length e) in v.unbeaten k (counted k y) (marked k y ∙ m) (same-better k z y l ∙ b));
      }

  module _ {r : ℕ} (P : Picked (take rows t) set (length xs) r) where
    by-table : Picks r
    unfolding first_column
    by-table = subst Picks (sym P.is) (picks (best (in_set set) (better_in (take rows t)) (count_up (length xs) 0)) (best-is (in_set set) (better_in (take rows t)) (in-strict (take rows t)) (count_up (length xs) 0)))

    pub picked_inside : r < length xs
    picked_inside = by-table.inside

    pub chosen_by_ranks : {x : ℕ} → x ≡ get_or xs r 0 → Chosen (schema_of schema) qs n eligible x
    unfolding at
    chosen_by_ranks u = record { is = by-table.is ∙ ap {B = Option ℕ} some (sym (u ∙ ap (λ (l : List ℕ). get_or l r 0) e)) }

-- ---- without the ranks

module _ (g : List Node) (qs : List Policy) (n eligible : ℕ) {x : ℕ} (C : Choice g n eligible) (l : Lowest 64 eligible x) where
  first-in : bit eligible x ≡ true
  first-in = lowest-bit 64 eligible l

  chosen-first : ((y : ℕ) → bit eligible y ≡ true → better g qs n y x ≡ true → ⊥) → Chosen g qs n eligible x
  chosen-first f =
      record {
        is = best-only (bit eligible) (better g qs n) (better-strict g qs n) (node_at g n).successors (better-total g qs n) x
            (record { among = C.successors x first-in; passes = first-in; unbeaten = λ y m. f y });
      }

  -- no other is in the set
  pub chosen_single : {m : ℕ} → m ≡ without eligible x → eqb m 0 ≡ true → Chosen g qs n eligible x
  chosen_single {m} e q = chosen-first (λ y b. go y b (ℕ_discrete y x))
    where
      z : m ≡ 0
      z = eqb-true m 0 q

      go : (y : ℕ) → bit eligible y ≡ true → Dec (y ≡ x) → better g qs n y x ≡ true → ⊥
      go y b (yes q) r = (better-strict g qs n).irreflexive x (subst (λ (i : ℕ). better g qs n i x ≡ true) q r)
      go y b (no q) r =
          never (sym (no-bit y) ∙ ap (λ (m : ℕ). bit m y) (sym z ∙ e) ∙ without-bit eligible x y l.small ∙ and_yes b (ap not (ne_eqb y x q)))

  -- no policy names the node
  chosen_none : better g qs n ≡ ltb → Chosen g qs n eligible x
  chosen_none e = chosen-first (λ y b r. never (sym (le-ltb y x (omega (arith, l.is, tz-least 64 eligible y b))) ∙ ap (λ (f : ℕ → ℕ → Bool). f y x) (sym e) ∙ r))

pub chosen_unnamed : (x : Policies) (n : ℕ) (h : n < length (schema_of x.schema.bytes.now)) (os : List ℕ) → os ≡ offsets_in x.rows.now n → {b : Bool} → b ≡ eqb (length os) 0 → b ≡ true → (eligible : ℕ) {y : ℕ}
    → Choice (schema_of x.schema.bytes.now) n eligible → Lowest 64 eligible y → Chosen (schema_of x.schema.bytes.now) (noted (schema_of x.schema.bytes.now) x.bytes.now x.rows.now) n eligible y
chosen_unnamed x n h os i a b eligible C l = chosen_none (schema_of x.schema.bytes.now) (noted (schema_of x.schema.bytes.now) x.bytes.now x.rows.now) n eligible C l (unnamed-better x n h os i (eqb-true (length os) 0 (sym a ∙ b)))
