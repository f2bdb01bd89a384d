-- How ranks compare: one PN's, the loop over the offsets, and the order of two successors that follows.
-- Rests on the definition of the order, and on the offsets that are left, in policies.
use mathlib.Core.Path.{◌≡◌, refl, ap, ap₂, sym, subst, ◌∙◌}
use mathlib.Core.Bool.{Bool, true, false, cond}
use mathlib.Core.List.{List, [], ◌∷◌}
use Prim.Native.Nat.{ℕ, ◌+◌, ◌≤◌, ◌<◌}
use native.Mathlib.Omega.{arith}
use borrow.Author.Tests.{ltb-true, ltb-false, lt-ltb, le-ltb, eq-eqb, ne_eqb}
use lib.Dec.{eqb, ltb}
use lib.ListN.{length, get_or, drop, drop_of_length-le}
use lib.Seq.{get_or-drop}
use Rattle.schema.specs.Schema.{Node, node_at}
use Rattle.policies.specs.Policies.{Rule, Policy}
use Rattle.policies.specs.Rows.{rules_for}
use Rattle.policies.proofs.Part.{rest}
use Rattle.policies.proofs.Offsets.{stretch}
use Rattle.model.specs.Satisfaction.{column_of, rank}
use Rattle.model.specs.Order.{better_by, better}
use Rattle.model.proofs.Same.{better-by}
use Rattle.ranks.specs.Ranks.{order_by, rank_order, is_better, rank_byte, rank_at}
use Rattle.std.specs.declared.cmp.Ordering.{Ordering}
use Rattle.std.specs.declared.cmp.Ordering.TheVariants.{Less, Equal, Greater}
use Rattle.std.specs.Ordering.{nat_cmp, MatchOrdering}
use Rattle.std.specs.Cmp.{ranked}
use Rattle.std.proofs.lemmas.List.{drop_more}

-- ---- one rank

pub rank_here : (s : List ℕ) (columns k : ℕ) → k < columns → get_or s k 0 ≡ rank_byte s columns k
unfolding rank_byte
rank_here s columns k h = rw (lt-ltb k columns h)

pub rank_beyond : (s : List ℕ) (columns k : ℕ) → columns ≤ k → 0 ≡ rank_byte s columns k
unfolding rank_byte
rank_beyond s columns k h = rw (le-ltb k columns h)

pub rank-at-here : (p : List ℕ) (columns o k : ℕ) → k < columns → rank_at p columns o k ≡ get_or p (o + k) 0
unfolding rank_at
rank-at-here p columns o k h = sym (rank_here (drop o p) columns k h) ∙ get_or-drop o p k 0

pub rank-at-beyond : (p : List ℕ) (columns o k : ℕ) → columns ≤ k → rank_at p columns o k ≡ 0
unfolding rank_at
rank-at-beyond p columns o k h = sym (rank_beyond (drop o p) columns k h)

-- ---- the loop over the offsets

-- those from row r on are left to compare
module _ (p : List ℕ) (columns c d : ℕ) (offsets : List ℕ) (r : ℕ) {X : Ordering} (w : order_by (rank_at p columns) (drop r offsets) c d ≡ X) where
  module _ {x y : ℕ} {o : Ordering} (h : r < length offsets) (ex : x ≡ rank_byte (stretch p (get_or offsets r 0)) columns c) (ey : y ≡ rank_byte (stretch p (get_or offsets r 0)) columns d) (eo : o ≡ nat_cmp x y) where
    here : (k : ℕ) {z : ℕ} → z ≡ rank_byte (stretch p (get_or offsets r 0)) columns k → rank_at p columns (get_or offsets r 0) k ≡ z
    unfolding rank_at
    here k e = sym (e ∙ ap (λ (l : List ℕ). rank_byte l columns k) (rest p (get_or offsets r 0)))

    next : cond (ltb x y) Less (cond (ltb y x) Greater (order_by (rank_at p columns) (drop (r + 1) offsets) c d)) ≡ X
    unfolding order_by
    next =
        sym (ap (λ (l : List ℕ). order_by (rank_at p columns) l c d) (drop_more offsets r 0 h)
        ∙ ap₂ (λ (x y : ℕ). cond (ltb x y) Less (cond (ltb y x) Greater (order_by (rank_at p columns) (drop (r + 1) offsets) c d))) (here c ex) (here d ey))
        ∙ w

    pub compare_differ : (o ≡ Equal → ⊥) → o ≡ X
    compare_differ n = go o (ranked x y o eo) n ∙ next
      where
        go : (o : Ordering) → MatchOrdering o (x < y) (x ≡ y) (y < x) → (o ≡ Equal → ⊥)
            → o ≡ cond (ltb x y) Less (cond (ltb y x) Greater (order_by (rank_at p columns) (drop (r + 1) offsets) c d))
        go Less l n = rw (lt-ltb x y l) refl
        go Equal e n = absurd (n refl)
        go Greater l n = rw (le-ltb x y (omega arith), lt-ltb y x l) refl

    pub compare_alike : o ≡ Equal → order_by (rank_at p columns) (drop (r + 1) offsets) c d ≡ X
    compare_alike n =
        let e : x ≡ y = subst (λ (o : Ordering). MatchOrdering o (x < y) (x ≡ y) (y < x)) n (ranked x y o eo) in
        rw (le-ltb x y (omega arith), le-ltb y x (omega arith)) at next

  pub compare_done : length offsets ≤ r → Equal ≡ X
  unfolding order_by
  compare_done h = sym (ap (λ (l : List ℕ). order_by (rank_at p columns) l c d) (drop_of_length-le offsets h)) ∙ w

-- ---- which of two successors is better

decide : (u v : ℕ) (o : Ordering) (last : Bool) → cond (eqb u v) (is_better o last) (ltb u v) ≡ is_better (cond (ltb u v) Less (cond (ltb v u) Greater o)) last
decide u v o last = go (ltb u v) refl (ltb v u) refl
  where
    go : (s : Bool) → ltb u v ≡ s → (t : Bool) → ltb v u ≡ t → cond (eqb u v) (is_better o last) s ≡ is_better (cond s Less (cond t Greater o)) last
    go true e t f = rw (ne_eqb u v (λ z. let q = ltb-true u v e in omega arith))
    go false e true f = rw (ne_eqb u v (λ z. let q = ltb-true v u f in omega arith))
    go false e false f = rw (eq-eqb u v (let q = ltb-false u v e in let z = ltb-false v u f in omega arith))

by_order : (f : ℕ → ℕ) (xs : List Rule) (a b : ℕ)
    → better_by (λ (x : Rule) (s : ℕ). get_or x.ranks (f s) 0) xs a b ≡ is_better (order_by (λ (x : Rule) (k : ℕ). get_or x.ranks k 0) xs (f a) (f b)) (ltb a b)
unfolding better_by order_by
by_order f [] a b = refl
by_order f (x ∷ xs) a b =
    ap (λ (t : Bool). cond (eqb (get_or x.ranks (f a) 0) (get_or x.ranks (f b) 0)) t (ltb (get_or x.ranks (f a) 0) (get_or x.ranks (f b) 0))) (by_order f xs a b)
    ∙ decide (get_or x.ranks (f a) 0) (get_or x.ranks (f b) 0) (order_by (λ (x : Rule) (k : ℕ). get_or x.ranks k 0) xs (f a) (f b)) (ltb a b)

-- x and y, by the ranks in their columns; the lower number is better where these are alike
module _ (g : List Node) (qs : List Policy) (n x y : ℕ) where
  pub better-order : better g qs n x y ≡ is_better (rank_order (rules_for n qs) (column_of x (node_at g n).successors) (column_of y (node_at g n).successors)) (ltb x y)
  unfolding better rank rank_order
  better-order =
      better-by n (λ s. column_of s (node_at g n).successors) qs x y
      ∙ by_order (λ s. column_of s (node_at g n).successors) (rules_for n qs) x y

  module _ {r : Ordering} (e : r ≡ rank_order (rules_for n qs) (column_of x (node_at g n).successors) (column_of y (node_at g n).successors)) where
    told : better g qs n x y ≡ is_better r (ltb x y)
    told = better-order ∙ ap (λ (o : Ordering). is_better o (ltb x y)) (sym e)

    pub better_less : r ≡ Less → better g qs n x y ≡ true
    better_less i = told ∙ ap (λ (o : Ordering). is_better o (ltb x y)) i

    pub better_greater : r ≡ Greater → better g qs n x y ≡ false
    better_greater i = told ∙ ap (λ (o : Ordering). is_better o (ltb x y)) i

    pub better_equal : r ≡ Equal → better g qs n x y ≡ ltb x y
    better_equal i = told ∙ ap (λ (o : Ordering). is_better o (ltb x y)) i
