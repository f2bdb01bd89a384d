-- The scan over the columns: the best so far passes, and none of the columns passed beats it.
-- Rests on the order being strict and total, and on the model's best-at and best-none-at.
use mathlib.Core.Path.{◌≡◌, refl, ap, sym, subst, ◌∙◌}
use mathlib.Core.Bool.{Bool, true, false, cond, ◌||◌}
use mathlib.Core.List.{List}
use mathlib.Core.Option
use mathlib.Core.Option.{Option}
use Prim.Native.Nat.{ℕ, zero, suc, ◌+◌, ◌≤◌, ◌<◌}
use native.Mathlib.Omega.{arith}
use native.Mathlib.Nat.{add-zero, zero-add}
use native.Mathlib.Decide.{dec_lt}
use borrow.Author.Tests.{eq-eqb, ne_eqb, le-leb, lt-leb}
use lib.Dec.{leb}
use lib.ListN.{length, get_or}
use Rattle.fields.proofs.Tests.{never}
use Rattle.model.specs.Reconciling.{best}
use Rattle.model.proofs.Lawful.{Strict, Total}
use Rattle.model.proofs.Ranks.{by-strict, by_total}
use Rattle.model.proofs.Successors.{best-at, best-none-at}
use Rattle.model.specs.Ranks.{count_up, rank_in, better_in}
use Rattle.order.specs.Order.{in_set, first_column, Picked, over, First}

pub in-strict : (t : List (List ℕ)) → Strict (better_in t)
unfolding better_in
in-strict t = by-strict rank_in t

pub in-total : (t : List (List ℕ)) → Total (better_in t)
unfolding better_in
in-total t = by_total rank_in t

pub count-length : (k c : ℕ) → length (count_up k c) ≡ k
unfolding count_up
count-length zero c = refl
count-length (suc k) c = ap suc (count-length k (c + 1))

count_at : (k c j : ℕ) → j < k → get_or (count_up k c) j 0 ≡ c + j
unfolding count_up
count_at zero c j h = absurd (omega arith)
count_at (suc k) c zero h = sym (add-zero c)
count_at (suc k) c (suc j) h = count_at k (c + 1) j (omega arith) ∙ (let z : c + 1 + j ≡ c + suc j = omega arith in z)

pub count_of : (k j : ℕ) → j < k → get_or (count_up k 0) j 0 ≡ j
count_of k j h = count_at k 0 j h ∙ zero-add j

-- x is the first of the first k columns in the set, 8 for none
pub first_none : (t : List (List ℕ)) (set : List ℕ) → First t set 0 8
first_none t set =
    record { most = omega arith; none_in = λ h c l. absurd (omega arith); below = λ h. omega arith; in-set = λ h. absurd (omega arith); unbeaten = λ h. absurd (omega arith) }

module _ (t : List (List ℕ)) (set : List ℕ) (k x : ℕ) (w : First t set k x) where
  -- a column that is not in the set, or that x is not worse than
  keep : (in_set set k ≡ true → (8 ≤ x → ⊥) × (x < 8 → better_in t k x ≡ true → ⊥)) → First t set (k + 1) x
  keep f =
      record {
        most = w.most;
        none_in = λ h c l e. none h c (dec_lt c k) l e;
        below = λ h. let z = w.below h in omega arith;
        in-set = w.in-set;
        unbeaten = λ h c l e. worse h c (dec_lt c k) l e;
      }
    where
      none : 8 ≤ x → (c : ℕ) → Dec (c < k) → c < k + 1 → in_set set c ≡ true → ⊥
      none h c (yes l) b e = w.none_in h c l e
      none h c (no l) b e = let z : c ≡ k = omega arith in (f (subst (λ (i : ℕ). in_set set i ≡ true) z e)).0 h

      worse : x < 8 → (c : ℕ) → Dec (c < k) → c < k + 1 → in_set set c ≡ true → better_in t c x ≡ true → ⊥
      worse h c (yes l) b e q = w.unbeaten h c l e q
      worse h c (no l) b e q =
          let z : c ≡ k = omega arith in
          (f (subst (λ (i : ℕ). in_set set i ≡ true) z e)).1 h (subst (λ (i : ℕ). better_in t i x ≡ true) z q)

  -- column k in place of x
  take : k < 8 → in_set set k ≡ true → (x < 8 → better_in t k x ≡ true) → First t set (k + 1) k
  take l f q =
      record {
        most = omega arith;
        none_in = λ h. absurd (omega arith);
        below = λ h. omega arith;
        in-set = λ h. f;
        unbeaten = λ h c b e r. go c (dec_lt c k) b e r (dec_lt x 8);
      }
    where
      go : (c : ℕ) → Dec (c < k) → c < k + 1 → in_set set c ≡ true → better_in t c k ≡ true → Dec (x < 8) → ⊥
      go c (yes b) d e r (yes y) = w.unbeaten y c b e ((in-strict t).trans c k x r (q y))
      go c (yes b) d e r (no y) = w.none_in (omega arith) c b e
      go c (no b) d e r y = let z : c ≡ k = omega arith in (in-strict t).irreflexive k (subst (λ (i : ℕ). better_in t i k ≡ true) z r)

  pub first_out : {y : ℕ} → (get_or set k 0 ≡ 1 → ⊥) → y ≡ x → First t set (k + 1) y
  first_out e q = subst (First t set (k + 1)) (sym q) (keep (λ f. never (sym (ne_eqb (get_or set k 0) 1 e) ∙ f)))

  pub first_in : {y z c : ℕ} → k < c → c ≤ 8 → get_or set k 0 ≡ 1 → z ≡ over t k x → y ≡ z → First t set (k + 1) y
  unfolding over
  first_in h l e z q = subst (First t set (k + 1)) (sym (q ∙ z)) (go (dec_lt x 8))
    where
      here : in_set set k ≡ true
      here = eq-eqb (get_or set k 0) 1 e

      better : (b : Bool) → better_in t k x ≡ b → x < 8 → First t set (k + 1) (cond b k x)
      better true q v = take (omega arith) here (λ _. q)
      better false q v = keep (λ f. ((λ u. omega arith), (λ u r. never (sym q ∙ r))))

      go : Dec (x < 8) → First t set (k + 1) (cond (leb 8 x || better_in t k x) k x)
      go (yes v) = rw (lt-leb 8 x v) (better (better_in t k x) refl v)
      go (no v) = rw (le-leb 8 x (omega arith)) (take (omega arith) here (λ u. absurd (omega arith)))

-- ---- the pick

pub picked_first : (t : List (List ℕ)) (set : List ℕ) (k x : ℕ) → First t set k x → Picked t set k x
unfolding first_column
picked_first t set k x w = record { is = go (dec_lt x 8); most = w.most }
  where
    go : Dec (x < 8) → x ≡ Option.get_or (best (in_set set) (better_in t) (count_up k 0)) 8
    go (yes h) =
        sym (ap (λ (o : Option ℕ). Option.get_or o 8)
        (best-at (in_set set) (better_in t) (in-strict t) (count_up k 0) (in-total t) x (omega (arith, w.below h, count-length k 0))
        (rw (count_of k x (w.below h)) (w.in-set h))
        (λ j l e q. let m : j < k = omega (arith, count-length k 0) in w.unbeaten h j m (rw (count_of k j m) at e) (rw (count_of k j m, count_of k x (w.below h)) at q)))
        ∙ count_of k x (w.below h))
    go (no h) =
        (let z : x ≡ 8 = let m = w.most in omega arith in z)
        ∙ sym (ap (λ (o : Option ℕ). Option.get_or o 8)
        (best-none-at (in_set set) (better_in t) (in-strict t) (count_up k 0)
        (λ j l e. let m : j < k = omega (arith, count-length k 0) in w.none_in (omega arith) j m (rw (count_of k j m) at e))))
