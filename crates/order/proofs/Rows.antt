-- The rows decide one after the other: the first in which two columns' ranks differ tells which is better.
-- Rests on the definition of the order.
use mathlib.Core.Path.{◌≡◌, ap, sym, ◌∙◌}
use mathlib.Core.Bool.{Bool, true, false}
use mathlib.Core.List.{List, [], ◌∷◌}
use Prim.Native.Nat.{ℕ, ◌+◌, ◌≤◌, ◌<◌}
use native.Mathlib.Omega.{arith}
use borrow.Author.Tests.{lt-ltb, le-ltb, eq-eqb, ne_eqb, le-leb, lt-leb}
use lib.Dec.{ltb}
use lib.ListN.{length, get_or, drop, drop_of_length-le}
use Rattle.std.proofs.lemmas.List.{drop_more}
use Rattle.model.specs.Order.{better_by}
use Rattle.model.specs.Ranks.{better_in}
use Rattle.order.specs.Order.{over}

module _ (row : List ℕ) (rows : List (List ℕ)) (p q : ℕ) where
  less : get_or row p 0 < get_or row q 0 → true ≡ better_in (row ∷ rows) p q
  unfolding better_in better_by
  less h = rw (ne_eqb (get_or row p 0) (get_or row q 0) (λ e. omega arith), lt-ltb (get_or row p 0) (get_or row q 0) h)

  pub more : get_or row q 0 < get_or row p 0 → false ≡ better_in (row ∷ rows) p q
  unfolding better_in better_by
  more h = rw (ne_eqb (get_or row p 0) (get_or row q 0) (λ e. omega arith), le-ltb (get_or row p 0) (get_or row q 0) (omega arith))

  alike : get_or row p 0 ≡ get_or row q 0 → better_in rows p q ≡ better_in (row ∷ rows) p q
  unfolding better_in better_by
  alike e = rw (eq-eqb (get_or row p 0) (get_or row q 0) e)

-- the rows from row j on decide what X is
module _ (rows : List (List ℕ)) (p q j : ℕ) {X : Bool} (i : better_in (drop j rows) p q ≡ X) where
  here : (h : j < length rows) → better_in (get_or rows j [] ∷ drop (j + 1) rows) p q ≡ X
  here h = sym (ap (λ (l : List (List ℕ)). better_in l p q) (drop_more rows j [] h)) ∙ i

  pub better_less : j < length rows → get_or (get_or rows j []) p 0 < get_or (get_or rows j []) q 0 → true ≡ X
  better_less h l = less (get_or rows j []) (drop (j + 1) rows) p q l ∙ here h

  pub better_more : j < length rows → get_or (get_or rows j []) q 0 < get_or (get_or rows j []) p 0 → false ≡ X
  better_more h l = more (get_or rows j []) (drop (j + 1) rows) p q l ∙ here h

  pub better_alike : j < length rows → get_or (get_or rows j []) p 0 ≡ get_or (get_or rows j []) q 0 → better_in (drop (j + 1) rows) p q ≡ X
  better_alike h l = alike (get_or rows j []) (drop (j + 1) rows) p q l ∙ here h

  pub better_last : length rows ≤ j → ltb p q ≡ X
  unfolding better_in better_by
  better_last h = sym (ap (λ (l : List (List ℕ)). better_in l p q) (drop_of_length-le rows h)) ∙ i

-- one column in place of another
module _ (t : List (List ℕ)) (k x : ℕ) where
  pub over_new : {b : Bool} → x < 8 → b ≡ better_in t k x → b ≡ true → k ≡ over t k x
  unfolding over
  over_new h e f = rw (lt-leb 8 x h, sym e ∙ f)

  pub over_worse : {b : Bool} → x < 8 → b ≡ better_in t k x → b ≡ false → x ≡ over t k x
  unfolding over
  over_worse h e f = rw (lt-leb 8 x h, sym e ∙ f)

  pub over_none : 8 ≤ x → k ≡ over t k x
  unfolding over
  over_none h = rw (le-leb 8 x h)
