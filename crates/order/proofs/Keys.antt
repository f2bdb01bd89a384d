-- The least key and the second least by a row: where their ranks differ, none beats the column of the least.
-- Rests on the order, which the first row decides where its ranks differ.
use mathlib.Core.Path.{◌≡◌, ap, sym, subst, ◌∙◌}
use mathlib.Core.Bool.{true}
use mathlib.Core.List.{List, [], ◌∷◌}
use Prim.Native.Nat.{ℕ, ◌/◌, ◌%◌, ◌≤◌, ◌<◌}
use native.Mathlib.Omega.{arith}
use native.Mathlib.Decide.{ℕ_discrete}
use lib.ListN.{get_or}
use Rattle.std.specs.declared.option.Option.{Option}
use Rattle.std.specs.declared.option.Option.TheVariants.{Some}
use Rattle.std.proofs.lemmas.Option.{none-some}
use Rattle.std.specs.List.{slice_get}
use Rattle.std.specs.Option.{unwrap_or}
use Rattle.fields.proofs.Tests.{never}
use Rattle.model.specs.Ranks.{better_in}
use Rattle.order.specs.Order.{in_set, TwoLeast, First}
use Rattle.order.proofs.Rows.{more}
use Rattle.order.proofs.Best.{in-strict}

module _ (t set : List ℕ) (k a b : ℕ) (w : TwoLeast t set k a b) where
  -- where no other of the set has the least key's rank by the first row, none beats its column
  pub first_by_row : (rows : List (List ℕ)) → Some t ≡ slice_get rows 0 → k ≤ 8 → a / 8 < b / 8 → First rows set k (a % 8)
  first_by_row [] f l m = absurd (none-some t (sym f))
  first_by_row (row ∷ rows) f l m =
      record {
        most = omega arith;
        none_in = λ v. absurd (omega arith);
        below = λ v. w.below few;
        in-set = λ v. w.in-set few;
        unbeaten = λ v c i e q. go c i e q (ℕ_discrete c (a % 8));
      }
    where
      few : a < 2048
      few = omega arith

      go : (c : ℕ) → c < k → in_set set c ≡ true → better_in (row ∷ rows) c (a % 8) ≡ true → Dec (c ≡ a % 8) → ⊥
      go c i e q (yes z) = (in-strict (row ∷ rows)).irreflexive (a % 8) (subst (λ (j : ℕ). better_in (row ∷ rows) j (a % 8) ≡ true) z q)
      go c i e q (no z) =
          let o = w.others c i e (λ u. z (omega arith)) in
          let r = w.ranked few in
          let v : get_or t (a % 8) 0 < get_or t c 0 = omega arith in
          never (more row rows c (a % 8) (rw (ap (λ (o : Option (List ℕ)). unwrap_or o t) f) at v) ∙ q)
