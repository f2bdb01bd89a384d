-- The verdict says what it should, and no field is forbidden exactly where every policy is met.
-- Rests on the test of the order, and for 18 on the test of meeting.
use mathlib.Core.Path.{◌≡◌, refl, sym, ap, ◌∙◌}
use mathlib.Core.Logic.{◌↔◌}
use mathlib.Core.List.{List, [], ◌∷◌}
use mathlib.Core.Bool.{Bool, true, false, cond, not, ◌&&◌}
use mathlib.Core.Option.{Option, none, some}
use Prim.Native.Nat.{ℕ, ◌+◌}
use lib.ListN.{length}
use lib.IntN.{ℤ}
use Rattle.fields.proofs.Tests.{never}
use Rattle.schema.specs.Schema.{Node, node_at}
use Rattle.schema.specs.declared.Variable.{Variable}
use Rattle.schema.proofs.Sound.{Sound}
use Rattle.policies.specs.Policies.{Policy}
use Rattle.instances.specs.Instance.{Entry}
use Rattle.instances.specs.File.{value_width, encode_entry}
use Rattle.instances.proofs.IsInstance.{root, IsInstance}
use Rattle.model.specs.Satisfaction.{admitted, choice_meets}
use Rattle.model.specs.Order.{better, as_good}
use Rattle.model.specs.Reconciling.{is_some}
use Rattle.model.specs.Comparing.{verdict, compared, forbidden_value, forbidden_entry, or_next, forbidden_from, forbidden}
use Rattle.model.proofs.Relations.{MeetsAll, AsGood, Verdict, alike, first-better, second-better, neither}
use Rattle.model.proofs.Order.{good-iff}
use Rattle.model.proofs.Satisfaction.{meets-iff, admitted_from, values_meet, meets_all}

-- ---- the verdict

pub as-good-iff : (g : List Node) → Sound g → (ps : List Policy) (i j : List Entry) → IsInstance g i → (as_good g ps i j ≡ true) ↔ AsGood g ps i j
unfolding as_good
as-good-iff g A ps i j I = good-iff g (better g ps) A i j I root

pub compared-says : (g : List Node) → Sound g → (ps : List Policy) (i j : List Entry) → IsInstance g i → IsInstance g j → Verdict (AsGood g ps i j) (AsGood g ps j i) (compared g ps i j)
unfolding compared
compared-says g A ps i j I J = go (as_good g ps i j) (as_good g ps j i) (as-good-iff g A ps i j I) (as-good-iff g A ps j i J)
  where
    go : {P Q : Type 0} (a b : Bool) → (a ≡ true) ↔ P → (b ≡ true) ↔ Q → Verdict P Q (verdict a b)
    go true true p q = alike (p.0 refl) (q.0 refl)
    go true false p q = first-better (p.0 refl) (λ h. never (q.1 h))
    go false true p q = second-better (λ h. never (p.1 h)) (q.0 refl)
    go false false p q = neither (λ h. never (p.1 h)) (λ h. never (q.1 h))

-- ---- a field is forbidden exactly where the test of meeting fails

value-forbidden : (ps : List Policy) (n k : ℕ) (vs : List Variable) (xs : List ℤ) (o : ℕ) → is_some (forbidden_value ps n k vs xs o) ≡ not (admitted_from ps n k vs xs)
unfolding forbidden_value admitted_from
value-forbidden ps n k [] xs o = refl
value-forbidden ps n k (v ∷ vs) [] o = refl
value-forbidden ps n k (v ∷ vs) (x ∷ xs) o = go (admitted ps n k v x) (value-forbidden ps n (k + 1) vs xs (o + value_width v))
  where
    go : (b : Bool) → is_some (forbidden_value ps n (k + 1) vs xs (o + value_width v)) ≡ not (admitted_from ps n (k + 1) vs xs)
        → is_some (cond b (forbidden_value ps n (k + 1) vs xs (o + value_width v)) (some o)) ≡ not (b && admitted_from ps n (k + 1) vs xs)
    go true e = e
    go false e = refl

entry-forbidden : (g : List Node) (ps : List Policy) (e : Entry) (o : ℕ) → is_some (forbidden_entry g ps e o) ≡ not (choice_meets g ps e && values_meet g ps e)
unfolding forbidden_entry values_meet
entry-forbidden g ps e o = go (choice_meets g ps e) (value-forbidden ps e.node 0 (node_at g e.node).variables e.values (o + 4))
  where
    go : (b : Bool) → is_some (forbidden_value ps e.node 0 (node_at g e.node).variables e.values (o + 4)) ≡ not (admitted_from ps e.node 0 (node_at g e.node).variables e.values)
        → is_some (cond b (forbidden_value ps e.node 0 (node_at g e.node).variables e.values (o + 4)) (some (o + 3)))
        ≡ not (b && admitted_from ps e.node 0 (node_at g e.node).variables e.values)
    go true q = q
    go false q = refl

from-forbidden : (g : List Node) (ps : List Policy) (i : List Entry) (o : ℕ) → is_some (forbidden_from g ps i o) ≡ not (meets_all g ps i)
unfolding forbidden_from meets_all
from-forbidden g ps [] o = refl
from-forbidden g ps (e ∷ i) o = go (forbidden_entry g ps e o) (choice_meets g ps e && values_meet g ps e) (entry-forbidden g ps e o) (from-forbidden g ps i (o + length (encode_entry g e)))
  where
    go : (q : Option ℕ) (b : Bool) → is_some q ≡ not b → is_some (forbidden_from g ps i (o + length (encode_entry g e))) ≡ not (meets_all g ps i)
        → is_some (or_next q (forbidden_from g ps i (o + length (encode_entry g e)))) ≡ not (b && meets_all g ps i)
    go none true h t = t
    go none false h t = never h
    go (some x) true h t = never (sym h)
    go (some x) false h t = refl

-- demand 2's 'exactly when': the checker finds nothing to forbid
pub forbidden-none : (g : List Node) (ps : List Policy) (i : List Entry) → (forbidden g ps i ≡ none) ↔ MeetsAll g ps i
unfolding forbidden
forbidden-none g ps i = (λ q. (meets-iff g ps i).0 (met (meets_all g ps i) (sym (ap is_some q) ∙ from-forbidden g ps i 3)), λ M. free (forbidden_from g ps i 3) (from-forbidden g ps i 3 ∙ ap not ((meets-iff g ps i).1 M)))
  where
    met : (b : Bool) → false ≡ not b → b ≡ true
    met true e = refl
    met false e = never e

    free : (o : Option ℕ) → is_some o ≡ false → o ≡ none
    free none e = refl
    free (some x) e = never (sym e)
