-- Demand 3 on decoded data: what policies get is right, and there is one best instance.
-- Rests on a sound schema alone, whatever the policies.
use mathlib.Core.Path.{◌≡◌, refl, sym, ap, ap₂, ◌∙◌}
use mathlib.Core.Logic.{◌↔◌}
use mathlib.Core.List.{List, [], ◌∷◌}
use mathlib.Core.Bool.{Bool, true}
use mathlib.Core.Option.{Option, some}
use Prim.Native.Nat.{ℕ}
use lib.IntN.{ℤ}
use lib.Signed.{le_z}
use Rattle.fields.proofs.Tests.{and-true, never}
use Rattle.numbers.proofs.Signs.{le_z-antisym}
use Rattle.schema.specs.Schema.{Node, node_at}
use Rattle.schema.specs.declared.Variable.{Variable}
use Rattle.schema.proofs.Sound.{Sound}
use Rattle.policies.specs.Policies.{Policy}
use Rattle.policies.specs.Pass.{forced}
use Rattle.instances.specs.Instance.{Entry, in_domain}
use Rattle.instances.proofs.IsInstance.{in_domains}
use Rattle.model.specs.Order.{better, entry_at, choice_of}
use Rattle.model.specs.Reconciling.{reconcile, rules_of, reconciled}
use Rattle.model.proofs.Lawful.{Strict, Lawful}
use Rattle.model.proofs.Relations.{MeetsAll, MeetsInForce, values_of, values_at, SameChoices, no_lower, Best, Right}
use Rattle.model.proofs.Entries.{entry_has, Found, found, missing, lookup, entries-ext, has-reached, domains-at}
use Rattle.model.proofs.Ranks.{better-strict, better-total}
use Rattle.model.proofs.Values.{least-of}
use Rattle.model.proofs.Order.{alike_same}
use Rattle.model.proofs.Reconciler.{lawful-right}
use Rattle.model.proofs.Satisfaction.{admitted_at, rules-iff, in-force-iff}

-- ---- the policies' answer

pub lawful : (g : List Node) → Sound g → (ps : List Policy) → Lawful g (rules_of g ps)
lawful g A ps = record { strict = better-strict g ps; admits = admitted_at g ps; least-is = least-of g A ps }

-- what is asked may be said in other words
right-as : (g : List Node) {M N : List Entry → Type 0} (better : ℕ → ℕ → ℕ → Bool) (o : Option (List Entry)) → ((i : List Entry) → M i ↔ N i) → Right g M better o → Right g N better o
right-as g {M} {N} better o f w =
    record {
      refused = (λ e j J n. w.refused.0 e j J ((f j).1 n), λ h. w.refused.1 (λ j J m. h j J ((f j).0 m)));
      given = λ i e. best i (w.given i e);
    }
  where
    best : (i : List Entry) → Best g M better i → Best g N better i
    best i b =
        record {
          is-instance = b.is-instance;
          meets = (f i).0 b.meets;
          as-good = λ j J n. b.as-good j J ((f j).1 n);
          lowest = λ j J n. b.lowest j J ((f j).1 n);
        }

pub right : (g : List Node) → Sound g → (ps : List Policy) → Right g (MeetsAll g ps) (better g ps) (reconciled g ps)
unfolding reconciled lawful
right g A ps = right-as g (better g ps) (reconcile g (rules_of g ps)) (rules-iff g ps) (lawful-right g A (rules_of g ps) (lawful g A ps) (better-total g ps))

-- of a pass: 'every policy in force'
pub right-in-force : (g : List Node) → Sound g → (ps : List Policy) (a b : ℕ) → Right g (MeetsInForce a b g ps) (better g (forced a b ps)) (reconciled g (forced a b ps))
right-in-force g A ps a b = right-as g (better g (forced a b ps)) (reconciled g (forced a b ps)) (in-force-iff a b g ps) (right g A (forced a b ps))

-- ---- there is one best instance

no-lower-eq : (vs : List Variable) (xs ys : List ℤ) → in_domains vs xs ≡ true → in_domains vs ys ≡ true → no_lower xs ys ≡ true → no_lower ys xs ≡ true → xs ≡ ys
unfolding in_domains no_lower
no-lower-eq [] [] [] d e a b = refl
no-lower-eq [] [] (y ∷ ys) d e a b = never e
no-lower-eq [] (x ∷ xs) ys d e a b = never d
no-lower-eq (v ∷ vs) [] ys d e a b = never d
no-lower-eq (v ∷ vs) (x ∷ xs) [] d e a b = never e
no-lower-eq (v ∷ vs) (x ∷ xs) (y ∷ ys) d e a b =
    let s = and-true (le_z x y) (no_lower xs ys) a in
    let t = and-true (le_z y x) (no_lower ys xs) b in
    ap₂ (λ (z : ℤ) (zs : List ℤ). z ∷ zs) (le_z-antisym x y s.0 t.0)
    (no-lower-eq vs xs ys (and-true (in_domain v x) (in_domains vs xs) d).1 (and-true (in_domain v y) (in_domains vs ys) e).1 s.1 t.1)

module _ (g : List Node) (A : Sound g) (Meets : List Entry → Type 0) (better : ℕ → ℕ → ℕ → Bool) (O : (n : ℕ) → Strict (better n)) where
  pub best-unique : (i j : List Entry) → Best g Meets better i → Best g Meets better j → i ≡ j
  best-unique i j a b = entries-ext i j a.is-instance.ascending b.is-instance.ascending (λ n. go n (lookup i a.is-instance.ascending n) (lookup j b.is-instance.ascending n))
    where
      same : SameChoices i j
      same = alike_same g better O A i j a.is-instance b.is-instance (a.as-good j b.is-instance b.meets) (b.as-good i a.is-instance a.meets)

      back : SameChoices j i
      back = record { nodes = λ n. sym (same.nodes n); choices = λ n. sym (same.choices n) }

      values : (n : ℕ) (d e : Entry) → entry_at i n ≡ some d → entry_at j n ≡ some e → values_at i n ≡ values_at j n
      values n d e p q =
          no-lower-eq (node_at g n).variables (values_at i n) (values_at j n) (domains-at g A i a.is-instance (has-reached g A i a.is-instance (entry_has i n d p)))
          (domains-at g A j b.is-instance (has-reached g A j b.is-instance (entry_has j n e q)))
          (a.lowest j b.is-instance b.meets same n) (b.lowest i a.is-instance a.meets back n)

      go : (n : ℕ) → Found i n → Found j n → entry_at i n ≡ entry_at j n
      go n (missing h p) (missing k q) = p ∙ sym q
      go n (missing h p) (found e m k q) = never (sym h ∙ same.nodes n ∙ entry_has j n e q)
      go n (found d l h p) (missing k q) = never (sym k ∙ back.nodes n ∙ entry_has i n d p)
      go n (found d l h p) (found e m k q) =
          let u : d.node ≡ e.node = h ∙ sym k in
          let c : d.choice ≡ e.choice = sym (ap choice_of p) ∙ same.choices n ∙ ap choice_of q in
          let v : d.values ≡ e.values = sym (ap values_of p) ∙ values n d e p q ∙ ap values_of q in
          p ∙ ap {B = Option Entry} some (λ t. record { node = u t; choice = c t; values = v t }) ∙ sym q
