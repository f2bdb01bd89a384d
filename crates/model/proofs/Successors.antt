-- `best` gives one that passes and that none that passes beats, if any passes: climbing from one that passes ends at such a one.
-- Rests on a strict order; a total one is asked for by `total-best` alone, which `best-only` and `best-at` cite.
use mathlib.Core.Path.{◌≡◌, refl, sym, subst, ap, ap₂, ◌∙◌}
use mathlib.Core.Logic.{◌⊎◌, inl, inr}
use mathlib.Core.List.{List, [], ◌∷◌}
use mathlib.Core.Bool.{Bool, true, false, cond, not, ◌&&◌, ◌||◌}
use mathlib.Core.Option.{Option, none, some}
use Prim.Native.Nat.{ℕ, ◌<◌}
use lib.ListN.{length, get_or}
use Rattle.fields.proofs.Tests.{and_yes, and-true, or-true, or_left, or_right, never, not_yes, not-not}
use Rattle.instances.specs.Instance.{elem}
use Rattle.model.specs.Reconciling.{beaten, first_of, best}
use Rattle.model.proofs.Lawful.{Strict, Total}
use Rattle.model.proofs.Lists.{elem-head, elem-tail, elem-cons, Place, at-elem, elem_at}

-- ---- the first that passes

data IsFirst (ok : ℕ → Bool) (l : List ℕ) : Option ℕ → Type 0 where
  no-first : ((y : ℕ) → elem y l ≡ true → ok y ≡ true → ⊥) → IsFirst ok l none
  a_first : {z : ℕ} → elem z l ≡ true → ok z ≡ true → IsFirst ok l (some z)

first-is : (ok : ℕ → Bool) (l : List ℕ) → IsFirst ok l (first_of ok l)
first-is ok [] = no-first (λ y m t. never m)
first-is ok (x ∷ l) = go (ok x) refl (first-is ok l)
  where
    more : {o : Option ℕ} → ok x ≡ false → IsFirst ok l o → IsFirst ok (x ∷ l) o
    more e (no-first f) = no-first (λ y m t. none_here y t (elem-cons y x l m))
      where
        none_here : (y : ℕ) → ok y ≡ true → (y ≡ x) ⊎ (elem y l ≡ true) → ⊥
        none_here y t (inl q) = never (sym e ∙ ap ok (sym q) ∙ t)
        none_here y t (inr m) = f y m t
    more e (a_first {z} m t) = a_first (elem-tail z x l m) t

    go : (b : Bool) → ok x ≡ b → IsFirst ok l (first_of ok l) → IsFirst ok (x ∷ l) (cond b (some x) (first_of ok l))
    go true e w = a_first (elem-head x l) e
    go false e w = more e w

module _ (ok : ℕ → Bool) (better : ℕ → ℕ → Bool) where
  -- one of the list that passes, and that none that passes beats
  pub record Top (l : List ℕ) (z : ℕ) : Type 0 where
    pub among : elem z l ≡ true
    pub passes : ok z ≡ true
    pub unbeaten : (y : ℕ) → elem y l ≡ true → ok y ≡ true → better y z ≡ true → ⊥

  -- what `best` answers
  pub data IsBest (l : List ℕ) : Option ℕ → Type 0 where
    no-best : ((y : ℕ) → elem y l ≡ true → ok y ≡ true → ⊥) → IsBest l none
    a-best : {z : ℕ} → Top l z → IsBest l (some z)

  beaten-by : (l : List ℕ) (x y : ℕ) → elem y l ≡ true → ok y ≡ true → better y x ≡ true → beaten ok better l x ≡ true
  beaten-by [] x y m t u = never m
  beaten-by (w ∷ l) x y m t u = go (λ q. beaten-by l x y q t u) (elem-cons y w l m)
    where
      go : (elem y l ≡ true → beaten ok better l x ≡ true) → (y ≡ w) ⊎ (elem y l ≡ true) → beaten ok better (w ∷ l) x ≡ true
      go ih (inl q) = or_left (ok w && better w x) (beaten ok better l x) (subst (λ (v : ℕ). ok v && better v x ≡ true) q (and_yes t u))
      go ih (inr q) = or_right (ok w && better w x) (beaten ok better l x) (ih q)

  not-beaten : (l : List ℕ) (x : ℕ) → ((y : ℕ) → elem y l ≡ true → ok y ≡ true → better y x ≡ true → ⊥) → beaten ok better l x ≡ true → ⊥
  not-beaten [] x f t = never t
  not-beaten (y ∷ l) x f t = go (not-beaten l x (λ z m. f z (elem-tail z y l m))) (or-true (ok y && better y x) (beaten ok better l x) t)
    where
      go : (beaten ok better l x ≡ true → ⊥) → (ok y && better y x ≡ true) ⊎ (beaten ok better l x ≡ true) → ⊥
      go ih (inl u) = let w = and-true (ok y) (better y x) u in f y (elem-head y l) w.0 w.1
      go ih (inr u) = ih u

  module _ (O : Strict better) where
    -- from x, which passes, up through a list
    climb : (x : ℕ) → ok x ≡ true → (l : List ℕ) → (z : ℕ) × Top (x ∷ l) z
    climb x t [] = (x, record { among = elem-head x []; passes = t; unbeaten = λ y m u v. own y v (elem-cons y x [] m) })
      where
        own : (y : ℕ) → better y x ≡ true → (y ≡ x) ⊎ (false ≡ true) → ⊥
        own y v (inl q) = O.irreflexive x (rw q at v)
        own y v (inr q) = never q
    climb x t (y ∷ l) = go (climb x t l).0 (climb x t l).1 (ok y && better y (climb x t l).0) refl
      where
        -- membership in x ∷ y ∷ l
        aside : (s : ℕ) → elem s (x ∷ l) ≡ true → elem s (x ∷ y ∷ l) ≡ true
        aside s m = which (elem-cons s x l m)
          where
            which : (s ≡ x) ⊎ (elem s l ≡ true) → elem s (x ∷ y ∷ l) ≡ true
            which (inl q) = subst (λ (v : ℕ). elem v (x ∷ y ∷ l) ≡ true) (sym q) (elem-head x (y ∷ l))
            which (inr q) = elem-tail s x (y ∷ l) (elem-tail s y l q)

        parts : (s : ℕ) → elem s (x ∷ y ∷ l) ≡ true → (s ≡ y) ⊎ (elem s (x ∷ l) ≡ true)
        parts s m = which (elem-cons s x (y ∷ l) m)
          where
            rest : (s ≡ y) ⊎ (elem s l ≡ true) → (s ≡ y) ⊎ (elem s (x ∷ l) ≡ true)
            rest (inl q) = inl q
            rest (inr q) = inr (elem-tail s x l q)

            which : (s ≡ x) ⊎ (elem s (y ∷ l) ≡ true) → (s ≡ y) ⊎ (elem s (x ∷ l) ≡ true)
            which (inl q) = inr (subst (λ (v : ℕ). elem v (x ∷ l) ≡ true) (sym q) (elem-head x l))
            which (inr q) = rest (elem-cons s y l q)

        go : (z : ℕ) → Top (x ∷ l) z → (b : Bool) → ok y && better y z ≡ b → (v : ℕ) × Top (x ∷ y ∷ l) v
        go z w true e =
            (y, record { among = elem-tail y x (y ∷ l) (elem-head y l); passes = u.0; unbeaten = λ s m k v. which s k v (parts s m) })
          where
            u : (ok y ≡ true) × (better y z ≡ true)
            u = and-true (ok y) (better y z) e

            which : (s : ℕ) → ok s ≡ true → better s y ≡ true → (s ≡ y) ⊎ (elem s (x ∷ l) ≡ true) → ⊥
            which s k v (inl q) = O.irreflexive y (rw q at v)
            which s k v (inr m) = w.unbeaten s m k (O.trans s y z v u.1)
        go z w false e = (z, record { among = aside z w.among; passes = w.passes; unbeaten = λ s m k v. which s k v (parts s m) })
          where
            which : (s : ℕ) → ok s ≡ true → better s z ≡ true → (s ≡ y) ⊎ (elem s (x ∷ l) ≡ true) → ⊥
            which s k v (inl q) = never (sym e ∙ and_yes (ap ok (sym q) ∙ k) (ap (λ (a : ℕ). better a z) (sym q) ∙ v))
            which s k v (inr m) = w.unbeaten s m k v

    pub best-is : (l : List ℕ) → IsBest l (best ok better l)
    unfolding best
    best-is l = go (first-is free l)
      where
        free : ℕ → Bool
        free x = ok x && not (beaten ok better l x)

        go : {o : Option ℕ} → IsFirst free l o → IsBest l o
        go (no-first f) = no-best (λ y m t. over y m (climb y t l).0 (climb y t l).1)
          where
            over : (y : ℕ) → elem y l ≡ true → (z : ℕ) → Top (y ∷ l) z → ⊥
            over y m z w = f z (which (elem-cons z y l w.among)) (and_yes w.passes (not-not (beaten ok better l z) (not-beaten l z (λ s k. w.unbeaten s (elem-tail s y l k)))))
              where
                which : (z ≡ y) ⊎ (elem z l ≡ true) → elem z l ≡ true
                which (inl q) = rw q m
                which (inr q) = q
        go (a_first {z} m t) =
            let w = and-true (ok z) (not (beaten ok better l z)) t in
            a-best (record { among = m; passes = w.0; unbeaten = λ y k u v. not_yes (beaten ok better l z) w.1 (beaten-by l z y k u v) })

-- in a total order what is not beaten is better than all others
pub total-best : (better : ℕ → ℕ → Bool) → Total better → (z y : ℕ) → (better y z ≡ true → ⊥) → (z ≡ y) ⊎ (better z y ≡ true)
total-best better Q z y f = go (Q.either z y)
  where
    go : (better z y ≡ true) ⊎ ((z ≡ y) ⊎ (better y z ≡ true)) → (z ≡ y) ⊎ (better z y ≡ true)
    go (inl s) = inr s
    go (inr (inl s)) = inl s
    go (inr (inr s)) = absurd (f s)

-- for an engine: what its loop ends with is what `best` gives
module _ (ok : ℕ → Bool) (better : ℕ → ℕ → Bool) (O : Strict better) (l : List ℕ) where
  pub best_none : ((y : ℕ) → elem y l ≡ true → ok y ≡ true → ⊥) → best ok better l ≡ none
  best_none f = go (best ok better l) (best-is ok better O l)
    where
      go : (o : Option ℕ) → IsBest ok better l o → o ≡ none
      go none w = refl
      go (some z) (a-best w) = absurd (f z w.among w.passes)

  pub best-only : Total better → (z : ℕ) → Top ok better l z → best ok better l ≡ some z
  best-only Q z w = go (best ok better l) (best-is ok better O l)
    where
      go : (o : Option ℕ) → IsBest ok better l o → o ≡ some z
      go none (no-best f) = absurd (f z w.among w.passes)
      go (some y) (a-best v) = which (total-best better Q y z (v.unbeaten z w.among w.passes))
        where
          which : (y ≡ z) ⊎ (better y z ≡ true) → some y ≡ some z
          which (inl q) = ap {B = Option ℕ} some q
          which (inr q) = absurd (w.unbeaten y v.among v.passes q)

  -- by place
  pub best-at : Total better → (c : ℕ) → c < length l → ok (get_or l c 0) ≡ true
      → ((k : ℕ) → k < length l → ok (get_or l k 0) ≡ true → better (get_or l k 0) (get_or l c 0) ≡ true → ⊥) → best ok better l ≡ some (get_or l c 0)
  best-at Q c h t f = best-only Q (get_or l c 0) (record { among = at-elem l c h; passes = t; unbeaten = λ y m. go y (elem_at l y m) })
    where
      go : (y : ℕ) → Place l y → ok y ≡ true → better y (get_or l c 0) ≡ true → ⊥
      go y w = subst (λ (x : ℕ). ok x ≡ true → better x (get_or l c 0) ≡ true → ⊥) w.is (f w.place w.inside)

  pub best-none-at : ((k : ℕ) → k < length l → ok (get_or l k 0) ≡ true → ⊥) → best ok better l ≡ none
  best-none-at f = best_none (λ y m. go y (elem_at l y m))
    where
      go : (y : ℕ) → Place l y → ok y ≡ true → ⊥
      go y w = subst (λ (x : ℕ). ok x ≡ true → ⊥) w.is (f w.place w.inside)

-- ---- it looks at the list's own alone

beaten-same : (h k : ℕ → Bool) (better : ℕ → ℕ → Bool) (l : List ℕ) (x : ℕ) → ((s : ℕ) → elem s l ≡ true → h s ≡ k s) → beaten h better l x ≡ beaten k better l x
beaten-same h k better [] x f = refl
beaten-same h k better (y ∷ l) x f =
    ap₂ (λ (a b : Bool). a && better y x || b) (f y (elem-head y l)) (beaten-same h k better l x (λ s m. f s (elem-tail s y l m)))

first-same : (h k : ℕ → Bool) (l : List ℕ) → ((s : ℕ) → elem s l ≡ true → h s ≡ k s) → first_of h l ≡ first_of k l
first-same h k [] f = refl
first-same h k (x ∷ l) f = ap₂ (λ (b : Bool) (o : Option ℕ). cond b (some x) o) (f x (elem-head x l)) (first-same h k l (λ s m. f s (elem-tail s x l m)))

pub best-same : (h k : ℕ → Bool) (better : ℕ → ℕ → Bool) (l : List ℕ) → ((s : ℕ) → elem s l ≡ true → h s ≡ k s) → best h better l ≡ best k better l
unfolding best
best-same h k better l f = first-same _ _ l (λ s m. ap₂ (λ (a b : Bool). a && not b) (f s m) (beaten-same h k better l s f))
