-- A variable's combined condition admits what the schema and all policies admit, and its least value is the least of that.
-- Rests on the laws of signed order and of bits, and on sizes of at most 32.
use mathlib.Core.Path.{◌≡◌, refl, sym, subst, ap, ◌∙◌}
use mathlib.Core.Bool.{Bool, true, false, cond, ◌&&◌, and_assoc}
use mathlib.Core.Bool.{and-true as and-unit}
use mathlib.Core.List.{List, [], ◌∷◌}
use mathlib.Core.Option.{Option, none, some, some-injective}
use Prim.Native.Nat.{ℕ, zero, suc, ◌+◌, ◌<◌, ◌^◌}
use native.Mathlib.Nat.{lt_of_lt_of_le, add-zero}
use native.Mathlib.Omega.{arith}
use borrow.Author.Tests.{eqb-true, eqb-false, ltb-true, lt-ltb, le-leb}
use lib.Dec.{eqb, ltb}
use lib.Bits.{bit_and, and_le_l}
use lib.Count.{count_trailing_zeros}
use lib.Pow.{pow_pos, pow_mono}
use lib.IntN.{ℤ, pos, negsuc}
use lib.ListN.{length, get_or}
use lib.Signed.{le_z}
use Rattle.fields.proofs.Tests.{and_yes, and-true, never, alike}
use Rattle.numbers.specs.Bits.{bit, ones}
use Rattle.std.specs.Int.{int_max, int_min}
use Rattle.numbers.proofs.Signs.{le_z-refl, le_z-trans, max-le, le-max, min-le, le-min}
use Rattle.numbers.proofs.Bits.{no-bit, and-bit, bit-and, ones_bit, bit_below, tz-bit, tz-least}
use Rattle.schema.specs.Schema.{Node, node_at, no_variable}
use Rattle.schema.specs.declared.Variable.{Variable}
use Rattle.schema.specs.declared.Variable.TheVariants.{Number, Listed}
use Rattle.schema.proofs.Sound.{SoundVariable, SoundVariables, Sound}
use Rattle.policies.specs.Policies.{Condition, range, mask, Policy}
use Rattle.instances.specs.Instance.{in_domain}
use Rattle.instances.proofs.IsInstance.{in_domains}
use Rattle.instances.proofs.Valid.{sound-variables}
use Rattle.model.specs.Satisfaction.{condition_at, admits, meets, every, admitted}
use Rattle.model.specs.Reconciling.{own, both, restrict, restrict_all, combined_from, combined, is_some, least, with_head, least_each}
use Rattle.model.proofs.Satisfaction.{admitted_from, admitted_at}
use Rattle.model.proofs.Lawful.{IsLeast}
use Rattle.model.proofs.Relations.{no_lower}

-- ---- one variable: what its combined condition admits

-- of the variable's type, with no bit at or above its size
abbrev pub Typed : Variable → Condition → Type 0
Typed (Number lo hi) (range a b) = Unit {0}
Typed (Number lo hi) (mask m) = ⊥
Typed (Listed size) (range a b) = ⊥
Typed (Listed size) (mask m) = m < 2 ^ size

own-typed : (v : Variable) → Typed v (own v)
unfolding own ones
own-typed (Number lo hi) = tt
own-typed (Listed size) = omega (arith, pow_pos size)

own-admits : (v : Variable) (x : ℤ) → admits v (own v) x ≡ in_domain v x
unfolding own admits in_domain ones
own-admits (Number lo hi) x = refl
own-admits (Listed size) (pos i) =
    alike (bit (ones size) i) (ltb i size) (λ t. lt-ltb i size (bit_below (ones size) size i (own-typed (Listed size)) t)) (λ t. ones_bit size i (ltb-true i size t))
own-admits (Listed size) (negsuc i) = refl

both_typed : (v : Variable) (c d : Condition) → Typed v c → Typed v (both c d)
unfolding both
both_typed (Number lo hi) (range a b) (range c d) t = tt
both_typed (Number lo hi) (range a b) (mask m) t = tt
both_typed (Number lo hi) (mask m) d t = absurd t
both_typed (Listed size) (range a b) d t = absurd t
both_typed (Listed size) (mask m) (range a b) t = t
both_typed (Listed size) (mask m) (mask k) t = omega (arith, and_le_l m k)

both-admits : (v : Variable) (c d : Condition) (x : ℤ) → Typed v c → admits v (both c d) x ≡ admits v c x && admits v d x
unfolding both admits
both-admits (Number lo hi) (range a b) (range c d) x t =
    alike (le_z (int_max a c) x && le_z x (int_min b d)) ((le_z a x && le_z x b) && (le_z c x && le_z x d)) there back
  where
    there : le_z (int_max a c) x && le_z x (int_min b d) ≡ true → (le_z a x && le_z x b) && (le_z c x && le_z x d) ≡ true
    there h =
        let w = and-true (le_z (int_max a c) x) (le_z x (int_min b d)) h in
        let u = max-le a c x w.0 in
        let v = min-le b d x w.1 in
        and_yes (and_yes u.0 v.0) (and_yes u.1 v.1)

    back : (le_z a x && le_z x b) && (le_z c x && le_z x d) ≡ true → le_z (int_max a c) x && le_z x (int_min b d) ≡ true
    back h =
        let w = and-true (le_z a x && le_z x b) (le_z c x && le_z x d) h in
        let u = and-true (le_z a x) (le_z x b) w.0 in
        let v = and-true (le_z c x) (le_z x d) w.1 in
        and_yes (le-max a c x u.0 v.0) (le-min b d x u.1 v.1)
both-admits (Number lo hi) (range a b) (mask m) x t = sym (and-unit (le_z a x && le_z x b))
both-admits (Number lo hi) (mask m) d x t = absurd t
both-admits (Listed size) (range a b) d x t = absurd t
both-admits (Listed size) (mask m) (range a b) (pos i) t = sym (and-unit (bit m i))
both-admits (Listed size) (mask m) (range a b) (negsuc i) t = refl
both-admits (Listed size) (mask m) (mask k) (pos i) t =
    alike (bit (bit_and m k) i) (bit m i && bit k i) (λ h. let w = and-bit m k i h in and_yes w.0 w.1) (λ h. let w = and-true (bit m i) (bit k i) h in bit-and m k i w.0 w.1)
both-admits (Listed size) (mask m) (mask k) (negsuc i) t = refl

restrict-typed : (v : Variable) (c : Condition) (o : Option Condition) → Typed v c → Typed v (restrict c o)
unfolding restrict
restrict-typed v c none t = t
restrict-typed v c (some d) t = both_typed v c d t

restrict-admits : (v : Variable) (c : Condition) (o : Option Condition) (x : ℤ) → Typed v c → admits v (restrict c o) x ≡ admits v c x && meets v o x
unfolding restrict meets
restrict-admits v c none x t = sym (and-unit (admits v c x))
restrict-admits v c (some d) x t = both-admits v c d x t

module _ (n k : ℕ) (v : Variable) where
  all_typed : (ps : List Policy) (c : Condition) → Typed v c → Typed v (restrict_all ps n k c)
  unfolding restrict_all
  all_typed [] c t = t
  all_typed (p ∷ ps) c t = all_typed ps (restrict c (condition_at p n k)) (restrict-typed v c (condition_at p n k) t)

  all-admits : (ps : List Policy) (c : Condition) (x : ℤ) → Typed v c → admits v (restrict_all ps n k c) x ≡ admits v c x && admitted ps n k v x
  unfolding restrict_all admitted
  all-admits [] c x t = sym (and-unit (admits v c x))
  all-admits (p ∷ ps) c x t =
      all-admits ps (restrict c (condition_at p n k)) x (restrict-typed v c (condition_at p n k) t)
      ∙ ap (λ (b : Bool). b && every (λ (q : Policy). meets v (condition_at q n k) x) ps) (restrict-admits v c (condition_at p n k) x t)
      ∙ and_assoc (admits v c x) (meets v (condition_at p n k) x) (every (λ (q : Policy). meets v (condition_at q n k) x) ps)

  pub combined-typed : (ps : List Policy) → Typed v (restrict_all ps n k (own v))
  combined-typed ps = all_typed ps (own v) (own-typed v)

  pub combined-admits : (ps : List Policy) (x : ℤ) → admits v (restrict_all ps n k (own v)) x ≡ in_domain v x && admitted ps n k v x
  combined-admits ps x = all-admits ps (own v) x (own-typed v) ∙ ap (λ (b : Bool). b && admitted ps n k v x) (own-admits v x)

  -- for a checker: of a value in the domain
  pub combined-in : (ps : List Policy) (x : ℤ) → in_domain v x ≡ true → admits v (restrict_all ps n k (own v)) x ≡ admitted ps n k v x
  combined-in ps x h = combined-admits ps x ∙ ap (λ (b : Bool). b && admitted ps n k v x) h

-- ---- the least value of a condition

least-is : (v : Variable) (c : Condition) → SoundVariable v → Typed v c → IsLeast le_z (admits v c) (least c)
unfolding least admits
least-is (Number lo hi) (range a b) s t = go (le_z a b) refl
  where
    go : (q : Bool) → le_z a b ≡ q → IsLeast le_z (admits (Number lo hi) (range a b)) (cond q (some a) none)
    go true e = (and_yes (le_z-refl a) e, λ y h. (and-true (le_z a y) (le_z y b) h).0)
    go false e = λ y h. let w = and-true (le_z a y) (le_z y b) h in never (sym e ∙ le_z-trans a y b w.0 w.1)
least-is (Number lo hi) (mask m) s t = absurd t
least-is (Listed size) (range a b) s t = absurd t
least-is (Listed size) (mask m) s t = go (eqb m 0) refl
  where
    none_left : m ≡ 0 → (y : ℤ) → admits (Listed size) (mask m) y ≡ true → ⊥
    none_left e (pos i) h = never (sym (no-bit i) ∙ subst (λ (x : ℕ). bit x i ≡ true) e h)
    none_left e (negsuc i) h = never h

    low : (y : ℤ) → admits (Listed size) (mask m) y ≡ true → le_z (pos (count_trailing_zeros 32 m)) y ≡ true
    low (pos i) h = le-leb (count_trailing_zeros 32 m) i (tz-least 32 m i h)
    low (negsuc i) h = never h

    go : (q : Bool) → eqb m 0 ≡ q → IsLeast le_z (admits (Listed size) (mask m)) (cond q none (some (pos (count_trailing_zeros 32 m))))
    go true e = none_left (eqb-true m 0 e)
    go false e = (tz-bit 32 m (let z = eqb-false m 0 e in omega arith) (lt_of_lt_of_le t (pow_mono s.1)), low)

-- ---- all variables of a node, from variable k on

least-as : {A : Type 0} (le : A → A → Bool) (f h : A → Bool) → ((x : A) → f x ≡ h x) → (o : Option A) → IsLeast le f o → IsLeast le h o
least-as le f h e none w = λ y t. w y (e y ∙ t)
least-as le f h e (some x) w = (sym (e x) ∙ w.0, λ y t. w.1 y (e y ∙ t))

module _ (ps : List Policy) (n : ℕ) where
  -- the values of a variable that schema and policies admit
  left : ℕ → Variable → ℤ → Bool
  left k v x = in_domain v x && admitted ps n k v x

  pub left-each : ℕ → List Variable → List ℤ → Bool
  left-each k vs xs = in_domains vs xs && admitted_from ps n k vs xs

  swap : (a b c d : Bool) → (a && b) && (c && d) ≡ true → (a && c ≡ true) × (b && d ≡ true)
  swap a b c d h =
      let w = and-true (a && b) (c && d) h in
      let u = and-true a b w.0 in
      let v = and-true c d w.1 in
      (and_yes u.0 v.0, and_yes u.1 v.1)

  first-left : (k : ℕ) (v : Variable) (vs : List Variable) (x : ℤ) (xs : List ℤ) → left-each k (v ∷ vs) (x ∷ xs) ≡ true → (left k v x ≡ true) × (left-each (k + 1) vs xs ≡ true)
  unfolding left left-each in_domains admitted_from
  first-left k v vs x xs h = swap (in_domain v x) (in_domains vs xs) (admitted ps n k v x) (admitted_from ps n (k + 1) vs xs) h

  left-first : (k : ℕ) (v : Variable) (vs : List Variable) (x : ℤ) (xs : List ℤ) → left k v x ≡ true → left-each (k + 1) vs xs ≡ true → left-each k (v ∷ vs) (x ∷ xs) ≡ true
  unfolding left left-each in_domains admitted_from
  left-first k v vs x xs h t =
      let w = swap (in_domain v x) (admitted ps n k v x) (in_domains vs xs) (admitted_from ps n (k + 1) vs xs) (and_yes h t) in and_yes w.0 w.1

  with_first : (k : ℕ) (v : Variable) (vs : List Variable) (o : Option ℤ) (r : Option (List ℤ)) → IsLeast le_z (left k v) o → IsLeast no_lower (left-each (k + 1) vs) r
      → IsLeast no_lower (left-each k (v ∷ vs)) (with_head o r)
  unfolding left-each in_domains no_lower
  with_first k v vs none r p q = refuse
    where
      refuse : (ys : List ℤ) → left-each k (v ∷ vs) ys ≡ true → ⊥
      refuse [] h = never h
      refuse (y ∷ ys) h = p y (first-left k v vs y ys h).0
  with_first k v vs (some x) none p q = refuse
    where
      refuse : (ys : List ℤ) → left-each k (v ∷ vs) ys ≡ true → ⊥
      refuse [] h = never h
      refuse (y ∷ ys) h = q ys (first-left k v vs y ys h).1
  with_first k v vs (some x) (some xs) p q = (left-first k v vs x xs p.0 q.0, low)
    where
      low : (ys : List ℤ) → left-each k (v ∷ vs) ys ≡ true → no_lower (x ∷ xs) ys ≡ true
      low [] h = refl
      low (y ∷ ys) h = let w = first-left k v vs y ys h in and_yes (p.1 y w.0) (q.1 ys w.1)

  least-each : (k : ℕ) (vs : List Variable) → SoundVariables vs → IsLeast no_lower (left-each k vs) (least_each (combined_from ps n k vs))
  unfolding left left-each in_domains admitted_from no_lower combined_from least_each
  least-each k [] s = (refl, λ ys h. refl)
  least-each k (v ∷ vs) s =
      with_first k v vs (least (restrict_all ps n k (own v))) (least_each (combined_from ps n (k + 1) vs))
      (least-as le_z (admits v (restrict_all ps n k (own v))) (left k v) (combined-admits n k v ps) (least (restrict_all ps n k (own v))) (least-is v (restrict_all ps n k (own v)) s.0 (combined-typed n k v ps)))
      (least-each (k + 1) vs s.1)

-- 'the least values that schema and all conditions admit'
pub least-of : (g : List Node) → Sound g → (ps : List Policy) (n : ℕ)
    → IsLeast no_lower (λ (xs : List ℤ). in_domains (node_at g n).variables xs && admitted_at g ps n xs) (least_each (combined g ps n))
unfolding combined left-each
least-of g A ps n = least-each ps n 0 (node_at g n).variables (sound-variables g A n)

-- ---- for an engine: place k of the combined conditions is variable k's, and each place has its least value

pub combined-at : (ps : List Policy) (n j k : ℕ) (vs : List Variable) (d : Condition) → k < length vs → get_or (combined_from ps n j vs) k d ≡ restrict_all ps n (j + k) (own (get_or vs k no_variable))
unfolding combined_from
combined-at ps n j k [] d h = absurd (omega arith)
combined-at ps n j zero (v ∷ vs) d h = ap (λ (x : ℕ). restrict_all ps n x (own v)) (sym (add-zero j))
combined-at ps n j (suc k) (v ∷ vs) d h =
    combined-at ps n (j + 1) k vs d (omega arith) ∙ ap (λ (x : ℕ). restrict_all ps n x (own (get_or vs k no_variable))) (let z : j + 1 + k ≡ j + suc k = omega arith in z)

pub some_left : (cs : List Condition) → is_some (least_each cs) ≡ every (λ (c : Condition). is_some (least c)) cs
unfolding least_each
some_left [] = refl
some_left (c ∷ cs) = go (least c) (least_each cs) (some_left cs)
  where
    go : (o : Option ℤ) (r : Option (List ℤ)) → is_some r ≡ every (λ (c : Condition). is_some (least c)) cs → is_some (with_head o r) ≡ is_some o && every (λ (c : Condition). is_some (least c)) cs
    go none r e = refl
    go (some x) none e = e
    go (some x) (some xs) e = e

pub least_at : (cs : List Condition) (xs : List ℤ) (k : ℕ) (c : Condition) (x : ℤ) → least_each cs ≡ some xs → k < length cs → least (get_or cs k c) ≡ some (get_or xs k x)
unfolding least_each
least_at [] xs k c x e h = absurd (omega arith)
least_at (d ∷ cs) xs k c x e h = go (least d) refl (least_each cs) refl k e h (λ ys j. least_at cs ys j c x)
  where
    go : (o : Option ℤ) → least d ≡ o → (r : Option (List ℤ)) → least_each cs ≡ r → (k : ℕ) → with_head o r ≡ some xs → k < suc (length cs)
        → ((ys : List ℤ) (j : ℕ) → least_each cs ≡ some ys → j < length cs → least (get_or cs j c) ≡ some (get_or ys j x)) → least (get_or (d ∷ cs) k c) ≡ some (get_or xs k x)
    go none p r q k e h ih = absurd (let z : ◌≡◌ {A = ℕ} 0 1 = cc in omega arith)
    go (some y) p none q k e h ih = absurd (let z : ◌≡◌ {A = ℕ} 0 1 = cc in omega arith)
    go (some y) p (some ys) q zero e h ih = subst (λ (l : List ℤ). least d ≡ some (get_or l 0 x)) (some-injective (y ∷ ys) xs e) p
    go (some y) p (some ys) q (suc k) e h ih = subst (λ (l : List ℤ). least (get_or cs k c) ≡ some (get_or l (suc k) x)) (some-injective (y ∷ ys) xs e) (ih ys k q (omega arith))
