-- A node's record that was read: what its bytes are, how wide it is, and that it is sound.
-- Rests on the laws of fields/proofs/Back.
use mathlib.Core.Path.{◌≡◌, refl, ap, sym, subst, ◌∙◌}
use mathlib.Core.Logic.{◌⊎◌, inl, inr}
use mathlib.Core.Bool.{Bool, true, false, cond, ◌&&◌, ◌||◌}
use mathlib.Core.List.{List, [], ◌∷◌}
use Prim.Native.Nat.{ℕ, zero, suc, ◌+◌, ◌-◌, ◌^◌, ◌≤◌, ◌<◌}
use native.Mathlib.Omega.{arith}
use native.Mathlib.Nat.{add-zero}
use borrow.Author.Tests.{leb-true, ltb-true, ltb-false, eqb-true}
use lib.Dec.{leb, ltb, eqb}
use lib.ListN.{length, get_or}
use lib.IntN.{pos, negsuc}
use lib.Signed.{le_z, mag}
use mir.Val.{SFits, sel}
use mir.Syntax.{w32}
use Rattle.fields.specs.Reading.{Got, got, be, field, many, signed}
use Rattle.fields.proofs.Tests.{and-true, or-true}
use Rattle.fields.proofs.Back.{went, Took, field_back, any-back, after-mark, many-back, many-none, be1}
use Rattle.schema.specs.Schema.{Node, SN, number, listed, variable, variables, variables_of, successors, links, node, no_variable}
use Rattle.schema.specs.Table.{variable_width, variables_width, body_of, node_width}
use Rattle.schema.specs.declared.Variable.{Variable}
use Rattle.schema.specs.declared.Variable.TheVariants.{Number, Listed}
use Rattle.schema.proofs.Sound.{Rising, SoundVariable, SoundVariables, SoundNode}

-- ---- successors

pub record Links (s : List ℕ) (count own k p : ℕ) (xs : List ℕ) (q : ℕ) : Type 0 where
  pub end : q ≡ p + k
  pub size : length xs ≡ k
  pub rising : Rising own count xs
  pub bytes : (j : ℕ) → j < k → get_or xs j 0 ≡ get_or s (p + j) 0

abbrev rule : ℕ → ℕ → ℕ → Bool
rule count above x = ltb above x && ltb x count

abbrev step : List ℕ → ℕ → ℕ → ℕ → Got ℕ
step s count above p = field 1 5 (rule count above) s p got

links-cons : (s : List ℕ) (count own k p : ℕ) {x m : ℕ} {xs ys : List ℕ} {q : ℕ} → Took 1 (rule count own) s p got x m → ys ≡ x ∷ xs
    → Links s count x k m xs q → Links s count own (suc k) p ys q
links-cons s count own k p {x} {m} {xs} t e l =
    let z = t.then in
    let a : be 1 s p ≡ x = cc in
    let b : p + 1 ≡ m = cc in
    let w : x ≡ get_or s p 0 = sym a ∙ be1 s p in
    let r = and-true (ltb own (be 1 s p)) (ltb (be 1 s p) count) t.rule-met in
    let lo = ltb-true own (be 1 s p) r.0 in
    let hi = ltb-true (be 1 s p) count r.1 in
    record {
      end = omega (arith, l.end);
      size = ap length e ∙ ap suc l.size;
      rising = rw e (omega arith, omega arith, l.rising);
      bytes = λ j h. ap (λ (y : List ℕ). get_or y j 0) e ∙ at j h w b;
    }
  where
    at : (j : ℕ) → j < suc k → x ≡ get_or s p 0 → p + 1 ≡ m → get_or (x ∷ xs) j 0 ≡ get_or s (p + j) 0
    at zero h w b = rw (add-zero p) w
    at (suc j) h w b = l.bytes j (omega arith) ∙ ap (λ (n : ℕ). get_or s n 0) (let y : m + j ≡ p + suc j = omega arith in y)

links-from : (s : List ℕ) (count own k p : ℕ) {xs : List ℕ} {q : ℕ} → many (step s count) (λ _ x. x) k own p ≡ got xs q → Links s count own k p xs q
links-from s count own zero p {xs} {q} e =
    let h = many-none (step s count) (λ _ x. x) own p e in
    record { end = omega (arith, h.1); size = ap length h.0; rising = rw h.0 tt; bytes = λ j b. absurd (omega arith) }
links-from s count own (suc k) p e =
    let t = many-back (step s count) (λ _ x. x) k own p e in
    links-cons s count own k p (field_back 1 5 (rule count own) s p got t.here) t.is (links-from s count t.head k t.middle t.rest)

pub links-back : (s : List ℕ) (count own k p : ℕ) {xs : List ℕ} {q : ℕ} → successors s count own k p ≡ got xs q → Links s count own k p xs q
unfolding successors
links-back s count own k p e = links-from s count own k p e

-- ---- variables

pub record OneVariable (s : List ℕ) (p : ℕ) (v : Variable) (q : ℕ) : Type 0 where
  pub end : q ≡ p + variable_width v
  pub inside : q ≤ length s
  pub sound : SoundVariable v
  pub type : cond (eqb (get_or s p 0) 0) 9 2 ≡ variable_width v
  pub is : v ≡ cond (eqb (get_or s p 0) 0) (Number (signed (be 4 s (p + 1))) (signed (be 4 s (p + 5)))) (Listed (get_or s (p + 1) 0))

-- any word is a number of 32 bits as a signed one, whatever stands in the file
signed-fits : (u : ℕ) → SFits w32 (signed u)
signed-fits u = record { sfits = go (ltb u (2 ^ 31)) refl }
  where
    go : (b : Bool) → ltb u (2 ^ 31) ≡ b → mag (sel b (pos u) (negsuc (2 ^ 32 - suc u))) < 2 ^ 31
    go true t = ltb-true u (2 ^ 31) t
    go false t = let z = ltb-false u (2 ^ 31) t in omega arith

record Rest (s : List ℕ) (p n : ℕ) (v w : Variable) (q : ℕ) : Type 0 where
  end : q ≡ p + n
  inside : q ≤ length s
  wide : variable_width v ≡ n + 1
  sound : SoundVariable v
  is : v ≡ w

number-back : (s : List ℕ) (p : ℕ) {v : Variable} {q : ℕ} → number s p ≡ got v q → Rest s p 8 v (Number (signed (be 4 s p)) (signed (be 4 s (p + 4)))) q
unfolding number variable_width
number-back s p {v} {q} e =
    let l = any-back 4 s p _ e in
    let h = field_back 4 6 (λ hi. le_z (signed (be 4 s p)) (signed hi)) s (p + 4) _ l.then in
    let z = h.then in
    let x : v ≡ Number (signed (be 4 s p)) (signed (be 4 s (p + 4))) = cc in
    let y : p + 4 + 4 ≡ q = cc in
    rw x (record {
      end = omega arith;
      inside = omega (arith, h.inside);
      wide = refl;
      sound = (signed-fits (be 4 s p), signed-fits (be 4 s (p + 4)), h.rule-met);
      is = refl;
    })

listed_back : (s : List ℕ) (p : ℕ) {v : Variable} {q : ℕ} → listed s p ≡ got v q → Rest s p 1 v (Listed (be 1 s p)) q
unfolding listed variable_width
listed_back s p {v} {q} e =
    let h = field_back 1 6 (λ n. ltb 0 n && leb n 32) s p _ e in
    let z = h.then in
    let x : v ≡ Listed (be 1 s p) = cc in
    let y : p + 1 ≡ q = cc in
    let r = and-true (ltb 0 (be 1 s p)) (leb (be 1 s p) 32) h.rule-met in
    rw x (record {
      end = omega arith;
      inside = omega (arith, h.inside);
      wide = refl;
      sound = (ltb-true 0 (be 1 s p) r.0, leb-true (be 1 s p) 32 r.1);
      is = refl;
    })

pub variable-back : (s : List ℕ) (p : ℕ) {v : Variable} {q : ℕ} → variable s p ≡ got v q → OneVariable s p v q
unfolding variable
variable-back s p {v} {q} e =
    let h = field_back 1 6 (λ t. leb t 1) s p _ e in
    go (eqb (be 1 s p) 0) refl h.then
  where
    go : (t : Bool) → eqb (be 1 s p) 0 ≡ t → cond t (number s (p + 1)) (listed s (p + 1)) ≡ got v q → OneVariable s p v q
    go true t e =
        let r = number-back s (p + 1) e in
        let y : eqb (get_or s p 0) 0 ≡ true = rw (be1 s p) at t in
        let z : p + 1 + 4 ≡ p + 5 = omega arith in
        let w : v ≡ Number (signed (be 4 s (p + 1))) (signed (be 4 s (p + 5))) = r.is ∙ ap (λ (i : ℕ). Number (signed (be 4 s (p + 1))) (signed (be 4 s i))) z in
        record { end = omega (arith, r.end, r.wide); inside = r.inside; sound = r.sound; type = rw y (sym r.wide); is = rw y w }
    go false t e =
        let r = listed_back s (p + 1) e in
        let y : eqb (get_or s p 0) 0 ≡ false = rw (be1 s p) at t in
        let w : v ≡ Listed (get_or s (p + 1) 0) = r.is ∙ ap Listed (be1 s (p + 1)) in
        record { end = omega (arith, r.end, r.wide); inside = r.inside; sound = r.sound; type = rw y (sym r.wide); is = rw y w }

-- where variable k begins, if the first begins at p
unfoldable pub variable_place : ℕ → List Variable → ℕ → ℕ
variable_place p vs zero = p
variable_place p [] (suc k) = p
variable_place p (v ∷ vs) (suc k) = variable_place (p + variable_width v) vs k

pub record Variables (s : List ℕ) (k p : ℕ) (vs : List Variable) (q : ℕ) : Type 0 where
  pub end : q ≡ p + variables_width vs
  pub inside : p ≤ length s → q ≤ length s
  pub size : length vs ≡ k
  pub sound : SoundVariables vs
  pub each : (j : ℕ) → j < k → variable s (variable_place p vs j) ≡ got (get_or vs j no_variable) (variable_place p vs (suc j))

variables-cons : (s : List ℕ) (k p : ℕ) {v : Variable} {m : ℕ} {vs ws : List Variable} {q : ℕ} → variable s p ≡ got v m → OneVariable s p v m → ws ≡ v ∷ vs
    → Variables s k m vs q → Variables s (suc k) p ws q
unfolding variables_width variable_place
variables-cons s k p {v} {m} {vs} here o e l =
    rw e (record {
      end = omega (arith, l.end, o.end);
      inside = λ h. l.inside o.inside;
      size = ap suc l.size;
      sound = (o.sound, l.sound);
      each = at;
    })
  where
    at : (j : ℕ) → j < suc k → variable s (variable_place p (v ∷ vs) j) ≡ got (get_or (v ∷ vs) j no_variable) (variable_place p (v ∷ vs) (suc j))
    at zero h = here ∙ ap (λ (n : ℕ). got v n) o.end
    at (suc j) h = subst (λ (n : ℕ). variable s (variable_place n vs j) ≡ got (get_or vs j no_variable) (variable_place n vs (suc j))) o.end (l.each j (omega arith))

variables-from : (s : List ℕ) (k p : ℕ) {vs : List Variable} {q : ℕ} → many {S = ℕ} (λ _ p. variable s p) (λ i _. i) k 0 p ≡ got vs q → Variables s k p vs q
unfolding variables_width
variables-from s zero p {vs} {q} e =
    let h = many-none {S = ℕ} (λ _ p. variable s p) (λ i _. i) 0 p e in
    rw h.0 (record { end = omega (arith, h.1); inside = λ y. omega (arith, h.1); size = refl; sound = tt; each = λ j y. absurd (omega arith) })
variables-from s (suc k) p e =
    let t = many-back {S = ℕ} (λ _ p. variable s p) (λ i _. i) k 0 p e in
    variables-cons s k p t.here (variable-back s p t.here) t.is (variables-from s k t.middle t.rest)

pub variables-back : (s : List ℕ) (k p : ℕ) {vs : List Variable} {q : ℕ} → variables s k p ≡ got vs q → Variables s k p vs q
unfolding variables
variables-back s k p e = variables-from s k p e

-- ---- a node

pub record OneNode (s : List ℕ) (count own p : ℕ) (x : Node) (q : ℕ) : Type 0 where
  pub kind : x.kind ≡ get_or s (p + 2) 0
  pub linked : length x.successors ≡ get_or s (p + 3) 0
  pub links : (j : ℕ) → j < length x.successors → get_or x.successors j 0 ≡ get_or s (p + 4 + j) 0
  pub varied : length x.variables ≡ get_or s (p + 4 + length x.successors) 0
  pub vars : variables s (length x.variables) (p + body_of x) ≡ got x.variables q
  pub few-successors : length x.successors ≤ 8
  pub few-variables : length x.variables ≤ 4
  pub rising : Rising own count x.successors
  pub end : q ≡ p + node_width x
  pub inside : p + body_of x ≤ length s
  pub sound : SoundNode count own x

-- what the parts of a record tell, the marks and counts taken off
made : (s : List ℕ) (count own p : ℕ) {k : ℕ} {xs : List ℕ} {vs : List Variable} {m q : ℕ}
    → k ≡ get_or s (p + 2) 0 → k ≤ 1 → get_or s (p + 3) 0 ≤ 8 → (k ≡ 0 → 0 < get_or s (p + 3) 0)
    → Links s count own (get_or s (p + 3) 0) (p + 4) xs m → m + 1 ≤ length s → get_or s m 0 ≤ 4 → variables s (get_or s m 0) (m + 1) ≡ got vs q
    → OneNode s count own p (record { kind = k; successors = xs; variables = vs }) q
unfolding node_width
made s count own p {k} {xs} {vs} {m} {q} ek k1 c8 c1 l i v4 e =
    let v = variables-back s (get_or s m 0) (m + 1) e in
    let em : m ≡ p + 4 + length xs = omega (arith, l.end, l.size) in
    let eb : m + 1 ≡ p + (5 + length xs) = omega arith in
    let ev : length vs ≡ get_or s (p + 4 + length xs) 0 = v.size ∙ ap (λ (n : ℕ). get_or s n 0) em in
    record {
      kind = ek;
      linked = l.size;
      links = λ j h. l.bytes j (omega (arith, l.size));
      varied = ev;
      vars = ap (λ (n : ℕ). variables s n (p + (5 + length xs))) v.size ∙ ap (variables s (get_or s m 0)) (sym eb) ∙ e;
      few-successors = omega (arith, l.size);
      few-variables = omega (arith, v.size);
      rising = l.rising;
      end = omega (arith, v.end);
      inside = omega arith;
      sound = record {
        kind-most = k1;
        some = λ z. let y = c1 z in omega (arith, l.size);
        few = omega (arith, l.size);
        rising = l.rising;
        few-variables = omega (arith, v.size);
        variables = v.sound;
      };
    }

some-links : (c k : ℕ) → (ltb 0 c || eqb k 1) ≡ true → k ≡ 0 → 0 < c
some-links c k t e = go (or-true (ltb 0 c) (eqb k 1) t)
  where
    go : (ltb 0 c ≡ true) ⊎ (eqb k 1 ≡ true) → 0 < c
    go (inl h) = ltb-true 0 c h
    go (inr h) = absurd (let z = eqb-true k 1 h in omega arith)

pub node-back : (s : List ℕ) (count own p : ℕ) {x : Node} {q : ℕ} → node s count own p ≡ got x q → OneNode s count own p x q
unfolding node links variables_of
node-back s count own p {x} {q} e =
    let m = after-mark SN s p _ e in
    let k = field_back 1 4 (λ k. leb k 1) s (p + 2) _ m.then in
    let l = went (links s count own (be 1 s (p + 2)) (p + 2 + 1)) _ k.then in
    let c = field_back 1 4 (λ c. leb c 8 && (ltb 0 c || eqb (be 1 s (p + 2)) 1)) s (p + 2 + 1) _ l.first in
    let v = went (variables_of s l.after) _ l.then in
    let d = field_back 1 6 (λ v. leb v 4) s l.after _ v.first in
    let p3 : p + 2 + 1 ≡ p + 3 = omega arith in
    let p4 : p + 2 + 1 + 1 ≡ p + 4 = omega arith in
    let bc : be 1 s (p + 2 + 1) ≡ get_or s (p + 3) 0 = be1 s (p + 2 + 1) ∙ ap (λ (n : ℕ). get_or s n 0) p3 in
    let bk : be 1 s (p + 2) ≡ get_or s (p + 2) 0 = be1 s (p + 2) in
    let bd : be 1 s l.after ≡ get_or s l.after 0 = be1 s l.after in
    let r = and-true (leb (be 1 s (p + 2 + 1)) 8) (ltb 0 (be 1 s (p + 2 + 1)) || eqb (be 1 s (p + 2)) 1) c.rule-met in
    let g = some-links (be 1 s (p + 2 + 1)) (be 1 s (p + 2)) r.1 in
    let ls = subst (λ (n : ℕ). Links s count own n (p + 4) l.value l.after) bc
    (subst (λ (n : ℕ). Links s count own (be 1 s (p + 2 + 1)) n l.value l.after) p4 (links-back s count own (be 1 s (p + 2 + 1)) (p + 2 + 1 + 1) c.then)) in
    let o = made s count own p bk (leb-true (be 1 s (p + 2)) 1 k.rule-met) (let z = leb-true (be 1 s (p + 2 + 1)) 8 r.0 in omega arith)
    (λ z. let y = g z in omega arith) ls d.inside (let z = leb-true (be 1 s l.after) 4 d.rule-met in omega arith)
    (ap (λ (n : ℕ). variables s n (l.after + 1)) (sym bd) ∙ d.then) in
    let z = v.then in
    let ex : record { kind = be 1 s (p + 2); successors = l.value; variables = v.value } ≡ x = cc in
    let eq : v.after ≡ q = cc in
    subst (λ (y : Node). OneNode s count own p y q) ex (subst (OneNode s count own p _) eq o)
