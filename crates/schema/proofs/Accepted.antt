-- An accepted schema file: where each node's record stands, and that its nodes are sound.
-- Rests on node-back, over all nodes.
use mathlib.Core.Path.{◌≡◌, refl, ap, sym, subst, ◌∙◌}
use mathlib.Core.Bool.{◌&&◌}
use mathlib.Core.List.{List, [], ◌∷◌}
use Prim.Native.Nat.{ℕ, zero, suc, ◌+◌, ◌≤◌, ◌<◌}
use native.Mathlib.Omega.{arith}
use native.Mathlib.Nat.{add-zero, zero-add}
use borrow.Author.Tests.{leb-true, ltb-true}
use lib.Dec.{leb, ltb}
use lib.ListN.{length, get_or}
use Rattle.fields.specs.Reading.{Got, got, bad, be, many}
use Rattle.fields.specs.Answers.{end_of}
use Rattle.fields.proofs.Tests.{and-true}
use Rattle.fields.proofs.Reading.{stepped}
use Rattle.fields.proofs.Back.{went, field_back, after-mark, many-back, many-none, many-length, ended-back, be1}
use Rattle.fields.proofs.Bytes.{Bytes}
use Rattle.schema.specs.Schema.{Node, SH, node, nodes, body, schema, nodes_in, schema_of, node_at}
use Rattle.schema.specs.Table.{node_width, Accepted}
use Rattle.schema.proofs.Sound.{Sound}
use Rattle.schema.proofs.Node.{OneNode, node-back}

-- where node j's record begins, if the first begins at p
unfoldable pub node_place : ℕ → List Node → ℕ → ℕ
node_place p g zero = p
node_place p [] (suc j) = p
node_place p (x ∷ g) (suc j) = node_place (p + node_width x) g j

-- each node is read where its record begins
pub record Stands (s : List ℕ) (count own p : ℕ) (g : List Node) : Type 0 where
  pub each : (j : ℕ) → j < length g → node s count (own + j) (node_place p g j) ≡ got (node_at g j) (node_place p g (suc j))

stands-cons : (s : List ℕ) (count own p : ℕ) {x : Node} {g : List Node} {m : ℕ} → node s count own p ≡ got x m → m ≡ p + node_width x → Stands s count (own + 1) m g
    → Stands s count own p (x ∷ g)
unfolding node_place
stands-cons s count own p {x} {g} {m} here e l = record { each = at }
  where
    at : (j : ℕ) → j < length (x ∷ g) → node s count (own + j) (node_place p (x ∷ g) j) ≡ got (node_at (x ∷ g) j) (node_place p (x ∷ g) (suc j))
    at zero h = rw (add-zero own) (here ∙ ap (λ (n : ℕ). got x n) e)
    at (suc j) h =
        let z : own + 1 + j ≡ own + suc j = omega arith in
        rw (← z) (subst (λ (n : ℕ). node s count (own + 1 + j) (node_place n g j) ≡ got (node_at g j) (node_place n g (suc j))) e (l.each j (omega arith)))

pub nodes-back : (s : List ℕ) (count k own p : ℕ) {g : List Node} {q : ℕ} → many (node s count) (λ own _. own + 1) k own p ≡ got g q → Stands s count own p g
nodes-back s count zero own p e =
    let h = many-none (node s count) (λ own _. own + 1) own p e in
    record { each = λ j y. absurd (let z = ap length h.0 in omega arith) }
nodes-back s count (suc k) own p {g} e =
    let t = many-back (node s count) (λ own _. own + 1) k own p e in
    let l = nodes-back s count k (own + 1) t.middle t.rest in
    rw t.is (stands-cons s count own p t.here (node-back s count own p t.here).end l)

-- an accepted file
pub record File (s : List ℕ) (g : List Node) : Type 0 where
  pub inside : 3 ≤ length s
  pub count : length g ≡ get_or s 2 0
  pub some : 0 < length g
  pub few : length g ≤ 64
  pub stands : Stands s (length g) 0 3 g

pub file-back : (s : List ℕ) {g : List Node} {q : ℕ} → schema s ≡ got g q → File s g
unfolding schema body nodes
file-back s {g} {q} e =
    let m = after-mark SH s 0 _ e in
    let n = field_back 1 3 (λ n. ltb 0 n && leb n 64) s 2 _ m.then in
    let d = went (nodes s (be 1 s 2) (be 1 s 2) 0 3) _ n.then in
    let f = ended-back s d.value d.after d.then in
    let r = and-true (ltb 0 (be 1 s 2)) (leb (be 1 s 2) 64) n.rule-met in
    let l = many-length (node s (be 1 s 2)) (λ own _. own + 1) (be 1 s 2) 0 3 d.first in
    let lg : length g ≡ be 1 s 2 = ap length f.0 ∙ l in
    let st = nodes-back s (be 1 s 2) (be 1 s 2) 0 3 d.first in
    let lo = ltb-true 0 (be 1 s 2) r.0 in
    let hi = leb-true (be 1 s 2) 64 r.1 in
    record {
      inside = omega (arith, n.inside);
      count = lg ∙ be1 s 2;
      some = omega arith;
      few = omega arith;
      stands = subst (λ (y : List Node). Stands s (length g) 0 3 y) (sym f.0) (subst (λ (c : ℕ). Stands s c 0 3 d.value) (sym lg) st);
    }

-- the reader's answer
pub schema_got : (s : List ℕ) {q : ℕ} → got tt q ≡ end_of (schema s) → schema s ≡ got (schema_of s) q
unfolding schema_of
schema_got s {q} e = let w = stepped (schema s) e in w.1 ∙ ap (λ (g : List Node). got g q) (sym (ap nodes_in w.1))

pub accepted_by : (s : List ℕ) {q : ℕ} → got tt q ≡ end_of (schema s) → Accepted s
accepted_by s e = record { some = (file-back s (schema_got s e)).some }

file-at : (s : List ℕ) (g : Got (List Node)) → schema s ≡ g → 0 < length (nodes_in g) → File s (nodes_in g)
file-at s (bad n o) e h = absurd (omega arith)
file-at s (got g q) e h = file-back s e

pub file-of : (s : List ℕ) → 0 < length (schema_of s) → File s (schema_of s)
unfolding schema_of
file-of s h = file-at s (schema s) refl h

pub accepted-got : (s : List ℕ) → 0 < length (schema_of s) → (q : ℕ) × (schema s ≡ got (schema_of s) q)
unfolding schema_of
accepted-got s h = go (schema s) refl h
  where
    go : (g : Got (List Node)) → schema s ≡ g → 0 < length (nodes_in g) → (q : ℕ) × (schema s ≡ got (nodes_in g) q)
    go (bad n o) e h = absurd (omega arith)
    go (got g q) e h = (q, e)

-- node n's record
pub view : (s : List ℕ) {g : List Node} → File s g → (n : ℕ) → n < length g → OneNode s (length g) n (node_place 3 g n) (node_at g n) (node_place 3 g (suc n))
view s {g} f n h = node-back s (length g) n (node_place 3 g n) (rw (zero-add n) at (f.stands.each n h))

-- what acceptance gives
pub sound_of : (s : List ℕ) → 0 < length (schema_of s) → Sound (schema_of s)
sound_of s h =
    let f = file-of s h in
    record { some = f.some; few = f.few; nodes = λ n k. (view s f n k).sound }

pub sound : (s : List ℕ) → Bytes s → 0 < length (schema_of s) → Sound (schema_of s)
sound s b h = sound_of s h
