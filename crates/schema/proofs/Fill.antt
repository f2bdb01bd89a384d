-- Reading and filling in one pass: what is left to read and to fill from here equals the whole; one law for each way that a loop or a part can end.
-- Rests on the laws of runs of the crate fields, and on where a record that was read ends.
use mathlib.Core.Path.{◌≡◌, refl, ap, sym, subst, ◌∙◌}
use mathlib.Core.List.{List, ◌∷◌}
use Prim.Native.Nat.{ℕ, ◌+◌, ◌-◌, ◌≤◌, ◌<◌}
use native.Mathlib.Omega.{arith}
use borrow.Author.Tests.{le-leb}
use lib.ListN.{length, get_or, set, replicate, length-set, length-replicate}
use Rattle.fields.specs.Reading.{Got, got, bad, part, whole, field, mark, many}
use Rattle.std.specs.Prelude.{Result, Ok, Err}
use Rattle.fields.specs.Answers.{as_end, end_of}
use Rattle.fields.specs.Runs.{did, refused, outcome, run_of}
use Rattle.fields.specs.declared.Breach.{Breach}
use Rattle.fields.proofs.Tests.{ne-pos}
use Rattle.fields.proofs.Reading.{stepped, ended-bad, ended-ok}
use Rattle.fields.proofs.Back.{whole_back, mark-back, be1}
use Rattle.fields.proofs.Runs.{ran, failed, run_answer, run_exit, run_refused, run_step}
use Rattle.schema.specs.Schema.{Node, SH, node, nodes, body, schema, schema_of}
use Rattle.schema.specs.Table.{blank, layout_at, fill_nodes, table_of, put_node, Accepted, Tabled, Room, RoomIn, RoomFor, YieldsSchema}
use Rattle.schema.specs.declared.Layout.{Layout}
use Rattle.schema.proofs.Node.{node-back}
use Rattle.schema.proofs.Accepted.{file-of, accepted-got}
use Rattle.schema.proofs.Table.{nodes-long}

-- ---- all nodes

-- those from node own on are to be read, from at on
pub record NodesLeft (s : List ℕ) (count from : ℕ) (t₀ t : List Layout) (own at : ℕ) : Type 0 where
  pub upto : own ≤ count
  pub same : length t ≡ length t₀
  pub rest : run_of (fill_nodes own at) (nodes s count (count - own) own at) t ≡ run_of (fill_nodes 0 from) (nodes s count count 0 from) t₀

pub nodes_init : (s : List ℕ) (count from : ℕ) (t : List Layout) → NodesLeft s count from t t 0 from
nodes_init s count from t =
    let z : count - 0 ≡ count = omega arith in
    record { upto = omega arith; same = refl; rest = ap (λ (i : ℕ). run_of (fill_nodes 0 from) (nodes s count i 0 from) t) z }

module _ (s : List ℕ) (count from : ℕ) (t₀ t : List Layout) (own at : ℕ) (l : NodesLeft s count from t₀ t own at) where
  pub nodes_room : RoomFor count t₀ → own < count → own < length t
  nodes_room r h = omega (arith, l.same, r.long)

  pub nodes_refused : {n o : ℕ} → own < count → refused n o ≡ run_of (put_node at) (node s count own at) (layout_at t own)
      → refused n o ≡ run_of (fill_nodes 0 from) (nodes s count count 0 from) t₀
  unfolding nodes
  nodes_refused h e =
      run_refused (node s count) (λ own _. own + 1) (fill_nodes own at) (count - own) own at t l.rest (omega arith) (failed (put_node at) (node s count own at) (layout_at t own) e)

  pub nodes_step : {y : Layout} {q : ℕ} → own < count → did q y ≡ run_of (put_node at) (node s count own at) (layout_at t own) → NodesLeft s count from t₀ (set t own y) (own + 1) q
  unfolding nodes fill_nodes
  nodes_step {y} {q} h e =
      let m = ran (put_node at) (node s count own at) (layout_at t own) y e in
      let eq = (node-back s count own at m.read).end in
      let z : count - own - 1 ≡ count - (own + 1) = omega arith in
      let turn : (xs : List Node) → fill_nodes own at (m.value ∷ xs) t ≡ fill_nodes (own + 1) q xs (set t own y) =
      λ xs. (λ i. fill_nodes (own + 1) (sym eq i) xs (set t own (sym m.is i))) in
      record {
        upto = omega arith;
        same = length-set t own y ∙ l.same;
        rest = subst (λ (i : ℕ). run_of (fill_nodes (own + 1) q) (many (node s count) (λ own _. own + 1) i (own + 1) q) (set t own y) ≡ run_of (fill_nodes 0 from) (many (node s count) (λ own _. own + 1) count 0 from) t₀) z
            (run_step (node s count) (λ own _. own + 1) (fill_nodes own at) (fill_nodes (own + 1) q) (count - own) own at t (set t own y) l.rest (omega arith) m.read turn);
      }

  pub nodes_exit : count ≤ own → did at t ≡ run_of (fill_nodes 0 from) (nodes s count count 0 from) t₀
  unfolding nodes fill_nodes
  nodes_exit h = run_exit (node s count) (λ own _. own + 1) (fill_nodes own at) (count - own) own at t l.rest (omega arith)

-- ---- and no byte after them

module _ (s : List ℕ) (count p : ℕ) (t : List Layout) where
  pub body_bad : {n o : ℕ} → refused n o ≡ run_of (fill_nodes 0 p) (nodes s count count 0 p) t → refused n o ≡ run_of (fill_nodes 0 p) (body s count p) t
  unfolding body part
  body_bad e = rw (failed (fill_nodes 0 p) (nodes s count count 0 p) t e)

  module _ {t₁ : List Layout} {q : ℕ} (e : did q t₁ ≡ run_of (fill_nodes 0 p) (nodes s count count 0 p) t) where
    pub body_rest : q < length s → refused 7 q ≡ run_of (fill_nodes 0 p) (body s count p) t
    unfolding body part
    body_rest k =
        let r = ran (fill_nodes 0 p) (nodes s count count 0 p) t t₁ e in
        rw (r.read, ended-bad s r.value q k)

    pub body_ok : length s ≤ q → did q t₁ ≡ run_of (fill_nodes 0 p) (body s count p) t
    unfolding body part
    body_ok k =
        let r = ran (fill_nodes 0 p) (nodes s count count 0 p) t t₁ e in
        rw (r.read, ended-ok s r.value q k) (ap (did q) r.is)

-- ---- the file

pub schema_bad : (s : List ℕ) (t : List Layout) {r : Result ℕ Breach} {n o : ℕ} → as_end r ≡ bad n o → bad n o ≡ schema s → YieldsSchema s r t
schema_bad s t h e = record { answer = rw (← e) h; tabled = λ a. absurd (never a) }
  where
    never : Accepted s → ⊥
    never a = let w = accepted-got s a.some in let z = e ∙ w.1 in let y : ◌≡◌ {A = ℕ} 0 1 = cc in omega arith

module _ (s : List ℕ) (t : List Layout) (r : Room s t) {p₁ count p₂ : ℕ}
    (h₀ : got tt p₁ ≡ end_of (mark SH s 0)) (h₁ : got count p₂ ≡ whole 1 s p₁) where
  count_at : (count ≡ get_or s 2 0) × (p₂ ≡ 3)
  count_at =
      let a = (mark-back SH s 0 (stepped (mark SH s 0) h₀).1).next in
      let b = whole_back 1 s p₁ (sym h₁) in
      let z : p₁ ≡ 2 = omega arith in
      (b.value ∙ be1 s p₁ ∙ ap (λ (i : ℕ). get_or s i 0) z, omega (arith, b.next))

  pub schema_room : count ≤ 64 → RoomFor count t
  schema_room h =
      let c = count_at.0 in
      let l : get_or s 2 0 ≤ length t = r.long (omega arith) in
      record { few = h; long = omega arith }

  whole-body : (count ≡ 0 → ⊥) → count ≤ 64 → schema s ≡ body s count 3
  unfolding schema part field
  whole-body z h =
      rw ((stepped (mark SH s 0) h₀).1, ← h₁, ne-pos count z, le-leb count 64 h, count_at.1)

  pub schema_ok : (t₁ : List Layout) (f : Result ℕ Breach) → (count ≡ 0 → ⊥) → count ≤ 64 → outcome f t₁ ≡ run_of (fill_nodes 0 p₂) (body s count p₂) t
      → YieldsSchema s f t₁
  unfolding table_of
  schema_ok t₁ f z h e =
      let w = whole-body z h in
      let e₃ : outcome f t₁ ≡ run_of (fill_nodes 0 3) (body s count 3) t = e ∙ ap (λ (p : ℕ). run_of (fill_nodes 0 p) (body s count p) t) count_at.1 in
      let e₄ : outcome f t₁ ≡ run_of (fill_nodes 0 3) (schema s) t = e₃ ∙ ap (λ (g : Got (List Node)). run_of (fill_nodes 0 3) g t) (sym w) in
      record { answer = run_answer (fill_nodes 0 3) (schema s) t t₁ f e₄; tabled = λ a. tabled e₄ a }
    where
      filled : outcome f t₁ ≡ run_of (fill_nodes 0 3) (schema s) t → Accepted s → t₁ ≡ fill_nodes 0 3 (schema_of s) t
      filled e a = let w = accepted-got s a.some in go f (e ∙ ap (λ (g : Got (List Node)). run_of (fill_nodes 0 3) g t) w.1)
        where
          go : (f : Result ℕ Breach) {q : ℕ} → outcome f t₁ ≡ did q (fill_nodes 0 3 (schema_of s) t) → t₁ ≡ fill_nodes 0 3 (schema_of s) t
          go (Ok p) e = cc
          go (Err b) e = absurd (let z : ◌≡◌ {A = ℕ} 0 1 = cc in omega arith)

      tabled : outcome f t₁ ≡ run_of (fill_nodes 0 3) (schema s) t → Accepted s → Tabled s t₁
      tabled e a =
          let et = filled e a in
          let k = file-of s a.some in
          let l : length t₁ ≡ length t = ap length et ∙ nodes-long 0 3 (schema_of s) t in
          let b : get_or s 2 0 ≤ 64 = omega (arith, k.count, k.few) in
          record {
            filled = et ∙ ap (fill_nodes 0 3 (schema_of s)) r.empty ∙ ap (λ (i : ℕ). fill_nodes 0 3 (schema_of s) (replicate i blank)) (sym l);
            long = omega (arith, r.long b, k.count);
          }

-- ---- room for so many nodes

pub room_few : (s : List ℕ) (m : ℕ) {count : ℕ} → count ≡ get_or s 2 0 → count ≤ m → m ≤ 64 → RoomIn s m
room_few s m e h l = record { most = l; enough = λ b. omega arith }

pub room_most : (s : List ℕ) → RoomIn s 64
room_most s = record { most = omega arith; enough = λ b. b }

-- a table of blank layouts
pub room_in : (s : List ℕ) (m : ℕ) → RoomIn s m → Room s (replicate m blank)
room_in s m h =
    let l = length-replicate {A = Layout} m blank in
    record { empty = ap (λ (i : ℕ). replicate i blank) (sym l); long = λ b. let z = h.enough b in omega (arith, l) }

-- as many nodes as an accepted file has
pub nodes_in : (s : List ℕ) (m : ℕ) → Accepted s → RoomIn s m → length (schema_of s) ≤ m
nodes_in s m a h =
    let k = file-of s a.some in
    let z = h.enough (omega (arith, k.count, k.few)) in
    omega (arith, k.count)
