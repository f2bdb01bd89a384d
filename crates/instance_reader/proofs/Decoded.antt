-- What the slots hold after an accepted file: each entry's choice and the bits of its values, so that they make its instance.
-- Rests on that its entries follow one another, in ascending order, of instances, and on the laws of bits of the crate numbers.
use mathlib.Core.Path.{◌≡◌, refl, ap, ap₂, sym, subst, ◌∙◌}
use mathlib.Core.Logic.{◌⊎◌, inl, inr}
use mathlib.Core.Bool.{Bool, true, false, cond, ◌||◌}
use mathlib.Core.List.{List, [], ◌∷◌, Memᴰ}
use Prim.Native.Nat.{ℕ, zero, suc, ◌+◌, ◌≤◌, ◌<◌}
use native.Mathlib.Omega.{arith}
use native.Mathlib.Nat.{zero-add}
use borrow.Author.Tests.{eq-eqb, eqb-true}
use lib.Dec.{eqb}
use lib.IntN.{ℤ, pos, negsuc}
use lib.ListN.{length, get_or, set, replicate, length-set}
use lib.Seq.{get_or-set_same, get_or-set_other}
use Rattle.std.specs.Prelude.{Result, Ok, Err}
use Rattle.std.specs.Result.{MatchResult, is_ok}
use Rattle.fields.specs.Reading.{Got, got, bad, part, whole, mark}
use Rattle.fields.specs.Answers.{Answer, number, end_of, refusal, judged}
use Rattle.fields.specs.Outcomes.{Outcome, Did, leaving}
use Rattle.fields.specs.Runs.{did, refused, run_of}
use Rattle.fields.specs.declared.Breach.{Breach}
use Rattle.fields.proofs.Reading.{stepped, stopped, ended-bad, ended-ok}
use Rattle.fields.proofs.Runs.{Filled, ran, failed}
use Rattle.fields.proofs.Judged.{judged_bad, refused_did}
use Rattle.fields.proofs.Signed.{signed-unsigned}
use Rattle.fields.proofs.Tests.{and-true, or-true, or_left, or_right, never}
use Rattle.fields.proofs.Bytes.{Bytes}
use Rattle.numbers.specs.Bits.{bit}
use Rattle.numbers.proofs.Bits.{no-bit, with-bit, bits-same}
use Rattle.schema.specs.Schema.{Node, schema_of, node_at}
use Rattle.schema.specs.Table.{Accepted}
use Rattle.schema.specs.declared.Variable.{Variable}
use Rattle.schema.specs.declared.Variable.TheVariants.{Number, Listed}
use Rattle.schema.proofs.Sound.{SoundVariable, SoundVariables, Sound}
use Rattle.schema.proofs.Accepted.{sound}
use Rattle.instances.specs.Instance.{Entry, right_choice, in_domain, has}
use Rattle.instances.specs.File.{IH, reached, due, value_of, entries, instance, ReadsBack}
use Rattle.instances.specs.Plan.{planned_from, planned, nodes_of, values_from, no_slot, slot_at, plan_of, SlotsRoom}
use Rattle.instances.specs.declared.Slot.{Slot}
use Rattle.instances.proofs.IsInstance.{in_domains, RightEntry, Ascending, IsInstance}
use Rattle.instances.proofs.Valid.{Follows, none_left, and_then, none-at, has-mem, Reaches, due-reached, reached-due, lowest-due, lowest-least, due-cases, reaches-in, few-variables, sound-variables, is-follows}
use Rattle.instances.proofs.Trip.{between}
use Rattle.instances.proofs.RoundTrip.{read-encode, read-end, read_is, node-below}
use Rattle.instance_reader.specs.Decoded.{bits_of, fill_values, filled, fill_slot, fill_slots, as_nodes, nodes_in, YieldsInstance}
use Rattle.instance_reader.specs.Reader.{Taken, fill_entry, fill_entries, emptied}

-- ---- the bits of values

-- a value is read back from its bits
value-bits : (v : Variable) (x : ℤ) → SoundVariable v → in_domain v x ≡ true → value_of v (bits_of v x) ≡ x
unfolding value_of bits_of in_domain
value-bits (Number lo hi) x f d = signed-unsigned x (between lo hi x f.0 f.1 d)
value-bits (Listed size) (pos x) f d = refl
value-bits (Listed size) (negsuc x) f d = never d

-- what stands before place k stays
before-stays : (vs : List Variable) (k : ℕ) (xs : List ℤ) (t : List ℕ) (j : ℕ) → j < k → get_or (fill_values vs k xs t) j 0 ≡ get_or t j 0
unfolding fill_values
before-stays [] k xs t j h = refl
before-stays (v ∷ vs) k [] t j h = refl
before-stays (v ∷ vs) k (x ∷ xs) t j h = before-stays vs (k + 1) xs (set t k (bits_of v x)) j (omega arith) ∙ get_or-set_other t k j (bits_of v x) 0 (λ e. omega arith)

-- the values from place k on are those that were filled in
values-at : (vs : List Variable) (k : ℕ) (xs : List ℤ) (t : List ℕ) → SoundVariables vs → in_domains vs xs ≡ true → k + length vs ≤ length t → values_from vs (fill_values vs k xs t) k ≡ xs
unfolding fill_values values_from in_domains
values-at [] k [] t f d h = refl
values-at [] k (x ∷ xs) t f d h = never d
values-at (v ∷ vs) k [] t f d h = never d
values-at (v ∷ vs) k (x ∷ xs) t f d h =
    let e = and-true (in_domain v x) (in_domains vs xs) d in
    let u = set t k (bits_of v x) in
    let first : value_of v (get_or (fill_values vs (k + 1) xs u) k 0) ≡ x =
    ap (value_of v) (before-stays vs (k + 1) xs u k (omega arith) ∙ get_or-set_same t k (bits_of v x) 0 (omega arith)) ∙ value-bits v x f.0 e.0 in
    ap₂ (λ (y : ℤ) (ys : List ℤ). y ∷ ys) first (values-at vs (k + 1) xs u f.1 e.1 (let z = length-set t k (bits_of v x) in omega arith))

-- ---- slots

fill-other : (g : List Node) (es : List Entry) (t : List Slot) (n : ℕ) → (has es n ≡ true → ⊥) → slot_at (fill_slots g es t) n ≡ slot_at t n
unfolding fill_slots has
fill-other g [] t n h = refl
fill-other g (e ∷ es) t n h =
    fill-other g es (fill_slot g e t) n (λ q. h (or_right (eqb e.node n) (has es n) q))
    ∙ get_or-set_other t e.node n (filled g e) no_slot (λ q. h (or_left (eqb e.node n) (has es n) (eq-eqb e.node n (sym q))))

-- an entry's
fill-at : (g : List Node) (es : List Entry) (t : List Slot) → Ascending es → (e : Entry) → Memᴰ e es → e.node < length t → slot_at (fill_slots g es t) e.node ≡ filled g e
unfolding fill_slots
fill-at g [] t a e m h = elim m [ ]
fill-at g (d ∷ es) t a e (Memᴰ.head q) h =
    ap (λ (x : Entry). slot_at (fill_slots g es (fill_slot g d t)) x.node) q
    ∙ fill-other g es (fill_slot g d t) d.node (λ y. let w = has-mem es d.node y in let z = a.0 w.0 w.1 in let v = w.2 in omega arith)
    ∙ get_or-set_same t d.node (filled g d) no_slot (let z = ap (λ (x : Entry). x.node) q in omega arith)
    ∙ ap (filled g) (sym q)
fill-at g (d ∷ es) t a e (Memᴰ.tail m) h = fill-at g es (fill_slot g d t) a.1 e m (let z = length-set t d.node (filled g d) in omega arith)

module _ (g : List Node) (i : List Entry) (t : List Slot) where
  -- a node without an entry keeps its choice
  pub choice-kept : (n : ℕ) → has i n ≡ false → (slot_at (fill_slots g i t) n).choice ≡ (slot_at t n).choice
  choice-kept n e = ap (λ (x : Slot). x.choice) (fill-other g i t n (λ q. never (sym e ∙ q)))

  module _ (a : Ascending i) (e : Entry) (m : Memᴰ e i) (h : e.node < length t) where
    -- else it has its entry's
    pub choice-at : (slot_at (fill_slots g i t) e.node).choice ≡ e.choice
    unfolding filled
    choice-at = ap (λ (x : Slot). x.choice) (fill-at g i t a e m h)

    -- and its values
    values-are : Sound g → RightEntry g e → values_from (node_at g e.node).variables (slot_at (fill_slots g i t) e.node).bits 0 ≡ e.values
    unfolding filled
    values-are sd r =
        ap (λ (x : Slot). values_from (node_at g e.node).variables x.bits 0) (fill-at g i t a e m h)
        ∙ values-at (node_at g e.node).variables 0 e.values (replicate 4 0) (sound-variables g sd e.node) r.in-domains (let z = few-variables g sd e.node in omega arith)

-- ---- the entries

entries-slots : (g : List Node) (es : List Entry) (t : Taken) → (fill_entries g es t).slots ≡ fill_slots g es t.slots
unfolding fill_entries fill_slots
entries-slots g [] t = refl
entries-slots g (e ∷ es) t = entries-slots g es (fill_entry g e t)

or-three : (a b c : Bool) → (a || b) || c ≡ a || (c || b)
or-three true b c = refl
or-three false true true = refl
or-three false true false = refl
or-three false false true = refl
or-three false false false = refl

fill-node : (g : List Node) (es : List Entry) (t : Taken) (k : ℕ) → ((e : Entry) → Memᴰ e es → e.node < 64) → bit (fill_entries g es t).nodes k ≡ bit t.nodes k || bit (nodes_of es) k
unfolding fill_entries nodes_of
fill-node g [] t k h = go (bit t.nodes k) ∙ ap (λ (b : Bool). bit t.nodes k || b) (sym (no-bit k))
  where
    go : (b : Bool) → b ≡ b || false
    go true = refl
    go false = refl
fill-node g (e ∷ es) t k h =
    let s = h e (Memᴰ.head refl) in
    fill-node g es (fill_entry g e t) k (λ d m. h d (Memᴰ.tail m))
    ∙ ap (λ (b : Bool). b || bit (nodes_of es) k) (with-bit t.nodes e.node k s)
    ∙ or-three (bit t.nodes k) (eqb k e.node) (bit (nodes_of es) k)
    ∙ ap (λ (b : Bool). bit t.nodes k || b) (sym (with-bit (nodes_of es) e.node k s))

fill-nodes : (g : List Node) (i : List Entry) (slots : List Slot) → ((e : Entry) → Memᴰ e i → e.node < 64) → (fill_entries g i (emptied slots)).nodes ≡ nodes_of i
fill-nodes g i slots h =
    bits-same (fill_entries g i (emptied slots)).nodes (nodes_of i) (λ k. fill-node g i (emptied slots) k h ∙ ap (λ (b : Bool). b || bit (nodes_of i) k) (no-bit k))

-- ---- entries that follow one another are those of a plan that has them

module _ (g : List Node) (sd : Sound g) (plan : ℕ → Entry) where
  -- the entries so far are of nodes below n, and no node below n is due
  record Made (n : ℕ) (es : List Entry) : Type 0 where
    low : (j : ℕ) → has es j ≡ true → j < n
    high : (j : ℕ) → due g es j ≡ true → n ≤ j
    inside : (j : ℕ) → due g es j ≡ true → j < length g

  made_none : Made 0 []
  unfolding has reached
  made_none =
      record {
        low = λ j t. never t;
        high = λ j t. omega arith;
        inside = λ j t. let z = eqb-true j 0 (due-reached g [] j t) in let k = sd.some in omega arith;
      }

  made-skip : (n : ℕ) (es : List Entry) → Made n es → reached g es n ≡ false → Made (n + 1) es
  made-skip n es m f =
      record {
        low = λ j t. let z = m.low j t in omega arith;
        high = λ j t. let z = m.high j t in let y = apart j t in omega arith;
        inside = m.inside;
      }
    where
      apart : (j : ℕ) → due g es j ≡ true → n ≡ j → ⊥
      apart j t e = never (sym f ∙ ap (reached g es) e ∙ due-reached g es j t)

  made-take : (n : ℕ) (es : List Entry) (e : Entry) → e.node ≡ n → right_choice (node_at g e.node) e.choice ≡ true → Made n es → Made (n + 1) (e ∷ es)
  unfolding has
  made-take n es e z r m =
      record {
        low = λ j t. low j (or-true (eqb e.node j) (has es j) t);
        high = λ j t. high j (due-cases g es e j t);
        inside = λ j t. inside j (due-cases g es e j t);
      }
    where
      low : (j : ℕ) → (eqb e.node j ≡ true) ⊎ (has es j ≡ true) → j < n + 1
      low j (inl t) = let y = eqb-true e.node j t in omega arith
      low j (inr t) = let y = m.low j t in omega arith

      high : (j : ℕ) → ((due g es j ≡ true) × (j ≡ e.node → ⊥)) ⊎ Reaches g e j → n + 1 ≤ j
      high j (inl w) = let y = m.high j w.0 in let x : j ≡ n → ⊥ = λ q. w.1 (q ∙ sym z) in omega arith
      high j (inr w) = let y = (reaches-in g sd e r j w).0 in omega arith

      inside : (j : ℕ) → ((due g es j ≡ true) × (j ≡ e.node → ⊥)) ⊎ Reaches g e j → j < length g
      inside j (inl w) = m.inside j w.0
      inside j (inr w) = (reaches-in g sd e r j w).1

  from-follows : (k n : ℕ) {es rest : List Entry} → n + k ≡ length g → Follows g es rest → ((e : Entry) → Memᴰ e rest → plan e.node ≡ e) → Made n es
      → planned_from g plan k n es ≡ rest
  unfolding planned_from
  from-follows zero n z (none_left t) h m = refl
  from-follows zero n {es} z (and_then e l r f) h m =
      absurd (let d = lowest-due g es e.node l in let x = m.high e.node d in let y = m.inside e.node d in omega arith)
  from-follows (suc k) n {es} {rest} z f h m =
      go (reached g es n) refl (λ e others x y w. from-follows k (n + 1) (omega arith) y w x) (λ t. from-follows k (n + 1) (omega arith) f h (made-skip n es m t))
    where
      take : {rest : List Entry} → Follows g es rest → ((e : Entry) → Memᴰ e rest → plan e.node ≡ e) → due g es n ≡ true
          → ((e : Entry) (others : List Entry) → Made (n + 1) (e ∷ es) → Follows g (e ∷ es) others → ((d : Entry) → Memᴰ d others → plan d.node ≡ d) → planned_from g plan k (n + 1) (e ∷ es) ≡ others)
          → plan n ∷ planned_from g plan k (n + 1) (plan n ∷ es) ≡ rest
      take (none_left t) h d ih = absurd (none-at (due g es) (length g) t n (omega arith) d)
      take (and_then e {rest} l r f) h d ih =
          let x = lowest-least g es e.node l n d in
          let y = m.high e.node (lowest-due g es e.node l) in
          let same : e.node ≡ n = omega arith in
          let is : plan n ≡ e = ap plan (sym same) ∙ h e (Memᴰ.head refl) in
          ap (λ (x : Entry). x ∷ planned_from g plan k (n + 1) (x ∷ es)) is
          ∙ ap (λ (l : List Entry). e ∷ l) (ih e rest (made-take n es e same r.right-choice m) f (λ d m. h d (Memᴰ.tail m)))

      go : (b : Bool) → reached g es n ≡ b
          → ((e : Entry) (others : List Entry) → Made (n + 1) (e ∷ es) → Follows g (e ∷ es) others → ((d : Entry) → Memᴰ d others → plan d.node ≡ d) → planned_from g plan k (n + 1) (e ∷ es) ≡ others)
          → (reached g es n ≡ false → planned_from g plan k (n + 1) es ≡ rest)
          → cond b (plan n ∷ planned_from g plan k (n + 1) (plan n ∷ es)) (planned_from g plan k (n + 1) es) ≡ rest
      go true t ih skip = take f h (reached-due g es n t (λ q. let w = m.low n q in omega arith)) ih
      go false t ih skip = skip t

  pub planned-follows : {i : List Entry} → Follows g [] i → ((e : Entry) → Memᴰ e i → plan e.node ≡ e) → planned g plan ≡ i
  unfolding planned
  planned-follows f h = from-follows (length g) 0 (zero-add (length g)) f h made_none

-- ---- an accepted file

module _ (f s : List ℕ) (t : List Slot) (room : SlotsRoom f t) (a : Accepted f) (fb : Bytes f) (sb : Bytes s) {i : List Entry} {q : ℕ} (e : instance (schema_of f) s ≡ got i q) where
  abbrev g : List Node
  g = schema_of f

  abbrev after : Taken
  after = fill_entries g i (emptied t)

  sd : Sound g
  sd = sound f fb a.some

  is : IsInstance g i
  is = read_is g sd s sb e

  below : (d : Entry) → Memᴰ d i → d.node < length g
  below d m = node-below g sd i is d m

  nodes-are : after.nodes ≡ nodes_of i
  nodes-are = fill-nodes g i t (λ d m. let z = below d m in let y = sd.few in omega arith)

  slots-are : after.slots ≡ fill_slots g i t
  slots-are = entries-slots g i (emptied t)

  entry-is : (d : Entry) → Memᴰ d i → plan_of g (fill_slots g i t) d.node ≡ d
  unfolding plan_of
  entry-is d m =
      let l : d.node < length t = omega (arith, below d m, room.long) in
      let c = choice-at g i t is.ascending d m l in
      let v = values-are g i t is.ascending d m l sd (is.right d m) in
      λ j. record { node = d.node; choice = c j; values = v j }

  plan-is : planned g (plan_of g after.slots) ≡ i
  plan-is = ap (λ (t : List Slot). planned g (plan_of g t)) slots-are ∙ planned-follows g sd (plan_of g (fill_slots g i t)) (is-follows g sd i is) entry-is

  pub yields : YieldsInstance g s t after.slots (Ok after.nodes)
  yields =
      record {
        answer = rw e (ap (λ (m : ℕ). got m 0) nodes-are);
        back = λ j p h. subst (ReadsBack g) (same j p h) written;
        holds = λ j p h. plan-is ∙ same j p h;
        chosen = λ j p h. slots-are ∙ ap (λ (i : List Entry). fill_slots g i t) (same j p h);
      }
    where
      same : (j : List Entry) (p : ℕ) → instance g s ≡ got j p → i ≡ j
      same j p h = cc

      written : ReadsBack g i
      written = let z = read-encode g s sb e in record { back = ap (instance g) z ∙ e ∙ ap (got i) (read-end g s sb e ∙ ap length (sym z)) }

-- ---- the reader's returns

pub yields_none : (g : List Node) (s : List ℕ) (before slots : List Slot) {r : Result ℕ Breach} {n o : ℕ} → as_nodes r ≡ bad n o → bad n o ≡ instance g s
    → YieldsInstance g s before slots r
yields_none g s before slots {n = n} {o} h e =
    record {
      answer = rw (← e) h;
      back = λ i q k. never-got e k;
      holds = λ i q k. never-got e k;
      chosen = λ i q k. never-got e k;
    }
  where
    never-got : {P : Type 0} {x : Got (List Entry)} {i : List Entry} {q : ℕ} → bad n o ≡ x → x ≡ got i q → P
    never-got e k = absurd (let z : ◌≡◌ {A = ℕ} 0 1 = cc in omega arith)

module _ (g : List Node) (s : List ℕ) where
  pub instance_mark : {n o : ℕ} → bad n o ≡ end_of (mark IH s 0) → bad n o ≡ instance g s
  unfolding instance part
  instance_mark e = rw (stopped (mark IH s 0) e)

  module _ {q : ℕ} (h : got tt q ≡ end_of (mark IH s 0)) where
    pub instance_cut : {n o : ℕ} → bad n o ≡ whole 1 s q → bad n o ≡ instance g s
    unfolding instance part
    instance_cut e = rw ((stepped (mark IH s 0) h).1, ← e)

    module _ {v r : ℕ} (e : got v r ≡ whole 1 s q) (slots₀ : List Slot) where
      pub instance_entries : {n o : ℕ} → refused n o ≡ run_of (fill_entries g) (entries s g v [] r) (emptied slots₀) → bad n o ≡ instance g s
      unfolding instance part
      instance_entries w = rw ((stepped (mark IH s 0) h).1, ← e, failed (fill_entries g) (entries s g v [] r) (emptied slots₀) w)

      module _ {p : ℕ} {t : Taken} (w : did p t ≡ run_of (fill_entries g) (entries s g v [] r) (emptied slots₀)) where
        done : Filled (fill_entries g) (entries s g v [] r) (emptied slots₀) t p
        done = ran (fill_entries g) (entries s g v [] r) (emptied slots₀) t w

        pub instance_spare : p < length s → bad 7 p ≡ instance g s
        unfolding instance part
        instance_spare l = rw ((stepped (mark IH s 0) h).1, ← e, done.read) (sym (ended-bad s done.value p l))

        read_whole : length s ≤ p → instance g s ≡ got done.value p
        unfolding instance part
        read_whole l = rw ((stepped (mark IH s 0) h).1, ← e, done.read) (ended-ok s done.value p l)

module _ (f s : List ℕ) (slots₀ slots : List Slot) {q v r p m : ℕ} (h : got tt q ≡ end_of (mark IH s 0)) (e : got v r ≡ whole 1 s q)
    (w : did p (record { nodes = m; slots = slots }) ≡ run_of (fill_entries (schema_of f)) (entries s (schema_of f) v [] r) (emptied slots₀)) where
  pub instance_read : SlotsRoom f slots₀ → Accepted f → Bytes f → Bytes s → length s ≤ p → YieldsInstance (schema_of f) s slots₀ slots (Ok m)
  instance_read h₀ a fb sb l =
      let d = done (schema_of f) s h e slots₀ w in
      subst (λ (j : Taken). YieldsInstance (schema_of f) s slots₀ j.slots (Ok j.nodes)) (sym d.is)
      (yields f s slots₀ h₀ a fb sb (read_whole (schema_of f) s h e slots₀ w l))

-- ---- for the calls: the reader's answer, back to what was read

-- an instance was read: its nodes, its choices, and that the slots hold it
pub record AnInstance (g : List Node) (s : List ℕ) (before slots : List Slot) (m : ℕ) : Type 0 where
  pub i : List Entry
  pub end : ℕ
  pub reads : instance g s ≡ got i end
  pub back : ReadsBack g i
  pub nodes : m ≡ nodes_of i
  pub holds : planned g (plan_of g slots) ≡ i
  pub chosen : slots ≡ fill_slots g i before

module _ (g : List Node) (s : List ℕ) where
  -- it was refused, and the call maps the breach to its own refusal
  pub record ARefusal (B : Breach → Type 0) : Type 0 where
    pub by : Breach
    pub mapped : B by
    pub reads : instance g s ≡ bad (number by.fault) by.offset

  pub a_refusal : {before slots : List Slot} {x : Result ℕ Breach} → YieldsInstance g s before slots x → (A : ℕ → Type 0) (B : Breach → Type 0) → MatchResult x A B → is_ok x ≡ false → ARefusal B
  a_refusal {x = Ok m} w A B h f = never (sym f)
  a_refusal {x = Err b} w A B h f = record { by = b; mapped = h; reads = go (instance g s) w.answer }
    where
      go : (r : Got (List Entry)) → bad (number b.fault) b.offset ≡ nodes_in r → r ≡ bad (number b.fault) b.offset
      go (got i q) e = cc
      go (bad n o) e = cc

  -- of a call that lends a buffer, and does k with an instance
  pub instance_bad_did : (b : Breach) → instance g s ≡ bad (number b.fault) b.offset → (out : List ℕ) (k : List Entry → Outcome) {r : Answer} → r ≡ refusal (number b.fault) 4 b.offset
      → Did (judged (leaving out) 4 (instance g s) k) r out
  instance_bad_did b e out k r = refused_did out (judged_bad (leaving out) 4 (instance g s) k e) r

  module _ {before slots : List Slot} {x : Result ℕ Breach} {m : ℕ} (w : YieldsInstance g s before slots x) (e : x ≡ Ok m) where
    pub an_instance : AnInstance g s before slots m
    an_instance = go (instance g s) refl (sym (ap as_nodes e) ∙ w.answer)
      where
        go : (r : Got (List Entry)) → instance g s ≡ r → got m 0 ≡ nodes_in r → AnInstance g s before slots m
        go (got i q) e h = record { i = i; end = q; reads = e; back = w.back i q e; nodes = cc; holds = w.holds i q e; chosen = w.chosen i q e }
        go (bad n o) e h = absurd (let z : ◌≡◌ {A = ℕ} 0 1 = cc in omega arith)

    -- the nodes that it tells are those of the instance that the slots hold
    pub instance_nodes : m ≡ nodes_of (planned g (plan_of g slots))
    instance_nodes = an_instance.nodes ∙ ap nodes_of (sym an_instance.holds)

    pub instance_back : ReadsBack g (planned g (plan_of g slots))
    instance_back = subst (ReadsBack g) (sym an_instance.holds) an_instance.back

    pub instance_ok_did : (out : List ℕ) (k : List Entry → Outcome) {r : Answer} {after : List ℕ} → Did (k (planned g (plan_of g slots))) r after
        → Did (judged (leaving out) 4 (instance g s) k) r after
    unfolding judged
    instance_ok_did out k {r} {after} d = rw an_instance.reads (subst (λ (j : List Entry). Did (k j) r after) an_instance.holds d)
