-- What the reader's returns ask, one law for each way that a function can end; a loop's law says that the rest from here equals the whole.
-- Rests on the laws of reading of the crate fields, and on what the schema's accessors answer.
use mathlib.Core.Path.{◌≡◌, refl, ap, ap₂, sym, ◌∙◌, subst}
use mathlib.Core.Bool.{Bool, true, false, ◌||◌}
use mathlib.Core.List.{List, [], ◌∷◌}
use Prim.Native.Nat.{ℕ, zero, suc, ◌+◌, ◌-◌, ◌^◌, ◌≤◌, ◌<◌}
use native.Mathlib.Omega.{arith}
use borrow.Author.Tests.{eq-eqb, eqb-true}
use lib.Dec.{eqb}
use lib.IntN.{ℤ}
use lib.ListN.{length, get_or, set, replicate, drop, drop_of_length-le, length-set}
use Rattle.std.specs.List.{list_any}
use Rattle.fields.specs.Reading.{Got, got, bad, part, whole, field, mark}
use Rattle.fields.specs.Answers.{end_of}
use Rattle.fields.specs.Runs.{Run, did, refused, run_of}
use Rattle.fields.proofs.Reading.{stepped, stopped}
use Rattle.fields.proofs.Runs.{ran, failed}
use Rattle.fields.proofs.Bytes.{Bytes}
use Rattle.fields.proofs.Tests.{alike}
use Rattle.numbers.specs.Bits.{bit, with, turned, with_all}
use Rattle.numbers.specs.Lowest.{Lowest}
use Rattle.schema.specs.Schema.{Node, schema_of, node_at, no_variable}
use Rattle.schema.specs.Table.{Accepted, AtMost}
use Rattle.schema.specs.declared.Variable.{Variable}
use Rattle.schema.proofs.Accepted.{sound}
use Rattle.instances.specs.Instance.{Entry, elem, chooses, reaches, right_choice}
use Rattle.instances.specs.File.{IN, due, none_below, value, values, entry_of, entry, entries}
use Rattle.instances.specs.Plan.{SlotsRoom}
use Rattle.instances.specs.declared.Slot.{Slot}
use Rattle.instances.proofs.Node.{vars_more}
use Rattle.instances.proofs.Trip.{entry-took}
use Rattle.instance_reader.specs.Decoded.{bits_of, fill_values, filled, fill_slot}
use Rattle.instance_reader.specs.Reader.{in_bits, entry_where, due_after, Within, AfterEntry, entry_run, Taken, fill_entry, fill_entries}
use Rattle.instance_reader.proofs.Due.{none-lowest, lowest_set, is-lowest, not-lowest, Held, held_none, held_more, held-within, held-entry, held-end, held-left}

-- ---- a choice

-- whether c is among them, asked as the library asks it
among : (c : ℕ) (xs : List ℕ) → list_any (λ y. eqb y c) xs ≡ elem c xs
among c [] = refl
among c (x ∷ xs) =
    ap (λ (b : Bool). b || list_any (λ y. eqb y c) xs) (alike (eqb x c) (eqb c x) (λ t. eq-eqb c x (sym (eqb-true x c t))) (λ t. eq-eqb x c (sym (eqb-true c x t))))
    ∙ ap (λ (b : Bool). eqb c x || b) (among c xs)

module _ (x : Node) {b : Bool} (c : ℕ) where
  pub right_one : {xs : List ℕ} {r : Bool} → b ≡ chooses x → b ≡ true → xs ≡ x.successors → r ≡ list_any (λ y. eqb y c) xs → r ≡ right_choice x c
  unfolding right_choice
  right_one {xs} e t q h = rw (sym e ∙ t) (h ∙ among c xs ∙ ap (elem c) q)

  pub right_none : b ≡ chooses x → b ≡ false → eqb c 255 ≡ right_choice x c
  unfolding right_choice
  right_none e t = rw (sym e ∙ t)

-- ---- a value

-- what was read, back from its bits
no_value : (v : Variable) (g : Got ℤ) {n o : ℕ} → bad n o ≡ in_bits v g → g ≡ bad n o
no_value v (got x q) a = cc
no_value v (bad n o) a = cc

a-value : (v : Variable) (g : Got ℤ) {u q : ℕ} → got u q ≡ in_bits v g → (x : ℤ) × (g ≡ got x q) × (u ≡ bits_of v x)
a-value v (got x q) a = (x, (cc), (cc))
a-value v (bad n o) a = absurd (let z : ◌≡◌ {A = ℕ} 0 1 = cc in omega arith)

-- ---- a node's values, from variable k on

-- a value that is put in front fills its slot first
value-first : (v : Variable) (vs : List Variable) (k : ℕ) (x : ℤ) (r : Got (List ℤ)) (t : List ℕ)
    → run_of (fill_values (v ∷ vs) k) (part r (λ xs q. got (x ∷ xs) q)) t ≡ run_of (fill_values vs (k + 1)) r (set t k (bits_of v x))
unfolding fill_values part
value-first v vs k x (got xs q) t = refl
value-first v vs k x (bad n o) t = refl

-- those from variable k on, whose bits go to the places from k on
abbrev values_left : Node → List ℕ → ℕ → ℕ → List ℕ → Run (List ℕ)
values_left x s k p bits = run_of (fill_values (drop k x.variables) k) (values s (drop k x.variables) p) bits

-- what is left to read and to fill equals the whole
pub record ReadingValues (x : Node) (s : List ℕ) (X : Run (List ℕ)) (k p : ℕ) (bits : List ℕ) : Type 0 where
  pub left : values_left x s k p bits ≡ X

pub values_init : (x : Node) (s : List ℕ) (p : ℕ) (bits : List ℕ) → ReadingValues x s (run_of (fill_values x.variables 0) (values s x.variables p) bits) 0 p bits
values_init x s p bits = record { left = refl }

module _ (x : Node) (s : List ℕ) {X : Run (List ℕ)} (k p : ℕ) (bits : List ℕ) {c : ℕ} (w : ReadingValues x s X k p bits) (l : AtMost 4 (length x.variables) c) where
  module _ (h : k < c) {v : Variable} (e : v ≡ get_or x.variables k no_variable) where
    abbrev opened : Run (List ℕ)
    opened = run_of (fill_values (v ∷ drop (k + 1) x.variables) k) (values s (v ∷ drop (k + 1) x.variables) p) bits

    is-left : opened ≡ X
    is-left = sym (ap (λ (vs : List Variable). run_of (fill_values vs k) (values s vs p) bits) (vars_more x k l h e)) ∙ w.left

    pub values_bad : {m o : ℕ} → bad m o ≡ in_bits v (value s v p) → refused m o ≡ X
    unfolding values part
    values_bad b = rw (no_value v (value s v p) b) at is-left

    pub values_step : {u q : ℕ} → got u q ≡ in_bits v (value s v p) → ReadingValues x s X (k + 1) q (set bits k u)
    unfolding values part
    values_step {u} {q} b =
        let y = a-value v (value s v p) b in
        let vs = drop (k + 1) x.variables in
        let z : run_of (fill_values vs (k + 1)) (values s vs q) (set bits k (bits_of v y.0)) ≡ X =
        sym (value-first v vs k y.0 (values s vs q) bits) ∙ (rw y.1 at is-left) in
        record { left = rw y.2 z }

  pub values_exit : c ≤ k → did p bits ≡ X
  unfolding values fill_values
  values_exit h = sym (ap (λ (vs : List Variable). run_of (fill_values vs k) (values s vs p) bits) (drop_of_length-le x.variables {i = k} (omega (arith, l.is)))) ∙ w.left

-- ---- an entry

module _ (g : List Node) (n m : ℕ) (s : List ℕ) (p : ℕ) (slots : List Slot) where
  pub rest_cut : {a o : ℕ} → bad a o ≡ whole 1 s p → refused a o ≡ entry_run g m (entry_of s g n p) slots
  unfolding entry_of field part
  rest_cut e = rw (← e)

  module _ {v q : ℕ} {b : Bool} (e : got v q ≡ whole 1 s p) (c : b ≡ right_choice (node_at g n) v) where
    pub rest_choice : b ≡ false → refused 16 p ≡ entry_run g m (entry_of s g n p) slots
    unfolding entry_of field part
    rest_choice t = rw (← e, sym c ∙ t)

    -- its values, whose bits fill a slot of four
    module _ (t : b ≡ true) where
      pub rest_value : {a o : ℕ} → refused a o ≡ run_of (fill_values (node_at g n).variables 0) (values s (node_at g n).variables q) (replicate 4 0)
          → refused a o ≡ entry_run g m (entry_of s g n p) slots
      unfolding entry_of field part
      rest_value y = rw (← e, sym c ∙ t, failed (fill_values (node_at g n).variables 0) (values s (node_at g n).variables q) (replicate 4 0) y)

      pub rest_ok : {r d i u : ℕ} {bits : List ℕ} {slots₁ : List Slot} → did r bits ≡ run_of (fill_values (node_at g n).variables 0) (values s (node_at g n).variables q) (replicate 4 0)
          → i ≡ turned m n → u ≡ v → d ≡ with_all i (reaches (node_at g n) u) → slots₁ ≡ set slots n (record { choice = v; bits = bits })
          → did r (record { node = n; due = d; slots = slots₁ }) ≡ entry_run g m (entry_of s g n p) slots
      unfolding entry_of field part due_after filled
      rest_ok {r} {d} {i} {u} {bits} {slots₁} y x w l f =
          let a = ran (fill_values (node_at g n).variables 0) (values s (node_at g n).variables q) (replicate 4 0) bits y in
          rw (← e, sym c ∙ t, a.read)
          (λ j.
          did r
          (record {
            node = n;
            due = (l ∙ ap₂ (λ (k c : ℕ). with_all k (reaches (node_at g n) c)) x w) j;
            slots = (f ∙ ap (λ (h : List ℕ). set slots n (record { choice = v; bits = h })) a.is) j;
          }))

module _ (g : List Node) (m : ℕ) (s : List ℕ) (p : ℕ) (slots : List Slot) where
  pub entry_mark : {n o : ℕ} → bad n o ≡ end_of (mark IN s p) → refused n o ≡ entry_run g m (entry_where s g (bit m) p) slots
  unfolding entry_where part
  entry_mark e = rw (stopped (mark IN s p) e)

  module _ {q : ℕ} (h : got tt q ≡ end_of (mark IN s p)) where
    pub entry_cut : {n o : ℕ} → bad n o ≡ whole 1 s q → refused n o ≡ entry_run g m (entry_where s g (bit m) p) slots
    unfolding entry_where part field
    entry_cut e = rw ((stepped (mark IN s p) h).1, ← e)

    module _ {v r : ℕ} (e : got v r ≡ whole 1 s q) where
      pub entry_none : m ≡ 0 → refused 15 q ≡ entry_run g m (entry_where s g (bit m) p) slots
      unfolding entry_where part field
      entry_none z = rw ((stepped (mark IN s p) h).1, ← e, none-lowest m v z)

      module _ {l : ℕ} (z : m ≡ 0 → ⊥) (w : m < 2 ^ 64) (k : Lowest 64 m l) where
        pub entry_other : (v ≡ l → ⊥) → refused 15 q ≡ entry_run g m (entry_where s g (bit m) p) slots
        unfolding entry_where part field
        entry_other n = rw ((stepped (mark IN s p) h).1, ← e, not-lowest m v z w k n)

        pub entry_this : {x : Run AfterEntry} → v ≡ l → x ≡ entry_run g m (entry_of s g v r) slots → x ≡ entry_run g m (entry_where s g (bit m) p) slots
        unfolding entry_where part field
        entry_this n y = rw ((stepped (mark IN s p) h).1, ← e, is-lowest m v z w k n) y

-- the lowest node that is due is one of the schema's
pub lowest_node : (s : List ℕ) (m v : ℕ) {l : ℕ} → Within m (length (schema_of s)) → (m ≡ 0 → ⊥) → m < 2 ^ 64 → Lowest 64 m l → v ≡ l → v < length (schema_of s)
lowest_node s m v {l} w z h e i = let y = w.within l (lowest_set m l z h e) in omega arith

-- ---- the entries

-- an entry that was read, and what it left
record AnEntry (g : List Node) (m : ℕ) (slots slots₁ : List Slot) (r : Got Entry) (n d q : ℕ) : Type 0 where
  this : Entry
  read : r ≡ got this q
  left : ◌≡◌ {A = AfterEntry} (record { node = n; due = d; slots = slots₁ }) (record { node = this.node; due = due_after g m this; slots = fill_slot g this slots })

module _ (g : List Node) (m : ℕ) (slots : List Slot) where
  no-entry : (r : Got Entry) {n o : ℕ} → refused n o ≡ entry_run g m r slots → r ≡ bad n o
  no-entry (got e q) a = cc
  no-entry (bad k i) a = cc

  an-entry : (r : Got Entry) {n d q : ℕ} {slots₁ : List Slot} → did q (record { node = n; due = d; slots = slots₁ }) ≡ entry_run g m r slots
      → AnEntry g m slots slots₁ r n d q
  an-entry (got e p) a = record { this = e; read = cc; left = cc }
  an-entry (bad k i) a = absurd (let z : ◌≡◌ {A = ℕ} 0 1 = cc in omega arith)

-- an entry that is put in front is filled in first
entry_first : (g : List Node) (e : Entry) (r : Got (List Entry)) (t : Taken)
    → run_of (fill_entries g) (part r (λ xs q. got (e ∷ xs) q)) t ≡ run_of (fill_entries g) r (fill_entry g e t)
unfolding fill_entries part
entry_first g e (got xs q) t = refl
entry_first g e (bad n o) t = refl

-- the first j of k entries leave the bits of m due, and what is left to read and to fill equals the whole
pub record Going (f s : List ℕ) (slots₀ : List Slot) (X : Run Taken) (k j m nodes p : ℕ) (slots : List Slot) : Type 0 where
  pub es : List Entry
  pub held : Held (schema_of f) es m
  pub rest : run_of (fill_entries (schema_of f)) (entries s (schema_of f) (k - j) es p) (record { nodes = nodes; slots = slots }) ≡ X
  pub word : m < 2 ^ 64
  pub same : length slots ≡ length slots₀

pub going_init : (f s : List ℕ) (k p : ℕ) (slots : List Slot) → Accepted f
    → Going f s slots (run_of (fill_entries (schema_of f)) (entries s (schema_of f) k [] p) (record { nodes = 0; slots = slots })) k 0 1 0 p slots
going_init f s k p slots a =
    let z : k - 0 ≡ k = omega arith in
    record { es = []; held = held_none (schema_of f) a.some; rest = rw z; word = omega arith; same = refl }

module _ (s : List ℕ) (g : List Node) (es : List Entry) (p : ℕ) (t : Taken) {X : Run Taken} where
  entries-stop : (k : ℕ) {n o : ℕ} → 0 < k → run_of (fill_entries g) (entries s g k es p) t ≡ X → entry s g es p ≡ bad n o → refused n o ≡ X
  unfolding entries part
  entries-stop zero h r e = absurd (omega arith)
  entries-stop (suc k) h r e = rw e at r

  entries-on : (k : ℕ) {e : Entry} {q : ℕ} → 0 < k → run_of (fill_entries g) (entries s g k es p) t ≡ X → entry s g es p ≡ got e q
      → run_of (fill_entries g) (entries s g (k - 1) (e ∷ es) q) (fill_entry g e t) ≡ X
  unfolding entries part
  entries-on zero h r e = absurd (omega arith)
  entries-on (suc k) {e} {q} h r y =
      let w : suc k - 1 ≡ k = omega arith in
      rw w (sym (entry_first g e (entries s g k (e ∷ es) q) t) ∙ (rw y at r))

  entries-done : (k : ℕ) → k ≤ 0 → run_of (fill_entries g) (entries s g k es p) t ≡ X → none_below (due g es) (length g) ≡ true → did p t ≡ X
  unfolding entries fill_entries
  entries-done zero h r e = rw e at r
  entries-done (suc k) h r e = absurd (omega arith)

  entries-lack : (k : ℕ) → k ≤ 0 → run_of (fill_entries g) (entries s g k es p) t ≡ X → none_below (due g es) (length g) ≡ false → refused 15 2 ≡ X
  unfolding entries
  entries-lack zero h r e = rw e at r
  entries-lack (suc k) h r e = absurd (omega arith)

module _ (f s : List ℕ) (slots₀ : List Slot) {X : Run Taken} (k j m nodes p : ℕ) (slots : List Slot) (w : Going f s slots₀ X k j m nodes p slots) where
  abbrev g : List Node
  g = schema_of f

  abbrev now : Taken
  now = record { nodes = nodes; slots = slots }

  pub going_within : Within m (length g)
  going_within = held-within g w.es m w.held

  pub going_room : SlotsRoom f slots₀ → SlotsRoom f slots
  going_room r = record { long = omega (arith, r.long, w.same) }

  pub going_same : length slots ≡ length slots₀
  going_same = w.same

  pub going_after : (after : List Slot) → length after ≡ length slots → length after ≡ length slots₀
  going_after after e = e ∙ w.same

  pub going_exit : k ≤ j → m ≡ 0 → did p (record { nodes = nodes; slots = slots }) ≡ X
  going_exit h z = entries-done s g w.es p now (k - j) (omega arith) w.rest (held-end g w.es m w.held z)

  pub going_due : k ≤ j → (m ≡ 0 → ⊥) → refused 15 2 ≡ X
  going_due h z = entries-lack s g w.es p now (k - j) (omega arith) w.rest (held-left g w.es m w.held z w.word)

  module _ (h : j < k) where
    -- the entry by the bits is the entry by those that are due
    read_as : {x : Run AfterEntry} → x ≡ entry_run g m (entry_where s g (bit m) p) slots → x ≡ entry_run g m (entry s g w.es p) slots
    read_as e = e ∙ ap (λ (r : Got Entry). entry_run g m r slots) (held-entry g w.es m w.held s p)

    pub going_bad : {n o : ℕ} → refused n o ≡ entry_run g m (entry_where s g (bit m) p) slots → refused n o ≡ X
    going_bad e = entries-stop s g w.es p now (k - j) (omega arith) w.rest (no-entry g m slots (entry s g w.es p) (read_as e))

    pub going_step : {n d q u : ℕ} {slots₁ : List Slot} → Accepted f → Bytes f
        → did q (record { node = n; due = d; slots = slots₁ }) ≡ entry_run g m (entry_where s g (bit m) p) slots
        → u ≡ with nodes n → d < 2 ^ 64 → Going f s slots₀ X k (j + 1) d u q slots₁
    going_step {n} {d} {q} {u} {slots₁} a b y c l =
        let r = an-entry g m slots (entry s g w.es p) (read_as y) in
        let i = r.this in
        let v = entry-took s g w.es p r.read in
        let x = held_more g (sound f b a.some) w.es i m w.held v.lowest v.right in
        let z : k - j - 1 ≡ k - (j + 1) = omega arith in
        record {
          es = i ∷ w.es;
          held = subst (Held g (i ∷ w.es)) (sym (ap (λ (t : AfterEntry). t.due) r.left)) x;
          rest =
              ap (λ (o : ℕ). run_of (fill_entries g) (entries s g o (i ∷ w.es) q) (record { nodes = u; slots = slots₁ })) (sym z)
              ∙ ap (λ (t : AfterEntry). run_of (fill_entries g) (entries s g (k - j - 1) (i ∷ w.es) q) (record { nodes = u; slots = t.slots })) r.left
              ∙ ap (λ (t : ℕ). run_of (fill_entries g) (entries s g (k - j - 1) (i ∷ w.es) q) (record { nodes = t; slots = fill_slot g i slots })) (c ∙ ap (λ (t : AfterEntry). with nodes t.node) r.left)
              ∙ entries-on s g w.es p now (k - j) (omega arith) w.rest r.read;
          word = l;
          same = ap (λ (t : AfterEntry). length t.slots) r.left ∙ length-set slots i.node (filled g i) ∙ w.same;
        }
