-- The instances, file by file: one law for each way that their reading can end, then the verdict.
-- Rests on what the reader's contract tells, and on the model's lookup of a node's entry.
use mathlib.Core.Path.{◌≡◌, ap, ap₂, sym, subst, ◌∙◌}
use mathlib.Core.Bool.{Bool}
use mathlib.Core.List.{List}
use Prim.Native.Nat.{ℕ, ◌≤◌, ◌<◌}
use native.Mathlib.Omega.{arith}
use lib.ListN.{length}
use Rattle.std.specs.Prelude.{Result, Ok}
use Rattle.fields.specs.declared.Breach.{Breach}
use Rattle.fields.specs.Reading.{bad}
use Rattle.fields.specs.Answers.{number, success, refusal, judged}
use Rattle.fields.proofs.Judged.{judged_bad}
use Rattle.fields.proofs.Bytes.{Bytes}
use Rattle.schema.specs.Schema.{Node, schema_of}
use Rattle.schema.specs.Table.{Accepted}
use Rattle.schema.proofs.Accepted.{sound}
use Rattle.policies.specs.Policies.{Policy}
use Rattle.instances.specs.Instance.{Entry}
use Rattle.instances.specs.File.{instance, encode}
use Rattle.instances.specs.Plan.{slot_at, Unchosen}
use Rattle.instances.specs.declared.Slot.{Slot}
use Rattle.instances.proofs.IsInstance.{Ascending}
use Rattle.instances.proofs.RoundTrip.{read_is, encode-bytes}
use Rattle.instance_reader.specs.Decoded.{fill_slots, YieldsInstance}
use Rattle.instance_reader.proofs.Decoded.{choice-kept, choice-at, AnInstance, an_instance}
use Rattle.model.specs.Order.{choice_of, choice_at}
use Rattle.model.specs.Comparing.{verdict, compared}
use Rattle.model.proofs.Entries.{Found, found, missing, lookup}
use Rattle.calls.specs.Calls.{comparing_in_force}
use Rattle.comparison.specs.Comparison.{Choices, YieldsAsGood, YieldsVerdict}

-- ---- an instance that was read into unchosen slots

module _ (g : List Node) (i : List Entry) (t : List Slot) where
  -- these then have its choice of each node
  choices-are : Ascending i → length g ≤ length t → ((n : ℕ) → n < length g → (slot_at t n).choice ≡ 255) → Choices g i (fill_slots g i t)
  choices-are a l u = record { is = λ n h. go n h (lookup i a n) }
    where
      go : (n : ℕ) → n < length g → Found i n → (slot_at (fill_slots g i t) n).choice ≡ choice_at i n
      go n h (found e m q d) = ap (λ (k : ℕ). (slot_at (fill_slots g i t) k).choice) (sym q) ∙ choice-at g i t a e m (omega arith) ∙ sym (ap choice_of d)
      go n h (missing q d) = choice-kept g i t n q ∙ u n h ∙ sym (ap choice_of d)

module _ (f s : List ℕ) (a : Accepted f) (fb : Bytes f) {before slots : List Slot} (u : Unchosen f before) {x : Result ℕ Breach} {m : ℕ}
    (w : YieldsInstance (schema_of f) s before slots x) (e : x ≡ Ok m) where
  abbrev this : AnInstance (schema_of f) s before slots m
  this = an_instance (schema_of f) s w e

  ascending : Ascending this.i
  ascending = (read_is (schema_of f) (sound f fb a.some) (encode (schema_of f) this.i) (encode-bytes (schema_of f) this.i) this.back.back).ascending

  read-choices : Choices (schema_of f) this.i slots
  read-choices = subst (Choices (schema_of f) this.i) (sym this.chosen) (choices-are (schema_of f) this.i before ascending u.room.long u.none)

-- ---- the files

module _ (g : List Node) (s : List ℕ) where
  pub first_bad : (b : Breach) → instance g s ≡ bad (number b.fault) b.offset → (ps : List Policy) (t : List ℕ) → refusal (number b.fault) 4 b.offset ≡ comparing_in_force g ps s t
  unfolding comparing_in_force
  first_bad b e ps t = sym (judged_bad refusal 4 (instance g s) _ e)

  pub second_bad : {before first : List Slot} {x : Result ℕ Breach} {m : ℕ} → YieldsInstance g s before first x → x ≡ Ok m → (ps : List Policy) (t : List ℕ) (b : Breach)
      → instance g t ≡ bad (number b.fault) b.offset → refusal (number b.fault) 5 b.offset ≡ comparing_in_force g ps s t
  unfolding comparing_in_force judged
  second_bad w e ps t b d = rw (an_instance g s w e).reads (sym (judged_bad refusal 5 (instance g t) _ d))

module _ (f s t : List ℕ) (a : Accepted f) (fb : Bytes f) where
  pub both_read : {before first : List Slot} {x : Result ℕ Breach} {m : ℕ} → Unchosen f before → YieldsInstance (schema_of f) s before first x → x ≡ Ok m
      → {before₂ second : List Slot} {y : Result ℕ Breach} {n : ℕ} → Unchosen f before₂ → YieldsInstance (schema_of f) t before₂ second y → y ≡ Ok n
      → (ps : List Policy) {v : ℕ} → YieldsVerdict (schema_of f) ps first second v → success v ≡ comparing_in_force (schema_of f) ps s t
  unfolding comparing_in_force judged
  both_read u w e u₂ d k ps v =
      let p = an_instance (schema_of f) s w e in
      let q = an_instance (schema_of f) t d k in
      rw (p.reads, q.reads) (ap success (v.is p.i q.i p.back q.back (read-choices f s a fb u w e) (read-choices f t a fb u₂ d k)))

-- the verdict, from the order each way
pub verdict_by : (g : List Node) (ps : List Policy) (first second : List Slot) {b c : Bool} {v : ℕ} → YieldsAsGood g ps first second b → YieldsAsGood g ps second first c → v ≡ verdict b c
    → YieldsVerdict g ps first second v
unfolding compared
verdict_by g ps first second l n w =
    record { is = λ i j a b x y. w ∙ ap₂ verdict (l.is i j a b x y) (n.is j i b a y x) }
