-- What the calls have of policies and pass: for each way that the reading can end, what a call then comes to, whatever it does.
-- Rests on what rows note, and on lists of policies that say the same of every node.
use mathlib.Core.Path.{◌≡◌, refl, ap, ap₂, sym, ◌∙◌, fun_ext}
use mathlib.Core.List.{List}
use Prim.Native.Nat.{ℕ, ◌≤◌}
use native.Mathlib.Omega.{arith}
use lib.ListN.{length, replicate, length-replicate}
use Rattle.fields.specs.Reading.{Got, got, bad}
use Rattle.std.specs.Prelude.{Ok, Err}
use Rattle.fields.specs.Answers.{Answer, number, file_number, judged, success, refusal}
use Rattle.fields.specs.Outcomes.{Outcome, Did, leaving}
use Rattle.fields.specs.declared.Fault.{Fault}
use Rattle.fields.specs.declared.Fault.TheVariants.{Mark, Cut, NodeCount, Links, Successor, Variable, Remainder, PolicyCount, Days, Node, Mask, Pass, NoInstance, Buffer, Entry, Choice, Value, Forbidden}
use Rattle.fields.specs.declared.Refusal.{Refusal}
use Rattle.fields.proofs.Judged.{did-same, refused_did}
use Rattle.schema.specs.Schema.{schema_of}
use Rattle.schema.specs.Table.{Accepted, RoomIn}
use Rattle.schema.proofs.Fill.{nodes_in}
use Rattle.policies.specs.Policies.{Policy, policies, policies_of}
use Rattle.policies.specs.Pass.{pass, in_force, forced}
use Rattle.policies.specs.Rows.{no_policies, RowsRoom, noted, Noted, rules_for}
use Rattle.policies.specs.declared.Row.{Row}
use Rattle.policies.proofs.Noted.{rows-noted, rows-forced}
use Rattle.instances.specs.Instance.{Entry as InstanceEntry}
use Rattle.instances.specs.File.{instance}
use Rattle.model.specs.Reconciling.{reconciled}
use Rattle.model.specs.Comparing.{verdict, compared}
use Rattle.model.proofs.Same.{reconciled-same, forbidden-same, as-good-same}
use Rattle.calls.specs.Inputs.{with_policies, with_pass, with_in_force}
use Rattle.calls.specs.Calls.{given, permitted, checking_in_force, comparing_in_force}
use Rattle.inputs.specs.Inputs.{YieldsInForce}

-- ---- room for the rows

-- a row for each node
pub rows_in : (s : List ℕ) (m : ℕ) → Accepted s → RoomIn s m → RowsRoom s (replicate m no_policies)
rows_in s m a h =
    let l = length-replicate {A = Row} m no_policies in
    record { blank = ap (λ (i : ℕ). replicate i no_policies) (sym l); long = omega (arith, nodes_in s m a h, l) }

-- ---- policies and pass

-- no fault has 0 for its number
numbered : (f : Fault) → number f ≡ 0 → ⊥
numbered Mark e = omega (arith, e)
numbered Cut e = omega (arith, e)
numbered NodeCount e = omega (arith, e)
numbered Links e = omega (arith, e)
numbered Successor e = omega (arith, e)
numbered Variable e = omega (arith, e)
numbered Remainder e = omega (arith, e)
numbered PolicyCount e = omega (arith, e)
numbered Days e = omega (arith, e)
numbered Node e = omega (arith, e)
numbered Mask e = omega (arith, e)
numbered Pass e = omega (arith, e)
numbered NoInstance e = omega (arith, e)
numbered Buffer e = omega (arith, e)
numbered Entry e = omega (arith, e)
numbered Choice e = omega (arith, e)
numbered Value e = omega (arith, e)
numbered Forbidden e = omega (arith, e)

module _ (s p : List ℕ) (a b : ℕ) (t : List Row) where
  -- a call refuses as the reading does
  module _ {x : Refusal} (w : YieldsInForce s p a b t (Err x)) where
    refused : {B : Type 0} (refuse : ℕ → ℕ → ℕ → B) (k : List Policy → B)
        → with_in_force refuse (schema_of s) p a b k ≡ refuse (number x.fault) (file_number x.file) x.offset
    unfolding with_in_force with_policies with_pass judged
    refused {B} refuse k = go (policies (schema_of s) p) (pass a b) w.answer
      where
        go : (g : Got (List Policy)) (q : Got ℕ) → refusal (number x.fault) (file_number x.file) x.offset ≡ judged refusal 2 g (λ ps. judged refusal 3 q (λ _. success 0))
            → judged refuse 2 g (λ ps. judged refuse 3 q (λ _. k (forced a b ps))) ≡ refuse (number x.fault) (file_number x.file) x.offset
        go (got ps u) (got d v) e = absurd (numbered x.fault (ap (λ (r : Answer). r.number) e))
        go (got ps u) (bad m v) e = λ i. refuse ((sym e i).number) ((sym e i).file) ((sym e i).offset)
        go (bad m u) q e = λ i. refuse ((sym e i).number) ((sym e i).file) ((sym e i).offset)

    pub in_force_bad : (k : List Policy → Answer) → refusal (number x.fault) (file_number x.file) x.offset ≡ with_in_force refusal (schema_of s) p a b k
    in_force_bad k = sym (refused refusal k)

    pub in_force_bad_did : (out : List ℕ) (k : List Policy → Outcome)
        → Did (with_in_force (leaving out) (schema_of s) p a b k) (refusal (number x.fault) (file_number x.file) x.offset) out
    in_force_bad_did out k = refused_did out (refused (leaving out) k) refl

  module _ {v : Unit {0}} (w : YieldsInForce s p a b t (Ok v)) where
    -- both were accepted
    record Both : Type 0 where
      end : ℕ
      policies-got : policies (schema_of s) p ≡ got (policies_of (schema_of s) p) end
      day : ℕ
      pass-end : ℕ
      pass-got : pass a b ≡ got day pass-end

    both : Both
    unfolding with_in_force with_policies with_pass policies_of judged
    both = go (policies (schema_of s) p) (pass a b) refl refl w.answer
      where
        go : (r : Got (List Policy)) (q : Got ℕ) → policies (schema_of s) p ≡ r → pass a b ≡ q
            → success 0 ≡ judged refusal 2 r (λ ps. judged refusal 3 q (λ _. success 0)) → Both
        go (got ps u) (got d v) y z e = record { end = u; policies-got = rw y; day = d; pass-end = v; pass-got = z }
        go (got ps u) (bad m v) y z e = absurd (let w : ◌≡◌ {A = ℕ} 0 3 = ap (λ (r : Answer). r.file) e in omega arith)
        go (bad m u) q y z e = absurd (let w : ◌≡◌ {A = ℕ} 0 2 = ap (λ (r : Answer). r.file) e in omega arith)

    pub in_force_noted : Noted s p t
    in_force_noted = rows-noted s p t (in_force a b) (w.rows (policies_of (schema_of s) p) both.end both.policies-got) w.long

    same : (n : ℕ) → rules_for n (noted (schema_of s) p t) ≡ rules_for n (forced a b (policies_of (schema_of s) p))
    same = rows-forced s p t a b (w.rows (policies_of (schema_of s) p) both.end both.policies-got) w.long

    read : {B : Type 0} (refuse : ℕ → ℕ → ℕ → B) (k : List Policy → B) → k (noted (schema_of s) p t) ≡ k (forced a b (policies_of (schema_of s) p))
        → with_in_force refuse (schema_of s) p a b k ≡ k (noted (schema_of s) p t)
    unfolding with_in_force with_policies with_pass judged
    read refuse k e = rw (both.policies-got, both.pass-got) (sym e)

    -- the reconciler's last rows
    pub in_force_reconciled : (out : List ℕ) {r : Answer} {after : List ℕ} → Did (given (schema_of s) out (reconciled (schema_of s) (noted (schema_of s) p t))) r after
        → Did (with_in_force (leaving out) (schema_of s) p a b (λ ps. given (schema_of s) out (reconciled (schema_of s) ps))) r after
    in_force_reconciled out d =
        did-same (read (leaving out) (λ ps. given (schema_of s) out (reconciled (schema_of s) ps)) (ap (given (schema_of s) out) (reconciled-same (schema_of s) (noted (schema_of s) p t) (forced a b (policies_of (schema_of s) p)) same))) d

    -- an instance checked
    pub in_force_checked : (i : List ℕ) {r : Answer} → r ≡ checking_in_force (schema_of s) (noted (schema_of s) p t) i
        → r ≡ with_in_force refusal (schema_of s) p a b (λ ps. checking_in_force (schema_of s) ps i)
    unfolding checking_in_force
    in_force_checked i d =
        let g = schema_of s in
        d
        ∙ sym (read refusal (λ ps. checking_in_force g ps i)
        (ap (judged refusal 4 (instance g i)) (fun_ext λ (e : List InstanceEntry). ap permitted (forbidden-same g (noted g p t) (forced a b (policies_of g p)) same e))))

    -- two instances compared
    pub in_force_compared : (i j : List ℕ) {r : Answer} → r ≡ comparing_in_force (schema_of s) (noted (schema_of s) p t) i j
        → r ≡ with_in_force refusal (schema_of s) p a b (λ ps. comparing_in_force (schema_of s) ps i j)
    unfolding comparing_in_force compared
    in_force_compared i j d =
        let g = schema_of s in
        let ps = forced a b (policies_of g p) in
        d
        ∙ sym (read refusal (λ ps. comparing_in_force g ps i j)
        (ap (judged refusal 4 (instance g i)) (fun_ext λ (e : List InstanceEntry).
        ap (judged refusal 5 (instance g j)) (fun_ext λ (f : List InstanceEntry).
        ap success (ap₂ verdict (as-good-same g (noted g p t) ps same e f) (as-good-same g (noted g p t) ps same f e))))))
