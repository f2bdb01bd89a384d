-- The instance that was read: its first forbidden field is the answer.
-- Rests on what the reader's contract tells.
use mathlib.Core.Path.{◌≡◌, refl, ap, sym, ◌∙◌}
use mathlib.Core.List.{List}
use mathlib.Core.Option.{Option, none, some}
use Prim.Native.Nat.{ℕ}
use native.Mathlib.Omega.{arith}
use Rattle.fields.specs.declared.Breach.{Breach}
use Rattle.fields.specs.declared.Refusal.{Refusal}
use Rattle.fields.specs.declared.Fault.TheVariants.{Forbidden as ForbiddenField}
use Rattle.fields.specs.declared.File.TheVariants.{Instance}
use Rattle.fields.specs.Reading.{bad}
use Rattle.fields.specs.Answers.{number, file_number, success, refusal, judged}
use Rattle.fields.proofs.Judged.{judged_bad}
use Rattle.schema.specs.Schema.{Node}
use Rattle.policies.specs.Policies.{Policy}
use Rattle.instances.specs.Instance.{Entry}
use Rattle.instances.specs.File.{instance}
use Rattle.instances.specs.Plan.{planned, plan_of}
use Rattle.instances.specs.declared.Slot.{Slot}
use Rattle.instance_reader.specs.Decoded.{YieldsInstance}
use Rattle.instance_reader.proofs.Decoded.{AnInstance, an_instance}
use Rattle.model.specs.Comparing.{forbidden}
use Rattle.calls.specs.Calls.{permitted, checking_in_force}
use Rattle.checker.specs.Checks.{Found, forbidden_in}
use Rattle.std.specs.Prelude.{Result, Ok, Some, None}

module _ (o : Option ℕ) {x : Found} (e : x ≡ forbidden_in o) where
  permitted-none : x ≡ None → success 0 ≡ permitted o
  unfolding permitted
  permitted-none h = go o (sym e ∙ h)
    where
      go : (o : Option ℕ) → forbidden_in o ≡ None → success 0 ≡ permitted o
      go none h = refl
      go (some r) h = absurd (let z : ◌≡◌ {A = ℕ} 0 1 = cc in omega arith)

  permitted-some : {q : ℕ} → x ≡ Some q → refusal 18 4 q ≡ permitted o
  unfolding permitted
  permitted-some {q} h = go o (sym e ∙ h)
    where
      go : (o : Option ℕ) → forbidden_in o ≡ Some q → refusal 18 4 q ≡ permitted o
      go none h = absurd (let z : ◌≡◌ {A = ℕ} 0 1 = cc in omega arith)
      go (some r) h = let z : q ≡ r = cc in ap (refusal 18 4) z

module _ (g : List Node) (ps : List Policy) (s : List ℕ) where
  pub instance_bad : (b : Breach) → instance g s ≡ bad (number b.fault) b.offset → refusal (number b.fault) 4 b.offset ≡ checking_in_force g ps s
  unfolding checking_in_force
  instance_bad b e = sym (judged_bad refusal 4 (instance g s) _ e)

  module _ {before slots : List Slot} {y : Result ℕ Breach} {m : ℕ} (w : YieldsInstance g s before slots y) (h : y ≡ Ok m) {x : Found} (e : x ≡ forbidden_in (forbidden g ps (planned g (plan_of g slots)))) where
    read : AnInstance g s before slots m
    read = an_instance g s w h

    found : x ≡ forbidden_in (forbidden g ps read.i)
    found = e ∙ ap (λ (i : List Entry). forbidden_in (forbidden g ps i)) read.holds

    pub instance_permitted : x ≡ None → success 0 ≡ checking_in_force g ps s
    unfolding checking_in_force judged
    instance_permitted k = rw read.reads (permitted-none (forbidden g ps read.i) found k)

    pub instance_forbidden : {o : ℕ} {z : Refusal} → x ≡ Some o → z ≡ record { fault = ForbiddenField; file = Instance; offset = o }
        → refusal (number z.fault) (file_number z.file) z.offset ≡ checking_in_force g ps s
    unfolding checking_in_force judged
    instance_forbidden k i = rw (read.reads, i) (permitted-some (forbidden g ps read.i) found k)
