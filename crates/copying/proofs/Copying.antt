-- A file in a buffer; an accepted instance file is the encoding of what was read, so its copy is a copy of the bytes.
-- Rests on what std's `copy_from_slice` ensures, and on `read-encode` of the instances' round trip.
use mathlib.Core.Path.{◌≡◌, refl, ap, sym, subst, ◌∙◌}
use mathlib.Core.List.{List, ◌++◌}
use Prim.Native.Nat.{ℕ, ◌≤◌}
use borrow.Author.Tests.{le-leb}
use lib.ListN.{length, drop}
use Rattle.std.specs.Prelude.{Result, Ok}
use Rattle.fields.specs.declared.Breach.{Breach}
use Rattle.fields.specs.Answers.{Answer, success, judged}
use Rattle.fields.specs.Outcomes.{Did, leaving, placed}
use Rattle.fields.proofs.Bytes.{Bytes}
use Rattle.schema.specs.Schema.{Node}
use Rattle.instances.specs.File.{instance, encode}
use Rattle.instances.specs.declared.Slot.{Slot}
use Rattle.instances.proofs.RoundTrip.{read-encode}
use Rattle.instance_reader.specs.Decoded.{YieldsInstance}
use Rattle.instance_reader.proofs.Decoded.{an_instance}

-- ---- a file in a buffer

pub deliver_fits : (file out : List ℕ) {r : Answer} {c : List ℕ} → length file ≤ length out → c ≡ file → r ≡ success (length file) → Did (placed file out) r (c ++ drop (length file) out)
unfolding placed
deliver_fits file out h e i =
    let t = le-leb (length file) (length out) h in
    record { answer = i ∙ rw t refl; buffer = rw t (ap (λ (y : List ℕ). y ++ drop (length file) out) e) }

-- ---- the instance that was read

pub copied : (g : List Node) (s out : List ℕ) {before slots : List Slot} {x : Result ℕ Breach} {m : ℕ} {r : Answer} {c : List ℕ} → YieldsInstance g s before slots x → x ≡ Ok m → Bytes s → Did (placed s out) r c
    → Did (judged (leaving out) 4 (instance g s) (λ i. placed (encode g i) out)) r c
unfolding judged
copied g s out {r = r} {c} w e b d =
    let y = an_instance g s w e in
    rw y.reads (subst (λ (z : List ℕ). Did (placed z out) r c) (sym (read-encode g s b y.reads)) d)
