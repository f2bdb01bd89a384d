-- As many lines as there are nodes: the sheet in the buffer, or 14.
-- Rests on the length of an instance's sheet, of the crate columns, and on the laws of a placed file.
use mathlib.Core.Path.{◌≡◌, ap}
use mathlib.Core.List.{List}
use Prim.Native.Nat.{ℕ, ◌*◌, ◌^◌, ◌≤◌, ◌<◌}
use native.Mathlib.Omega.{arith}
use lib.ListN.{length}
use Rattle.fields.specs.Answers.{Answer, success, refusal}
use Rattle.fields.specs.Outcomes.{Did, placed}
use Rattle.fields.specs.Writing.{Wrote}
use Rattle.fields.proofs.Bytes.{Bytes}
use Rattle.fields.proofs.Placed.{placed_short_did, placed_wrote_did}
use Rattle.numbers.specs.Bits.{cardinality}
use Rattle.numbers.proofs.Bits.{cardinality-fits}
use Rattle.schema.specs.Schema.{schema_of}
use Rattle.schema.specs.Table.{Accepted}
use Rattle.schema.proofs.Accepted.{sound}
use Rattle.instances.specs.File.{encode, ReadsBack}
use Rattle.instances.specs.Plan.{nodes_of, held}
use Rattle.instances.specs.declared.Slot.{Slot}
use Rattle.instances.proofs.IsInstance.{IsInstance}
use Rattle.instances.proofs.RoundTrip.{read_is, encode-bytes}
use Rattle.instances.proofs.Walk.{held-count}
use Rattle.columns.specs.Sheet.{sheet, line_bytes}
use Rattle.columns.proofs.RoundTrip.{reads-back}

pub lines_fit : (m : ℕ) {k : ℕ} → m < 2 ^ 64 → k ≡ cardinality m → line_bytes * k < 18446744073709551616
lines_fit m h e = omega (arith, cardinality-fits m h)

pub sheet_room : (m : ℕ) (out : List ℕ) {k : ℕ} → k ≡ cardinality m → line_bytes * k ≤ length out → line_bytes * cardinality m ≤ length out
sheet_room m out e h = omega arith

module _ (f : List ℕ) (slots : List Slot) (out : List ℕ) {m k : ℕ} (a : Accepted f) (x : Bytes f) (e : m ≡ nodes_of (held f slots)) (back : ReadsBack (schema_of f) (held f slots)) (c : k ≡ cardinality m) where
  is-instance : IsInstance (schema_of f) (held f slots)
  is-instance = read_is (schema_of f) (sound f x a.some) (encode (schema_of f) (held f slots)) (encode-bytes (schema_of f) (held f slots)) back.back

  long : length (sheet (held f slots)) ≡ line_bytes * k
  long =
      omega (
        arith,
        (reads-back (schema_of f) (sound f x a.some) (held f slots) is-instance).long,
        held-count f slots a x,
        ap cardinality e,
      )

  pub sheet_short : {r : Answer} → length out < line_bytes * k → r ≡ refusal 14 0 0 → Did (placed (sheet (held f slots)) out) r out
  sheet_short h i = placed_short_did (sheet (held f slots)) out (omega (arith, long)) i

  pub sheet_wrote : {after : List ℕ} {n : ℕ} {r : Answer} → line_bytes * k ≤ length out → Wrote out 0 (sheet (held f slots)) after n → r ≡ success n
      → Did (placed (sheet (held f slots)) out) r after
  sheet_wrote h u i = placed_wrote_did (sheet (held f slots)) out (omega (arith, long)) u i
