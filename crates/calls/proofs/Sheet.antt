-- 02/1: what the call writes, how long it is, and that with the schema it reads back to the instance.
-- Rests on what is delivered of an accepted instance, and on the theorems on the sheet, of columns.
use mathlib.Core.Path.{◌≡◌, refl, sym, ap, subst, ◌∙◌}
use mathlib.Core.List.{List}
use mathlib.Core.Option.{some}
use Prim.Native.Nat.{ℕ, ◌*◌}
use lib.ListN.{length, take, drop}
use lib.Seq.{take_at}
use Rattle.fields.specs.Reading.{got}
use Rattle.fields.specs.Outcomes.{Outcome}
use Rattle.fields.proofs.Bytes.{Bytes}
use Rattle.schema.specs.Schema.{Node, schema}
use Rattle.instances.specs.Instance.{Entry}
use Rattle.instances.specs.File.{encode}
use Rattle.columns.specs.Sheet.{sheet}
use Rattle.columns.proofs.ReadBack.{sheet_read}
use Rattle.columns.proofs.RoundTrip.{SheetReadsBack, reads-back, same-sheet}
use Rattle.columns.proofs.Exact.{sheet-exact}
use Rattle.calls.specs.Calls.{sheet_of, sheeting}
use Rattle.calls.proofs.Accepted.{sound-read}
use Rattle.calls.proofs.Copied.{Encodes}
use Rattle.calls.proofs.Delivered.{Fitting, Delivered, delivered}

-- of the outcome of the call on instance file s with this buffer, under an accepted schema
pub record Sheeted (g : List Node) (s out : List ℕ) (o : Outcome) : Type 0 where
  -- the sheet of the instance that s encodes; 'a buffer too short for it gets 14'
  pub writes : Delivered g s (λ E. sheet E.what) out o
  -- 'the sheet's length follows from the instance alone, and with the schema each line reads back to its entry'
  pub says : (E : Encodes g s) → SheetReadsBack g E.what
  -- so does the length that is told, and what was written reads back to the instance
  pub long : (F : Fitting g s (λ E. sheet E.what) out) → o.answer.value ≡ 55 * length F.encodes.what
  pub back : (F : Fitting g s (λ E. sheet E.what) out) → sheet_read g (take o.answer.value o.buffer) ≡ some F.encodes.what
  -- no other text does
  pub only : (cs : List ℕ) {i : List Entry} → sheet_read g cs ≡ some i → sheet i ≡ cs
  -- two files with one sheet are the same
  pub same : (t : List ℕ) (E : Encodes g s) (D : Encodes g t) → sheet E.what ≡ sheet D.what → s ≡ t

module _ (f : List ℕ) (h : Bytes f) {g : List Node} {q : ℕ} (e : schema f ≡ got g q) where
  instance-says : {s : List ℕ} (E : Encodes g s) → SheetReadsBack g E.what
  instance-says E = reads-back g (sound-read f h e) E.what E.is-instance

  pub sheeted : (s : List ℕ) → Bytes s → (out : List ℕ) → Sheeted g s out (sheeting f s out)
  unfolding sheeting
  sheeted s c out =
      let D = delivered f h e sheet_of s (λ E. sheet E.what) (λ E. refl) c out in
      record {
        writes = D;
        says = instance-says;
        long = λ F. ap (λ (o : Outcome). o.answer.value) (D.writes F) ∙ (instance-says F.encodes).long;
        back = λ F.
            let text = sheet F.encodes.what in
            subst (λ (o : Outcome). sheet_read g (take o.answer.value o.buffer) ≡ some F.encodes.what) (sym (D.writes F))
            (ap (sheet_read g) (take_at text (drop (length text) out) (length text) refl) ∙ (instance-says F.encodes).whole);
        only = λ cs k. sheet-exact g (sound-read f h e) cs k;
        same = λ t E D z.
            sym E.is-file ∙ ap (encode g) (same-sheet g (sound-read f h e) E.what D.what E.is-instance D.is-instance z) ∙ D.is-file;
      }
