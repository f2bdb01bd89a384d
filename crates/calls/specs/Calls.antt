-- Each public call: from all its inputs, the lent buffer included, to its answer and the whole buffer at exit
-- (01, 'Reconciling', 'Checking and comparing', 'Where a number arises': 'calls check in that order, then the last rows'; 02/1).
use Rattle.std.specs.Prelude.{ℕ, List}
use Rattle.std.proofs.Math.Option.{Option, none, some}
use Rattle.fields.specs.Answers.{Answer, success, refusal, judged}
use Rattle.fields.specs.Outcomes.{Outcome, refused, leaving, placed}
use Rattle.schema.specs.Schema.{Node}
use Rattle.policies.specs.Policies.{Policy}
use Rattle.instances.specs.Instance.{Entry}
use Rattle.instances.specs.File.{instance, encode}
use Rattle.columns.specs.Sheet.{sheet}
use Rattle.model.specs.Reconciling.{reconciled}
use Rattle.model.specs.Comparing.{compared, forbidden}
use Rattle.calls.specs.Inputs.{with_schema, with_in_force}

-- the reconciler's last rows: '13 no instance meets the policies in force', 'after 13: 14 buffer shorter than the instance'
unfoldable pub given : List Node → List ℕ → Option (List Entry) → Outcome
given g out none = refused 13 0 0 out
given g out (some i) = placed (encode g i) out

-- schema file f, policies file p, pass from a to b
unfoldable pub reconciling : List ℕ → List ℕ → ℕ → ℕ → List ℕ → Outcome
reconciling f p a b out =
    with_schema (leaving out) f λ g.
    with_in_force (leaving out) g p a b λ ps.
    given g out (reconciled g ps)

-- the checker's last row: '18 first choice or value field that a policy in force forbids; file 4'
unfoldable pub permitted : Option ℕ → Answer
permitted none = success 0
permitted (some o) = refusal 18 4 o

-- instance file s, ps being the policies in force
unfoldable pub checking_in_force : List Node → List Policy → List ℕ → Answer
checking_in_force g ps s =
    judged refusal 4 (instance g s) λ i.
    permitted (forbidden g ps i)

unfoldable pub checking : List ℕ → List ℕ → ℕ → ℕ → List ℕ → Answer
checking f p a b s =
    with_schema refusal f λ g.
    with_in_force refusal g p a b λ ps.
    checking_in_force g ps s

-- 'two instances, files 4 and 5, which needn't meet the policies'; the verdict beside number 0
unfoldable pub comparing_in_force : List Node → List Policy → List ℕ → List ℕ → Answer
comparing_in_force g ps s t =
    judged refusal 4 (instance g s) λ i.
    judged refusal 5 (instance g t) λ j.
    success (compared g ps i j)

unfoldable pub comparing : List ℕ → List ℕ → ℕ → ℕ → List ℕ → List ℕ → Answer
comparing f p a b s t =
    with_schema refusal f λ g.
    with_in_force refusal g p a b λ ps.
    comparing_in_force g ps s t

-- 'a copying call takes schema and instance (file 4) and writes the instance it read, 14 last'
unfoldable pub copying : List ℕ → List ℕ → List ℕ → Outcome
copying f s out =
    with_schema (leaving out) f λ g.
    judged (leaving out) 4 (instance g s) λ i.
    placed (encode g i) out

-- an instance's text (file 4), placed in the buffer, '14 last'
unfoldable pub delivering : (List Node → List Entry → List ℕ) → List ℕ → List ℕ → List ℕ → Outcome
delivering text f s out =
    with_schema (leaving out) f λ g.
    judged (leaving out) 4 (instance g s) λ i.
    placed (text g i) out

-- whatever the schema
abbrev pub sheet_of : List Node → List Entry → List ℕ
sheet_of g i = sheet i

-- 02/1: 'the call takes schema and instance'; 'a buffer too short for it gets 14'
unfoldable pub sheeting : List ℕ → List ℕ → List ℕ → Outcome
sheeting f s out = delivering sheet_of f s out
