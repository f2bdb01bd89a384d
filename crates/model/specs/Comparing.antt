-- The comparison's verdict and the checker's number 18 (01, 'Checking and comparing', 'Where a number arises').
use Rattle.std.specs.Prelude.{ℕ, ◌+◌, List, [], ◌∷◌, Bool, true, false, cond, length, ℤ}
use Rattle.std.proofs.Math.Option.{Option, none, some}
use Rattle.schema.specs.Schema.{Node, node_at}
use Rattle.schema.specs.declared.Variable.{Variable}
use Rattle.policies.specs.Policies.{Policy}
use Rattle.instances.specs.Instance.{Entry}
use Rattle.instances.specs.File.{value_width, encode_entry}
use Rattle.model.specs.Satisfaction.{admitted, choice_meets}
use Rattle.model.specs.Order.{as_good}

-- ---- the verdict

-- whether the first is at least as good as the second, and the reverse: '0 alike, 1 first better, 2 second better, 3 neither';
-- '"first better" means at least as good and not the reverse; "alike" means at least as good each way'
abbrev pub verdict : Bool → Bool → ℕ
verdict true true = 0
verdict true false = 1
verdict false true = 2
verdict false false = 3

-- instances i and j, where ps are the policies in force
unfoldable pub compared : List Node → List Policy → List Entry → List Entry → ℕ
compared g ps i j = verdict (as_good g ps i j) (as_good g ps j i)

-- ---- the offset of the 'first choice or value field that a policy in force forbids'

-- the first one's, or else the next one's
abbrev pub or_next : Option ℕ → Option ℕ → Option ℕ
or_next none o = o
or_next (some x) o = some x

-- among the values of variable k and those after it, the first of which stands at o
unfoldable pub forbidden_value : List Policy → ℕ → ℕ → List Variable → List ℤ → ℕ → Option ℕ
forbidden_value ps n k [] xs o = none
forbidden_value ps n k (v ∷ vs) [] o = none
forbidden_value ps n k (v ∷ vs) (x ∷ xs) o =
    cond (admitted ps n k v x) (forbidden_value ps n (k + 1) vs xs (o + value_width v)) (some o)

-- in an entry that stands at o: mark and node, then 'choice u8, then the node's values'
unfoldable pub forbidden_entry : List Node → List Policy → Entry → ℕ → Option ℕ
forbidden_entry g ps e o =
    cond (choice_meets g ps e) (forbidden_value ps e.node 0 (node_at g e.node).variables e.values (o + 4)) (some (o + 3))

-- in entries that stand from o on
unfoldable pub forbidden_from : List Node → List Policy → List Entry → ℕ → Option ℕ
forbidden_from g ps [] o = none
forbidden_from g ps (e ∷ es) o = or_next (forbidden_entry g ps e o) (forbidden_from g ps es (o + length (encode_entry g e)))

-- after 'IH: m u8'
unfoldable pub forbidden : List Node → List Policy → List Entry → Option ℕ
forbidden g ps i = forbidden_from g ps i 3
