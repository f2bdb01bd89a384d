-- What the parts of the comparison start from.
-- For the contracts of functions that no other crate calls.
use Rattle.std.specs.Prelude.{ℕ, ◌<◌, ◌≡◌, Bool, List, length}
use Rattle.schema.specs.Schema.{Node}
use Rattle.comparison.specs.declared.Verdict.{Verdict}
use Rattle.comparison.specs.declared.Verdict.TheVariants.{Alike, FirstBetter, SecondBetter, Neither}
use Rattle.policies.specs.Policies.{Policy}
use Rattle.instances.specs.Instance.{Entry}
use Rattle.instances.specs.declared.Slot.{Slot}
use Rattle.instances.specs.File.{ReadsBack}
use Rattle.instances.specs.Plan.{slot_at}
use Rattle.model.specs.Order.{choice_at, as_good}
use Rattle.model.specs.Comparing.{compared}

-- 01's value of each verdict: '0 alike, 1 first better, 2 second better, 3 neither'
abbrev pub verdict_number : Verdict → ℕ
verdict_number Alike = 0
verdict_number FirstBetter = 1
verdict_number SecondBetter = 2
verdict_number Neither = 3

-- each node's slot has the instance's choice of it, 255 where it has no entry
pub record Choices (g : List Node) (i : List Entry) (slots : List Slot) : Type 0 where
  pub is : (n : ℕ) → n < length g → (slot_at slots n).choice ≡ choice_at i n

-- whether the first of two instances with these choices is at least as good as the second
pub record YieldsAsGood (g : List Node) (ps : List Policy) (first second : List Slot) (r : Bool) : Type 0 where
  pub is : (i j : List Entry) → ReadsBack g i → ReadsBack g j → Choices g i first → Choices g j second → r ≡ as_good g ps i j

-- the verdict on two instances with these choices
pub record YieldsVerdict (g : List Node) (ps : List Policy) (first second : List Slot) (r : ℕ) : Type 0 where
  pub is : (i j : List Entry) → ReadsBack g i → ReadsBack g j → Choices g i first → Choices g j second → r ≡ compared g ps i j
