-- What the reader's functions answer, and the slots that they fill; the nodes that are due are the bits of a number.
-- For the contracts of functions that no other crate calls.
use Rattle.std.specs.Prelude.{ℕ, ◌<◌, ◌≡◌, Bool, true, ◌&&◌, List, [], ◌∷◌, ℤ, Result, Ok, Err}
use Rattle.fields.specs.Reading.{Got, got, bad, part, field, mark}
use Rattle.fields.specs.Answers.{number}
use Rattle.fields.specs.Runs.{Run, did, refused}
use Rattle.fields.specs.declared.Breach.{Breach}
use Rattle.numbers.specs.Bits.{bit, with, turned, with_all}
use Rattle.schema.specs.Schema.{Node, node_at}
use Rattle.schema.specs.declared.Variable.{Variable}
use Rattle.instances.specs.Instance.{Entry, reaches}
use Rattle.instances.specs.File.{IN, none_below, entry_of}
use Rattle.instances.specs.declared.Slot.{Slot}
use Rattle.instance_reader.specs.Decoded.{bits_of, fill_slot}
use Rattle.instance_reader.specs.declared.Visit.{Visit}

-- ---- values

-- a value that was read, in bits
abbrev pub in_bits : Variable → Got ℤ → Got ℕ
in_bits v (got x q) = got (bits_of v x) q
in_bits v (bad n o) = bad n o

-- ---- an entry

-- an IN, where f tells which nodes are due
unfoldable pub entry_where : List ℕ → List Node → (ℕ → Bool) → ℕ → Got Entry
entry_where s g f p =
    part (mark IN s p) λ _ p.
    field 1 15 (λ n. f n && none_below f n) s p λ n p.
    entry_of s g n p

-- the nodes that are due after an entry: not its own any more, and those that it reaches
unfoldable pub due_after : List Node → ℕ → Entry → ℕ
due_after g m e = with_all (turned m e.node) (reaches (node_at g e.node) e.choice)

-- every bit of m is below k
pub record Within (m k : ℕ) : Type 0 where
  pub within : (n : ℕ) → bit m n ≡ true → n < k

-- an entry's node, the nodes that are due after it, and the slots
pub record AfterEntry : Type 0 where
  pub node : ℕ
  pub due : ℕ
  pub slots : List Slot

abbrev pub entry_outcome : Result (Visit × ℕ) Breach → List Slot → Run AfterEntry
entry_outcome (Ok r) slots = did r.1 (record { node = r.0.node; due = r.0.due; slots = slots })
entry_outcome (Err b) slots = refused (number b.fault) b.offset

-- where the nodes that are due before it are the bits of m
abbrev pub entry_run : List Node → ℕ → Got Entry → List Slot → Run AfterEntry
entry_run g m (got e q) slots =
    did q (record { node = e.node; due = due_after g m e; slots = fill_slot g e slots })
entry_run g m (bad n o) slots = refused n o

-- ---- the entries

-- the nodes that have an entry, as bits, and the slots
pub record Taken : Type 0 where
  pub nodes : ℕ
  pub slots : List Slot

abbrev pub fill_entry : List Node → Entry → Taken → Taken
fill_entry g e t =
    record { nodes = with t.nodes e.node; slots = fill_slot g e t.slots }

unfoldable pub fill_entries : List Node → List Entry → Taken → Taken
fill_entries g [] t = t
fill_entries g (e ∷ es) t = fill_entries g es (fill_entry g e t)

abbrev pub entries_outcome : Result (ℕ × ℕ) Breach → List Slot → Run Taken
entries_outcome (Ok r) slots = did r.1 (record { nodes = r.0; slots = slots })
entries_outcome (Err b) slots = refused (number b.fault) b.offset

-- before the first entry
abbrev pub emptied : List Slot → Taken
emptied slots = record { nodes = 0; slots = slots }
