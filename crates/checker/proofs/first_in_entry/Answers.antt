-- The choice comes first, then the values.
-- Rests on the laws of an entry, in Entries.
use Rattle.checker.proofs.Entries.{entry_no}
use Rattle.checker.proofs.first_in_entry.Goals as goal

pub returns : goal.returns
returns c = search entry_no
