-- The two stores are those of the definition.
-- Rests on note_stores.
use Rattle.policies.proofs.Rows.{note_stores}
use Rattle.policies.proofs.Row.note.Goals as goal

pub returns : goal.returns
returns c = note_stores c.args.offset c.from.result c.args.self.now c.from.ensures
