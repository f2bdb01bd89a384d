-- How long what is written can be: 4 bytes a value, 20 an entry, 64 entries.
-- Rests on the definitions of the encodings, and on a sound schema for the number of variables.
use mathlib.Core.Path.{◌≡◌}
use mathlib.Core.List.{List, [], ◌∷◌, ◌++◌}
use Prim.Native.Nat.{ℕ, ◌+◌, ◌*◌, ◌≤◌}
use native.Mathlib.Omega.{arith}
use lib.IntN.{ℤ}
use lib.Signed.{mag}
use lib.ListN.{length, length-append}
use Rattle.fields.specs.Writing.{spell, unsigned}
use Rattle.fields.proofs.Bytes.{spell-length}
use Rattle.schema.specs.Schema.{Node, node_at}
use Rattle.schema.specs.declared.Variable.{Variable}
use Rattle.schema.specs.declared.Variable.TheVariants.{Number, Listed}
use Rattle.schema.proofs.Sound.{Sound}
use Rattle.instances.specs.Instance.{Entry}
use Rattle.instances.specs.File.{IH, IN, value_width, encode_value, encode_values, encode_entry, encode_entries, encode, most_bytes}
use Rattle.instances.proofs.Valid.{few-variables}

pub width-most : (v : Variable) → value_width v ≤ 4
unfolding value_width
width-most (Number lo hi) = omega arith
width-most (Listed size) = omega arith

pub width-number : (v : Variable) {lo hi : ℤ} → v ≡ Number lo hi → 4 ≡ value_width v
unfolding value_width
width-number v e = rw e

pub width-listed : (v : Variable) {size : ℕ} → v ≡ Listed size → 1 ≡ value_width v
unfolding value_width
width-listed v e = rw e

pub value-width : (v : Variable) (x : ℤ) → length (encode_value v x) ≡ value_width v
unfolding encode_value value_width
value-width (Number lo hi) x = spell-length 4 (unsigned x)
value-width (Listed size) x = spell-length 1 (mag x)

pub value-length : (v : Variable) (x : ℤ) → length (encode_value v x) ≤ 4
value-length v x = omega (arith, value-width v x, width-most v)

values_length : (vs : List Variable) (xs : List ℤ) → length (encode_values vs xs) ≤ 4 * length vs
unfolding encode_values
values_length [] xs = omega arith
values_length (v ∷ vs) [] = omega arith
values_length (v ∷ vs) (x ∷ xs) = omega (arith, length-append (encode_value v x) (encode_values vs xs), value-length v x, values_length vs xs)

-- the mark, the node and the choice, then the values
pub entry_length : (g : List Node) (e : Entry) → length (encode_entry g e) ≡ 4 + length (encode_values (node_at g e.node).variables e.values)
unfolding encode_entry
entry_length g e =
    let nb = spell 1 e.node in
    let cb = spell 1 e.choice in
    let vb = encode_values (node_at g e.node).variables e.values in
    omega (
      arith,
      length-append (IN ++ nb ++ cb) vb,
      length-append (IN ++ nb) cb,
      length-append IN nb,
      spell-length 1 e.node,
      spell-length 1 e.choice,
    )

module _ (g : List Node) (sound : Sound g) where
  pub entry-most : (e : Entry) → length (encode_entry g e) ≤ 20
  entry-most e = omega (arith, entry_length g e, values_length (node_at g e.node).variables e.values, few-variables g sound e.node)

  entries-most : (es : List Entry) → length (encode_entries g es) ≤ 20 * length es
  unfolding encode_entries
  entries-most [] = omega arith
  entries-most (e ∷ es) = omega (arith, length-append (encode_entry g e) (encode_entries g es), entry-most e, entries-most es)

  pub encode-length : (i : List Entry) → length i ≤ 64 → length (encode g i) ≤ most_bytes
  unfolding encode
  encode-length i h =
      let mb = spell 1 (length i) in
      omega (arith, length-append (IH ++ mb) (encode_entries g i), length-append IH mb, spell-length 1 (length i), entries-most i)
