-- The theorems on instance files: what is read is an instance and makes the same bytes, and every instance, written, is read back.
-- Rests on Trip.antt for the bytes and on Valid.antt for the graph.
use mathlib.Core.Path.{◌≡◌, refl}
use mathlib.Core.Bool.{Bool, true, false, cond}
use mathlib.Core.List.{List, [], ◌∷◌, ◌++◌, Memᴰ}
use Prim.Native.Nat.{ℕ, zero, suc, ◌-◌, ◌≤◌, ◌<◌}
use native.Mathlib.Omega.{arith}
use borrow.Author.Tests.{eqb-true}
use lib.Dec.{eqb}
use lib.IntN.{ℤ}
use lib.Signed.{mag}
use lib.ListN.{length}
use Rattle.fields.specs.Reading.{got}
use Rattle.fields.specs.Writing.{spell, unsigned}
use Rattle.fields.proofs.Bytes.{Bytes}
use Rattle.schema.specs.Schema.{Node, node_at}
use Rattle.schema.specs.declared.Variable.{Variable}
use Rattle.schema.specs.declared.Variable.TheVariants.{Number, Listed}
use Rattle.schema.proofs.Sound.{Sound}
use Rattle.instances.specs.Instance.{Entry, elem, chooses, right_choice}
use Rattle.instances.specs.File.{IH, IN, instance, encode_value, encode_values, encode_entry, encode_entries, encode, most_bytes}
use Rattle.instances.proofs.IsInstance.{Reached, root, on, Ascending, IsInstance}
use Rattle.fields.proofs.At.{bytes-both, bytes-none, bytes_one, spell-bytes}
use Rattle.instances.proofs.Valid.{successor-in, sound-variables, reaches-in, follows_is, is-follows}
use Rattle.instances.proofs.Lengths.{encode-length}
use Rattle.instances.proofs.Trip.{Small, follows-read, read_back}

-- ---- read

module _ (g : List Node) (s : List ℕ) (b : Bytes s) {i : List Entry} {q : ℕ} (e : instance g s ≡ got i q) where
  -- read and written again is the same bytes
  pub read-encode : encode g i ≡ s
  read-encode = (read_back s b g e).same

  -- and the whole file was read
  pub read-end : q ≡ length s
  read-end = (read_back s b g e).end

-- what is read is an instance
pub read_is : (g : List Node) → Sound g → (s : List ℕ) → Bytes s → {i : List Entry} {q : ℕ} → instance g s ≡ got i q → IsInstance g i
read_is g sound s b e = follows_is g sound _ (read_back s b g e).follows

-- ---- written

letters-bytes : (a b : ℕ) → a < 256 → b < 256 → Bytes (a ∷ b ∷ [])
letters-bytes a b h k zero = record { fits = h }
letters-bytes a b h k (suc j) = bytes_one b k j

module _ (g : List Node) where
  value-bytes : (v : Variable) (x : ℤ) → Bytes (encode_value v x)
  unfolding encode_value
  value-bytes (Number lo hi) x = spell-bytes 4 (unsigned x)
  value-bytes (Listed size) x = spell-bytes 1 (mag x)

  values-bytes : (vs : List Variable) (xs : List ℤ) → Bytes (encode_values vs xs)
  unfolding encode_values
  values-bytes [] xs = bytes-none
  values-bytes (v ∷ vs) [] = bytes-none
  values-bytes (v ∷ vs) (x ∷ xs) = bytes-both (encode_value v x) (encode_values vs xs) (value-bytes v x) (values-bytes vs xs)

  entry-bytes : (e : Entry) → Bytes (encode_entry g e)
  unfolding encode_entry
  entry-bytes e =
      let nb = spell 1 e.node in
      let cb = spell 1 e.choice in
      let vb = encode_values (node_at g e.node).variables e.values in
      bytes-both (IN ++ nb ++ cb) vb
      (bytes-both (IN ++ nb) cb (bytes-both IN nb (letters-bytes 0x49 0x4e (omega arith) (omega arith)) (spell-bytes 1 e.node)) (spell-bytes 1 e.choice))
      (values-bytes (node_at g e.node).variables e.values)

  entries-bytes : (es : List Entry) → Bytes (encode_entries g es)
  unfolding encode_entries
  entries-bytes [] = bytes-none
  entries-bytes (e ∷ es) = bytes-both (encode_entry g e) (encode_entries g es) (entry-bytes e) (entries-bytes es)

  pub encode-bytes : (i : List Entry) → Bytes (encode g i)
  unfolding encode
  encode-bytes i =
      let mb = spell 1 (length i) in
      bytes-both (IH ++ mb) (encode_entries g i) (bytes-both IH mb (letters-bytes 0x49 0x48 (omega arith) (omega arith)) (spell-bytes 1 (length i))) (entries-bytes i)

-- ---- how many entries there are, and how large their fields

-- entries in ascending order, from k on and below n
few : (i : List Entry) (k n : ℕ) → Ascending i → ((e : Entry) → Memᴰ e i → (k ≤ e.node) × (e.node < n)) → length i ≤ n - k
few [] k n a h = omega arith
few (e ∷ i) k n a h =
    let z = h e (Memᴰ.head refl) in
    let x = z.0 in
    let y = z.1 in
    let r = few i (suc e.node) n a.1 (λ d m. (a.0 d m, (h d (Memᴰ.tail m)).1)) in
    omega arith

module _ (g : List Node) (sound : Sound g) where
  choice-small : (n c : ℕ) → right_choice (node_at g n) c ≡ true → c < 256
  unfolding right_choice
  choice-small n c t = go (chooses (node_at g n)) t
    where
      go : (b : Bool) → cond b (elem c (node_at g n).successors) (eqb c 255) ≡ true → c < 256
      go true t = let z = (successor-in g sound n c t).1 in let y = sound.few in omega arith
      go false t = let z = eqb-true c 255 t in omega arith

  module _ (i : List Entry) (is : IsInstance g i) where
    pub reached-below : {n : ℕ} → Reached g i n → n < length g
    reached-below root = sound.some
    reached-below {n} (on e r m t) = (reaches-in g sound e (is.right e m).right-choice n t).1

    pub node-below : (e : Entry) → Memᴰ e i → e.node < length g
    node-below e m = reached-below (is.only e m)

    pub small : (e : Entry) → Memᴰ e i → Small e
    small e m =
        let z = node-below e m in
        let y = sound.few in
        record { node-byte = omega arith; choice-byte = choice-small e.node e.choice (is.right e m).right-choice }

    pub few-entries : length i ≤ 64
    few-entries =
        let z = few i 0 (length g) is.ascending (λ e m. (omega arith, node-below e m)) in
        let y = sound.few in
        omega arith

    -- written and read back is the same instance
    pub encode-read : instance g (encode g i) ≡ got i (length (encode g i))
    encode-read = follows-read g (sound-variables g sound) i (is-follows g sound i is) small (let z = few-entries in omega arith)

    -- 'into 1,283 bytes, enough for any instance'
    pub longest : length (encode g i) ≤ most_bytes
    longest = encode-length g sound i few-entries
