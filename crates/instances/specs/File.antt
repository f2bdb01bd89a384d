-- The instance file (01, 'Instance', and 'Where a number arises').
use Rattle.std.specs.Prelude.{◌≡◌, ℕ, zero, suc, ◌+◌, List, [], ◌∷◌, ◌++◌, Bool, true, cond, ◌&&◌, ◌||◌, not, length, eqb, ℤ, pos}
use Rattle.std.specs.Int.Signed.{mag}
use Rattle.fields.specs.Reading.{Got, got, bad, part, whole, field, mark, ended, signed}
use Rattle.fields.specs.Writing.{spell, unsigned}
use Rattle.schema.specs.Schema.{Node, node_at}
use Rattle.schema.specs.declared.Variable.{Variable}
use Rattle.schema.specs.declared.Variable.TheVariants.{Number, Listed}
use Rattle.instances.specs.Instance.{Entry, elem, reaches, right_choice, in_domain, has}

abbrev pub IH : List ℕ
IH = 0x49 ∷ 0x48 ∷ []

abbrev pub IN : List ℕ
IN = 0x49 ∷ 0x4e ∷ []

-- ---- reading

-- n is the root, or one of the entries read so far reaches it
unfoldable pub reached : List Node → List Entry → ℕ → Bool
reached g [] n = eqb n 0
reached g (e ∷ es) n = elem n (reaches (node_at g e.node) e.choice) || reached g es n

-- 'a reached node without an entry'
unfoldable pub due : List Node → List Entry → ℕ → Bool
due g es n = reached g es n && not (has es n)

-- nothing below k passes
unfoldable pub none_below : (ℕ → Bool) → ℕ → Bool
none_below f zero = true
none_below f (suc k) = not (f k) && none_below f k

-- 'the lowest reached node without an entry'
unfoldable pub lowest_due : List Node → List Entry → ℕ → Bool
lowest_due g es n = due g es n && none_below (due g es) n

-- 'the node's values, i32 for a number, u8 for a listed one'
abbrev pub number_width : ℕ
number_width = 4

abbrev pub listed_width : ℕ
listed_width = 1

unfoldable pub value_width : Variable → ℕ
value_width (Number lo hi) = number_width
value_width (Listed size) = listed_width

unfoldable pub values_width : List Variable → ℕ
values_width [] = 0
values_width (v ∷ vs) = value_width v + values_width vs

unfoldable pub value_of : Variable → ℕ → ℤ
value_of (Number lo hi) u = signed u
value_of (Listed size) u = pos u

-- '17 outside the schema's domain'
unfoldable pub value : List ℕ → Variable → ℕ → Got ℤ
value s v p =
    field (value_width v) 17 (λ u. in_domain v (value_of v u)) s p λ u p.
    got (value_of v u) p

-- a value for each variable
unfoldable pub values : List ℕ → List Variable → ℕ → Got (List ℤ)
values s [] p = got [] p
values s (v ∷ vs) p =
    part (value s v p) λ x p.
    part (values s vs p) λ xs p.
    got (x ∷ xs) p

-- node n's choice and values
unfoldable pub entry_of : List ℕ → List Node → ℕ → ℕ → Got Entry
entry_of s g n p =
    field 1 16 (right_choice (node_at g n)) s p λ choice p.
    part (values s (node_at g n).variables p) λ xs p.
    got (record { node = n; choice = choice; values = xs }) p

-- an IN, after the entries es
unfoldable pub entry : List ℕ → List Node → List Entry → ℕ → Got Entry
entry s g es p =
    part (mark IN s p) λ _ p.
    field 1 15 (lowest_due g es) s p λ n p.
    entry_of s g n p

-- 'then m IN'; 'after m entries: 15 a reached node has no entry', at m, which stands at offset 2
unfoldable pub entries : List ℕ → List Node → ℕ → List Entry → ℕ → Got (List Entry)
entries s g zero es p = cond (none_below (due g es) (length g)) (got [] p) (bad 15 2)
entries s g (suc m) es p =
    part (entry s g es p) λ e p.
    part (entries s g m (e ∷ es) p) λ rest p.
    got (e ∷ rest) p

-- 'one IH: m u8'
unfoldable pub instance : List Node → List ℕ → Got (List Entry)
instance g s =
    part (mark IH s 0) λ _ p.
    part (whole 1 s p) λ m p.
    part (entries s g m [] p) λ i p.
    ended s i p

-- ---- writing: the same fields, put in turn

unfoldable pub encode_value : Variable → ℤ → List ℕ
encode_value (Number lo hi) x = spell 4 (unsigned x)
encode_value (Listed size) x = spell 1 (mag x)

unfoldable pub encode_values : List Variable → List ℤ → List ℕ
encode_values [] xs = []
encode_values (v ∷ vs) [] = []
encode_values (v ∷ vs) (x ∷ xs) = encode_value v x ++ encode_values vs xs

unfoldable pub encode_entry : List Node → Entry → List ℕ
encode_entry g e = IN ++ spell 1 e.node ++ spell 1 e.choice ++ encode_values (node_at g e.node).variables e.values

unfoldable pub encode_entries : List Node → List Entry → List ℕ
encode_entries g [] = []
encode_entries g (e ∷ es) = encode_entry g e ++ encode_entries g es

unfoldable pub encode : List Node → List Entry → List ℕ
encode g i = IH ++ spell 1 (length i) ++ encode_entries g i

-- '1,283 bytes, enough for any instance'
abbrev pub most_bytes : ℕ
most_bytes = 1283

-- 'an instance written and read back is the same instance'
pub record ReadsBack (g : List Node) (i : List Entry) : Type 0 where
  pub back : instance g (encode g i) ≡ got i (length (encode g i))
