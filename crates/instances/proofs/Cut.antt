-- A cut instance file is refused with 2 at the first field that is not whole, an extended one with 7 at the first byte that remains: the definitions, read on two files at once.
-- Rests on the field laws of cut files; nothing here looks into the graph.
use mathlib.Core.Path.{◌≡◌, refl}
use mathlib.Core.List.{List, [], ◌∷◌, ◌++◌, map, flat_map}
use Prim.Native.Nat.{ℕ, zero, suc, ◌<◌}
use lib.ListN.{length, take}
use Rattle.fields.specs.Reading.{got, bad, ended}
use Rattle.fields.proofs.Cut.{field_at, Same, Agree, unasked, got-agree, bad-agree, ended-agree, cond-agree, part-agree, whole_agree, field-agree, mark-agree, file-cut, file-extended}
use Rattle.schema.specs.Schema.{Node, node_at}
use Rattle.schema.specs.declared.Variable.{Variable}
use Rattle.instances.specs.Instance.{Entry, right_choice, in_domain}
use Rattle.instances.specs.File.{IH, IN, due, none_below, lowest_due, value_width, value_of, value, values, entry_of, entry, entries, instance}

-- ---- the fields

-- mark, node, choice, values
abbrev pub entry_fields : List Node → Entry → List ℕ
entry_fields g e = 2 ∷ 1 ∷ 1 ∷ map value_width (node_at g e.node).variables

-- mark, m, entries
abbrev pub instance_fields : List Node → List Entry → List ℕ
instance_fields g i = 2 ∷ 1 ∷ flat_map (entry_fields g) i

-- ---- two readings

module _ {s t : List ℕ} (same : Same s t) where
  value-agree : (v : Variable) (p : ℕ) → Agree s t unasked (λ _. value_width v ∷ []) [] p (value s v p) (value t v p)
  unfolding value
  value-agree v p = field-agree same (value_width v) 17 (λ u. in_domain v (value_of v u)) (λ u p. got-agree (value_of v u) refl)

  values_agree : (vs : List Variable) (p : ℕ) → Agree s t unasked (λ _. map value_width vs) [] p (values s vs p) (values t vs p)
  unfolding values
  values_agree [] p = got-agree [] refl
  values_agree (v ∷ vs) p = part-agree (value-agree v p) (λ x p. part-agree (values_agree vs p) (λ xs p. got-agree (x ∷ xs) refl))

  module _ (g : List Node) where
    entry-agree : (es : List Entry) (p : ℕ) → Agree s t unasked (entry_fields g) [] p (entry s g es p) (entry t g es p)
    unfolding entry entry_of
    entry-agree es p =
        part-agree (mark-agree same IN p) (λ _ p.
        field-agree same 1 15 (lowest_due g es) (λ n p.
        field-agree same 1 16 (right_choice (node_at g n)) (λ choice p.
        part-agree (values_agree (node_at g n).variables p) (λ xs p. got-agree (record { node = n; choice = choice; values = xs }) refl))))

    entries-agree : (m : ℕ) (es : List Entry) (p : ℕ) → Agree s t unasked (flat_map (entry_fields g)) [] p (entries s g m es p) (entries t g m es p)
    unfolding entries flat_map
    entries-agree zero es p = cond-agree (none_below (due g es) (length g)) (got-agree [] refl) bad-agree
    entries-agree (suc m) es p =
        part-agree (entry-agree es p) (λ e p.
        part-agree (entries-agree m (e ∷ es) p) (λ rest p. got-agree (e ∷ rest) refl))

    instance-agree : Agree s t ended (instance_fields g) [] 0 (instance g s) (instance g t)
    unfolding instance
    instance-agree =
        part-agree (mark-agree same IH 0) (λ _ p.
        part-agree (whole_agree same 1 p) (λ m p.
        part-agree (entries-agree m [] p) (λ i p. ended-agree i refl)))

-- ---- a file

module _ (g : List Node) (s : List ℕ) {i : List Entry} {q : ℕ} where
  pub instance-cut : instance g s ≡ got i q → (k : ℕ) → k < length s → instance g (take k s) ≡ bad 2 (field_at (instance_fields g i) 0 k)
  instance-cut e = file-cut (instance_fields g) (instance g) (λ s t same. instance-agree same g) s e

  pub instance-extended : instance g s ≡ got i q → (b : ℕ) (more : List ℕ) → instance g (s ++ (b ∷ more)) ≡ bad 7 (length s)
  instance-extended e = file-extended (instance_fields g) (instance g) (λ s t same. instance-agree same g) s e
