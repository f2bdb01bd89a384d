-- What each row holds when the policies are noted: the offsets of its node's PN, in file order.
-- Rests on Rows (a note writes in its node's row alone), and on the library's law of a store after what was taken.
use mathlib.Core.Path.{◌≡◌, refl, ap, sym, subst, ◌∙◌}
use mathlib.Core.Bool.{Bool, true, false, cond}
use mathlib.Core.List.{List, [], ◌∷◌, ◌++◌, append_assoc, append-nil}
use Prim.Native.Nat.{ℕ, ◌+◌, ◌≤◌, ◌<◌}
use native.Mathlib.Omega.{arith}
use native.Mathlib.Decide.{ℕ_discrete}
use borrow.Author.Tests.{eq-eqb, ne_eqb}
use lib.ListN.{length, replicate, length-set, length-append, length-replicate}
use lib.Seq.{append_snoc}
use lib.Dec.{eqb}
use Rattle.schema.specs.Schema.{Node}
use Rattle.policies.specs.Policies.{Rule, Policy}
use Rattle.policies.specs.Widths.{rule_width, policy_width}
use Rattle.fields.specs.Shorts.{short}
use Rattle.policies.specs.Rows.{no_policies, row_at, note, note_at, note_rules, note_policy, note_policies, rows_of, offsets_of, offsets_in}
use Rattle.policies.specs.declared.Row.{Row}
use Rattle.std.proofs.lemmas.List.{take_more_set}
use Rattle.policies.proofs.Stands.{none, more, PoliciesAt}
use Rattle.policies.proofs.Sound.{SoundRules, sound-policy}
use Rattle.policies.proofs.Rows.{note-length, note-policy-length, note-other, note-here, blank, Counted, counted-init, counted-few, counted_step, counted-policy}

-- ---- the offsets of the PN of node n

-- among those from p on of a policy whose head stands at h
unfoldable pub rules_offsets : ℕ → ℕ → ℕ → List Rule → List ℕ
rules_offsets n h p [] = []
rules_offsets n h p (x ∷ xs) = cond (eqb x.node n) (short (h + p + 3) ∷ rules_offsets n h (p + rule_width x) xs) (rules_offsets n h (p + rule_width x) xs)

-- in a policy that is selected or not
unfoldable pub policy_offsets : Bool → ℕ → ℕ → Policy → List ℕ
policy_offsets true n h x = rules_offsets n h x.body x.rules
policy_offsets false n h x = []

-- in the policies from h on
unfoldable pub policies_offsets : (Policy → Bool) → ℕ → ℕ → List Policy → List ℕ
policies_offsets keep n h [] = []
policies_offsets keep n h (x ∷ xs) = policy_offsets (keep x) n h x ++ policies_offsets keep n (h + policy_width x) xs

-- ---- one row

-- the row x has the offsets os
record Holds (x : Row) (os : List ℕ) : Type 0 where
  count : x.count ≡ length os
  offsets : offsets_of x ≡ os
  long : length x.offsets ≡ 16

holds_note : (o : ℕ) (x : Row) (os : List ℕ) → x.count < 16 → Holds x os → Holds (note o x) (os ++ (short o ∷ []))
unfolding note offsets_of
holds_note o x os room w =
    record {
      count = ap (λ (i : ℕ). i + 1) w.count ∙ sym (length-append os (short o ∷ []));
      offsets = take_more_set x.offsets x.count (short o) (omega (arith, w.long)) ∙ ap (λ (l : List ℕ). l ++ (short o ∷ [])) w.offsets;
      long = length-set x.offsets x.count (short o) ∙ w.long;
    }

row-note : (m n o : ℕ) (t : List Row) (os : List ℕ) → (row_at t m).count < 16 → n < length t → Holds (row_at t n) os
    → Holds (row_at (note_at m o t) n) (cond (eqb m n) (os ++ (short o ∷ [])) os)
row-note m n o t os room long w = go (ℕ_discrete m n)
  where
    go : Dec (m ≡ n) → Holds (row_at (note_at m o t) n) (cond (eqb m n) (os ++ (short o ∷ [])) os)
    go (yes e) =
        let r : (row_at t n).count < 16 = subst (λ (i : ℕ). (row_at t i).count < 16) e room in
        rw (eq-eqb m n e, e, note-here n o t long) (holds_note o (row_at t n) os r w)
    go (no e) = rw (ne_eqb m n e, note-other m o t n (λ z. e (sym z))) w

-- ---- all rules, all policies

seam : (b : Bool) (o : ℕ) (os rest : List ℕ) → cond b (os ++ (o ∷ [])) os ++ rest ≡ os ++ cond b (o ∷ rest) rest
seam true o os rest = append_snoc os o rest
seam false o os rest = refl

module _ (g : List Node) (n : ℕ) where
  rules-row : (j low h p : ℕ) (xs : List Rule) (t : List Row) (os : List ℕ) → SoundRules g low xs → j < 16 → Counted j low t → n < length t → Holds (row_at t n) os
      → Holds (row_at (note_rules h p xs t) n) (os ++ rules_offsets n h p xs)
  unfolding note_rules rules_offsets
  rules-row j low h p [] t os s few c long w = rw (append-nil os) w
  rules-row j low h p (x ∷ xs) t os s few c long w =
      subst (Holds (row_at (note_rules h (p + rule_width x) xs (note_at x.node (h + p + 3) t)) n))
      (seam (eqb x.node n) (short (h + p + 3)) os (rules_offsets n h (p + rule_width x) xs))
      (rules-row j (x.node + 1) h (p + rule_width x) xs (note_at x.node (h + p + 3) t) (cond (eqb x.node n) (os ++ (short (h + p + 3) ∷ [])) os) s.2 few
      (counted_step j low x.node t c s.0 few (h + p + 3))
      (omega (arith, note-length x.node (h + p + 3) t))
      (row-note x.node n (h + p + 3) t os (counted-few j low x.node t c s.0 few) long w))

  policy-row : (j h : ℕ) (b : Bool) (x : Policy) (t : List Row) (os : List ℕ) → SoundRules g 0 x.rules → j < 16 → Counted j 0 t → n < length t → Holds (row_at t n) os
      → Holds (row_at (note_policy b h x t) n) (os ++ policy_offsets b n h x)
  unfolding note_policy policy_offsets
  policy-row j h true x t os s few c long w = rules-row j 0 h x.body x.rules t os s few c long w
  policy-row j h false x t os s few c long w = rw (append-nil os) w

  -- and no row has more offsets than there are policies
  record Rowed (t : List Row) (os : List ℕ) : Type 0 where
    row : Holds (row_at t n) os
    few : length os ≤ 16

  policies-row : {p : List ℕ} (keep : Policy → Bool) (j h : ℕ) (xs : List Policy) (t : List Row) (os : List ℕ) → PoliciesAt g p h xs → j + length xs ≤ 16 → Counted j 0 t
      → n < length t → Holds (row_at t n) os → Rowed (note_policies keep h xs t) (os ++ policies_offsets keep n h xs)
  unfolding note_policies policies_offsets
  policies-row keep j h [] t os none few c long w = rw (append-nil os) (record { row = w; few = omega (arith, w.count, c.from n (omega arith)) })
  policies-row keep j h (x ∷ xs) t os (more a y s) few c long w =
      let k = sound-policy y in
      subst (Rowed (note_policies keep (h + policy_width x) xs (note_policy (keep x) h x t))) (append_assoc os (policy_offsets (keep x) n h x) (policies_offsets keep n (h + policy_width x) xs))
      (policies-row keep (j + 1) (h + policy_width x) xs (note_policy (keep x) h x t) (os ++ policy_offsets (keep x) n h x) s (omega arith)
      (counted-policy g j h (keep x) x t k (omega arith) c)
      (omega (arith, note-policy-length (keep x) h x t))
      (policy-row j h (keep x) x t os k.rules (omega arith) c long w))

-- ---- the rows of a file

module _ (g : List Node) (p : List ℕ) (ps : List Policy) (keep : Policy → Bool) (rows : List Row) where
  module _ (stand : PoliciesAt g p 0 ps) (few : length ps ≤ 16) (e : rows ≡ rows_of keep (length rows) ps) (l : length g ≤ length rows) where
    module _ (n : ℕ) (below : n < length g) where
      rowed : Rowed g n rows (policies_offsets keep n 0 ps)
      unfolding rows_of offsets_of
      rowed =
          let m = length-replicate {A = Row} (length rows) no_policies in
          let c = counted-init (replicate (length rows) no_policies) (ap (λ (i : ℕ). replicate i no_policies) (sym m)) in
          subst (λ (t : List Row). Rowed g n t (policies_offsets keep n 0 ps)) (sym e)
          (policies-row g n keep 0 0 ps (replicate (length rows) no_policies) [] stand (omega arith) c (omega arith)
          (rw (blank (length rows) n) (record { count = refl; offsets = refl; long = refl })))

      pub filled-few : (row_at rows n).count ≤ 16
      filled-few = omega (arith, rowed.row.count, rowed.few)

      pub filled-offsets : offsets_in rows n ≡ policies_offsets keep n 0 ps
      filled-offsets = rowed.row.offsets

      pub filled-most : length (offsets_in rows n) ≤ 16
      filled-most = omega (arith, ap (λ (l : List ℕ). length l) filled-offsets, rowed.few)
