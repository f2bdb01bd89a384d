-- The rows as PN are noted: their length stays, and a row has room for the PN of one more policy. A note writes in its node's row alone.
-- Rests on Sound: the nodes of a policy ascend, so it notes each at most once.
use mathlib.Core.Path.{◌≡◌, refl, ap, ◌∙◌}
use mathlib.Core.Bool.{Bool, true, false}
use mathlib.Core.List.{List, [], ◌∷◌}
use Prim.Native.Nat.{ℕ, zero, suc, ◌+◌, ◌%◌, ◌≤◌, ◌<◌}
use native.Mathlib.Omega.{arith}
use native.Mathlib.Decide.{ℕ_discrete, dec_lt}
use lib.ListN.{length, set, take, replicate, length-set, get_or-eq_default}
use lib.Seq.{get_or-set_same, get_or-set_other}
use Rattle.schema.specs.Schema.{Node}
use Rattle.fields.specs.Shorts.{short}
use Rattle.policies.specs.Policies.{Rule, Policy}
use Rattle.policies.specs.Widths.{rule_width, policy_width}
use Rattle.policies.specs.Rows.{no_policies, row_at, offsets_of, note, note_at, note_rules, note_policy, note_policies}
use Rattle.policies.specs.declared.Row.{Row}
use Rattle.policies.proofs.Sound.{SoundRules, SoundPolicy}

-- ---- the length stays

pub note-length : (n o : ℕ) (t : List Row) → length (note_at n o t) ≡ length t
unfolding note_at
note-length n o t = length-set t n (note o (row_at t n))

pub note-rules-length : (h p : ℕ) (xs : List Rule) (t : List Row) → length (note_rules h p xs t) ≡ length t
unfolding note_rules
note-rules-length h p [] t = refl
note-rules-length h p (x ∷ xs) t =
    note-rules-length h (p + rule_width x) xs (note_at x.node (h + p + 3) t) ∙ note-length x.node (h + p + 3) t

pub note-policy-length : (b : Bool) (h : ℕ) (x : Policy) (t : List Row) → length (note_policy b h x t) ≡ length t
unfolding note_policy
note-policy-length true h x t = note-rules-length h x.body x.rules t
note-policy-length false h x t = refl

pub note-policies-length : (keep : Policy → Bool) (h : ℕ) (xs : List Policy) (t : List Row) → length (note_policies keep h xs t) ≡ length t
unfolding note_policies
note-policies-length keep h [] t = refl
note-policies-length keep h (x ∷ xs) t =
    note-policies-length keep (h + policy_width x) xs (note_policy (keep x) h x t) ∙ note-policy-length (keep x) h x t

-- ---- one row

pub note_stores : (o i : ℕ) (x : Row) → i ≡ x.count → ◌≡◌ {A = Row} (record { count = x.count + 1; offsets = set x.offsets i (o % 65536) }) (note o x)
unfolding note short
note_stores o i x e = rw e

pub offsets_taken : (i : ℕ) (x : Row) → i ≡ x.count → take i x.offsets ≡ offsets_of x
unfolding offsets_of
offsets_taken i x e = rw e

-- ---- a note of node n

module _ (n o : ℕ) (t : List Row) where
  -- it writes in no other row
  pub note-other : (m : ℕ) → (m ≡ n → ⊥) → row_at (note_at n o t) m ≡ row_at t m
  unfolding note_at
  note-other m e = get_or-set_other t n m (note o (row_at t n)) no_policies e

  pub note-here : n < length t → row_at (note_at n o t) n ≡ note o (row_at t n)
  unfolding note_at
  note-here h = get_or-set_same t n (note o (row_at t n)) no_policies h

  -- a count that is written is there, or nothing is
  note-most : (row_at (note_at n o t) n).count ≤ (row_at t n).count + 1
  unfolding note
  note-most = go (dec_lt n (length t))
    where
      go : Dec (n < length t) → (row_at (note_at n o t) n).count ≤ (row_at t n).count + 1
      go (yes h) = rw (note-here h) (omega arith)
      go (no h) = rw (get_or-eq_default (note_at n o t) no_policies {n = n} (omega (arith, note-length n o t))) (omega arith)

-- ---- how many a row has

-- j policies were noted, and one more up to node low
pub record Counted (j low : ℕ) (t : List Row) : Type 0 where
  pub below : (n : ℕ) → n < low → (row_at t n).count ≤ j + 1
  pub from : (n : ℕ) → low ≤ n → (row_at t n).count ≤ j

pub blank : (m i : ℕ) → row_at (replicate m no_policies) i ≡ no_policies
blank zero i = refl
blank (suc m) zero = refl
blank (suc m) (suc i) = blank m i

pub counted-init : (t : List Row) → t ≡ replicate (length t) no_policies → Counted 0 0 t
counted-init t e =
    record {
      below = λ n h. absurd (omega arith);
      from = λ n h. let z : row_at t n ≡ no_policies = ap (λ (l : List Row). row_at l n) e ∙ blank (length t) n in rw z (omega arith);
    }

-- the PN of node n has room, and is noted
module _ (j low n : ℕ) (t : List Row) (w : Counted j low t) (above : low ≤ n) (few : j < 16) where
  pub counted-few : (row_at t n).count < 16
  counted-few = omega (arith, w.from n above)

  pub counted_step : (o : ℕ) → Counted j (n + 1) (note_at n o t)
  counted_step o = record { below = λ m h. at_most m h (ℕ_discrete m n); from = λ m h. omega (arith, w.from m (omega arith), same m (λ e. omega arith)) }
    where
      same : (m : ℕ) → (m ≡ n → ⊥) → (row_at (note_at n o t) m).count ≡ (row_at t m).count
      same m e = ap (λ (x : Row). x.count) (note-other n o t m e)

      earlier : (m : ℕ) → Dec (m < low) → (row_at t m).count ≤ j + 1
      earlier m (yes h) = w.below m h
      earlier m (no h) = omega (arith, w.from m (omega arith))

      at_most : (m : ℕ) → m < n + 1 → Dec (m ≡ n) → (row_at (note_at n o t) m).count ≤ j + 1
      at_most m h (yes e) = rw e (omega (arith, note-most n o t, w.from n above))
      at_most m h (no e) = omega (arith, same m e, earlier m (dec_lt m low))

-- the policy is noted whole
pub counted-exit : (j low : ℕ) (t : List Row) → Counted j low t → Counted (j + 1) 0 t
counted-exit j low t w = record { below = λ n h. absurd (omega arith); from = λ n h. go n (dec_lt n low) }
  where
    go : (n : ℕ) → Dec (n < low) → (row_at t n).count ≤ j + 1
    go n (yes h) = w.below n h
    go n (no h) = omega (arith, w.from n (omega arith))

-- ---- the PN of a policy, and the policies of a file

module _ (g : List Node) where
  pub counted-rules : (j low h p : ℕ) (xs : List Rule) (t : List Row) → SoundRules g low xs → j < 16 → Counted j low t → Counted (j + 1) 0 (note_rules h p xs t)
  unfolding note_rules
  counted-rules j low h p [] t s few w = counted-exit j low t w
  counted-rules j low h p (x ∷ xs) t s few w =
      counted-rules j (x.node + 1) h (p + rule_width x) xs (note_at x.node (h + p + 3) t) s.2 few
      (counted_step j low x.node t w s.0 few (h + p + 3))

  pub counted-policy : (j h : ℕ) (b : Bool) (x : Policy) (t : List Row) → SoundPolicy g x → j < 16 → Counted j 0 t → Counted (j + 1) 0 (note_policy b h x t)
  unfolding note_policy
  counted-policy j h true x t s few w = counted-rules j 0 h x.body x.rules t s.rules few w
  counted-policy j h false x t s few w = counted-exit j 0 t w
