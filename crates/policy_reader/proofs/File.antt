-- A policy on its own stretch and the loop over the file: what is left to read and to note from here equals the whole.
-- Rests on Rules, on Stands (a policy ends where its width says), on Within (no offset wraps) and on Rows (no row overflows).
use mathlib.Core.Path.{◌≡◌, refl, ap, sym, ◌∙◌}
use mathlib.Core.Bool.{Bool, true, false, ◌&&◌}
use mathlib.Core.List.{List, ◌∷◌}
use Prim.Native.Nat.{ℕ, zero, suc, ◌+◌, ◌-◌, ◌^◌, ◌≤◌, ◌<◌}
use native.Mathlib.Omega.{arith}
use borrow.Author.Tests.{lt-ltb, le-ltb}
use lib.ListN.{length, drop, take, replicate, length-drop}
use lib.Dec.{leb}
use Rattle.std.specs.Prelude.{Result, Ok, Err, Some}
use Rattle.fields.specs.Reading.{Got, got, bad, part}
use Rattle.fields.specs.Runs.{Run, did, refused, outcome, run_of}
use Rattle.fields.specs.declared.Breach.{Breach}
use Rattle.fields.proofs.Runs.{Filled, ran, failed, run_answer}
use Rattle.schema.specs.Schema.{Node, schema_of}
use Rattle.policies.specs.Policies.{Rule, Policy, Head as PolicyHead, rules, head, policy, onward, policies_from, policies}
use Rattle.policies.specs.Pass.{in_force}
use Rattle.policies.specs.Widths.{policy_width}
use Rattle.policies.specs.Rows.{no_policies, note_policy, note_policies, rows_of, RowsRoom}
use Rattle.policies.specs.declared.Row.{Row}
use Rattle.policy_reader.specs.Runs.{head_read, Open, note_rules_if, note_in_force, left_of, Ready, left_over, Leaves, Turned}
use Rattle.policy_reader.specs.Answers.{YieldsPolicies}
use Rattle.policy_reader.specs.declared.Head.{Head}
use Rattle.policies.proofs.Part.{rest}
use Rattle.policies.proofs.Rows.{Counted, counted-init, counted-policy}
use Rattle.policies.proofs.Sound.{sound-policy}
use Rattle.policies.proofs.Stands.{head-back, policy-back}
use Rattle.policies.proofs.Within.{policy-within}

-- ---- a head

pub head_bad : (s : List ℕ) {m o : ℕ} → bad m o ≡ head s → bad m o ≡ head_read (head s)
head_bad s e = rw (← e)

pub head_ok : (s : List ℕ) {f l n q : ℕ} → got (record { first = f; last = l; count = n }) q ≡ head s → got (record { first = f; last = l; count = n }) q ≡ head_read (head s)
head_ok s e = rw (← e)

headless : (g : Got PolicyHead) {m o : ℕ} → bad m o ≡ head_read g → g ≡ bad m o
headless (got h p) e = absurd (let z : ◌≡◌ {A = ℕ} 0 1 = cc in omega arith)
headless (bad n o) e = cc

headed : (g : Got PolicyHead) {h : Head} {q : ℕ} → got h q ≡ head_read g → g ≡ got (record { first = h.first; last = h.last; count = h.count }) q
headed (got x p) {h} {q} e =
    let z : h ≡ record { first = x.first; last = x.last; count = x.count } = cc in
    let w : q ≡ p = cc in
    rw (z, w)
headed (bad n o) e = absurd (let z : ◌≡◌ {A = ℕ} 0 1 = cc in omega arith)

-- ---- a head, then its PN

policy-if : (keep : Bool) (h : ℕ) (x : Policy) (t : List Row) → note_rules_if keep h x.body x.rules t ≡ note_policy keep h x t
unfolding note_rules_if note_policy
policy-if true h x t = refl
policy-if false h x t = refl

rules-first : (a b h : ℕ) (r : Got (List Rule)) (f l p : ℕ) (keep : Bool) (t : List Row) → keep ≡ (leb f b && leb a l)
    → run_of (note_rules_if keep h p) r t ≡ run_of (note_in_force a b h) (part r (λ xs q. got (record { first = f; last = l; body = p; rules = xs }) q)) t
unfolding note_in_force in_force part
rules-first a b h (got xs q) f l p keep t e =
    ap (did q)
    (policy-if keep h (record { first = f; last = l; body = p; rules = xs }) t
    ∙ ap (λ (k : Bool). note_policy k h (record { first = f; last = l; body = p; rules = xs }) t) e)
rules-first a b h (bad n o) f l p keep t e = refl

module _ (s : List ℕ) (h : ℕ) where
  there : {x : Got Head} → x ≡ head_read (head (take (length s - h) (drop h s))) → x ≡ head_read (head (drop h s))
  there e = e ∙ ap (λ (b : List ℕ). head_read (head b)) (rest s h)

  module _ (g : List Node) (a b : ℕ) (t : List Row) where
    pub policy_bad : {m o : ℕ} → bad m o ≡ head_read (head (take (length s - h) (drop h s))) → refused m o ≡ run_of (note_in_force a b h) (policy g (drop h s)) t
    unfolding policy part
    policy_bad e = rw (headless (head (drop h s)) (there e))

    pub policy_rules : {x : Head} {q : ℕ} {Y : Run (List Row)} {keep : Bool} → got x q ≡ head_read (head (take (length s - h) (drop h s))) → keep ≡ (leb x.first b && leb a x.last)
        → Y ≡ left_of g (take (length s - h) (drop h s)) keep h x.count 0 q t → Y ≡ run_of (note_in_force a b h) (policy g (drop h s)) t
    unfolding policy part
    policy_rules {x} {q} {keep = keep} e i y =
        rw (headed (head (drop h s)) (there e))
        (y ∙ ap (λ (b : List ℕ). left_of g b keep h x.count 0 q t) (rest s h)
        ∙ rules-first a b h (rules g (drop h s) x.count 0 q) x.first x.last q keep t i)

  -- its PN begin inside
  pub rules_inside : {x : Head} {q : ℕ} → got x q ≡ head_read (head (take (length s - h) (drop h s))) → q ≤ length (take (length s - h) (drop h s))
  rules_inside {x} {q} e =
      let i = head-back (drop h s) (headed (head (drop h s)) (there e)) in
      rw (rest s h) (omega (arith, i.inside, i.next))

-- its stretch ends where the file does
pub stretch_fits : (s : List ℕ) (h : ℕ) → h ≤ length s → length s < 2 ^ 64 → h + length (take (length s - h) (drop h s)) < 2 ^ 64
stretch_fits s h l m = rw (rest s h, length-drop h s) (omega arith)

-- ---- the file

note-more : (a b p : ℕ) (r : Got (List Policy)) (x : Policy) (t : List Row)
    → run_of (note_policies (in_force a b) p) (part r (λ xs q. got (x ∷ xs) q)) t ≡ run_of (note_policies (in_force a b) (p + policy_width x)) r (note_in_force a b p x t)
unfolding note_policies note_in_force part
note-more a b p (got xs q) x t = refl
note-more a b p (bad n o) x t = refl

-- before the first turn
pub file_init : (schema s : List ℕ) (a b : ℕ) (t : List Row) → RowsRoom schema t
    → Leaves (schema_of schema) s a b 0 0 t (run_of (note_policies (in_force a b) 0) (policies (schema_of schema) s) t)
unfolding policies
file_init schema s a b t w = record { upto = omega arith; few = λ n. (counted-init t w.blank).from n (omega arith); left = refl }

module _ (schema s : List ℕ) (a b j p : ℕ) (t : List Row) (w : Ready schema j t) where
  abbrev g : List Node
  g = schema_of schema

  abbrev from : ℕ → Run (List Row)
  from k = run_of (note_policies (in_force a b) p) (policies_from g s k p) t

  pub turn_end : length s ≤ p → did p t ≡ left_over g s a b j p t
  unfolding policies_from note_policies
  turn_end l = go (16 - j)
    where
      go : (k : ℕ) → did p t ≡ run_of (note_policies (in_force a b) p) (policies_from g s k p) t
      go zero = rw (le-ltb p (length s) l)
      go (suc k) = rw (le-ltb p (length s) l)

  pub turn_eight : p < length s → j ≡ 16 → refused 8 p ≡ left_over g s a b j p t
  unfolding policies_from
  turn_eight l e =
      let z : 16 - j ≡ 0 = omega arith in
      rw (z, lt-ltb p (length s) l)

  module _ (l : p < length s) (n : j ≡ 16 → ⊥) where
    here : left_over g s a b j p t ≡ from (suc (15 - j))
    here = ap from (let z : 16 - j ≡ suc (15 - j) = omega (arith, w.upto) in z)

    -- a policy is refused
    module _ {m o : ℕ} (e : refused m o ≡ run_of (note_in_force a b p) (policy g (drop p s)) t) where
      bad-there : policy g (drop p s) ≡ bad m o
      bad-there = failed (note_in_force a b p) (policy g (drop p s)) t e

      pub turn_bad : refused m (p + o) ≡ left_over g s a b j p t
      unfolding policies_from onward part
      turn_bad = rw (here, lt-ltb p (length s) l, bad-there)

      -- it points inside the file
      pub turn_points : p + o ≤ length s
      turn_points =
          let z : o ≤ length (drop p s) = rw bad-there at (policy-within (drop p s) g).end in
          omega (arith, length-drop p s)

    -- or read
    module _ (u : List Row) {q : ℕ} (e : did q u ≡ run_of (note_in_force a b p) (policy g (drop p s)) t) where
      read : Filled (note_in_force a b p) (policy g (drop p s)) t u q
      read = ran (note_in_force a b p) (policy g (drop p s)) t u e

      pub turn_more : Leaves g s a b (j + 1) (p + q) u (left_over g s a b j p t)
      unfolding policies_from onward part note_in_force
      turn_more =
          let x = read.value in
          let v : left_over g s a b j p t ≡ run_of (note_policies (in_force a b) p) (part (policies_from g s (15 - j) (p + q)) (λ xs r. got (x ∷ xs) r)) t =
          rw (here, lt-ltb p (length s) l, read.read) in
          let k : 16 - (j + 1) ≡ 15 - j = omega arith in
          let m : p + q ≡ p + policy_width x = ap (λ (i : ℕ). p + i) (policy-back g (drop p s) read.read).next in
          let c : Counted j 0 t = record { below = λ i z. absurd (omega arith); from = λ i z. w.few i } in
          record {
            upto = omega (arith, w.upto);
            few = λ i.
                rw read.is
                ((counted-policy g j p (in_force a b x) x t (sound-policy (policy-back g (drop p s) read.read).stands) (omega (arith, w.upto)) c).from i (omega arith));
            left =
                rw (k, read.is)
                (ap (λ (i : ℕ). run_of (note_policies (in_force a b) i) (policies_from g s (15 - j) (p + q)) (note_in_force a b p x t)) m
                ∙ sym (note-more a b p (policies_from g s (15 - j) (p + q)) x t)
                ∙ sym v);
          }

      -- it ends inside the file
      pub turn_inside : p + q ≤ length s
      turn_inside =
          let z : q ≤ length (drop p s) = rw read.read at (policy-within (drop p s) g).end in
          omega (arith, length-drop p s)

-- the rows have room for one more policy
pub turn_open : (s : List ℕ) (j : ℕ) (rows : List Row) → Ready s j rows → (j ≡ 16 → ⊥) → Open (length (schema_of s)) 0 rows
turn_open s j rows w n = record { long = w.long; room = λ m l. omega (arith, w.few m, w.upto) }

-- what a turn asks for
pub turn_ready : (s : List ℕ) (rows : List Row) {p : List ℕ} {a b j q : ℕ} {u : List Row} {X : Run (List Row)} → RowsRoom s rows → length u ≡ length rows
    → Leaves (schema_of s) p a b j q u X → Ready s j u
turn_ready s rows w e i = record { upto = i.upto; long = omega (arith, w.long); few = i.few }

-- after a turn
module _ (schema p : List ℕ) (a b j q : ℕ) (t : List Row) {X : Run (List Row)} (i : Leaves (schema_of schema) p a b j q t X) where
  pub file_next : (r : ℕ) (u : List Row) → Turned (schema_of schema) p a b j q t (Ok (Some r)) u → Leaves (schema_of schema) p a b (j + 1) r u X
  file_next r u y = record { upto = y.upto; few = y.few; left = y.left ∙ i.left }

-- ---- the answer and the rows

pub file_yields : (schema s : List ℕ) (a b : ℕ) (t u : List Row) (f : Result ℕ Breach) → RowsRoom schema t → length u ≡ length t
    → outcome f u ≡ run_of (note_policies (in_force a b) 0) (policies (schema_of schema) s) t → YieldsPolicies schema s a b f u
unfolding rows_of
file_yields schema s a b t u f w l e =
    record {
      answer = run_answer (note_policies (in_force a b) 0) (policies (schema_of schema) s) t u f e;
      rows = λ ps q k. noted f ps q (e ∙ ap (λ (g : Got (List Policy)). run_of (note_policies (in_force a b) 0) g t) k);
      long = omega (arith, w.long);
    }
  where
    blank : t ≡ replicate (length u) no_policies
    blank = w.blank ∙ ap (λ (m : ℕ). replicate m no_policies) (sym l)

    noted : (f : Result ℕ Breach) (ps : List Policy) (q : ℕ) → outcome f u ≡ did q (note_policies (in_force a b) 0 ps t) → u ≡ rows_of (in_force a b) (length u) ps
    noted (Ok p) ps q z = let v : u ≡ note_policies (in_force a b) 0 ps t = cc in v ∙ ap (note_policies (in_force a b) 0 ps) blank
    noted (Err b) ps q z = absurd (let y : ◌≡◌ {A = ℕ} 0 1 = cc in omega arith)
