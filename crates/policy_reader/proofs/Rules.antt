-- A PN as the code reads it, and the loops over those of a policy: what is left to read and to note from here equals the whole.
-- Rests on the definitions of `rule`, `rules` and `note_rules`, on Body, and on Stands, Within and Rows: a PN ends where its width says, inside, and its row has room.
use mathlib.Core.Path.{◌≡◌, refl, ap, sym, subst, ◌∙◌}
use mathlib.Core.Bool.{Bool, true, false, cond, ◌&&◌, ◌||◌}
use mathlib.Core.List.{List, [], ◌∷◌}
use Prim.Native.Nat.{ℕ, suc, ◌+◌, ◌-◌, ◌≤◌, ◌<◌}
use native.Mathlib.Omega.{arith}
use native.Mathlib.Nat.{zero-add}
use borrow.Author.Tests.{le-leb, lt-leb, lt-ltb, le-ltb, eq-eqb}
use lib.ListN.{length, get_or, set, take, drop, length-drop}
use lib.Dec.{leb, ltb, eqb}
use lib.Seq.{drop-drop}
use Rattle.fields.specs.Reading.{Got, got, bad, part, be, whole, field, mark, many}
use Rattle.fields.specs.Answers.{end_of}
use Rattle.fields.specs.Runs.{Run, did, refused, run_of}
use Rattle.fields.proofs.Reading.{stepped, stopped, whole_got}
use Rattle.fields.proofs.Back.{be1}
use Rattle.fields.proofs.Tests.{and-true}
use Rattle.schema.specs.Schema.{Node, node_at, schema_of}
use Rattle.schema.specs.Table.{layout_at, Tabled}
use Rattle.schema.specs.declared.Layout.{Layout}
use Rattle.policies.specs.Policies.{Rule, PN, rule_of, rule, rules}
use Rattle.policies.specs.Widths.{rule_width}
use Rattle.policies.specs.Rows.{no_policies, note, note_at, note_rules}
use Rattle.std.proofs.lemmas.List.{get_or_default}
use Rattle.policies.specs.declared.Row.{Row}
use Rattle.policy_reader.specs.Body.{masks_fit, is_whole, is_good, is_next, Shape, Shapes}
use Rattle.policy_reader.specs.Runs.{rule_read, Room, Open, note_if, note_rules_if, left_of, InRow, RowEnd, none, more, Taken}
use Rattle.policies.proofs.Nodes.{nodes-few}
use Rattle.policies.proofs.Part.{rest}
use Rattle.policies.proofs.Rows.{note-length, note-other}
use Rattle.policies.proofs.Stands.{rule-of-back, rule-back}
use Rattle.policies.proofs.Within.{pn-within}
use Rattle.policy_reader.proofs.Body.{whole-inside, shape_of, good-read, next-back, next-left, shapes-of}

-- ---- one PN

module _ (schema s : List ℕ) (low p : ℕ) where
  pub rule_bad : {m o : ℕ} → bad m o ≡ rule (schema_of schema) s low p → bad m o ≡ rule_read (rule (schema_of schema) s low p)
  rule_bad e = rw (← e)

  module _ {a v b : ℕ} (h : got tt a ≡ end_of (mark PN s p)) (k : got v b ≡ whole 1 s a) where
    opened : rule (schema_of schema) s low p ≡ cond (leb low v && ltb v (length (schema_of schema))) (rule_of s (node_at (schema_of schema) v) v b) (bad 10 a)
    unfolding rule part field
    opened = rw ((stepped (mark PN s p) h).1, ← k)

    pub rule_low : v < low → bad 10 a ≡ rule_read (rule (schema_of schema) s low p)
    rule_low x = rw (opened, lt-leb low v x)

    module _ {count : ℕ} (w : count ≡ length (schema_of schema)) (x : low ≤ v) where
      pub rule_high : count ≤ v → bad 10 a ≡ rule_read (rule (schema_of schema) s low p)
      rule_high y = let z : length (schema_of schema) ≤ v = omega (arith, w) in rw (opened, le-leb low v x, le-ltb v (length (schema_of schema)) z)

      module _ (y : v < count) where
        below : rule (schema_of schema) s low p ≡ rule_of s (node_at (schema_of schema) v) v b
        below = let z : v < length (schema_of schema) = omega (arith, w) in rw (opened, le-leb low v x, lt-ltb v (length (schema_of schema)) z)

        -- by a schema z of the same bytes
        read_as : {z : List ℕ} {x : Got Unit} → x ≡ end_of (rule_of s (node_at (schema_of z) v) v b) → z ≡ schema → x ≡ end_of (rule_of s (node_at (schema_of schema) v) v b)
        read_as {z} {x} u i = subst (λ (y : List ℕ). x ≡ end_of (rule_of s (node_at (schema_of y) v) v b)) i u

        pub rule_refused : {m o : ℕ} {z : List ℕ} → bad m o ≡ end_of (rule_of s (node_at (schema_of z) v) v b) → z ≡ schema → bad m o ≡ rule_read (rule (schema_of schema) s low p)
        rule_refused u i = rw (below, stopped (rule_of s (node_at (schema_of schema) v) v b) (read_as u i))

        pub rule_named : {q : ℕ} {z : List ℕ} → got tt q ≡ end_of (rule_of s (node_at (schema_of z) v) v b) → z ≡ schema → got v q ≡ rule_read (rule (schema_of schema) s low p)
        rule_named {q} u i =
            let l = stepped (rule_of s (node_at (schema_of schema) v) v b) (read_as u i) in
            let n : v ≡ l.0.node = sym (rule-of-back s (node_at (schema_of schema) v) v b l.1).node in
            rw (below, l.1) (ap (λ (i : ℕ). got i q) n)

-- ---- a PN that was read

-- an answer, back to what was read
record Answered (r : Got Rule) (n q : ℕ) : Type 0 where
  pub what : Rule
  pub read : r ≡ got what q
  pub node : what.node ≡ n

rule-took : (r : Got Rule) {n q : ℕ} → got n q ≡ rule_read r → Answered r n q
rule-took (got x u) e = record { what = x; read = cc; node = cc }
rule-took (bad m o) e = absurd (let z : ◌≡◌ {A = ℕ} 0 1 = cc in omega arith)

rule-none : (r : Got Rule) {m o : ℕ} → bad m o ≡ rule_read r → r ≡ bad m o
rule-none (got x u) e = absurd (let z : ◌≡◌ {A = ℕ} 0 1 = cc in omega arith)
rule-none (bad m o) e = cc

-- ---- a PN that is plainly good

good_whole : (x : Layout) (s : List ℕ) (p : ℕ) → is_good x s p ≡ true → is_whole s x.rule_width p ≡ true
unfolding is_good
good_whole x s p e = (and-true (is_whole s x.rule_width p) (eqb x.masks 0 || masks_fit x s (p + 3)) e).0

module _ (schema : List ℕ) (t : List Layout) (s : List ℕ) (low n p : ℕ) {count : ℕ} (d : Tabled schema t) (c : count ≡ length (schema_of schema))
    (a : low ≤ n) (b : n < count) (i : n ≡ get_or s (p + 2) 0) (l : p ≤ length s) (e : is_good (layout_at t n) s p ≡ true) where
  abbrev x : Layout
  x = layout_at t n

  inside : (x.rule_width ≤ length s - p) × (be 2 s p ≡ be 2 PN 0)
  inside = whole-inside s x.rule_width p (good_whole x s p e)

  three : 3 ≤ x.rule_width
  three = (shape_of schema t n d (omega (arith, c))).least

  marked : got tt (p + 2) ≡ end_of (mark PN s p)
  unfolding mark field part
  marked = rw (whole_got 2 s p (omega (arith, inside.0, three)), eq-eqb (be 2 s p) (be 2 PN 0) inside.1)

  named : got n (p + 2 + 1) ≡ whole 1 s (p + 2)
  named = rw (whole_got 1 s (p + 2) (omega (arith, inside.0, three)), be1 s (p + 2), i)

  body : got tt (p + x.rule_width) ≡ end_of (rule_of s (node_at (schema_of schema) n) n (p + 2 + 1))
  body = let z : p + 2 + 1 ≡ p + 3 = omega arith in rw z (good-read schema t n d (omega (arith, c)) s p e l)

  pub good_rule : got n (p + x.rule_width) ≡ rule_read (rule (schema_of schema) s low p)
  good_rule = rule_named schema s low p marked named c a b body refl

  pub good_end : p + x.rule_width ≤ length s
  good_end = omega (arith, inside.0, three)

pub take_shape : (schema : List ℕ) (t : List Layout) (n : ℕ) {count : ℕ} → Tabled schema t → count ≡ length (schema_of schema) → n < count → Shape (layout_at t n)
take_shape schema t n d c b = shape_of schema t n d (omega (arith, c))

pub take_inside : (schema : List ℕ) (t : List Layout) (n : ℕ) {count : ℕ} → Tabled schema t → count ≡ length (schema_of schema) → n < count → n < length t
take_inside schema t n d c b = omega (arith, c, d.long)

-- ---- the rows

pub if_kept : (keep : Bool) (n o : ℕ) (t : List Row) (d : Row) {x : Row} → x ≡ note o (get_or t n d) → Room t n → keep ≡ true → set t n x ≡ note_if keep n o t
unfolding note_if note_at
if_kept keep n o t d i r e = rw (e, i, get_or_default t n d no_policies r.inside)

pub if_not : (keep : Bool) (n o : ℕ) (t : List Row) → keep ≡ false → t ≡ note_if keep n o t
unfolding note_if
if_not keep n o t e = rw e

pub open-room : (count low : ℕ) (t : List Row) (n : ℕ) → Open count low t → low ≤ n → n < count → Room t n
open-room count low t n w a b = record { inside = omega (arith, w.long); room = w.room n a }

note-if-length : (keep : Bool) (n o : ℕ) (t : List Row) → length (note_if keep n o t) ≡ length t
unfolding note_if
note-if-length true n o t = note-length n o t
note-if-length false n o t = refl

open_next : (keep : Bool) (count low n o : ℕ) (t : List Row) → Open count low t → low ≤ n → Open count (n + 1) (note_if keep n o t)
unfolding note_if
open_next true count low n o t w a =
    record { long = omega (arith, w.long, note-length n o t); room = λ m l. rw (note-other n o t m (λ z. omega arith)) (w.room m (omega arith)) }
open_next false count low n o t w a = record { long = w.long; room = λ m l. w.room m (omega arith) }

note-first : (keep : Bool) (h p : ℕ) (r : Got (List Rule)) (x : Rule) (t : List Row)
    → run_of (note_rules_if keep h p) (part r (λ xs q. got (x ∷ xs) q)) t ≡ run_of (note_rules_if keep h (p + rule_width x)) r (note_if keep x.node (h + p + 3) t)
unfolding note_rules_if note_if note_rules part
note-first true h p (got xs q) x t = refl
note-first false h p (got xs q) x t = refl
note-first true h p (bad n o) x t = refl
note-first false h p (bad n o) x t = refl

none-noted : (keep : Bool) (h p : ℕ) (t : List Row) {X : Run (List Row)} → run_of (note_rules_if keep h p) (got [] p) t ≡ X → did p t ≡ X
unfolding note_rules_if note_rules
none-noted true h p t e = e
none-noted false h p t e = e

-- ---- after a PN that was read

module _ (g : List Node) (s : List ℕ) (low p : ℕ) {n q : ℕ} (e : got n q ≡ rule_read (rule g s low p)) where
  -- it is the first of those that were left
  left-next : (keep : Bool) (d k : ℕ) (t : List Row) → left_of g s keep d k (n + 1) q (note_if keep n (d + p + 3) t) ≡ left_of g s keep d (suc k) low p t
  unfolding rules many part
  left-next keep d k t =
      let x = rule-took (rule g s low p) e in
      let u = (rule-back g s low p x.read).next in
      rw x.read
      (ap (λ (z : ℕ). run_of (note_rules_if keep d z) (many (rule g s) (λ _ x. x.node + 1) k (n + 1) q) (note_if keep n (d + p + 3) t)) u
      ∙ ap (λ (z : ℕ). run_of (note_rules_if keep d (p + rule_width x.what)) (many (rule g s) (λ _ x. x.node + 1) k (z + 1) q) (note_if keep z (d + p + 3) t)) (sym x.node)
      ∙ sym (note-first keep d p (many (rule g s) (λ _ x. x.node + 1) k (x.what.node + 1) q) x.what t))

  rule-above : low ≤ n
  rule-above = let w = rule-took (rule g s low p) e in omega (arith, w.node, (rule-back g s low p w.read).low)

  rule-below : n < length g
  rule-below = let w = rule-took (rule g s low p) e in omega (arith, w.node, (rule-back g s low p w.read).stands.below)

  rule-width : p + 3 ≤ q
  unfolding rule_width
  rule-width = let w = rule-took (rule g s low p) e in omega (arith, (rule-back g s low p w.read).next)

  rule_end : p ≤ length s → q ≤ length s
  rule_end i = let w = rule-took (rule g s low p) e in rw w.read at (pn-within s g low p i).end

-- ---- in a row

-- those of the nodes below n were walked over: r is what is left of the policy
pub record Walked (t : List Layout) (s : List ℕ) (keep : Bool) (h from : ℕ) (u₀ : List Row) (count n p : ℕ) (u : List Row) (r : List ℕ) : Type 0 where
  pub taken : Taken t s keep h from u₀ count n p u
  pub left : r ≡ drop p s

pub row_init : (t : List Layout) (s : List ℕ) (keep : Bool) (h from : ℕ) (u : List Row) (count : ℕ) → from ≤ length s → Open count 0 u
    → Walked t s keep h from u count 0 from u (take (length s - from) (drop from s))
row_init t s keep h from u count l w =
    record { taken = record { row = none; most = omega arith; inside = l; same = refl; room = w }; left = rest s from }

module _ (t : List Layout) (s : List ℕ) (keep : Bool) (h from : ℕ) (u₀ : List Row) (count n p : ℕ) (u : List Row) (r : List ℕ)
    (i : Walked t s keep h from u₀ count n p u r) where
  pub row_all : count ≤ n → Taken t s keep h from u₀ count count p u
  row_all l = let z : n ≡ count = omega (arith, i.taken.most) in subst (λ (m : ℕ). Taken t s keep h from u₀ count m p u) z i.taken

  module _ (l : n < count) where
    pub row_room : Room u n
    row_room = open-room count n u n i.taken.room (omega arith) l

    module _ (w : Shapes t count) where
      pub row_shape : Shape (layout_at t n)
      row_shape = w.each n l

      pub row_layout : n < length t
      row_layout = omega (arith, w.long)

      module _ (e : is_next (layout_at t n) r n 0 ≡ true) where
        here : is_next (layout_at t n) s n p ≡ true
        here = sym (ap (λ (b : List ℕ). is_next (layout_at t n) b n 0) i.left ∙ next-left s p (layout_at t n) n) ∙ e

        row_inside : (layout_at t n).rule_width ≤ length s - p
        row_inside = (whole-inside s (layout_at t n).rule_width p (good_whole (layout_at t n) s p (next-back (layout_at t n) s n p here).0)).0

        pub row_part : (layout_at t n).rule_width ≤ length r
        row_part = rw i.left (omega (arith, row_inside, length-drop p s))

        pub row_end : p + (layout_at t n).rule_width ≤ length s
        row_end = omega (arith, row_inside, row_shape.least)

        pub row_offset : p + 3 ≤ length s
        row_offset = omega (arith, row_end, row_shape.least)

        pub row_step : {m : ℕ} {y : List Row} → m ≡ (layout_at t n).rule_width → y ≡ note_if keep n (h + p + 3) u
            → Walked t s keep h from u₀ count (n + 1) (p + m) y (take (length r - m) (drop m r))
        row_step {m} j o = rw (j, o)
            (record {
              taken = record {
                row = more i.taken.row here;
                most = omega arith;
                inside = row_end;
                same = note-if-length keep n (h + p + 3) u ∙ i.taken.same;
                room = open_next keep count n n (h + p + 3) u i.taken.room (omega arith);
              };
              left = rest r (layout_at t n).rule_width ∙ ap (drop (layout_at t n).rule_width) i.left ∙ drop-drop (layout_at t n).rule_width p s;
            })

-- what is left after those equals what was left before
module _ (schema : List ℕ) (t : List Layout) (s : List ℕ) {count : ℕ} (x : Tabled schema t) (c : count ≡ length (schema_of schema)) where
  row_named : (n p : ℕ) → n < count → is_next (layout_at t n) s n p ≡ true → got n (p + (layout_at t n).rule_width) ≡ rule_read (rule (schema_of schema) s n p)
  row_named n p b e =
      let d = next-back (layout_at t n) s n p e in
      let i = (whole-inside s (layout_at t n).rule_width p (good_whole (layout_at t n) s p d.0)).0 in
      let k : p ≤ length s = omega (arith, (take_shape schema t n x c b).least) in
      good_rule schema t s n n p x c (omega arith) b (sym d.1) k d.0

  row-left : (keep : Bool) (h from : ℕ) (u₀ : List Row) {n p : ℕ} {u : List Row} → InRow t s keep h from u₀ n p u → n ≤ count
      → (k : ℕ) → left_of (schema_of schema) s keep h k n p u ≡ left_of (schema_of schema) s keep h (n + k) 0 from u₀
  row-left keep h from u₀ none l k = ap (λ (m : ℕ). left_of (schema_of schema) s keep h m 0 from u₀) (sym (zero-add k))
  row-left keep h from u₀ (more {n = n} {p} {u} r d) l k =
      left-next (schema_of schema) s n p (row_named n p (omega arith) d) keep h k u
      ∙ row-left keep h from u₀ r (omega arith) (suc k)
      ∙ ap (λ (m : ℕ). left_of (schema_of schema) s keep h m 0 from u₀) (let z : n + suc k ≡ n + 1 + k = omega arith in z)

-- ---- the rest

-- j of n are read: what is left to read and to note equals the whole; the rows are as long as they were, and open
pub record Noting (g : List Node) (s : List ℕ) (keep : Bool) (h n low₀ p₀ : ℕ) (t₀ : List Row) (count j low p : ℕ) (t : List Row) : Type 0 where
  pub left : left_of g s keep h (n - j) low p t ≡ left_of g s keep h n low₀ p₀ t₀
  pub same : length t ≡ length t₀
  pub inside : p ≤ length s
  pub room : Open count low t

pub rest_init : (g : List Node) (s : List ℕ) (keep : Bool) (h count n low p : ℕ) (t : List Row) → p ≤ length s → Open count low t
    → Noting g s keep h n low p t count 0 low p t
rest_init g s keep h count n low p t l w =
    let z : n - 0 ≡ n = omega arith in
    record { left = ap (λ (i : ℕ). left_of g s keep h i low p t) z; same = refl; inside = l; room = w }

module _ (schema s : List ℕ) (keep : Bool) (h n low₀ p₀ : ℕ) (t₀ : List Row) (count j low p : ℕ) (t : List Row)
    (i : Noting (schema_of schema) s keep h n low₀ p₀ t₀ count j low p t) where
  abbrev g : List Node
  g = schema_of schema

  pub rest_exit : n ≤ j → did p t ≡ left_of (schema_of schema) s keep h n low₀ p₀ t₀
  unfolding rules many
  rest_exit z = let e : n - j ≡ 0 = omega arith in none-noted keep h p t (rw e at i.left)

  module _ (a : j < n) where
    more_left : suc (n - (j + 1)) ≡ n - j
    more_left = omega arith

    pub rest_bad : {m o : ℕ} → bad m o ≡ rule_read (rule g s low p) → refused m o ≡ left_of (schema_of schema) s keep h n low₀ p₀ t₀
    unfolding rules many part
    rest_bad x = rw (sym more_left, rule-none (rule g s low p) x) at i.left

    module _ {v q : ℕ} (x : got v q ≡ rule_read (rule g s low p)) where
      pub rest_step : {y : List Row} → y ≡ note_if keep v (h + p + 3) t → Noting g s keep h n low₀ p₀ t₀ count (j + 1) (v + 1) q y
      rest_step o =
          rw o
          (record {
            left = left-next g s low p x keep h (n - (j + 1)) t ∙ ap (λ (b : ℕ). left_of g s keep h b low p t) more_left ∙ i.left;
            same = note-if-length keep v (h + p + 3) t ∙ i.same;
            inside = rule_end g s low p x i.inside;
            room = open_next keep count low v (h + p + 3) t i.room (rule-above g s low p x);
          })

      pub rest_room : count ≡ length (schema_of schema) → Room t v
      rest_room c = open-room count low t v i.room (rule-above g s low p x) (omega (arith, c, rule-below g s low p x))

      pub rest_offset : p + 3 ≤ length s
      rest_offset = omega (arith, rule-width g s low p x, rule_end g s low p x i.inside)

      pub rest_small : v < 64
      rest_small = omega (arith, rule-below g s low p x, nodes-few schema)

-- ---- all of them

pub shapes_end : (schema : List ℕ) (t : List Layout) {count k r : ℕ} → Tabled schema t → count ≡ length (schema_of schema) → RowEnd k count r → Shapes t r
shapes_end schema t d c e =
    let w = shapes-of schema t d in
    record { few = omega (arith, c, w.few, e.most); long = omega (arith, c, w.long, e.most); each = λ n l. w.each n (omega (arith, c, e.most)) }

pub open_end : (count low : ℕ) (t : List Row) {k r : ℕ} → Open count low t → RowEnd k count r → Open r low t
open_end count low t w e = record { long = omega (arith, w.long, e.most); room = w.room }

module _ (schema : List ℕ) (t : List Layout) (s : List ℕ) (keep : Bool) (h from : ℕ) (u₀ : List Row) (count n p : ℕ) (u : List Row) {k r : ℕ} (x : Tabled schema t)
    (c : count ≡ length (schema_of schema)) (d : RowEnd k count r) (i : Taken t s keep h from u₀ r n p u) where
  pub row_open : Open count 0 u₀ → Open count n u
  row_open w = record { long = omega (arith, w.long, i.same); room = i.room.room }

  pub rules_row : {Y : Run (List Row)} → Y ≡ left_of (schema_of schema) s keep h (k - n) n p u → Y ≡ left_of (schema_of schema) s keep h k 0 from u₀
  rules_row {Y} y =
      y ∙ row-left schema t s x c keep h from u₀ i.row (omega (arith, i.most, d.most)) (k - n)
      ∙ ap (λ (m : ℕ). left_of (schema_of schema) s keep h m 0 from u₀) (let z : n + (k - n) ≡ k = omega (arith, i.most, d.few) in z)
