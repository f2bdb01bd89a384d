-- A record's line, and the lines of the records left: with these put from here, the buffer is what it shall be.
-- Rests on the laws of `put`, of a PS record and of the calls' outcomes.
use mathlib.Core.Path.{◌≡◌, refl, ap, sym, subst, ◌∙◌}
use mathlib.Core.Bool.{Bool, true, false, cond}
use mathlib.Core.List.{List, [], ◌++◌}
use mathlib.Core.Option.{Option, none, some}
use Prim.Native.Nat.{ℕ, zero, suc, ◌+◌, ◌*◌, ◌-◌, ◌/◌, ◌≤◌, ◌<◌}
use native.Mathlib.Omega.{arith}
use lib.ListN.{length, take, drop, replicate, length-append, length-drop}
use lib.Seq.{length-take-le}
use lib.Dec.{T, leb, leb→le}
use borrow.Author.Tests.{lt-ltb, le-ltb}
use Rattle.fields.specs.Reading.{got, bad}
use Rattle.fields.specs.Writing.{put}
use Rattle.std.specs.declared.ops.ControlFlow.TheVariants.{Continue, Break}
use Rattle.fields.specs.Answers.{Answer, success, refusal}
use Rattle.fields.specs.Outcomes.{Outcome, Did, refused, leaving, placed}
use Rattle.fields.proofs.Bytes.{put-none, put-put}
use Rattle.schema.specs.Schema.{Node}
use Rattle.instances.specs.Instance.{Entry}
use Rattle.instances.specs.File.{encode, most_bytes}
use Rattle.model.specs.Reconciling.{reconciled}
use Rattle.calls.specs.Calls.{given, reconciling}
use Rattle.calls.specs.Program.{line_in, pass_line, line_for, ends, lines_at, last_at}
use Rattle.calls.proofs.Inputs.{inputs-all}
use Rattle.lines.specs.Record.{pass_at}
use Rattle.lines.specs.Line.{line_of, bad_line_of, Laid}
use Rattle.lines.specs.declared.Days.{Days}
use Rattle.lines.proofs.Record.{pass-stops}
use Rattle.passplan.specs.Program.{most_line, most_records, Answered, Printed}

-- ---- a length that was answered is within the buffer, which keeps its own

record Within (out : List ℕ) (o : Outcome) : Type 0 where
  inside : o.answer.value ≤ length o.buffer
  long : length o.buffer ≡ length out

placed-within : (file out : List ℕ) → Within out (placed file out)
unfolding placed
placed-within file out = go (leb (length file) (length out)) refl
  where
    go : (t : Bool) → leb (length file) (length out) ≡ t
        → Within out (cond t (record { answer = success (length file); buffer = file ++ drop (length file) out }) (refused 14 0 0 out))
    go true e =
        let z = length-append file (drop (length file) out) in
        let y = leb→le (length file) (length out) (subst T (sym e) tt) in
        record { inside = omega (arith, z); long = omega (arith, z, y, length-drop (length file) out) }
    go false e = record { inside = omega arith; long = refl }

given-within : (g : List Node) (out : List ℕ) (i : Option (List Entry)) → Within out (given g out i)
unfolding given
given-within g out none = record { inside = omega arith; long = refl }
given-within g out (some i) = placed-within (encode g i) out

reconciling-within : (f p : List ℕ) (a b : ℕ) (out : List ℕ) → Within out (reconciling f p a b out)
unfolding reconciling
reconciling-within f p a b out =
    inputs-all (Within out) (leaving out) (λ n file o i. record { inside = omega arith; long = refl }) f p a b _ λ g q e ps. given-within g out (reconciled g ps)

module _ (f p : List ℕ) (a b : ℕ) (x : List ℕ) {after : List ℕ} where
  module _ {n : ℕ} (d : Did (reconciling f p a b x) (success n) after) where
    pub value_inside : n ≤ length after
    value_inside = omega (arith, ap (λ (y : Answer). y.value) d.answer, ap length d.buffer, (reconciling-within f p a b x).inside)

    value-small : length x ≡ most_bytes → n ≤ most_bytes
    value-small l = omega (arith, value_inside, ap length d.buffer, (reconciling-within f p a b x).long)

    pub value_taken : n ≡ length (take n after)
    value_taken = sym (length-take-le n after value_inside)

    pub ok_fits : (o : List ℕ) (to : ℕ) → length x ≡ most_bytes → to + most_line ≤ length o → to + 64 + 2 * length (take n after) ≤ length o
    ok_fits o to l h = omega (arith, value_taken, value-small l)

    pub ok_laid : (o : List ℕ) (to : ℕ) {c : List ℕ} {e : ℕ} → Laid (64 + 2 * length (take n after)) o to (line_of a b 0 0 0 (take n after)) c e
        → length x ≡ most_bytes → Laid most_line o to (line_in a b (reconciling f p a b x)) c e
    unfolding line_in
    ok_laid o to w l = record { wrote = rw (← d.answer, ← d.buffer) w.wrote; short = omega (arith, w.short, value_taken, value-small l) }

  pub err_laid : {n file q : ℕ} → Did (reconciling f p a b x) (refusal n file q) after → (o : List ℕ) (to : ℕ) {c : List ℕ} {e : ℕ} → Laid 64 o to (line_of a b n file q []) c e
      → Laid most_line o to (line_in a b (reconciling f p a b x)) c e
  unfolding line_in take
  err_laid d o to w = record { wrote = rw (← d.answer) w.wrote; short = omega (arith, w.short) }

-- ---- the line of a record

pub offset_fits : (from : ℕ) (s : List ℕ) (at n : ℕ) {o : ℕ} → bad n o ≡ pass_at s at → from + at + 4 < 18446744073709551616 → from + o < 18446744073709551616
offset_fits from s at n e l = omega (arith, (pass-stops s at (sym e)).upto)

module _ (f p : List ℕ) (from : ℕ) (s : List ℕ) (at : ℕ) where
  pub bad_answered : {m n o : ℕ} → bad n o ≡ pass_at s at → (b : List ℕ) (to : ℕ) {c : List ℕ} {r : ℕ} → Laid 64 b to (bad_line_of m (from + o)) c r → m ≡ n → Answered f p from s at b to c (Break r)
  unfolding line_for ends
  bad_answered e b to w h = let z = sym e in record { laid = rw (z, ← h) (record { wrote = w.wrote; short = omega (arith, w.short) }); last = rw z refl }

  pub good_answered : {x : Days} {q : ℕ} → got x q ≡ pass_at s at → (b : List ℕ) (to : ℕ) {c : List ℕ} {r : ℕ}
      → Laid most_line b to (line_in x.a x.b (reconciling f p x.a x.b (replicate most_bytes 0))) c r → Answered f p from s at b to c (Continue r)
  unfolding line_for ends pass_line
  good_answered e b to w = let z = sym e in record { laid = rw z w; last = rw z refl }

-- ---- the lines of the records left

-- how many records there may be from a place on
abbrev left : ℕ → ℕ
left at = most_records - at / 6

-- those of the records from `at` on are still to be put, from `to` on
pub record Printing (f p : List ℕ) (from : ℕ) (s b₀ b : List ℕ) (at to : ℕ) : Type 0 where
  pub same : put b to (lines_at f p from s (left at) at) ≡ put b₀ 0 (lines_at f p from s most_records 0)
  pub count : to + length (lines_at f p from s (left at) at) ≡ length (lines_at f p from s most_records 0)
  pub last : last_at s (left at) at ≡ last_at s most_records 0
  pub room : to + most_line * left at ≤ most_line * most_records
  pub long : length b ≡ length b₀
  pub place : at + 6 * left at ≡ 6 * most_records

pub printing_init : (f p : List ℕ) (from : ℕ) (s b : List ℕ) → Printing f p from s b b 0 0
printing_init f p from s b = record { same = refl; count = omega arith; last = refl; room = omega arith; long = refl; place = refl }

put-long : (b xs : List ℕ) (at : ℕ) → at + length xs ≤ length b → length (put b at xs) ≡ length b
unfolding put
put-long b xs at h =
    let k = at + length xs in
    omega (
      arith,
      length-append (take at b ++ xs) (drop k b),
      length-append (take at b) xs,
      length-take-le at b (omega arith),
      length-drop k b,
    )

one_less : (k : ℕ) → suc k - 1 ≡ k
one_less k = omega arith

lines-here : (f p : List ℕ) (from : ℕ) (s : List ℕ) (k at : ℕ) → 0 < k → at < length s
    → lines_at f p from s k at ≡ line_for f p from (pass_at s at) ++ cond (ends (pass_at s at)) [] (lines_at f p from s (k - 1) (at + 6))
unfolding lines_at
lines-here f p from s zero at h l = absurd (omega arith)
lines-here f p from s (suc k) at h l = rw (lt-ltb at (length s) l, one_less k) refl

last-here : (s : List ℕ) (k at : ℕ) → 0 < k → at < length s → last_at s k at ≡ cond (ends (pass_at s at)) true (last_at s (k - 1) (at + 6))
unfolding last_at
last-here s zero at h l = absurd (omega arith)
last-here s (suc k) at h l = rw (lt-ltb at (length s) l, one_less k) refl

lines_none : (f p : List ℕ) (from : ℕ) (s : List ℕ) (k at : ℕ) → length s ≤ at → lines_at f p from s k at ≡ []
unfolding lines_at
lines_none f p from s zero at l = refl
lines_none f p from s (suc k) at l = rw (le-ltb at (length s) l) refl

last_none : (s : List ℕ) (k at : ℕ) → length s ≤ at → last_at s k at ≡ false
unfolding last_at
last_none s zero at l = refl
last_none s (suc k) at l = rw (le-ltb at (length s) l) refl

left-next : (at : ℕ) → left (at + 6) ≡ left at - 1
left-next at = omega arith

module _ (f p : List ℕ) (from : ℕ) (s b₀ b : List ℕ) (at to : ℕ) (w : Printing f p from s b₀ b at to) where
  pub printing_exit : length s ≤ at → Printed f p from s b₀ b (Continue to)
  printing_exit h =
      let e = lines_none f p from s (left at) at h in
      record {
        laid = record {
          wrote = record { holds = sym (put-none b to) ∙ ap (put b to) (sym e) ∙ w.same; next = omega (arith, w.count, ap length e) };
          short = omega (arith, w.room);
        };
        last = sym (last_none s (left at) at h) ∙ w.last;
      }

  module _ (l : at < length s) (m : length s ≤ 6 * most_records) where
    some-left : 0 < left at
    some-left = omega (arith, w.place)

    pub printing_room : most_line * most_records ≤ length b₀ → to + most_line ≤ length b
    printing_room h = omega (arith, some-left, w.room, w.long)

    pub printing_break : {c : List ℕ} {r : ℕ} → Answered f p from s at b to c (Break r) → most_line * most_records ≤ length b₀ → Printed f p from s b₀ c (Break r)
    printing_break d h =
        let t = sym d.last in
        let z : lines_at f p from s (left at) at ≡ line_for f p from (pass_at s at) ++ [] = lines-here f p from s (left at) at some-left l ∙ rw t refl in
        let y : last_at s (left at) at ≡ true = last-here s (left at) at some-left l ∙ rw t refl in
        record {
          laid = record {
            wrote = record {
              holds =
                  d.laid.wrote.holds
                  ∙ sym (put-none (put b to (line_for f p from (pass_at s at))) (to + length (line_for f p from (pass_at s at))))
                  ∙ put-put b (line_for f p from (pass_at s at)) [] to (omega (arith, printing_room h))
                  ∙ ap (put b to) (sym z)
                  ∙ w.same;
              next = omega (arith, w.count, ap length z, length-append (line_for f p from (pass_at s at)) [], d.laid.wrote.next);
            };
            short = omega (arith, w.room, some-left, d.laid.short);
          };
          last = sym y ∙ w.last;
        }

    pub printing_step : {c : List ℕ} {r : ℕ} → Answered f p from s at b to c (Continue r) → most_line * most_records ≤ length b₀ → Printing f p from s b₀ c (at + 6) r
    printing_step d h =
        let t = sym d.last in
        let line = line_for f p from (pass_at s at) in
        let rest = lines_at f p from s (left at - 1) (at + 6) in
        let z : lines_at f p from s (left at) at ≡ line ++ rest = lines-here f p from s (left at) at some-left l ∙ rw t refl in
        let y : last_at s (left at) at ≡ last_at s (left at - 1) (at + 6) = last-here s (left at) at some-left l ∙ rw t refl in
        let n = left-next at in
        record {
          same =
              rw (n, d.laid.wrote.holds, d.laid.wrote.next)
              (put-put b line rest to (omega (arith, printing_room h)) ∙ ap (put b to) (sym z) ∙ w.same);
          count = rw n (omega (arith, w.count, ap length z, length-append line rest, d.laid.wrote.next));
          last = rw n (sym y ∙ w.last);
          room = omega (arith, n, some-left, w.room, d.laid.short);
          long = ap length d.laid.wrote.holds ∙ put-long b line to (omega (arith, printing_room h, d.laid.short, d.laid.wrote.next)) ∙ w.long;
          place = omega (arith, n, w.place, some-left);
        }

-- those of the last record
module _ (f p : List ℕ) (from : ℕ) (s b₀ b : List ℕ) (at to : ℕ) (w : Printing f p from s b₀ b at to) where
  pub printing_last : at < length s → length s ≤ 6 * most_records → {c : List ℕ} {r : ℕ} → Answered f p from s at b to c (Continue r) → most_line * most_records ≤ length b₀
      → length s - at ≤ 6 → Printed f p from s b₀ c (Continue r)
  printing_last l m {c} {r} d h k =
      printing_exit f p from s b₀ c (at + 6) r (printing_step f p from s b₀ b at to w l m d h) (omega arith)
