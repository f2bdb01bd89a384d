-- A number's digits stored from the last to the first: those of what is left of it are still to be put in front.
-- Rests on the laws of decimal digits, and on those of `put` of the crate fields.
use mathlib.Core.Path.{◌≡◌, refl, ap, sym, ◌∙◌}
use mathlib.Core.List.{List}
use Prim.Native.Nat.{ℕ, ◌+◌, ◌-◌, ◌/◌, ◌%◌, ◌≤◌, ◌<◌}
use native.Mathlib.Omega.{arith}
use lib.ListN.{length, set, length-set}
use Rattle.fields.specs.Writing.{put, Wrote}
use Rattle.fields.proofs.Bytes.{put_one}
use Rattle.fields.proofs.Putting.{put_last}
use Rattle.decimals.specs.Decimal.{decimal}
use Rattle.decimals.proofs.Decimal.{decimal-one, decimal-more, length-one, length_more, decimal-some}

-- the digits of rest are still to be stored, the last of them at this offset
pub record Filling (b₀ : List ℕ) (end x : ℕ) (b : List ℕ) (rest at : ℕ) : Type 0 where
  pub from : ℕ
  pub same : put b from (decimal rest) ≡ put b₀ from (decimal x)
  pub offset : at + 1 ≡ from + length (decimal rest)
  pub ends : end ≡ from + length (decimal x)
  pub room : at < length b
  pub long : length b ≡ length b₀

pub fill-some : (end x : ℕ) → length (decimal x) ≤ end → 1 ≤ end
fill-some end x h = omega (arith, decimal-some x)

pub fill-init : (b : List ℕ) (end x : ℕ) → length (decimal x) ≤ end → end ≤ length b → Filling b end x b x (end - 1)
fill-init b end x h l =
    let s = decimal-some x in
    record { from = end - length (decimal x); same = refl; offset = omega arith; ends = omega arith; room = omega arith; long = refl }

module _ (b₀ : List ℕ) (end x : ℕ) (b : List ℕ) (rest at : ℕ) (w : Filling b₀ end x b rest at) where
  pub fill-inside : at < length b
  fill-inside = w.room

  pub fill-above : 10 ≤ rest → 1 ≤ at
  fill-above h = omega (arith, w.offset, length_more rest h, decimal-some (rest / 10))

  pub fill_step : 10 ≤ rest → Filling b₀ end x (set b at (48 + rest % 10)) (rest / 10) (at - 1)
  fill_step h =
      let n = length_more rest h in
      let z : at ≡ w.from + length (decimal (rest / 10)) = omega (arith, w.offset) in
      record {
        from = w.from;
        same =
            ap (λ (k : ℕ). put (set b k (48 + rest % 10)) w.from (decimal (rest / 10))) z
            ∙ put_last b (decimal (rest / 10)) w.from (48 + rest % 10) (omega (arith, w.room)) ∙ ap (put b w.from) (sym (decimal-more rest h)) ∙ w.same;
        offset = omega (arith, fill-above h);
        ends = w.ends;
        room = simp length-set (omega (arith, w.room));
        long = length-set b at (48 + rest % 10) ∙ w.long;
      }

  pub fill-exit : rest < 10 → Wrote b₀ at (decimal x) (set b at (48 + rest)) end
  fill-exit h =
      let z : at ≡ w.from = omega (arith, w.offset, length-one rest h) in
      record {
        holds = put_one b at (48 + rest) (omega (arith, w.room)) ∙ ap (put b at) (sym (decimal-one rest h)) ∙ ap (λ (k : ℕ). put b k (decimal rest)) z ∙ w.same ∙ ap (λ (k : ℕ). put b₀ k (decimal x)) (sym z);
        next = omega (arith, w.ends);
      }
