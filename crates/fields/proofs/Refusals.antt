-- A file's refusal never has 0, 13 or 14 for its number: so it is in each part, and so in the whole.
-- Rests on the definitions of `part`, `whole`, `field`, `mark`, `many` and `ended`.
use mathlib.Core.Path.{◌≡◌, refl, ap, sym, subst, ◌∙◌}
use mathlib.Core.Bool.{Bool, true, false, cond, ◌&&◌, ◌||◌}
use mathlib.Core.List.{List}
use Prim.Native.Nat.{ℕ, zero, suc, ◌+◌}
use lib.Dec.{leb, ltb, eqb}
use lib.ListN.{length}
use Rattle.fields.proofs.Tests.{never}
use Rattle.fields.specs.Reading.{Got, got, bad, part, be, whole, field, mark, many, ended}

-- 0 is success; 13 and 14 are the reconciler's own
abbrev pub of_file : ℕ → Bool
of_file n = ltb 0 n && (ltb n 13 || ltb 14 n)

-- its number, if it is a refusal
abbrev pub Numbered : {A : Type 0} → Got A → Type 0
Numbered (got a p) = Unit {0}
Numbered (bad n o) = of_file n ≡ true

pub unlike : (m : ℕ) → of_file m ≡ false → {n : ℕ} → of_file n ≡ true → n ≡ m → ⊥
unlike m f h e = never (sym f ∙ ap of_file (sym e) ∙ h)

pub numbered : {A : Type 0} {g : Got A} {n o : ℕ} → Numbered g → g ≡ bad n o → n ≡ 0 → ⊥
numbered h e = unlike 0 refl (subst Numbered e h)

pub cond-numbered : {A : Type 0} (t : Bool) (g h : Got A) → Numbered g → Numbered h → Numbered (cond t g h)
cond-numbered true g h x y = x
cond-numbered false g h x y = y

pub part-numbered : {A B : Type 0} (g : Got A) (k : A → ℕ → Got B) → Numbered g → ((a : A) (p : ℕ) → Numbered (k a p)) → Numbered (part g k)
unfolding part
part-numbered (got a p) k h f = f a p
part-numbered (bad n o) k h f = h

pub whole-numbered : (w : ℕ) (s : List ℕ) (p : ℕ) → Numbered (whole w s p)
unfolding whole
whole-numbered w s p = cond-numbered (leb (p + w) (length s)) (got (be w s p) (p + w)) (bad 2 p) tt refl

pub field-numbered : {B : Type 0} (w n : ℕ) (rule : ℕ → Bool) (s : List ℕ) (p : ℕ) (k : ℕ → ℕ → Got B) → of_file n ≡ true → ((v q : ℕ) → Numbered (k v q))
    → Numbered (field w n rule s p k)
unfolding field
field-numbered w n rule s p k h f = part-numbered (whole w s p) _ (whole-numbered w s p) (λ v q. cond-numbered (rule v) (k v q) (bad n p) (f v q) h)

pub mark-numbered : (m s : List ℕ) (p : ℕ) → Numbered (mark m s p)
unfolding mark
mark-numbered m s p = field-numbered 2 1 (λ v. eqb v (be 2 m 0)) s p got refl (λ v q. tt)

pub many-numbered : {S A : Type 0} (step : S → ℕ → Got A) (next : S → A → S) → ((st : S) (p : ℕ) → Numbered (step st p))
    → (k : ℕ) (st : S) (p : ℕ) → Numbered (many step next k st p)
unfolding many
many-numbered step next h zero st p = tt
many-numbered step next h (suc k) st p =
    part-numbered (step st p) _ (h st p) (λ x p. part-numbered (many step next k (next st x) p) _ (many-numbered step next h k (next st x) p) (λ xs p. tt))

pub ended-numbered : {A : Type 0} (s : List ℕ) (x : A) (p : ℕ) → Numbered (ended s x p)
unfolding ended
ended-numbered s x p = cond-numbered (ltb p (length s)) (bad 7 p) (got x p) refl tt
