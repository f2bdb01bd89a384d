-- 1,283 bytes are enough for any instance, so passplan prints no 14.
-- Rests on the length of what a plan's instance is written to, on the numbers that readers refuse with, and on a line's words.
use mathlib.Core.Path.{◌≡◌, refl, ap, sym, subst, ◌∙◌}
use mathlib.Core.Bool.{Bool, true, false, cond}
use mathlib.Core.List.{List, []}
use mathlib.Core.Option.{Option, none, some}
use Prim.Native.Nat.{ℕ, ◌≤◌}
use native.Mathlib.Omega.{arith}
use borrow.Author.Tests.{le-leb}
use lib.ListN.{length, get_or, replicate, length-replicate}
use Rattle.fields.specs.Outcomes.{Outcome, leaving, placed}
use Rattle.fields.proofs.Refusals.{unlike}
use Rattle.fields.proofs.Bytes.{Bytes}
use Rattle.decimals.specs.Decimal.{decimal}
use Rattle.decimals.proofs.ReadBack.{number_of, decimal-back}
use Rattle.lines.proofs.ReadBack.{words_of}
use Rattle.lines.proofs.RoundTrip.{line-back}
use Rattle.schema.specs.Schema.{Node}
use Rattle.schema.proofs.Sound.{Sound}
use Rattle.policies.specs.Policies.{Policy}
use Rattle.instances.specs.Instance.{Entry}
use Rattle.instances.specs.File.{encode, most_bytes}
use Rattle.instances.specs.Plan.{planned}
use Rattle.instances.proofs.Planned.{planned-longest}
use Rattle.model.specs.Reconciling.{reconcile, reconciled, can, plan, rules_of}
use Rattle.calls.specs.Calls.{given, reconciling}
use Rattle.calls.specs.Program.{line_in, pass_line}
use Rattle.calls.proofs.Accepted.{sound-read}
use Rattle.calls.proofs.Inputs.{inputs-all}

most-planned : (g : List Node) → Sound g → (ps : List Policy) (o : Option (List Entry)) → reconciled g ps ≡ o → (i : List Entry) → o ≡ some i → length (encode g i) ≤ most_bytes
unfolding reconciled reconcile
most-planned g sound ps o e i h = go (can g (rules_of g ps) 0) (e ∙ h)
  where
    go : (b : Bool) → cond b (some (planned g (plan g (rules_of g ps)))) none ≡ some i → length (encode g i) ≤ most_bytes
    go true q =
        let z : planned g (plan g (rules_of g ps)) ≡ i = cc in
        subst (λ (j : List Entry). length (encode g j) ≤ most_bytes) z (planned-longest g sound (plan g (rules_of g ps)))
    go false q = absurd (let z : ◌≡◌ {A = ℕ} 0 1 = cc in omega arith)

given-not : (g : List Node) → Sound g → (ps : List Policy) (out : List ℕ) → most_bytes ≤ length out → (given g out (reconciled g ps)).answer.number ≡ 14 → ⊥
unfolding given placed
given-not g s ps out h e = go (reconciled g ps) refl e
  where
    go : (o : Option (List Entry)) → reconciled g ps ≡ o → (given g out o).answer.number ≡ 14 → ⊥
    go none q z = omega arith
    go (some i) q z =
        let l = most-planned g s ps (some i) q i refl in
        let w = rw (le-leb (length (encode g i)) (length out) (omega arith)) at z in
        omega arith

-- whatever the files and the pass are
pub never-14 : (f p : List ℕ) (a b : ℕ) (out : List ℕ) → Bytes f → most_bytes ≤ length out → (reconciling f p a b out).answer.number ≡ 14 → ⊥
unfolding reconciling
never-14 f p a b out y h =
    inputs-all (λ (o : Outcome). o.answer.number ≡ 14 → ⊥) (leaving out) (λ n file o i e. unlike 14 refl i e) f p a b _
    λ g q s ps. given-not g (sound-read f y s) ps out h

-- the number is a line's third word
pub prints-no-14 : (f p : List ℕ) (a b : ℕ) → Bytes f → get_or (words_of (pass_line f p a b)) 2 [] ≡ decimal 14 → ⊥
unfolding pass_line line_in
prints-no-14 f p a b y e =
    let out : List ℕ = replicate most_bytes 0 in
    let o = (reconciling f p a b out).answer in
    let z = ap (λ (ws : List (List ℕ)). get_or ws 2 []) (line-back a b o.number o.file o.offset _) in
    never-14 f p a b out y (omega (arith, length-replicate {A = ℕ} most_bytes 0)) (sym (decimal-back o.number) ∙ ap number_of (sym z ∙ e) ∙ decimal-back 14)
