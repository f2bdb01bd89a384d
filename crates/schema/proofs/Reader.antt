-- A node's successors as a set and how many, and its ranks.
-- Rests on the laws of what is made of `many`, in Made.
use mathlib.Core.Path.{◌≡◌, refl, ap, sym}
use mathlib.Core.Bool.{Bool, true, false, cond, ◌&&◌}
use mathlib.Core.List.{List}
use Prim.Native.Nat.{ℕ, ◌+◌, ◌-◌, ◌≤◌, ◌<◌}
use native.Mathlib.Omega.{arith}
use borrow.Author.Tests.{lt-ltb, le-ltb, eq-eqb, ne_eqb}
use lib.Dec.{ltb, eqb}
use Rattle.fields.specs.Reading.{Got, got, bad, part, whole, field, many}
use Rattle.fields.proofs.Back.{many-length}
use Rattle.numbers.specs.Bits.{with, with_all}
use Rattle.schema.specs.Schema.{successors}
use Rattle.schema.specs.Table.{made, linked, AtMost}
use Rattle.schema.specs.declared.Successors.{Successors}
use Rattle.schema.proofs.Made.{made_exit, made_refused, made_step}

and_none : (t : Bool) → (t && false) ≡ false
and_none true = refl
and_none false = refl

-- the loop over them: m is the set so far
abbrev pub links_from : ℕ → ℕ → List ℕ → Successors
links_from m c xs = record { set = with_all m xs; count = c }

-- the first j of c are read, the last one is above
abbrev pub LinksLeft : List ℕ → ℕ → ℕ → ℕ → ℕ → ℕ → ℕ → ℕ → ℕ → Type 0
LinksLeft s count own c from m above j at = made (links_from m c) (successors s count above (c - j) at) ≡ made linked (successors s count own c from)

pub successors_init : (s : List ℕ) (count own c p : ℕ) → LinksLeft s count own c p 0 own 0 p
unfolding successors
successors_init s count own c p = let z : c - 0 ≡ c = omega arith in rw z (go (many step next c own p) refl)
  where
    step : ℕ → ℕ → Got ℕ
    step above p = field 1 5 (λ x. ltb above x && ltb x count) s p got

    next : ℕ → ℕ → ℕ
    next above x = x

    go : (g : Got (List ℕ)) → many step next c own p ≡ g → made (links_from 0 c) g ≡ made linked g
    go (got xs q) e = ap (λ (n : ℕ). got (record { set = with_all 0 xs; count = n }) q) (sym (many-length step next c own p e))
    go (bad n o) e = refl

module _ (s : List ℕ) (count own c from m above j p : ℕ) (i : LinksLeft s count own c from m above j p) where
  refused : {n o : ℕ} → j < c → field 1 5 (λ x. ltb above x && ltb x count) s p got ≡ bad n o → bad n o ≡ made linked (successors s count own c from)
  unfolding successors
  refused h e = made_refused _ _ (links_from m c) (c - j) above p i (omega arith) e

  pub successors_cut : {n o : ℕ} → j < c → bad n o ≡ whole 1 s p → bad n o ≡ made linked (successors s count own c from)
  unfolding field part
  successors_cut h e = refused h (rw (← e))

  module _ {v q : ℕ} (h : j < c) (e : got v q ≡ whole 1 s p) where
    pub successors_low : v ≤ above → bad 5 p ≡ made linked (successors s count own c from)
    unfolding field part
    successors_low a = refused h (rw (← e, le-ltb above v a))

    pub successors_high : count ≤ v → bad 5 p ≡ made linked (successors s count own c from)
    unfolding field part
    successors_high a = refused h (rw (← e, le-ltb v count a, and_none (ltb above v)))

  pub successors_step : {v q y : ℕ} → j < c → got v q ≡ whole 1 s p → above < v → v < count → y ≡ with m v
      → LinksLeft s count own c from y v (j + 1) q
  unfolding successors field part with_all
  successors_step {v} {q} {y} h e a b z =
      let f : field 1 5 (λ x. ltb above x && ltb x count) s p got ≡ got v q = rw (← e, lt-ltb above v a, lt-ltb v count b) in
      let k : c - j - 1 ≡ c - (j + 1) = omega arith in
      rw (z, ← k) (made_step (λ above p. field 1 5 (λ x. ltb above x && ltb x count) s p got) (λ _ x. x) (links_from m c) (links_from (with m v) c) (c - j) above p i (omega arith) f (λ xs. refl))

  pub successors_exit : c ≤ j → got (record { set = m; count = c }) p ≡ made linked (successors s count own c from)
  unfolding successors with_all
  successors_exit h = made_exit _ _ (links_from m c) (c - j) above p i (omega arith)

-- ---- its ranks

pub ranks_one : {kind count : ℕ} → kind ≡ 1 → count ≤ 8 → AtMost 8 (cond (eqb kind 1) count 0) count
ranks_one {kind} e h = rw (eq-eqb kind 1 e) (record { is = refl; most = h })

pub ranks_none : (kind count : ℕ) → (kind ≡ 1 → ⊥) → AtMost 8 (cond (eqb kind 1) count 0) 0
ranks_none kind count e = rw (ne_eqb kind 1 e) (record { is = refl; most = omega arith })
