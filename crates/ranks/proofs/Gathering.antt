-- The rows of ranks: PN whose ranks are known to be all alike, those that are skipped, and the order that a row for each offset makes.
-- Rests on the laws of a store in a list, on the bytes of a number, and on the definition of the order.
use mathlib.Core.Path.{◌≡◌, refl, ap, sym, subst, ◌∙◌}
use mathlib.Core.Bool.{true, false}
use mathlib.Core.List.{List, [], ◌∷◌}
use Prim.Native.Nat.{ℕ, zero, suc, ◌+◌, ◌-◌, ◌*◌, ◌/◌, ◌%◌, ◌^◌, ◌≤◌, ◌<◌}
use native.Mathlib.Omega.{arith}
use native.Mathlib.Nat.{add-zero}
use native.Mathlib.Decide.{ℕ_discrete}
use borrow.Author.Tests.{eq-eqb, eqb-true}
use lib.Dec.{eqb}
use lib.ListN.{length, get_or, take, drop, set, length-set}
use lib.Seq.{get_or-set_same, get_or-set_other, drop-length}
use Rattle.policies.proofs.Part.{rest}
use mir.Syntax.{w32}
use Rattle.std.specs.declared.option.Option.{Option}
use Rattle.std.specs.declared.option.Option.TheVariants.{None, Some}
use Rattle.std.specs.Option.{MatchOption}
use Rattle.std.specs.List.{AllWithin, HoldsAt}
use Rattle.std.proofs.lemmas.List.{get_or_default}
use Rattle.std.specs.Int.{rotate_right}
use Rattle.std.specs.Int.Bits.{bit_or, or_comm}
use Rattle.std.proofs.lemmas.Nat.{or_shifted}
use Rattle.fields.specs.Reading.{be}
use Rattle.fields.proofs.Bytes.{Bytes, be4}
use Rattle.fields.proofs.Tests.{never}
use Rattle.policies.specs.Rows.{BytesAt}
use Rattle.model.specs.Order.{better_by}
use Rattle.model.specs.Ranks.{better_in}
use Rattle.ranks.specs.Ranks.{RanksGathered, RowFilled, better_at, AllAlike, Skipped}
use Rattle.ranks.proofs.Banning.{below-eight}

-- ---- bytes that are all alike

pub alike_no : (p : List ℕ) (offset : ℕ) → AllAlike p offset false
alike_no p offset = record { told = λ e. never e }

digit : (x y a b : ℕ) → x * 256 + a ≡ y * 256 + b → a < 256 → b < 256 → (x ≡ y) × (a ≡ b)
digit x y a b e h k = (omega arith, omega arith)

-- the last of a number's bytes, and those before it
last : (x n d : ℕ) → x ≡ n * 256 + d → d < 256 → (x / 256 ≡ n) × (x % 256 ≡ d)
last x n d e h = (omega arith, omega arith)

module _ (p : List ℕ) (o : ℕ) (y : Bytes p) where
  -- a number of four bytes that stays so if it is turned by one
  abbrev Turns : ℕ → Type 0
  Turns x = x ≡ x / 256 + x % 256 * 16777216

  four : (i : ℕ) → Turns (be 4 p i) → (get_or p (i + 1) 0 ≡ get_or p i 0) × (get_or p (i + 2) 0 ≡ get_or p i 0) × (get_or p (i + 3) 0 ≡ get_or p i 0)
  four i e =
      let a = get_or p i 0 in
      let b = get_or p (i + 1) 0 in
      let c = get_or p (i + 2) 0 in
      let d = get_or p (i + 3) 0 in
      let q = last (be 4 p i) ((a * 256 + b) * 256 + c) d (be4 p i) (y (i + 3)).fits in
      let m : ((a * 256 + b) * 256 + c) * 256 + d ≡ ((d * 256 + a) * 256 + b) * 256 + c = let f = be4 p i in omega (arith, q.0, q.1) in
      let d3 = digit ((a * 256 + b) * 256 + c) ((d * 256 + a) * 256 + b) d c m (y (i + 3)).fits (y (i + 2)).fits in
      let d2 = digit (a * 256 + b) (d * 256 + a) c b d3.0 (y (i + 2)).fits (y (i + 1)).fits in
      let d1 = digit a d b a d2.0 (y (i + 1)).fits (y i).fits in
      (d1.1, d2.1 ∙ d1.1, d3.1 ∙ d2.1 ∙ d1.1)

  -- a number that is turned by a byte to the right
  turned : (x : ℕ) → x < 4294967296 → rotate_right w32 x 8 ≡ x / 256 + x % 256 * 16777216
  turned x l =
      let a : x / 256 < 2 ^ 24 = omega arith in
      let b : x * 2 ^ 24 % 2 ^ 32 ≡ x % 256 * 2 ^ 24 = omega arith in
      ap (bit_or (x / 256)) b ∙ or_comm (x / 256) (x % 256 * 2 ^ 24) ∙ or_shifted (x % 256) 24 (x / 256) a ∙ (let z : x % 256 * 2 ^ 24 + x / 256 ≡ x / 256 + x % 256 * 16777216 = omega arith in z)

  pub alike_told : {half rest spun : ℕ} → half ≡ be 4 p o → half < 4294967296 → rest ≡ be 4 p (o + 4) → rest ≡ half → spun ≡ rotate_right w32 half 8 → AllAlike p o (eqb half spun)
  alike_told {half} {rest} {spun} e l f q v =
      record {
        told = λ t. let z : Turns half = eqb-true half spun t ∙ v ∙ turned half l in
            all (four o (subst Turns e z)) (four (o + 4) (subst Turns (sym q ∙ f) z)) (sym e ∙ sym q ∙ f);
      }
    where
      first : be 4 p o ≡ be 4 p (o + 4) → (get_or p (o + 1) 0 ≡ get_or p o 0) × (get_or p (o + 2) 0 ≡ get_or p o 0) × (get_or p (o + 3) 0 ≡ get_or p o 0)
          → (get_or p (o + 4 + 1) 0 ≡ get_or p (o + 4) 0) × (get_or p (o + 4 + 2) 0 ≡ get_or p (o + 4) 0) × (get_or p (o + 4 + 3) 0 ≡ get_or p (o + 4) 0) → get_or p (o + 4) 0 ≡ get_or p o 0
      first e l h = let f = be4 p o in let g = be4 p (o + 4) in omega (arith, l.0, l.1, l.2, h.0, h.1, h.2)

      same : (i j : ℕ) → i ≡ j → get_or p i 0 ≡ get_or p (o + 4) 0 → get_or p (o + 4) 0 ≡ get_or p o 0 → get_or p j 0 ≡ get_or p o 0
      same i j e h f = rw e at h ∙ f

      all : (get_or p (o + 1) 0 ≡ get_or p o 0) × (get_or p (o + 2) 0 ≡ get_or p o 0) × (get_or p (o + 3) 0 ≡ get_or p o 0)
          → (get_or p (o + 4 + 1) 0 ≡ get_or p (o + 4) 0) × (get_or p (o + 4 + 2) 0 ≡ get_or p (o + 4) 0) × (get_or p (o + 4 + 3) 0 ≡ get_or p (o + 4) 0)
          → be 4 p o ≡ be 4 p (o + 4) → (k : ℕ) → k < 8 → get_or p (o + k) 0 ≡ get_or p o 0
      all l h e =
          let f = first e l h in
          below-eight (λ k. get_or p (o + k) 0 ≡ get_or p o 0) (ap (λ (i : ℕ). get_or p i 0) (add-zero o)) l.0 l.1 l.2 f
          (same (o + 4 + 1) (o + 5) (omega arith) h.0 f) (same (o + 4 + 2) (o + 6) (omega arith) h.1 f) (same (o + 4 + 3) (o + 7) (omega arith) h.2 f)

-- ---- the rows that are skipped

-- a PN whose ranks are alike
equal : (p : List ℕ) (x y : ℕ) → x < 8 → y < 8 → (o : ℕ) (os : List ℕ) → AllAlike p o true → better_at p (o ∷ os) x y ≡ better_at p os x y
unfolding better_at better_by
equal p x y a b o os l = rw (eq-eqb (get_or p (o + x) 0) (get_or p (o + y) 0) (l.told refl x a ∙ sym (l.told refl y b)))

skip_some : (p offsets : List ℕ) (j : ℕ) → j ≤ length offsets → ((k : ℕ) → k < j → AllAlike p (get_or offsets k 0) true) → Skipped p offsets (drop j offsets)
skip_some p offsets j h f = record { some = j; upto = h; left = refl; same = λ x y a b. go x y a b offsets j h f }
  where
    go : (x y : ℕ) → x < 8 → y < 8 → (os : List ℕ) (j : ℕ) → j ≤ length os → ((k : ℕ) → k < j → AllAlike p (get_or os k 0) true) → better_at p (drop j os) x y ≡ better_at p os x y
    go x y a b os zero h f = refl
    go x y a b [] (suc j) h f = absurd (omega arith)
    go x y a b (o ∷ os) (suc j) h f =
        go x y a b os j (omega arith) (λ k l. f (suc k) (omega arith)) ∙ sym (equal p x y a b o os (f 0 (omega arith)))

-- the method tells the place of the first PN that may rank columns differently, of none where all are alike
abbrev pub FirstOther : List ℕ → List ℕ → Option ℕ → Type 0
FirstOther p offsets r =
    MatchOption r (AllWithin (λ o. AllAlike p o true) offsets 0 (length offsets))
    (λ i. (i < length offsets) × HoldsAt (λ o. Unit {0}) offsets i × AllWithin (λ o. AllAlike p o true) offsets 0 i)

pub skip_found : (p offsets : List ℕ) {r : Option ℕ} {j : ℕ} → FirstOther p offsets r → r ≡ Some j → Skipped p offsets (take (length offsets - j) (drop j offsets))
skip_found p offsets {r} {j} w e =
    let z = subst (FirstOther p offsets) e w in
    rw (rest offsets j) (skip_some p offsets j (omega (arith, z.0)) (λ k l. z.2 k 0 (omega arith) l))

pub skip_all : (p offsets : List ℕ) {r : Option ℕ} → FirstOther p offsets r → r ≡ None → Skipped p offsets []
skip_all p offsets w e =
    let z = subst (FirstOther p offsets) e w in
    rw (drop-length offsets) at (skip_some p offsets (length offsets) (omega arith) (λ k l. z k 0 (omega arith) l))

-- an offset stands in the file
pub offset_inside : {p offsets : List ℕ} → BytesAt p offsets 0 → (r o : ℕ) → r < length offsets → o ≡ get_or offsets r o → o ≤ length p
offset_inside {p} {offsets} b r o h e = omega (arith, b.each r h, e ∙ get_or_default offsets r o 0 h)

-- ---- all rows

same : (p : List ℕ) (columns x y : ℕ) → x < columns → y < columns → (os : List ℕ) (rows : List (List ℕ)) → length os ≤ length rows
    → ((k i : ℕ) → k < length os → i < columns → get_or (get_or rows k []) i 0 ≡ get_or p (get_or os k 0 + i) 0) → better_in (take (length os) rows) x y ≡ better_at p os x y
unfolding better_in better_at better_by
same p columns x y k l [] rows h f = refl
same p columns x y k l (o ∷ os) [] h f = absurd (omega arith)
same p columns x y k l (o ∷ os) (row ∷ rows) h f =
    rw (f 0 x (omega arith) k, f 0 y (omega arith) l, same p columns x y k l os rows (omega arith) (λ j i m. f (suc j) i (omega arith))) refl

-- the first r rows have the ranks at the first r offsets
pub record Rows (p offsets : List ℕ) (columns r : ℕ) (rows : List (List ℕ)) : Type 0 where
  pub long : length rows ≡ 16
  pub each : (k i : ℕ) → k < r → i < columns → get_or (get_or rows k []) i 0 ≡ get_or p (get_or offsets k 0 + i) 0

pub rows_none : (p offsets : List ℕ) (columns : ℕ) (rows : List (List ℕ)) → length rows ≡ 16 → Rows p offsets columns 0 rows
rows_none p offsets columns rows l = record { long = l; each = λ k i h. absurd (omega arith) }

module _ (p offsets : List ℕ) (columns r : ℕ) (rows : List (List ℕ)) (w : Rows p offsets columns r rows) where
  pub rows_more : {row₀ row : List ℕ} {o : ℕ} → r < 16 → o ≡ get_or offsets r 0 → RowFilled p o columns row₀ row → Rows p offsets columns (r + 1) (set rows r row)
  rows_more {row₀} {row} {o} h e f =
      record { long = length-set rows r row ∙ w.long; each = λ k i l m. one k i l m (ℕ_discrete k r) }
    where
      one : (k i : ℕ) → k < r + 1 → i < columns → Dec (k ≡ r) → get_or (get_or (set rows r row) k []) i 0 ≡ get_or p (get_or offsets k 0 + i) 0
      one k i l m (yes z) =
          rw z (ap (λ (x : List ℕ). get_or x i 0) (get_or-set_same rows r row [] (omega (arith, w.long))) ∙ f.each i m ∙ ap (λ (x : ℕ). get_or p (x + i) 0) e)
      one k i l m (no z) = ap (λ (x : List ℕ). get_or x i 0) (get_or-set_other rows r k row [] z) ∙ w.each k i (omega arith) m

  pub rows_done : {width : ℕ} → BytesAt p offsets width → length offsets ≤ r → RanksGathered (better_at p offsets) columns rows (length offsets)
  rows_done b h =
      record { few = b.few; long = w.long; each = λ x y k l. same p columns x y k l offsets rows (omega (arith, w.long, b.few)) (λ j i m. w.each j i (omega arith)) }
