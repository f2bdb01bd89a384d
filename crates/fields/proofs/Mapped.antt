-- A reader's answer whose refusal a call maps to its own: where the call goes on, the reader has answered Ok.
-- Rests on what std's `map_err` ensures.
use mathlib.Core.Path.{◌≡◌, ap, sym}
use Rattle.std.specs.Prelude.{Result, Ok, Err}
use Rattle.std.specs.Result.{MatchResult}
use Rattle.fields.specs.declared.Breach.{Breach}
use Rattle.fields.specs.declared.Refusal.{Refusal}

abbrev value-or : {T : Type 0} → T → Result T Refusal → T
value-or x (Ok y) = y
value-or x (Err r) = x

pub mapped_ok : {T : Type 0} (r : Result T Breach) {x : T} → MatchResult r (λ y. ◌≡◌ {A = Result T Refusal} (Ok x) (Ok y)) (λ _. ⊥) → r ≡ Ok x
mapped_ok {T} (Ok y) {x} h = ap {B = Result T Breach} Ok (sym (ap (value-or x) h))
mapped_ok (Err e) h = absurd h
