-- What a call that lends a buffer does (01, 'Where a number arises', 'Reconciling').
use Rattle.std.specs.Prelude.{ℕ, ◌≡◌, cond, List, ◌++◌, leb, length, drop}
use Rattle.fields.specs.Answers.{Answer, success, refusal}

-- the answer, and the whole buffer at exit
pub record Outcome : Type 0 where
  pub answer : Answer
  pub buffer : List ℕ

-- r and after are what a call shall answer and leave
pub record Did (o : Outcome) (r : Answer) (after : List ℕ) : Type 0 where
  pub answer : r ≡ o.answer
  pub buffer : after ≡ o.buffer

-- 'after a refusal .. no lent buffer .. is written'
abbrev pub refused : ℕ → ℕ → ℕ → List ℕ → Outcome
refused n file o out = record { answer = refusal n file o; buffer = out }

-- the same as a call's refusal of what it reads, this buffer being lent
abbrev pub leaving : List ℕ → ℕ → ℕ → ℕ → Outcome
leaving out n file o = refused n file o out

-- a file put at the start of the buffer: 'a shorter buffer is refused' with 14, 'a longer one never';
-- 'the bytes beyond the length stay'
unfoldable pub placed : List ℕ → List ℕ → Outcome
placed file out =
    cond (leb (length file) (length out)) (record { answer = success (length file); buffer = file ++ drop (length file) out }) (refused 14 0 0 out)
