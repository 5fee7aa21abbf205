-- Numbers: the one number under which the answer to some bytes is shown.
use Rattle.std.specs.Prelude.{◌≡◌, ℕ, List, Ok, Err, Result}
use Rattle.feeder.specs.declared.record.Feeder.{Feeder}
use Rattle.feeder.specs.declared.refusal.ReadRefusal.{ReadRefusal}
use Rattle.feeder.specs.Refusals.{read_number}
use Rattle.feeder.specs.Verdicts.{Verdict}

-- 0 stands for a feeder, and every refusal for its own number
abbrev pub number_of : Result Feeder ReadRefusal → ℕ
number_of (Ok f) = 0
number_of (Err e) = read_number e

-- the number of an answer that is the verdict on some bytes
pub record Numbered (bytes : List ℕ) (n : ℕ) : Type 0 where
  pub reply : Result Feeder ReadRefusal
  pub verdict : Verdict bytes reply
  pub same : n ≡ number_of reply
