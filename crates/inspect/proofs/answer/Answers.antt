-- Each input has one verdict only: where a feeder is read none refuses it, and elsewhere none refuses it otherwise.
use Rattle.std.proofs.Common.{◌≡◌, Err, IfOk, string_bytes, subst}
use Rattle.feeder.specs.declared.refusal.ReadRefusal.{ReadRefusal as Reason}
use Rattle.feeder.specs.Refusals.{read_number}
use Rattle.sheet.specs.Sheet.{refusal_line}
use Rattle.inspect.proofs.answer.Goals as goal

pub returns-in-Ok : goal.returns-in-Ok
returns-in-Ok c = record { refused = λ r v. let e = c.in-Ok.ensures.only (Err r) v in absurd (cc) }

pub returns-in-Err : goal.returns-in-Err
returns-in-Err c = record {
  refused = λ r v.
      let e = c.in-Err.ensures.only (Err r) v in
      let same : c.in-Err.refusal ≡ r = cc in
      subst (λ (x : Reason). IfOk c.to_string.result (λ page. string_bytes page ≡ refusal_line (read_number x))) same c.to_string.ensures.ok;
}
