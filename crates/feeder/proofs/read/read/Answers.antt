use Rattle.std.proofs.Common.{Ok, Result, sym, subst}
use Rattle.feeder.specs.declared.record.Feeder.{Feeder}
use Rattle.feeder.specs.declared.refusal.ReadRefusal.{ReadRefusal}
use Rattle.feeder.specs.Verdicts.{Verdict}
use Rattle.feeder.proofs.Whole.{verdict_one}
use Rattle.feeder.proofs.read.read.Goals as goal

pub returns : goal.returns
returns c =
    let bytes = c.args.bytes.now in
    let r = c.judge.result in
    record {
      verdict = c.judge.ensures;
      only = λ a v. verdict_one bytes a r v c.judge.ensures;
      exact = λ f.
          record {
            written_again = λ e. sym (subst (λ (a : Result Feeder ReadRefusal). Verdict bytes a) e c.judge.ensures);
            read_again = λ e. verdict_one bytes r (Ok f) c.judge.ensures e;
          };
    }
