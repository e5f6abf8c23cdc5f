use Rattle.std.proofs.Common.{ℕ, Result, sym, subst}
use Rattle.chains.proofs.Lists.{once_apart}
use Rattle.checking.specs.declared.refusal.CheckRefusal.{CheckRefusal}
use Rattle.checking.specs.Accepting.{Judges}
use Rattle.checking.specs.Jobs.{seen}
use Rattle.checking.proofs.Verdicts.{judges}
use Rattle.checking.proofs.checker.judged.Goals as goal

pub returns : goal.returns
returns g c =
    let M = g.M.Machine.meaning c.args.machine.now in
    record {
      answer = c.requires;
      valid = subst (λ (a : Result ℕ CheckRefusal). Judges M (seen c.args.job.now) c.args.rows.now a) (sym c.requires)
          (judges M (seen c.args.job.now) c.args.rows.now (once_apart c.args.job.now.blocks.now c.args.job.now.once));
      exact = record { judges = judges };
    }
