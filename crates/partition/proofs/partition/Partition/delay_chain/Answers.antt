use Rattle.std.proofs.Common.{◌≡◌, ◌∙◌, rules}
use Rattle.chains.specs.Sums.{steps_total}
use Rattle.partition.specs.Named.{messages_of, list_of, step_cost_of, delay_chain_of}
use Rattle.partition.proofs.Delays.{chain_alone}
use Rattle.partition.proofs.Extremes.{blocks_greatest, chain_single, step_greatest}
use Rattle.partition.proofs.Handling.{fair}
use Rattle.partition.proofs.partition.Partition.delay_chain.Goals as goal

pub returns-clause-greatest : goal.returns-clause-greatest
returns-clause-greatest g c = blocks_greatest c.args.self.now (steps_total (step_cost_of (g.M.Machine.meaning c.args.machine.now) c.args.self.now))

pub returns-clause-steps : goal.returns-clause-steps
returns-clause-steps g c = step_greatest (g.M.Machine.meaning c.args.machine.now) (g.met.M.Machine.lawful c.args.machine.now) (messages_of c.args.self.now)

pub returns-clause-alone : goal.returns-clause-alone
returns-clause-alone g c =
    let p = c.args.self.now in
    let m = g.M.Machine.meaning c.args.machine.now in
    let value : c.greatest_at.result ≡ delay_chain_of m p = search rules in
    λ one. value ∙ chain_alone m (g.met.M.Machine.lawful c.args.machine.now) one (messages_of p) (fair p).handled (list_of p)

pub returns-clause-single : goal.returns-clause-single
returns-clause-single g c =
    let p = c.args.self.now in
    let m = g.M.Machine.meaning c.args.machine.now in
    let value : c.greatest_at.result ≡ delay_chain_of m p = search rules in
    λ one. value ∙ chain_single p m one
