use Rattle.std.proofs.Common.{length, ◌∙◌, rules}
use Rattle.partition.specs.Costs.{level}
use Rattle.partition.specs.Named.{messages_of, list_of, time_of}
use Rattle.partition.proofs.Costing.{times_room, path_fits}
use Rattle.partition.proofs.partition.Partition.cost.Goals as goal

pub sum_at-work-requires : goal.sum_at-work-requires
sum_at-work-requires g c = record { room = times_room c.args.self.now (g.M.Machine.meaning c.args.machine.now) (g.met.M.Machine.lawful c.args.machine.now) _ c.figures-figures.ensures.times }

pub overflow_mul-from : goal.overflow_mul-from
overflow_mul-from g c =
    let p = c.args.self.now in
    let m = g.M.Machine.meaning c.args.machine.now in
    let fits = path_fits p m (g.met.M.Machine.lawful c.args.machine.now) _ _ (c.from.ensures ∙ c.processors.ensures) (c.greatest_at-path.ensures (λ b. level (time_of m p) (messages_of p) (length (list_of p)) b) c.figures-figures.ensures.levels) in
    search rules
