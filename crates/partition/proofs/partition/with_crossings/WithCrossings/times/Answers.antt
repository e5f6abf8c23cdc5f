use Rattle.std.proofs.Common.{rules}
use Rattle.partition.specs.Named.{time_of}
use Rattle.partition.specs.Times.{AtEach}
use Rattle.partition.proofs.Costing.{times_room}
use Rattle.partition.proofs.partition.with_crossings.WithCrossings.times.Goals as goal

pub returns-clause-room : goal.returns-clause-room
returns-clause-room g c =
    let p = c.args.self.now.partition in
    let m = g.M.Machine.meaning c.args.machine.now in
    let at : AtEach (time_of m p) c.add_tasks.new.table = search rules in
    times_room p m (g.met.M.Machine.lawful c.args.machine.now) _ at
