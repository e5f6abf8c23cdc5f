use Rattle.graph.specs.Of.{net_of}
use Rattle.graph.proofs.Walks.{reaches_by_walks, names_a_circle}
use Rattle.planner.proofs.task_graph.TaskGraph.close.Goals as goal

pub returns-in_err-must_be_open-clause-walks : goal.returns-in_err-must_be_open-clause-walks
returns-in_err-must_be_open-clause-walks c = reaches_by_walks (net_of c.args.self.now.graph) c.args.self.now.graph.joined

pub returns-in_err-must_be_open-clause-circles : goal.returns-in_err-must_be_open-clause-circles
returns-in_err-must_be_open-clause-circles c = names_a_circle (net_of c.args.self.now.graph) c.args.self.now.graph.joined
