use Rattle.std.proofs.Common.{List, vec_items, sym, refl, ◌∙◌, subst, rules}
use Rattle.graph.specs.declared.records.Task.{Task}
use Rattle.graph.specs.Net.{Sound}
use Rattle.graph.proofs.Threads.{sound_task}
use Rattle.graph.proofs.Sounds.{graph_sound, timely}
use Rattle.graph.proofs.graph.Graph.add_task.Goals as goal

pub invariant_of-self : goal.invariant_of-self
invariant_of-self c =
    let g = c.args.self.now in
    let P : List Task → Type 0 = λ ts. Sound ts (vec_items g.links) in
    let time = timely c.args.time (sym c.time_in_range.ensures ∙ c.if-not-time_in_range.false) in
    let s = subst P (sym c.push_reserved.ensures.items) (sound_task (vec_items g.tasks) (vec_items g.links) _ time refl (graph_sound g)) in
    search rules
