use Rattle.std.proofs.Common.{◌≡◌, ◌+◌, ◌-◌, ◌<◌, List, [], ◌∷◌, ◌++◌, length, set, vec_items, sym, ap, ◌∙◌, subst, arith, rules}
use Rattle.std.proofs.lemmas.List.{get_or_read}
use Rattle.graph.specs.declared.records.Link.{Link}
use Rattle.graph.specs.declared.records.Task.{Task}
use Rattle.graph.specs.Net.{Sound, no_task, newest_of}
use Rattle.graph.proofs.Threads.{Fits, sound_link}
use Rattle.graph.proofs.Sounds.{graph_sound, numbered}
use Rattle.graph.proofs.graph.Graph.put_link.Goals as goal

pub invariant_of-self : goal.invariant_of-self
invariant_of-self c =
    let g = c.args.self.now in
    let ts = vec_items g.tasks in
    let ls = vec_items g.links in
    let k = c.args.from - 1 in
    let a = numbered (length ts) c.args.from c.requires.sender in
    let b = numbered (length ts) c.args.to c.requires.receiver in
    let h : k < length ts = omega (arith, a) in
    let same : k + 1 ≡ c.args.from = omega (arith, a) in
    let n : c.len.result + 1 ≡ length ls + 1 = omega (arith, g.links.ok.0) in
    let read = get_or_read ts k _ h c.index.ensures no_task in
    let next = ap (λ (x : Task). x.newest) read ∙ g.headed k h ∙ ap (λ n. newest_of ls n) same in
    let t : Task = record { time = c.index_mut.result.now.time; newest = c.len.result + 1 } in
    let time = ap (λ (x : Task). x.time) (get_or_read ts k _ h c.index_mut.ensures.value no_task) in
    let P : List Link → Type 0 = λ xs. Sound (set ts k t) xs in
    let l : Link = record { sender = c.args.from; receiver = c.args.to; size = c.args.size; next = c.index.result.now.newest } in
    let fits : Fits (length ts) l = record { joined = (a.0, a.1, b.0, b.1); unlooped = c.requires.unlooped; sized = c.requires.sized } in
    let Q : Link → Type 0 = λ x. P (ls ++ (x ∷ [])) in
    let s = subst P (sym c.push_reserved.ensures.items) (subst Q (sym c.new.ensures) (sound_link ts ls l k t h (sym same) n time next fits c.requires.single (graph_sound g))) in
    search rules
