use Rattle.std.proofs.Common.{◌≡◌, ◌≤◌, length, take}
use Rattle.fixed_list.specs.Items.{items_of}
use Rattle.partition.specs.Blocks.{messages}
use Rattle.partition.proofs.partition.crossings.gather.gather.Given as goal

-- the messages of the links so far
abbrev pub invariant-loop-link : goal.invariant-loop-link
invariant-loop-link l = (items_of l.messages ≡ messages (take l.link-index l.links) l.blocks) × (length (items_of l.messages) ≤ l.link-index)
