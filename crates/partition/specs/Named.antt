-- A partition's messages and blocks, and what they take and cost on a machine.
use Rattle.std.specs.Prelude.{ℕ, List}
use Rattle.chains.specs.declared.message.Message.{Message}
use Rattle.machine.specs.Model.{Model}
use Rattle.partition.specs.Blocks.{block_list, messages}
use Rattle.partition.specs.Costs.{work, critical_path, cost, level_at, step_cost, delay_at, delay_chain}
use Rattle.partition.specs.Times.{overhead, times_of}
use Rattle.partition.specs.declared.partition.Partition.{Partition}

abbrev pub messages_of : Partition → List Message
messages_of p = messages p.links.now p.blocks.now

abbrev pub list_of : Partition → List ℕ
list_of p = block_list p.blocks.now

abbrev pub overhead_of : Model → Partition → ℕ → ℕ
overhead_of m p = overhead m (messages_of p)

abbrev pub time_of : Model → Partition → ℕ → ℕ
time_of m p = times_of m p.tasks.now p.links.now p.blocks.now

abbrev pub work_of : Model → Partition → ℕ
work_of m p = work (time_of m p) (list_of p)

-- at a block's number its level, at any other 0
abbrev pub level_of : Model → Partition → ℕ → ℕ
level_of m p = level_at (time_of m p) (messages_of p) (list_of p)

abbrev pub path_of : Model → Partition → ℕ
path_of m p = critical_path (time_of m p) (messages_of p) (list_of p)

abbrev pub cost_of : Model → Partition → ℕ
cost_of m p = cost m (time_of m p) (messages_of p) (list_of p)

abbrev pub step_cost_of : Model → Partition → ℕ → ℕ → ℕ
step_cost_of m p = step_cost m (messages_of p)

-- at a block's number its delay, at any other 0
abbrev pub delay_of : Model → Partition → ℕ → ℕ
delay_of m p = delay_at m (messages_of p) (list_of p)

abbrev pub delay_chain_of : Model → Partition → ℕ
delay_chain_of m p = delay_chain m (messages_of p) (list_of p)
