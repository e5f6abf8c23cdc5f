-- The messages that stand with a partition.
use Rattle.std.specs.Prelude.{List}
use Rattle.fixed_list.specs.Items.{items_of}
use Rattle.chains.specs.declared.message.Message.{Message}
use Rattle.partition.specs.declared.partition.crossings.Crossings.{Crossings}

abbrev pub held : Crossings → List Message
held c = items_of c.messages
