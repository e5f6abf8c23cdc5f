-- How the code finds the messages of a sender: not what a chain is, but what its tables hold.
use Rattle.std.specs.Prelude.{◌≡◌, ℕ, zero, suc, ◌<◌, cond, List, Option, None, Some, ◌==◌, slice_index_or}
use Rattle.chains.specs.Chains.{Blocks, Once, place}
use Rattle.chains.specs.Lists.{In}
use Rattle.chains.specs.declared.message.Message.{Message}

abbrev pub message_at : List Message → ℕ → Message
message_at ms i = slice_index_or ms i (record { from = 0; to = 0; size = 0 })

-- what an entry of a table of numbers stands for: nothing at 0, and else one less
abbrev pub number_of : ℕ → Option ℕ
number_of zero = None
number_of (suc i) = Some i

-- the number of the last message from b among the first i messages; nothing where there is none
abbrev pub latest : List Message → ℕ → ℕ → Option ℕ
latest ms b zero = None
latest ms b (suc i) = cond ((message_at ms i).from == b) (Some i) (latest ms b i)

-- an order whose blocks are good, with the table of their places, and nothing at each number without a place
pub record Numbered (order : List ℕ) (places : List (Option ℕ)) : Type 0 where
  pub blocks : Blocks order
  pub once : Once order
  pub present : (b : ℕ) → In b order → slice_index_or places b None ≡ Some (place order b)
  pub absent : (b : ℕ) → (In b order → ⊥) → slice_index_or places b None ≡ None

-- both are places, and the first stands before the second
abbrev pub Earlier : Option ℕ → Option ℕ → Type 0
Earlier None q = ⊥
Earlier (Some p) None = ⊥
Earlier (Some p) (Some q) = p < q

-- whether the table has the sender before the receiver
abbrev pub Before : List (Option ℕ) → Message → Type 0
Before places m = Earlier (slice_index_or places m.from None) (slice_index_or places m.to None)
