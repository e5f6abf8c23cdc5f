-- What joining two blocks leaves of a partition with its processing order.
use Rattle.std.specs.Prelude.{◌≡◌, ℕ, Bool, true, false, ◌&&◌, List, length, Option, MatchOption}
use Rattle.fixed_list.specs.Items.{items_of}
use Rattle.graph.specs.declared.records.Link.{Link}
use Rattle.chains.specs.Chains.{has}
use Rattle.partition.specs.Blocks.{block_list, messages}
use Rattle.partition.specs.Joins.{leads, between, least_among, joining, order_after}
use Rattle.partition.specs.Sorted.{Sorted}
use Rattle.partition.specs.declared.partition.Partition.{Partition}
use Rattle.joining.specs.Unions.{Union}
use Rattle.joining.specs.declared.joined.Joined.{Joined}

-- the block of each task, and the blocks in their processing order
abbrev pub blocks_in : Joined → List ℕ
blocks_in j = items_of j.blocks

abbrev pub order_in : Joined → List ℕ
order_in j = items_of j.order

-- whether a and b are numbers of blocks
abbrev pub both_blocks : List ℕ → ℕ → ℕ → Bool
both_blocks blocks a b = has a (block_list blocks) && has b (block_list blocks)

-- whether one block of a partition leads to another
abbrev pub leading : List Link → List ℕ → ℕ → ℕ → Bool
leading links blocks = leads (messages links blocks) (length (block_list blocks))

-- the number of the union of a and b
abbrev pub number_of : List Link → List ℕ → ℕ → ℕ → ℕ
number_of links blocks a b = least_among (between (leading links blocks) a b) a blocks

-- The blocks of n tasks and their order after joining a and b, which are blocks. They are a partition with its processing
-- order, the least union of a and b, and of as many blocks as the order has places.
pub record JoinedFrom (n : ℕ) (links : List Link) (blocks order : List ℕ) (a b : ℕ) (j : Joined) : Type 0 where
  pub known : both_blocks blocks a b ≡ true
  pub all : length (blocks_in j) ≡ n
  pub joined : blocks_in j ≡ joining (leading links blocks) blocks a b
  pub ordering : order_in j ≡ order_after (leading links blocks) a b (number_of links blocks a b) order
  pub sorted : Sorted n links (blocks_in j) (order_in j)
  pub union : Union n links blocks a b (blocks_in j)
  pub counted : length (order_in j) ≡ length (block_list (blocks_in j))

-- the same of a partition with its processing order
abbrev pub JoinedIn : Partition → ℕ → ℕ → Joined → Type 0
JoinedIn p a b j = JoinedFrom (length p.tasks.now) p.links.now p.blocks.now p.order.now a b j

-- what joining a and b answers: nothing where one of them is no block
abbrev pub AnswersJoin : Partition → ℕ → ℕ → Option Joined → Type 0
AnswersJoin p a b r = MatchOption r (both_blocks p.blocks.now a b ≡ false) (JoinedIn p a b)
