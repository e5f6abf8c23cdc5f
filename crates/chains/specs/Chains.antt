-- Steps and chains over a list of messages, processing orders, and the list of all chains from a block.
use Rattle.std.specs.Prelude.{◌≡◌, ℕ, zero, suc, ◌<◌, ◌≤◌, Bool, false, cond, ◌||◌, List, [], ◌∷◌, map, length, ◌==◌, slice_index}
use Rattle.std.specs.List.{flat_map}
use Rattle.chains.specs.Lists.{In, Apart}
use Rattle.chains.specs.declared.message.Message.{Message}

-- some message goes from a to b; several between the same two blocks are one step
pub record Step (ms : List Message) (a b : ℕ) : Type 0 where
  pub message : Message
  pub known : In message ms
  pub leaves : message.from ≡ a
  pub comes : message.to ≡ b

-- b followed by the list is a chain: each block has a step to the next
abbrev pub Follows : List Message → ℕ → List ℕ → Type 0
Follows ms b [] = Unit {0}
Follows ms b (s ∷ rest) = Step ms b s × Follows ms s rest

-- a chain: one or more blocks, each with a step to the next
abbrev pub Chain : List Message → List ℕ → Type 0
Chain ms [] = ⊥
Chain ms (b ∷ rest) = Follows ms b rest

-- a chain that begins with b
abbrev pub ChainFrom : List Message → ℕ → List ℕ → Type 0
ChainFrom ms b [] = ⊥
ChainFrom ms b (c ∷ rest) = (c ≡ b) × Follows ms b rest

-- how many blocks stand before b in the order; the order's length where b has no place in it
abbrev pub place : List ℕ → ℕ → ℕ
place [] b = 0
place (x ∷ xs) b = cond (x == b) 0 (suc (place xs b))

-- blocks are numbered 1 to 256
abbrev pub Blocks : List ℕ → Type 0
Blocks order = (b : ℕ) → In b order → (1 ≤ b) × (b ≤ 256)

-- each block stands once: the block at place k has the place k
abbrev pub Once : List ℕ → Type 0
Once order = (k : ℕ) → k < length order → place order (slice_index order k) ≡ k

-- every message goes from an earlier place to a later one, and both its ends have a place
abbrev pub Forward : List Message → List ℕ → Type 0
Forward ms order = (m : Message) → In m ms → (place order m.from < place order m.to) × (place order m.to < length order)

-- a processing order of at most 256 blocks, for at most 1,024 messages
pub record Ordered (ms : List Message) (order : List ℕ) : Type 0 where
  pub few : length ms ≤ 1024
  pub short : length order ≤ 256
  pub blocks : Blocks order
  pub once : Once order
  pub forward : Forward ms order

-- whether x stands in the list
abbrev pub has : ℕ → List ℕ → Bool
has x [] = false
has x (y ∷ ys) = x == y || has x ys

-- the list with x in front, unless x stands in it
abbrev pub with_new : ℕ → List ℕ → List ℕ
with_new x xs = cond (has x xs) xs (x ∷ xs)

-- the blocks to which b has a step, each once, in the order of the last message to each
abbrev pub successors : List Message → ℕ → List ℕ
successors [] b = []
successors (m ∷ ms) b = cond (m.from == b) (with_new m.to (successors ms b)) (successors ms b)

-- what may follow b in a chain of at most n steps that begins with b
abbrev pub rests : List Message → ℕ → ℕ → List (List ℕ)
rests ms zero b = [] ∷ []
rests ms (suc n) b = [] ∷ flat_map (λ s. map (λ r. s ∷ r) (rests ms n s)) (successors ms b)

-- the chains of at most n steps that begin with b
abbrev pub chains : List Message → ℕ → ℕ → List (List ℕ)
chains ms n b = map (λ r. b ∷ r) (rests ms n b)

-- the list above has every chain that begins with b, whatever its length, only such chains, and none twice
pub record Enumerates (ms : List Message) (n b : ℕ) : Type 0 where
  pub only : (c : List ℕ) → In c (chains ms n b) → ChainFrom ms b c
  pub every : (c : List ℕ) → ChainFrom ms b c → In c (chains ms n b)
  pub once : Apart (chains ms n b)
