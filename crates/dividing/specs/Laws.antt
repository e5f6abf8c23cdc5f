-- What dividing promises.
use Rattle.std.specs.Prelude.{◌≡◌, ℕ, ◌<◌, ◌≤◌, List, [], ◌∷◌, ◌++◌, length, ◌≢◌}
use Rattle.chains.specs.Lists.{In}
use Rattle.graph.specs.Net.{Net}
use Rattle.machine.specs.Model.{Model}
use Rattle.partition.specs.Blocks.{Partitions, Convex, block_list, messages}
use Rattle.partition.specs.Times.{overhead}
use Rattle.dividing.specs.Dividing.{cost_of, joined_to, met}

-- block h has the greatest overhead, and of those with as much it has the least number
pub record Heaviest (m : Model) (net : Net) (blocks : List ℕ) (h : ℕ) : Type 0 where
  pub block : In h (block_list blocks)
  pub greatest : (c : ℕ) → In c (block_list blocks) → overhead m (messages net.links blocks) c ≤ overhead m (messages net.links blocks) h
  pub first : (c : ℕ) → In c (block_list blocks) → overhead m (messages net.links blocks) c ≡ overhead m (messages net.links blocks) h → h ≤ c

-- b is another block than h, joining it to h costs least, and of those that cost as much it has the least number
pub record Partner (m : Model) (net : Net) (blocks : List ℕ) (h b : ℕ) : Type 0 where
  pub block : In b (block_list blocks)
  pub other : b ≡ h → ⊥
  pub cheapest : (c : ℕ) → In c (block_list blocks) → (c ≢ h) → cost_of m net (joined_to net blocks h b) ≤ cost_of m net (joined_to net blocks h c)
  pub first : (c : ℕ) → In c (block_list blocks) → (c ≢ h) → cost_of m net (joined_to net blocks h c) ≡ cost_of m net (joined_to net blocks h b) → b ≤ c

-- q comes from p, which has several blocks, by joining the heaviest block with its partner
pub record ComesNext (m : Model) (net : Net) (p q : List ℕ) : Type 0 where
  pub several : 1 < length (block_list p)
  pub heavy : ℕ
  pub joined : ℕ
  pub heaviest : Heaviest m net p heavy
  pub partner : Partner m net p heavy joined
  pub result : q ≡ joined_to net p heavy joined

-- from p on these partitions come in turn, each from the one before it, until no more than one block is left
abbrev pub GoesOn : Model → Net → List ℕ → List (List ℕ) → Type 0
GoesOn m net p [] = length (block_list p) ≤ 1
GoesOn m net p (q ∷ rest) = ComesNext m net p q × GoesOn m net q rest

-- the partitions met are the start, and then those that come in turn
abbrev pub MetRightly : Model → Net → List ℕ → List (List ℕ) → Type 0
MetRightly m net start [] = ⊥
MetRightly m net start (p ∷ rest) = (p ≡ start) × GoesOn m net p rest

-- the result is one of the partitions met; every one met before it is dearer, and none is cheaper; no path from block to
-- block returns to a block that it left; its blocks are numbered by their least tasks; and it costs no more than the start
pub record Divides (m : Model) (net : Net) (start result : List ℕ) : Type 0 where
  pub before : List (List ℕ)
  pub after : List (List ℕ)
  pub among : met m net start ≡ before ++ result ∷ after
  pub dearer : (p : List ℕ) → In p before → cost_of m net result < cost_of m net p
  pub cheapest : (p : List ℕ) → In p (met m net start) → cost_of m net result ≤ cost_of m net p
  pub convex : Convex (messages net.links result)
  pub partitions : Partitions (length net.tasks) result
  pub saves : cost_of m net result ≤ cost_of m net start
