-- Joining in a small job, worked through by hand.
use Rattle.std.specs.Prelude.{◌≡◌, ℕ, List, [], ◌∷◌}
use Rattle.partition.specs.Blocks.{messages, Convex}
use Rattle.partition.specs.Examples.{four_links, singles}
use Rattle.partition.specs.Joins.{leads, joining}

-- the blocks after joining two of the blocks of the four tasks
abbrev pub joined_of : List ℕ → ℕ → ℕ → List ℕ
joined_of blocks a b = joining (leads (messages four_links blocks) 4) blocks a b

-- Joining 1 and 2 takes in no other. Joining 1 and 4 takes in 2 and 3, which lie between, whichever is named first.
-- With 1 and 4 in one block and 2 and 3 outside of it, 1 would send to 2 and 2 to 1: that is not convex.
pub record FourTasksJoin : Type 0 where
  pub first : joined_of singles 1 2 ≡ 1 ∷ 1 ∷ 3 ∷ 4 ∷ []
  pub whole : joined_of singles 1 4 ≡ 1 ∷ 1 ∷ 1 ∷ 1 ∷ []
  pub back : joined_of singles 4 1 ≡ 1 ∷ 1 ∷ 1 ∷ 1 ∷ []
  pub circle : Convex (messages four_links (1 ∷ 2 ∷ 3 ∷ 1 ∷ [])) → ⊥
