-- Walks over links, which tasks reach which, circles, and the order in which tasks can be processed.
use Rattle.std.specs.Prelude.{◌≡◌, ℕ, zero, suc, ◌+◌, ◌<◌, ◌≤◌, Bool, true, cond, not, ◌&&◌, ◌||◌, Some, None, Option, List, [], ◌∷◌, length, ◌==◌, ◌≢◌, nat_eq, slice_index, slice_index_or}
use Rattle.graph.specs.declared.records.Link.{Link}
use Rattle.graph.specs.declared.records.Refusal.{Refusal}
use Rattle.graph.specs.declared.records.Refusal.TheVariants.{NoTask, Circle}
use Rattle.graph.specs.LastOf.{last_of}
use Rattle.graph.specs.Net.{Net, no_link, linked}

-- some link goes from a to b
abbrev pub Linked : List Link → ℕ → ℕ → Type 0
Linked links a b = (i : ℕ) × (i < length links) × ((slice_index_or links i no_link).sender ≡ a) × ((slice_index_or links i no_link).receiver ≡ b)

-- a walk from a to b over one or more links: `via` are the tasks in between, in their order
abbrev pub Walk : List Link → ℕ → List ℕ → ℕ → Type 0
Walk links a [] b = Linked links a b
Walk links a (c ∷ via) b = Linked links a c × Walk links c via b

-- whether a reaches b over one or more links, where only tasks up to k stand in between
abbrev pub through : List Link → ℕ → ℕ → ℕ → Bool
through links zero a b = not (linked links a b == 0)
through links (suc k) a b = through links k a b || (through links k a (suc k) && through links k (suc k) b)

-- whether a reaches b over one or more links
abbrev pub reaches : Net → ℕ → ℕ → Bool
reaches net a b = through net.links (length net.tasks) a b

-- the least of the numbers 1 to n that passes a test, or 0 where none does
abbrev pub least : (ℕ → Bool) → ℕ → ℕ
least p zero = 0
least p (suc n) = cond (least p n == 0) (cond (p (suc n)) (suc n) 0) (least p n)

-- a number, or none where it is 0
abbrev pub some_number : ℕ → Option ℕ
some_number n = cond (n == 0) None (Some n)

-- the least task that reaches itself, or 0
abbrev pub circle : Net → ℕ
circle net = least (λ t. reaches net t t) (length net.tasks)

-- why a graph cannot be closed
abbrev pub close_rows : Net → List (Bool × Refusal)
close_rows net =
    ((length net.tasks == 0), NoTask)
    ∷ (not (circle net == 0), Circle (circle net)) ∷ []

-- a reaches b exactly where some walk leads from a to b
pub record ReachesByWalks (net : Net) : Type 0 where
  pub walked : (a b : ℕ) → reaches net a b ≡ true → (via : List ℕ) × Walk net.links a via b
  pub reached : (a b : ℕ) (via : List ℕ) → Walk net.links a via b → reaches net a b ≡ true

-- no walk comes back to where it began
abbrev pub NoCircle : List Link → Type 0
NoCircle links = (t : ℕ) (via : List ℕ) → Walk links t via t → ⊥

-- the circle that is named is one, and no lesser task lies on any
pub record NamesACircle (net : Net) : Type 0 where
  pub none : circle net ≡ 0 → NoCircle net.links
  pub some : (circle net ≢ 0) → (via : List ℕ) × Walk net.links (circle net) via (circle net)
  pub first : (t : ℕ) (via : List ℕ) → t < circle net → Walk net.links t via t → ⊥

-- the place of a task in an order, from 1, or 0 where it is not there
abbrev pub place_in : List ℕ → ℕ → ℕ
place_in order t = last_of (λ x. nat_eq x t) order

-- an order in which the tasks 1 to n can be processed: each of them once, and every link from an earlier to a later place
pub record Processes (n : ℕ) (links : List Link) (order : List ℕ) : Type 0 where
  pub all : length order ≡ n
  pub known : (k : ℕ) → k < n → (1 ≤ slice_index order k) × (slice_index order k ≤ n)
  pub once : (k : ℕ) → k < n → place_in order (slice_index order k) ≡ k + 1
  pub rises : (i : ℕ) → i < length links → place_in order (slice_index_or links i no_link).sender < place_in order (slice_index_or links i no_link).receiver
