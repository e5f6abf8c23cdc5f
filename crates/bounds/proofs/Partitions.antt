-- The blocks of a job's tasks are a problem for every machine, and its figures depend on what the machine means.
use Rattle.std.proofs.Common.{◌≡◌, ℕ, ◌+◌, ◌-◌, ◌*◌, ◌≤◌, max, cond, eqb, List, [], ◌∷◌, length, sym, refl, ap, ◌∙◌, subst, ap₂, subst₂, inl, inr, ⊎_elim, arith}
use Rattle.graph.specs.declared.records.Task.{Task}
use Rattle.graph.specs.declared.records.Link.{Link}
use Rattle.graph.specs.Net.{no_link, Sized}
use Rattle.chains.specs.declared.message.Message.{Message}
use Rattle.chains.specs.Chains.{ChainFrom, chains}
use Rattle.chains.specs.Lists.{In, total, greatest}
use Rattle.chains.proofs.Lists.{in_index}
use Rattle.chains.proofs.Every.{only_chains}
use Rattle.machine.specs.Model.{Model}
use Rattle.machine.specs.Same.{Same}
use Rattle.partition.specs.Blocks.{block_of, block_list, messages}
use Rattle.partition.specs.Times.{handling, block_time}
use Rattle.partition.specs.Costs.{work, level, critical_path, cost}
use Rattle.partition.proofs.Counting.{of_among, in_among, apart_among}
use Rattle.partition.proofs.Handling.{ends}
use Rattle.partition.proofs.Renamed.{of_messages}
use Rattle.partition.proofs.Summing.{own_ge}
use Rattle.schedule.specs.declared.rows.Row.{Row}
use Rattle.schedule.specs.Problems.{Problem, Sound}
use Rattle.schedule.specs.Valid.{Rival}
use Rattle.bounds.specs.Problems.{Processed}
use Rattle.bounds.specs.Partitions.{PartitionSound, problem_at, SortedProcessed, cost_on, BoundAfterDividing}
use Rattle.bounds.proofs.Bounding.{bound_two}
use Rattle.bounds.proofs.Fitting.{chain_known}

pub partition_sound : PartitionSound
partition_sound M tasks links blocks time timed joined parts on =
    let all : length blocks ≡ length tasks = parts.all in
    let here : (t : ℕ) → 1 ≤ t → t ≤ length tasks → In (block_of blocks t) (block_list blocks) = λ t lo hi.
    let r = parts.least t lo hi in
    let r1 : block_of blocks t ≤ t = r.1 in
    in_among blocks (length blocks) (block_of blocks t) r.0 (omega arith) (parts.own t lo hi) in
    record {
      once = apart_among blocks (length blocks);
      long = λ b i.
          let r = of_among blocks (length blocks) b i in
          let r0 : 1 ≤ b = r.0 in
          let r1 : b ≤ length blocks = r.1 in
          let own = own_ge tasks blocks (b - 1) b (omega arith) (omega arith) r.2 in
          omega (arith, on b i, own, (timed (b - 1) (omega arith)).0);
      joins = λ m i.
          let c = of_messages links blocks m i in
          let n = ends (length tasks) links joined c.link c.known in (
            subst (λ (x : ℕ). In x (block_list blocks)) (sym c.leaves) (here c.link.sender n.0 n.1),
            subst (λ (x : ℕ). In x (block_list blocks)) (sym c.comes) (here c.link.receiver n.2 n.3),
          );
    }

pub sorted_processed : SortedProcessed
sorted_processed M tasks links blocks order time law timed joined sorted on =
    let all : length blocks ≡ length tasks = sorted.partitions.all in
    record {
      some = law.some;
      sound = partition_sound M tasks links blocks time timed joined sorted.partitions on;
      ordered = sorted.ordered;
      listed = λ b i.
          let r = of_among blocks (length blocks) b i in
          let r1 : b ≤ length blocks = r.1 in
          subst (λ (x : ℕ). In x order) r.2 (sorted.listed b r.0 (omega arith));
      known = λ b i.
          let r = sorted.own b i in
          let r1 : b ≤ length tasks = r.1 in
          in_among blocks (length blocks) b r.0 (omega arith) r.2;
    }

total_same : {X : Type 0} (f h : X → ℕ) (xs : List X) → ((x : X) → In x xs → f x ≡ h x) → total f xs ≡ total h xs
total_same f h [] k = refl
total_same f h (x ∷ xs) k = omega (arith, k x (inl refl), total_same f h xs (λ y i. k y (inr i)))

greatest_same : {X : Type 0} (f h : X → ℕ) (xs : List X) → ((x : X) → In x xs → f x ≡ h x) → greatest f xs ≡ greatest h xs
greatest_same f h [] k = refl
greatest_same f h (x ∷ xs) k = omega (arith, k x (inl refl), greatest_same f h xs (λ y i. k y (inr i)))

-- sizes are within the range of what a machine answers for
sizes : (links : List Link) (blocks : List ℕ) → Sized links → (m : Message) → In m (messages links blocks) → m.size ≤ 1000000
sizes links blocks z m i =
    let c = of_messages links blocks m i in
    let k = in_index c.link links no_link c.known in
    let s = subst (λ (y : Link). y.size ≤ 1000000) k.2 (z k.0 k.1) in
    omega (arith, c.size, s)

-- block times by machines that mean the same
times_same : (D M : Model) → Same D M → (tasks : List Task) (links : List Link) (blocks : List ℕ) → Sized links → (b : ℕ)
    → block_time D tasks blocks (messages links blocks) b ≡ block_time M tasks blocks (messages links blocks) b
times_same D M same tasks links blocks z b =
    let ms = messages links blocks in
    let each : (m : Message) → In m ms → handling D b m ≡ handling M b m = λ m i.
    let s = sizes links blocks z m i in
    ap₂ (λ (r w : ℕ). cond (eqb m.to b) r 0 + cond (eqb m.from b) w 0) (same.reading m.size s) (same.writing m.size s) in
    omega (arith, same.startup, total_same (handling D b) (handling M b) ms each)

-- the figures depend only on the times of the blocks
module _ (g : Problem) (sound : Sound g) (time : ℕ → ℕ) (same : (b : ℕ) → In b g.blocks → g.time b ≡ time b) where
  chain_same : (b : ℕ) → In b g.blocks → (c : List ℕ) → ChainFrom g.messages b c → total g.time c ≡ total time c
  chain_same b i [] h = absurd h
  chain_same b i (a ∷ rest) h =
      total_same g.time time (a ∷ rest) (λ x j. same x (⊎_elim (λ (e : x ≡ a). subst (λ (z : ℕ). In z g.blocks) (sym (e ∙ h.0)) i) (chain_known g sound rest b h.1 x) j))

  cost_same : (P : ℕ) → max (P * critical_path g.time g.messages g.blocks) (work g.time g.blocks) ≡ max (P * critical_path time g.messages g.blocks) (work time g.blocks)
  cost_same P =
      let n = length g.blocks in
      let path : critical_path g.time g.messages g.blocks ≡ critical_path time g.messages g.blocks =
      greatest_same (level g.time g.messages n) (level time g.messages n) g.blocks
      (λ b i. greatest_same (total g.time) (total time) (chains g.messages n b) (λ c j. chain_same b i c (only_chains g.messages n b c j))) in
      ap₂ (λ (k w : ℕ). max (P * k) w) path (total_same g.time time g.blocks same)

rival_on : (D M : Model) → Same D M → (g : Problem) (rival : List Row) → Rival D g rival → Rival M g rival
rival_on D M same g rival v = record {
  every = v.every;
  only = v.only;
  once = v.once;
  exists = λ r i. omega (arith, v.exists r i, same.processors);
  unbroken = v.unbroken;
  alone = v.alone;
  arrived = v.arrived;
}

pub bound_after_dividing : BoundAfterDividing
bound_after_dividing D M tasks links before after order time₀ time e rows rival law same timed joined z parts₀ sorted on₀ on saves c v =
    let P = M.processors in
    let g₀ = problem_at time₀ links before in
    let g = problem_at time links after in
    let by_D : (blocks : List ℕ) (b : ℕ) → block_time D tasks blocks (messages links blocks) b ≡ block_time M tasks blocks (messages links blocks) b = λ blocks b. times_same D M same tasks links blocks z b in
    let sound₀ : Sound g₀ = partition_sound D tasks links before time₀ timed joined parts₀ on₀ in
    let pr : Processed M g order = sorted_processed M tasks links after order time law timed joined sorted on in
    let cost₀ = cost_same g₀ sound₀ (block_time D tasks before (messages links before)) on₀ P in
    let cost₁ = cost_same g pr.sound (block_time D tasks after (messages links after)) (λ b i. on b i ∙ sym (by_D after b)) P in
    let on_D : (blocks : List ℕ) → cost_on D tasks links blocks ≡ max (P * critical_path (block_time D tasks blocks (messages links blocks)) (messages links blocks) (block_list blocks)) (work (block_time D tasks blocks (messages links blocks)) (block_list blocks)) =
    λ blocks. ap (λ (n : ℕ). max (n * critical_path (block_time D tasks blocks (messages links blocks)) (messages links blocks) (block_list blocks)) (work (block_time D tasks blocks (messages links blocks)) (block_list blocks))) same.processors in
    let no_worse : cost M time (messages links after) (block_list after) ≤ cost M time₀ (messages links before) (block_list before) =
    subst₂ (λ (x y : ℕ). x ≤ y) (on_D after ∙ sym cost₁) (on_D before ∙ sym cost₀) saves in
    bound_two M g₀ g order e rows rival sound₀ pr no_worse c (rival_on D M same g₀ rival v)
