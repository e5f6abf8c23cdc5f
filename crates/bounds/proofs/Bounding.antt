-- The length of a schedule beside every rival's, and all that is promised together.
use Rattle.std.proofs.Common.{◌≡◌, ℕ, zero, suc, ◌+◌, ◌-◌, ◌*◌, ◌≤◌, Bool, List, [], ◌∷◌, length, sym, refl, subst, inl, mul-le-mul_left, arith}
use native.Mathlib.Nat.{le_of_mul-le-mul_left}
use Rattle.chains.specs.Chains.{Chain, chains}
use Rattle.chains.specs.Lists.{In, total, greatest}
use Rattle.chains.specs.Sums.{steps_total}
use Rattle.machine.specs.Model.{Model}
use Rattle.partition.specs.Costs.{work, critical_path, step_cost, delay_chain}
use Rattle.partition.proofs.Levels.{greatest_ge}
use Rattle.schedule.specs.declared.rows.Row.{Row}
use Rattle.schedule.specs.Problems.{Problem, length_of}
use Rattle.schedule.specs.Orders.{earlier}
use Rattle.schedule.specs.Placing.{placing}
use Rattle.schedule.specs.Choices.{Chosen}
use Rattle.bounds.specs.Problems.{Processed}
use Rattle.bounds.specs.Schedules.{Complete}
use Rattle.bounds.specs.Bounds.{BoundOne, BoundTwo, ScheduleStands, PlacingStands}
use Rattle.bounds.proofs.Explained.{lengths_explained}
use Rattle.bounds.proofs.Placed.{placing_chooses}
use Rattle.bounds.proofs.Rising.{starts_rise}
use Rattle.bounds.proofs.Fitting.{listed_chains, work_fits, rivals_outlast, valid_rival}
use Rattle.bounds.proofs.Valid.{chosen_valid}
use Rattle.bounds.proofs.Waiting.{chosen_waits}

-- no chain of the problem measures more than the greatest over the lists of chains
in_greatest : (M : Model) (g : Problem) (order : List ℕ) → Processed M g order → (f : List ℕ → ℕ) (c : List ℕ) → Chain g.messages c → ((b : ℕ) → In b c → In b g.blocks)
    → f c ≤ greatest (λ b. greatest f (chains g.messages (length g.blocks) b)) g.blocks
in_greatest M g order pr f [] h k = absurd h
in_greatest M g order pr f (b ∷ rest) h k =
    let n = length g.blocks in
    let i = k b (inl refl) in
    omega (
      arith,
      greatest_ge f (chains g.messages n b) (b ∷ rest) ((listed_chains M g order pr b i).every (b ∷ rest) (refl, h)),
      greatest_ge (λ (x : ℕ). greatest f (chains g.messages n x)) g.blocks b i,
    )

final : (P n W t s R C : ℕ) → 1 ≤ P → P * n ≤ W + (P - 1) * t + P * s → W ≤ P * R → t ≤ R → s ≤ C → P * n ≤ (2 * P - 1) * R + P * C
final zero n W t s R C one h w k c = absurd (omega arith)
final (suc P) n W t s R C one h w k c =
    let e : suc P - 1 ≡ P = omega arith in
    let f : 2 * suc P - 1 ≡ P + suc P = omega arith in
    let h' : suc P * n ≤ W + P * t + suc P * s = rw e at h in
    rw f (omega (arith, h', mul-le-mul_left P k, mul-le-mul_left (suc P) c))

-- a schedule beside any number that neither the work nor the critical path beats
bounded : (M : Model) (g : Problem) (order : List ℕ) (e : ℕ → ℕ → Bool) (rows : List Row) → Processed M g order → Chosen M g e rows
    → (R : ℕ) → work g.time g.blocks ≤ M.processors * R → critical_path g.time g.messages g.blocks ≤ R
    → M.processors * length_of rows ≤ (2 * M.processors - 1) * R + M.processors * delay_chain M g.messages g.blocks
bounded M g order e [] pr c R w k = omega arith
bounded M g order e (r ∷ rows) pr c R w k =
    let x = lengths_explained M g e (r ∷ rows) c (omega arith) in
    let longest = in_greatest M g order pr (total g.time) x.chain x.is x.known in
    final M.processors (length_of (r ∷ rows)) (work g.time g.blocks) (total g.time x.chain) (steps_total (step_cost M g.messages) x.chain) R
    (delay_chain M g.messages g.blocks) pr.some x.bound w (omega (arith, longest, k))
    (in_greatest M g order pr (steps_total (step_cost M g.messages)) x.chain x.is x.known)

pub bound_one : BoundOne
bound_one M g order e rows pr c rival v = bounded M g order e rows pr c (length_of rival) (work_fits M g rival pr.sound v) (rivals_outlast M g rival pr.sound v).path

halved : (P n R C : ℕ) → 1 ≤ P → P * n ≤ (2 * P - 1) * R + P * C → n ≤ 2 * R + C
halved zero n R C one h = absurd (omega arith)
halved (suc P) n R C one h =
    let f : 2 * suc P - 1 ≡ P + suc P = omega arith in
    let h' : suc P * n ≤ (P + suc P) * R + suc P * C = rw f at h in
    le_of_mul-le-mul_left {k = suc P} (omega arith) (omega arith)

pub bound_two : BoundTwo
bound_two M g₀ g order e rows rival sound₀ pr no_worse c v =
    let P = M.processors in
    let R = length_of rival in
    let K = critical_path g.time g.messages g.blocks in
    let o = (rivals_outlast M g₀ rival sound₀ v).cost in
    let w : work g.time g.blocks ≤ P * R = omega (arith, o, no_worse) in
    let pk : P * K ≤ P * R = omega (arith, o, no_worse) in
    let k : K ≤ R = le_of_mul-le-mul_left {k = P} pk pr.some in
    let sharp = bounded M g order e rows pr c R w k in
    record { sharp = sharp; twice = halved P (length_of rows) R (delay_chain M g.messages g.blocks) pr.some sharp }

stands : (M : Model) (g : Problem) (order : List ℕ) (e : ℕ → ℕ → Bool) (rows : List Row) → Processed M g order → Complete M g e rows → ScheduleStands M g e rows
stands M g order e rows pr full =
    let c = full.chosen in
    let v = chosen_valid M g e rows c full.every in
    record {
      complete = full;
      never_falls = starts_rise M g e rows c;
      valid = v;
      none_waits = chosen_waits M g e rows pr.sound c;
      explained = λ l. lengths_explained M g e rows c (omega (arith, full.count));
      near = bound_one M g order e rows pr c;
      outlasts = rivals_outlast M g rows pr.sound (valid_rival M g rows v);
    }

pub placing_stands : PlacingStands
placing_stands M g order o standing rows pr law is =
    let e = earlier o standing in
    subst (λ (l : List Row). ScheduleStands M g e l) (sym is) (stands M g order e (placing M g e) pr (placing_chooses M g order o standing pr law))
