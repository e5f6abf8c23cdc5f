-- What no rival can beat.
use Rattle.std.proofs.Common.{◌≡◌, ℕ, zero, suc, ◌+◌, ◌-◌, ◌*◌, ◌<◌, ◌≤◌, min, cond, eqb, ◌⊎◌, List, [], ◌∷◌, length, sym, refl, ap, ◌∙◌, subst, inl, inr, ⊎_elim, mul-le-mul_left, arith}
use Rattle.std.proofs.lemmas.Bool.{cases_eq, cases_lt, eq-eqb, ne_eqb}
use Rattle.chains.specs.Chains.{Follows, Chain, ChainFrom, Enumerates, chains}
use Rattle.chains.specs.Lists.{In, total}
use Rattle.chains.proofs.Lists.{in_map, once_apart}
use Rattle.chains.proofs.Every.{enumerates, only_chains}
use Rattle.machine.specs.Model.{Model}
use Rattle.partition.specs.Costs.{work, level, critical_path}
use Rattle.partition.proofs.Levels.{greatest_ge, greatest_le}
use Rattle.schedule.specs.declared.rows.Row.{Row}
use Rattle.schedule.specs.Problems.{Problem, Sound, length_of}
use Rattle.schedule.specs.Valid.{OneAtATime, Rival}
use Rattle.bounds.specs.Problems.{Processed}
use Rattle.bounds.specs.Rivals.{ChainsFit, WorkFits, RivalsOutlast, ValidRival}
use Rattle.bounds.proofs.Sums.{sum_to, sum_one_below, sum_at_most, total_sub, as_many}
use Rattle.bounds.proofs.Busy.{used, blocks_of}

-- what r does on p by x
abbrev part : ℕ → ℕ → Row → ℕ
part p x r = cond (eqb r.processor p) (min r.finish x - min r.start x) 0

part_same : (p x : ℕ) (r : Row) → r.processor ≡ p → part p x r ≡ min r.finish x - min r.start x
part_same p x r e = ap (λ t. cond t (min r.finish x - min r.start x) 0) (eq-eqb r.processor p e)

part_other : (p x : ℕ) (r : Row) → (r.processor ≡ p → ⊥) → part p x r ≡ 0
part_other p x r ne = ap (λ t. cond t (min r.finish x - min r.start x) 0) (ne_eqb r.processor p ne)

abbrev used_on : ℕ → List Row → ℕ → ℕ
used_on p rs x = total (part p x) rs

-- a row that does not cover x does nothing then
off : (st fi x : ℕ) → (fi ≤ x) ⊎ (suc x ≤ st) → min fi (suc x) - min st (suc x) ≤ min fi x - min st x
off st fi x (inl h) = omega arith
off st fi x (inr h) = omega arith

still : (p x : ℕ) (rs : List Row) → ((y : Row) → In y rs → y.processor ≡ p → (y.finish ≤ x) ⊎ (suc x ≤ y.start)) → used_on p rs (suc x) ≤ used_on p rs x
still p x [] h = omega arith
still p x (r ∷ rs) h =
    let rest = still p x rs (λ y i. h y (inr i)) in
    ⊎_elim
    (λ (e : r.processor ≡ p). omega (arith, rest, part_same p x r e, part_same p (suc x) r e, off r.start r.finish x (h r (inl refl) e)))
    (λ (ne : r.processor ≡ p → ⊥). omega (arith, rest, part_other p x r ne, part_other p (suc x) r ne))
    (cases_eq r.processor p)

on : (st fi x : ℕ) → min fi (suc x) - min st (suc x) ≤ suc (min fi x - min st x)
on st fi x = omega arith

at_most_one : (p x : ℕ) (rs : List Row) → OneAtATime rs → used_on p rs (suc x) ≤ suc (used_on p rs x)
at_most_one p x [] h = omega arith
at_most_one p x (r ∷ rs) h =
    let ih = at_most_one p x rs h.1 in
    let idle : r.processor ≡ p → (r.finish ≤ x) ⊎ (suc x ≤ r.start) → used_on p (r ∷ rs) (suc x) ≤ suc (used_on p (r ∷ rs) x) =
    λ e o. omega (arith, ih, part_same p x r e, part_same p (suc x) r e, off r.start r.finish x o) in
    ⊎_elim
    (λ (e : r.processor ≡ p). ⊎_elim
    (λ (a : x < r.start). idle e (inr a))
    (λ (a : r.start ≤ x). ⊎_elim
    (λ (b : x < r.finish).
    let others = still p x rs (λ y i f. ⊎_elim (λ (l : y.finish ≤ r.start). inl (omega arith)) (λ (l : r.finish ≤ y.start). inr (omega arith)) (h.0 y i (f ∙ sym e))) in
    omega (arith, others, part_same p x r e, part_same p (suc x) r e, on r.start r.finish x))
    (λ (b : r.finish ≤ x). idle e (inl b)) (cases_lt x r.finish))
    (cases_lt x r.start))
    (λ (ne : r.processor ≡ p → ⊥). omega (arith, ih, part_other p x r ne, part_other p (suc x) r ne))
    (cases_eq r.processor p)

none_yet : (p : ℕ) (rs : List Row) → used_on p rs 0 ≤ 0
none_yet p [] = omega arith
none_yet p (r ∷ rs) =
    ⊎_elim (λ (e : r.processor ≡ p). omega (arith, none_yet p rs, part_same p 0 r e)) (λ (ne : r.processor ≡ p → ⊥). omega (arith, none_yet p rs, part_other p 0 r ne)) (cases_eq r.processor p)

-- one processor does at most one at a time
by_then : (p : ℕ) (rs : List Row) → OneAtATime rs → (x : ℕ) → used_on p rs x ≤ x
by_then p rs h zero = none_yet p rs
by_then p rs h (suc x) = omega (arith, at_most_one p x rs h, by_then p rs h x)

all_on : (n x : ℕ) (rs : List Row) → ((r : Row) → In r rs → r.processor < n) → used rs x ≤ sum_to n (λ p. used_on p rs x)
all_on n x [] h = omega arith
all_on n x (r ∷ rs) h =
    let d = min r.finish x - min r.start x in
    omega (
      arith,
      all_on n x rs (λ y i. h y (inr i)),
      sum_one_below n (λ p. used_on p (r ∷ rs) x) (λ p. used_on p rs x) r.processor d (h r (inl refl)) (λ p. omega arith) (omega (arith, part_same r.processor x r refl)),
    )

all_done : (g : Problem) (x : ℕ) (rs : List Row) → ((r : Row) → In r rs → r.finish ≡ r.start + g.time r.block) → ((r : Row) → In r rs → r.finish ≤ x) → total g.time (blocks_of rs) ≤ used rs x
all_done g x [] h k = omega arith
all_done g x (r ∷ rs) h k = omega (arith, h r (inl refl), k r (inl refl), all_done g x rs (λ y i. h y (inr i)) (λ y i. k y (inr i)))

module _ (M : Model) (g : Problem) (rs : List Row) (sound : Sound g) (v : Rival M g rs) where
  in_time : (r : Row) → In r rs → r.finish ≤ length_of rs
  in_time r i = greatest_ge (λ (x : Row). x.finish) rs r i

  every : (b : ℕ) → In b g.blocks → In b (blocks_of rs)
  every b i = let p = v.every b i in subst (λ (y : ℕ). In y (blocks_of rs)) p.is (in_map (λ (x : Row). x.block) p.row rs p.there)

  work_done : work g.time g.blocks ≤ M.processors * length_of rs
  work_done = omega (
    arith,
    total_sub g.time g.blocks (blocks_of rs) sound.once every,
    all_done g (length_of rs) rs v.unbroken in_time,
    all_on M.processors (length_of rs) rs v.exists,
    sum_at_most M.processors (length_of rs) (λ p. used_on p rs (length_of rs)) (λ p l. by_then p rs v.alone (length_of rs)),
  )

  -- from a row's start there is time for every chain from its block
  ahead : (rest : List ℕ) (b : ℕ) → Follows g.messages b rest → ((x : ℕ) → In x rest → In x g.blocks) → (z : Row) → In z rs → z.block ≡ b
      → z.start + total g.time (b ∷ rest) ≤ length_of rs
  ahead [] b c k z i e = omega (arith, v.unbroken z i, ap g.time e, in_time z i)
  ahead (a ∷ rest) b c k z i e =
      let s = c.0 in
      let p = v.every a (k a (inl refl)) in
      let next = v.arrived s.message s.known z p.row i p.there (e ∙ sym s.leaves) (p.is ∙ sym s.comes) in
      omega (arith, ahead rest a c.1 (λ x j. k x (inr j)) p.row p.there p.is, next, v.unbroken z i, ap g.time e)

  chain_runs : (c : List ℕ) → Chain g.messages c → ((b : ℕ) → In b c → In b g.blocks) → total g.time c ≤ length_of rs
  chain_runs [] h k = absurd h
  chain_runs (b ∷ rest) h k =
      let p = v.every b (k b (inl refl)) in
      omega (arith, ahead rest b h (λ x j. k x (inr j)) p.row p.there p.is)

pub chains_fit : ChainsFit
chains_fit M g rival sound v = chain_runs M g rival sound v

pub work_fits : WorkFits
work_fits M g rival sound v = work_done M g rival sound v

-- the list of the chains from a block of the problem has exactly these
pub listed_chains : (M : Model) (g : Problem) (order : List ℕ) → Processed M g order → (b : ℕ) → In b g.blocks → Enumerates g.messages (length g.blocks) b
listed_chains M g order pr b i =
    let many : length order ≡ length g.blocks = as_many order g.blocks (once_apart order pr.ordered.once) pr.sound.once pr.known pr.listed in
    subst (λ (n : ℕ). Enumerates g.messages n b) many (enumerates g.messages order pr.ordered b (pr.listed b i))

-- a step ends in a block of the problem
pub chain_known : (g : Problem) → Sound g → (rest : List ℕ) (b : ℕ) → Follows g.messages b rest → (x : ℕ) → In x rest → In x g.blocks
chain_known g sound [] b f x i = absurd i
chain_known g sound (a ∷ rest) b f x i =
    ⊎_elim
    (λ (e : x ≡ a). subst (λ (z : ℕ). In z g.blocks) (f.0.comes ∙ sym e) (sound.joins f.0.message f.0.known).1)
    (λ j. chain_known g sound rest a f.1 x j) i

-- every chain from a block of the problem runs within a rival
from_runs : (M : Model) (g : Problem) (rival : List Row) → Sound g → Rival M g rival → (b : ℕ) → In b g.blocks → (c : List ℕ) → ChainFrom g.messages b c → total g.time c ≤ length_of rival
from_runs M g rival sound v b i [] h = absurd h
from_runs M g rival sound v b i (a ∷ rest) h =
    let f : Follows g.messages a rest = subst (λ (x : ℕ). Follows g.messages x rest) (sym h.0) h.1 in
    chains_fit M g rival sound v (a ∷ rest) f
    (λ x j. ⊎_elim (λ (e : x ≡ a). subst (λ (z : ℕ). In z g.blocks) (sym (e ∙ h.0)) i) (chain_known g sound rest a f x) j)

pub rivals_outlast : RivalsOutlast
rivals_outlast M g rival sound v =
    let path : critical_path g.time g.messages g.blocks ≤ length_of rival =
    greatest_le (level g.time g.messages (length g.blocks)) g.blocks (length_of rival)
    (λ b i. greatest_le (total g.time) (chains g.messages (length g.blocks) b) (length_of rival)
    (λ c j. from_runs M g rival sound v b i c (only_chains g.messages (length g.blocks) b c j))) in
    record {
      path = path;
      cost = omega (arith, work_fits M g rival sound v, mul-le-mul_left M.processors path);
    }

pub valid_rival : ValidRival
valid_rival M g rows v = record {
  every = v.every;
  only = v.only;
  once = v.once;
  exists = v.exists;
  unbroken = v.unbroken;
  alone = v.alone;
  arrived = λ m i x y j k e f. omega (arith, v.arrived m i x y j k e f);
}
