-- The best of the counting figure is how many chains the list has.
use Rattle.std.proofs.Common.{◌≡◌, ℕ, zero, suc, ◌+◌, ◌%◌, ◌^◌, ◌<◌, List, [], ◌∷◌, map, length, fold, refl, ap, ◌∙◌, arith}
use Rattle.std.specs.List.{flat_map}
use Rattle.chains.specs.Chains.{successors, rests, chains}
use Rattle.chains.specs.Figures.{BestAtEach, value_from, value, best}
use Rattle.chains.specs.declared.message.Message.{Message}
use Rattle.chains_tests.specs.Counts.{CountedAtEach, counts}

one : (b : ℕ) (r : List ℕ) → value_from counts b r ≡ 1
one b [] = refl
one b (s ∷ r) = one s r

one_of : (c : List ℕ) → value counts c ≡ 1
one_of [] = refl
one_of (b ∷ r) = one b r

counted : (x : ℕ) (cs : List (List ℕ)) → x < 2 ^ 64 → fold counts.better x (map (value counts) cs) ≡ (x + length cs) % 2 ^ 64
counted x [] h = omega arith
counted x (c ∷ cs) h =
    let e : value counts c ≡ 1 = one_of c in
    let l : (x + value counts c) % 2 ^ 64 < 2 ^ 64 = omega arith in
    let r : fold counts.better ((x + value counts c) % 2 ^ 64) (map (value counts) cs) ≡ ((x + value counts c) % 2 ^ 64 + length cs) % 2 ^ 64 = counted ((x + value counts c) % 2 ^ 64) cs l in
    omega arith

pub best_counts : (ms : List Message) (n b : ℕ) → best counts ms n b ≡ length (chains ms n b) % 2 ^ 64
unfolding best
best_counts ms zero b = refl
best_counts ms (suc n) b =
    let more = map (λ r. b ∷ r) (flat_map (λ s. map (λ r. s ∷ r) (rests ms n s)) (successors ms b)) in
    let e : fold counts.better 1 (map (value counts) more) ≡ (1 + length more) % 2 ^ 64 = counted 1 more (omega arith) in
    e ∙ ap (λ k. k % 2 ^ 64) (let z : 1 + length more ≡ suc (length more) = omega arith in z)

-- what a run of the figure leaves
pub counted_at_each : (ms : List Message) (order before after : List ℕ) → BestAtEach counts ms order before after → CountedAtEach ms order before after
counted_at_each ms order before after h = record {
  found = λ b i. h.values b 0 i ∙ best_counts ms (length order) b;
  kept = λ b out. h.kept b 0 out;
}
