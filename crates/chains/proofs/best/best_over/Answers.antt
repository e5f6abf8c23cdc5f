use Rattle.std.proofs.Common.{◌≡◌, ℕ, ◌+◌, ◌≤◌, map, length, fold, get_or, replicate, take, sym, refl, ap, ◌∙◌, subst, ⊎_elim, arith, rules}
use Rattle.std.specs.Iterator.Adapters.{rev_source}
use Rattle.std.specs.Slice.Iter.{iter_rest}
use Rattle.std.proofs.lemmas.List.{get_or-set_other, take_all}
use Rattle.std.proofs.lemmas.Bool.{cases_eq}
use Rattle.chains.specs.Lists.{In}
use Rattle.chains.specs.Chains.{place, successors}
use Rattle.chains.proofs.Lists.{in_place, all_same}
use Rattle.chains.proofs.Orders.{Last, ends, last}
use Rattle.chains.proofs.Bests.{Done, done_more}
use Rattle.chains.proofs.Every.{enumerates}
use Rattle.chains.proofs.best.best_over.Goals as goal

pub gather-links-requires-clause-ends : goal.gather-links-requires-clause-ends
gather-links-requires-clause-ends g c = ends c.args.messages.now c.args.order.now c.requires

pub loop-block-init : goal.loop-block-init
loop-block-init g c =
    let order = c.args.order.now in
    let rest = iter_rest (rev_source c.into_iter-block-iterator.result) in
    let all : rest ≡ order = ap (λ i. iter_rest (rev_source i)) c.into_iter-block-iterator.ensures.into_iter_gives ∙ ap iter_rest c.rev-block-items.ensures.source ∙ c.iter.ensures.rest in
    let long : length rest ≡ length order = ap length all in (
      ap (λ r. take (length r) order) all ∙ take_all (length order) order (omega arith) ∙ sym all,
      λ d b n low within _. absurd (omega arith),
      λ b d _. refl,
      λ s b low q. let z : ◌≡◌ {A = ℕ} (get_or (replicate 257 0) s 0) 0 = all_same {A = ℕ} 0 257 s in absurd (omega arith),
    )

pub best_from-value-requires : goal.best_from-value-requires
best_from-value-requires g c =
    let order = c.args.order.now in
    let b = c.in-Some.block.now in
    let t = last c.args.messages.now order c.requires _ _ b c.loop-block.invariant.0 c.in-Some.ensures.steps in
    let low : 1 ≤ b = t.low in
    let most : b ≤ 256 = t.most in (
      search rules,
      (
        most,
        λ s q. let longer : length (iter_rest (rev_source c.loop-block.block-iterator)) ≡ length (iter_rest (rev_source c.next.new.self)) + 1 = t.longer in
            let after : place order b ≡ length (iter_rest (rev_source c.next.new.self)) = t.after in
            let met : length (iter_rest (rev_source c.loop-block.block-iterator)) ≤ place order b = c.loop-block.invariant.3 s b low q in
            omega arith,
      ),
    )

pub offset_bounds-best-block : goal.offset_bounds-best-block
offset_bounds-best-block g c =
    let most : c.in-Some.block.now ≤ 256 = (last c.args.messages.now c.args.order.now c.requires _ _ _ c.loop-block.invariant.0 c.in-Some.ensures.steps).most in
    search rules

pub listed : goal.listed
listed g c =
    let most : c.in-Some.block.now ≤ 256 = (last c.args.messages.now c.args.order.now c.requires _ _ _ c.loop-block.invariant.0 c.in-Some.ensures.steps).most in
    omega (arith, c.type_inv.best)

pub bounds-best-block : goal.bounds-best-block
bounds-best-block g c =
    let most : c.in-Some.block.now ≤ 256 = (last c.args.messages.now c.args.order.now c.requires _ _ _ c.loop-block.invariant.0 c.in-Some.ensures.steps).most in
    omega arith

pub loop-block-preserved : goal.loop-block-preserved
loop-block-preserved g c =
    let m = g.F.ChainFigure in
    let f = c.args.figure.now in
    let ms = c.args.messages.now in
    let order = c.args.order.now in
    let b = c.in-Some.block.now in
    let less = iter_rest (rev_source c.next.new.self) in
    let t : Last order (iter_rest (rev_source c.loop-block.block-iterator)) less b = last ms order c.requires _ _ b c.loop-block.invariant.0 c.in-Some.ensures.steps in
    let size : length c.loop-block.best ≡ 257 = search rules in
    let D : ℕ → Type 0 = λ j. Done (m.meaning f) ms order c.loop-block.best j in
    let In-order : ℕ → Type 0 = λ y. In y order in (
      t.front,
      done_more (m.meaning f) (m.laws f) ms order c.requires c.loop-block.best (length less) b c.best_from-value.result t.inside t.at size (subst D t.longer c.loop-block.invariant.1)
          (λ d. c.best_from-value.ensures.value d ∙ ap (λ m'. fold (m.meaning f).better ((m.meaning f).alone b) (map (λ s. (m.meaning f).extended b s (get_or c.loop-block.best s d)) (successors m' b))) c.gather-links.ensures),
      λ x d no. get_or-set_other c.loop-block.best b x c.best_from-value.result d (λ e. no (subst In-order (sym e) t.listed)) ∙ c.loop-block.invariant.2 x d no,
      λ s x low q. ⊎_elim
          (λ (e : x ≡ b). let after : place order x ≡ length less = ap (place order) e ∙ t.after in omega arith)
          (λ (n : x ≡ b → ⊥).
          let longer : length (iter_rest (rev_source c.loop-block.block-iterator)) ≡ length less + 1 = t.longer in
          let met : length (iter_rest (rev_source c.loop-block.block-iterator)) ≤ place order x = c.loop-block.invariant.3 s x low (sym (c.best_from-value.ensures.others s (λ e. n (sym q ∙ e))) ∙ q) in
          omega arith)
          (cases_eq x b),
    )

pub returns-clause-bests : goal.returns-clause-bests
returns-clause-bests g c =
    let order = c.args.order.now in
    let none : length (iter_rest (rev_source c.loop-block.block-iterator)) ≡ 0 = c.in-None.ensures.steps.0 in
    record {
      values = λ b d i. c.loop-block.invariant.1 d b (length order) (omega arith) (in_place order b i) (omega arith);
      kept = c.loop-block.invariant.2;
    }

pub returns-clause-chains : goal.returns-clause-chains
returns-clause-chains g c = λ b i. enumerates c.args.messages.now c.args.order.now c.requires b i
