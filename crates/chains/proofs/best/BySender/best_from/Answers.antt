use Rattle.std.proofs.Common.{◌≡◌, ℕ, ◌<◌, ◌≤◌, Bool, true, false, List, Option, Some, Decides, map, length, get_or, drop, fold, sym, ap, ◌∙◌, subst, ⊎_elim, arith}
use Rattle.std.proofs.lemmas.Bool.{cases_Bool, true≢false}
use Rattle.chains.specs.Chains.{successors, has}
use Rattle.chains.specs.Links.{message_at, latest}
use Rattle.chains.proofs.Bests.{folded_more}
use Rattle.chains.proofs.Links.{Walked, upto, latest_le, none_met, walked_none, met_new, met_old, walked_new, walked_old}
use Rattle.chains.proofs.best.BySender.best_from.Goals as goal
use Rattle.chains.proofs.best.BySender.best_from.Goals.{then-first_time, else-first_time}

never : {P : Type 0} (x : Bool) → Decides x P → (P → ⊥) → x ≡ false
never x d not = ⊎_elim (λ t. absurd (not (d.0 t))) (λ f. f) (cases_Bool x)

surely : {P : Type 0} (x : Bool) → Decides x P → ((P → ⊥) → ⊥) → x ≡ true
surely x d so = ⊎_elim (λ t. t) (λ f. absurd (so (λ p. true≢false (sym (d.1 p) ∙ f)))) (cases_Bool x)

pub loop-at-init : goal.loop-at-init
loop-at-init g c =
    let f = g.F.ChainFigure.meaning c.args.figure.now in
    let b = c.args.block in
    let ms = c.args.self.now.messages.now in
    let at = c.last_from-at.result in
    let first : at ≡ latest ms b (length ms) = c.last_from-at.ensures in (
      walked_none ms b c.args.met.now at first c.told-met c.requires.fresh,
      λ d. c.alone-found.ensures ∙ sym (ap (λ ss. fold f.better (f.alone b) (map (λ s. f.extended b s (get_or c.args.best.now s d)) ss)) (none_met ms b c.args.met.now at first)),
    )

pub loop-at-smaller : goal.loop-at-smaller
loop-at-smaller g c =
    let ms = c.args.self.now.messages.now in
    let i = c.in-Some.i in
    let is : c.loop-at.at ≡ Some i = c.in-Some.is in
    let u : upto c.one_before-at.result ≡ upto (latest ms (message_at ms i).from i) = ap upto c.one_before-at.ensures in
    let l : upto (latest ms (message_at ms i).from i) ≤ i = latest_le ms (message_at ms i).from i in
    let v : upto c.loop-at.at ≡ upto (Some i) = ap upto is in
    omega arith

pub loop-at-preserved : goal.loop-at-preserved
loop-at-preserved g c =
    let f = g.F.ChainFigure.meaning c.args.figure.now in
    let laws = g.F.ChainFigure.laws c.args.figure.now in
    let b = c.args.block in
    let links = c.args.self.now in
    let ms = links.messages.now in
    let i = c.in-Some.i in
    let is : c.loop-at.at ≡ Some i = c.in-Some.is in
    let to = (message_at ms i).to in
    let at' = c.one_before-at.result in
    let met = c.loop-at.met in
    let before = c.args.met.now in
    let W : Option ℕ → Type 0 = λ p. Walked ms b before p met in
    let w : Walked ms b before (Some i) met = subst W is c.loop-at.invariant.0 in
    let inside : upto (Some i) ≤ length ms = w.inside in
    let lt : i < length ms = omega arith in
    let e : at' ≡ latest ms (message_at ms i).from i = c.one_before-at.ensures in
    let S = successors (drop (upto (Some i)) ms) b in
    let most : to ≤ 256 = links.receivers i lt in
    let small : to < 257 = omega arith in
    let value : g.row.F-Value.Denot → List ℕ → g.row.F-Value.Denot = λ d ss. fold f.better (f.alone b) (map (λ s. f.extended b s (get_or c.args.best.now s d)) ss) in
    let so_far : (d : g.row.F-Value.Denot) → c.loop-at.found ≡ value d S = λ d. c.loop-at.invariant.1 d ∙ ap (λ p. value d (successors (drop (upto p) ms) b)) is in
    let Q : List ℕ → Type 0 = λ m. Walked ms b before at' m in
    elim c.if-first_time.branch [
      | then-first_time x ↦
          let new : has to S ≡ false = never (has to S) (w.marked to small) (c.first_time.ensures.new.0 x.if-first_time.true) in (
            subst Q (sym c.first_time.ensures.after) (walked_new ms b before i at' met lt small e w new),
            λ d. x.found-is ∙ x.better_through-found.ensures d ∙ ap (λ v. f.better v (f.extended b to (get_or c.args.best.now to d))) (so_far d)
                ∙ sym (folded_more f laws (f.alone b) (f.extended b to (get_or c.args.best.now to d)) (map (λ s. f.extended b s (get_or c.args.best.now s d)) S))
                ∙ sym (ap (value d) (met_new ms b before i at' lt w.own e new)),
          )
      | else-first_time x ↦
          let old : has to S ≡ true = surely (has to S) (w.marked to small) (λ n. true≢false (sym (c.first_time.ensures.new.1 n) ∙ x.if-first_time.false)) in (
            subst Q (sym c.first_time.ensures.after) (walked_old ms b before i at' met lt small e w old),
            λ d. x.found-is ∙ so_far d ∙ sym (ap (value d) (met_old ms b before i at' lt w.own e old)),
          )
    ]

pub returns : goal.returns
returns g c =
    let f = g.F.ChainFigure.meaning c.args.figure.now in
    let b = c.args.block in
    let ms = c.args.self.now.messages.now in
    record {
      value = λ d. c.loop-at.invariant.1 d ∙ ap (λ p. fold f.better (f.alone b) (map (λ s. f.extended b s (get_or c.args.best.now s d)) (successors (drop (upto p) ms) b))) c.in_default.is;
      others = c.loop-at.invariant.0.others;
    }
