-- Orders of blocks by level and block time: what they say, their laws, and the kinds of order that there are.
use Rattle.std.specs.Prelude.{◌≡◌, ℕ, Bool, true, false, cond, ◌&&◌, ◌||◌, nat_lt}
use Rattle.std.specs.declared.cmp.Ordering.{Ordering}
use Rattle.std.specs.declared.cmp.Ordering.TheVariants.{Less, Equal, Greater}
use Rattle.schedule.specs.declared.priority.Standing.{Standing}
use Rattle.schedule.specs.declared.priority.Rank.{Rank}
use Rattle.schedule.specs.declared.priority.Rank.TheVariants.{Ahead, Even, Behind}

-- what an order says of the first block beside the second
abbrev pub Order : Type 0
Order = Standing → Standing → Rank

-- each case has a number
abbrev pub number_of : Rank → ℕ
number_of Ahead = 0
number_of Even = 1
number_of Behind = 2

-- what comes first of two is ahead
abbrev pub rank_of : Ordering → Rank
rank_of Less = Ahead
rank_of Equal = Even
rank_of Greater = Behind

abbrev pub is_ahead : Rank → Bool
is_ahead Ahead = true
is_ahead Even = false
is_ahead Behind = false

abbrev pub is_even : Rank → Bool
is_even Ahead = false
is_even Even = true
is_even Behind = false

-- what is said when the two are exchanged
abbrev pub reversed : Rank → Rank
reversed Ahead = Behind
reversed Even = Even
reversed Behind = Ahead

-- ahead or even
abbrev pub no_worse : Rank → Bool
no_worse r = is_ahead r || is_even r

-- a block is even with itself, exchange reverses the answer, and ahead-or-even is transitive
pub record Lawful (o : Order) : Type 0 where
  pub itself : (x : Standing) → o x x ≡ Even
  pub exchange : (x y : Standing) → o y x ≡ reversed (o x y)
  pub transitive : (x y z : Standing) → no_worse (o x y) ≡ true → no_worse (o y z) ≡ true → no_worse (o x z) ≡ true

-- the greater of two numbers is ahead
abbrev pub greater_first : ℕ → ℕ → Rank
greater_first x y = cond (nat_lt y x) Ahead (cond (nat_lt x y) Behind Even)

abbrev pub by_level : Order
by_level x y = greater_first x.level y.level

abbrev pub by_time : Order
by_time x y = greater_first x.time y.time

-- always even, so that block numbers decide
abbrev pub by_number : Order
by_number x y = Even

-- what the second says where the first says even
abbrev pub otherwise : Rank → Rank → Rank
otherwise Ahead r = Ahead
otherwise Even r = r
otherwise Behind r = Behind

abbrev pub refined : Order → Order → Order
refined first second x y = otherwise (first x y) (second x y)

-- a block is earlier in the order if it is ahead, or even with a smaller number
abbrev pub earlier : Order → (ℕ → Standing) → ℕ → ℕ → Bool
earlier o standing a b = is_ahead (o (standing a) (standing b)) || (is_even (o (standing a) (standing b)) && nat_lt a b)
