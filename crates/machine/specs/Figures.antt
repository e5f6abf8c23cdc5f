-- The seven figures of a bus or a cube: their limits, and the times that they give. Assumes nothing.
use Rattle.std.specs.Prelude.{ℕ, ◌+◌, ◌*◌, Bool, cond, not, is_some, Some, None, Option, nat_lt}
use Rattle.machine.specs.declared.figures.Figures.{Figures}

-- The place of the first figure above its limit, from 1, if there is one:
-- a base is at most 10,000, a unit at most 99, the starting time at most 100,000.
abbrev pub first_large : Figures → Option ℕ
first_large f =
    cond (nat_lt 10000 f.delay_base) (Some 1)
    (cond (nat_lt 99 f.delay_unit) (Some 2)
    (cond (nat_lt 100000 f.startup) (Some 3)
    (cond (nat_lt 10000 f.reading_base) (Some 4)
    (cond (nat_lt 99 f.reading_unit) (Some 5)
    (cond (nat_lt 10000 f.writing_base) (Some 6)
    (cond (nat_lt 99 f.writing_unit) (Some 7) None))))))

-- whether each figure is within its limit
abbrev pub fitting : Figures → Bool
fitting f = not (is_some (first_large f))

-- a base, and a unit for each unit of the size
abbrev pub linear : ℕ → ℕ → ℕ → ℕ
linear base unit size = base + unit * size

-- the delay of one step between processors
abbrev pub step_delay : Figures → ℕ → ℕ
step_delay f s = linear f.delay_base f.delay_unit s

abbrev pub reading_time : Figures → ℕ → ℕ
reading_time f s = linear f.reading_base f.reading_unit s

abbrev pub writing_time : Figures → ℕ → ℕ
writing_time f s = linear f.writing_base f.writing_unit s
