-- The bus and the cube: which there are, and what each means. Assumes nothing.
use Rattle.std.specs.Prelude.{◌≡◌, ℕ, ◌*◌, ◌<◌, ◌≤◌, true, Bool, cond, ◌&&◌, ◌||◌, Some, None, Option, ◌==◌, bit_xor, count_ones, nat_le}
use Rattle.machine.specs.declared.figures.Figures.{Figures}
use Rattle.machine.specs.declared.refusal.MachineRefusal.{MachineRefusal}
use Rattle.machine.specs.declared.refusal.MachineRefusal.TheVariants.{ProcessorCount, FigureTooLarge}
use Rattle.machine.specs.Figures.{first_large, step_delay, reading_time, writing_time}
use Rattle.machine.specs.Model.{Model}

-- the refusal of the figure at a place, if there is one
abbrev pub figure_refusal : Option ℕ → Option MachineRefusal
figure_refusal None = None
figure_refusal (Some place) = Some (FigureTooLarge place)

-- Why a machine of p processors with these figures cannot be made, if so: a number of processors that is not allowed
-- comes before a figure above its limit.
abbrev pub making_refusal : Bool → ℕ → Figures → Option MachineRefusal
making_refusal allowed p f = cond allowed (figure_refusal (first_large f)) (Some (ProcessorCount p))

-- a bus has 1 to 32 processors
abbrev pub bus_allows : ℕ → Bool
bus_allows p = nat_le 1 p && nat_le p 32

-- a cube has 1, 2, 4, 8, 16 or 32 processors
abbrev pub cube_allows : ℕ → Bool
cube_allows p = p == 1 || (p == 2 || (p == 4 || (p == 8 || (p == 16 || p == 32))))

-- The laws of each kind of rack: an allowed number of processors is 1 to 32; there is no step from a processor to
-- itself, and there are at most five steps from one processor of a rack to another.
pub record KindLaws (allows : ℕ → Bool) (steps : ℕ → ℕ → ℕ) : Type 0 where
  pub some : (p : ℕ) → allows p ≡ true → 1 ≤ p
  pub few : (p : ℕ) → allows p ≡ true → p ≤ 32
  pub still : (q : ℕ) → steps q q ≡ 0
  pub near : (p a b : ℕ) → allows p ≡ true → a < p → b < p → steps a b ≤ 5

-- one step between any two different processors of a bus
abbrev pub bus_steps : ℕ → ℕ → ℕ
bus_steps a b = cond (a == b) 0 1

-- a step for each bit in which two processor numbers of a cube differ
abbrev pub cube_steps : ℕ → ℕ → ℕ
cube_steps a b = count_ones (bit_xor a b)

-- a message takes the delay of one step for each of these steps
abbrev pub rack_delay : (ℕ → ℕ → ℕ) → Figures → ℕ → ℕ → ℕ → ℕ
rack_delay steps f a b s = step_delay f s * steps a b

-- one step between any two different processors
abbrev pub bus_delay : Figures → ℕ → ℕ → ℕ → ℕ
bus_delay f a b s = rack_delay bus_steps f a b s

-- a step for each bit in which the two processor numbers differ
abbrev pub cube_delay : Figures → ℕ → ℕ → ℕ → ℕ
cube_delay f a b s = rack_delay cube_steps f a b s

-- a machine of p processors with this delay, and all other times by its figures
abbrev pub figured : ℕ → (ℕ → ℕ → ℕ → ℕ) → Figures → Model
figured p delay f = record {
  processors = p;
  delay = delay;
  startup = f.startup;
  reading = λ s. reading_time f s;
  writing = λ s. writing_time f s;
}

-- a rack of p processors with these steps between them
abbrev pub rack_model : (ℕ → ℕ → ℕ) → ℕ → Figures → Model
rack_model steps p f = figured p (rack_delay steps f) f

abbrev pub bus_model : ℕ → Figures → Model
bus_model p f = rack_model bus_steps p f

abbrev pub cube_model : ℕ → Figures → Model
cube_model p f = rack_model cube_steps p f
