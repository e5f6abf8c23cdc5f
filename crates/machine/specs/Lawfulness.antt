-- The bus and the cube keep the laws of a kind, and every rack of such a kind the laws of a machine. Assumes nothing.
use Rattle.std.specs.Prelude.{◌≡◌, ℕ, Bool, cond, ◌*◌, ◌<◌, ◌≤◌, true, ◌==◌, bit_xor, refl}
use Rattle.std.proofs.Common.{ap, ◌∙◌, mul-le-mul, mul-zero, le_trans, arith}
use Rattle.std.specs.Int.Bits.{xor_self}
use Rattle.std.proofs.lemmas.Nat.{xor_lt, ones-le}
use Rattle.std.specs.Int.Count.{ones}
use Rattle.std.proofs.lemmas.Bool.{eq-eqb, cond_both, cond-true}
use Rattle.std.proofs.lemmas.Bool.Decides.{nat_tests}
use Rattle.machine.specs.declared.figures.Figures.{Figures}
use Rattle.machine.specs.Figures.{fitting, linear, step_delay}
use Rattle.machine.specs.Kinds.{KindLaws, bus_allows, bus_delay, bus_model, bus_steps, cube_allows, cube_delay, cube_model, cube_steps, figured, rack_delay, rack_model}
use Rattle.machine.specs.Model.{Lawful}

-- each figure is within its limit
pub record Within (f : Figures) : Type 0 where
  pub delay_base : f.delay_base ≤ 10000
  pub delay_unit : f.delay_unit ≤ 99
  pub startup : f.startup ≤ 100000
  pub reading_base : f.reading_base ≤ 10000
  pub reading_unit : f.reading_unit ≤ 99
  pub writing_base : f.writing_base ≤ 10000
  pub writing_unit : f.writing_unit ≤ 99

pub within : (f : Figures) → fitting f ≡ true → Within f
within f e = record {
  delay_base = grind (arith, nat_tests);
  delay_unit = grind (arith, nat_tests);
  startup = grind (arith, nat_tests);
  reading_base = grind (arith, nat_tests);
  reading_unit = grind (arith, nat_tests);
  writing_base = grind (arith, nat_tests);
  writing_unit = grind (arith, nat_tests);
}

-- a time at any size that is allowed
linear_le : (b u s : ℕ) → b ≤ 10000 → u ≤ 99 → s ≤ 1000000 → linear b u s ≤ 99010000
linear_le b u s hb hu hs = omega (arith, mul-le-mul hu hs)

pub step_le : (f : Figures) (s : ℕ) → fitting f ≡ true → s ≤ 1000000 → step_delay f s ≤ 99010000
step_le f s e hs =
    let w = within f e in linear_le f.delay_base f.delay_unit s w.delay_base w.delay_unit hs

-- a machine with figures within their limits is lawful where its delay is
pub figured_lawful : (p : ℕ) (d : ℕ → ℕ → ℕ → ℕ) (f : Figures) → 1 ≤ p → p ≤ 32 → fitting f ≡ true → ((q s : ℕ) → d q q s ≡ 0) → ((a b s : ℕ) → a < p → b < p → s ≤ 1000000 → d a b s ≤ 1000000000) → Lawful (figured p d f)
figured_lawful p d f lo hi e still near =
    let w = within f e in record {
      some = lo;
      few = hi;
      still = λ q s _ _. still q s;
      near = near;
      prompt = w.startup;
      reads = λ s hs. omega (arith, linear_le f.reading_base f.reading_unit s w.reading_base w.reading_unit hs);
      writes = λ s hs. omega (arith, linear_le f.writing_base f.writing_unit s w.writing_base w.writing_unit hs);
    }

-- no step takes no time
rack_still : (steps : ℕ → ℕ → ℕ) (f : Figures) (q s : ℕ) → steps q q ≡ 0 → rack_delay steps f q q s ≡ 0
rack_still steps f q s none = ap (λ h. step_delay f s * h) none ∙ mul-zero _

-- few steps are within the limit of a delay
pub rack_near : (steps : ℕ → ℕ → ℕ) (f : Figures) (a b s : ℕ) → fitting f ≡ true → s ≤ 1000000 → steps a b ≤ 5 → rack_delay steps f a b s ≤ 1000000000
rack_near steps f a b s e hs few = le_trans (mul-le-mul (step_le f s e hs) few) (omega arith)

-- a rack of a lawful kind with figures within their limits is a lawful machine
pub rack_lawful : (allows : ℕ → Bool) (steps : ℕ → ℕ → ℕ) → KindLaws allows steps → (p : ℕ) (f : Figures) → allows p ≡ true → fitting f ≡ true → Lawful (rack_model steps p f)
rack_lawful allows steps k p f ok e =
    figured_lawful p (rack_delay steps f) f (k.some p ok) (k.few p ok) e (λ q s. rack_still steps f q s (k.still q)) (λ a b s ha hb hs. rack_near steps f a b s e hs (k.near p a b ok ha hb))

bus_steps_near : (a b : ℕ) → bus_steps a b ≤ 5
bus_steps_near a b = cond_both (a == b) 0 1 (λ x. x ≤ 5) (λ _. omega arith) (λ _. omega arith)

pub bus_laws : KindLaws bus_allows bus_steps
bus_laws = record {
  some = λ p ok. grind (arith, nat_tests);
  few = λ p ok. grind (arith, nat_tests);
  still = λ q. cond-true (q == q) 0 1 (eq-eqb q q refl);
  near = λ p a b _ _ _. bus_steps_near a b;
}

pub bus_still : (f : Figures) (q s : ℕ) → bus_delay f q q s ≡ 0
bus_still f q s = rack_still bus_steps f q s (bus_laws.still q)

pub bus_near : (f : Figures) (a b s : ℕ) → fitting f ≡ true → s ≤ 1000000 → bus_delay f a b s ≤ 1000000000
bus_near f a b s e hs = rack_near bus_steps f a b s e hs (bus_steps_near a b)

pub bus_lawful : (p : ℕ) (f : Figures) → bus_allows p ≡ true → fitting f ≡ true → Lawful (bus_model p f)
bus_lawful p f ok e = rack_lawful bus_allows bus_steps bus_laws p f ok e

-- the delay between two different processors of a bus is that of one step
pub bus_step : (f : Figures) (a b s : ℕ) → bus_delay f a b s ≡ cond (a == b) 0 (step_delay f s)
bus_step f a b s = grind (arith, nat_tests)

pub cube_few : (p : ℕ) → cube_allows p ≡ true → p ≤ 32
cube_few p ok = grind (arith, nat_tests)

-- two processors of a cube differ in five bits at most
pub differing_le : (a b p : ℕ) → cube_allows p ≡ true → a < p → b < p → ones (bit_xor a b) ≤ 5
differing_le a b p ok ha hb =
    let hp = cube_few p ok in ones-le 5 (bit_xor a b) (xor_lt 5 a b (omega arith) (omega arith))

differing_self : (a : ℕ) → ones (bit_xor a a) ≡ 0
unfolding ones
differing_self a = ap ones (xor_self a)

pub cube_laws : KindLaws cube_allows cube_steps
cube_laws = record {
  some = λ p ok. grind (arith, nat_tests);
  few = λ p ok. cube_few p ok;
  still = λ q. differing_self q;
  near = λ p a b ok ha hb. differing_le a b p ok ha hb;
}

pub cube_still : (f : Figures) (q s : ℕ) → cube_delay f q q s ≡ 0
cube_still f q s = rack_still cube_steps f q s (cube_laws.still q)

pub cube_near : (p : ℕ) (f : Figures) (a b s : ℕ) → cube_allows p ≡ true → fitting f ≡ true → a < p → b < p → s ≤ 1000000 → cube_delay f a b s ≤ 1000000000
cube_near p f a b s ok e ha hb hs = rack_near cube_steps f a b s e hs (differing_le a b p ok ha hb)

pub cube_lawful : (p : ℕ) (f : Figures) → cube_allows p ≡ true → fitting f ≡ true → Lawful (cube_model p f)
cube_lawful p f ok e = rack_lawful cube_allows cube_steps cube_laws p f ok e
