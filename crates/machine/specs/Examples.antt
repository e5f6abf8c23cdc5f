-- A worked example of the rules. Assumes nothing.
use Rattle.std.specs.Prelude.{◌≡◌, Ok}
use Rattle.machine.specs.declared.figures.Figures.{Figures}
use Rattle.machine.specs.Kinds.{cube_model}
use Rattle.machine.specs.Layers.{waited}
use Rattle.machine.specs.Model.{delay_answer}

-- delay base 1 and delay unit 1, and no other times
abbrev pub unit_figures : Figures
unit_figures = record {
  delay_base = 1;
  delay_unit = 1;
  startup = 0;
  reading_base = 0;
  reading_unit = 0;
  writing_base = 0;
  writing_unit = 0;
}

-- On a cube of four processors the delay from 0 to 3 for size 2 is two steps of 3, which is 6; with a wait of 5 it is 11.
pub record CubeExample : Type 0 where
  pub plain : delay_answer (cube_model 4 unit_figures) 0 3 2 ≡ Ok 6
  pub waiting : delay_answer (waited 5 (cube_model 4 unit_figures)) 0 3 2 ≡ Ok 11
