-- The layer, the number and the place of each refusal of a machine, case by case, and what it prints. Assumes nothing.
use Rattle.std.specs.Prelude.{ℕ, List, ◌++◌, codes, decimal}
use Rattle.machine.specs.declared.refusal.MachineRefusal.{MachineRefusal}
use Rattle.machine.specs.declared.refusal.MachineRefusal.TheVariants.{NoSuchProcessor, SizeTooLarge, ProcessorCount, FigureTooLarge}

-- machines are the third layer
abbrev pub layer_of : MachineRefusal → ℕ
layer_of why = 3

abbrev pub number_of : MachineRefusal → ℕ
number_of (NoSuchProcessor processor) = 25
number_of SizeTooLarge = 26
number_of (ProcessorCount processors) = 27
number_of (FigureTooLarge figure) = 28

-- the processor, nothing, the number of processors, the figure by its place from 1 to 7
abbrev pub place_of : MachineRefusal → ℕ
place_of (NoSuchProcessor processor) = processor
place_of SizeTooLarge = 0
place_of (ProcessorCount processors) = processors
place_of (FigureTooLarge figure) = figure

-- what a refusal prints: its layer, its number and its place, with single spaces
abbrev pub text_of : MachineRefusal → List ℕ
text_of why = decimal (layer_of why) ++ codes " " ++ decimal (number_of why) ++ codes " " ++ decimal (place_of why)
