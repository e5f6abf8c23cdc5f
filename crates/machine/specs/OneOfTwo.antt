-- A machine of one of two types means what that one means. Assumes nothing.
use Rattle.either.specs.declared.Either.{Either}
use Rattle.either.specs.Either.{either}
use Rattle.machine.specs.Model.{Model}

abbrev pub either_model : {L R : Type 0} → (L → Model) → (R → Model) → Either L R → Model
either_model left right machine = either left right machine
