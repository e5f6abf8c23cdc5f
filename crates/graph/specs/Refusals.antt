-- The number, the place and the text of each refusal of a call on a graph. All are of layer 1.
use Rattle.std.specs.Prelude.{ℕ, List, ◌++◌, codes, decimal}
use Rattle.graph.specs.declared.records.Refusal.{Refusal}
use Rattle.graph.specs.declared.records.Refusal.TheVariants.{WrongStage, TimeOutOfRange, TooManyTasks, NoSuchTask, SelfLink, SizeTooLarge, AlreadyLinked, TooManyLinks, NoTask, Circle, OutputTooShort}

abbrev pub number_of : Refusal → ℕ
number_of WrongStage = 1
number_of TimeOutOfRange = 2
number_of TooManyTasks = 3
number_of (NoSuchTask t) = 4
number_of (SelfLink t) = 5
number_of SizeTooLarge = 6
number_of (AlreadyLinked l) = 7
number_of TooManyLinks = 8
number_of NoTask = 9
number_of (Circle t) = 10
number_of (OutputTooShort n) = 18

abbrev pub place_of : Refusal → ℕ
place_of WrongStage = 0
place_of TimeOutOfRange = 0
place_of TooManyTasks = 0
place_of (NoSuchTask t) = t
place_of (SelfLink t) = t
place_of SizeTooLarge = 0
place_of (AlreadyLinked l) = l
place_of TooManyLinks = 0
place_of NoTask = 0
place_of (Circle t) = t
place_of (OutputTooShort n) = n

-- what a refusal is shown as: layer, number and place
abbrev pub text_of : Refusal → List ℕ
text_of why = decimal 1 ++ codes " " ++ decimal (number_of why) ++ codes " " ++ decimal (place_of why)
