-- The number and the place of each refusal of a list of words, of layer 2, and the graph's refusal below it.
use Rattle.std.specs.Prelude.{ℕ, List, ◌++◌, Some, None, Option, codes, decimal}
use Rattle.graph.specs.declared.records.Refusal.{Refusal}
use Rattle.graph.specs.Refusals as graph
use Rattle.words.specs.declared.refusal.ReadRefusal.{ReadRefusal}
use Rattle.words.specs.declared.refusal.ReadRefusal.TheVariants.{TooFewWords, WrongEdition, CountTooLarge, WrongLength, WrongPointer, NotNamedOnce, Refused}

abbrev pub number_of : ReadRefusal → ℕ
number_of (TooFewWords n) = 19
number_of WrongEdition = 20
number_of (CountTooLarge w) = 21
number_of (WrongLength n) = 22
number_of (WrongPointer w) = 23
number_of (NotNamedOnce w) = 24
number_of (Refused w why) = graph.number_of why

abbrev pub place_of : ReadRefusal → ℕ
place_of (TooFewWords n) = n
place_of WrongEdition = 0
place_of (CountTooLarge w) = w
place_of (WrongLength n) = n
place_of (WrongPointer w) = w
place_of (NotNamedOnce w) = w
place_of (Refused w why) = w

abbrev pub below : ReadRefusal → Option Refusal
below (TooFewWords n) = None
below WrongEdition = None
below (CountTooLarge w) = None
below (WrongLength n) = None
below (WrongPointer w) = None
below (NotNamedOnce w) = None
below (Refused w why) = Some why

-- what a refusal is shown as: layer, number and place, and then the graph's refusal below it, as "2 4 11 1 4 9"
abbrev pub text_over : ℕ → ℕ → Option Refusal → List ℕ
text_over number place None = decimal 2 ++ codes " " ++ decimal number ++ codes " " ++ decimal place
text_over number place (Some why) = decimal 2 ++ codes " " ++ decimal number ++ codes " " ++ decimal place ++ codes " " ++ graph.text_of why

abbrev pub text_of : ReadRefusal → List ℕ
text_of why = text_over (number_of why) (place_of why) (below why)
