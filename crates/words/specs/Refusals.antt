-- The refusals and their numbers. Where several apply to a call, the least number is given.
use Rattle.std.specs.Prelude.{ℕ}
use Rattle.words.specs.declared.refusal.Refusal.{Refusal}
use Rattle.words.specs.declared.refusal.Refusal.TheVariants.{CoreNotWholeBlocks, TooManyPlaces, PlaceOutsideCore, PlacesOverlap, AllowanceTooLarge, BadRecord, NoSuchPlace, WrongState, AddressOutsidePlace, NotAWord, BadStepsOrSkip, AllowanceExceeded, AddressOutsideCore}

abbrev pub number_of : Refusal → ℕ
number_of CoreNotWholeBlocks = 1
number_of TooManyPlaces = 2
number_of PlaceOutsideCore = 3
number_of PlacesOverlap = 4
number_of AllowanceTooLarge = 5
number_of BadRecord = 6
number_of NoSuchPlace = 7
number_of WrongState = 8
number_of AddressOutsidePlace = 9
number_of NotAWord = 10
number_of BadStepsOrSkip = 11
number_of AllowanceExceeded = 12
number_of AddressOutsideCore = 13
