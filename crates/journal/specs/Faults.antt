-- What is wrong with a field that was read as a number or as words. Assumes nothing.
use Rattle.text.specs.declared.NumberError.{NumberError}
use Rattle.text.specs.declared.NumberError.TheVariants.{NoDigits, NotDigit, TooLarge}
use Rattle.text.specs.declared.items.WordError.{WordError}
use Rattle.text.specs.declared.items.WordError.TheVariants as word
use Rattle.journal.specs.declared.fault.Fault.{Fault}
use Rattle.journal.specs.declared.fault.Fault.TheVariants.{NotNumber, LargeNumber, NotKey}

abbrev pub number_fault : NumberError → Fault
number_fault NoDigits = NotNumber
number_fault NotDigit = NotNumber
number_fault TooLarge = LargeNumber

abbrev pub word_fault : WordError → Fault
word_fault word.NotWord = NotNumber
word_fault word.LargeWord = LargeNumber
word_fault word.NotKey = NotKey
