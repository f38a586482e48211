-- Why digits are refused.
use Rattle.notation.specs.declared.why.Why.{Why}
use Rattle.notation.specs.declared.why.Why.TheVariants.{NoHex, OutOfMemory}
use Rattle.hex.specs.declared.error.FromHexError.{FromHexError}
use Rattle.hex.specs.declared.error.FromHexError.TheVariants.{InvalidHexCharacter, OddLength, InvalidStringLength, OutOfMemory as NoMemory}

-- a refusal of the digits themselves, or the want of memory
abbrev pub of_hex : FromHexError → Why
of_hex (InvalidHexCharacter c i) = NoHex
of_hex OddLength = NoHex
of_hex InvalidStringLength = NoHex
of_hex NoMemory = OutOfMemory
