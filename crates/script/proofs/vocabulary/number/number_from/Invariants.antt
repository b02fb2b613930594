use Rattle.std.proofs.Common.{◌≡◌, drop}
use Rattle.script.specs.vocabulary.Numbers.{number_from}
use Rattle.script.proofs.vocabulary.number.number_from.Given as goal

abbrev pub invariant-loop-byte : goal.invariant-loop-byte
invariant-loop-byte l = number_from l.radix l.number (drop l.byte-index l.digits) ≡ number_from l.radix 0 l.digits
