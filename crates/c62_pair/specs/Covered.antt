-- The bytes of an access, as the definition of dependences counts them.
use Rattle.c62_rules.specs.Dependence.{Range}
use Rattle.c62_pair.specs.declared.covered.Covered.{Covered}

abbrev pub range_is : Covered → Range
range_is bytes = record { base = bytes.base; begin = bytes.begin; size = bytes.size }
