-- A number taken apart, as the definitions have it. Assumes nothing.
use Rattle.std.specs.Int.{from_bool}
use Rattle.rules.specs.Rounding.{Value}
use Rattle.number.specs.declared.operands.Operand.{Operand}

abbrev pub value_of : Operand → Value
value_of x = record { sign = from_bool x.minus; leading = x.digits; exponent = x.exponent }
