-- P1 to P13 hold: the thirteen steps are computed, all by one definition. Assumes nothing.
use mathlib.Core.Path.{refl}
use Rattle.rules.specs.Words
use Rattle.rules.specs.Rounding
use Rattle.rules.specs.Arithmetic
use Rattle.rules.specs.Codes
use Rattle.rules.specs.Orders
use Rattle.rules.specs.Running
use Rattle.promises.specs.Table.{AllRows, rows}

pub all_rows : AllRows
unfolding rows Words.is_number Rounding.nearest Rounding.place Rounding.placed Rounding.settled Rounding.grown Rounding.root_below Rounding.sum Rounding.sum_of Rounding.difference_of Rounding.product_of Rounding.quotient_of Rounding.root_of Arithmetic.add_of Arithmetic.sub_of Arithmetic.mpy_of Arithmetic.div_of Arithmetic.ngmpy_of Arithmetic.sqrt_of Codes.codes Codes.lookup Codes.code_in Codes.checked Orders.performed Orders.gone Running.obeyed Running.traced Running.fetched Running.step
all_rows = refl
