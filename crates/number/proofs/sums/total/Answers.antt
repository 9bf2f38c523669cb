-- `number::sums::total` meets its contract: the units are whole, so their halves are exact. Assumes nothing.
use Rattle.rules.proofs.Fractions.{whole_halves}
use Rattle.number.proofs.sums.total.Goals as goal

pub returns-then-v-lt999999995 : goal.returns-then-v-lt999999995
returns-then-v-lt999999995 c = c.settle.ensures _ (whole_halves c.args.v c.args.j)

pub returns-then-v-lt99999999500 : goal.returns-then-v-lt99999999500
returns-then-v-lt99999999500 c = c.settle-then-v-lt99999999500.ensures _ (whole_halves c.args.v c.args.j)

pub returns-then-v-lt9999999950000 : goal.returns-then-v-lt9999999950000
returns-then-v-lt9999999950000 c = c.settle-then-v-lt9999999950000.ensures _ (whole_halves c.args.v c.args.j)

pub returns-then-v-lt999999995000000 : goal.returns-then-v-lt999999995000000
returns-then-v-lt999999995000000 c = c.settle-then-v-lt999999995000000.ensures _ (whole_halves c.args.v c.args.j)

pub returns : goal.returns
returns c = c.settle-2.ensures _ (whole_halves c.args.v c.args.j)
