-- `make` has one answer: two that its contract allows for the same arguments are equal, and so are the outputs they leave. `Post` is the
-- contract of a function, as it stands at the function. Assumes nothing.
use mathlib.Core.Path.{◌≡◌, sym, ◌∙◌}
use Rattle.rules.proofs.Agreed.{Agrees}
use Rattle.making.proofs.make.Kinds as make-kinds
use Rattle.making.proofs.make.Reads as make

pub one_make : Agrees 3 make-kinds.ps make-kinds.r make.Post (λ κs x y s t. (x ≡ y) × (s.1.1.0.now ≡ t.1.1.0.now))
one_make κs a x y s t p q = (p.making_is ∙ sym q.making_is, p.out_is ∙ sym q.out_is)
