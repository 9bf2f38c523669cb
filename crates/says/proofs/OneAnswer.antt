-- `says::write_closing` and `says::write_making` have one answer: two that a contract allows for the same arguments are equal, and so are the
-- outputs they leave. `Post` is the contract of a function, as it stands at the function. Assumes nothing.
use mathlib.Core.Path.{◌≡◌, sym, ◌∙◌}
use Rattle.rules.proofs.Agreed.{Agrees}
use Rattle.says.proofs.closing.write_closing.Kinds as write-closing-kinds
use Rattle.says.proofs.closing.write_closing.Reads as write-closing
use Rattle.says.proofs.closing.write_making.Kinds as write-making-kinds
use Rattle.says.proofs.closing.write_making.Reads as write-making

pub one_closing : Agrees 1 write-closing-kinds.ps write-closing-kinds.r write-closing.Post (λ κs x y s t. (x ≡ y) × (s.0.now ≡ t.0.now))
one_closing κs a x y s t p q = (p.0.count_is ∙ sym q.0.count_is, p.0.bytes ∙ sym q.0.bytes)

pub one_making : Agrees 1 write-making-kinds.ps write-making-kinds.r write-making.Post (λ κs x y s t. (x ≡ y) × (s.0.now ≡ t.0.now))
one_making κs a x y s t p q = (p.0.count_is ∙ sym q.0.count_is, p.0.bytes ∙ sym q.0.bytes)
