-- What a `?` that meets a refusal answers. Assumes nothing.
use Rattle.std.proofs.Common.{Err, Ok, None, Option, Result, Some, ◌≡◌, ap, refl, sym, ◌∙◌}
use Rattle.std.specs.Option.{ok_or}
use Rattle.std.specs.Result.{IsErrAnd}
use Rattle.std.proofs.lemmas.Result.{err_from_is_err_and}
use Rattle.rules.proofs.Sides.{same_ok, same_err, ok_no_err, err_no_ok}

pub refused_as : {T E : Type 0} (r : Result T E) {e : E} → IsErrAnd r (λ y. y ≡ e) → r ≡ Err e
refused_as r h = let p = err_from_is_err_and r h in p.1 ∙ ap Err p.2

-- what `ok_or` and `?` make of an Option: its value, or the refusal that stands for none
pub some_of : {T E : Type 0} (e : E) (o : Option T) {q : Result T E} {x : T} → q ≡ ok_or o e → q ≡ Ok x → o ≡ Some x
some_of e None q w = err_no_ok (sym q ∙ w)
some_of e (Some y) q w = ap Some (same_ok (sym q ∙ w))

pub none_of : {T U E : Type 0} (e : E) (o : Option T) (r : Result U E) {q : Result T E} {f : E} → q ≡ ok_or o e → q ≡ Err f → IsErrAnd r (λ y. y ≡ f)
    → (o ≡ None) × (r ≡ Err e)
none_of e None r q w h = (refl, refused_as r h ∙ ap Err (sym (same_err (sym q ∙ w))))
none_of e (Some y) r q w h = ok_no_err (sym q ∙ w)
