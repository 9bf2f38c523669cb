-- One answer: two calls with the same arguments that meet a function's contract agree. The laws of the crates are of `Post`, the contract
-- as it stands at the function, so one that allowed two answers would have no such law. Assumes nothing.
use Prim.Native.Nat.{ℕ}
use mathlib.Core.Path.{◌≡◌}
use mathlib.Core.List.{List}
use contract.Lifetimes.{Lfts}
use denote.Triple.Clauses.{AtExit}
use borrow.Fn.Kinds.{ParamKind, ResultKind, Out, Dens, res_t, ended_of}

-- `Same` says what holds of both results, x and y, and of what both calls leave in all that was lent, s and t
abbrev pub Agrees : (n : ℕ) (ps : List (ParamKind n)) (r : ResultKind n) → Out n ps r
    → ((κs : Lfts n) → (res_t r κs).Denot → (res_t r κs).Denot → AtExit (ended_of n ps r) κs → AtExit (ended_of n ps r) κs → Type 0)
    → Type 0
Agrees n ps r Post Same = (κs : Lfts n) (a : Dens κs ps) (x y : (res_t r κs).Denot) (s t : AtExit (ended_of n ps r) κs)
    → Post κs a x s
    → Post κs a y t
    → Same κs x y s t

-- of a function that writes in nothing lent: both results are equal
abbrev pub OneResult : (n : ℕ) (ps : List (ParamKind n)) (r : ResultKind n) → Out n ps r → Type 0
OneResult n ps r Post = Agrees n ps r Post (λ κs x y s t. x ≡ y)
