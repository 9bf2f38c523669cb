-- The two sides of a Result: each gives back what it was made of, and the one is never the other. Assumes nothing.
use Rattle.std.proofs.Common.{ℕ, ◌≡◌, Result, Ok, Err, arith}

pub same_ok : {A E : Type 0} {a b : A} → ◌≡◌ {A = Result A E} (Ok a) (Ok b) → a ≡ b
same_ok e = cc

pub same_err : {A E : Type 0} {a b : E} → ◌≡◌ {A = Result A E} (Err a) (Err b) → a ≡ b
same_err e = cc

pub ok_no_err : {A E C : Type 0} {a : A} {b : E} → ◌≡◌ {A = Result A E} (Ok a) (Err b) → C
ok_no_err e = let z : ◌≡◌ {A = ℕ} 0 1 = cc in let y : ⊥ = omega arith in absurd y

pub err_no_ok : {A E C : Type 0} {a : E} {b : A} → ◌≡◌ {A = Result A E} (Err a) (Ok b) → C
err_no_ok e = let z : ◌≡◌ {A = ℕ} 0 1 = cc in let y : ⊥ = omega arith in absurd y
