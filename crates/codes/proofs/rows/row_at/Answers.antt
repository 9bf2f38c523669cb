-- `codes::rows::row_at` meets its contract: each arm is the row of the table with its number. Assumes nothing.
use Prim.Native.Nat.{ℕ, ◌<◌, ◌≤◌}
use mathlib.Core.Path.{◌≡◌, sym, ap}
use native.Mathlib.Omega.{arith}
use Rattle.rules.specs.Bytes.{bytes}
use Rattle.rules.specs.Codes.{codes}
use Rattle.codes.specs.Rows.{code_at, name_at, row_built}
use Rattle.codes.proofs.Found.{past}
use Rattle.codes.proofs.rows.row_at.Goals as goal

-- the row is the nth
arm : (n : ℕ) {i : ℕ} → i ≡ n → (code_at n codes ≡ code_at i codes) × (row_built n codes ≡ row_built i codes) × (name_at n codes ≡ name_at i codes)
arm n e = (
  ap (λ (i : ℕ). code_at i codes) (sym e),
  ap (λ (i : ℕ). row_built i codes) (sym e),
  ap (λ (i : ℕ). name_at i codes) (sym e),
)

last : (i : ℕ) → i < 40 → 39 ≤ i → i ≡ 39
last i l g = omega arith

pub returns-in-0 : goal.returns-in-0
unfolding codes bytes
returns-in-0 c = arm 0 c.in-0.is

pub returns-in-1 : goal.returns-in-1
unfolding codes bytes
returns-in-1 c = arm 1 c.in-1.is

pub returns-in-2 : goal.returns-in-2
unfolding codes bytes
returns-in-2 c = arm 2 c.in-2.is

pub returns-in-3 : goal.returns-in-3
unfolding codes bytes
returns-in-3 c = arm 3 c.in-3.is

pub returns-in-4 : goal.returns-in-4
unfolding codes bytes
returns-in-4 c = arm 4 c.in-4.is

pub returns-in-5 : goal.returns-in-5
unfolding codes bytes
returns-in-5 c = arm 5 c.in-5.is

pub returns-in-6 : goal.returns-in-6
unfolding codes bytes
returns-in-6 c = arm 6 c.in-6.is

pub returns-in-7 : goal.returns-in-7
unfolding codes bytes
returns-in-7 c = arm 7 c.in-7.is

pub returns-in-8 : goal.returns-in-8
unfolding codes bytes
returns-in-8 c = arm 8 c.in-8.is

pub returns-in-9 : goal.returns-in-9
unfolding codes bytes
returns-in-9 c = arm 9 c.in-9.is

pub returns-in-10 : goal.returns-in-10
unfolding codes bytes
returns-in-10 c = arm 10 c.in-10.is

pub returns-in-11 : goal.returns-in-11
unfolding codes bytes
returns-in-11 c = arm 11 c.in-11.is

pub returns-in-12 : goal.returns-in-12
unfolding codes bytes
returns-in-12 c = arm 12 c.in-12.is

pub returns-in-13 : goal.returns-in-13
unfolding codes bytes
returns-in-13 c = arm 13 c.in-13.is

pub returns-in-14 : goal.returns-in-14
unfolding codes bytes
returns-in-14 c = arm 14 c.in-14.is

pub returns-in-15 : goal.returns-in-15
unfolding codes bytes
returns-in-15 c = arm 15 c.in-15.is

pub returns-in-16 : goal.returns-in-16
unfolding codes bytes
returns-in-16 c = arm 16 c.in-16.is

pub returns-in-17 : goal.returns-in-17
unfolding codes bytes
returns-in-17 c = arm 17 c.in-17.is

pub returns-in-18 : goal.returns-in-18
unfolding codes bytes
returns-in-18 c = arm 18 c.in-18.is

pub returns-in-19 : goal.returns-in-19
unfolding codes bytes
returns-in-19 c = arm 19 c.in-19.is

pub returns-in-20 : goal.returns-in-20
unfolding codes bytes
returns-in-20 c = arm 20 c.in-20.is

pub returns-in-21 : goal.returns-in-21
unfolding codes bytes
returns-in-21 c = arm 21 c.in-21.is

pub returns-in-22 : goal.returns-in-22
unfolding codes bytes
returns-in-22 c = arm 22 c.in-22.is

pub returns-in-23 : goal.returns-in-23
unfolding codes bytes
returns-in-23 c = arm 23 c.in-23.is

pub returns-in-24 : goal.returns-in-24
unfolding codes bytes
returns-in-24 c = arm 24 c.in-24.is

pub returns-in-25 : goal.returns-in-25
unfolding codes bytes
returns-in-25 c = arm 25 c.in-25.is

pub returns-in-26 : goal.returns-in-26
unfolding codes bytes
returns-in-26 c = arm 26 c.in-26.is

pub returns-in-27 : goal.returns-in-27
unfolding codes bytes
returns-in-27 c = arm 27 c.in-27.is

pub returns-in-28 : goal.returns-in-28
unfolding codes bytes
returns-in-28 c = arm 28 c.in-28.is

pub returns-in-29 : goal.returns-in-29
unfolding codes bytes
returns-in-29 c = arm 29 c.in-29.is

pub returns-in-30 : goal.returns-in-30
unfolding codes bytes
returns-in-30 c = arm 30 c.in-30.is

pub returns-in-31 : goal.returns-in-31
unfolding codes bytes
returns-in-31 c = arm 31 c.in-31.is

pub returns-in-32 : goal.returns-in-32
unfolding codes bytes
returns-in-32 c = arm 32 c.in-32.is

pub returns-in-33 : goal.returns-in-33
unfolding codes bytes
returns-in-33 c = arm 33 c.in-33.is

pub returns-in-34 : goal.returns-in-34
unfolding codes bytes
returns-in-34 c = arm 34 c.in-34.is

pub returns-in-35 : goal.returns-in-35
unfolding codes bytes
returns-in-35 c = arm 35 c.in-35.is

pub returns-in-36 : goal.returns-in-36
unfolding codes bytes
returns-in-36 c = arm 36 c.in-36.is

pub returns-in-37 : goal.returns-in-37
unfolding codes bytes
returns-in-37 c = arm 37 c.in-37.is

pub returns-in-38 : goal.returns-in-38
unfolding codes bytes
returns-in-38 c = arm 38 c.in-38.is

pub returns-in_default : goal.returns-in_default
unfolding codes bytes
returns-in_default c = arm 39 (last _ c.requires (past 39 _ c.in_default.in_default-own.rest))
