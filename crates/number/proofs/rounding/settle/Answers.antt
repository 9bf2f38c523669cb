-- `number::rounding::settle` meets its contract: of two units the smaller that leaves eight digits is the right one. Assumes nothing.
use Prim.Native.Nat.{ℕ, ◌*◌, ◌+◌}
use mathlib.Core.Path.{sym, ap, ◌∙◌}
use native.Mathlib.Omega.{arith}
use Rattle.std.specs.Int.{from_bool}
use Rattle.rules.specs.Arithmetic.{word_of}
use Rattle.number.specs.Asked.{NearUnit}
use Rattle.number.proofs.Units.{Unit, next, settles}
use Rattle.number.proofs.rounding.settle.Goals as goal

unit : (h k u j : ℕ) → NearUnit h k u j → Unit h u k
unit h k u j p = record { power = p.unit; full = p.full }

pub returns-then-u-h : goal.returns-then-u-h
returns-then-u-h c x i =
    let a = c.args in
    c.judged.ensures ∙ sym (ap word_of (settles a.h (a.u * 10) (a.k + 1) (next a.h a.u a.k (unit a.h a.k a.u a.j c.requires) c.if-u-h.true) (omega (arith, c.requires.few)) (from_bool a.minus) a.j x i))

pub returns : goal.returns
returns c x i =
    let a = c.args in
    c.judged-2.ensures ∙ sym (ap word_of (settles a.h a.u a.k (unit a.h a.k a.u a.j c.requires) c.if-u-h.false (from_bool a.minus) a.j x i))
