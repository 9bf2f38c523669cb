-- Each exported function has one answer: two that its contract allows for the same arguments are equal, and so is all that they leave in
-- what was lent. `Post` is the contract of a function, as it stands at the function. Assumes nothing.
use mathlib.Core.Path.{◌≡◌, sym, ◌∙◌}
use Rattle.rules.proofs.Agreed.{Agrees, OneResult}
use Rattle.panel_c.proofs.l1_add.Kinds as add_kinds
use Rattle.panel_c.proofs.l1_add.Reads as add
use Rattle.panel_c.proofs.l1_sub.Kinds as sub_kinds
use Rattle.panel_c.proofs.l1_sub.Reads as sub
use Rattle.panel_c.proofs.l1_mpy.Kinds as mpy_kinds
use Rattle.panel_c.proofs.l1_mpy.Reads as mpy
use Rattle.panel_c.proofs.l1_div.Kinds as div_kinds
use Rattle.panel_c.proofs.l1_div.Reads as div
use Rattle.panel_c.proofs.l1_ngmpy.Kinds as ngmpy_kinds
use Rattle.panel_c.proofs.l1_ngmpy.Reads as ngmpy
use Rattle.panel_c.proofs.l1_sqrt.Kinds as sqrt_kinds
use Rattle.panel_c.proofs.l1_sqrt.Reads as sqrt
use Rattle.panel_c.proofs.l1_abs.Kinds as abs_kinds
use Rattle.panel_c.proofs.l1_abs.Reads as abs
use Rattle.panel_c.proofs.l1_deck.Kinds as deck_kinds
use Rattle.panel_c.proofs.l1_deck.Reads as deck
use Rattle.panel_c.proofs.l1_load.Kinds as load_kinds
use Rattle.panel_c.proofs.l1_load.Reads as load
use Rattle.panel_c.proofs.l1_make.Kinds as make_kinds
use Rattle.panel_c.proofs.l1_make.Reads as make
use Rattle.panel_c.proofs.l1_run.Kinds as run_kinds
use Rattle.panel_c.proofs.l1_run.Reads as run

pub one_add : OneResult 0 add_kinds.ps add_kinds.r add.Post
one_add κs a x y s t p q = p ∙ sym q

pub one_sub : OneResult 0 sub_kinds.ps sub_kinds.r sub.Post
one_sub κs a x y s t p q = p ∙ sym q

pub one_mpy : OneResult 0 mpy_kinds.ps mpy_kinds.r mpy.Post
one_mpy κs a x y s t p q = p ∙ sym q

pub one_div : OneResult 0 div_kinds.ps div_kinds.r div.Post
one_div κs a x y s t p q = p ∙ sym q

pub one_ngmpy : OneResult 0 ngmpy_kinds.ps ngmpy_kinds.r ngmpy.Post
one_ngmpy κs a x y s t p q = p ∙ sym q

pub one_sqrt : OneResult 0 sqrt_kinds.ps sqrt_kinds.r sqrt.Post
one_sqrt κs a x y s t p q = p ∙ sym q

pub one_abs : OneResult 0 abs_kinds.ps abs_kinds.r abs.Post
one_abs κs a x y s t p q = p ∙ sym q

pub one_deck : OneResult 1 deck_kinds.ps deck_kinds.r deck.Post
one_deck κs a x y s t p q = p ∙ sym q

pub one_load : Agrees 4 load_kinds.ps load_kinds.r load.Post
    (λ κs x y s t. (x ≡ y) × (s.0.now ≡ t.0.now) × (s.1.0.now ≡ t.1.0.now) × (s.1.1.1.0.now ≡ t.1.1.1.0.now))
one_load κs a x y s t p q = (
  p.told_is ∙ sym q.told_is,
  p.drum_is ∙ sym q.drum_is,
  p.marks_are ∙ sym q.marks_are,
  p.row_is ∙ sym q.row_is,
)

-- drum, marks, output and state stand at the first, second, fourth and fifth place
pub one_run : Agrees 5 run_kinds.ps run_kinds.r run.Post
    (λ κs x y s t. (x ≡ y) × (s.0.now ≡ t.0.now) × (s.1.0.now ≡ t.1.0.now) × (s.1.1.1.0.now ≡ t.1.1.1.0.now)
    × (s.1.1.1.1.0.now ≡ t.1.1.1.1.0.now))
one_run κs a x y s t p q = (
  p.told_is ∙ sym q.told_is,
  p.drum_is ∙ sym q.drum_is,
  p.marks_are ∙ sym q.marks_are,
  p.out_is ∙ sym q.out_is,
  p.row_is ∙ sym q.row_is,
)

-- the output stands at the third place
pub one_make : Agrees 3 make_kinds.ps make_kinds.r make.Post (λ κs x y s t. (x ≡ y) × (s.1.1.0.now ≡ t.1.1.0.now))
one_make κs a x y s t p q = (p.told_is ∙ sym q.told_is, p.out_is ∙ sym q.out_is)
