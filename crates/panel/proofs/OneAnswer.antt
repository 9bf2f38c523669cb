-- Each exported function, and each impl that tells an answer, has one answer: two that its contract allows for the same arguments are equal,
-- and so is all that they leave in what was lent. `Post` is the contract of a function, as it stands at the function. Assumes nothing.
use mathlib.Core.Path.{◌≡◌, sym, ◌∙◌}
use Rattle.rules.proofs.Agreed.{Agrees, OneResult}
use Rattle.panel.proofs.WordFromReckoned.from.Kinds as word-told-kinds
use Rattle.panel.proofs.WordFromReckoned.from.Reads as word-told
use Rattle.panel.proofs.SummedFromSum.from.Kinds as summed-told-kinds
use Rattle.panel.proofs.SummedFromSum.from.Reads as summed-told
use Rattle.panel.proofs.PlaceFromDeck.from.Kinds as check-told-kinds
use Rattle.panel.proofs.PlaceFromDeck.from.Reads as check-told
use Rattle.panel.proofs.calls.PlaceFromLoading.from.Kinds as loading-told-kinds
use Rattle.panel.proofs.calls.PlaceFromLoading.from.Reads as loading-told
use Rattle.panel.proofs.calls.MadeFromMaking.from.Kinds as making-told-kinds
use Rattle.panel.proofs.calls.MadeFromMaking.from.Reads as making-told
use Rattle.panel.proofs.l1_add.Kinds as add-kinds
use Rattle.panel.proofs.l1_add.Reads as add
use Rattle.panel.proofs.l1_sub.Kinds as sub-kinds
use Rattle.panel.proofs.l1_sub.Reads as sub
use Rattle.panel.proofs.l1_mpy.Kinds as mpy-kinds
use Rattle.panel.proofs.l1_mpy.Reads as mpy
use Rattle.panel.proofs.l1_div.Kinds as div-kinds
use Rattle.panel.proofs.l1_div.Reads as div
use Rattle.panel.proofs.l1_ngmpy.Kinds as ngmpy-kinds
use Rattle.panel.proofs.l1_ngmpy.Reads as ngmpy
use Rattle.panel.proofs.l1_sqrt.Kinds as sqrt-kinds
use Rattle.panel.proofs.l1_sqrt.Reads as sqrt
use Rattle.panel.proofs.l1_abs.Kinds as abs-kinds
use Rattle.panel.proofs.l1_abs.Reads as abs
use Rattle.panel.proofs.l1_deck.Kinds as deck-kinds
use Rattle.panel.proofs.l1_deck.Reads as deck
use Rattle.panel.proofs.calls.l1_load.Kinds as load-kinds
use Rattle.panel.proofs.calls.l1_load.Reads as load
use Rattle.panel.proofs.calls.l1_make.Kinds as make-kinds
use Rattle.panel.proofs.calls.l1_make.Reads as make
use Rattle.panel.proofs.calls.l1_run.Kinds as run-kinds
use Rattle.panel.proofs.calls.l1_run.Reads as run

pub one_add_lem : OneResult 0 add-kinds.ps add-kinds.r add.Post
one_add_lem κs a x y s t p q = p ∙ sym q

pub one_sub : OneResult 0 sub-kinds.ps sub-kinds.r sub.Post
one_sub κs a x y s t p q = p ∙ sym q

pub one_mpy : OneResult 0 mpy-kinds.ps mpy-kinds.r mpy.Post
one_mpy κs a x y s t p q = p ∙ sym q

pub one_div : OneResult 0 div-kinds.ps div-kinds.r div.Post
one_div κs a x y s t p q = p ∙ sym q

pub one_ngmpy : OneResult 0 ngmpy-kinds.ps ngmpy-kinds.r ngmpy.Post
one_ngmpy κs a x y s t p q = p ∙ sym q

pub one_sqrt : OneResult 0 sqrt-kinds.ps sqrt-kinds.r sqrt.Post
one_sqrt κs a x y s t p q = p ∙ sym q

pub one_abs : OneResult 0 abs-kinds.ps abs-kinds.r abs.Post
one_abs κs a x y s t p q = p ∙ sym q

pub one_deck : OneResult 1 deck-kinds.ps deck-kinds.r deck.Post
one_deck κs a x y s t p q = p ∙ sym q

pub one_load : Agrees 4 load-kinds.ps load-kinds.r load.Post
    (λ κs x y s t. (x ≡ y) × (s.0.now ≡ t.0.now) × (s.1.0.now ≡ t.1.0.now) × (s.1.1.1.0.now ≡ t.1.1.1.0.now))
one_load κs a x y s t p q = (
  p.told_is ∙ sym q.told_is,
  p.drum_is ∙ sym q.drum_is,
  p.marks_are ∙ sym q.marks_are,
  p.row_is ∙ sym q.row_is,
)

-- drum, marks, output and state stand at the first, second, fourth and fifth place
pub one_run : Agrees 5 run-kinds.ps run-kinds.r run.Post
    (λ κs x y s t. (x ≡ y) × (s.0.now ≡ t.0.now) × (s.1.0.now ≡ t.1.0.now) × (s.1.1.1.0.now ≡ t.1.1.1.0.now)
    × (s.1.1.1.1.0.now ≡ t.1.1.1.1.0.now))
one_run κs a x y s t p q = (
  p.told_is ∙ sym q.told_is,
  p.drum_is ∙ sym q.drum_is,
  p.marks_are ∙ sym q.marks_are,
  p.out_is ∙ sym q.out_is,
  p.row_is ∙ sym q.row_is,
)

-- the output stands at the third place
pub one_make : Agrees 3 make-kinds.ps make-kinds.r make.Post (λ κs x y s t. (x ≡ y) × (s.1.1.0.now ≡ t.1.1.0.now))
one_make κs a x y s t p q = (p.told_is ∙ sym q.told_is, p.out_is ∙ sym q.out_is)

pub one_word_told : OneResult 0 word-told-kinds.ps word-told-kinds.r word-told.Post
one_word_told κs a x y s t p q = p ∙ sym q

pub one_summed_told : OneResult 0 summed-told-kinds.ps summed-told-kinds.r summed-told.Post
one_summed_told κs a x y s t p q = p ∙ sym q

pub one_check_told : OneResult 0 check-told-kinds.ps check-told-kinds.r check-told.Post
one_check_told κs a x y s t p q = p ∙ sym q

pub one_loading_told : OneResult 0 loading-told-kinds.ps loading-told-kinds.r loading-told.Post
one_loading_told κs a x y s t p q = p ∙ sym q

pub one_making_told : OneResult 0 making-told-kinds.ps making-told-kinds.r making-told.Post
one_making_told κs a x y s t p q = p ∙ sym q
