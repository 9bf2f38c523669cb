-- Each public function has one answer: two that its contract allows for the same arguments are equal, and so is all that they leave in
-- what was lent. `Post` is the contract of a function, as it stands at the function. Assumes nothing.
use mathlib.Core.Path.{◌≡◌, sym, ◌∙◌}
use Rattle.rules.proofs.Agreed.{Agrees}
use Rattle.machine.proofs.loading.load.Kinds as load-kinds
use Rattle.machine.proofs.loading.load.Reads as load
use Rattle.machine.proofs.running.run.Kinds as run-kinds
use Rattle.machine.proofs.running.run.Reads as run

pub one_load : Agrees 3 load-kinds.ps load-kinds.r load.Post
    (λ κs x y s t. (x ≡ y) × (s.0.now ≡ t.0.now) × (s.1.0.now ≡ t.1.0.now))
one_load κs a x y s t p q = (
  λ i. record { loading = (p.loading_is ∙ sym q.loading_is) i; state = (p.state_is ∙ sym q.state_is) i },
  p.drum_is ∙ sym q.drum_is,
  p.marks_are ∙ sym q.marks_are,
)

pub one_run : Agrees 4 run-kinds.ps run-kinds.r run.Post
    (λ κs x y s t. (x ≡ y) × (s.0.now ≡ t.0.now) × (s.1.0.now ≡ t.1.0.now) × (s.1.1.0.now ≡ t.1.1.0.now))
one_run κs a x y s t p q = (
  λ i.
      record {
        ending = (p.ending_is ∙ sym q.ending_is) i;
        count = (p.count_is ∙ sym q.count_is) i;
        written = (p.written_is ∙ sym q.written_is) i;
        state = (p.state_is ∙ sym q.state_is) i;
      },
  p.drum_is ∙ sym q.drum_is,
  p.marks_are ∙ sym q.marks_are,
  p.out_is ∙ sym q.out_is,
)
