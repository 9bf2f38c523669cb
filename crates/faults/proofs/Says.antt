-- What a line says, text behind text. Assumes nothing.
use Prim.Native.Nat.{ℕ, zero, suc, ◌+◌, ◌-◌, ◌≤◌, min}
use mathlib.Core.Path.{◌≡◌, refl, sym, ap, ◌∙◌}
use mathlib.Core.List.{List, [], ◌∷◌, ◌++◌, append_assoc}
use native.Mathlib.Omega.{arith}
use lib.ListN.{length, take, drop, replicate, length-take, length-append, length-replicate}
use lib.Seq.{take_at, take_all, take-append_seam}
use Rattle.rules.specs.Cards.{digits, width}
use Rattle.rules.specs.Running.{over}
use Rattle.rules.proofs.Digits.{length_digits}
use Rattle.octets.specs.Put.{put_at}
use Rattle.octets.proofs.Splices.{splice_start}
use Rattle.octets.proofs.Joins.{Put, part_begin, put_fits, put_more, put_over}
use Rattle.rules.specs.declared.Fault.{Fault}
use Rattle.faults.specs.Lines.{as_far}
use Rattle.faults.specs.Rooms.{text_in, Kept, long_so}
use Rattle.faults.specs.Sentences.{numeral, head_of, card_sentence, card_line}
use Rattle.faults.specs.declared.lines.Line.TheInside.{Inside}
use Rattle.faults.specs.declared.layout.Field.{Field}
use Rattle.faults.specs.declared.layout.Due.{Due}

-- the start of two texts
take_joined : (n : ℕ) (s t : List ℕ) → take n (s ++ t) ≡ take n s ++ take (n - length s) t
take_joined zero s t = ap (λ (k : ℕ). take k t) (let e : 0 ≡ 0 - length s = omega arith in e)
take_joined (suc n) [] t = ap (λ (k : ℕ). take k t) (let e : suc n ≡ suc n - 0 = omega arith in e)
take_joined (suc n) (x ∷ s) t =
    ap (λ (l : List ℕ). x ∷ l) (take_joined n s t ∙ ap (λ (k : ℕ). take n s ++ take k t) (let e : n - length s ≡ suc n - suc (length s) = omega arith in e))

-- ---- the room of a line

-- the text s stands in the room, as far as it goes, and zeros are behind it
record Says (l : Inside) (s : List ℕ) : Type 0 where
  size : l.size ≡ length (take 256 s)
  bytes : l.bytes ≡ over (take 256 s) (replicate 256 0)

says_kept : {l : Inside} → Kept l → Says l (text_in l)
says_kept {l} h =
    let whole : take 256 (text_in l) ≡ text_in l = take_all 256 (text_in l) (omega (arith, long_so l h, h.fits)) in
    record {
      size = omega (arith, ap length whole, long_so l h);
      bytes = h.zeros ∙ ap (λ (t : List ℕ). over t (replicate 256 0)) (sym whole);
    }

text_said : {l : Inside} (s : List ℕ) → Says l s → text_in l ≡ as_far s
unfolding over as_far
text_said s h = rw (h.size, h.bytes) (take-append_seam (take 256 s) (drop (length (take 256 s)) (replicate 256 0)))

kept_said : {l : Inside} (s : List ℕ) → Says l s → Kept l
unfolding as_far
kept_said {l} s h =
    record {
      fits = omega (arith, h.size, length-take 256 s);
      zeros = h.bytes ∙ ap (λ (t : List ℕ). over t (replicate 256 0)) (sym (text_said s h));
    }

module _ {l : Inside} {s : List ℕ} (h : Says l s) where
  within : l.size ≤ 256
  within = omega (arith, h.size, length-take 256 s)

  -- as much of a text behind it as there is room for
  says_more : (t : List ℕ) {room : List ℕ} {n : ℕ} → room ≡ put_at l.size (take (256 - l.size) t) l.bytes → n ≡ min (256 - l.size) (length t)
      → Says (record { bytes = room; size = l.size + n }) (s ++ t)
  says_more t {room} {n} e q =
      let a = take 256 s in
      let b = take (256 - l.size) t in
      let left : 256 - l.size ≡ 256 - length s = omega (arith, h.size, length-take 256 s) in
      let joined : take 256 (s ++ t) ≡ a ++ b = take_joined 256 s t ∙ ap (λ (k : ℕ). a ++ take k t) (sym left) in
      let long : length b ≡ n = length-take (256 - l.size) t ∙ sym q in
      let begun : Put (replicate 256 0) 0 a l.size l.bytes =
      part_begin l.size (h.bytes ∙ sym (splice_start a (replicate 256 0))) (sym h.size) (omega arith) (omega (arith, within, length-replicate {A = ℕ} 256 0)) in
      let done = put_more {e = l.size + n} b n begun e long refl (omega (arith, within, q, length-replicate {A = ℕ} 256 0)) in
      record {
        size = omega (arith, ap length joined, length-append a b, h.size, long);
        bytes = put_over done ∙ ap (λ (x : List ℕ). over x (replicate 256 0)) (sym joined);
      }

-- with as much of a text behind it as there is room for a room is kept, and says so
module _ {l : Inside} (h : Kept l) (t : List ℕ) {room : List ℕ} {n : ℕ} (e : room ≡ put_at l.size (take (256 - l.size) t) l.bytes)
    (q : n ≡ min (256 - l.size) (length t)) where
  pub kept_more : Kept (record { bytes = room; size = l.size + n })
  kept_more = kept_said (text_in l ++ t) (says_more (says_kept h) t e q)

  pub text_more : text_in (record { bytes = room; size = l.size + n }) ≡ as_far (text_in l ++ t)
  text_more = text_said (text_in l ++ t) (says_more (says_kept h) t e q)

-- ---- texts

-- what has no room is not missed behind it
far_more : (s t : List ℕ) → as_far (as_far s ++ t) ≡ as_far (s ++ t)
unfolding as_far
far_more s t =
    let a = take 256 s in
    let short : length a ≤ 256 = omega (arith, length-take 256 s) in
    let left : 256 - length a ≡ 256 - length s = omega (arith, length-take 256 s) in
    take_joined 256 a t ∙ rw (take_all 256 a short, left) (sym (take_joined 256 s t))

-- nothing, and a text behind one that is said
pub none_said : {m : List ℕ} → m ≡ [] → m ≡ as_far []
unfolding as_far
none_said e = e

pub then_said : {m r : List ℕ} (s u : List ℕ) → m ≡ as_far s → r ≡ as_far (m ++ u) → r ≡ as_far (s ++ u)
then_said s u e q = q ∙ ap (λ (x : List ℕ). as_far (x ++ u)) e ∙ far_more s u

-- one text behind the other
pub adds_two : {m r : List ℕ} (l t u : List ℕ) → m ≡ as_far (l ++ t) → r ≡ as_far (m ++ u) → r ≡ as_far (l ++ (t ++ u))
adds_two l t u f g = then_said (l ++ t) u f g ∙ ap as_far (append_assoc l t u)

pub adds_as : {r t u : List ℕ} (l : List ℕ) → t ≡ u → r ≡ as_far (l ++ t) → r ≡ as_far (l ++ u)
adds_as l e f = f ∙ ap (λ (x : List ℕ). as_far (l ++ x)) e

pub said_as : {l s t : List ℕ} → s ≡ t → l ≡ as_far s → l ≡ as_far t
said_as e h = h ∙ ap as_far e

-- a text for which there is room is said whole
pub said_whole : {l : List ℕ} (s : List ℕ) → length s ≤ 256 → l ≡ as_far s → l ≡ s
unfolding as_far
said_whole s short h = h ∙ take_all 256 s short

-- the digits of a number, at the start of a room
pub field_taken : (n x : ℕ) {room : List ℕ} (before : List ℕ) → room ≡ put_at 0 (digits n x) before → n ≤ length before → n ≡ width 20 x → take n room ≡ numeral x
unfolding over
field_taken n x {room} before e h q =
    ap (take n) (e ∙ put_fits 0 (digits n x) before (length_digits n x) (omega arith) ∙ splice_start (digits n x) before)
    ∙ take_at (digits n x) (drop (length (digits n x)) before) n (length_digits n x)
    ∙ ap (λ (k : ℕ). digits k x) q

-- three bytes, or as many as there are
take_least : (n : ℕ) (l : List ℕ) → take (min (length l) n) l ≡ take n l
take_least zero l = let e : min (length l) 0 ≡ 0 = omega arith in rw e refl
take_least (suc n) [] = let e : min 0 (suc n) ≡ 0 = omega arith in rw e refl
take_least (suc n) (x ∷ l) =
    let e : min (suc (length l)) (suc n) ≡ suc (min (length l) n) = omega arith in rw e (ap (λ (t : List ℕ). x ∷ t) (take_least n l))

pub digits_there : (d : List ℕ) (o : ℕ) {found : List ℕ} {n : ℕ} → found ≡ drop o d → n ≡ min (length found) 3 → take n found ≡ take 3 (drop o d)
digits_there d o e q = rw (q, e) (take_least 3 (drop o d))

-- what is wrong is the fault f
pub as_fault : {l : List ℕ} {f g : Fault} (k p o : ℕ) (d : List ℕ) → f ≡ g → l ≡ as_far (card_sentence k p g o d)
    → l ≡ as_far (card_sentence k p f o d)
as_fault k p o d e h = said_as (ap (λ (x : Fault). card_sentence k p x o d) (sym e)) h

-- heads whose field, what is due and place are the same
pub heads : (k : ℕ) {f g : Field} {d e : Due} {p q : ℕ} → f ≡ g → d ≡ e → p ≡ q → head_of k f d p ≡ head_of k g e q
heads k {f} {g} {d} {e} {p} {q} a b c = cc

-- lines that are about the same card, byte and bytes
pub card_lines : {k j : ℕ} (p : ℕ) (f : Fault) {o u : ℕ} {d e : List ℕ} → k ≡ j → o ≡ u → d ≡ e → card_line k p f o d ≡ card_line j p f u e
card_lines p f a b c = cc
