-- A half-whole call is the moves that are left, one after another. Assumes nothing.
use Prim.Native.Nat.{ℕ, zero, suc, ◌≤◌}
use mathlib.Core.Path.{◌≡◌, refl, ap, ◌∙◌}
use mathlib.Core.Bool.{false}
use mathlib.Core.List.{List, [], ◌∷◌, ◌++◌}
use lib.Dec.{eqb}
use lib.ListN.{length}
use borrow.Author.Tests.{eqb-true, ne_eqb}
use Rattle.message.proofs.Tests.{cases}
use Rattle.channel.specs.Outcome.{Outcome}
use Rattle.channel.specs.Steps.{all_moves_by, at_first, moves}
use Rattle.channel.proofs.AllMoves.{all-sent, all-taken}
use Rattle.channel.specs.Operations.{Side, the_sender, the_receiver, gives}
use Rattle.delivery.specs.Operations.{Channel, Seen, end, run, seen, state_on, with_next}
use Rattle.delivery.specs.HalfWhole.{HalfWhole, goes_on, half_whole, left, move_of, moves_of, stands_for}

-- k moves of a side after an outcome of it
abbrev later : Side → ℕ → Outcome → Outcome
later side k r = moves (gives (move_of side)) k r

later-leaves :
    (side : Side) (k : ℕ) (x : Channel) (r : Outcome)
    → with_next side x (later side k r) ≡ end (with_next side x r) (moves_of side k)
unfolding moves end
later-leaves the_sender zero x r = refl
later-leaves the_sender (suc k) x r = later-leaves the_sender k x (later the_sender 1 r)
later-leaves the_receiver zero x r = refl
later-leaves the_receiver (suc k) x r = later-leaves the_receiver k x (later the_receiver 1 r)

later_last :
    (side : Side) (k : ℕ) (x : Channel) (r : Outcome)
    → run (with_next side x r) (moves_of side k) ++ (seen (later side (suc k) r) ∷ []) ≡ run (with_next side x r) (moves_of side (suc k))
unfolding moves run
later_last the_sender zero x r = refl
later_last the_sender (suc k) x r =
    ap (λ (l : List Seen). seen (later the_sender 1 r) ∷ l) (later_last the_sender k x (later the_sender 1 r))
later_last the_receiver zero x r = refl
later_last the_receiver (suc k) x r =
    ap (λ (l : List Seen). seen (later the_receiver 1 r) ∷ l) (later_last the_receiver k x (later the_receiver 1 r))

-- the channel before the first of them
abbrev first : Side → Channel → Outcome
first side x = at_first (state_on side x) x.desc x.buf

-- an accepted call makes all that are left, a refused one makes none
accepted : (side : Side) (x : Channel) → goes_on side x ≡ 0 → half_whole side x ≡ later side (left side x) (first side x)
unfolding all_moves_by
accepted the_sender x z = rw z
accepted the_receiver x z = rw z

refuses :
    (side : Side) (x : Channel) → eqb (goes_on side x) 0 ≡ false
    → (with_next side x (half_whole side x) ≡ x) × ((half_whole side x).code ≡ goes_on side x)
unfolding all_moves_by
refuses the_sender x z = (rw z, rw z)
refuses the_receiver x z = (rw z, rw z)

same_channel : (side : Side) (x : Channel) → with_next side x (first side x) ≡ x
same_channel the_sender x = refl
same_channel the_receiver x = refl

leaves : (side : Side) (x : Channel) → with_next side x (half_whole side x) ≡ end x (stands_for side x)
unfolding stands_for end
leaves side x =
    cases (eqb (goes_on side x) 0)
    (λ t.
    rw t
    (ap (with_next side x) (accepted side x (eqb-true _ 0 t)) ∙ later-leaves side (left side x) x (first side x)
    ∙ ap (λ (y : Channel). end y (moves_of side (left side x))) (same_channel side x)))
    (λ t. rw t (refuses side x t).0)

last :
    (side : Side) (x : Channel) (k : ℕ) → goes_on side x ≡ 0 → left side x ≡ suc k
    → run x (moves_of side k) ++ (seen (half_whole side x) ∷ []) ≡ run x (moves_of side (suc k))
last side x k z e =
    let s = later_last side k x (first side x) in
    let h : half_whole side x ≡ later side (suc k) (first side x) =
    accepted side x z ∙ ap (λ (j : ℕ). later side j (first side x)) e in
    rw h (rw (same_channel side x) at s)

answers :
    (side : Side) (x : Channel) → goes_on side x ≡ 0 → (state_on side x).len ≤ length (state_on side x).copy
    → ((half_whole side x).code ≡ 0) × ((half_whole side x).next.moved ≡ (state_on side x).len)
answers the_sender x z l =
    let e = all-sent x.sender x.desc x.buf z l in
    (ap (λ (r : Outcome). r.code) e, ap (λ (r : Outcome). r.next.moved) e)
answers the_receiver x z l =
    let e = all-taken x.receiver x.desc x.buf z l in
    (ap (λ (r : Outcome). r.code) e, ap (λ (r : Outcome). r.next.moved) e)

pub half_whole_lem : HalfWhole
half_whole_lem =
    record { leaves = leaves; refused = λ side x n. (refuses side x (ne_eqb _ 0 n)).1; accepted = answers; last = last }
