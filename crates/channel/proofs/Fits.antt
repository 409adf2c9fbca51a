-- Which states fit: idle ones and active ones, of either side. Assumes nothing.
use Prim.Native.Nat.{ℕ, ◌-◌, ◌≤◌, ◌<◌}
use mathlib.Core.Path.{◌≡◌, refl}
use mathlib.Core.Bool.{true, false, ◌&&◌}
use mathlib.Core.List.{List, ◌∷◌, ◌++◌}
use native.Mathlib.Omega.{arith}
use lib.ListN.{length, get_or, take, drop, replicate, length-replicate}
use lib.Dec.{eqb, ltb}
use borrow.Author.Tests.{eqb-true, lt-ltb, le-leb, eq-eqb, ne_eqb}
use Rattle.message.specs.Header.{total_length, well_formed}
use Rattle.message.proofs.Tests.{and_l, and_r}
use Rattle.runs.specs.Buffer.{laid}
use Rattle.runs.proofs.Straight.{drop-replicate, two_and_rest}
use Rattle.channel.specs.State.{State, active_receive, active_send, all_zero, idle, idle_at, zeros}

module _ (n o : ℕ) (h : o < n) where
  made_for_fact : (eqb n n && ltb o n) ≡ true
  made_for_fact = rw (eq-eqb n n refl, lt-ltb o n h)

  pub idle-idle : idle n (idle_at n o) ≡ true
  unfolding idle all_zero zeros
  idle-idle = rw made_for_fact

  pub idle_active_send : active_send n (idle_at n o) ≡ false
  unfolding active_send
  idle_active_send = rw made_for_fact

  pub idle_active_receive : active_receive n (idle_at n o) ≡ false
  unfolding active_receive
  idle_active_receive = rw made_for_fact

  pub busy-idle : (l k : ℕ) (c : List ℕ) → 1 ≤ l → idle n (record { n = n; own = o; len = l; moved = k; copy = c }) ≡ false
  unfolding idle
  busy-idle l k c g = rw (made_for_fact, ne_eqb l 0 (λ e. omega arith))

  pub busy_active_send :
      (l k : ℕ) (c : List ℕ) → 2 ≤ l → l ≤ 256 → k ≤ l → l ≡ total_length (get_or c 0 0)
      → well_formed (get_or c 0 0) (get_or c 1 0) ≡ true
      → active_send n (record { n = n; own = o; len = l; moved = k; copy = c }) ≡ true
  unfolding active_send
  busy_active_send l k c a b d e f = rw (made_for_fact, le-leb 2 l a, le-leb l 256 b, le-leb k l d, eq-eqb _ _ e) f

  pub busy_active_receive :
      (l k : ℕ) (c : List ℕ) → 1 ≤ l → l ≤ 256 → 1 ≤ k → k ≤ l → l ≡ total_length (get_or c 0 0)
      → active_receive n (record { n = n; own = o; len = l; moved = k; copy = c }) ≡ true
  unfolding active_receive
  busy_active_receive l k c a b d e f =
      rw (made_for_fact, le-leb 1 l a, le-leb l 256 b, le-leb 1 k d, le-leb k l e) (eq-eqb _ _ f)

-- an idle state was made for the ring
pub idle_same : (n : ℕ) (s : State) → idle n s ≡ true → s.n ≡ n
unfolding idle
idle_same n s e = eqb-true s.n n (search (and_l, and_r))

-- a message of which two dwords were read to be judged, and the others after
pub two-judged :
    (m : List ℕ) (h w : ℕ) → h ≡ get_or m 0 0 → w ≡ get_or m 1 0 → 2 ≤ length m
    → h ∷ w ∷ take (length m - 2) (drop 2 m) ≡ m
two-judged m h w e f l = rw (e, f) (two_and_rest m l)

-- a message laid over a copy of zeros: 'a look leaves zeros in the copy's other places'
pub loaded-zeros : (m : List ℕ) → length m ≤ 256 → laid m zeros ≡ m ++ replicate (256 - length m) 0
unfolding laid zeros
loaded-zeros m h = rw (length-replicate, le-leb (length m) 256 h, drop-replicate)
