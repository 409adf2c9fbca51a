-- What a state that fits has, and what a step has that goes on. Assumes nothing.
use Prim.Native.Nat.{ℕ, ◌+◌, ◌%◌, ◌≤◌, ◌<◌}
use mathlib.Core.Path.{◌≡◌, refl}
use mathlib.Core.Bool.{Bool, true, false}
use native.Mathlib.Omega.{arith}
use lib.Dec.{eqb}
use borrow.Author.Tests.{eqb-true, leb-true, ltb-true}
use Rattle.message.specs.Header.{total_length}
use Rattle.message.proofs.Tests.{and_l, and_r}
use Rattle.ring.specs.Numbers.{first_needs, need}
use Rattle.ring.specs.Ring.{allowed}
use Rattle.runs.specs.Buffer.{past}
use Rattle.ring.proofs.Chains.{allowed-high, entered, entered_fits, entered_rest, passed, passed_rest}
use Rattle.runs.proofs.Offsets.{past_is}
use Rattle.channel.specs.Opening.{open_number}
use Rattle.channel.specs.State.{State, active_receive, active_send, header}

-- a test that cannot hold
pub refuted : (t : Bool) → (t ≡ true → ⊥) → false ≡ t
refuted true n = absurd (n refl)
refuted false n = refl

-- what an active state of either side has that fits
pub record Active (n : ℕ) (s : State) : Type 0 where
  pub same : s.n ≡ n
  pub own : s.own < n
  pub long : 1 ≤ s.len
  pub short : s.len ≤ 256
  pub within : s.moved ≤ s.len
  pub agrees : s.len ≡ total_length (header s)

pub send_long : (n : ℕ) (s : State) → active_send n s ≡ true → 2 ≤ s.len
unfolding active_send
send_long n s e = leb-true 2 s.len (search (and_l, and_r))

pub send_active : (n : ℕ) (s : State) → active_send n s ≡ true → Active n s
unfolding active_send
send_active n s e =
    let l = send_long n s e in
    record {
      same = eqb-true s.n n (search (and_l, and_r));
      own = ltb-true s.own n (search (and_l, and_r));
      long = omega arith;
      short = leb-true s.len 256 (search (and_l, and_r));
      within = leb-true s.moved s.len (search (and_l, and_r));
      agrees = eqb-true s.len (total_length (header s)) (search (and_l, and_r));
    }

pub receive_active : (n : ℕ) (s : State) → active_receive n s ≡ true → Active n s
unfolding active_receive
receive_active n s e =
    record {
      same = eqb-true s.n n (search (and_l, and_r));
      own = ltb-true s.own n (search (and_l, and_r));
      long = leb-true 1 s.len (search (and_l, and_r));
      short = leb-true s.len 256 (search (and_l, and_r));
      within = leb-true s.moved s.len (search (and_l, and_r));
      agrees = eqb-true s.len (total_length (header s)) (search (and_l, and_r));
    }

pub receive-moved : (n : ℕ) (s : State) → active_receive n s ≡ true → 1 ≤ s.moved
unfolding active_receive
receive-moved n s e = leb-true 1 s.moved (search (and_l, and_r))

-- the descriptor of a channel that opens has 16 dwords
pub open_sixteen : (d n : ℕ) → open_number d n ≡ 0 → d ≡ 16
unfolding open_number
open_sixteen d n e = eqb-true d 16 (passed (eqb d 16) 1 (need (allowed n) 2 0) 0 refl e)

-- and its buffer at most 16,384
pub open_high : (d n : ℕ) → open_number d n ≡ 0 → n ≤ 16384
unfolding open_number
open_high d n e =
    allowed-high n (passed (allowed n) 2 0 0 refl (passed_rest (eqb d 16) 1 (need (allowed n) 2 0) 0 refl e))

-- what a step that goes on has, of either side: none of 1, 2 and 3 refuses it
pub record Going (n : ℕ) (s : State) : Type 0 where
  pub low : 1024 ≤ n
  pub high : n ≤ 16384
  pub own : s.own < n
  pub short : s.len ≤ 256
  pub within : s.moved ≤ s.len

module _ (d n : ℕ) (s : State) (r x : ℕ) (n₁ : eqb 1 x ≡ false) (n₂ : eqb 2 x ≡ false) (n₃ : eqb 3 x ≡ false) where
  going : (fits : Bool) → (fits ≡ true → Active n s) → first_needs d n fits r ≡ x → Going n s
  going fits f e =
      let i = entered d n fits r x n₁ n₂ n₃ e in
      let a = f (entered_fits d n fits r x n₁ n₂ n₃ e) in
      record { low = i.low; high = i.high; own = a.own; short = a.short; within = a.within }

  pub going_send : first_needs d n (active_send n s) r ≡ x → Going n s
  going_send = going (active_send n s) (send_active n s)

  pub going_receive : first_needs d n (active_receive n s) r ≡ x → Going n s
  going_receive = going (active_receive n s) (receive_active n s)

-- and its own test holds where it is accepted
pub going_test : (d n : ℕ) (fits test : Bool) → first_needs d n fits (need test 12 0) ≡ 0 → test ≡ true
going_test d n fits test e = passed test 12 0 0 refl (entered_rest d n fits (need test 12 0) 0 refl refl refl e)

-- the place of its next dword, and the offset past its message
module _ (n : ℕ) (s : State) (g : Going n s) where
  pub going_place : past n s.own s.moved ≡ (s.own + s.moved) % n
  going_place = past_is n s.own s.moved g.own (omega (arith, g.low, g.short, g.within)) g.high

  pub going_past : past n s.own s.len ≡ (s.own + s.len) % n
  going_past = past_is n s.own s.len g.own (omega (arith, g.low, g.short)) g.high
