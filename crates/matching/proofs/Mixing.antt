-- Lists that mix openings, replies and operations of a channel are demand 3's lists and lists of calls. Assumes nothing.
use Prim.Native.Nat.{ℕ, ◌<◌}
use mathlib.Core.Path.{◌≡◌, refl, sym, ap, ◌∙◌}
use mathlib.Core.Bool.{Bool, true, false}
use mathlib.Core.List.{List, [], ◌∷◌}
use native.Mathlib.Omega.{arith}
use borrow.Author.Tests.{eqb-true}
use lib.ListN.{length, get_or}
use lib.Dec.{eqb}
use Rattle.message.specs.Header.{starts_message, is_message, header_with, with_fence}
use Rattle.message.proofs.Tests.{cases}
use Rattle.message.proofs.Refenced.{refenced_fence, refenced_message, request-message}
use Rattle.ring.specs.Ring.{head, tail, status}
use Rattle.ring.specs.Numbers.{need, first_needs, look_needs, send_look_needs, send_decision, number_at}
use Rattle.ring.specs.AtOnce.{send_by}
use Rattle.ring.proofs.Chains.{true_false, ok, entered_rest}
use Rattle.channel.specs.State.{State, idle}
use Rattle.channel.specs.Outcome as channelOutcome
use Rattle.channel.specs.Send
use Rattle.channel.specs.Operations.{send_whole}
use Rattle.channel.proofs.SendAtOnce.{send-at-once}
use Rattle.requests.specs.declared.planning.Answer.{Answer}
use Rattle.requests.specs.Table.{still_open}
use Rattle.requests.specs.Calls.{Wall, Outcome, wall_needs, open_number, picked_fence, open_by, reply}
use Rattle.requests.specs.Opening.{sent_for, send_for, sending}
use Rattle.delivery.specs.Operations as channel
use Rattle.delivery.specs.Operations.{Channel}
use Rattle.delivery.proofs.Theorem.{demand3}
use Rattle.matching.specs.Lists.{Call, open_call, AllOfRing, outcome, run, end}
use Rattle.matching.specs.Mixed.{Step, open_step, reply_step, channel_step, Joined, sent_at, channel_after, after_step, joined_end}
use Rattle.matching.specs.Mixed.{wall_answers, channel_seen, seen_at, as_ops, ring_number, as_calls, SentAs, MixedLists}
use Rattle.matching.specs.Matching.{entry_in}
use Rattle.matching.proofs.Tables.{still_there}
use Rattle.matching.proofs.Fences.{next-picked, picked_below}
use Rattle.matching.proofs.Openings.{passes}
use Rattle.matching.proofs.Unusable.{open_code, code_of, ring_last, one_of, behind, behind-none}

-- ---- a whole send

module _ (s : State) (m d b : List ℕ) where
  -- what it answers beside its number
  whole-len : (Send.whole s m d b).len ≡ 0
  unfolding send_by
  whole-len = ap (λ (x : channelOutcome.Outcome). x.len) (send-at-once s m d b)

  whole_out : (Send.whole s m d b).out ≡ []
  unfolding send_by
  whole_out = ap (λ (x : channelOutcome.Outcome). x.out) (send-at-once s m d b)

  pub whole_code : (Send.whole s m d b).code ≡ number_at (idle (length b) s) s.own m d (length b)
  unfolding send_by
  whole_code = ap (λ (x : channelOutcome.Outcome). x.code) (send-at-once s m d b)

-- its number is below 14
need_below : (t : Bool) (k rest : ℕ) → k < 14 → rest < 14 → need t k rest < 14
unfolding need
need_below true k rest l r = r
need_below false k rest l r = l

number_below : (fits : Bool) (own : ℕ) (m d : List ℕ) (n : ℕ) → number_at fits own m d n < 14
unfolding send_decision first_needs send_look_needs look_needs
number_below fits own m d n =
    need_below _ 1 _ (omega arith) (need_below _ 2 _ (omega arith) (need_below _ 3 _ (omega arith)
    (need_below _ 4 _ (omega arith) (need_below _ 6 _ (omega arith) (need_below _ 7 _ (omega arith)
    (need_below _ 8 _ (omega arith) (need_below _ 10 0 (omega arith) (omega arith))))))))

-- and not 4 where the message is one
not_malformed :
    (fits : Bool) (own : ℕ) (m d : List ℕ) (n : ℕ) → is_message m ≡ true → number_at fits own m d n ≡ 4 → ⊥
unfolding send_decision is_message send_look_needs look_needs
not_malformed fits own m d n t e =
    let asked : ℕ = send_look_needs n own (length m) (status d) (head d) (tail d) in
    let starts : Bool = starts_message (length m) (get_or m 0 0) (get_or m 1 0) in
    let r : need starts 4 asked ≡ 4 = entered_rest (length d) n fits (need starts 4 asked) 4 refl refl refl e in
    one_of 4 _ 6 _ (λ e. omega arith)
    (one_of 4 _ 7 _ (λ e. omega arith)
    (one_of 4 _ 8 _ (λ e. omega arith) (one_of 4 _ 10 0 (λ e. omega arith) (λ e. omega arith))))
    (sym (ok 4 t) ∙ r)

-- ---- a message with a picked fence

sent_as : (f : ℕ) (m : List ℕ) → f < 65536 → is_message m ≡ true → SentAs m (with_fence f m) f
unfolding with_fence is_message header_with
sent_as f [] l e = true_false (sym e)
sent_as f (h ∷ r) l e =
    record {
      its_fence = refenced_fence f h l;
      other-bits = omega arith;
      a_dword = omega arith;
      others = refl;
      as_long = refl;
    }

fence_below : (w : Wall) → picked_fence w < 65536
unfolding picked_fence
fence_below w =
    let t = w.table in
    rw (next-picked (still_open t) (entry_in t) (still_there t) w.last) (picked_below (entry_in t) w.last)

-- ---- an opening

-- one that is not refused answers the picked fence
answers-fence :
    (c : ℕ) (w : Wall) (room : ℕ) (m : List ℕ) → c ≡ 0 → picked_fence w ≡ (open_by c w room m).answer.fence
unfolding open_by
answers-fence c w room m e = rw e

module _ (x : Joined) (room : ℕ) (m : List ℕ) where
  abbrev w : Wall
  w = x.wall

  abbrev s : State
  s = x.channel.sender

  abbrev d : List ℕ
  d = x.channel.desc

  abbrev b : List ℕ
  b = x.channel.buf

  -- what its send gives, where it sends
  abbrev whole : channelOutcome.Outcome
  whole = Send.whole s (sent_for w m) d b

  send-code : (send_for w room m s d b).code ≡ ring_last (open_number w room m) (ring_number x m)
  unfolding send_for
  send-code = cases (eqb (open_number w room m) 0) (λ e. rw e) (λ e. rw e)

  -- on the wall it is the call with the ring's number
  abbrev call : Call
  call = open_call room m (ring_number x m)

  as_call : open_by (send_for w room m s d b).code w room m ≡ outcome w call
  as_call = ap (λ (c : ℕ). open_by c w room m) send-code

  open_wall : (sent_at x room m).wall ≡ (outcome w call).wall
  unfolding sending
  open_wall = ap (λ (o : Outcome). o.wall) as_call

  open_answer : (sent_at x room m).answer ≡ (outcome w call).answer
  unfolding sending
  open_answer = ap (λ (o : Outcome). o.answer) as_call

  -- on the channel it is its whole send, or nothing
  open_sends :
      eqb (open_number w room m) 0 ≡ true
      → channel_after x.channel (sent_at x room m) ≡ channel.after x.channel (send_whole (sent_for w m))
  unfolding sending send_for
  open_sends e = rw e

  open_stays : eqb (open_number w room m) 0 ≡ false → channel_after x.channel (sent_at x room m) ≡ x.channel
  unfolding sending send_for
  open_stays e = rw e

  open_seen :
      eqb (open_number w room m) 0 ≡ true
      → seen_at x (open_step room m) ≡ channel.seen whole ∷ []
  unfolding sending send_for
  open_seen e =
      let c : (open_by whole.code w room m).answer.code ≡ whole.code = open_code whole.code w room m in
      rw e
      (λ i. record {
        code = c i;
        len = sym (whole-len s (sent_for w m) d b) i;
        out = sym (whole_out s (sent_for w m) d b) i;
        desc = whole.desc;
        buf = whole.buf;
      } ∷ [])

  answer-code : (sent_at x room m).answer.code ≡ ring_last (open_number w room m) (ring_number x m)
  answer-code = ap (λ (a : Answer). a.code) open_answer ∙ code_of w call

  -- the wall lets only messages pass
  lets_pass : open_number w room m ≡ 0 → is_message m ≡ true
  lets_pass e = request-message m (passes w room m e).is_request_fact

  -- the message sent has the fence that is answered
  sends : (sent_at x room m).answer.code ≡ 0 → SentAs m (sent_for w m) (sent_at x room m).answer.fence
  unfolding sending
  sends e =
      let c : ℕ = (send_for w room m s d b).code in
      let q : picked_fence w ≡ (sent_at x room m).answer.fence =
      answers-fence c w room m (sym (open_code c w room m) ∙ e) in
      let z : open_number w room m ≡ 0 =
      cases (eqb (open_number w room m) 0) (λ t. eqb-true _ 0 t) (λ t. rw t at (sym answer-code ∙ e)) in
      rw (← q) (sent_as (picked_fence w) m (fence_below w) (lets_pass z))

  -- and is not malformed
  never_4 : (sent_at x room m).answer.code ≡ 4 → ⊥
  unfolding open_number wall_needs
  never_4 e =
      let c : ring_last (open_number w room m) (ring_number x m) ≡ 4 = sym answer-code ∙ e in
      let walls : open_number w room m ≡ 4 → ⊥ =
      one_of 4 _ 35 _ (λ e. omega arith) (one_of 4 _ 2 (behind w room m) (λ e. omega arith)
      (behind-none 4 (λ e. omega arith) (λ e. omega arith) (λ e. omega arith) (λ e. omega arith) (λ e. omega arith) w room m)) in
      cases (eqb (open_number w room m) 0)
      (λ t.
      let k : is_message (sent_for w m) ≡ true = refenced_message (picked_fence w) m ∙ lets_pass (eqb-true _ 0 t) in
      not_malformed (idle (length b) s) s.own (sent_for w m) d (length b) k
      (sym (whole_code s (sent_for w m) d b) ∙ (rw t at c)))
      (λ t. walls (rw t at c))

-- ---- lists

channel-end : (steps : List Step) (x : Joined) → (joined_end x steps).channel ≡ channel.end x.channel (as_ops x steps)
unfolding joined_end as_ops channel.end
channel-end [] x = refl
channel-end (open_step room m ∷ ss) x =
    let y : Joined = after_step x (open_step room m) in
    cases (eqb (open_number x.wall room m) 0)
    (λ e. rw e (channel-end ss y ∙ ap (λ (c : Channel). channel.end c (as_ops y ss)) (open_sends x room m e)))
    (λ e. rw e (channel-end ss y ∙ ap (λ (c : Channel). channel.end c (as_ops y ss)) (open_stays x room m e)))
channel-end (reply_step received ∷ ss) x = channel-end ss (after_step x (reply_step received))
channel-end (channel_step o ∷ ss) x = channel-end ss (after_step x (channel_step o))

channel-run : (steps : List Step) (x : Joined) → channel_seen x steps ≡ channel.run x.channel (as_ops x steps)
unfolding channel_seen as_ops channel.run
channel-run [] x = refl
channel-run (open_step room m ∷ ss) x =
    let y : Joined = after_step x (open_step room m) in
    cases (eqb (open_number x.wall room m) 0)
    (λ e.
    let i : channel_seen y ss ≡ channel.run (channel.after x.channel (send_whole (sent_for x.wall m))) (as_ops y ss) =
    channel-run ss y ∙ ap (λ (c : Channel). channel.run c (as_ops y ss)) (open_sends x room m e) in
    rw (open_seen x room m e, e, i))
    (λ e. rw e (channel-run ss y ∙ ap (λ (c : Channel). channel.run c (as_ops y ss)) (open_stays x room m e)))
channel-run (reply_step received ∷ ss) x = channel-run ss (after_step x (reply_step received))
channel-run (channel_step o ∷ ss) x = rw (channel-run ss (after_step x (channel_step o)))

wall-end : (steps : List Step) (x : Joined) → (joined_end x steps).wall ≡ end x.wall (as_calls x steps)
unfolding joined_end as_calls end
wall-end [] x = refl
wall-end (open_step room m ∷ ss) x =
    let y : Joined = after_step x (open_step room m) in
    wall-end ss y ∙ ap (λ (w : Wall). end w (as_calls y ss)) (open_wall x room m)
wall-end (reply_step received ∷ ss) x = wall-end ss (after_step x (reply_step received))
wall-end (channel_step o ∷ ss) x = wall-end ss (after_step x (channel_step o))

wall-run : (steps : List Step) (x : Joined) → wall_answers x steps ≡ run x.wall (as_calls x steps)
unfolding wall_answers as_calls run
wall-run [] x = refl
wall-run (open_step room m ∷ ss) x =
    let y : Joined = after_step x (open_step room m) in
    let i : wall_answers y ss ≡ run (outcome x.wall (call x room m)).wall (as_calls y ss) =
    wall-run ss y ∙ ap (λ (w : Wall). run w (as_calls y ss)) (open_wall x room m) in
    λ k. open_answer x room m k ∷ i k
wall-run (reply_step received ∷ ss) x =
    ap (λ (l : List Answer). (reply x.wall received).answer ∷ l) (wall-run ss (after_step x (reply_step received)))
wall-run (channel_step o ∷ ss) x = wall-run ss (after_step x (channel_step o))

of_ring : (steps : List Step) (x : Joined) → AllOfRing (as_calls x steps)
unfolding as_calls
of_ring [] x = tt
of_ring (open_step room m ∷ ss) x =
    let c = whole_code x.channel.sender (sent_for x.wall m) x.channel.desc x.channel.buf in
    let l : ring_number x m < 14 = rw c (number_below _ _ (sent_for x.wall m) _ _) in
    (l, of_ring ss (after_step x (open_step room m)))
of_ring (reply_step received ∷ ss) x = (tt, of_ring ss (after_step x (reply_step received)))
of_ring (channel_step o ∷ ss) x = of_ring ss (after_step x (channel_step o))

pub mixed_lists : MixedLists
mixed_lists =
    record {
      sends = sends;
      never_4 = never_4;
      reads =
          λ x steps. record {
            channel-end = channel-end steps x;
            channel-run = channel-run steps x;
            wall-end = wall-end steps x;
            wall-run = wall-run steps x;
            of_ring = of_ring steps x;
          };
      demands = λ w d b l a steps. demand3 d b l a (as_ops _ steps);
    }
