-- Demand 3.
use mathlib.Core.Path.{◌≡◌, refl, sym, ap, ◌∙◌}
use mathlib.Core.Logic.{◌≢◌}
use mathlib.Core.Bool.{true}
use mathlib.Core.List.{List, [], ◌∷◌, ◌++◌, map, append_assoc, append-nil, map-append}
use Prim.Native.Nat.{ℕ, zero, suc, ◌+◌, ◌-◌, ◌%◌, ◌≤◌, ◌<◌}
use native.Mathlib.Nat.{mod-add-mod, mod-mod}
use native.Mathlib.Omega.{arith}
use borrow.Author.Tests.{leb-true, eqb-false}
use lib.ListN.{length, get_or, take, length-append}
use lib.Seq.{take_at, drop_at}
use lib.Dec.{leb, eqb}
use Rattle.message.specs.Header.{is_message, total_length}
use Rattle.message.proofs.Formed.{message-length, message_long}
use Rattle.ring.specs.Numbers.{need}
use Rattle.channel.specs.Outcome.{Outcome}
use Rattle.ring.specs.Ring.{allowed}
use Rattle.runs.specs.Buffer.{stored, window}
use Rattle.channel.specs.Steps.{moves, next_place}
use Rattle.channel.specs.Send
use Rattle.message.proofs.Tests.{cases}
use Rattle.runs.proofs.Ring.{apart, window_mod}
use Rattle.delivery.specs.Demand.{Call, Demand3, Serial, StoresAt, Unreleased, answers, cut}
use Rattle.delivery.specs.Demand.{ended, ended_by, held, midway, result, unread, wholes}
use Rattle.delivery.specs.Demand.{messages_published, published_by, messages_received, received_by}
use Rattle.channel.specs.Operations.{Op, receive_look, receive_move, receive_publish, receive_whole}
use Rattle.channel.specs.Operations.{send_look, send_move, send_publish, send_whole}
use Rattle.delivery.specs.Operations.{Channel, Seen, after, end, outcome, run}
use Rattle.delivery.specs.Operations.{plain_outcome, plain_end, plain_run, plain_seen}
use Rattle.delivery.specs.Plain.{PlainOutcome, Plain, Receiving, Sending, descriptor, fresh, not_sending, sending}
use Rattle.delivery.specs.Plain
use Rattle.delivery.proofs.Facts.{facts}
use Rattle.delivery.proofs.Invariant.{AllMessages, Inv, channel_of, plain, send_state, sender_of, used_eq}
use Rattle.delivery.proofs.Queue.{flat}
use Rattle.delivery.proofs.RanWhole.{HoldsMessage, Lacks, RanWhole, StepFacts, serial_of}
use Rattle.delivery.proofs.SendSteps.{SendSim, as_sender}
use Rattle.delivery.proofs.Simulation.{begin_eq, end-good, end_sim, fresh-good, open_code, run_sim, step_sim}
use Rattle.delivery.proofs.Wholes.{send-moves}
use Rattle.delivery.proofs.SendSteps

-- ---- messages

pub flow_run :
    (list : List Op) (p : Plain) → Inv p → (c : List ℕ) → HoldsMessage c p.send
    → p.queue ++ messages_published c list (plain_run p list) ≡ messages_received list (plain_run p list) ++ (plain_end p list).queue
unfolding messages_published messages_received plain_run plain_end
flow_run [] p g c h = append-nil p.queue
flow_run (o ∷ os) p g c h =
    let f : StepFacts p o (plain_outcome p o) = facts p g o in
    let x : Plain = (plain_outcome p o).next in
    let a : Seen = plain_seen (plain_outcome p o) in
    let later = messages_published (held c o a) os (plain_run x os) in
    let taken = messages_received os (plain_run x os) in
    let i : x.queue ++ later ≡ taken ++ (plain_end x os).queue = flow_run os x (step_sim p g o).good (held c o a) (f.holds c h) in
    sym (append_assoc p.queue (published_by c o a) _)
    ∙ ap (λ (l : List (List ℕ)). l ++ later) (f.flow c h)
    ∙ append_assoc (received_by o a) x.queue _
    ∙ ap (λ (l : List (List ℕ)). received_by o a ++ l) i
    ∙ sym (append_assoc (received_by o a) taken (plain_end x os).queue)

cut_flat : (f : ℕ) (q : List (List ℕ)) → AllMessages q → length (flat q) ≤ f → cut f (flat q) ≡ q
unfolding cut flat
cut_flat zero [] a h = refl
cut_flat (suc f) [] a h = refl
cut_flat f ([] ∷ q) a h = absurd (omega (arith, message_long [] a.0))
cut_flat zero ((x ∷ m) ∷ q) a h = absurd (omega arith)
cut_flat (suc f) ((x ∷ m) ∷ q) a h =
    let e : length (x ∷ m) ≡ total_length x = message-length (x ∷ m) a.0 in
    let l : length (flat q) ≤ f = omega (arith, length-append m (flat q)) in
    λ i. take_at (x ∷ m) (flat q) (total_length x) e i
    ∷ (ap (cut f) (drop_at (x ∷ m) (flat q) (total_length x) e) ∙ cut_flat f q a.1 l) i

unread-queue : (p : Plain) → Inv p → unread (descriptor p) p.buf ≡ p.queue
unfolding unread descriptor
unread-queue p g =
    let k = length (flat p.queue) in
    let m = window_mod p.buf p.n (p.R % p.n) p.R k (mod-mod p.R p.n) in
    let e : window p.buf p.n (p.R % p.n) k ≡ flat p.queue = m ∙ g.in_buffer in
    rw (used_eq p g, g.size, e) (cut_flat p.n p.queue g.all-messages (omega (arith, g.room)))

-- ---- the calls that ended, run whole

prun_append : (xs ys : List Op) (p : Plain) → plain_run p (xs ++ ys) ≡ plain_run p xs ++ plain_run (plain_end p xs) ys
unfolding plain_run plain_end
prun_append [] ys p = refl
prun_append (o ∷ xs) ys p = ap (λ (l : List Seen). plain_seen (plain_outcome p o) ∷ l) (prun_append xs ys (plain_outcome p o).next)

pend_append : (xs ys : List Op) (p : Plain) → plain_end p (xs ++ ys) ≡ plain_end (plain_end p xs) ys
unfolding plain_end
pend_append [] ys p = refl
pend_append (o ∷ xs) ys p = pend_append xs ys (plain_outcome p o).next

pub record RunWhole (p : Plain) (z : List ℕ) (y : Plain) (cs : List Call) : Type 0 where
  pub z' : List ℕ
  pub lin : Lacks y z'
  pub to : plain_end (serial_of p z) (wholes cs) ≡ serial_of y z'
  pub gave : map result (plain_run (serial_of p z) (wholes cs)) ≡ answers cs

chain :
    (p : Plain) (z : List ℕ) (x : PlainOutcome) (cs : List Call) (y : Plain) (ds : List Call) (f : RanWhole p z x cs)
    → RunWhole x.next f.z' y ds
    → RunWhole p z y (cs ++ ds)
chain p z x cs y ds f r =
    let e : wholes (cs ++ ds) ≡ wholes cs ++ wholes ds = map-append _ cs ds in
    record {
      z' = r.z';
      lin = r.lin;
      to =
          ap (plain_end (serial_of p z)) e ∙ pend_append (wholes cs) (wholes ds) (serial_of p z)
          ∙ ap (λ (u : Plain). plain_end u (wholes ds)) f.to ∙ r.to;
      gave =
          ap (λ (l : List Op). map result (plain_run (serial_of p z) l)) e
          ∙ ap (map result) (prun_append (wholes cs) (wholes ds) (serial_of p z))
          ∙ map-append _ (plain_run (serial_of p z) (wholes cs)) _
          ∙ (λ i. f.gave i ++ (ap (λ (u : Plain). map result (plain_run u (wholes ds))) f.to ∙ r.gave) i)
          ∙ sym (map-append _ cs ds);
    }

module _ (any : ℕ → List ℕ) (any-len : (i : ℕ) → length (any i) ≡ 256) where
  serial-run :
      (list : List Op) (p : Plain) → Inv p → (c : List ℕ) → HoldsMessage c p.send → (z : List ℕ) → Lacks p z
      → RunWhole p z (plain_end p list) (ended any c list (plain_run p list))
  unfolding ended plain_run plain_end
  serial-run [] p g c h z l = record { z' = z; lin = l; to = refl; gave = refl }
  serial-run (o ∷ os) p g c h z l =
      let f : StepFacts p o (plain_outcome p o) = facts p g o in
      let x : PlainOutcome = plain_outcome p o in
      let a : Seen = plain_seen x in
      let e : List ℕ = any (length os) in
      let r : RanWhole p z x (ended_by e c o a) = f.ran c h e (any-len (length os)) z l in
      chain p z x _ _ _ r
      (serial-run os x.next (step_sim p g o).good (held c o a) (f.holds c h) r.z' r.lin)

-- ---- stored

module _ (n : ℕ) (b : List ℕ) (q : List (List ℕ)) (P R : ℕ) (r : Receiving) (j : ℕ) where
  -- the plain channel, by its sender
  abbrev chan : Sending → Plain
  chan s = plain n b q P R s r

  -- place (P + k) mod N, where L dwords fit and k is below L, is not one that is held
  clear :
      (s : Sending) → Inv (chan s) → (k l : ℕ) → k < l → length (flat q) + l < n → Unreleased (chan s) j
      → j ≡ (P % n + k) % n
      → ⊥
  clear s g k l h f w e =
      apart n w.i (P + k) (omega arith) (omega (arith, g.count)) (sym w.at ∙ e ∙ mod-add-mod P n k)

  move_safe :
      (s : Sending) → Inv (chan s) → Plain.send_move_number (chan s) ≡ 0 → Unreleased (chan s) j
      → j ≡ next_place (send_state n P s) b
      → ⊥
  unfolding Plain.send_move_number need
  move_safe not_sending g e w f = omega arith
  move_safe (sending k m) g e w f =
      cases (eqb k (length m))
      (λ t. let z : ◌≡◌ {A = ℕ} 12 0 = rw t at e in omega arith)
      (λ t.
      let d : k ≢ length m = eqb-false k (length m) t in
      clear (sending k m) g k (length m) (omega (arith, g.send.up_to)) g.send.fits w (rw g.size at f))

  -- where a whole send stores its dword k, midway through it
  abbrev mid_place : Sending → List ℕ → ℕ → ℕ
  mid_place s m k = let x = midway (channel_of (chan s)) m k in next_place x.next x.buf

  midway_place :
      (m : List ℕ) → Inv (chan not_sending) → is_message m ≡ true → leb (length m) (n - 1 - (P - R)) ≡ true
      → (k : ℕ) → k < length m
      → mid_place not_sending m k ≡ (P % n + k) % n
  unfolding Plain.send_look_by Plain.send_look_number need
  midway_place m g t u k h =
      let p : Plain = chan not_sending in
      let x : PlainOutcome = Plain.send_look p m in
      let l : SendSim p (Send.look (sender_of p) m (descriptor p) b) x = SendSteps.look_sim p g m in
      let w : SendSim x.next (moves Send.move k (as_sender x)) (Plain.send_moves k x) = SendSteps.moves_sim k x l.good in
      let c : List ℕ = stored b n P (take k m) in
      let y : (Plain.send_moves k x).next ≡ plain n c q P R (sending k m) r = send-moves n b q P R r m k x (omega arith) (rw (t, u)) in
      let z : length c ≡ n = sym (ap (λ (v : Plain). length v.buf) y) ∙ w.good.size ∙ ap (λ (v : Plain). v.n) y in
      ap (λ (a : Outcome). next_place a.next a.buf) (ap (moves Send.move k) l.same ∙ w.same)
      ∙ ap (λ (v : Plain). next_place (sender_of v) v.buf) y
      ∙ ap (λ (x : ℕ). (P % n + k) % x) z

  whole_safe :
      (s : Sending) (m : List ℕ) → Inv (chan s) → (Plain.send_look (chan s) m).code ≡ 0
      → Unreleased (chan s) j → (k : ℕ) → k < length m
      → j ≡ mid_place s m k → ⊥
  unfolding Plain.send_look_by Plain.send_look_number need
  whole_safe not_sending m g e w k h f =
      cases (is_message m)
      (λ t. cases (leb (length m) (n - 1 - (P - R)))
      (λ u.
      let v : length m ≤ n - 1 - (P - R) = leb-true (length m) (n - 1 - (P - R)) u in
      clear not_sending g k (length m) h (omega (arith, g.count, g.room)) w (f ∙ midway_place m g t u k h))
      (λ u. let z : ◌≡◌ {A = ℕ} 10 0 = rw (t, u) at e in omega arith))
      (λ t. let z : ◌≡◌ {A = ℕ} 4 0 = rw t at e in omega arith)
  whole_safe (sending k₀ m₀) m g e w k h f = let z : ◌≡◌ {A = ℕ} 3 0 = e in omega arith

  -- the place of a store in the plain channel's words
  move_place : (s : Sending) → Inv (chan s) → j ≡ next_place (send_state n P s) b → j ≡ (P + (send_state n P s).moved) % n
  move_place not_sending g f = rw g.size at f ∙ mod-add-mod P n 0
  move_place (sending k m) g f = rw g.size at f ∙ mod-add-mod P n k

  whole_place :
      (s : Sending) (m : List ℕ) → Inv (chan s) → (Plain.send_look (chan s) m).code ≡ 0 → (k : ℕ) → k < length m
      → j ≡ mid_place s m k
      → j ≡ (P + k) % n
  unfolding Plain.send_look_by Plain.send_look_number need
  whole_place not_sending m g e k h f =
      cases (is_message m)
      (λ t. cases (leb (length m) (n - 1 - (P - R)))
      (λ u. f ∙ midway_place m g t u k h ∙ mod-add-mod P n k)
      (λ u. let z : ◌≡◌ {A = ℕ} 10 0 = rw (t, u) at e in absurd (omega arith)))
      (λ t. let z : ◌≡◌ {A = ℕ} 4 0 = rw t at e in absurd (omega arith))
  whole_place (sending k₀ m₀) m g e k h f = let z : ◌≡◌ {A = ℕ} 3 0 = e in absurd (omega arith)

-- the plain channel accepts what the channel accepts
accepts : (p : Plain) → Inv p → (o : Op) → (outcome (channel_of p) o).code ≡ 0 → (plain_outcome p o).code ≡ 0
accepts p g o z = sym (ap (λ (x : Seen). x.code) (step_sim p g o).same) ∙ z

store_place : (p : Plain) → Inv p → (o : Op) (k j : ℕ) → StoresAt (channel_of p) o k j → j ≡ (p.P + k) % p.n
store_place p g (send_look m) k j s = absurd s
store_place p g send_move k j s = rw s.1 (move_place p.n p.buf p.queue p.P p.R p.receive j p.send g s.2)
store_place p g send_publish k j s = absurd s
store_place p g (send_whole m) k j s =
    whole_place p.n p.buf p.queue p.P p.R p.receive j p.send m g
    (accepts p g (send_look m) s.0) k s.1 s.2
store_place p g receive_look k j s = absurd s
store_place p g receive_move k j s = absurd s
store_place p g (receive_publish o) k j s = absurd s
store_place p g (receive_whole o) k j s = absurd s

no_store : (p : Plain) → Inv p → (o : Op) (j : ℕ) → Unreleased p j → (k : ℕ) → StoresAt (channel_of p) o k j → ⊥
unfolding Plain.send_move_by
no_store p g (send_look m) j w k s = s
no_store p g send_move j w k s =
    move_safe p.n p.buf p.queue p.P p.R p.receive j p.send g
    (accepts p g send_move s.0) w s.2
no_store p g send_publish j w k s = s
no_store p g (send_whole m) j w k s =
    whole_safe p.n p.buf p.queue p.P p.R p.receive j p.send m g
    (accepts p g (send_look m) s.0) w k s.1 s.2
no_store p g receive_look j w k s = s
no_store p g receive_move j w k s = s
no_store p g (receive_publish o) j w k s = s
no_store p g (receive_whole o) j w k s = s

kept-dword : (p : Plain) → Inv p → (o : Op) (j : ℕ) → Unreleased p j → get_or (after (channel_of p) o).buf j 0 ≡ get_or p.buf j 0
kept-dword p g o j w = ap (λ (y : Channel). get_or y.buf j 0) (step_sim p g o).ends ∙ (facts p g o).keeps j w

-- ---- demand 3

module _ (b : List ℕ) (a : allowed (length b) ≡ true) (list : List Op) where
  -- both channels as they are opened
  abbrev p₀ : Plain
  p₀ = fresh (length b) b

  abbrev c₀ : Channel
  c₀ = channel_of p₀

  g₀ : Inv p₀
  g₀ = fresh-good b a

  messages₀ :
      messages_received list (run c₀ list) ++ unread (end c₀ list).desc (end c₀ list).buf
      ≡ messages_published [] list (run c₀ list)
  messages₀ =
      let p : Plain = plain_end p₀ list in
      rw (run_sim p₀ g₀ list, end_sim p₀ g₀ list)
      (ap (λ (l : List (List ℕ)). messages_received list (plain_run p₀ list) ++ l)
      (unread-queue p (end-good p₀ g₀ list))
      ∙ sym (flow_run list p₀ g₀ [] tt))

  stores₀ :
      (pre : List Op) (o : Op) (j : ℕ) → Unreleased (plain_end p₀ pre) j
      → ((k : ℕ) → StoresAt (end c₀ pre) o k j → ⊥) × (get_or (after (end c₀ pre) o).buf j 0 ≡ get_or (end c₀ pre).buf j 0)
  stores₀ pre o j w =
      let p : Plain = plain_end p₀ pre in
      let g : Inv p = end-good p₀ g₀ pre in
      rw (end_sim p₀ g₀ pre) (no_store p g o j w, kept-dword p g o j w)

  places₀ :
      (pre : List Op) (o : Op) (k j : ℕ) → StoresAt (end c₀ pre) o k j
      → j ≡ ((plain_end p₀ pre).P + k) % (plain_end p₀ pre).n
  places₀ pre o k j =
      rw (end_sim p₀ g₀ pre) (store_place (plain_end p₀ pre) (end-good p₀ g₀ pre) o k j)

  serial₀ :
      (plain_end p₀ list).send ≡ not_sending → (any : ℕ → List ℕ) → ((i : ℕ) → length (any i) ≡ 256)
      → Serial c₀ (ended any [] list (run c₀ list)) (end c₀ list)
  unfolding stored descriptor
  serial₀ s any l =
      let p : Plain = plain_end p₀ list in
      let cs : List Call = ended any [] list (plain_run p₀ list) in
      let r : RunWhole p₀ b p cs = serial-run any l list p₀ g₀ [] tt b refl in
      rw (run_sim p₀ g₀ list, end_sim p₀ g₀ list)
      (record {
        same_answers = ap (map result) (run_sim p₀ g₀ (wholes cs)) ∙ r.gave;
        same_desc = ap (λ (y : Channel). y.desc) (end_sim p₀ g₀ (wholes cs)) ∙ ap descriptor r.to;
        same_buf =
            ap (λ (y : Channel). y.buf) (end_sim p₀ g₀ (wholes cs)) ∙ ap (λ (y : Plain). y.buf) r.to
            ∙ sym (rw s at r.lin);
      })

pub demand3 : Demand3
demand3 d b e a list =
    let o = begin_eq d b e a in
    let p : Plain = fresh (length b) b in
    let g : Inv p = fresh-good b a in
    record {
      opens = open_code d b e a;
      messages = rw o (messages₀ b a list);
      stores = λ before later op _. rw o (stores₀ b a list before op);
      places = λ before later op _. rw o (places₀ b a list before op);
      as_plain = rw o (run_sim p g list);
      plain_desc = rw o (ap (λ (y : Channel). y.desc) (end_sim p g list));
      plain_buf = rw o (ap (λ (y : Channel). y.buf) (end_sim p g list));
      serial = λ s r any l. rw o (serial₀ b a list s any l);
    }
