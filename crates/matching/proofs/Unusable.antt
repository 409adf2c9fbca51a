-- 35, exactly where a table is not taken, and 2; what a refusal leaves; which records are free. Assumes nothing.
use Prim.Native.Nat.{ℕ, ◌+◌, ◌-◌, ◌≤◌}
use mathlib.Core.Path.{◌≡◌, refl, sym, ap, ◌∙◌}
use mathlib.Core.Logic.{◌↔◌}
use mathlib.Core.Bool.{Bool, true, false, ◌&&◌, cond}
use mathlib.Core.List.{List}
use mathlib.Core.Option.{Option, none, some}
use native.Mathlib.Omega.{arith}
use borrow.Author.Tests.{eqb-true, eq-eqb, ne_eqb, leb-true, le-leb, not-false}
use lib.ListN.{length}
use lib.Dec.{eqb, leb, ltb}
use Rattle.message.specs.Header.{is_request}
use Rattle.message.specs.declared.Message.{Message}
use Rattle.message.proofs.Tests.{cases}
use Rattle.ring.specs.Ring.{allowed}
use Rattle.ring.specs.Numbers.{need}
use Rattle.ring.proofs.Chains.{true_false, ok}
use Rattle.requests.specs.declared.record.Record.{Record}
use Rattle.requests.specs.declared.asking.Heard.{Heard}
use Rattle.requests.specs.Table.{usable, is_open, still_open, allowed_length, lowest_free, set_aside}
use Rattle.requests.specs.Calls.{Wall, refused, wall_needs, open_number, open_by, reply_number, reply_at, reply_by, heard_of}
use Rattle.requests.specs.Calls.{is_reply, answer_of, fresh, fresh_by, fresh_number}
use Rattle.matching.specs.Lists.{Call, open_call, reply_call, OfRing, outcome}
use Rattle.matching.specs.Matching.{Taken, turned_away}
use Rattle.matching.proofs.Once.{usable_told}

-- ---- a call answers its number

pub open_code : (c : ℕ) (w : Wall) (room : ℕ) (m : List ℕ) → (open_by c w room m).answer.code ≡ c
unfolding open_by refused
open_code c w room m = cases (eqb c 0) (λ e. rw e (sym (eqb-true c 0 e))) (λ e. rw e)

reply-code : (c : ℕ) (h : Heard) (w : Wall) → (reply_by c h w).answer.code ≡ c
unfolding reply_by reply_at answer_of refused
reply-code c h w = cases (eqb c 0) (λ e. rw e (sym (eqb-true c 0 e))) (λ e. rw e)

-- the number of a call
abbrev number_of : Wall → Call → ℕ
number_of w (open_call room m ring) = cond (eqb (open_number w room m) 0) ring (open_number w room m)
number_of w (reply_call received) = reply_number w (heard_of received)

pub code_of : (w : Wall) (c : Call) → (outcome w c).answer.code ≡ number_of w c
code_of w (open_call room m ring) = open_code (number_of w (open_call room m ring)) w room m
code_of w (reply_call received) = reply-code (reply_number w (heard_of received)) (heard_of received) w

-- ---- and that is 35 by the first test alone

-- of the numbers n that stand behind it none is 35
later : (b : Bool) (n : ℕ) → (n ≡ 35 → ⊥) → (need b 35 n ≡ 35) ↔ (b ≡ false)
unfolding need
later true n d = (λ e. absurd (d e), λ e. true_false e)
later false n d = (λ e. refl, λ e. refl)

-- a chain whose numbers are none of them x
pub one_of : (x : ℕ) (b : Bool) (n rest : ℕ) → (n ≡ x → ⊥) → (rest ≡ x → ⊥) → need b n rest ≡ x → ⊥
unfolding need
one_of x true n rest d r e = r e
one_of x false n rest d r e = d e

-- the number that an opening answers, of which one is the wall's and one the ring's
abbrev pub ring_last : ℕ → ℕ → ℕ
ring_last number ring = cond (eqb number 0) ring number

pub neither : (x number ring : ℕ) → (number ≡ x → ⊥) → (ring ≡ x → ⊥) → ring_last number ring ≡ x → ⊥
neither x number ring n r e = cases (eqb number 0) (λ z. r (rw z at e)) (λ z. n (rw z at e))

-- the numbers of an opening behind 35 and 2, and of a reply
abbrev pub behind : Wall → ℕ → List ℕ → ℕ
behind w room m =
    need (leb room 256) 14
    (need (is_request m) 27
    (need (ltb (lowest_free w.table) (length w.table)) 26
    (need (leb (set_aside w.table + room) (w.n - 1)) 28 0)))

abbrev behind_reply : Wall → Heard → ℕ
behind_reply w h = need (eqb h.code 0) h.code (need (still_open w.table h.fence && is_reply h.kind) 27 0)

pub behind-none :
    (x : ℕ) → (14 ≡ x → ⊥) → (27 ≡ x → ⊥) → (26 ≡ x → ⊥) → (28 ≡ x → ⊥) → (0 ≡ x → ⊥)
    → (w : Wall) (room : ℕ) (m : List ℕ) → behind w room m ≡ x → ⊥
behind-none x a b c d z w room m =
    one_of x _ 14 _ a (one_of x _ 27 _ b (one_of x _ 26 _ c (one_of x _ 28 _ d z)))

heard_code : (received : Option Message) → ((heard_of received).code ≡ 35 → ⊥) × ((heard_of received).code ≡ 2 → ⊥)
unfolding heard_of
heard_code none = (λ e. omega arith, λ e. omega arith)
heard_code (some m) = (λ e. omega arith, λ e. omega arith)

reply-none :
    (x : ℕ) (w : Wall) (h : Heard) → (h.code ≡ x → ⊥) → (27 ≡ x → ⊥) → (0 ≡ x → ⊥) → behind_reply w h ≡ x → ⊥
reply-none x w h c d z = one_of x _ h.code _ c (one_of x _ 27 _ d z)

by_test : (w : Wall) (c : Call) → OfRing c → ((outcome w c).answer.code ≡ 35) ↔ (usable w.table ≡ false)
unfolding open_number reply_number wall_needs
by_test w (open_call room m ring) r =
    let rest : need (allowed w.n) 2 (behind w room m) ≡ 35 → ⊥ =
    one_of 35 (allowed w.n) 2 _ (λ e. omega arith)
    (behind-none 35 (λ e. omega arith) (λ e. omega arith) (λ e. omega arith) (λ e. omega arith) (λ e. omega arith) w room m) in
    let n : ℕ = need (allowed w.n) 2 (behind w room m) in
    rw (code_of w (open_call room m ring))
    (cases (usable w.table)
    (λ u. (
      λ e. absurd (neither 35 n ring rest (λ q. omega arith) (unfold need in (rw u at e))),
      λ e. true_false (sym u ∙ e),
    ))
    (λ u. (λ e. u, λ e. unfold need in (rw u))))
by_test w (reply_call received) r =
    rw (code_of w (reply_call received))
    (later (usable w.table) _
    (one_of 35 (allowed w.n) 2 _ (λ e. omega arith)
    (reply-none 35 w (heard_of received) (heard_code received).0 (λ e. omega arith) (λ e. omega arith))))

pub bad-table : (w : Wall) (c : Call) → OfRing c → ((outcome w c).answer.code ≡ 35) ↔ (Taken w.table → ⊥)
bad-table w c r =
    let t = w.table in (
      λ e h. true_false (sym ((usable_told t).1 h) ∙ (by_test w c r).0 e),
      λ n. (by_test w c r).1 (cases (usable t) (λ e. absurd (n ((usable_told t).0 e))) (λ e. e)),
    )

-- ---- 2 is next

pub bad-buffer : (w : Wall) (c : Call) → Taken w.table → allowed w.n ≡ false → outcome w c ≡ turned_away 2 w
unfolding open_number open_by reply_number reply_by wall_needs need refused
bad-buffer w (open_call room m ring) h a = rw ((usable_told w.table).1 h, a)
bad-buffer w (reply_call received) h a = rw ((usable_told w.table).1 h, a)

pub good-buffer :
    (w : Wall) (received : Option Message) → allowed w.n ≡ true
    → (outcome w (reply_call received)).answer.code ≡ 2 → ⊥
unfolding reply_number wall_needs
good-buffer w received a e =
    let q = reply-none 2 w (heard_of received) (heard_code received).1 (λ e. omega arith) (λ e. omega arith) in
    let rest = need (allowed w.n) 2 (behind_reply w (heard_of received)) in
    one_of 2 (usable w.table) 35 rest (λ e. omega arith) (unfold need in (rw a q))
    (sym (code_of w (reply_call received)) ∙ e)

pub ring-buffer :
    (w : Wall) (room : ℕ) (m : List ℕ) (ring : ℕ) → allowed w.n ≡ true
    → (outcome w (open_call room m ring)).answer.code ≡ 2 → ring ≡ 2
unfolding open_number wall_needs
ring-buffer w room m ring a e =
    let c : ring_last (open_number w room m) ring ≡ 2 = sym (code_of w (open_call room m ring)) ∙ e in
    let q : behind w room m ≡ 2 → ⊥ =
    behind-none 2 (λ e. omega arith) (λ e. omega arith) (λ e. omega arith) (λ e. omega arith) (λ e. omega arith) w room m in
    let rest : ℕ = need (allowed w.n) 2 (behind w room m) in
    cases (eqb (open_number w room m) 0)
    (λ z. rw z at c)
    (λ z. absurd (one_of 2 (usable w.table) 35 rest (λ e. omega arith) (λ r. q (sym (ok 2 a) ∙ r)) (rw z at c)))

-- ---- a table that is not made fresh

pub fresh-length :
    (w : Wall) (n : ℕ) → ((1 ≤ length w.table) × (length w.table ≤ 256) → ⊥) → fresh w n ≡ turned_away 35 w
unfolding fresh_by fresh_number allowed_length need refused
fresh-length w n f =
    let l = length w.table in
    cases (leb 1 l)
    (λ a. cases (leb l 256) (λ b. absurd (f (leb-true 1 l a, leb-true l 256 b))) (λ b. rw (a, b)))
    (λ a. rw a)

pub fresh-buffer :
    (w : Wall) (n : ℕ) → 1 ≤ length w.table → length w.table ≤ 256 → allowed n ≡ false
    → fresh w n ≡ turned_away 2 w
unfolding fresh_by fresh_number allowed_length need refused
fresh-buffer w n l h a = rw (le-leb 1 (length w.table) l, le-leb (length w.table) 256 h, a)

-- ---- what a refusal leaves

open_leaves : (c : ℕ) (w : Wall) (room : ℕ) (m : List ℕ) → (c ≡ 0 → ⊥) → open_by c w room m ≡ turned_away c w
unfolding open_by refused
open_leaves c w room m n = rw (ne_eqb c 0 n)

reply-leaves : (c : ℕ) (h : Heard) (w : Wall) → (c ≡ 0 → ⊥) → reply_by c h w ≡ turned_away c w
unfolding reply_by refused
reply-leaves c h w n = rw (ne_eqb c 0 n)

pub refused-leaves :
    (w : Wall) (c : Call) → ((outcome w c).answer.code ≡ 0 → ⊥) → outcome w c ≡ turned_away (outcome w c).answer.code w
refused-leaves w (open_call room m ring) n =
    let c : Call = open_call room m ring in
    open_leaves (number_of w c) w room m (λ e. n (code_of w c ∙ e)) ∙ ap (λ (k : ℕ). turned_away k w) (sym (code_of w c))
refused-leaves w (reply_call received) n =
    let c : Call = reply_call received in
    reply-leaves (number_of w c) (heard_of received) w (λ e. n (code_of w c ∙ e))
    ∙ ap (λ (k : ℕ). turned_away k w) (sym (code_of w c))

-- ---- which records are free

pub free_is_0 : (r : Record) → (is_open r ≡ false) ↔ (r.is_open ≡ 0)
unfolding is_open
free_is_0 r = (λ e. eqb-true _ 0 (not-false _ e), λ e. rw (eq-eqb _ 0 e))
