-- A reply on a wall does what it does on the plain map of its table. Assumes nothing.
use Prim.Native.Nat.{ℕ, ◌+◌}
use mathlib.Core.Path.{◌≡◌, refl, sym, ap, ◌∙◌}
use mathlib.Core.Bool.{true, false, ◌&&◌, cond}
use mathlib.Core.List.{List, [], ◌∷◌}
use mathlib.Core.Option.{Option, none, some}
use borrow.Author.Tests.{ltb-true, ltb-false, le-leb, lt-leb}
use lib.Dec.{eqb, leb, ltb}
use Rattle.message.specs.Types.{type_of}
use Rattle.message.specs.declared.Body.{Body}
use Rattle.message.specs.declared.Body.TheVariants.{Request, Event, FastRequest, Busy, Retry, Failure, Success}
use Rattle.message.specs.declared.Message.{Message}
use Rattle.message.proofs.Tests.{and_false, and_i, cases}
use Rattle.ring.specs.Ring.{allowed}
use Rattle.ring.specs.Numbers.{need}
use Rattle.requests.specs.declared.record.Record.{Record}
use Rattle.requests.specs.declared.asking.Heard.{Heard}
use Rattle.requests.specs.Table.{free_record, is_open, has_fence, still_open, place_of}
use Rattle.requests.specs.Calls.{Wall, refused, wall_needs, is_reply, reply_number, reply_by, replying, reply_at}
use Rattle.requests.specs.Calls.{heard_of, reply, counted, count_after, record_after, answer_of}
use Rattle.matching.specs.Map.{Entry, Plain, refused_by, busier, plain_answer, plain_hear, plain_find, plain_heard, plain_reply}
use Rattle.matching.specs.Matching.{at, Good, entry_in, plain_of}
use Rattle.matching.proofs.Tables.{entry_of, has_fence_lem, has_other, has_closed, free-closed}
use Rattle.matching.proofs.Tables.{closed_none, place_inside, place_has, place_entry}
use Rattle.matching.proofs.Sets.{Stores}
use Rattle.matching.proofs.Once.{alone}
use Rattle.matching.proofs.Openings.{gives, as_plain, stored-map, is_usable}

-- ---- the record that a reply leaves

-- the map's count after a busy is the wall's
counted-busier : (n : ℕ) → cond (leb 65535 n) n (n + 1) ≡ counted n
unfolding counted
counted-busier n =
    cases (ltb n 65535)
    (λ e. rw (e, lt-leb 65535 n (ltb-true n 65535 e)))
    (λ e. rw (e, le-leb 65535 n (ltb-false n 65535 e)))

pub free-entry : (f : ℕ) → entry_in (free_record ∷ []) f ≡ none
unfolding entry_in
free-entry f = rw (has_closed f free_record free-closed)

pub busy-entry : (f : ℕ) (r : Record) → has_fence f r ≡ true → entry_in (record_after 3 r ∷ []) f ≡ some (busier (entry_of r))
unfolding entry_in record_after busier has_fence is_open
busy-entry f r h = rw (h, counted-busier r.count)

-- it has no fence that the record before it did not have
after-other : (kind g : ℕ) (r : Record) → has_fence g r ≡ false → has_fence g (record_after kind r) ≡ false
unfolding record_after has_fence is_open
after-other kind g r h = cases (eqb kind 3) (λ e. rw e h) (λ e. rw e)

-- what is heard of a message that unpacks
abbrev pub heard_as : ℕ → ℕ → Heard
heard_as kind f = record { code = 0; kind = kind; fence = f }

module _ (w : Wall) (g : Good w.table) (f : ℕ) where
  abbrev t : List Record
  t = w.table

  -- the record that a reply with this fence answers
  abbrev pub answered : Record
  answered = at t (place_of f t)

  pub reply-stores : (kind : ℕ) → still_open t f ≡ true → Stores t (place_of f t) (record_after kind answered) f
  reply-stores kind s =
      let h : has_fence f answered ≡ true = place_has t f s in
      let o : (k : ℕ) → (k ≡ f → ⊥) → has_fence k answered ≡ false =
      λ k n. has_other k answered (λ q. n (sym q ∙ has_fence_lem f answered h)) in
      record {
        inside = place_inside t f s;
        was = o;
        now = λ k n. after-other kind k answered (o k n);
        elsewhere = alone t f (place_of f t) g.taken.no_fence-twice h;
      }

  -- ---- what is answered

  pub reply-buffer : (h : Heard) → allowed w.n ≡ false → replying w h ≡ refused 2 w
  unfolding reply_by reply_number wall_needs need
  reply-buffer h a = rw (is_usable w g, a)

  module _ (a : allowed w.n ≡ true) where
    pub reply-malformed : reply w none ≡ refused 4 w
    unfolding heard_of reply_by reply_number wall_needs need
    reply-malformed = rw (is_usable w g, a)

    pub reply_no : (kind : ℕ) → (still_open t f && is_reply kind) ≡ false → replying w (heard_as kind f) ≡ refused 27 w
    unfolding reply_by reply_number wall_needs need
    reply_no kind e = rw (is_usable w g, a, e)

    pub reply_yes :
        (kind : ℕ) → (still_open t f && is_reply kind) ≡ true → replying w (heard_as kind f) ≡ reply_at (place_of f t) kind w
    unfolding reply_by reply_number wall_needs need
    reply_yes kind e = rw (is_usable w g, a, e)

  -- ---- on the map

  abbrev map : Plain
  map = plain_of w

  closing_same :
      (kind : ℕ) → eqb kind 3 ≡ false → still_open t f ≡ true
      → plain_answer map f kind (entry_of answered) none ≡ as_plain (reply_at (place_of f t) kind w)
  unfolding reply_at answer_of count_after record_after
  closing_same kind e s =
      let u : Stores t (place_of f t) free_record f = rw e at (reply-stores kind s) in
      rw e (ap (gives _) (stored-map w (place_of f t) free_record f none w.last u (free-entry f)))

  busy_same :
      still_open t f ≡ true
      → plain_answer map f 3 (busier (entry_of answered)) (some (busier (entry_of answered)))
      ≡ as_plain (reply_at (place_of f t) 3 w)
  unfolding reply_at answer_of count_after busier
  busy_same s =
      let u = busy-entry f answered (place_has t f s) in
      λ i. record {
        answer = record { code = 0; kind = 3; fence = 0; action = answered.action; count = counted-busier answered.count i };
        next = stored-map w (place_of f t) (record_after 3 answered) f _ w.last (reply-stores 3 s) u i;
      }

  module _ (a : allowed w.n ≡ true) where
    -- a message of a type that is no reply
    unheard_at :
        (b : Body) → ((e : Entry) → plain_hear map f b e ≡ refused_by 27 map) → (o : Option Entry)
        → plain_find map f b o ≡ refused_by 27 map
    unfolding plain_find
    unheard_at b h none = refl
    unheard_at b h (some e) = h e

    unheard :
        (b : Body) → is_reply (type_of b) ≡ false → ((e : Entry) → plain_hear map f b e ≡ refused_by 27 map)
        → plain_find map f b (entry_in t f) ≡ as_plain (replying w (heard_as (type_of b) f))
    unfolding refused
    unheard b n h =
        rw (unheard_at b h (entry_in t f), reply_no a (type_of b) (rw n (and_false (still_open t f))))

    -- and of one that is
    heard :
        (b : Body) → is_reply (type_of b) ≡ true
        → (still_open t f ≡ true → plain_hear map f b (entry_of answered) ≡ as_plain (reply_at (place_of f t) (type_of b) w))
        → plain_find map f b (entry_in t f) ≡ as_plain (replying w (heard_as (type_of b) f))
    unfolding plain_find refused
    heard b y h =
        cases (still_open t f)
        (λ s. rw (place_entry t f s, reply_yes a (type_of b) (and_i _ _ s y)) (h s))
        (λ s. rw (closed_none t f s, reply_no a (type_of b) (rw s)))

    pub body_same : (b : Body) → plain_find map f b (entry_in t f) ≡ as_plain (replying w (heard_as (type_of b) f))
    unfolding type_of is_reply plain_hear
    body_same (Request d k) = unheard (Request d k) refl (λ e. refl)
    body_same (Event d k) = unheard (Event d k) refl (λ e. refl)
    body_same (FastRequest d k) = unheard (FastRequest d k) refl (λ e. refl)
    body_same (Busy c) = heard (Busy c) refl busy_same
    body_same (Retry r) = heard (Retry r) refl (closing_same 5 refl)
    body_same (Failure h n) = heard (Failure h n) refl (closing_same 6 refl)
    body_same (Success d) = heard (Success d) refl (closing_same 7 refl)

module _ (w : Wall) (g : Good w.table) where
  heard_same :
      allowed w.n ≡ true → (received : Option Message) → plain_heard (plain_of w) received ≡ as_plain (reply w received)
  unfolding plain_heard refused heard_of
  heard_same a none = rw (reply-malformed w g 0 a)
  heard_same a (some m) = body_same w g m.fence a m.body

  pub reply_same : (received : Option Message) → plain_reply (plain_of w) received ≡ as_plain (reply w received)
  unfolding plain_reply refused
  reply_same received =
      cases (allowed w.n)
      (λ a. rw a (heard_same a received))
      (λ a. rw (a, reply-buffer w g 0 (heard_of received) a))
