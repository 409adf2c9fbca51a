-- The numbers of a wall's calls are those of the first row that is given, and a refused one leaves the wall: making it fresh
-- and replies. (Openings: Requests.antt.) Assumes nothing.
use Prim.Native.Nat.{ℕ}
use mathlib.Core.Path.{◌≡◌, refl, sym, ap, ◌∙◌}
use mathlib.Core.Bool.{Bool, true, false, not, ◌&&◌, ◌||◌, cond}
use mathlib.Core.List.{List, [], ◌∷◌}
use mathlib.Core.Option.{Option, none, some}
use lib.ListN.{length, get_or}
use lib.Dec.{eqb, leb}
use borrow.Author.Tests.{eqb-true, ne_eqb}
use Rattle.message.proofs.Agreement.{agreement}
use Rattle.message.proofs.Tests.{cases}
use Rattle.message.proofs.Tiling.{holds-first, holds-rest}
use Rattle.message.specs.Fields.{fence, type, field_of}
use Rattle.message.specs.Header.{is_message}
use Rattle.message.specs.Packing.{header_fields, hxg_fields, unpack}
use Rattle.message.specs.Types.{body_fields, type_of}
use Rattle.message.specs.declared.Message.{Message}
use Rattle.ring.specs.Ring.{allowed}
use Rattle.ring.specs.Numbers.{need}
use Rattle.requests.specs.Calls.{Outcome, Wall, fresh, fresh_by, fresh_number, heard_of, is_reply, reply, wall_needs}
use Rattle.requests.specs.Calls.{answer_of, refused, reply_at, reply_by, reply_number, replying}
use Rattle.requests.specs.Table.{allowed_length, fence_twice, still_open, usable}
use Rattle.requests.specs.declared.asking.Heard.{Heard}
use Rattle.requests.specs.declared.record.Record.{Record}
use Rattle.refusals.specs.Order.{Row}
use Rattle.refusals.specs.Table.{row_4}
use Rattle.refusals.specs.WallRows.{fresh_tests, other_length, reply_dwords_tests, reply_message_tests, row_2_reply}
use Rattle.refusals.specs.WallRows.{row_27, row_27_dwords, row_27_message, row_35, row_35_length, wall_tests}
use Rattle.refusals.specs.Left.{WallRefused}
use Rattle.refusals.proofs.Lowest.{first_judged, first_of}
use Rattle.refusals.proofs.Rows.{either_fails, not_not}

-- ---- the same test from both sides

-- 35: what is not usable
unusable : (t : List Record) → (other_length t || fence_twice t) ≡ not (usable t)
unfolding usable allowed_length
unusable t =
    ap (λ (b : Bool). other_length t || b) (not_not (fence_twice t))
    ∙ either_fails (leb 1 (length t) && leb (length t) 256) (not (fence_twice t))

-- a test of a chain that is judged alone, and the row that is given where it fails
pub one-judged :
    (t : Bool) (r : Row) (rest : ℕ) (later : List (List Row)) → r.given ≡ not t → eqb r.number 0 ≡ false
    → rest ≡ first_judged later
    → need t r.number rest ≡ first_judged ((r ∷ []) ∷ later)
unfolding need first_of first_judged
one-judged true r rest later g n e = rw (g, e)
one-judged false r rest later g n e = rw (g, n)

pub none-judged : 0 ≡ first_judged []
unfolding first_judged
none-judged = refl

-- behind 2, and behind 35 and 2
behind_2 :
    (n rest : ℕ) (later : List (List Row)) → rest ≡ first_judged later
    → need (allowed n) 2 rest ≡ first_judged ((row_2_reply n ∷ []) ∷ later)
behind_2 n rest later e = one-judged (allowed n) (row_2_reply n) rest later refl refl e

pub behind_35_2 :
    (w : Wall) (rest : ℕ) (later : List (List Row)) → rest ≡ first_judged later
    → wall_needs w rest ≡ first_judged (wall_tests w later)
unfolding wall_needs
behind_35_2 w rest later e =
    one-judged (usable w.table) (row_35 w.table) _ _ (unusable w.table) refl (behind_2 w.n rest later e)

-- ---- a call that takes its number first, and then acts by it

module _ (c : ℕ) (accepted : Outcome) (w : Wall) (z : accepted.answer.code ≡ 0) where
  abbrev outcome : Outcome
  outcome = cond (eqb c 0) accepted (refused c w)

  pub code_same : outcome.answer.code ≡ c
  unfolding refused
  code_same = cases (eqb c 0) (λ e. rw e (z ∙ sym (eqb-true c 0 e))) (λ e. rw e)

  pub leaves_all : (outcome.answer.code ≡ 0 → ⊥) → WallRefused w outcome.answer outcome.wall
  unfolding refused
  leaves_all n =
      let e : eqb c 0 ≡ false = ne_eqb c 0 (λ q. n (code_same ∙ q)) in
      rw e
      (record {
        table = refl;
        last-fence = refl;
        reply-buffer = refl;
        no_kind = refl;
        no_fence = refl;
        no_action = refl;
        no_count = refl;
      })

-- ---- a message behind 35 and 2: the number that refused it already, then 27

abbrev message_number : List Record → ℕ → ℕ → ℕ → ℕ
message_number t c kind f = need (eqb c 0) c (need (still_open t f && is_reply kind) 27 0)

unheard : (t : List Record) (kind f : ℕ) → message_number t 0 kind f ≡ first_judged ((row_27 t kind f ∷ []) ∷ [])
unfolding need
unheard t kind f =
    one-judged (still_open t f && is_reply kind) (row_27 t kind f) 0 [] (either_fails (still_open t f) (is_reply kind)) refl
    none-judged

-- ---- the calls

module _ (w : Wall) where
  pub fresh-number : (n : ℕ) → (fresh w n).answer.code ≡ first_judged (fresh_tests w n)
  unfolding fresh_by fresh_number allowed_length
  fresh-number n =
      code_same (fresh_number (length w.table) n) _ w refl
      ∙ one-judged (allowed_length (length w.table)) (row_35_length w.table) _ _ refl refl (behind_2 n 0 [] none-judged)

  pub fresh-refused : (n : ℕ) → ((fresh w n).answer.code ≡ 0 → ⊥) → WallRefused w (fresh w n).answer (fresh w n).wall
  unfolding fresh_by
  fresh-refused n z = leaves_all (fresh_number (length w.table) n) _ w refl z

  -- a reply, or the number that refused its message, behind 35 and 2
  reply-behind :
      (h : Heard) (later : List (List Row)) → message_number w.table h.code h.kind h.fence ≡ first_judged later
      → (replying w h).answer.code ≡ first_judged (wall_tests w later)
  unfolding reply_by reply_at answer_of reply_number
  reply-behind h later e = code_same (reply_number w h) _ w refl ∙ behind_35_2 w _ later e

  pub reply-number : (m : Message) → (reply w (some m)).answer.code ≡ first_judged (reply_message_tests w m)
  unfolding heard_of
  reply-number m = reply-behind (heard_of (some m)) _ (unheard w.table (type_of m.body) m.fence)

  pub reply-refused :
      (m : Option Message) → ((reply w m).answer.code ≡ 0 → ⊥) → WallRefused w (reply w m).answer (reply w m).wall
  unfolding reply_by reply_at answer_of
  reply-refused m z = leaves_all (reply_number w (heard_of m)) _ w refl z

-- ---- a received message

module _ (w : Wall) (d : List ℕ) where
  -- what is unpacked has the type and the fence that its dwords hold
  row_same : (m : Message) → unpack d ≡ some m → row_27_message w.table m ≡ row_27_dwords w.table d
  unfolding header_fields hxg_fields body_fields
  row_same m e =
      let u = (agreement.unpacks d m).0 e in
      let k : field_of type (get_or d 1 0) ≡ type_of m.body
      = holds-first _ _ (get_or d 1 0) (holds-rest _ _ (get_or d 1 0) u.2) in
      let f : field_of fence (get_or d 0 0) ≡ m.fence = holds-first _ _ (get_or d 0 0) u.1 in
      rw (k, f)

  -- behind 35 and 2: 4, then 27
  abbrev message_tests : List (List Row)
  message_tests = (row_4 d ∷ []) ∷ (row_27_dwords w.table d ∷ []) ∷ []

  is_4 : is_message d ≡ false → message_number w.table 4 0 0 ≡ first_judged message_tests
  unfolding need first_of first_judged
  is_4 e = rw e

  past_4 : is_message d ≡ true → first_judged ((row_27_dwords w.table d ∷ []) ∷ []) ≡ first_judged message_tests
  unfolding first_of first_judged
  past_4 e = rw e

  pub received-number : (reply w (unpack d)).answer.code ≡ first_judged (reply_dwords_tests w d)
  unfolding heard_of
  received-number =
      cases (is_message d)
      (λ e.
      let p = agreement.accepts d e in
      let m : Message = p.0 in
      let same = ap (λ (r : Row). first_judged ((r ∷ []) ∷ [])) (row_same m p.1) in
      rw p.1
      (reply-behind w (heard_of (some m)) message_tests (unheard w.table (type_of m.body) m.fence ∙ same ∙ past_4 e)))
      (λ e. rw (agreement.refuses d e) (reply-behind w (heard_of none) message_tests (is_4 e)))
