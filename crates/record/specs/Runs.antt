-- A record in memory (document 02, T-10): a run of dwords, cut into its messages.
use Rattle.std.specs.Prelude.{ℕ, zero, suc, ◌+◌, ◌≡◌, ◌≤◌, ◌<◌, Bool, not, ◌&&◌, cond, List, [], ◌∷◌, length, get_or, drop, eqb, leb, ltb}
use Rattle.std.specs.Prelude.{Result, Ok, Err, MatchResult}
use Rattle.message.specs.Header.{total_length}
use Rattle.record.specs.Faults.{missing, bad_direction, bad_length, bad_header, figure}
use Rattle.record.specs.declared.direction.Direction.{Direction}
use Rattle.record.specs.declared.direction.Direction.TheVariants.{Sent, Received}
use Rattle.record.specs.declared.fault.Fault.{Fault}
use Rattle.record.specs.declared.fault.Fault.TheVariants.{BadDirection}
use Rattle.record.specs.declared.messages.Wrong.{Wrong}

-- '0 for sent or 1 for received'
abbrev pub way : Direction → ℕ
way Sent = 0
way Received = 1

-- the direction that a number stands for, or what is wrong with the number
abbrev pub Directs : ℕ → Result Direction Fault → Type 0
Directs n r = MatchResult r (λ d. (way d ≡ n) × (n ≤ 1)) (λ f. (f ≡ BadDirection) × (1 < n))

-- 'L runs from 1 to 256'
unfoldable pub is_length : ℕ → Bool
is_length l = leb 1 l && leb l 256

-- the place of the first number that is wrong in a message, and what is; of a whole one 0, and how many dwords it takes
pub record Judged : Type 0 where
  pub fault : ℕ
  pub place : ℕ

abbrev pub wrong : ℕ → ℕ → Judged
wrong what at = record { fault = what; place = at }

abbrev pub whole : ℕ → Judged
whole dwords = record { fault = 0; place = dwords }

-- .. as the code answers it
abbrev pub of_judged : Result ℕ Wrong → Judged
of_judged (Ok dwords) = whole dwords
of_judged (Err w) = wrong (figure w.fault) w.place

-- 'per message, 0 for sent or 1 for received, then L, then the L dwords': a message of which `count` dwords are there,
-- by its direction, its L and its header. Nothing else is asked: 'malformed messages may be kept'
unfoldable pub judged_by : ℕ → ℕ → ℕ → ℕ → Judged
judged_by count direction l header =
    cond (ltb 1 direction) (wrong bad_direction 0)
    (cond (leb count 1) (wrong missing count)
    (cond (not (is_length l)) (wrong bad_length 1)
    (cond (leb count 2) (wrong missing count)
    (cond (not (eqb (total_length header) l)) (wrong bad_header 2)
    (cond (ltb count (2 + l)) (wrong missing count)
    (whole (2 + l)))))))

-- the message that starts a run
abbrev pub judged : List ℕ → Judged
judged run = judged_by (length run) (get_or run 0 0) (get_or run 1 0) (get_or run 2 0)

-- a run cut into messages: how many dwords its whole messages have, up to the first bad number; what is wrong with that
-- number, and its place. Of a run that is whole to its end: its length, 0, and its length.
pub record Cut : Type 0 where
  pub dwords : ℕ
  pub fault : ℕ
  pub bad : ℕ

abbrev pub ends : ℕ → ℕ → Cut
ends what at = record { dwords = 0; fault = what; bad = at }

abbrev pub behind : ℕ → Cut → Cut
behind k c = record { dwords = k + c.dwords; fault = c.fault; bad = k + c.bad }

-- at most k messages of a run
unfoldable pub cut_from : ℕ → List ℕ → Cut
cut_from zero run = ends 0 0
cut_from (suc k) [] = ends 0 0
cut_from (suc k) (x ∷ xs) =
    let first = judged (x ∷ xs) in
    cond (eqb first.fault 0)
    (behind first.place (cut_from k (drop first.place (x ∷ xs))))
    (ends first.fault first.place)

-- each message has a dword at least, so that so many steps are enough
unfoldable pub cut : List ℕ → Cut
cut run = cut_from (length run) run
