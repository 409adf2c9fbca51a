-- The numbers that say no (document 01), as chains in the order of the table: 'The lowest number that applies is the
-- answer'. What a look decides, it decides on numbers alone: N, the own offset, STATUS, HEAD, TAIL, and the length or
-- the header.
use Rattle.std.specs.Prelude.{ℕ, Bool, true, false, not, ◌&&◌, ◌||◌, cond, List, length, get_or, set, eqb, leb, ltb}
use Rattle.message.specs.Header.{total_length, starts_message}
use Rattle.ring.specs.Ring.{allowed, used, free, STATUS, head, tail, status, good, overflow, underflow, mismatch}

-- the refusal's number where the test fails, else what the later tests say
unfoldable pub need : Bool → ℕ → ℕ → ℕ
need true number later = later
need false number later = number

-- what every step and whole call needs first: 1 'descriptor is not 16 dwords', 2 'N not allowed', 3 'state doesn't
-- fit', with the lengths of the descriptor and the buffer
unfoldable pub first_needs : ℕ → ℕ → Bool → ℕ → ℕ
first_needs descriptor n fits later = need (eqb descriptor 16) 1 (need (allowed n) 2 (need fits 3 later))

-- what every look needs of the descriptor: 6 'look finds STATUS not 0', 7 'look finds HEAD or TAIL at least N', 8
-- 'sender's own tail is not TAIL, or receiver's own head is not HEAD', with the descriptor's word that is to be the own
-- offset
unfoldable pub look_needs : ℕ → ℕ → ℕ → ℕ → ℕ → ℕ → ℕ → ℕ
look_needs n own word status hd tl later =
    need (eqb status good) 6 (need (ltb hd n && ltb tl n) 7 (need (eqb own word) 8 later))

-- what a send's look needs of it: these, then 10 'L exceeds free'
unfoldable pub send_look_needs : ℕ → ℕ → ℕ → ℕ → ℕ → ℕ → ℕ
send_look_needs n own len status hd tl = look_needs n own tl status hd tl (need (leb len (free n hd tl)) 10 0)

-- what a receive's look needs of it and of the header: these, then 9 'ring not empty and L exceeds used', then 11
-- 'nothing pending'
unfoldable pub receive_look_needs : ℕ → ℕ → ℕ → ℕ → ℕ → ℕ → ℕ
receive_look_needs n own status hd tl header =
    look_needs n own hd status hd tl
    (need (eqb (used n hd tl) 0 || leb (total_length header) (used n hd tl)) 9 (need (not (eqb (used n hd tl) 0)) 11 0))

-- the number of a send's look: 1, 2 and 3, then 4 'message to send .. is malformed', then what the look needs. With
-- whether the state fits, the own tail, the message's length and first two dwords, the descriptor and N
unfoldable pub send_decision : Bool → ℕ → ℕ → ℕ → ℕ → List ℕ → ℕ → ℕ
send_decision fits own len header word d n =
    first_needs (length d) n fits (need (starts_message len header word) 4 (send_look_needs n own len (status d) (head d) (tail d)))

-- the number of a send's look at this message
abbrev pub number_at : Bool → ℕ → List ℕ → List ℕ → ℕ → ℕ
number_at fits own m d n = send_decision fits own (length m) (get_or m 0 0) (get_or m 1 0) d n

-- the number of a receive's look past 1, 2 and 3, by the descriptor's words and the header that lies at the own head
abbrev pub header_number : ℕ → List ℕ → ℕ → ℕ → ℕ
header_number own d n header = receive_look_needs n own (status d) (head d) (tail d) header

-- the number of a receive's look: 1, 2 and 3, then that one
unfoldable pub receive_decision : Bool → ℕ → List ℕ → ℕ → ℕ → ℕ
receive_decision fits own d n header = first_needs (length d) n fits (header_number own d n header)

-- the number of a whole receive but for 13: 1, 2 and 3, then 5 'output shorter than 256', then that one
unfoldable pub take_decision : Bool → ℕ → ℕ → List ℕ → ℕ → ℕ → ℕ
take_decision fits own output d n header = first_needs (length d) n fits (need (leb 256 output) 5 (header_number own d n header))

-- what a look leaves of the descriptor: 7 'STATUS = 1', 8 'STATUS = 4', 9 'STATUS = 2', else all
unfoldable pub marked : ℕ → List ℕ → List ℕ
marked c desc =
    cond (eqb c 7) (set desc STATUS overflow)
    (cond (eqb c 8) (set desc STATUS mismatch) (cond (eqb c 9) (set desc STATUS underflow) desc))
