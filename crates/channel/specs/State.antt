-- The states of the two sides and when one fits (document 01, 'Steps of a send and a receive').
use Rattle.std.specs.Prelude.{ℕ, Bool, true, ◌&&◌, List, [], ◌∷◌, get_or, replicate, eqb, leb, ltb}
use Rattle.message.specs.Header.{total_length, well_formed}
use Rattle.channel.specs.declared.state.Counts.{Counts}
use Rattle.channel.specs.declared.state.SideState.{SideState}
use Rattle.channel.specs.declared.sending.Sender.{Sender}
use Rattle.channel.specs.declared.receiving.Receiver.{Receiver}

-- what a side keeps between its steps: the N that it was made for, its own offset, L, the dwords moved, and 'its own
-- copy of the message (up to 256 dwords)'
pub record State : Type 0 where
  pub n : ℕ
  pub own : ℕ
  pub len : ℕ
  pub moved : ℕ
  pub copy : List ℕ

abbrev pub state : ℕ → ℕ → ℕ → ℕ → List ℕ → State
state n own len moved copy = record { n = n; own = own; len = len; moved = moved; copy = copy }

-- its four numbers, and the state of four numbers and a copy
abbrev pub counts_of : State → Counts
counts_of s = record { n = s.n; own = s.own; len = s.len; moved = s.moved }

abbrev pub counted : Counts → List ℕ → State
counted c copy = state c.n c.own c.len c.moved copy

-- the state in the struct: the same five fields
unfoldable pub of_state : SideState → State
of_state s = record { n = s.n; own = s.own; len = s.len; moved = s.moved; copy = s.copy }

abbrev pub of_sender : Sender → State
of_sender s = of_state s.state

abbrev pub of_receiver : Receiver → State
of_receiver s = of_state s.state

-- a copy of all zeros
unfoldable pub zeros : List ℕ
zeros = replicate 256 0

-- the idle state made for N at an own offset
abbrev pub idle_at : ℕ → ℕ → State
idle_at n own = record { n = n; own = own; len = 0; moved = 0; copy = zeros }

unfoldable pub all_zero : List ℕ → Bool
all_zero [] = true
all_zero (x ∷ xs) = eqb x 0 && all_zero xs

-- 'A state fits when it was made for this N, its own offset is below N, and it is idle .. or active ..'
abbrev pub made_for : ℕ → State → Bool
made_for n s = eqb s.n n && ltb s.own n

-- 'idle (L = 0, moved = 0, copy all zeros, asked only to look or for a whole call)'
unfoldable pub idle : ℕ → State → Bool
idle n s = made_for n s && eqb s.len 0 && eqb s.moved 0 && all_zero s.copy

-- the header and the second dword of a state's copy
abbrev pub header : State → ℕ
header s = get_or s.copy 0 0

abbrev pub second : State → ℕ
second s = get_or s.copy 1 0

-- 'active (asked only to go on) with L from 2 to 256 for a send, .. moved at most L .., L agreeing with its copied
-- header, and for a send a well-formed copy'
unfoldable pub active_send : ℕ → State → Bool
active_send n s =
    made_for n s
    && leb 2 s.len
    && leb s.len 256
    && leb s.moved s.len
    && eqb s.len (total_length (header s))
    && well_formed (header s) (second s)

-- '1 to 256 for a receive, moved at most L (for a receive at least 1), L agreeing with its copied header'
unfoldable pub active_receive : ℕ → State → Bool
active_receive n s =
    made_for n s
    && leb 1 s.len
    && leb s.len 256
    && leb 1 s.moved
    && leb s.moved s.len
    && eqb s.len (total_length (header s))
