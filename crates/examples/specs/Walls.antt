-- Worked examples of a wall (document 02, T-06 and T-08): the papers' figures, and ours at both sides of each of their lines.
use Rattle.std.specs.Prelude.{ℕ, ◌-◌, List, [], ◌∷◌, ◌++◌, map, length, take, replicate, pos, negsuc}
use Rattle.std.proofs.Math.Option.{none, some}
use Rattle.message.specs.Packing.{unpack}
use Rattle.message.specs.declared.Message.{Message}
use Rattle.message.specs.declared.Body.{Body}
use Rattle.message.specs.declared.Body.TheVariants.{Request, Event, FastRequest, Busy, Retry, Failure, Success}
use Rattle.message.specs.declared.Origin.TheVariants.{Host, Guc}
use Rattle.channel.specs.State.{idle_at}
use Rattle.requests.specs.declared.record.Record.{Record}
use Rattle.requests.specs.Fence.{age}
use Rattle.requests.specs.Calls.{Wall, Outcome, number_alone, refused, fresh, reply}
use Rattle.requests.specs.Opening.{Sent, sending}
use Rattle.examples.specs.Example.{Example, ◌is◌}
use Rattle.examples.specs.Inputs.{count_up, dwords, two_dwords, descriptor_with, untouched, buffer, buffer_of}

-- ---- records and walls

-- 'free and all zeros', in figures; and an open record: fence, action, times answered busy, reply dwords set aside
abbrev pub free : Record
free = record { is_open = 0; fence = 0; action = 0; count = 0; room = 0 }

abbrev pub open_as : ℕ → ℕ → ℕ → ℕ → Record
open_as f a n r = record { is_open = 1; fence = f; action = a; count = n; room = r }

-- a free record that is not all zeros, and an open one whose flag is not 1
abbrev pub dirty : Record
dirty = record { is_open = 0; fence = 5; action = 9; count = 1; room = 500 }

abbrev pub flagged : Record
flagged = record { is_open = 700; fence = 5; action = 9; count = 1; room = 20 }

-- a wall by its reply buffer's N, its table and its last fence; and one with a reply buffer of 1,024 dwords
abbrev pub wall_for : ℕ → List Record → ℕ → Wall
wall_for n t last = record { table = t; last = last; n = n }

abbrev pub wall : List Record → ℕ → Wall
wall t last = wall_for 1024 t last

-- three records that have 256 set aside each, 768 together
abbrev pub three : List Record
three = open_as 1 9 0 256 ∷ open_as 2 9 0 256 ∷ open_as 3 9 0 256 ∷ []

-- k open records, with the fences from 0 on and nothing set aside
abbrev pub open_ones : ℕ → List Record
open_ones k = map (λ f. open_as f 9 0 0) (count_up 0 k)

-- ---- openings

-- a request of two dwords, data 0x0AB and action 9, with fence 0x1234 in the caller's header; and with another fence
abbrev pub request : List ℕ
request = two_dwords 0x00AB0009

abbrev pub headed : ℕ → List ℕ
headed header = header ∷ 0x00AB0009 ∷ []

-- messages that are malformed: no dword, one that is missing, one too many, and type 4; format 1, reserved 1, and
-- NUM_DWORDS 0
abbrev pub malformed : List (List ℕ)
malformed =
    [] ∷ (0x12340001 ∷ []) ∷ (0x12340001 ∷ 0x00AB0009 ∷ 0 ∷ []) ∷ two_dwords 0x40AB0009
    ∷ headed 0x12341001 ∷ headed 0x12340101 ∷ (0x12340000 ∷ []) ∷ []

-- an opening through a fresh channel, N = 1,024, with so much set aside
abbrev pub sends : Wall → ℕ → List ℕ → Sent
sends w room m = sending w room m (idle_at 1024 0) (descriptor_with 0 0 0) buffer

-- it answers the fence that is the last one then, and the message lies in the channel
abbrev pub gives : Wall → List ℕ → Sent
gives w m =
    record {
      answer = record { code = 0; kind = 0; fence = w.last; action = 0; count = 0 };
      wall = w;
      next = idle_at 1024 (length m);
      desc = descriptor_with 0 (length m) 0;
      buf = m ++ untouched (1024 - length m);
    }

-- it is refused: the wall, the own tail and the descriptor as they are then, and nothing stored
abbrev pub refused_with : ℕ → Wall → ℕ → List ℕ → Sent
refused_with c w own d = record { answer = number_alone c; wall = w; next = idle_at 1024 own; desc = d; buf = buffer }

-- by the wall itself
abbrev pub stays : ℕ → Wall → Sent
stays c w = refused_with c w 0 (descriptor_with 0 0 0)

-- an opening through a descriptor with HEAD 2,000, and its refusal ahead of the ring
abbrev pub sends_2000 : Wall → ℕ → List ℕ → Sent
sends_2000 w room m = sending w room m (idle_at 1024 0) (descriptor_with 2000 0 0) buffer

abbrev pub stays_2000 : ℕ → Wall → Sent
stays_2000 c w = refused_with c w 0 (descriptor_with 2000 0 0)

-- ---- replies

-- a decoded message with that fence and body; the GuC's
abbrev pub from : ℕ → Body → Message
from f b = record { origin = Guc; fence = f; num_dwords = 1; body = b }

-- a reply by its dwords
abbrev pub received : Wall → List ℕ → Outcome
received w m = reply w (unpack m)

-- a reply's kind, action and count with the table
abbrev pub says : ℕ → ℕ → ℕ → List Record → Outcome
says kind a n t = record { answer = record { code = 0; kind = kind; fence = 0; action = a; count = n }; wall = wall t 7 }

-- a wall that is made fresh
abbrev pub made_for : ℕ → ℕ → Outcome
made_for n records = record { answer = number_alone 0; wall = wall_for n (replicate records free) 65535 }

unfoldable pub walls : List Example
walls =
    -- 'fence 0 with newest 65,535 is +1'
    (age 0 65535 is pos 1)
    -- 'a distance of 32,768 reads -32,768' (`negsuc n` is -(n + 1)), whichever is the larger number
    ∷ (age 32768 0 is negsuc 32767)
    ∷ (age 0 32768 is negsuc 32767)
    -- Ours: both ends and their neighbours, the newest itself, and one older
    ∷ (age 32767 0 is pos 32767)
    ∷ (age 32766 0 is pos 32766)
    ∷ (age 32769 0 is negsuc 32766)
    ∷ (age 65535 0 is negsuc 0)
    ∷ (age 65535 65535 is pos 0)
    ∷ (age 32766 65535 is pos 32767)
    ∷ (age 32767 65535 is negsuc 32767)
    -- 'A fresh or closed record is free and all zeros; the last fence starts at 65,535.'
    ∷ (fresh (wall_for 0 (flagged ∷ flagged ∷ dirty ∷ []) 9) 1024 is made_for 1024 3)
    -- Ours: 1 and 256 records are made fresh, none and 257 are refused, whatever they hold
    ∷ (map (λ k. fresh (wall (replicate k flagged) 9) 16384) (1 ∷ 256 ∷ []) is map (made_for 16384) (1 ∷ 256 ∷ []))
    ∷ (map (λ k. fresh (wall (replicate k flagged) 9) 1024) (0 ∷ 257 ∷ [])
    is map (λ k. refused 35 (wall (replicate k flagged) 9)) (0 ∷ 257 ∷ []))
    -- T-08: 'the reply buffer's N (one not allowed is 2 in every call)'; 35 is first
    ∷ (map (fresh (wall (dirty ∷ []) 9)) (0 ∷ 1000 ∷ 1023 ∷ 1025 ∷ 17408 ∷ []) is replicate 5 (refused 2 (wall (dirty ∷ []) 9)))
    ∷ (fresh (wall [] 9) 1000 is refused 35 (wall [] 9))
    -- 'picks the next fence, counting up from the last one used and wrapping at 65,536, .. and uses the lowest free record';
    -- T-08: 'sends it whole with the picked fence'
    ∷ (sends (wall (free ∷ free ∷ []) 65535) 7 request is gives (wall (open_as 0 9 0 7 ∷ free ∷ []) 0) (headed 0x00000001))
    ∷ (sends (wall (replicate 256 free) 65535) 7 request is
    gives (wall (open_as 0 9 0 7 ∷ replicate 255 free) 0) (headed 0x00000001))
    ∷ (sends (wall (open_as 3 1 0 6 ∷ dirty ∷ free ∷ []) 65534) 7 request is
    gives (wall (open_as 3 1 0 6 ∷ open_as 65535 9 0 7 ∷ free ∷ []) 65535) (headed 0xFFFF0001))
    -- Ours: of a message of 256 dwords too the fence alone is another
    ∷ (sends (wall (free ∷ []) 0xABCC) 7 (dwords 256) is
    gives (wall (open_as 0xABCD 0 0 7 ∷ []) 0xABCD) (0xABCD00FF ∷ 0x00000000 ∷ count_up 2 254))
    -- 'skipping fences still open': two of them around the wrap; a free record's fence is not open
    ∷ (sends (wall (open_as 65535 1 0 6 ∷ open_as 0 1 0 6 ∷ free ∷ []) 65534) 7 request is
    gives (wall (open_as 65535 1 0 6 ∷ open_as 0 1 0 6 ∷ open_as 1 9 0 7 ∷ []) 1) (headed 0x00010001))
    ∷ (sends (wall (dirty ∷ []) 4) 7 request is gives (wall (open_as 5 9 0 7 ∷ []) 5) (headed 0x00050001))
    -- 'full is 26'
    ∷ (sends (wall (open_as 0 1 0 6 ∷ []) 0) 7 request is stays 26 (wall (open_as 0 1 0 6 ∷ []) 0))
    -- Ours: 256 open records are full; with 255, all their fences are skipped from the wrap on
    ∷ (sends (wall (open_ones 256) 65535) 0 request is stays 26 (wall (open_ones 256) 65535))
    ∷ (sends (wall (open_ones 255 ++ (free ∷ [])) 65535) 0 request is gives (wall (open_ones 256) 255) (headed 0x00FF0001))
    -- T-08: 'the reply dwords set aside for it, 0 to 256 (an opening with more is 14)'
    ∷ (map (λ r. sends (wall (free ∷ []) 0) r request) (0 ∷ 256 ∷ [])
    is map (λ r. gives (wall (open_as 1 9 0 r ∷ []) 1) (headed 0x00010001)) (0 ∷ 256 ∷ []))
    ∷ (map (λ r. sends (wall (free ∷ []) 0) r request) (257 ∷ 65536 ∷ []) is replicate 2 (stays 14 (wall (free ∷ []) 0)))
    -- T-08: 'malformed or another type: 27': an event, a fast request, and each of the others
    ∷ (map (sends (wall (free ∷ []) 0) 7) malformed is replicate 7 (stays 27 (wall (free ∷ []) 0)))
    ∷ (map (λ word. sends (wall (free ∷ []) 0) 7 (two_dwords word))
    (0x10AB0009 ∷ 0x20AB0009 ∷ 0x30000000 ∷ 0x50000000 ∷ 0x60000000 ∷ 0x70000000 ∷ [])
    is replicate 6 (stays 27 (wall (free ∷ []) 0)))
    -- T-08: 'refused with 28 exactly when the dwords set aside by all open requests plus its own exceed that buffer's N - 1':
    -- 768 and 255, and one more; 1,023, and none or one
    ∷ (sends (wall (three ++ (free ∷ [])) 8) 255 request is
    gives (wall (three ++ (open_as 9 9 0 255 ∷ [])) 9) (headed 0x00090001))
    ∷ (sends (wall (three ++ (free ∷ [])) 8) 256 request is stays 28 (wall (three ++ (free ∷ [])) 8))
    ∷ (sends (wall (three ++ (open_as 9 9 0 255 ∷ free ∷ [])) 9) 0 request is
    gives (wall (three ++ (open_as 9 9 0 255 ∷ open_as 10 9 0 0 ∷ [])) 10) (headed 0x000A0001))
    ∷ (sends (wall (three ++ (open_as 9 9 0 255 ∷ free ∷ [])) 9) 1 request is
    stays 28 (wall (three ++ (open_as 9 9 0 255 ∷ free ∷ [])) 9))
    -- Ours: a lent record counts with what it holds, 1,000 here, and a free one with nothing; a larger buffer has more room
    ∷ (sends (wall (dirty ∷ open_as 3 9 0 1000 ∷ []) 8) 23 request is
    gives (wall (open_as 9 9 0 23 ∷ open_as 3 9 0 1000 ∷ []) 9) (headed 0x00090001))
    ∷ (sends (wall (dirty ∷ open_as 3 9 0 1000 ∷ []) 8) 24 request is stays 28 (wall (dirty ∷ open_as 3 9 0 1000 ∷ []) 8))
    ∷ (sends (wall_for 2048 (dirty ∷ open_as 3 9 0 2000 ∷ []) 8) 47 request is
    gives (wall_for 2048 (open_as 9 9 0 47 ∷ open_as 3 9 0 2000 ∷ []) 9) (headed 0x00090001))
    ∷ (sends (wall_for 2048 (dirty ∷ open_as 3 9 0 2000 ∷ []) 8) 48 request is
    stays 28 (wall_for 2048 (dirty ∷ open_as 3 9 0 2000 ∷ []) 8))
    -- T-08: 'The order is 35, 2, 14, 27, 26, 28, the ring's own': each number with all those behind it. The ring's own
    -- would be 4 for the message [], and for the others 7, by HEAD 2,000
    ∷ (sends_2000 (wall_for 1000 (replicate 2 (open_as 3 9 0 1024)) 8) 257 []
    is stays_2000 35 (wall_for 1000 (replicate 2 (open_as 3 9 0 1024)) 8))
    ∷ (sends_2000 (wall_for 1000 (open_as 3 9 0 1024 ∷ []) 8) 257 [] is stays_2000 2 (wall_for 1000 (open_as 3 9 0 1024 ∷ []) 8))
    ∷ (sends_2000 (wall (open_as 3 9 0 1024 ∷ []) 8) 257 [] is stays_2000 14 (wall (open_as 3 9 0 1024 ∷ []) 8))
    ∷ (map (sends_2000 (wall (open_as 3 9 0 1024 ∷ []) 8) 0) ([] ∷ two_dwords 0x10AB0009 ∷ [])
    is replicate 2 (stays_2000 27 (wall (open_as 3 9 0 1024 ∷ []) 8)))
    ∷ (sends_2000 (wall (open_as 3 9 0 1024 ∷ []) 8) 0 request is stays_2000 26 (wall (open_as 3 9 0 1024 ∷ []) 8))
    ∷ (sends_2000 (wall (open_as 3 9 0 1024 ∷ free ∷ []) 8) 0 request
    is stays_2000 28 (wall (open_as 3 9 0 1024 ∷ free ∷ []) 8))
    -- T-08: 'if the ring refuses, table and last fence stay': 7 and 8 mark STATUS; 1, 2, 3, 6 and 10 change nothing. 1 is
    -- of a descriptor of 15 dwords, 2 of a send buffer of 3
    ∷ (sends_2000 (wall (free ∷ []) 8) 7 request is refused_with 7 (wall (free ∷ []) 8) 0 (descriptor_with 2000 0 1))
    ∷ (sending (wall (free ∷ []) 8) 7 request (idle_at 1024 8) (descriptor_with 8 12 0) buffer
    is refused_with 8 (wall (free ∷ []) 8) 8 (descriptor_with 8 12 4))
    ∷ (sending (wall (free ∷ []) 8) 7 request (idle_at 1024 0) (take 15 (descriptor_with 0 0 0)) buffer
    is refused_with 1 (wall (free ∷ []) 8) 0 (take 15 (descriptor_with 0 0 0)))
    ∷ (sending (wall (free ∷ []) 8) 7 request (idle_at 3 0) (descriptor_with 0 0 0) (untouched 3)
    is record {
      answer = number_alone 2;
      wall = wall (free ∷ []) 8;
      next = idle_at 3 0;
      desc = descriptor_with 0 0 0;
      buf = untouched 3;
    })
    ∷ (sending (wall (free ∷ []) 8) 7 request (idle_at 1024 1024) (descriptor_with 0 0 0) buffer
    is refused_with 3 (wall (free ∷ []) 8) 1024 (descriptor_with 0 0 0))
    ∷ (sending (wall (free ∷ []) 8) 7 request (idle_at 1024 0) (descriptor_with 0 0 8) buffer
    is refused_with 6 (wall (free ∷ []) 8) 0 (descriptor_with 0 0 8))
    ∷ (sending (wall (free ∷ []) 8) 7 request (idle_at 1024 8) (descriptor_with 10 8 0) buffer
    is refused_with 10 (wall (free ∷ []) 8) 8 (descriptor_with 10 8 0))
    -- Ours: with one free dword more the message just fits
    ∷ (sending (wall (free ∷ []) 8) 7 request (idle_at 1024 8) (descriptor_with 11 8 0) buffer
    is record {
      answer = record { code = 0; kind = 0; fence = 9; action = 0; count = 0 };
      wall = wall (open_as 9 9 0 7 ∷ []) 9;
      next = idle_at 1024 10;
      desc = descriptor_with 11 10 0;
      buf = buffer_of (headed 0x00090001);
    })
    -- 'A decoded success or failure of any origin with an open fence closes it', 'retry closes it and says so'; with the
    -- record goes what it had set aside
    ∷ (map (λ b. reply (wall (open_as 4 1 0 6 ∷ open_as 5 9 2 7 ∷ []) 7) (some (from 5 b))) (Success 0 ∷ Failure 0 0 ∷ Retry 0 ∷ [])
    is map (λ kind. says kind 9 2 (open_as 4 1 0 6 ∷ free ∷ [])) (7 ∷ 6 ∷ 5 ∷ []))
    ∷ (reply (wall (open_as 5 9 2 7 ∷ []) 7) (some (record { origin = Host; fence = 5; num_dwords = 3; body = Success 1 }))
    is says 7 9 2 (free ∷ []))
    -- 'busy adds one to its count (stopping at 65,535)'; its answer has 'this busy in it', and what is set aside stays
    ∷ (map (λ n. reply (wall (open_as 5 9 n 7 ∷ []) 7) (some (from 5 (Busy 0)))) (0 ∷ 65534 ∷ 65535 ∷ [])
    is map (λ n. says 3 9 n (open_as 5 9 n 7 ∷ [])) (1 ∷ 65535 ∷ 65535 ∷ []))
    -- Ours, two calls: where 256 more are 28, a reply that closes gives 256 back, so that they are accepted; a busy does not
    ∷ (map (λ b. sends (reply (wall (three ++ (free ∷ [])) 8) (some (from 2 b))).wall 256 request) (Success 0 ∷ Failure 0 0 ∷ Retry 0 ∷ [])
    is replicate 3 (gives (wall (open_as 1 9 0 256 ∷ open_as 9 9 0 256 ∷ open_as 3 9 0 256 ∷ free ∷ []) 9) (headed 0x00090001)))
    ∷ (sends (reply (wall (three ++ (free ∷ [])) 8) (some (from 2 (Busy 0)))).wall 256 request
    is stays 28 (wall (open_as 1 9 0 256 ∷ open_as 2 9 1 256 ∷ open_as 3 9 0 256 ∷ free ∷ []) 8))
    -- 'A reply with no open fence, or a message of another type, is 27 and changes nothing.'
    ∷ (reply (wall (dirty ∷ open_as 4 1 0 6 ∷ []) 7) (some (from 5 (Success 0))) is refused 27 (wall (dirty ∷ open_as 4 1 0 6 ∷ []) 7))
    ∷ (map (λ b. reply (wall (open_as 5 9 2 7 ∷ []) 7) (some (from 5 b))) (Request 0 0 ∷ Event 0 0 ∷ FastRequest 0 0 ∷ [])
    is replicate 3 (refused 27 (wall (open_as 5 9 2 7 ∷ []) 7)))
    -- 'Another table length, or two open records with one fence, is 35, before all else.'
    ∷ (map (λ t. sends (wall t 7) 7 request) ([] ∷ replicate 257 free ∷ (flagged ∷ dirty ∷ open_as 5 1 0 6 ∷ []) ∷ [])
    is map (λ t. stays 35 (wall t 7)) ([] ∷ replicate 257 free ∷ (flagged ∷ dirty ∷ open_as 5 1 0 6 ∷ []) ∷ []))
    ∷ (map (λ t. reply (wall t 7) (some (from 5 (Success 0)))) ([] ∷ replicate 257 free ∷ [])
    is map (λ t. refused 35 (wall t 7)) ([] ∷ replicate 257 free ∷ []))
    ∷ (map (reply (wall_for 1000 (open_as 5 9 2 7 ∷ flagged ∷ []) 7)) (none ∷ some (from 6 (Success 0)) ∷ [])
    is replicate 2 (refused 35 (wall_for 1000 (open_as 5 9 2 7 ∷ flagged ∷ []) 7)))
    -- Ours: low eight bits that agree are no duplicate; a malformed message is 4, after 35 and 2 and before 27
    ∷ (sends (wall (open_as 1 1 0 6 ∷ open_as 257 1 0 6 ∷ free ∷ []) 0) 7 request is
    gives (wall (open_as 1 1 0 6 ∷ open_as 257 1 0 6 ∷ open_as 2 9 0 7 ∷ []) 2) (headed 0x00020001))
    ∷ (map (reply (wall_for 1000 (open_as 5 9 2 7 ∷ []) 7)) (none ∷ some (from 5 (Success 0)) ∷ some (from 6 (Success 0)) ∷ [])
    is replicate 3 (refused 2 (wall_for 1000 (open_as 5 9 2 7 ∷ []) 7)))
    ∷ (reply (wall (open_as 5 9 2 7 ∷ []) 7) none is refused 4 (wall (open_as 5 9 2 7 ∷ []) 7))
    -- Ours, by its dwords: the GuC's success; with a fence that is not open 27, and 4 where it is malformed too: type 4, and
    -- a dword too many
    ∷ (received (wall (open_as 5 9 2 7 ∷ []) 7) (0x00050001 ∷ 0xF0000000 ∷ []) is says 7 9 2 (free ∷ []))
    ∷ (received (wall (open_as 5 9 2 7 ∷ []) 7) (0x00060001 ∷ 0xF0000000 ∷ []) is refused 27 (wall (open_as 5 9 2 7 ∷ []) 7))
    ∷ (map (received (wall (open_as 5 9 2 7 ∷ []) 7)) ((0x00060001 ∷ 0xC0000000 ∷ []) ∷ (0x00060001 ∷ 0xF0000000 ∷ 0 ∷ []) ∷ [])
    is replicate 2 (refused 4 (wall (open_as 5 9 2 7 ∷ []) 7)))
    ∷ []
