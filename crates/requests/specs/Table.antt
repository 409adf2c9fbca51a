-- The table of requests (document 02, T-06): 'a lent table of 1 to 256 request records, each free or open with its
-- fence, action and times answered busy'; and T-08: 'Let the wall's record of a request also hold the reply dwords set
-- aside for it'.
use Rattle.std.specs.Prelude.{ℕ, suc, ◌+◌, Bool, false, not, ◌&&◌, ◌||◌, cond, List, [], ◌∷◌, length, eqb, leb}
use Rattle.requests.specs.declared.record.Record.{Record}

-- 'A fresh or closed record is free and all zeros'
abbrev pub free_record : Record
free_record = record { is_open = 0; fence = 0; action = 0; count = 0; room = 0 }

-- A record is free where `is_open` is 0, whatever else it holds, and open where it is any other number: all that C can
-- put there has a meaning.
unfoldable pub is_open : Record → Bool
is_open r = not (eqb r.is_open 0)

-- an open record with this fence
unfoldable pub has_fence : ℕ → Record → Bool
has_fence f r = is_open r && eqb r.fence f

-- 'fences still open'
unfoldable pub still_open : List Record → ℕ → Bool
still_open [] f = false
still_open (r ∷ t) f = has_fence f r || still_open t f

-- 'two open records with one fence'
unfoldable pub fence_twice : List Record → Bool
fence_twice [] = false
fence_twice (r ∷ t) = (is_open r && still_open t r.fence) || fence_twice t

-- 'of 1 to 256 request records'
unfoldable pub allowed_length : ℕ → Bool
allowed_length n = leb 1 n && leb n 256

-- 'Another table length, or two open records with one fence, is 35'
unfoldable pub usable : List Record → Bool
usable t = allowed_length (length t) && not (fence_twice t)

-- 'the lowest free record': its place, or the table's length where all are open
unfoldable pub lowest_free : List Record → ℕ
lowest_free [] = 0
lowest_free (r ∷ t) = cond (is_open r) (suc (lowest_free t)) 0

-- the place of the open record with this fence, or the table's length where there is none. (Of two with one fence,
-- which 35 refuses, the first.)
unfoldable pub place_of : ℕ → List Record → ℕ
place_of f [] = 0
place_of f (r ∷ t) = cond (has_fence f r) 0 (suc (place_of f t))

-- 'the dwords set aside by all open requests', whatever each record holds: a free one counts for nothing
unfoldable pub set_aside : List Record → ℕ
set_aside [] = 0
set_aside (r ∷ t) = cond (is_open r) r.room 0 + set_aside t
