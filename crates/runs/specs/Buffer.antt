-- Dwords of a buffer, around its end: read, stored and laid (document 01, 'Steps of a send and a receive').
use Rattle.std.specs.Prelude.{ℕ, zero, suc, ◌+◌, ◌-◌, ◌%◌, ◌&&◌, cond, List, [], ◌∷◌, ◌++◌, length, get_or, set, drop, leb, ltb}

-- k dwords of a buffer of n from place i on, around its end
unfoldable pub window : List ℕ → ℕ → ℕ → ℕ → List ℕ
window b n i zero = []
window b n i (suc k) = get_or b (i % n) 0 ∷ window b n (suc i) k

-- a buffer of n with dwords stored one after another from place i on, around its end
unfoldable pub stored : List ℕ → ℕ → ℕ → List ℕ → List ℕ
stored b n i [] = b
stored b n i (x ∷ xs) = stored (set b (i % n) x) n (suc i) xs

-- ours: dwords laid at the front of others, the rest unchanged; where there is no room for them, nothing is laid
unfoldable pub laid : List ℕ → List ℕ → List ℕ
laid xs out = cond (leb (length xs) (length out)) (xs ++ drop (length xs) out) out

-- ours, for code that asks nothing of its caller: the offset k dwords past an own offset of a ring of n, which is (own
-- + k) mod n; 0 where own is no offset of the ring, k exceeds it, or no ring is so long
unfoldable pub past : ℕ → ℕ → ℕ → ℕ
past n own k = cond (ltb own n && leb k n && leb n 16384) ((own + k) % n) 0

-- ours: dwords stored from place at on, where they fit the buffer and at is a place of it; else nothing is stored
unfoldable pub stored_at : List ℕ → ℕ → List ℕ → List ℕ
stored_at b at xs = cond (ltb at (length b) && leb (length xs) (length b)) (stored b (length b) at xs) b

-- ours: a message of len dwords that starts at place own of the buffer, of which the first two were read, laid at the
-- front of an output; where the buffer has no such message, or the output no room, nothing is laid
unfoldable pub laid_from : List ℕ → ℕ → ℕ → ℕ → ℕ → List ℕ → List ℕ
laid_from b own header second len out =
    cond (ltb own (length b) && leb 2 len && leb len (length b) && leb (length b) 16384 && leb len (length out))
    (header ∷ second ∷ window b (length b) (own + 2) (len - 2) ++ drop len out)
    out

-- ours: places filled with the dwords of a buffer from place at on, around its end, where it has so many and at is a
-- place of it; else they stay
unfoldable pub filled_from : List ℕ → ℕ → List ℕ → List ℕ
filled_from b at dst =
    cond (ltb at (length b) && leb (length dst) (length b)) (window b (length b) at (length dst)) dst
