-- A record file (document 02, T-10): the numbers of its bytes, and what its whole messages are.
use Rattle.std.specs.Prelude.{ℕ, zero, suc, ◌+◌, Bool, cond, List, [], ◌∷◌, map, length, take, drop, eqb, ltb}
use Rattle.record.specs.Numbers.{Form, number_of}
use Rattle.record.specs.Runs.{cut}

-- at most k numbers of a file, one behind the other, up to the first bad form or the end
unfoldable pub forms_from : ℕ → List ℕ → List Form
forms_from zero file = []
forms_from (suc k) file =
    let n = number_of file in
    cond (eqb n.fault 0) (n ∷ forms_from k (drop n.size file)) []

-- each number has a byte at least, so that so many steps are enough
unfoldable pub forms : List ℕ → List Form
forms file = forms_from (length file) file

-- the run of dwords that these numbers are
abbrev pub value_of : Form → ℕ
value_of n = n.value

unfoldable pub run_of : List ℕ → List ℕ
run_of file = map value_of (forms file)

-- the bytes of some numbers
unfoldable pub size_of : List Form → ℕ
size_of [] = 0
size_of (n ∷ ns) = n.size + size_of ns

-- the byte where number k of the file starts, from 0; past the last, where the next would
unfoldable pub start_of : List ℕ → ℕ → ℕ
start_of file k = size_of (take k (forms file))

-- how many dwords the file's whole messages have, up to the first bad number ..
abbrev pub whole_of : List ℕ → ℕ
whole_of file = (cut (run_of file)).dwords

-- .. how many bytes they took ..
abbrev pub took_of : List ℕ → ℕ
took_of file = start_of file (whole_of file)

-- .. and those messages, as a run
unfoldable pub messages_of : List ℕ → List ℕ
messages_of file = take (whole_of file) (run_of file)

-- nothing is wrong with a file whose whole messages are all of it
abbrev pub intact : List ℕ → Bool
intact file = eqb (took_of file) (length file)

-- 'the byte where the first bad number starts'; the file's end where a number is missing
unfoldable pub bad_of : List ℕ → ℕ
bad_of file = start_of file (cut (run_of file)).bad

-- what is wrong there, of a file that is not intact: a bad direction, L or header among the numbers; else what ended
-- the numbers, a bad form or the file's end
unfoldable pub fault_of : List ℕ → ℕ
fault_of file =
    cond (ltb (cut (run_of file)).bad (length (run_of file)))
    (cut (run_of file)).fault
    (number_of (drop (bad_of file) file)).fault
