-- The numbers of a record file (document 02, T-10): how each is written in bytes, and which number bytes start with.
use Rattle.std.specs.Prelude.{ℕ, zero, suc, ◌+◌, ◌*◌, ◌/◌, ◌%◌, Result, Ok, Err, cond, eqb, ltb}
use mathlib.Core.List.{List, [], ◌∷◌, flat_map}
use Rattle.record.specs.Faults.{unfinished, missing, too_long, above, figure}
use Rattle.record.specs.declared.fault.Fault.{Fault}
use Rattle.record.specs.declared.numbers.Form as code

-- 'Every number is cut into groups of seven bits, lowest group first, the top bit of each byte set when another follows,
-- shortest form only': the bytes of a number that has at most k groups behind its first
unfoldable pub groups : ℕ → ℕ → List ℕ
groups zero n = n ∷ []
groups (suc k) n = cond (ltb n 128) (n ∷ []) ((n % 128 + 128) ∷ groups k (n / 128))

-- the bytes of a number of 32 bits, which has five groups at most
unfoldable pub bytes_of : ℕ → List ℕ
bytes_of n = groups 4 n

-- the bytes of a run of dwords: 'in memory the same run of dwords'
abbrev pub bytes_of_run : List ℕ → List ℕ
bytes_of_run run = flat_map bytes_of run

-- what bytes start with: what is wrong there, or 0 with a number and the bytes that it takes
pub record Form : Type 0 where
  pub fault : ℕ
  pub value : ℕ
  pub size : ℕ

abbrev pub good : ℕ → ℕ → Form
good n bytes = record { fault = 0; value = n; size = bytes }

abbrev pub faulty : ℕ → Form
faulty what = record { fault = what; value = 0; size = 0 }

-- .. as the code answers it
abbrev pub of_form : Result code.Form Fault → Form
of_form (Ok n) = good n.value n.size
of_form (Err f) = faulty (figure f)

-- a group that another follows, in front of the form of the others: where those are 0 they should not be there
unfoldable pub led : ℕ → Form → Form
led b others =
    cond (eqb others.fault 0)
    (cond (eqb others.value 0) (faulty too_long) (good (b % 128 + 128 * others.value) (1 + others.size)))
    others

-- the number whose groups these bytes start with, where at most k may follow the first. Four groups of seven bits leave
-- four of 32: with a fifth byte of 16 or more no number of 32 bits starts in its shortest form, whatever follows. It is
-- `above`, also where a sixth byte would show it too long, or the file ends.
unfoldable pub form_of : ℕ → List ℕ → Form
form_of k [] = faulty unfinished
form_of zero (b ∷ bs) = cond (ltb b 16) (good b 1) (faulty above)
form_of (suc k) (b ∷ bs) = cond (ltb b 128) (good b 1) (led b (form_of k bs))

-- the number that starts here
unfoldable pub number_of : List ℕ → Form
number_of [] = faulty missing
number_of (b ∷ bs) = form_of 4 (b ∷ bs)
