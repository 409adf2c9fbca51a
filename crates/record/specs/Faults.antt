-- What can be wrong with a record (document 02, T-10), in the paper's order. The figures are ours; 0 is nothing wrong.
use Rattle.std.specs.Prelude.{ℕ, Result, Ok, Err}
use Rattle.record.specs.declared.fault.Fault.{Fault}
use Rattle.record.specs.declared.fault.Fault.TheVariants.{Unfinished, Missing, TooLong, TooWide, BadDirection, BadLength, BadHeader}

-- a number 'unfinished ..'
abbrev pub unfinished : ℕ
unfinished = 1

-- '.. or missing inside a message'; of a run, one 'that ends early'
abbrev pub missing : ℕ
missing = 2

-- 'a form too long'
abbrev pub too_long : ℕ
too_long = 3

-- 'a number above 32 bits'
abbrev pub above : ℕ
above = 4

-- 'a direction above 1'
abbrev pub bad_direction : ℕ
bad_direction = 5

-- 'an L outside its limits'
abbrev pub bad_length : ℕ
bad_length = 6

-- 'a header that disagrees with L'
abbrev pub bad_header : ℕ
bad_header = 7

-- the figure of what is wrong
abbrev pub figure : Fault → ℕ
figure Unfinished = unfinished
figure Missing = missing
figure TooLong = too_long
figure TooWide = above
figure BadDirection = bad_direction
figure BadLength = bad_length
figure BadHeader = bad_header

-- .. or 0
abbrev pub of_fault : {A : Type 0} → Result A Fault → ℕ
of_fault (Ok a) = 0
of_fault (Err f) = figure f
