-- Fences (document 02, T-06): which comes next, and how old one is.
use Rattle.std.specs.Prelude.{ℕ, zero, suc, ◌+◌, ◌-◌, ◌%◌, Bool, cond, ltb, ℤ, pos, negsuc}

-- 'counting up .. and wrapping at 65,536'
unfoldable pub after : ℕ → ℕ
after f = (f + 1) % 65536

-- the first of so many fences after f that is not open, in that order; where all of them are, the last of them
unfoldable pub first_closed : ℕ → (ℕ → Bool) → ℕ → ℕ
first_closed zero is_open f = f
first_closed (suc more) is_open f = cond (is_open (after f)) (first_closed more is_open (after f)) (after f)

-- 'the next fence, counting up from the last one used and wrapping at 65,536, skipping fences still open': there are
-- 65,536 of them, so that one is found unless every fence there is stands open
unfoldable pub next_fence : (ℕ → Bool) → ℕ → ℕ
next_fence is_open last = first_closed 65536 is_open last

-- 'the last fence starts at 65,535'
abbrev pub first_last : ℕ
first_last = 65535

-- ---- 'the age of a fence'

-- 'read as a number from -32,768 to 32,767': below 32,768 it stands, from there on 65,536 is taken off it.
-- (`negsuc n` is -(n + 1).)
unfoldable pub signed : ℕ → ℤ
signed d = cond (ltb d 32768) (pos d) (negsuc (65535 - d))

-- 'fence less newest, modulo 65,536', of two fences, which are below 65,536
unfoldable pub age : ℕ → ℕ → ℤ
age fence newest = signed ((fence + 65536 - newest) % 65536)
