-- A record comes back from its word and what is set aside. Assumes nothing.
use Prim.Native.Nat.{ℕ, ◌+◌, ◌*◌, ◌/◌, ◌%◌, ◌<◌}
use mathlib.Core.Path.{◌≡◌}
use native.Mathlib.Omega.{arith}
use Rattle.requests.specs.declared.record.Record.{Record}
use Rattle.requests.specs.Words.{record_with, word_of}

module _ (a b c d : ℕ) (ha : a < 65536) (hb : b < 65536) (hc : c < 65536) (hd : d < 65536) where
  abbrev word : ℕ
  word = a + b * 0x1_0000 + c * 0x1_0000_0000 + d * 0x1_0000_0000_0000

  first : word % 0x1_0000 ≡ a
  first = omega arith

  second : word / 0x1_0000 % 0x1_0000 ≡ b
  second = omega arith

  third : word / 0x1_0000_0000 % 0x1_0000 ≡ c
  third = omega arith

  fourth : word / 0x1_0000_0000_0000 % 0x1_0000 ≡ d
  fourth = omega arith

pub word_back :
    (r : Record) → r.is_open < 65536 → r.fence < 65536 → r.action < 65536 → r.count < 65536
    → record_with (word_of r) r.room ≡ r
unfolding record_with word_of
word_back r ha hb hc hd =
    rw (
      first r.is_open r.fence r.action r.count ha hb hc hd,
      second r.is_open r.fence r.action r.count ha hb hc hd,
      third r.is_open r.fence r.action r.count ha hb hc hd,
      fourth r.is_open r.fence r.action r.count ha hb hc hd,
    )
