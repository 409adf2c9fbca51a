-- A record by value: in a word four of its five numbers side by side, the lowest first, as they lie in memory; and beside
-- the word the fifth, what is set aside.
use Rattle.std.specs.Prelude.{ℕ, ◌+◌, ◌*◌, ◌/◌, ◌%◌, List, [], ◌∷◌, map}
use Rattle.requests.specs.declared.record.Record.{Record}

unfoldable pub word_of : Record → ℕ
word_of r = r.is_open + r.fence * 0x1_0000 + r.action * 0x1_0000_0000 + r.count * 0x1_0000_0000_0000

-- the record in a word, with so much set aside for it
unfoldable pub record_with : ℕ → ℕ → Record
record_with word room =
    record {
      is_open = word % 0x1_0000;
      fence = word / 0x1_0000 % 0x1_0000;
      action = word / 0x1_0000_0000 % 0x1_0000;
      count = word / 0x1_0000_0000_0000 % 0x1_0000;
      room = room;
    }

-- a word alone says all but that: nothing set aside
abbrev pub record_of : ℕ → Record
record_of word = record_with word 0

abbrev pub records : List ℕ → List Record
records words = map record_of words

-- words, and beside each what is set aside (0 where there is no number for it)
unfoldable pub records_with : List ℕ → List ℕ → List Record
records_with [] rooms = []
records_with (w ∷ words) [] = record_of w ∷ records_with words []
records_with (w ∷ words) (r ∷ rooms) = record_with w r ∷ records_with words rooms
