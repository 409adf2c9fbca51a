-- The paper's number for each reason, and the number of an answer.
use Rattle.std.specs.Prelude.{ℕ, Result, Ok, Err}
use Rattle.refusal.specs.declared.Refusal.{Refusal}
use Rattle.refusal.specs.declared.Refusal.TheVariants.{BadDescriptor, BadBuffer, BadState, BadMessage, ShortOutput, Broken, Overflow}
use Rattle.refusal.specs.declared.Refusal.TheVariants.{Mismatch, Underflow, Full, Empty, OutOfTurn, Malformed, BadField}
use Rattle.refusal.specs.declared.Refusal.TheVariants.{ShortBlob, CssSizes, CssBeyond, CpdHeader, CpdEntries, NoEntry, CpdBeyond}
use Rattle.refusal.specs.declared.Refusal.TheVariants.{DuplicateEntry, TableFull, NoRequest, NoReplyRoom, BadRecord, ShortRoom, BadTable}

-- 'refusal numbers': each reason's own
abbrev pub number : Refusal → ℕ
number BadDescriptor = 1
number BadBuffer = 2
number BadState = 3
number BadMessage = 4
number ShortOutput = 5
number Broken = 6
number Overflow = 7
number Mismatch = 8
number Underflow = 9
number Full = 10
number Empty = 11
number OutOfTurn = 12
number Malformed = 13
number BadField = 14
number ShortBlob = 15
number CssSizes = 16
number CssBeyond = 17
number CpdHeader = 18
number CpdEntries = 19
number NoEntry = 20
number CpdBeyond = 21
number DuplicateEntry = 22
number TableFull = 26
number NoRequest = 27
number NoReplyRoom = 28
number BadRecord = 29
number ShortRoom = 30
number BadTable = 35

-- an answer's number: 0, or that of the reason that refuses
abbrev pub number_of : {A : Type 0} → Result A Refusal → ℕ
number_of (Ok a) = 0
number_of (Err r) = number r
