-- No reason has number 0, which is what an accepted call answers.
use Rattle.std.specs.Prelude.{◌≡◌, refl, false, eqb}
use Rattle.refusal.specs.declared.Refusal.{Refusal}
use Rattle.refusal.specs.declared.Refusal.TheVariants.{BadDescriptor, BadBuffer, BadState, BadMessage, ShortOutput, Broken, Overflow}
use Rattle.refusal.specs.declared.Refusal.TheVariants.{Mismatch, Underflow, Full, Empty, OutOfTurn, Malformed, BadField}
use Rattle.refusal.specs.declared.Refusal.TheVariants.{ShortBlob, CssSizes, CssBeyond, CpdHeader, CpdEntries, NoEntry, CpdBeyond}
use Rattle.refusal.specs.declared.Refusal.TheVariants.{DuplicateEntry, TableFull, NoRequest, NoReplyRoom, BadRecord, ShortRoom, BadTable}
use Rattle.refusal.specs.Numbers.{number}

pub number-not-0 : (r : Refusal) → eqb (number r) 0 ≡ false
number-not-0 BadDescriptor = refl
number-not-0 BadBuffer = refl
number-not-0 BadState = refl
number-not-0 BadMessage = refl
number-not-0 ShortOutput = refl
number-not-0 Broken = refl
number-not-0 Overflow = refl
number-not-0 Mismatch = refl
number-not-0 Underflow = refl
number-not-0 Full = refl
number-not-0 Empty = refl
number-not-0 OutOfTurn = refl
number-not-0 Malformed = refl
number-not-0 BadField = refl
number-not-0 ShortBlob = refl
number-not-0 CssSizes = refl
number-not-0 CssBeyond = refl
number-not-0 CpdHeader = refl
number-not-0 CpdEntries = refl
number-not-0 NoEntry = refl
number-not-0 CpdBeyond = refl
number-not-0 DuplicateEntry = refl
number-not-0 TableFull = refl
number-not-0 NoRequest = refl
number-not-0 NoReplyRoom = refl
number-not-0 BadRecord = refl
number-not-0 ShortRoom = refl
number-not-0 BadTable = refl
