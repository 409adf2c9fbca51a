-- Reasons that a caller tells apart by their numbers: another reason has another number.
use mathlib.Core.Path.{◌≡◌, refl}
use mathlib.Core.Bool.{false}
use lib.Dec.{eqb}
use Rattle.refusal.specs.declared.Refusal.{Refusal}
use Rattle.refusal.specs.declared.Refusal.TheVariants.{BadDescriptor, BadBuffer, BadState, BadMessage, ShortOutput, Broken, Overflow}
use Rattle.refusal.specs.declared.Refusal.TheVariants.{Mismatch, Underflow, Full, Empty, OutOfTurn, Malformed, BadField}
use Rattle.refusal.specs.declared.Refusal.TheVariants.{ShortBlob, CssSizes, CssBeyond, CpdHeader, CpdEntries, NoEntry, CpdBeyond}
use Rattle.refusal.specs.declared.Refusal.TheVariants.{DuplicateEntry, TableFull, NoRequest, NoReplyRoom, BadRecord, ShortRoom, BadTable}
use Rattle.refusal.specs.Numbers.{number}

pub of-7 : (r : Refusal) → (r ≡ Overflow → ⊥) → eqb (number r) 7 ≡ false
of-7 BadDescriptor n = refl
of-7 BadBuffer n = refl
of-7 BadState n = refl
of-7 BadMessage n = refl
of-7 ShortOutput n = refl
of-7 Broken n = refl
of-7 Overflow n = absurd (n refl)
of-7 Mismatch n = refl
of-7 Underflow n = refl
of-7 Full n = refl
of-7 Empty n = refl
of-7 OutOfTurn n = refl
of-7 Malformed n = refl
of-7 BadField n = refl
of-7 ShortBlob n = refl
of-7 CssSizes n = refl
of-7 CssBeyond n = refl
of-7 CpdHeader n = refl
of-7 CpdEntries n = refl
of-7 NoEntry n = refl
of-7 CpdBeyond n = refl
of-7 DuplicateEntry n = refl
of-7 TableFull n = refl
of-7 NoRequest n = refl
of-7 NoReplyRoom n = refl
of-7 BadRecord n = refl
of-7 ShortRoom n = refl
of-7 BadTable n = refl

pub of-8 : (r : Refusal) → (r ≡ Mismatch → ⊥) → eqb (number r) 8 ≡ false
of-8 BadDescriptor n = refl
of-8 BadBuffer n = refl
of-8 BadState n = refl
of-8 BadMessage n = refl
of-8 ShortOutput n = refl
of-8 Broken n = refl
of-8 Overflow n = refl
of-8 Mismatch n = absurd (n refl)
of-8 Underflow n = refl
of-8 Full n = refl
of-8 Empty n = refl
of-8 OutOfTurn n = refl
of-8 Malformed n = refl
of-8 BadField n = refl
of-8 ShortBlob n = refl
of-8 CssSizes n = refl
of-8 CssBeyond n = refl
of-8 CpdHeader n = refl
of-8 CpdEntries n = refl
of-8 NoEntry n = refl
of-8 CpdBeyond n = refl
of-8 DuplicateEntry n = refl
of-8 TableFull n = refl
of-8 NoRequest n = refl
of-8 NoReplyRoom n = refl
of-8 BadRecord n = refl
of-8 ShortRoom n = refl
of-8 BadTable n = refl

pub of-9 : (r : Refusal) → (r ≡ Underflow → ⊥) → eqb (number r) 9 ≡ false
of-9 BadDescriptor n = refl
of-9 BadBuffer n = refl
of-9 BadState n = refl
of-9 BadMessage n = refl
of-9 ShortOutput n = refl
of-9 Broken n = refl
of-9 Overflow n = refl
of-9 Mismatch n = refl
of-9 Underflow n = absurd (n refl)
of-9 Full n = refl
of-9 Empty n = refl
of-9 OutOfTurn n = refl
of-9 Malformed n = refl
of-9 BadField n = refl
of-9 ShortBlob n = refl
of-9 CssSizes n = refl
of-9 CssBeyond n = refl
of-9 CpdHeader n = refl
of-9 CpdEntries n = refl
of-9 NoEntry n = refl
of-9 CpdBeyond n = refl
of-9 DuplicateEntry n = refl
of-9 TableFull n = refl
of-9 NoRequest n = refl
of-9 NoReplyRoom n = refl
of-9 BadRecord n = refl
of-9 ShortRoom n = refl
of-9 BadTable n = refl

pub of-13 : (r : Refusal) → (r ≡ Malformed → ⊥) → eqb (number r) 13 ≡ false
of-13 BadDescriptor n = refl
of-13 BadBuffer n = refl
of-13 BadState n = refl
of-13 BadMessage n = refl
of-13 ShortOutput n = refl
of-13 Broken n = refl
of-13 Overflow n = refl
of-13 Mismatch n = refl
of-13 Underflow n = refl
of-13 Full n = refl
of-13 Empty n = refl
of-13 OutOfTurn n = refl
of-13 Malformed n = absurd (n refl)
of-13 BadField n = refl
of-13 ShortBlob n = refl
of-13 CssSizes n = refl
of-13 CssBeyond n = refl
of-13 CpdHeader n = refl
of-13 CpdEntries n = refl
of-13 NoEntry n = refl
of-13 CpdBeyond n = refl
of-13 DuplicateEntry n = refl
of-13 TableFull n = refl
of-13 NoRequest n = refl
of-13 NoReplyRoom n = refl
of-13 BadRecord n = refl
of-13 ShortRoom n = refl
of-13 BadTable n = refl
