-- Messages for C: numbers in the place of enums, and zeros where a refusal answers nothing.
use Rattle.std.specs.Prelude.{ℕ, ◌-◌, Bool, true, ◌&&◌, cond, List, [], ◌∷◌, eqb, leb, length}
use Rattle.std.proofs.Math.Option.{Option, Option-elim}
use Rattle.message.specs.Fields.{Field, bits_of, FieldValue}
use Rattle.message.specs.Types.{type_of, carried, bodies_from, of_type}
use Rattle.message.specs.Packing.{Answer, origin_number, origin_of, pack_answer}
use Rattle.message.specs.declared.Body.{Body}
use Rattle.message.specs.declared.Message.{Message}
use Rattle.guc.specs.declared.messages.Packed.{Packed}
use Rattle.guc.specs.declared.messages.Unpacked.{Unpacked}

-- the interface's own number: no such HXG type, or component of an image
abbrev pub no_such : ℕ
no_such = 101

-- C gives two numbers for the fields of a body: the second is for a field in bits 15:0, the first for any other
unfoldable pub number_for : ℕ → ℕ → Field → ℕ
number_for first second f = cond (eqb (bits_of f).high 15 && eqb (bits_of f).low 0) second first

-- the body of a type with these, or none
unfoldable pub body_for : ℕ → ℕ → ℕ → Option Body
body_for t first second = of_type t (bodies_from (number_for first second))

-- a field that the type does not have has no place: any number but 0 is too wide for it
unfoldable pub spare : Body → ℕ → Bool
spare b second = cond (eqb (length (carried b)) 1) (eqb second 0) true

-- a packing: its number, header and HXG dword 0
abbrev pub not_packed : ℕ → Packed
not_packed n = record { code = n; header = 0; word = 0 }

unfoldable pub packed_by : Answer (ℕ × ℕ) → Packed
packed_by a = Option-elim a.value (not_packed a.number) (λ dwords. record { code = 0; header = dwords.0; word = dwords.1 })

-- 101 first, then 14 for an origin that is not one bit and for a number but 0 in a field that the type does not have,
-- then what packing answers
unfoldable pub packing : ℕ → ℕ → ℕ → ℕ → ℕ → ℕ → Packed
packing origin fence num t first second =
    Option-elim (body_for t first second) (not_packed no_such)
    (λ b.
    cond (leb origin 1 && spare b second)
    (packed_by (pack_answer (record { origin = origin_of origin; fence = fence; num_dwords = num; body = b })))
    (not_packed 14))

-- the number in field n of those that a body carries, counted from 0; 0 for a field that its type does not have
unfoldable pub nth : ℕ → List FieldValue → ℕ
nth n [] = 0
nth n (x ∷ xs) = cond (eqb n 0) x.1 (nth (n - 1) xs)

-- what a decoded message says, in numbers
unfoldable pub said_by : Message → Unpacked
said_by m =
    record {
      code = 0;
      origin = origin_number m.origin;
      fence = m.fence;
      num_dwords = m.num_dwords;
      hxg_type = type_of m.body;
      first = nth 0 (carried m.body);
      second = nth 1 (carried m.body);
    }

-- an unpacking
unfoldable pub unpacked_by : Answer Message → Unpacked
unpacked_by a =
    Option-elim a.value
    (record { code = a.number; origin = 0; fence = 0; num_dwords = 0; hxg_type = 0; first = 0; second = 0 })
    said_by
