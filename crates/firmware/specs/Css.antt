-- CSS images (document 01, 'Firmware images'): the judgement, and where each component lies.
use Rattle.std.specs.Prelude.{ℕ, ◌+◌, ◌-◌, ◌*◌, Bool, not, ◌&&◌, cond, List, length, eqb, leb, ltb, false, Result, Ok, Err}
use Rattle.refusal.specs.declared.Refusal.{Refusal}
use Rattle.refusal.specs.Numbers
use Rattle.firmware.specs.Bytes.{Location, Span, dword_at, span, nowhere, located_at}
use Rattle.firmware.specs.declared.css.Sizes.{Sizes}
use Rattle.firmware.specs.declared.css.ImageAnswer.{ImageAnswer}
use Rattle.firmware.specs.declared.css.Component.{Component}
use Rattle.firmware.specs.declared.css.Component.TheVariants.{Ucode, Rsa, Modulus, Exponent}

abbrev pub header_dword : List ℕ → ℕ → ℕ
header_dword b i = dword_at b (4 * i)

-- 'Dwords: 1 = h (all that is not uCode), 6 = s (all), 7 = k (RSA), 8 = m (modulus), 9 = e (exponent)'; 'Sizes are in
-- dwords.'
unfoldable pub sizes : List ℕ → Sizes
sizes b = record { h = header_dword b 1; s = header_dword b 6; k = header_dword b 7; m = header_dword b 8; e = header_dword b 9 }

-- 'Over whole numbers h = 32 + k + m + e, k at least 1, s above h'
unfoldable pub agree : Sizes → Bool
agree z = eqb z.h (32 + z.k + z.m + z.e) && leb 1 z.k && ltb z.h z.s

-- 'Order: header, uCode, RSA, modulus, exponent.' The header has 128 bytes, and each component starts where the one
-- before it ends.
abbrev pub span_after : Span → ℕ → Span
span_after p dwords = span p.to (p.to + 4 * dwords)

abbrev pub u_code : Sizes → Span
u_code z = span 128 (128 + 4 * (z.s - z.h))

unfoldable pub span_of : Component → Sizes → Span
span_of Ucode z = u_code z
span_of Rsa z = span_after (u_code z) z.k
span_of Modulus z = span_after (span_after (u_code z) z.k) z.m
span_of Exponent z = span_after (span_after (span_after (u_code z) z.k) z.m) z.e

-- 15 'at least 128 bytes', 16 'CSS sizes disagree', 17 'Bytes 128 + 4(s - h) + 4k must be there'
unfoldable pub number : List ℕ → ℕ
number b =
    cond (ltb (length b) 128) 15
    (cond (not (agree (sizes b))) 16
    (cond (ltb (length b) (128 + 4 * ((sizes b).s - (sizes b).h) + 4 * (sizes b).k)) 17 0))

abbrev pub is_image : List ℕ → Bool
is_image b = eqb (number b) 0

-- 'the blob has at least 4s bytes'
abbrev pub all_there : List ℕ → Bool
all_there b = leb (4 * (sizes b).s) (length b)

-- 'else neither is (a truncated image)': 'the answer is 0 and says truncated'
unfoldable pub truncated : List ℕ → Bool
truncated b = is_image b && not (all_there b)

-- 'Modulus and exponent are shown when the blob has at least 4s bytes'; uCode and RSA whenever the image is accepted
unfoldable pub shown : Component → List ℕ → Bool
shown Ucode b = is_image b
shown Rsa b = is_image b
shown Modulus b = is_image b && all_there b
shown Exponent b = is_image b && all_there b

-- where a component lies; one that is not shown is 'the empty part that a refusal gives'
unfoldable pub part : Component → List ℕ → Span
part which b = cond (shown which b) (span_of which (sizes b)) nowhere

-- the whole judgement of an image of which that component is asked
abbrev pub located : Component → List ℕ → Location
located which b = located_at (number b) (truncated b) (part which b)

-- the answer alone: 0 or the number that refuses an image, and whether it is accepted and truncated
pub record Answer : Type 0 where
  pub code : ℕ
  pub truncated : Bool

abbrev pub answer : List ℕ → Answer
answer b = record { code = number b; truncated = truncated b }

-- an answer in code as such a one
abbrev pub of_answer : Result ImageAnswer Refusal → Answer
of_answer (Ok a) = record { code = 0; truncated = a.truncated }
of_answer (Err r) = record { code = Numbers.number r; truncated = false }
