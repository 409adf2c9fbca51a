-- Laws about packing and unpacking that the code's proofs cite. Assumes nothing.
use Prim.Native.Nat.{ℕ, ◌+◌, ◌*◌}
use mathlib.Core.Path.{◌≡◌, refl, sym, ◌∙◌}
use mathlib.Core.Bool.{Bool, true, false, ◌&&◌, cond}
use mathlib.Core.List.{List}
use mathlib.Core.Option.{none, some, Option-elim}
use native.Mathlib.Omega.{arith}
use lib.ListN.{get_or}
use lib.Dec.{ltb, leb}
use Rattle.message.specs.Fields.{fit, dword}
use Rattle.message.specs.Types.{carried, body_fields, body_of, known}
use Rattle.message.specs.Header.{is_message}
use Rattle.message.specs.Packing.{origin_number, header_fields, hxg_fields, pack, decoded, unpack}
use Rattle.message.specs.declared.Origin.{Origin}
use Rattle.message.specs.declared.Origin.TheVariants.{Host, Guc}
use Rattle.message.specs.declared.Body.{Body}
use Rattle.message.specs.declared.Body.TheVariants.{Request, Event, FastRequest, Busy, Retry, Failure, Success}
use Rattle.message.specs.declared.Message.{Message}
use Rattle.message.proofs.Tests.{cases}
use Rattle.message.proofs.Tiling.{tiles}
use Rattle.message.proofs.Formed.{message_well}

-- the number of an origin fits its bit
pub origin-fits : (o : Origin) → ltb (origin_number o) 2 ≡ true
unfolding origin_number
origin-fits Host = refl
origin-fits Guc = refl

-- the tests of packing, in the order of the code
regroup : (a b c o d : Bool) → o ≡ true → (a && (c && (b && true)) && (o && d)) ≡ (((a && b) && c) && d)
regroup true true true o d e = rw e
regroup true true false o d e = refl
regroup true false true o d e = refl
regroup true false false o d e = refl
regroup false b c o d e = refl

-- the fields of a body fill the bits below its origin, and those of a header and of an HXG dword 0 a dword, for every
-- type
pub body_tiles : (b : Body) → tiles 31 (body_fields b) ≡ true
unfolding body_fields carried tiles
body_tiles (Request d a) = refl
body_tiles (Event d a) = refl
body_tiles (FastRequest d a) = refl
body_tiles (Busy c) = refl
body_tiles (Retry r) = refl
body_tiles (Failure h e) = refl
body_tiles (Success d) = refl

pub header_tiles : (m : Message) → tiles 32 (header_fields m) ≡ true
unfolding header_fields tiles
header_tiles m = refl

pub hxg_tiles : (m : Message) → tiles 32 (hxg_fields m) ≡ true
unfolding hxg_fields tiles
hxg_tiles m = body_tiles m.body

pub pack_is :
    (m : Message)
    → pack m
    ≡ cond (((leb 1 m.num_dwords && ltb m.num_dwords 256) && ltb m.fence 65536) && fit (body_fields m.body))
    (some (m.fence * 65536 + m.num_dwords, origin_number m.origin * 2147483648 + dword (body_fields m.body)))
    none
unfolding pack header_fields hxg_fields fit dword
pack_is m =
    let n = m.num_dwords in
    let o = ltb (origin_number m.origin) 2 in
    let t = regroup (leb 1 n) (ltb n 256) (ltb m.fence 65536) o (fit (body_fields m.body)) (origin-fits m.origin) in
    let h : m.fence * 65536 + (0 + (0 + (m.num_dwords * 1 + 0))) ≡ m.fence * 65536 + m.num_dwords = omega arith in
    cc

-- a whole message with a body is unpacked, and any other list is not
pub unpack_some :
    (d : List ℕ) (b : Body) → is_message d ≡ true → body_of (get_or d 1 0) ≡ some b
    → unpack d ≡ some (decoded (get_or d 0 0) (get_or d 1 0) b)
unfolding unpack Option-elim
unpack_some d b e f = rw (e, f)

pub unpack-none : (d : List ℕ) → is_message d ≡ false → unpack d ≡ none
unfolding unpack
unpack-none d e = rw e

pub unpack-unknown : (d : List ℕ) → known (get_or d 1 0) ≡ false → unpack d ≡ none
unpack-unknown d k = cases (is_message d) (λ e. absurd (false-true (sym k ∙ (message_well d e).known-type))) (unpack-none d)
  where
    false-true : ◌≡◌ {A = Bool} false true → ⊥
    false-true e = let z : ◌≡◌ {A = ℕ} 0 1 = cc in omega arith
