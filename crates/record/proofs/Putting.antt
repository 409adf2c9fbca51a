-- Writing a number, byte by byte: what the loop has after a turn. Assumes nothing.
use Prim.Native.Nat.{ℕ, zero, suc, ◌+◌, ◌-◌, ◌/◌, ◌%◌, ◌^◌, ◌≤◌, ◌<◌}
use mathlib.Core.Path.{◌≡◌, sym, ap, ◌∙◌}
use mathlib.Core.List.{List, [], ◌∷◌, ◌++◌}
use native.Mathlib.Numerals.{add-one}
use native.Mathlib.Omega.{arith}
use lib.ListN.{length, set, take, drop, length-append}
use lib.Seq.{drop-drop, drop-set-lt, take-suc-set, set_split, append_snoc, length-take-le}
use Rattle.record.specs.Numbers.{groups}
use Rattle.record.proofs.Sizes.{groups-end, groups_more, groups-size}

-- what is left of a number of 32 bits after so many groups
abbrev pub top : ℕ → ℕ
top at = 2 ^ 32 / 128 ^ at

pub shrinks : (at rest : ℕ) → at ≤ 4 → rest < top at → 128 ≤ rest → (at < 4) × (rest / 128 < top (at + 1))
shrinks zero rest h l m = (omega arith, omega arith)
shrinks (suc zero) rest h l m = (omega arith, omega arith)
shrinks (suc (suc zero)) rest h l m = (omega arith, omega arith)
shrinks (suc (suc (suc zero))) rest h l m = (omega arith, omega arith)
shrinks (suc (suc (suc (suc zero)))) rest h l m = absurd (omega arith)
shrinks (suc (suc (suc (suc (suc at))))) rest h l m = absurd (omega arith)

-- the bytes of a number, of which `at` are in the output and `rest` is left
module _ (bs out : List ℕ) (at rest : ℕ) (e : bs ≡ take at out ++ groups (4 - at) rest) (there : at < length out) where
  pub bytes_left : length bs ≡ at + length (groups (4 - at) rest)
  bytes_left =
      ap length e
      ∙ (length-append (take at out) (groups (4 - at) rest)
      ∙ ap (λ k. k + length (groups (4 - at) rest)) (length-take-le at out (omega arith)))

  module _ (more : 128 ≤ rest) (h : at < 4) where
    abbrev group : ℕ
    group = rest % 128 + 128

    four : 4 - at ≡ suc (4 - (at + 1))
    four = omega arith

    -- another byte follows
    pub one_follows : at + 2 ≤ length bs
    one_follows =
        let s : length (groups (4 - at) rest) ≡ suc (length (groups (4 - (at + 1)) (rest / 128))) =
        rw (four, groups_more (4 - (at + 1)) rest more) in
        omega (arith, bytes_left, s, (groups-size (4 - (at + 1)) (rest / 128)).0)

    -- after it
    pub put_more : bs ≡ take (at + 1) (set out at group) ++ groups (4 - (at + 1)) (rest / 128)
    put_more =
        let g : groups (4 - at) rest ≡ group ∷ groups (4 - (at + 1)) (rest / 128) =
        ap (λ k. groups k rest) four ∙ groups_more (4 - (at + 1)) rest more in
        let t : take (at + 1) (set out at group) ≡ take at out ++ (group ∷ []) =
        ap (λ k. take k (set out at group)) (add-one at) ∙ take-suc-set out at group there in
        e ∙ ap (λ (k : List ℕ). take at out ++ k) g ∙ sym (rw t (append_snoc (take at out) group _))

  module _ (end : rest < 128) where
    last-bytes : bs ≡ take at out ++ (rest ∷ [])
    last-bytes = e ∙ ap (λ (k : List ℕ). take at out ++ k) (groups-end (4 - at) rest end)

    pub last-size : length bs ≡ at + 1
    last-size = bytes_left ∙ ap (λ (k : List ℕ). at + length k) (groups-end (4 - at) rest end)

    -- the last byte
    pub put_last : (out₀ : List ℕ) → drop at out ≡ drop at out₀ → set out at rest ≡ bs ++ drop (length bs) out₀
    put_last out₀ same =
        let rests : drop (suc at) out ≡ drop (length bs) out₀ =
        sym (drop-drop 1 at out ∙ ap (λ k. drop k out) (add-one at))
        ∙ (ap (drop 1) same ∙ drop-drop 1 at out₀) ∙ ap (λ k. drop k out₀) (sym last-size) in
        set_split out at rest there
        ∙ (sym (append_snoc (take at out) rest (drop (suc at) out))
        ∙ (ap (λ (k : List ℕ). k ++ drop (suc at) out) (sym last-bytes) ∙ ap (λ (k : List ℕ). bs ++ k) rests))

-- what lies behind the byte that is written
pub behind_same : (out out₀ : List ℕ) (at b : ℕ) → drop at out ≡ drop at out₀ → drop (at + 1) (set out at b) ≡ drop (at + 1) out₀
behind_same out out₀ at b same =
    drop-set-lt (at + 1) out at b (omega arith)
    ∙ (sym (drop-drop 1 at out) ∙ (ap (drop 1) same ∙ drop-drop 1 at out₀))
