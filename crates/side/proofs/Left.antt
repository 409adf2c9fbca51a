-- What is left of a message, stored or copied at once with the state in words: it comes to the moves one after another.
-- Assumes nothing.
use Prim.Native.Nat.{ℕ, suc, ◌+◌, ◌-◌, ◌%◌, ◌≤◌, ◌<◌}
use mathlib.Core.Path.{◌≡◌, refl, sym, ◌∙◌}
use mathlib.Core.List.{List, [], ◌∷◌, ◌++◌}
use native.Mathlib.Nat.{mod-lt, mod-mod}
use native.Mathlib.Omega.{arith}
use lib.ListN.{length, get_or, set, take, drop, length-set, length-take, length-drop}
use lib.Seq.{drop-cons}
use Rattle.runs.specs.Buffer.{filled_from, past, stored, stored_at, window}
use Rattle.runs.specs.TwoRuns.{with_run}
use Rattle.runs.proofs.Offsets.{past_is}
use Rattle.runs.proofs.Ring.{stored_mod, window-length, window_mod}
use Rattle.runs.proofs.Straight.{filled_there, stored_there}
use Rattle.channel.specs.State.{State, state}
use Rattle.channel.specs.Send
use Rattle.channel.specs.Receive
use Rattle.channel.proofs.AllMoves.{all-sent, all-taken}
use Rattle.channel.proofs.Going.{Going, going_receive, going_send}
use Rattle.side.specs.Words.{state_of, in_words}
use Rattle.side.proofs.InWords.{four, moved-set}

-- dwords from the place k dwords past an own offset on, stored there and read there
module _
    (b : List ℕ) (own k : ℕ) (xs : List ℕ)
    (l : own < length b) (h : k ≤ length b) (o : length b ≤ 16384) (f : length xs ≤ length b)
  where
    abbrev offset : ℕ
    offset = (own + k) % length b

    inside : offset < length b
    inside = mod-lt (own + k) (omega arith)

    same_offset : offset % length b ≡ (own + k) % length b
    same_offset = mod-mod (own + k) (length b)

    pub stored_past : stored_at b (past (length b) own k) xs ≡ stored b (length b) (own + k) xs
    stored_past =
        rw (past_is (length b) own k l h o)
        (stored_there b offset xs inside f ∙ stored_mod b (length b) offset (own + k) xs same_offset)

    pub filled_past : filled_from b (past (length b) own k) xs ≡ window b (length b) (own + k) (length xs)
    filled_past =
        rw (past_is (length b) own k l h o)
        (filled_there b offset xs inside f ∙ window_mod b (length b) offset (own + k) (length xs) same_offset)

-- dwords k to len - 1 of a copy m: how many they are, and the first of them by itself
module _ (m : List ℕ) (len k : ℕ) (f : len ≤ length m) where
  pub part_length : length (take (len - k) (drop k m)) ≡ len - k
  part_length = simp (length-take, length-drop) (omega arith)

  part_cons : k < len → take (len - k) (drop k m) ≡ get_or m k 0 ∷ take (len - suc k) (drop (suc k) m)
  part_cons h =
      let e : len - k ≡ suc (len - suc k) = omega arith in
      rw (e, drop-cons m k 0 (omega arith))

-- those from the first or the second on, of which the first two are given by value
module _
    (b m : List ℕ) (own len : ℕ)
    (l : own < length b) (low : 2 ≤ len) (high : len ≤ length b) (o : length b ≤ 16384) (f : len ≤ length m)
  where
    pub stored-all :
        stored_at b own (get_or m 0 0 ∷ get_or m 1 0 ∷ take (len - 2) (drop 2 m))
        ≡ stored b (length b) (own + 0) (take (len - 0) (drop 0 m))
    stored-all =
        let z : own + 0 ≡ own = omega arith in
        rw (part_cons m len 0 f (omega arith), part_cons m len 1 f (omega arith), z)
        (stored_there b own _ l (omega (arith, part_length m len 2 f)))

    pub stored-second :
        stored_at (set b (past (length b) own 1) (get_or m 1 0)) (past (length b) own 2) (take (len - 2) (drop 2 m))
        ≡ stored b (length b) (own + 1) (take (len - 1) (drop 1 m))
    unfolding stored
    stored-second =
        let b₁ = set b (past (length b) own 1) (get_or m 1 0) in
        let z : length b₁ ≡ length b = length-set b _ _ in
        let q : own + 2 ≡ suc (own + 1) = omega arith in
        let fits = part_length m len 2 f in
        let s = stored_past b₁ own 2 (take (len - 2) (drop 2 m)) (omega arith) (omega arith) (omega arith) (omega (arith, fits)) in
        (rw z at s) ∙ rw (past_is (length b) own 1 l (omega arith) o, part_cons m len 1 f (omega arith), q)

-- 260 words have a copy that is as long as any message
pub copy_long : (w : List ℕ) → length w ≡ 260 → length (state_of w).copy ≡ 256
unfolding state_of
copy_long w h = simp length-drop (omega arith)

-- what is left copied to its places in the words, and counted there
abbrev Copied : List ℕ → List ℕ → Type 0
Copied xs w =
    let s = state_of w in
    s.moved ≤ s.len → length xs ≡ s.len - s.moved
    → state_of (set (with_run w (4 + s.moved) xs) 3 s.len)
    ≡ state s.n s.own s.len s.len (take s.moved s.copy ++ (xs ++ drop s.len s.copy))

copied-set : (xs w : List ℕ) → length w ≡ 260 → Copied xs w
unfolding state_of with_run
copied-set xs = four (Copied xs)
    (λ n own len moved copy e l f.
    let z : 4 + moved ≡ suc (suc (suc (suc moved))) = omega arith in
    let y : suc (suc (suc (suc moved))) + length xs ≡ suc (suc (suc (suc len))) = omega arith in
    rw (z, y))

-- what the code leaves in the words and in the lent memory is what all the moves give
module _ (w d b : List ℕ) (h : length w ≡ 260) where
  abbrev s : State
  s = state_of w

  pub all-stored :
      (b' : List ℕ) → Send.go_on_number s d b ≡ 0
      → b' ≡ stored b (length b) (s.own + s.moved) (take (s.len - s.moved) (drop s.moved s.copy))
      → in_words 0 0 (set w 3 s.len) d b' [] ≡ Send.move_all s d b
  unfolding Send.go_on_number
  all-stored b' e f =
      let g : Going (length b) s = going_send _ _ _ _ 0 refl refl refl e in
      rw (f, moved-set s.len w h) (sym (all-sent s d b e (omega (arith, g.short, copy_long w h))))

  pub all-copied :
      (w' : List ℕ) → Receive.go_on_number s d b ≡ 0
      → w' ≡ with_run w (4 + s.moved) (window b (length b) (s.own + s.moved) (s.len - s.moved))
      → in_words 0 0 (set w' 3 s.len) d b [] ≡ Receive.move_all s d b
  unfolding Receive.go_on_number
  all-copied w' e f =
      let g : Going (length b) s = going_receive _ _ _ _ 0 refl refl refl e in
      let k = window-length b (length b) (s.own + s.moved) (s.len - s.moved) in
      rw (f, copied-set _ w h g.within k) (sym (all-taken s d b e (omega (arith, g.short, copy_long w h))))
