-- Laws of a state in words: what a change of the words is to the state. Assumes nothing.
use Prim.Native.Nat.{ℕ, zero, suc, ◌+◌, ◌-◌, ◌%◌, ◌≤◌}
use mathlib.Core.Path.{◌≡◌, refl, sym, ap, ◌∙◌}
use mathlib.Core.Bool.{true}
use mathlib.Core.List.{List, [], ◌∷◌, ◌++◌, append-nil}
use native.Mathlib.Omega.{arith}
use lib.ListN.{length, get_or, set, take, drop, replicate, drop_of_length-le, length-take, length-drop}
use lib.Seq.{drop-drop, get_or-drop}
use borrow.Rule.Slice.PartMut.{mid_of, put_mid}
use lib.Dec.{eqb}
use borrow.Author.Tests.{eqb-true}
use Rattle.message.proofs.Tests.{and_l, and_r}
use Rattle.channel.specs.State.{State, state, counts_of, counted, zeros, all_zero, idle_at, idle, active_send, active_receive}
use Rattle.message.specs.Header.{total_length}
use Rattle.ring.specs.Ring.{HEAD}
use Rattle.ring.specs.Numbers.{marked}
use Rattle.channel.specs.Steps.{past_message}
use Rattle.channel.specs.Send
use Rattle.channel.specs.Receive
use Rattle.channel.specs.declared.state.Counts.{Counts}
use Rattle.channel.proofs.Going.{Going, going_past, going_place}
use Rattle.runs.specs.Buffer.{past}
use Rattle.side.specs.Words.{state_of, in_words}
use Rattle.message.proofs.Slices.{put_front}
use Rattle.runs.proofs.Straight.{drop-replicate}

-- 260 words are four numbers and a copy
pub four :
    (P : List ℕ → Type 0)
    → ((n own len moved : ℕ) (copy : List ℕ) → length copy ≡ 256 → P (n ∷ own ∷ len ∷ moved ∷ copy))
    → (w : List ℕ) → length w ≡ 260 → P w
four P f [] e = absurd (omega arith)
four P f (a ∷ []) e = absurd (omega arith)
four P f (a ∷ b ∷ []) e = absurd (omega arith)
four P f (a ∷ b ∷ c ∷ []) e = absurd (omega arith)
four P f (a ∷ b ∷ c ∷ d ∷ r) e = f a b c d r (omega arith)

pub own-set :
    (x : ℕ) (w : List ℕ) → length w ≡ 260
    → state_of (set w 1 x) ≡ state (get_or w 0 0) x (get_or w 2 0) (get_or w 3 0) (drop 4 w)
unfolding state_of
own-set x = four _ (λ n own len moved copy e. refl)

-- the fields of the state in their words
pub n_is : (w : List ℕ) → get_or w 0 0 ≡ (state_of w).n
unfolding state_of
n_is w = refl

pub own_is : (w : List ℕ) → get_or w 1 0 ≡ (state_of w).own
unfolding state_of
own_is w = refl

pub len_is : (w : List ℕ) → get_or w 2 0 ≡ (state_of w).len
unfolding state_of
len_is w = refl

pub moved_is : (w : List ℕ) → get_or w 3 0 ≡ (state_of w).moved
unfolding state_of
moved_is w = refl

-- the words after moves of a send
pub moved-set :
    (x : ℕ) (w : List ℕ) → length w ≡ 260
    → let s = state_of w in
    state_of (set w 3 x) ≡ state s.n s.own s.len x s.copy
unfolding state_of
moved-set x = four _ (λ n own len moved copy e. refl)

-- the words with another N
pub n-set :
    (x : ℕ) (w : List ℕ) → length w ≡ 260
    → let s = state_of w in
    state_of (set w 0 x) ≡ state x s.own s.len s.moved s.copy
unfolding state_of
n-set x = four _ (λ n own len moved copy e. refl)

pub rested :
    (x : ℕ) (w : List ℕ) → length w ≡ 260
    → state_of (set (set (set (take 4 w ++ replicate (length w - 4) 0) 1 x) 2 0) 3 0) ≡ idle_at (get_or w 0 0) x
unfolding state_of zeros
rested x = four _ (λ n own len moved copy e. rw e)

pub filled :
    (m w : List ℕ) → length w ≡ 260 → (state_of w).moved ≡ 0 → (state_of w).copy ≡ zeros
    → state_of (set (take 4 w ++ (m ++ drop (length m) (drop 4 w))) 2 (length m)) ≡ Send.loaded (state_of w) m
unfolding state_of zeros
filled m =
    four _
    (λ n own len moved copy e z q.
    let y : moved ≡ 0 = z in
    let p : copy ≡ replicate 256 0 = q in
    rw (y, p, drop-replicate))

-- the copy made all zeros, by a part of the words
pub cleared :
    (w : List ℕ) → 4 ≤ length w
    → let k = length w - 4 in
    put_mid 4 k w (replicate (length (mid_of 4 k w)) 0) ≡ take 4 w ++ replicate k 0
cleared w h =
    let k = length w - 4 in
    let e : drop k (drop 4 w) ≡ [] = drop_of_length-le (drop 4 w) {i = k} (simp length-drop (omega arith)) in
    let l : length (take k (drop 4 w)) ≡ k = simp (length-take, length-drop) (omega arith) in
    rw (e, l, append-nil)

-- dwords put at the front of the copy, by a part of the words
pub put_copy :
    (m w : List ℕ) → 4 + length m ≤ length w
    → let k = length w - 4 in
    put_mid 4 k w (m ++ drop (length m) (mid_of 4 k w)) ≡ take 4 w ++ (m ++ drop (length m) (drop 4 w))
put_copy m w h =
    let l : length m ≤ length w - 4 = omega arith in
    let g : 4 + (length w - 4) ≤ length w = omega arith in
    put_front 4 (length w - 4) w m l g ∙ rw drop-drop

-- a copy of zeros alone
all-zeros : (k : ℕ) (copy : List ℕ) → length copy ≡ k → all_zero copy ≡ true → copy ≡ replicate k 0
unfolding all_zero
all-zeros zero [] l e = refl
all-zeros zero (x ∷ xs) l e = absurd (omega arith)
all-zeros (suc k) [] l e = absurd (omega arith)
all-zeros (suc k) (x ∷ xs) l e =
    let x0 : x ≡ 0 = eqb-true x 0 (and_l (eqb x 0) (all_zero xs) e) in
    let r : xs ≡ replicate k 0 = all-zeros k xs (omega arith) (and_r (eqb x 0) (all_zero xs) e) in
    rw (x0, r)

-- what the words of an idle state have
pub record Idle (w : List ℕ) : Type 0 where
  pub no_len : (state_of w).len ≡ 0
  pub no_moved : (state_of w).moved ≡ 0
  pub no_copy : (state_of w).copy ≡ zeros

pub idle_words : (n : ℕ) (w : List ℕ) → length w ≡ 260 → idle n (state_of w) ≡ true → Idle w
unfolding idle state_of zeros
idle_words n w h e =
    let l : length (drop 4 w) ≡ 256 = simp length-drop (omega arith) in
    record {
      no_len = eqb-true (state_of w).len 0 (search (and_l, and_r));
      no_moved = eqb-true (state_of w).moved 0 (search (and_l, and_r));
      no_copy = all-zeros 256 (drop 4 w) l (search (and_l, and_r));
    }

-- an idle state's words with another own offset
pub idle-own : (x : ℕ) (w : List ℕ) → length w ≡ 260 → Idle w → state_of (set w 1 x) ≡ idle_at (state_of w).n x
unfolding state_of
idle-own x w h i = own-set x w h ∙ rw (i.no_len, i.no_moved, i.no_copy)

-- the words after a receive's look, and after a move of a receive
pub header-set :
    (l h : ℕ) (w : List ℕ) → length w ≡ 260 → Idle w → l ≡ total_length h
    → state_of (set (set (set w 2 l) 3 1) 4 h) ≡ Receive.loaded (state_of w) h
unfolding state_of zeros
header-set l h = four _ (λ n own len moved copy e i t. let q : copy ≡ replicate 256 0 = i.no_copy in rw (q, t))

pub copy-set :
    (v : ℕ) (w : List ℕ) → length w ≡ 260
    → let k = (state_of w).moved in
    state_of (set (set w (4 + k) v) 3 (k + 1)) ≡ Receive.after_move (state_of w) v
unfolding state_of
copy-set v =
    four _ (λ n own len moved copy e. let z : 4 + moved ≡ suc (suc (suc (suc moved))) = omega arith in rw z)

-- the dword of the copy in its word
pub copy_at : (k : ℕ) (w : List ℕ) → get_or w (4 + k) 0 ≡ get_or (state_of w).copy k 0
unfolding state_of
copy_at k w = sym (get_or-drop 4 w k 0)

-- the state is judged by its numbers and the first words of its copy
pub words_sending :
    (n : ℕ) (w : List ℕ)
    → active_send n (counted (counts_of (state_of w)) (get_or w 4 0 ∷ get_or w 5 0 ∷ [])) ≡ active_send n (state_of w)
unfolding active_send
words_sending n w = rw (copy_at 0 w, copy_at 1 w)

pub words_receiving :
    (n : ℕ) (w : List ℕ)
    → active_receive n (counted (counts_of (state_of w)) (get_or w 4 0 ∷ [])) ≡ active_receive n (state_of w)
unfolding active_receive
words_receiving n w = rw (copy_at 0 w)

pub words_publish :
    (o d n : ℕ) (w : List ℕ)
    → Receive.publish_number_of (counted (counts_of (state_of w)) (get_or w 4 0 ∷ get_or w 5 0 ∷ [])) o d n
    ≡ Receive.publish_number_of (state_of w) o d n
unfolding Receive.publish_number_of active_receive
words_publish o d n w = rw (copy_at 0 w, copy_at 1 w)

-- numbers that were taken of a state that goes on: the place of its next dword, and the offset past its message
module _ (n : ℕ) (s : State) (c : Counts) (e : c ≡ counts_of s) (g : Going n s) where
  pub counts_place : past n c.own c.moved ≡ (s.own + s.moved) % n
  counts_place = rw e (going_place n s g)

  pub counts_past : past n c.own c.len ≡ (s.own + s.len) % n
  counts_past = rw e (going_past n s g)

-- a look that accepts, of a send and of a receive
pub send_looked :
    (s : State) (m d b : List ℕ)
    → Send.look_by 0 s m d b ≡ record { code = 0; len = 0; next = Send.loaded s m; desc = d; buf = b; out = [] }
unfolding Send.look_by marked
send_looked s m d b = refl

pub receive_looked :
    (s : State) (d b : List ℕ)
    → Receive.look_by 0 s d b
    ≡ record { code = 0; len = 0; next = Receive.loaded s (get_or b s.own 0); desc = d; buf = b; out = [] }
unfolding Receive.look_by marked
receive_looked s d b = refl

pub marked-none : (d : List ℕ) → marked 0 d ≡ d
unfolding marked
marked-none d = refl

-- a look that accepts, with the state in words
pub looked_send :
    (w m d b w' d' : List ℕ) (c : ℕ) → c ≡ Send.look_number (state_of w) m d b → c ≡ 0 → d' ≡ marked c d
    → state_of w' ≡ Send.loaded (state_of w) m
    → in_words c 0 w' d' b [] ≡ Send.look (state_of w) m d b
looked_send w m d b w' d' c e z f g =
    let f0 : d' ≡ d = f ∙ ap (λ k. marked k d) z ∙ marked-none d in
    rw (sym e, z, f0, g) (sym (send_looked (state_of w) m d b))

pub looked_receive :
    (w d b w' d' : List ℕ) (c : ℕ) → c ≡ Receive.look_number (state_of w) d b → c ≡ 0 → d' ≡ marked c d
    → state_of w' ≡ Receive.loaded (state_of w) (get_or b (state_of w).own 0)
    → in_words c 0 w' d' b [] ≡ Receive.look (state_of w) d b
looked_receive w d b w' d' c e z f g =
    let f0 : d' ≡ d = f ∙ ap (λ k. marked k d) z ∙ marked-none d in
    rw (sym e, z, f0, g) (sym (receive_looked (state_of w) d b))

-- a receive's publish that moves HEAD, with the state in words
module _
    (w o d b w' d' : List ℕ) (c : ℕ) (e : c ≡ Receive.publish_number (state_of w) o d b)
    (f : d' ≡ set d HEAD (past_message (state_of w) b)) (g : state_of w' ≡ idle_at (state_of w).n (past_message (state_of w) b))
  where
    pub passed_over : c ≡ 13 → in_words 13 0 w' d' b o ≡ Receive.publish (state_of w) o d b
    unfolding Receive.publish_by
    passed_over z = rw (sym e, z, f, g)

    pub handed_out :
        (l : ℕ) (o' : List ℕ) → c ≡ 0 → l ≡ (state_of w).len
        → o' ≡ take (state_of w).len (state_of w).copy ++ drop (state_of w).len o
        → in_words 0 l w' d' b o' ≡ Receive.publish (state_of w) o d b
    unfolding Receive.publish_by
    handed_out l o' z k q = rw (sym e, z, f, g, k, q)

-- words that are made for N
pub made : (x y : ℕ) (w : List ℕ) → length w ≡ 260 → state_of w ≡ idle_at y 0 → state_of (set w 0 x) ≡ idle_at x 0
made x y w h e = n-set x w h ∙ rw e
