-- The front of a run beside the run: which messages both start with. Assumes nothing.
use Prim.Native.Nat.{ℕ, zero, suc, ◌+◌, ◌-◌, ◌≤◌, ◌<◌, min}
use mathlib.Core.Path.{◌≡◌, sym, ap, ◌∙◌}
use mathlib.Core.Bool.{true}
use mathlib.Core.List.{List, [], ◌∷◌, ◌++◌}
use native.Mathlib.Nat.{sub-zero, suc-sub-suc, zero-add, add_assoc}
use native.Mathlib.Omega.{arith}
use borrow.Author.Tests.{eq-eqb, le-leb, lt-leb, lt-ltb, le-ltb, leb-true, leb-false}
use lib.ListN.{length, get_or, take, drop, length-take, length-drop}
use lib.Seq.{drop-drop, take-nil, get_or-take, length-take-le, take-append_seam, drop-append_seam}
use lib.Dec.{leb}
use Rattle.message.specs.Header.{total_length}
use Rattle.message.proofs.Tests.{and_i, cases}
use Rattle.record.specs.Runs.{is_length, judged_by, judged, whole, Cut, behind, cut}
use Rattle.record.proofs.Cuts.{Whole, judged-whole, judged_nil, split_run, by_messages}
use Rattle.record.proofs.Cuts.{cut_nil, cut-whole, cut-torn, cut_all}

-- what is behind n of the first k
pub drop-take : (n k : ℕ) (xs : List ℕ) → drop n (take k xs) ≡ take (k - n) (drop n xs)
drop-take zero k xs = rw sub-zero
drop-take (suc n) k [] = rw (take-nil k) (sym (take-nil (k - suc n)))
drop-take (suc n) zero (x ∷ xs) = let e : 0 - suc n ≡ 0 = omega arith in rw e
drop-take (suc n) (suc k) (x ∷ xs) = rw suc-sub-suc (drop-take n k xs)

module _ (count other direction l header : ℕ) (w : Whole count direction l header) where
  is_length_fact : is_length l ≡ true
  unfolding is_length
  is_length_fact = and_i (leb 1 l) (leb l 256) (le-leb 1 l w.least) (le-leb l 256 w.most)

  -- a message that is whole is so also with another count, which has it ..
  agree-whole : 2 + l ≤ other → judged_by other direction l header ≡ whole (2 + l)
  unfolding judged_by
  agree-whole h =
      let g = w.least in
      rw (
        le-ltb 1 direction w.direction_in,
        lt-leb other 1 (omega arith),
        is_length_fact,
        lt-leb other 2 (omega arith),
        eq-eqb (total_length header) l w.agrees,
        le-ltb other (2 + l) h,
      )

  -- .. and ends early with one that does not
  agree-short : 3 ≤ other → other < 2 + l → (judged_by other direction l header).place ≡ other
  unfolding judged_by
  agree-short g h =
      rw (
        le-ltb 1 direction w.direction_in,
        lt-leb other 1 (omega arith),
        is_length_fact,
        lt-leb other 2 (omega arith),
        eq-eqb (total_length header) l w.agrees,
        lt-ltb other (2 + l) h,
      )

  agree-one : (x y : ℕ) → (judged_by 1 direction x y).place ≡ 1
  unfolding judged_by
  agree-one x y = rw (le-ltb 1 direction w.direction_in)

  agree-two : (y : ℕ) → (judged_by 2 direction l y).place ≡ 2
  unfolding judged_by
  agree-two y = rw (le-ltb 1 direction w.direction_in, is_length_fact)

module _ (n : ℕ) (run : List ℕ) where
  at_front : (i : ℕ) → i < n → get_or (take n run) i 0 ≡ get_or run i 0
  at_front i h = get_or-take n run i 0 h

  -- judged by the numbers of the run
  front-judged :
      3 ≤ n → judged (take n run) ≡ judged_by (length (take n run)) (get_or run 0 0) (get_or run 1 0) (get_or run 2 0)
  front-judged h = rw (at_front 0 (omega arith), at_front 1 (omega arith), at_front 2 (omega arith))

  -- a message that is whole in a front of the run is so in the run ..
  pub judged-take : (judged (take n run)).fault ≡ 0 → judged run ≡ judged (take n run)
  judged-take h =
      let c = length (take n run) in
      let m : c ≡ min n (length run) = length-take n run in
      let l : 3 ≤ n = omega (arith, (judged-whole (take n run) h).there) in
      let v = judged-whole (take n run) h in
      let w : Whole c (get_or run 0 0) (get_or run 1 0) (get_or run 2 0) =
      rw (at_front 0 (omega arith), at_front 1 (omega arith), at_front 2 (omega arith)) at v in
      let g = w.long in
      agree-whole c (length run) (get_or run 0 0) (get_or run 1 0) (get_or run 2 0) w (omega arith)
      ∙ sym (front-judged l ∙ agree-whole c c (get_or run 0 0) (get_or run 1 0) (get_or run 2 0) w g)

  -- .. and the other way, where the front has it
  pub judged-front : (judged run).fault ≡ 0 → (judged run).place ≤ n → judged (take n run) ≡ judged run
  judged-front h p =
      let c = length run in
      let m : length (take n run) ≡ min n (length run) = length-take n run in
      let w = judged-whole run h in
      let q = w.place in
      let g = w.long in
      let l : 3 ≤ n = omega (arith, w.least) in
      front-judged l ∙ agree-whole c (length (take n run)) (get_or run 0 0) (get_or run 1 0) (get_or run 2 0) w (omega arith)
      ∙ sym (agree-whole c c (get_or run 0 0) (get_or run 1 0) (get_or run 2 0) w g)

-- a front without the end of the first message: what is wrong is at the end of it
pub judged-short :
    (n : ℕ) (run : List ℕ) → (judged run).fault ≡ 0 → 1 ≤ n → n < (judged run).place → (judged (take n run)).place ≡ n
judged-short zero run h l p = absurd (omega arith)
judged-short (suc zero) [] h l p = absurd (judged_nil h)
judged-short (suc zero) (x ∷ xs) h l p =
    agree-one (length (x ∷ xs)) 1 x (get_or xs 0 0) (get_or xs 1 0) (judged-whole (x ∷ xs) h) 0 0
judged-short (suc (suc zero)) [] h l p = absurd (judged_nil h)
judged-short (suc (suc zero)) (x ∷ []) h l p = absurd (omega (arith, (judged-whole (x ∷ []) h).there))
judged-short (suc (suc zero)) (x ∷ y ∷ xs) h l p =
    agree-two (length (x ∷ y ∷ xs)) 2 x y (get_or xs 0 0) (judged-whole (x ∷ y ∷ xs) h) 0
judged-short (suc (suc (suc n))) run h l p =
    let k = suc (suc (suc n)) in
    let w = judged-whole run h in
    let m : length (take k run) ≡ k = length-take-le k run (omega (arith, w.long, w.place)) in
    let j = agree-short (length run) k (get_or run 0 0) (get_or run 1 0) (get_or run 2 0) w in
    let q = w.place in
    rw (front-judged k run (omega arith), m) (j (omega arith) (omega arith))

-- with nothing in front
pub behind-none : (c : Cut) → behind 0 c ≡ c
behind-none c = rw (zero-add c.dwords, zero-add c.bad)

-- a part in front of another
pub behind_both : (j k : ℕ) (c : Cut) → behind j (behind k c) ≡ behind (j + k) c
behind_both j k c = rw (add_assoc j k c.dwords, add_assoc j k c.bad)

-- a front that starts with no whole message has none
pub cut-none : (run : List ℕ) → ((judged run).fault ≡ 0 → ⊥) → (cut run).dwords ≡ 0
cut-none [] h = rw cut_nil
cut-none (x ∷ xs) h = rw (cut-torn (x ∷ xs) (omega arith) h)

-- a front that has the first message, cut behind it
pub front-whole :
    (n : ℕ) (run : List ℕ) → judged (take n run) ≡ judged run → (judged run).fault ≡ 0
    → cut (take n run) ≡ behind (judged run).place (cut (take (n - (judged run).place) (drop (judged run).place run)))
front-whole n run s h =
    let p = (judged run).place in
    let g : (judged (take n run)).fault ≡ 0 = rw s h in
    let c : cut (take n run) ≡ behind p (cut (drop p (take n run))) = rw s at (cut-whole (take n run) g) in
    rw drop-take at c

-- a run behind the whole messages of a front
abbrev After : List ℕ → ℕ → Type 0
After run d = cut run ≡ behind d (cut (drop d run))

after_none : (run : List ℕ) (n : ℕ) → ((judged (take n run)).fault ≡ 0 → ⊥) → After run (cut (take n run)).dwords
after_none run n h = rw (cut-none (take n run) h) (sym (behind-none (cut run)))

after_more :
    (run : List ℕ) (d : ℕ) → (judged run).fault ≡ 0 → After (drop (judged run).place run) d
    → After run ((judged run).place + d)
after_more run d h i =
    let p = (judged run).place in
    cut-whole run h ∙ ap (behind p) i ∙ behind_both p d (cut (drop d (drop p run)))
    ∙ ap (λ (l : List ℕ). behind (p + d) (cut l)) (drop-drop d p run)

pub cut-after :
    (run : List ℕ) (n : ℕ) → cut run ≡ behind (cut (take n run)).dwords (cut (drop (cut (take n run)).dwords run))
cut-after =
    by_messages (λ (run : List ℕ). (n : ℕ) → After run (cut (take n run)).dwords)
    (λ n. after_none [] n (λ h. judged_nil (rw take-nil at h)))
    (λ run l h n. after_none run n (λ e. h (rw (judged-take n run e) e)))
    (λ run h i n.
    split_run (take n run)
    (λ e.
    let p = (judged run).place in
    let c = front-whole n run (sym (judged-take n run e)) h in
    let t = after_more run (cut (take (n - p) (drop p run))).dwords h (i (n - p)) in
    rw c t)
    (λ e. after_none run n e))

-- the whole messages of a run are a whole run
pub cut-front : (run : List ℕ) → (cut (take (cut run).dwords run)).fault ≡ 0
cut-front =
    by_messages (λ (run : List ℕ). (cut (take (cut run).dwords run)).fault ≡ 0)
    (rw (take-nil, cut_nil))
    (λ run l h. rw (cut-torn run l h, cut_nil))
    (λ run h i.
    let p = (judged run).place in
    let d = (cut (drop p run)).dwords in
    let c = front-whole (p + d) run (judged-front (p + d) run h (omega arith)) h in
    let e : p + d - p ≡ d = omega arith in
    let f : (cut (take (p + d) run)).fault ≡ 0 = rw (c, e) i in
    rw (cut-whole run h) f)

-- what is wrong with a front of a whole run is at its end
pub cut_short : (run : List ℕ) (n : ℕ) → (cut run).fault ≡ 0 → n ≤ length run → (cut (take n run)).bad ≡ n
cut_short =
    by_messages (λ (run : List ℕ). (n : ℕ) → (cut run).fault ≡ 0 → n ≤ length run → (cut (take n run)).bad ≡ n)
    (λ n f l. rw (take-nil, cut_nil) (omega arith))
    (λ run l h n f k. absurd (h (rw (cut-torn run l h) at f)))
    (λ run h i n f l.
    let p = (judged run).place in
    let w : (cut (drop p run)).fault ≡ 0 = rw (cut-whole run h) at f in
    let d : length (drop p run) ≡ length run - p = length-drop p run in
    cases (leb p n)
    (λ e.
    let g = leb-true p n e in
    let c = front-whole n run (judged-front n run h g) h in
    let j = i (n - p) w (omega arith) in
    rw c (omega arith))
    (λ e. early run n h (leb-false p n e) l))
  where
    early :
        (run : List ℕ) (n : ℕ) → (judged run).fault ≡ 0 → n < (judged run).place → n ≤ length run
        → (cut (take n run)).bad ≡ n
    early run zero h g l = rw cut_nil
    early run (suc n) h g l =
        let m : length (take (suc n) run) ≡ suc n = length-take-le (suc n) run l in
        let s = judged-short (suc n) run h (omega arith) g in
        let b : (judged (take (suc n) run)).fault ≡ 0 → ⊥ =
        λ e. omega (arith, ap (λ j. j.place) (judged-take (suc n) run e)) in
        rw (cut-torn (take (suc n) run) (omega arith) b) s

-- a whole run in front of another
pub cut-append : (xs ys : List ℕ) → (cut xs).fault ≡ 0 → cut (xs ++ ys) ≡ behind (length xs) (cut ys)
cut-append xs ys h =
    let t : take (length xs) (xs ++ ys) ≡ xs = take-append_seam xs ys in
    let a : cut (xs ++ ys) ≡ behind (cut xs).dwords (cut (drop (cut xs).dwords (xs ++ ys))) =
    rw t at (cut-after (xs ++ ys) (length xs)) in
    let b : cut (xs ++ ys) ≡ behind (length xs) (cut (drop (length xs) (xs ++ ys))) = rw (cut_all xs h) at a in
    rw (drop-append_seam xs ys) at b
