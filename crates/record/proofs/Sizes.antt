-- How many bytes numbers take, and what writing one has after a turn. Assumes nothing.
use Prim.Native.Nat.{ℕ, zero, suc, ◌+◌, ◌*◌, ◌/◌, ◌%◌, ◌^◌, ◌≤◌, ◌<◌}
use mathlib.Core.Path.{◌≡◌, refl, sym, ap, ◌∙◌}
use mathlib.Core.List.{List, [], ◌∷◌, ◌++◌, append_assoc, append-nil, flat_map}
use native.Mathlib.Numerals.{add-one}
use native.Mathlib.Omega.{arith}
use mir.Val.{bool_byte}
use lib.ListN.{length, get_or, take, drop, length-append, take-append-drop}
use lib.Seq.{take-suc}
use lib.Dec.{leb, ltb}
use borrow.Author.Tests.{lt-ltb, le-ltb, lt-leb, leb-true, leb-false}
use Rattle.message.proofs.Tests.{cases}
use Rattle.record.specs.Numbers.{groups, bytes_of, bytes_of_run}

-- the bytes of a number by its size
pub groups-end : (k n : ℕ) → n < 128 → groups k n ≡ n ∷ []
unfolding groups
groups-end zero n h = refl
groups-end (suc k) n h = rw (lt-ltb n 128 h)

pub groups_more : (k n : ℕ) → 128 ≤ n → groups (suc k) n ≡ (n % 128 + 128) ∷ groups k (n / 128)
unfolding groups
groups_more k n h = rw (le-ltb n 128 h)

-- a number has a byte, and one more for each seven bits behind the first
pub size_of :
    (n : ℕ) → n < 2 ^ 32
    → 1 + bool_byte (leb 128 n) + bool_byte (leb 16384 n) + bool_byte (leb 2097152 n) + bool_byte (leb 268435456 n)
    ≡ length (bytes_of n)
unfolding bytes_of
size_of n h =
    cases (leb 128 n)
    (λ a.
    let a' : 128 ≤ n = leb-true 128 n a in
    cases (leb 16384 n)
    (λ b.
    let b' : 16384 ≤ n = leb-true 16384 n b in
    cases (leb 2097152 n)
    (λ c.
    let c' : 2097152 ≤ n = leb-true 2097152 n c in
    cases (leb 268435456 n)
    (λ d.
    let d' : 268435456 ≤ n = leb-true 268435456 n d in
    rw (
      a,
      b,
      c,
      d,
      groups_more 3 n a',
      groups_more 2 (n / 128) (omega arith),
      groups_more 1 (n / 128 / 128) (omega arith),
      groups_more 0 (n / 128 / 128 / 128) (omega arith),
      groups-end 0 (n / 128 / 128 / 128 / 128) (omega arith),
    ))
    (λ d.
    let d' : n < 268435456 = leb-false 268435456 n d in
    rw (
      a,
      b,
      c,
      d,
      groups_more 3 n a',
      groups_more 2 (n / 128) (omega arith),
      groups_more 1 (n / 128 / 128) (omega arith),
      groups-end 1 (n / 128 / 128 / 128) (omega arith),
    )))
    (λ c.
    let c' : n < 2097152 = leb-false 2097152 n c in
    rw (
      a,
      b,
      c,
      lt-leb 268435456 n (omega arith),
      groups_more 3 n a',
      groups_more 2 (n / 128) (omega arith),
      groups-end 2 (n / 128 / 128) (omega arith),
    )))
    (λ b.
    let b' : n < 16384 = leb-false 16384 n b in
    rw (
      a,
      b,
      lt-leb 2097152 n (omega arith),
      lt-leb 268435456 n (omega arith),
      groups_more 3 n a',
      groups-end 3 (n / 128) (omega arith),
    )))
    (λ a.
    let a' : n < 128 = leb-false 128 n a in
    rw
    (a, lt-leb 16384 n (omega arith), lt-leb 2097152 n (omega arith), lt-leb 268435456 n (omega arith), groups-end 4 n a'))

-- a group at least
pub groups-size : (k n : ℕ) → (1 ≤ length (groups k n)) × (length (groups k n) ≤ suc k)
unfolding groups
groups-size zero n = (omega arith, omega arith)
groups-size (suc k) n =
    let r = groups-size k (n / 128) in
    cases (ltb n 128) (λ e. rw e (omega arith, omega arith)) (λ e. rw e (omega arith, omega (arith, r.1)))

-- five at most
pub number-bytes : (n : ℕ) → (1 ≤ length (bytes_of n)) × (length (bytes_of n) ≤ 5)
unfolding bytes_of
number-bytes n = groups-size 4 n

-- ---- a run, dword by dword

pub bytes-append : (xs ys : List ℕ) → bytes_of_run (xs ++ ys) ≡ bytes_of_run xs ++ bytes_of_run ys
unfolding flat_map
bytes-append [] ys = refl
bytes-append (x ∷ xs) ys =
    ap (λ (r : List ℕ). bytes_of x ++ r) (bytes-append xs ys) ∙ sym (append_assoc (bytes_of x) (bytes_of_run xs) (bytes_of_run ys))

pub bytes_one : (x : ℕ) → bytes_of_run (x ∷ []) ≡ bytes_of x
unfolding flat_map
bytes_one x = append-nil (bytes_of x)

-- one dword more
pub bytes_more :
    (run : List ℕ) (i : ℕ) → i < length run
    → bytes_of_run (take (i + 1) run) ≡ bytes_of_run (take i run) ++ bytes_of (get_or run i 0)
bytes_more run i h =
    rw (add-one, take-suc run i 0 h) (bytes-append (take i run) (get_or run i 0 ∷ []) ∙ ap (λ (r : List ℕ). bytes_of_run (take i run) ++ r) (bytes_one (get_or run i 0)))

-- five bytes a dword at most
pub run-bytes : (run : List ℕ) → length (bytes_of_run run) ≤ 5 * length run
unfolding flat_map
run-bytes [] = omega arith
run-bytes (x ∷ xs) = rw (length-append (bytes_of x) (bytes_of_run xs)) (omega (arith, (number-bytes x).1, run-bytes xs))

-- the bytes of the front of a run are the front of its bytes
pub front_bytes : (run : List ℕ) (i : ℕ) → length (bytes_of_run (take i run)) ≤ length (bytes_of_run run)
front_bytes run i =
    let e : bytes_of_run run ≡ bytes_of_run (take i run) ++ bytes_of_run (drop i run) =
    ap bytes_of_run (sym (take-append-drop i run)) ∙ bytes-append (take i run) (drop i run) in
    rw e (rw (length-append (bytes_of_run (take i run)) (bytes_of_run (drop i run))) (omega arith))

-- so there is room for the next dword
pub room_for_next :
    (run : List ℕ) (i : ℕ) → i < length run
    → length (bytes_of_run (take i run)) + length (bytes_of (get_or run i 0)) ≤ length (bytes_of_run run)
room_for_next run i h =
    let e : length (bytes_of_run (take (i + 1) run)) ≡ length (bytes_of_run (take i run)) + length (bytes_of (get_or run i 0)) =
    ap length (bytes_more run i h) ∙ length-append (bytes_of_run (take i run)) (bytes_of (get_or run i 0)) in
    omega (arith, e, front_bytes run (i + 1))
