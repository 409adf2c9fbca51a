-- Straight runs of a buffer. Document 02, T-07: 'the whole send must copy in at most two straight runs, with no
-- remainder or wrap test inside a run'. `Buffer` says where dwords lie, one by one around the end; here is how they are
-- copied, and that it comes to the same. That code copies so is to be seen in the code: behind the judged dwords a run
-- is one copy of a slice (`copy_run`), which knows neither the buffer's length nor a place.
use Rattle.std.specs.Prelude.{ℕ, ◌+◌, ◌-◌, ◌%◌, ◌≤◌, ◌<◌, min, ◌≡◌, List, [], ◌∷◌, ◌++◌, length, take, drop}
use Rattle.runs.specs.Buffer.{window, stored}

-- the runs of k dwords from place i on, in a buffer of n: so many from i on, to the end of the buffer at most ..
unfoldable pub first_count : ℕ → ℕ → ℕ → ℕ
first_count n i k = min k (n - i)

-- .. and the others from dword 0 on
unfoldable pub second_count : ℕ → ℕ → ℕ → ℕ
second_count n i k = k - first_count n i k

-- a straight run, read from places that the buffer has: k dwords from place i on
unfoldable pub run_of : List ℕ → ℕ → ℕ → List ℕ
run_of b i k = take k (drop i b)

-- a straight run, stored in places that the buffer has: dwords from place i on, all others as they were
unfoldable pub with_run : List ℕ → ℕ → List ℕ → List ℕ
with_run b i xs = take i b ++ (xs ++ drop (i + length xs) b)

-- dwords that fit the buffer stored from place i on: the first run, then the second
unfoldable pub stored_runs : List ℕ → ℕ → List ℕ → List ℕ
stored_runs b i xs = let f = first_count (length b) i (length xs) in with_run (with_run b i (take f xs)) 0 (drop f xs)

-- k dwords, no more than the buffer has, read from place i on: the first run, then the second
unfoldable pub read_runs : List ℕ → ℕ → ℕ → List ℕ
read_runs b i k = run_of b i (first_count (length b) i k) ++ run_of b 0 (second_count (length b) i k)

-- T-07, as far as it can be said of lists: of dwords that fit a buffer, from a place of it on
pub record TwoRuns : Type 0 where
  -- no place of a run needs a remainder: a dword of the first run lies so many places from i on, one of the second so
  -- many from 0 on
  pub first-places : (n i k j : ℕ) → i < n → j < first_count n i k → (i + j) % n ≡ i + j
  pub second-places : (n i k j : ℕ) → i < n → k ≤ n → j < second_count n i k → (i + (first_count n i k + j)) % n ≡ j
  -- dwords that end by the end of the buffer are one run, since a run of no dwords is none; of others the first run
  -- goes to the end
  pub one : (n i k : ℕ) → i + k ≤ n → second_count n i k ≡ 0
  pub none : (b : List ℕ) → with_run b 0 [] ≡ b
  pub two : (n i k : ℕ) → i < n → k ≤ n → n < i + k → i + first_count n i k ≡ n
  -- stored or read in runs, dwords come to what they are one by one: 'Its promise, its callers and single steps stay.'
  pub stored_in_runs :
      (b : List ℕ) (i : ℕ) (xs : List ℕ) → i < length b → length xs ≤ length b
      → stored b (length b) i xs ≡ stored_runs b i xs
  pub read_in_runs : (b : List ℕ) (i k : ℕ) → i < length b → k ≤ length b → window b (length b) i k ≡ read_runs b i k
  -- the two judged dwords of a message, which are stored by value, are the first places of its runs and make no run
  -- more: both of the first run, with those others behind them that lie before the end ..
  pub judged_together :
      (b : List ℕ) (i h w : ℕ) (r : List ℕ) → i + 2 ≤ length b → 2 + length r ≤ length b
      → let f = first_count (length b) (i + 2) (length r) in
      stored_runs b i (h ∷ w ∷ r) ≡ with_run (with_run b i (h ∷ w ∷ take f r)) 0 (drop f r)
  -- .. or, where the end of the buffer falls between them, one is the whole first run, and the other the first place of
  -- the second
  pub judged-apart :
      (b : List ℕ) (i h w : ℕ) (r : List ℕ) → i + 1 ≡ length b → 2 + length r ≤ length b
      → stored_runs b i (h ∷ w ∷ r) ≡ with_run (with_run b i (h ∷ [])) 0 (w ∷ r)
  -- a receive has read these two to judge them, and reads the others in the runs of their own place (from dword 1 on,
  -- where the end falls between the two)
  pub others_read :
      (b : List ℕ) (i k : ℕ) → i < length b → 2 ≤ k → k ≤ length b
      → window b (length b) (i + 2) (k - 2) ≡ read_runs b ((i + 2) % length b) (k - 2)
