-- Going through a run message by message, and what writing it answers. Assumes nothing.
use Prim.Native.Nat.{ℕ, ◌+◌, ◌-◌, ◌*◌, ◌≤◌, ◌<◌}
use mathlib.Core.Path.{◌≡◌, refl, sym, ap, ◌∙◌}
use mathlib.Core.List.{List, [], ◌++◌}
use native.Mathlib.Omega.{arith}
use lib.ListN.{length, take, drop, length-append, length-drop, drop_of_length-le}
use lib.Seq.{take-add, drop-drop, take-length, length-take-le}
use borrow.Author.Tests.{eq-eqb, ne_eqb, lt-ltb, le-ltb}
use Rattle.std.specs.Prelude.{Err}
use Rattle.record.specs.Faults.{figure}
use Rattle.record.specs.Numbers.{bytes_of_run}
use Rattle.record.specs.declared.fault.Fault.{Fault}
use Rattle.record.specs.declared.writing.WriteError.TheVariants.{BadRecord, ShortRoom}
use Rattle.record.specs.Runs.{judged, wrong, whole, behind, cut}
use Rattle.record.specs.Calls.{at_front, write_number, write_answer, write_leaves}
use Rattle.record.specs.Private.{PutTo}
use Rattle.record.specs.Calls.{Written}
use Rattle.record.proofs.Figures.{figure-not-0}
use Rattle.record.proofs.Sizes.{bytes-append, run-bytes, front_bytes}
use Rattle.message.proofs.Slices.{to_end}
use Rattle.record.proofs.Judged.{whole_sizes}
use Rattle.record.proofs.Cuts.{cut_nil, cut-whole, cut-torn, cut_all}
use Rattle.record.proofs.Fronts.{behind-none, behind_both}

-- the dwords in front of a place are whole messages, and the cut goes on there
abbrev pub Gone : List ℕ → ℕ → Type 0
Gone run at = cut run ≡ behind at (cut (drop at run))

-- so it is at the run's start
pub gone_none : (run : List ℕ) → Gone run 0
gone_none run = sym (behind-none (cut run))

module _ (run : List ℕ) (at : ℕ) (g : Gone run at) where
  -- .. the place is not behind the whole messages
  pub gone_within : at ≤ (cut run).dwords
  gone_within = rw g (omega arith)

  -- .. nothing is wrong at the run's end
  pub gone_all : at ≡ length run → ((cut run).fault ≡ 0) × ((cut run).dwords ≡ at)
  gone_all e =
      let z : drop at run ≡ [] = drop_of_length-le run {i = at} (omega arith) in
      let c : cut run ≡ behind at (cut []) = rw z at g in
      let d : (cut run).dwords ≡ at + 0 = rw (c, cut_nil) in
      (rw (c, cut_nil), omega arith)

  -- .. a message that is not whole ends it
  pub gone_torn :
      at < length run → ((judged (drop at run)).fault ≡ 0 → ⊥)
      → ((cut run).fault ≡ (judged (drop at run)).fault) × ((cut run).dwords ≡ at)
  gone_torn l h =
      let n : 1 ≤ length (drop at run) = simp length-drop (omega arith) in
      let t = cut-torn (drop at run) n h in
      let d : (cut run).dwords ≡ at + 0 = rw (g, t) in
      (rw (g, t), omega arith)

  -- .. and one that is takes it on
  module _ (h : (judged (drop at run)).fault ≡ 0) where
    pub gone_more : Gone run (at + (judged (drop at run)).place)
    gone_more =
        let n = (judged (drop at run)).place in
        g
        ∙ (ap (behind at) (cut-whole (drop at run) h)
        ∙ (behind_both at n (cut (drop n (drop at run)))
        ∙ ap (λ (r : List ℕ). behind (at + n) (cut r)) (drop-drop n at run)))

-- the message that was judged at a place, from the part of the run that starts there
module _ (run : List ℕ) (at : ℕ) where
  abbrev part : List ℕ
  part = take (length run - at) (drop at run)

  -- a whole one of n dwords
  module _ (n : ℕ) (e : whole n ≡ judged part) where
    here : whole n ≡ judged (drop at run)
    here = e ∙ ap (λ (r : List ℕ). judged r) (to_end at run)

    pub step_sizes : at ≤ length run → (3 ≤ n) × (at + n ≤ length run) × (n ≤ 258)
    step_sizes l = let p = whole_sizes (drop at run) n here in omega (arith, p, length-drop at run)

    pub step_gone : Gone run at → Gone run (at + n)
    step_gone g = rw (ap (λ j. j.place) here) (gone_more run at g (sym (ap (λ j. j.fault) here)))

    -- .. so that the whole messages go on behind the place
    pub step_further : at ≤ length run → Gone run at → at < (cut run).dwords
    step_further l g = omega (arith, step_sizes l, gone_within run (at + n) (step_gone g))

  -- one that is not
  pub step_torn :
      (f : Fault) (p : ℕ) → wrong (figure f) p ≡ judged part → Gone run at → at < length run
      → ((cut run).fault ≡ figure f) × ((cut run).dwords ≡ at)
  step_torn f p e g l =
      let here : figure f ≡ (judged (drop at run)).fault =
      ap (λ j. j.fault) (e ∙ ap (λ (r : List ℕ). judged r) (to_end at run)) in
      let t = gone_torn run at g l (λ z. figure-not-0 f (here ∙ z)) in
      (t.0 ∙ sym here, t.1)

-- the bytes of n dwords more
pub bytes_next :
    (run : List ℕ) (at n : ℕ)
    → bytes_of_run (take (at + n) run) ≡ bytes_of_run (take at run) ++ bytes_of_run (take n (drop at run))
bytes_next run at n = ap bytes_of_run (take-add at n run) ∙ bytes-append (take at run) (take n (drop at run))

pub size-next :
    (run : List ℕ) (at n : ℕ)
    → length (bytes_of_run (take (at + n) run))
    ≡ length (bytes_of_run (take at run)) + length (bytes_of_run (take n (drop at run)))
size-next run at n =
    ap length (bytes_next run at n) ∙ length-append (bytes_of_run (take at run)) (bytes_of_run (take n (drop at run)))

-- .. are no more than the run's
pub room_next :
    (run : List ℕ) (at n : ℕ)
    → length (bytes_of_run (take at run)) + length (bytes_of_run (take n (drop at run))) ≤ length (bytes_of_run run)
room_next run at n = rw (← size-next run at n) (front_bytes run (at + n))

-- .. and five bytes each at most
pub part_bytes : (run : List ℕ) (n : ℕ) → n ≤ length run → length (bytes_of_run (take n run)) ≤ 5 * n
part_bytes run n h = omega (arith, run-bytes (take n run), length-take-le n run h)

-- the whole messages of a run in which nothing is wrong are all of it
pub all-taken : (run : List ℕ) (n : ℕ) → (cut run).fault ≡ 0 → n ≡ (cut run).dwords → take n run ≡ run
all-taken run n f e = ap (λ k. take k run) (e ∙ cut_all run f) ∙ take-length run

-- ---- written so far

-- the bytes of the dwords in front of a place, where the messages are whole
module _ (run out out₀ : List ℕ) (at filled : ℕ) (g : Gone run at) (n : filled ≡ length (bytes_of_run (take at run))) where
  module _ (o : out ≡ bytes_of_run (take at run) ++ drop filled out₀) where
    so_far : out ≡ at_front (bytes_of_run (take at run)) out₀
    so_far = o ∙ ap (λ k. bytes_of_run (take at run) ++ drop k out₀) n

    -- .. behind which a message is not whole
    pub put_torn :
        (f : Fault) → figure f ≡ (cut run).fault → PutTo (Err (BadRecord f at filled)) out out₀ run
    put_torn f e =
        record {
          dwords = at;
          whole = gone_within run at g;
          size = n;
          front = so_far;
          gone = λ z. absurd (omega arith);
          short = λ z. absurd (omega arith);
          bad = λ z. (e, refl);
          all = λ z room. absurd (figure-not-0 f (e ∙ z));
        }

    -- .. or, whole, has no room
    pub put_full :
        at < (cut run).dwords → (length (bytes_of_run run) ≤ length out₀ → ⊥) → PutTo (Err (ShortRoom filled)) out out₀ run
    put_full l h =
        record {
          dwords = at;
          whole = gone_within run at g;
          size = n;
          front = so_far;
          gone = λ z. absurd (omega arith);
          short = λ z. l;
          bad = λ z. absurd (omega arith);
          all = λ z room. absurd (h room);
        }

-- ---- the call

module _ (run out : List ℕ) where
  -- a bad run
  pub write_bad :
      ((cut run).fault ≡ 0 → ⊥)
      → (◌≡◌ {A = Written} (record { code = 29; fault = (cut run).fault; at = (cut run).dwords; written = 0 })
      (write_answer run (length out)))
      × (out ≡ write_leaves run out)
  unfolding write_answer write_leaves write_number
  write_bad h = let n = ne_eqb (cut run).fault 0 h in (rw n, rw n)

  module _ (f : (cut run).fault ≡ 0) where
    -- a good one with too little room
    pub write_full :
        length out < length (bytes_of_run run)
        → (◌≡◌ {A = Written} (record { code = 30; fault = 0; at = 0; written = 0 }) (write_answer run (length out)))
        × (out ≡ write_leaves run out)
    unfolding write_answer write_leaves write_number
    write_full l =
        let n = eq-eqb (cut run).fault 0 f in
        let k = lt-ltb (length out) (length (bytes_of_run run)) l in
        (rw (n, k), rw (n, k))

    -- .. and with enough
    pub write_done :
        length (bytes_of_run run) ≤ length out
        → (◌≡◌ {A = Written} (record { code = 0; fault = 0; at = 0; written = length (bytes_of_run run) })
        (write_answer run (length out)))
        × (at_front (bytes_of_run run) out ≡ write_leaves run out)
    unfolding write_answer write_leaves write_number
    write_done l =
        let n = eq-eqb (cut run).fault 0 f in
        let k = le-ltb (length out) (length (bytes_of_run run)) l in
        (rw (n, k), rw (n, k))
