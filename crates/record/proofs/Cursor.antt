-- A place between two messages of a file: what lies before it, and what the message there makes of it. Assumes nothing.
use Prim.Native.Nat.{ℕ, ◌+◌, ◌-◌, ◌≤◌, ◌<◌}
use mathlib.Core.Path.{◌≡◌, refl, sym, ap, ◌∙◌}
use mathlib.Core.Bool.{true, false, cond}
use mathlib.Core.List.{List, [], ◌∷◌}
use native.Mathlib.Omega.{arith}
use lib.ListN.{length, take, drop, length-drop, drop_of_length-le}
use lib.Seq.{drop-drop}
use lib.Dec.{ltb}
use borrow.Author.Tests.{eq-eqb, ne_eqb, lt-ltb, le-ltb, ltb-true, ltb-false}
use Rattle.message.proofs.Tests.{cases}
use Rattle.record.specs.Numbers.{number_of}
use Rattle.record.specs.Runs.{judged_by, judged, behind, cut}
use Rattle.record.specs.Files.{run_of, start_of, whole_of, took_of, intact, bad_of, fault_of}
use Rattle.record.specs.Private.{message_of, message_in}
use Rattle.record.proofs.Forms.{run-bad, number_nil, start_zero, start_add, start-within, start_least, run_drop}
use Rattle.record.proofs.Cuts.{judged_place, cut_nil, cut-whole, cut-torn}
use Rattle.record.proofs.Fronts.{behind-none, behind_both}
use Rattle.record.proofs.Bridge.{TornAt, WholeAt}

-- `at` is the byte behind w dwords of whole messages
pub record Cursor (f : List ℕ) (at w : ℕ) : Type 0 where
  pub there : w ≤ length (run_of f)
  pub start : at ≡ start_of f w
  pub cuts : cut (run_of f) ≡ behind w (cut (drop w (run_of f)))

-- an empty run, or one with a dword
by_length : {X : Type 0} (run : List ℕ) → (run ≡ [] → X) → (1 ≤ length run → X) → X
by_length [] f g = f refl
by_length (x ∷ xs) f g = g (omega arith)

module _ (f : List ℕ) where
  pub cursor_start : Cursor f 0 0
  cursor_start =
      record { there = omega arith; start = sym (start_zero f); cuts = sym (behind-none (cut (run_of f))) }

  module _ (at w : ℕ) (c : Cursor f at w) where
    abbrev rest : List ℕ
    rest = drop at f

    abbrev run : List ℕ
    run = drop w (run_of f)

    run_here : run_of rest ≡ run
    run_here = ap (λ k. run_of (drop k f)) c.start ∙ run_drop f w c.there

    start_here : (j : ℕ) → start_of f (w + j) ≡ at + start_of rest j
    start_here j = start_add f w j ∙ sym (ap (λ k. k + start_of (drop k f) j) c.start)

    length_here : length run ≡ length (run_of f) - w
    length_here = length-drop w (run_of f)

    pub cursor_within : at ≤ length f
    cursor_within = rw c.start (start-within f w)

    pub dwords-within : w ≤ length f
    dwords-within = omega (arith, start_least f w c.there, c.start, cursor_within)

    cut-dwords : whole_of f ≡ w + (cut run).dwords
    cut-dwords = ap (λ k. k.dwords) c.cuts

    cut-bad : (cut (run_of f)).bad ≡ w + (cut run).bad
    cut-bad = ap (λ k. k.bad) c.cuts

    cut-fault : (cut (run_of f)).fault ≡ (cut run).fault
    cut-fault = ap (λ k. k.fault) c.cuts

    pub whole_least : w ≤ whole_of f
    whole_least = omega (arith, cut-dwords)

    -- no whole message is here
    module _ (none : (cut run).dwords ≡ 0) where
      stop-whole : whole_of f ≡ w
      stop-whole = omega (arith, cut-dwords, none)

      stop_took : took_of f ≡ at
      stop_took = ap (start_of f) stop-whole ∙ sym c.start

    -- the file ends here
    module _ (end : length f ≤ at) where
      empty : run ≡ []
      empty = sym run_here ∙ (ap run_of (drop_of_length-le f {i = at} end) ∙ run-bad [] number_nil)

      no_more : (cut run).dwords ≡ 0
      no_more = ap (λ (k : List ℕ). (cut k).dwords) empty ∙ ap (λ k. k.dwords) cut_nil

      pub end_whole : whole_of f ≡ w
      end_whole = stop-whole no_more

      pub end_took : took_of f ≡ at
      end_took = stop_took no_more

      pub end-intact : intact f ≡ true
      end-intact = eq-eqb (took_of f) (length f) (omega (arith, end_took, end, cursor_within))

    -- the message here is torn
    module _ (here : at < length f) (t : TornAt (message_of rest) rest) where
      abbrev place : ℕ
      place = (judged run).place

      torn-run : (judged run).fault ≡ 0 → ⊥
      torn-run z = t.not_whole (ap (λ (k : List ℕ). (judged k).fault) run_here ∙ z)

      torn-cut : ((cut run).dwords ≡ 0) × ((cut run).bad ≡ place) × (place < length run → (cut run).fault ≡ (judged run).fault)
      unfolding judged_by
      torn-cut =
          by_length run
          (λ e.
          let k = ap cut e ∙ cut_nil in
          let l : length run ≡ 0 = ap length e in (
            ap (λ m. m.dwords) k,
            ap (λ m. m.bad) k ∙ sym (ap (λ (r : List ℕ). (judged r).place) e),
            λ h. absurd (omega (arith, h, l)),
          ))
          (λ l.
          let k = cut-torn run l torn-run in
          (ap (λ m. m.dwords) k, ap (λ m. m.bad) k, λ h. ap (λ m. m.fault) k))

      pub torn-whole : whole_of f ≡ w
      torn-whole = stop-whole torn-cut.0

      pub torn_took : took_of f ≡ at
      torn_took = stop_took torn-cut.0

      pub torn-intact : intact f ≡ false
      torn-intact = ne_eqb (took_of f) (length f) (λ e. omega (arith, torn_took, e, here))

      bad_place : (cut (run_of f)).bad ≡ w + place
      bad_place = cut-bad ∙ ap (λ k. w + k) torn-cut.1

      bad_here : (message_of rest).bad ≡ start_of rest place
      bad_here = t.bad ∙ ap (λ (k : List ℕ). start_of rest (judged k).place) run_here

      pub torn-bad : bad_of f ≡ at + (message_of rest).bad
      unfolding bad_of
      torn-bad = ap (start_of f) bad_place ∙ (start_here place ∙ ap (λ k. at + k) (sym bad_here))

      fault_here :
          (message_of rest).fault
          ≡ cond (ltb place (length run)) (judged run).fault (number_of (drop (start_of rest place) rest)).fault
      fault_here =
          t.fault
          ∙ ap
          (λ (k : List ℕ). cond (ltb (judged k).place (length k)) (judged k).fault
          (number_of (drop (start_of rest (judged k).place) rest)).fault)
          run_here

      pub torn-fault : fault_of f ≡ (message_of rest).fault
      unfolding fault_of
      torn-fault =
          cases (ltb place (length run))
          (λ e.
          let h = ltb-true place (length run) e in
          let in-run : ltb (cut (run_of f)).bad (length (run_of f)) ≡ true =
          lt-ltb (cut (run_of f)).bad (length (run_of f)) (omega (arith, bad_place, h, length_here)) in
          let m : (message_of rest).fault ≡ (judged run).fault = fault_here ∙ rw e in
          rw (in-run, m) (cut-fault ∙ torn-cut.2 h))
          (λ e.
          let h = ltb-false place (length run) e in
          let past : ltb (cut (run_of f)).bad (length (run_of f)) ≡ false =
          le-ltb (cut (run_of f)).bad (length (run_of f)) (omega (arith, bad_place, h, length_here, c.there)) in
          let same : drop (bad_of f) f ≡ drop (start_of rest place) rest =
          ap (λ k. drop k f) (torn-bad ∙ ap (λ k. at + k) bad_here) ∙ sym (drop-drop (start_of rest place) at f) in
          let m : (message_of rest).fault ≡ (number_of (drop (start_of rest place) rest)).fault = fault_here ∙ rw e in
          rw (past, m) (ap (λ (k : List ℕ). (number_of k).fault) same))

    -- the message here is whole
    module _ (m : WholeAt (message_of rest) (message_in rest) rest) where
      abbrev dwords : ℕ
      dwords = (message_of rest).dwords

      whole_run : (judged run).fault ≡ 0
      whole_run = ap (λ (k : List ℕ). (judged k).fault) (sym run_here) ∙ ap (λ k. k.fault) m.is_whole

      whole_place : (judged run).place ≡ dwords
      whole_place = ap (λ (k : List ℕ). (judged k).place) (sym run_here) ∙ ap (λ k. k.place) m.is_whole

      pub whole-size : (3 ≤ dwords) × (dwords ≤ length run) × (dwords ≤ 258)
      whole-size = let p = judged_place run whole_run in rw (← whole_place) p

      pub whole-dwords : message_in rest ≡ take dwords run
      whole-dwords = m.dwords ∙ ap (take dwords) run_here

      pub whole_cursor : Cursor f (at + (message_of rest).size) (w + dwords)
      whole_cursor =
          record {
            there = omega (arith, whole-size.1, length_here, c.there);
            start = ap (λ k. at + k) m.size ∙ sym (start_here dwords);
            cuts =
                c.cuts
                ∙ (ap (behind w) (cut-whole run whole_run)
                ∙ (ap (λ k. behind w (behind k (cut (drop k run)))) whole_place
                ∙ (behind_both w dwords (cut (drop dwords run))
                ∙ ap (λ (k : List ℕ). behind (w + dwords) (cut k)) (drop-drop dwords w (run_of f)))));
          }

      -- and takes a byte at least
      pub whole-bytes : 1 ≤ (message_of rest).size
      whole-bytes =
          let l = start_least rest dwords (rw run_here whole-size.1) in omega (arith, whole-size.0, l, m.size)
