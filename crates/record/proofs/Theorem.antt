-- The statements about a record, put together; among them a written file that is cut anywhere. Assumes nothing.
use Prim.Native.Nat.{ℕ, ◌+◌, ◌≤◌}
use mathlib.Core.Path.{◌≡◌, sym, ap, ◌∙◌}
use mathlib.Core.Bool.{true, false}
use mathlib.Core.List.{List, ◌++◌, append-nil, flatten}
use native.Mathlib.Omega.{arith}
use borrow.Author.Tests.{eq-eqb, ne_eqb, le-ltb}
use lib.ListN.{length, take, drop, take-append-drop}
use lib.Seq.{take-take, take-length, length-take-le, drop-append_seam}
use lib.Dec.{eqb, ltb}
use Rattle.record.specs.Numbers.{bytes_of_run, number_of}
use Rattle.record.specs.Runs.{cut}
use Rattle.record.specs.Files.{run_of, start_of, whole_of, took_of, messages_of, bad_of, fault_of}
use Rattle.record.specs.Calls.{at_front, read_answer, read_leaves}
use Rattle.record.specs.MailedHome.{Bytes, Dwords, entries, before, numbers_before, cut_answer, MailedHome}
use Rattle.record.proofs.Forms.{run-bad, start_add}
use Rattle.record.proofs.Cuts.{cut-within}
use Rattle.record.proofs.Shortest.{number_there, number_back, five_each}
use Rattle.record.proofs.Fronts.{cut_short, cut-front, cut-append}
use Rattle.record.proofs.BothWays.{run-append, start-append, bytes_back, by_read}
use Rattle.record.proofs.BothWays.{write_then_read, read_then_write, write_rest, read_rest, one_each}
use Rattle.record.proofs.Pieces.{in_pieces, last_piece}
use Rattle.record.proofs.Entries.{all_entries, one_more}
use Rattle.record.proofs.Torn.{torn_bytes, cut-bytes, behind_fault, torn-fault, behind_some}
use Rattle.record.proofs.Torn.{before-front, before-within, before-dwords, laid-before}
use Rattle.record.proofs.Stuck.{stuck_piece}

module _ (run : List ℕ) (k : ℕ) (d : Dwords run) (c : (cut run).fault ≡ 0) (l : k ≤ length (bytes_of_run run)) where
  -- the file, the numbers before the cut, the bytes behind them, and the messages
  abbrev file : List ℕ
  file = take k (bytes_of_run run)

  abbrev ns : List ℕ
  ns = numbers_before k run

  abbrev torn : ℕ
  torn = length (bytes_of_run ns)

  abbrev laid : List ℕ
  laid = flatten (before k (entries run))

  file_is : file ≡ bytes_of_run ns ++ torn_bytes k run
  file_is = cut-bytes run k

  file-run : run_of file ≡ ns
  file-run =
      let b : (number_of (torn_bytes k run)).fault ≡ 0 → ⊥ = λ e. behind_some torn k (sym (torn-fault run k l) ∙ e) in
      ap run_of file_is ∙ run-append ns (torn_bytes k run) (before-dwords run k d)
      ∙ ap (λ (x : List ℕ). ns ++ x) (run-bad (torn_bytes k run) b) ∙ append-nil ns

  file-start : (j : ℕ) → j ≤ length ns → start_of file j ≡ length (bytes_of_run (take j ns))
  file-start j h =
      ap (λ (f : List ℕ). start_of f j) file_is ∙ start-append ns (torn_bytes k run) j (before-dwords run k d) h

  file-whole : whole_of file ≡ (cut ns).dwords
  file-whole = ap (λ (r : List ℕ). (cut r).dwords) file-run

  ns_whole : (cut ns).dwords ≤ length ns
  ns_whole = let w = cut-within ns in omega arith

  ns_laid : take (cut ns).dwords ns ≡ laid
  ns_laid =
      ap (take (cut ns).dwords) (before-front run k) ∙ take-take (cut ns).dwords (length ns) run ns_whole
      ∙ sym (laid-before run k c)

  ns_bad : (cut ns).bad ≡ length ns
  ns_bad =
      ap (λ (r : List ℕ). (cut r).bad) (before-front run k) ∙ cut_short run (length ns) c (before-within run k)

  laid-length : length laid ≡ (cut ns).dwords
  laid-length = ap length (sym ns_laid) ∙ length-take-le (cut ns).dwords ns ns_whole

  file-messages : messages_of file ≡ laid
  unfolding messages_of
  file-messages =
      ap (λ (r : List ℕ). take (cut r).dwords r) file-run ∙ ns_laid

  file_took : took_of file ≡ length (bytes_of_run laid)
  file_took =
      ap (start_of file) file-whole ∙ file-start (cut ns).dwords ns_whole
      ∙ ap (λ (x : List ℕ). length (bytes_of_run x)) ns_laid

  file-bad : bad_of file ≡ torn
  unfolding bad_of
  file-bad =
      ap (λ (r : List ℕ). start_of file (cut r).bad) file-run ∙ ap (start_of file) ns_bad
      ∙ file-start (length ns) (omega arith) ∙ ap (λ (x : List ℕ). length (bytes_of_run x)) (take-length ns)

  file-fault : fault_of file ≡ behind_fault torn k
  unfolding fault_of
  file-fault =
      let e : ltb (cut (run_of file)).bad (length (run_of file)) ≡ false =
      ap (λ (r : List ℕ). ltb (cut r).bad (length r)) file-run
      ∙ le-ltb (cut ns).bad (length ns) (omega (arith, ns_bad)) in
      let t : drop (bad_of file) file ≡ torn_bytes k run =
      ap (λ (n : ℕ). drop n file) file-bad ∙ ap (drop torn) file_is
      ∙ drop-append_seam (bytes_of_run ns) (torn_bytes k run) in
      rw (e, t) (torn-fault run k l)

  file-length : length file ≡ k
  file-length = length-take-le k (bytes_of_run run) l

  -- where there is room for what is to be laid
  module _ (back : List ℕ) (r : length laid ≤ length back) where
    file-fits : whole_of file ≤ length back
    file-fits = omega (arith, file-whole, laid-length, r)

    file_lays : read_leaves file back ≡ at_front laid back
    unfolding read_leaves
    file_lays =
        let m = ap (λ (x : List ℕ). at_front x back) file-messages in
        by_read file (length back) (λ w e. absurd (omega (arith, file-fits))) (λ w t e. rw e m) (λ w t e. rw e m)

    file-answer : read_answer file (length back) ≡ cut_answer k laid torn
    unfolding read_answer cut_answer
    file-answer =
        let b = length (bytes_of_run laid) in
        let w : whole_of file ≡ length laid = file-whole ∙ sym laid-length in
        by_read file (length back)
        (λ x e. absurd (omega (arith, file-fits)))
        (λ x t e.
        let n : eqb b k ≡ false = ne_eqb b k (λ q. t (file_took ∙ q ∙ sym file-length)) in
        rw (e, n, file-fault, file-bad, file_took, w))
        (λ x t e.
        let q : took_of file ≡ k = t ∙ file-length in
        let n : eqb b k ≡ true = eq-eqb b k (sym file_took ∙ q) in
        rw (e, n, q, w))

-- a written file cut anywhere hands out exactly its whole messages before the cut
pub cut_anywhere :
    (run back : List ℕ) (k : ℕ) → Dwords run → (cut run).fault ≡ 0 → k ≤ length (bytes_of_run run)
    → let laid = flatten (before k (entries run)) in
    length laid ≤ length back
    → (read_answer (take k (bytes_of_run run)) (length back) ≡ cut_answer k laid (length (bytes_of_run (numbers_before k run))))
    × (read_leaves (take k (bytes_of_run run)) back ≡ at_front laid back)
cut_anywhere run back k d c l r = (file-answer run k d c l back r, file_lays run k d c l back r)

-- what is laid of a file is the longest run of whole messages whose bytes it starts with
pub longest_record :
    (file : List ℕ) → Bytes file
    → (bytes_of_run (messages_of file) ≡ take (took_of file) file)
    × ((cut (messages_of file)).fault ≡ 0)
    × ((run : List ℕ) → Dwords run → (cut run).fault ≡ 0 → take (length (bytes_of_run run)) file ≡ bytes_of_run run
    → (length (bytes_of_run run) ≤ took_of file) × (length run ≤ whole_of file))
unfolding messages_of
longest_record file b = (
  bytes_back file (whole_of file) b,
  cut-front (run_of file),
  λ run d c e.
      let n = length (bytes_of_run run) in
      let rest = drop n file in
      let f : file ≡ bytes_of_run run ++ rest =
      sym (take-append-drop n file) ∙ ap (λ (x : List ℕ). x ++ rest) e in
      let whole : whole_of file ≡ length run + (cut (run_of rest)).dwords =
      ap (λ (x : List ℕ). (cut (run_of x)).dwords) f
      ∙ (ap (λ (x : List ℕ). (cut x).dwords) (run-append run rest d) ∙ ap (λ k. k.dwords) (cut-append run (run_of rest) c)) in
      let start : start_of file (length run) ≡ n =
      ap (λ (x : List ℕ). start_of x (length run)) f
      ∙ (start-append run rest (length run) d (omega arith) ∙ ap (λ (x : List ℕ). length (bytes_of_run x)) (take-length run)) in
      let more : start_of file (whole_of file) ≡ start_of file (length run) + start_of (drop (start_of file (length run)) file) (cut (run_of rest)).dwords =
      ap (start_of file) whole ∙ start_add file (length run) (cut (run_of rest)).dwords in
      (omega (arith, start, more), omega (arith, whole)),
)

-- the contract
pub mailed_home : MailedHome
mailed_home =
    record {
      number-there = number_there;
      number-back = number_back;
      write_then_read_fact = write_then_read;
      read_then_write_fact = read_then_write;
      cut_anywhere_fact = cut_anywhere;
      longest = longest_record;
      all-entries = all_entries;
      write_rest_fact = write_rest;
      read_rest_fact = read_rest;
      one_more = one_more;
      in_pieces_fact = in_pieces;
      last_piece_fact = last_piece;
      five_each_fact = five_each;
      one_each = one_each;
      stuck_piece_fact = stuck_piece;
    }
