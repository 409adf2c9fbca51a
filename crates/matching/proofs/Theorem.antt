-- A wall does what a plain map from fences to requests does, over every list of calls; with what follows. Assumes
-- nothing.
use Prim.Native.Nat.{ℕ, ◌+◌, ◌≤◌}
use mathlib.Core.Path.{◌≡◌, refl, sym, ap, fun_ext, ◌∙◌}
use mathlib.Core.Bool.{true}
use mathlib.Core.List.{List, [], ◌∷◌}
use mathlib.Core.Option.{some}
use native.Mathlib.Omega.{arith}
use borrow.Author.Tests.{eq-eqb, le-leb}
use lib.ListN.{length, replicate, length-replicate}
use lib.Seq.{ext_get_or}
use Rattle.ring.specs.Ring.{allowed}
use Rattle.ring.specs.Numbers.{need}
use Rattle.ring.proofs.Chains.{true_false}
use Rattle.requests.specs.declared.record.Record.{Record}
use Rattle.requests.specs.declared.planning.Answer.{Answer}
use Rattle.requests.specs.Table.{free_record, is_open, still_open, allowed_length}
use Rattle.requests.specs.Calls.{Wall, Outcome, number_alone, refused, fresh_number, fresh_by, fresh}
use Rattle.matching.specs.Map.{Plain, fresh_plain, how_many, aside_of, picked}
use Rattle.matching.specs.Lists.{Call, open_call, reply_call, outcome, run, end, plain_run, plain_end, openings, closings}
use Rattle.matching.specs.Matching.{Good, entry_in, open_records, plain_of, AsMap, Next, Follows}
use Rattle.matching.specs.Matching.{FromFresh, ByHistory, made_fresh, FreshWall, WallIsMap}
use Rattle.matching.proofs.Tables.{still_there, free-closed, none_open, fresh-none, fresh_open, fresh-aside, fresh_at}
use Rattle.matching.proofs.Tables.{has_closed, none-aside}
use Rattle.matching.proofs.Sets.{entry-none}
use Rattle.matching.proofs.Fences.{passes, picked_skips}
use Rattle.matching.proofs.Openings.{as_many_open, as_aside, fence-picked, fence-closed}
use Rattle.matching.proofs.Steps.{Zeros, Did, refuses, opens, did, did_size, did_zeros, did_count, did_other, step_same}
use Rattle.matching.proofs.Steps.{did_open, did_answer}
use Rattle.matching.proofs.Unusable.{bad-table, bad-buffer, good-buffer, fresh-length, fresh-buffer, refused-leaves}
use Rattle.matching.proofs.Unusable.{ring-buffer, free_is_0}
use Rattle.matching.proofs.Order.{in_order}
use Rattle.matching.proofs.Histories.{after-good, by_history}

-- ---- lists

-- the wall after a call
abbrev then : Wall → Call → Wall
then w c = (outcome w c).wall

pub end-good : (list : List Call) (w : Wall) → Good w.table → Good (end w list).table
unfolding end
end-good [] w g = g
end-good (c ∷ cs) w g = end-good cs (then w c) (after-good w g c)

end-size : (list : List Call) (w : Wall) → Good w.table → length (end w list).table ≡ length w.table
unfolding end
end-size [] w g = refl
end-size (c ∷ cs) w g =
    end-size cs (then w c) (after-good w g c) ∙ did_size w g c _ (did w g c)

end-zeros : (list : List Call) (w : Wall) → Good w.table → Zeros w.table → Zeros (end w list).table
unfolding end
end-zeros [] w g z = z
end-zeros (c ∷ cs) w g z =
    end-zeros cs (then w c) (after-good w g c) (did_zeros w g c _ (did w g c) z)

run_same : (list : List Call) (w : Wall) → Good w.table → run w list ≡ plain_run (plain_of w) list
unfolding run plain_run
run_same [] w g = refl
run_same (c ∷ cs) w g =
    rw (step_same w g c) (ap (λ (l : List Answer). (outcome w c).answer ∷ l) (run_same cs (then w c) (after-good w g c)))

end_same : (list : List Call) (w : Wall) → Good w.table → plain_end (plain_of w) list ≡ plain_of (end w list)
unfolding end plain_end
end_same [] w g = refl
end_same (c ∷ cs) w g = rw (step_same w g c) (end_same cs (then w c) (after-good w g c))

-- what was open and is opened is what is closed and is open still
end-count :
    (list : List Call) (w : Wall) → Good w.table
    → open_records w.table + openings list (run w list) ≡ closings list (run w list) + open_records (end w list).table
unfolding run end openings closings
end-count [] w g = omega arith
end-count (c ∷ cs) w g =
    let i = end-count cs (then w c) (after-good w g c) in
    let j = did_count w g c _ (did w g c) in
    omega arith

-- ---- the map

as_map : (w : Wall) (list : List Call) → Good w.table → AsMap w (plain_of w) list
as_map w list g =
    let e : plain_of (end w list) ≡ plain_end (plain_of w) list = sym (end_same list w g) in
    let h : Good (end w list).table = end-good list w g in
    record {
      answers = run_same list w g;
      entries = λ f. ap (λ (p : Plain). p.requests f) e;
      once = h.taken.no_fence-twice;
      as_many = as_many_open (end w list) h ∙ ap (λ (p : Plain). how_many p.requests) e;
      aside = as_aside (end w list) h ∙ ap (λ (p : Plain). aside_of p.requests) e;
      last-fence = ap (λ (p : Plain). p.last) e;
      reply-buffer = ap (λ (p : Plain). p.n) e;
      size = end-size list w g;
    }

-- ---- what follows

module _ (w : Wall) (g : Good w.table) where
  abbrev t : List Record
  t = w.table

  next_of :
      (room : ℕ) (m : List ℕ) (ring : ℕ) (x : Outcome) → Did w (open_call room m ring) x → x.answer.code ≡ 0
      → Next (λ (f : ℕ). still_open t f ≡ true) w.last x.answer.fence
  unfolding refused picked
  next_of room m ring x (refuses _ n e) z = true_false (sym (eq-eqb n 0 z) ∙ e)
  next_of room m ring x (opens _ _ _ p) z =
      record {
        d = passes (entry_in t) w.last;
        counted_up = fence-picked w g;
        not_open = λ o. true_false (sym o ∙ fence-closed w g);
        skipped = λ k h. still_there t _ ∙ picked_skips (entry_in t) w.last k h;
      }

  follows : Follows w
  follows =
      record {
        next-fence = λ room m ring z. next_of room m ring _ (did w g (open_call room m ring)) z;
        opened = λ room m ring z. did_open w g room m ring _ (did w g (open_call room m ring)) z;
        answered = λ m z. did_answer w g m _ (did w g (reply_call (some m))) z;
        only_its_own = λ m f n. did_other w g m _ (did w g (reply_call (some m))) f n;
        in_order = λ room m ring l. in_order w g room m ring l;
      }

-- ---- from a fresh table

from-fresh : (w : Wall) (list : List Call) → Good w.table → Zeros w.table → open_records w.table ≡ 0 → FromFresh w list
from-fresh w list g z n =
    let b = end-count list w g in
    let zs = end-zeros list w g z in
    record {
      zeros = zs;
      balance = omega arith;
      all-free =
          λ e.
          let o : open_records (end w list).table ≡ 0 = omega arith in
          ext_get_or free_record (end w list).table (replicate (length w.table) free_record)
          (end-size list w g ∙ sym (length-replicate (length w.table) free_record))
          (λ i h. zs i (none_open (end w list).table o i) ∙ sym (fresh_at (length w.table) i));
    }

-- a table of so many free records, for a reply buffer of n
module _ (records n : ℕ) where
  abbrev pub clear : Wall
  clear = record { table = replicate records free_record; last = 65535; n = n }

  pub clear_good : 1 ≤ records → records ≤ 256 → Good clear.table
  clear_good l h =
      record {
        taken =
            record {
              some_records = rw (length-replicate records free_record) l;
              not_too_many = rw (length-replicate records free_record) h;
              no_fence-twice = λ w. true_false (sym w.open_i ∙ ap is_open (fresh_at records w.i) ∙ free-closed);
            };
        sixteen_bits = λ i. rw (fresh_at records i) (omega arith);
      }

  clear_map : plain_of clear ≡ fresh_plain records n
  clear_map =
      λ i. record {
        most = length-replicate records free_record i;
        n = n;
        requests = fun_ext (λ f. fresh-none records f) i;
        last = 65535;
      }

module _ (w : Wall) (n : ℕ) (l : 1 ≤ length w.table) (h : length w.table ≤ 256) (a : allowed n ≡ true) where
  abbrev now : Wall
  now = clear (length w.table) n

  pub fresh_told : fresh w n ≡ record { answer = number_alone 0; wall = now }
  unfolding fresh_by fresh_number allowed_length need
  fresh_told = rw (le-leb 1 (length w.table) l, le-leb (length w.table) 256 h, a)

  pub fresh_made : made_fresh w n ≡ now
  fresh_made = ap (λ (x : Outcome). x.wall) fresh_told

  pub fresh-wall : (list : List Call) → FreshWall w n list
  fresh-wall list =
      let k : ℕ = length w.table in
      let g : Good now.table = clear_good k n l h in
      record {
        begins = rw fresh_told;
        as_map = rw (fresh_made, ← clear_map k n) (as_map now list g);
        follows = rw fresh_made (follows (end now list) (end-good list now g));
        from-fresh = rw fresh_made (from-fresh now list g (λ i o. fresh_at k i) (fresh_open k));
        by_history = rw fresh_made (by_history now list g (fresh-aside k) (fresh_open k) (fresh-none k));
      }

-- ---- from any table in which nothing is open

pub empty-table : (w : Wall) → Good w.table → open_records w.table ≡ 0 → (list : List Call) → ByHistory w list
empty-table w g z list =
    by_history w list g (none-aside w.table z) z
    (λ f. entry-none w.table f (λ k. has_closed f _ (none_open w.table z k)))

-- ---- all of it

pub wall_is_map : WallIsMap
wall_is_map =
    record {
      any-table = λ w g list. (as_map w list g, follows (end w list) (end-good list w g));
      fresh-table = fresh-wall;
      empty-table = empty-table;
      bad-table = bad-table;
      bad-buffer = bad-buffer;
      good-buffer = good-buffer;
      ring-buffer = ring-buffer;
      fresh-length = fresh-length;
      fresh-buffer = fresh-buffer;
      refused-leaves = refused-leaves;
      free_is_0 = free_is_0;
    }
