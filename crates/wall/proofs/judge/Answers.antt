-- `judge` meets its contract: no more records are taken than there are, nor than there is room for, and all of them where
-- there is room. Assumes nothing.
use Prim.Native.Nat.{◌≤◌}
use mathlib.Core.Path.{◌≡◌, ◌∙◌}
use native.Mathlib.Omega.{arith}
use lib.ListN.{length, get_or, take, length-set}
use Rattle.requests.specs.Table.{free_record}
use Rattle.requests.specs.Words.{record_with, records_with}
use Rattle.requests.proofs.Carried.{planned_words}
use Rattle.wall.proofs.Records.{kept_ok, kept-all, take_next, take_whole}
use Rattle.wall.proofs.judge.Goals as goal

pub offset_bounds-t-i : goal.offset_bounds-t-i
offset_bounds-t-i c = let k = kept_ok _ _ c.requires in omega (arith, k.1)

pub bounds-t-i : goal.bounds-t-i
bounds-t-i c = let k = kept_ok _ _ c.requires in omega (arith, k.0)

pub offset_bounds-words-i : goal.offset_bounds-words-i
offset_bounds-words-i c = let k = kept_ok _ _ c.requires in omega (arith, k.1)

pub bounds-words-i : goal.bounds-words-i
bounds-words-i c = let k = kept_ok _ _ c.requires in omega (arith, k.1)

pub offset_bounds-rooms-i : goal.offset_bounds-rooms-i
offset_bounds-rooms-i c = let k = kept_ok _ _ c.requires in omega (arith, k.1)

pub bounds-rooms-i : goal.bounds-rooms-i
bounds-rooms-i c = let k = kept_ok _ _ c.requires in omega (arith, k.1)

pub loop-i-preserved : goal.loop-i-preserved
loop-i-preserved c =
    let k = kept_ok _ _ c.requires in
    let l = c.loop-i in
    let r = get_or c.args.t.now l.i free_record in
    let same : record_with c.word_of.result r.room ≡ r = c.word_of.ensures.back in (
      omega arith,
      length-set l.words l.i c.word_of.result ∙ l.invariant.1,
      length-set l.rooms l.i r.room ∙ l.invariant.2,
      take_next l.words l.rooms c.args.t.now l.i c.word_of.result r.room (omega arith) (omega (arith, k.1)) (omega (arith, k.0)) same
          l.invariant.3,
    )

pub returns : goal.returns
returns c =
    let n = length c.args.t.now in
    let zs = c.loop-i.words in
    let rs = c.loop-i.rooms in
    let taken : n ≤ 256 → take n (records_with zs rs) ≡ c.args.t.now =
    λ le. let all = kept-all n c.args.m c.requires le in
    let i : c.loop-i.i ≡ n = omega arith in
    rw i at c.loop-i.invariant.3 ∙ take_whole c.args.t.now in
    c.plan_call.ensures ∙ planned_words zs rs c.args.t.now n c.args.state c.args.ask taken
