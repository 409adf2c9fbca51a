-- Laws of what scenes are built with: bytes laid from a place on, dwords that count up, the front of dwords, and what packing answers.
use Rattle.std.proofs.Common.{◌≡◌, ℕ, zero, suc, ◌+◌, ◌-◌, ◌%◌, ◌^◌, ◌<◌, ◌≤◌, List, [], length, get_or, take, drop, set, sym, refl, ap, ◌∙◌, append-nil, arith, length-drop, drop_of_length-le, get_or-drop, take_all, drop-drop, Bor, le-leb}
use borrow.Author.Tests.{lt-leb}
use borrow.Rule.Slice.PartMut.{put_mid}
use Rattle.message.specs.Packing.{Answer, of_packed, pack, pack_answer}
use Rattle.message.specs.declared.Message.{Message}
use Rattle.std.specs.Prelude.{Result, Ok, Err}
use Rattle.refusal.specs.declared.Refusal.{Refusal}
use Rattle.message.proofs.Agreement.{answers}
use Rattle.channel.specs.State.{zeros}
use Rattle.stage.specs.Files.{Laying, from}
use Rattle.stage.specs.Dwords.{counting, FrontOf}
use Rattle.stage.specs.Messages.{dwords_of}

-- what is laid in the bytes from `at` on is laid from there
pub from-there :
    (at : ℕ) (lay : Laying) (s ys : List ℕ) → at ≤ length s → ys ≡ lay (take (length s - at) (drop at s))
    → put_mid at (length s - at) s ys ≡ from at lay s
unfolding from
from-there at lay s ys h e =
    let l : length (drop at s) ≤ length s - at = simp length-drop (omega arith) in
    let none : drop (length s - at) (drop at s) ≡ [] = drop_of_length-le (drop at s) {i = length s - at} l in
    let whole : take (length s - at) (drop at s) ≡ drop at s = take_all (length s - at) (drop at s) l in
    simp (e, le-leb at (length s) h, whole, none, append-nil)

-- and nothing is where the bytes end before
pub from-none : (at : ℕ) (lay : Laying) (s : List ℕ) → length s < at → s ≡ from at lay s
unfolding from
from-none at lay s h = simp (lt-leb at (length s) h)

-- where dwords go on counting, there is the next one, and behind it they go on
pub counting_here :
    (xs : List ℕ) (i next k : ℕ) → drop i xs ≡ counting next (suc k) → get_or xs i 0 ≡ next
unfolding counting
counting_here xs i next k e = ap (λ n. get_or xs n 0) {x = i} {y = i + 0} (omega arith) ∙ sym (get_or-drop i xs 0 0) ∙ ap (λ l. get_or l 0 0) e

pub counting_on :
    (xs : List ℕ) (i next k : ℕ) → drop i xs ≡ counting next (suc k) → drop (i + 1) xs ≡ counting ((next + 1) % 2 ^ 32) k
unfolding counting
counting_on xs i next k e = sym (drop-drop 1 i xs) ∙ ap (drop 1) e

pub length-counting : (first k : ℕ) → length (counting first k) ≡ k
unfolding counting
length-counting first zero = refl
length-counting first (suc k) = ap suc (length-counting ((first + 1) % 2 ^ 32) k)

-- all of what was lent is its front
pub front-all : {T : Type 0} (s : Bor (List T)) (n : ℕ) → length s.now < n → FrontOf s (take n s.now) s
front-all s n h = record { holds = sym (take_all n s.now (omega arith)); same_block = refl; same_start = refl }

-- what packing answers, as the dwords that are made of it
module _ (m : Message) (p : Result (ℕ × ℕ) Refusal) (e : of_packed p ≡ pack_answer m) where
  packed_as : dwords_of (of_packed p).value ≡ dwords_of (pack m)
  packed_as = ap (λ (a : Answer (ℕ × ℕ)). dwords_of a.value) e ∙ ap dwords_of (answers 14 (pack m))

  pub packed_none : (r : Refusal) → p ≡ Err r → zeros ≡ dwords_of (pack m)
  unfolding of_packed dwords_of
  packed_none r u = ap (λ q. dwords_of (of_packed q).value) (sym u) ∙ packed_as

  pub packed_some : (header word : ℕ) → p ≡ Ok (header, word) → set (counting header 256) 1 word ≡ dwords_of (pack m)
  unfolding of_packed dwords_of
  packed_some header word u = ap (λ q. dwords_of (of_packed q).value) (sym u) ∙ packed_as
