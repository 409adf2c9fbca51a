-- The numbers of operations, of openings and of messages are those of the first row that is given. Assumes nothing.
use Prim.Native.Nat.{ℕ}
use mathlib.Core.Path.{◌≡◌, refl, sym, ap, ◌∙◌}
use mathlib.Core.Bool.{Bool, true, false, not, ◌&&◌, ◌||◌, cond}
use mathlib.Core.List.{List, [], ◌∷◌}
use lib.ListN.{length, get_or}
use lib.Dec.{eqb, leb, ltb}
use borrow.Author.Tests.{eq-eqb, eqb-true, leb-true, leb-false, le-ltb, lt-ltb, ltb-true, ltb-false, le-leb, lt-leb}
use Rattle.message.proofs.Tests.{cases}
use Rattle.ring.proofs.Chains.{true_false}
use Rattle.message.specs.Header.{is_message, well_formed}
use Rattle.ring.specs.Ring.{head, tail}
use Rattle.ring.specs.AtOnce.{length_at, message_at, receive_number}
use Rattle.ring.specs.Numbers.{first_needs, look_needs, need, receive_decision, receive_look_needs, send_decision, send_look_needs, take_decision}
use Rattle.channel.specs.State.{State, idle}
use Rattle.channel.specs.Opening.{open_number}
use Rattle.channel.specs.Operations.{send_look, send_move, send_publish, receive_look, receive_move, receive_publish, receive_whole}
use Rattle.channel.specs.Send
use Rattle.channel.specs.Receive
use Rattle.refusals.specs.Order.{Row}
use Rattle.refusals.specs.Table.{used_in, opening_rows, free_in, operation_rows, receive_looks, row_1}
use Rattle.refusals.specs.Table.{row_2, row_3, row_5, row_13_whole, is_whole}
use Rattle.refusals.proofs.Lowest.{first-behind, first_of, rising}

-- a test of a chain, and the row that is given where it fails; the rest of the chain is asked where it holds
link_under :
    (t : Bool) (r : Row) (rest : ℕ) (rs : List Row) → r.given ≡ not t → (t ≡ true → rest ≡ first_of rs)
    → need t r.number rest ≡ first_of (r ∷ rs)
unfolding need first_of
link_under true r rest rs g e = rw (g, e refl)
link_under false r rest rs g e = rw g

link :
    (t : Bool) (r : Row) (rest : ℕ) (rs : List Row) → r.given ≡ not t → rest ≡ first_of rs
    → need t r.number rest ≡ first_of (r ∷ rs)
link t r rest rs g e = link_under t r rest rs g (λ _. e)

pub done : 0 ≡ first_of []
unfolding first_of
done = refl

-- ---- the same test from both sides

pub below : (a b : ℕ) → ltb a b ≡ not (leb b a)
below a b =
    cases (leb b a) (λ t. le-ltb a b (leb-true b a t) ∙ ap not (sym t)) (λ t. lt-ltb a b (leb-false b a t) ∙ ap not (sym t))

pub at_most : (a b : ℕ) → leb a b ≡ not (ltb b a)
at_most a b =
    cases (ltb b a) (λ t. lt-leb a b (ltb-true b a t) ∙ ap not (sym t)) (λ t. le-leb a b (ltb-false b a t) ∙ ap not (sym t))

pub not_not : (t : Bool) → t ≡ not (not t)
not_not true = refl
not_not false = refl

pub either_fails : (t u : Bool) → (not t || not u) ≡ not (t && u)
either_fails true u = refl
either_fails false u = refl

pub neither : (t u : Bool) → (not t && not u) ≡ not (t || u)
neither true u = refl
neither false u = refl

-- 7 and 9
out_of_range : (n hd tl : ℕ) → (leb n hd || leb n tl) ≡ not (ltb hd n && ltb tl n)
out_of_range n hd tl = rw (at_most n hd, at_most n tl) (either_fails (ltb hd n) (ltb tl n))

torn : (u l : ℕ) → (not (eqb u 0) && ltb u l) ≡ not (eqb u 0 || leb l u)
torn u l = rw (below u l) (neither (eqb u 0) (leb l u))

-- a row ahead of others of which none is given
pass : (r : Row) (rs : List Row) → eqb r.number 0 ≡ false → first_of (r ∷ rs) ≡ 0 → (r.given ≡ false) × (first_of rs ≡ 0)
unfolding first_of
pass r rs n z =
    cases r.given
    (λ t. true_false (sym (eq-eqb r.number 0 (rw t at z)) ∙ n))
    (λ t. (t, rw t at z))

past : (r : Row) (rs : List Row) → eqb r.number 0 ≡ false → first_of (r ∷ rs) ≡ 0 → first_of rs ≡ 0
past r rs n z = (pass r rs n z).1

-- what 9 and 11 leave to 13
whole_by : (u l : ℕ) → (not (eqb u 0) && ltb u l) ≡ false → eqb u 0 ≡ false → (not (eqb u 0) && leb l u) ≡ true
whole_by u l nine eleven = let m : ltb u l ≡ false = rw eleven at nine in rw (eleven, at_most l u, m)

-- ---- openings and operations

pub opens : (d b : List ℕ) → open_number (length d) (length b) ≡ first_of (opening_rows d b)
unfolding open_number
opens d b = link _ _ _ _ refl (link _ _ _ _ refl done)

module _ (s : State) (m d b : List ℕ) where
  pub send_looks_fact : Send.look_number s m d b ≡ first_of (operation_rows (send_look m) s d b)
  unfolding send_decision first_needs send_look_needs look_needs is_message
  send_looks_fact =
      link _ _ _ _ refl (link _ _ _ _ refl (link _ _ _ _ refl (link _ _ _ _ refl
      (link _ _ _ _ refl (link _ _ _ _ (out_of_range (length b) (head d) (tail d)) (link _ _ _ _ refl
      (link _ _ _ _ (below (free_in d b) (length m)) done)))))))

module _ (s : State) (d b : List ℕ) where
  pub send-moves : Send.move_number s d b ≡ first_of (operation_rows send_move s d b)
  unfolding Send.move_number first_needs
  send-moves = link _ _ _ _ refl (link _ _ _ _ refl (link _ _ _ _ refl (link _ _ _ _ (at_most s.len s.moved) done)))

  pub send_publishes : Send.publish_number s d b ≡ first_of (operation_rows send_publish s d b)
  unfolding Send.publish_number first_needs
  send_publishes =
      link _ _ _ _ refl (link _ _ _ _ refl (link _ _ _ _ refl (link _ _ _ _ (below s.moved s.len) done)))

  pub receive_looks_fact : Receive.look_number s d b ≡ first_of (operation_rows receive_look s d b)
  unfolding receive_decision first_needs receive_look_needs look_needs
  receive_looks_fact =
      link _ _ _ _ refl (link _ _ _ _ refl (link _ _ _ _ refl (link _ _ _ _ refl (link _ _ _ _ (out_of_range (length b) (head d) (tail d))
      (link _ _ _ _ refl (link _ _ _ _ (torn (used_in d b) (length_at s.own b)) (link _ _ _ _ (not_not (eqb (used_in d b) 0)) done)))))))

  pub receive-moves : Receive.move_number s d b ≡ first_of (operation_rows receive_move s d b)
  unfolding Receive.move_number first_needs
  receive-moves = link _ _ _ _ refl (link _ _ _ _ refl (link _ _ _ _ refl (link _ _ _ _ (at_most s.len s.moved) done)))

-- a whole receive but for 13
abbrev take_rows : State → List ℕ → List ℕ → List ℕ → List Row
take_rows s o d b = row_1 d ∷ row_2 b ∷ row_3 (receive_whole o) s b ∷ row_5 o ∷ receive_looks s d b

module _ (s : State) (o d b : List ℕ) where
  pub receive_publishes : Receive.publish_number s o d b ≡ first_of (operation_rows (receive_publish o) s d b)
  unfolding Receive.publish_number_of first_needs
  receive_publishes =
      link _ _ _ _ refl (link _ _ _ _ refl (link _ _ _ _ refl (link _ _ _ _ (below (length o) 256)
      (link_under _ _ _ _ (below s.moved s.len) (λ t. link _ _ _ _ (rw t refl) done)))))

  -- the number of a whole receive but for 13, by the chain and by the rows, and 13
  abbrev chain_takes : ℕ
  chain_takes = take_decision (idle (length b) s) s.own (length o) d (length b) (get_or b s.own 0)

  abbrev rows_take : ℕ
  rows_take = first_of (take_rows s o d b)

  abbrev formed : ℕ
  formed = need (well_formed (get_or b s.own 0) (get_or (message_at s.own b) 1 0)) 13 0

  takes : chain_takes ≡ rows_take
  unfolding take_decision first_needs receive_look_needs look_needs
  takes =
      let u : ℕ = used_in d b in
      link _ _ _ _ refl (link _ _ _ _ refl (link _ _ _ _ refl (link _ _ _ _ (below (length o) 256) (link _ _ _ _ refl
      (link _ _ _ _ (out_of_range (length b) (head d) (tail d)) (link _ _ _ _ refl
      (link _ _ _ _ (torn u (length_at s.own b)) (link _ _ _ _ (not_not (eqb u 0)) done))))))))

  -- a message that none of these refuses is whole
  taken-whole : rows_take ≡ 0 → is_whole s d b ≡ true
  taken-whole z =
      let after-3 = past _ _ refl (past _ _ refl (past _ _ refl z)) in
      let after_8 = past _ _ refl (past _ _ refl (past _ _ refl (past _ _ refl after-3))) in
      whole_by (used_in d b) (length_at s.own b) (pass _ _ refl after_8).0 (pass _ _ refl (past _ _ refl after_8)).0

  malformed : rows_take ≡ 0 → formed ≡ first_of (row_13_whole s d b ∷ [])
  malformed z = link _ _ _ _ (rw (taken-whole z) refl) done

  then-malformed :
      cond (eqb rows_take 0) formed rows_take ≡ cond (eqb rows_take 0) (first_of (row_13_whole s d b ∷ [])) rows_take
  then-malformed =
      cases (eqb rows_take 0)
      (λ t. rw t (malformed (eqb-true rows_take 0 t)))
      (λ t. rw t refl)

  pub receives-whole : receive_number chain_takes s.own b ≡ first_of (operation_rows (receive_whole o) s d b)
  unfolding receive_number rising
  receives-whole = rw takes (then-malformed ∙ sym (first-behind 0 (take_rows s o d b) _ refl))
