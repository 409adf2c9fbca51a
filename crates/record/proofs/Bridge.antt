-- A message as the code finds it, number by number, is the message that starts the run of the file, whole or torn at the
-- same number. Assumes nothing.
use Prim.Native.Nat.{ℕ, suc, ◌+◌, ◌-◌, ◌≤◌, ◌<◌}
use mathlib.Core.Path.{◌≡◌, refl, sym, ap, ◌∙◌}
use mathlib.Core.Logic.{◌⊎◌, inl, inr, ⊎_elim}
use mathlib.Core.Bool.{true, false, cond}
use mathlib.Core.List.{List, [], ◌∷◌}
use native.Mathlib.Omega.{arith}
use lib.ListN.{length, take, drop}
use lib.Seq.{drop-drop}
use lib.Dec.{eqb, ltb}
use borrow.Author.Tests.{eq-eqb, ne_eqb, eqb-true, eqb-false, lt-ltb, le-ltb, ltb-true, ltb-false}
use Rattle.message.specs.Header.{total_length}
use Rattle.message.proofs.Tests.{cases}
use Rattle.record.specs.Faults.{missing, bad_direction, bad_length, bad_header}
use Rattle.record.specs.Numbers.{number_of}
use Rattle.record.specs.Runs.{is_length, judged_by, judged, wrong, whole}
use Rattle.record.specs.Files.{run_of, start_of}
use Rattle.record.specs.Private.{numbers_of, torn, found, later, dwords_of, length_of, message_of, message_in}
use Rattle.record.specs.Private.{Found}
use Rattle.record.proofs.Forms.{run-good, run-bad, start_zero, start_suc}
use Rattle.record.proofs.Judging.{length_bounds, by_direction, by_no_length, by_length, by_no_header, by_header, by_end, by_whole}
use Rattle.record.proofs.Numbered.{enough, few}

-- a torn message: the first that is wrong in the run, at the byte where that number starts, with the fault that a file
-- has there
pub record TornAt (r : Found) (f : List ℕ) : Type 0 where
  pub not_whole : (judged (run_of f)).fault ≡ 0 → ⊥
  pub faulty : r.fault ≡ 0 → ⊥
  pub bad : r.bad ≡ start_of f (judged (run_of f)).place
  pub fault :
      r.fault
      ≡ cond (ltb (judged (run_of f)).place (length (run_of f))) (judged (run_of f)).fault
      (number_of (drop (start_of f (judged (run_of f)).place) f)).fault

-- a whole one: its dwords are the front of the run
pub record WholeAt (r : Found) (xs f : List ℕ) : Type 0 where
  pub good : r.fault ≡ 0
  pub is_whole : judged (run_of f) ≡ whole r.dwords
  pub dwords : xs ≡ take r.dwords (run_of f)
  pub size : r.size ≡ start_of f r.dwords

module _ (r : Found) (f : List ℕ) where
  -- a number of the run is wrong
  torn_in :
      (what at : ℕ) → (what ≡ 0 → ⊥) → judged (run_of f) ≡ wrong what at → at < length (run_of f)
      → r ≡ torn what (start_of f at) → TornAt r f
  torn_in what at n j h e =
      record {
        not_whole = λ z. n (sym (ap (λ g. g.fault) j) ∙ z);
        faulty = λ z. n (sym (ap (λ g. g.fault) e) ∙ z);
        bad = ap (λ g. g.bad) e ∙ ap (λ g. start_of f g.place) (sym j);
        fault = ap (λ g. g.fault) e ∙ rw (j, lt-ltb at (length (run_of f)) h);
      }

  -- the run ends within the message
  torn-end :
      (n : ℕ) → n ≡ length (run_of f) → judged (run_of f) ≡ wrong missing n
      → ((number_of (drop (start_of f n) f)).fault ≡ 0 → ⊥)
      → r ≡ torn (number_of (drop (start_of f n) f)).fault (start_of f n) → TornAt r f
  torn-end n l j b e =
      record {
        not_whole = λ z. omega (arith, ap (λ g. g.fault) j, z);
        faulty = λ z. b (sym (ap (λ g. g.fault) e) ∙ z);
        bad = ap (λ g. g.bad) e ∙ ap (λ g. start_of f g.place) (sym j);
        fault = ap (λ g. g.fault) e ∙ rw (j, le-ltb n (length (run_of f)) (omega (arith, l)));
      }

later-torn : (s k b : ℕ) → (k ≡ 0 → ⊥) → later s (torn k b) ≡ torn k (s + b)
unfolding later
later-torn s k b n = rw (ne_eqb k 0 n)

later-found : (s n b : ℕ) → later s (found n b) ≡ found n (s + b)
unfolding later
later-found s n b = refl

module _ (f : List ℕ) where
  abbrev d : ℕ
  d = (number_of f).value

  abbrev s0 : ℕ
  s0 = (number_of f).size

  abbrev f1 : List ℕ
  f1 = drop s0 f

  abbrev l : ℕ
  l = (number_of f1).value

  abbrev s1 : ℕ
  s1 = (number_of f1).size

  abbrev f2 : List ℕ
  f2 = drop s1 f1

  abbrev h : ℕ
  h = (number_of f2).value

  abbrev s2 : ℕ
  s2 = (number_of f2).size

  abbrev f3 : List ℕ
  f3 = drop s2 f2

  no_direction : ((number_of f).fault ≡ 0 → ⊥) → TornAt (message_of f) f
  unfolding message_of judged_by
  no_direction n =
      let run = run-bad f n in
      let z = start_zero f in
      torn-end (message_of f) f 0 (rw run) (rw run) (λ e. n (rw z at e)) (rw (z, ne_eqb (number_of f).fault 0 n))

  module _ (gd : (number_of f).fault ≡ 0) where
    run1 : run_of f ≡ d ∷ run_of f1
    run1 = run-good f gd

    wrong_direction : 1 < d → TornAt (message_of f) f
    unfolding message_of
    wrong_direction x =
        torn_in (message_of f) f bad_direction 0 (λ e. omega (arith, e)) (rw run1 (by_direction _ _ _ _ x)) (rw run1 (omega arith))
        (rw (eq-eqb (number_of f).fault 0 gd, lt-ltb 1 d x, start_zero f))

    module _ (x : d ≤ 1) where
      message1 : message_of f ≡ later s0 (length_of f1)
      unfolding message_of
      message1 = rw (eq-eqb (number_of f).fault 0 gd, le-ltb 1 d x)

      start1 : start_of f 1 ≡ s0
      start1 = start_suc f 0 gd ∙ rw (start_zero f1) (omega arith)

      no_length : ((number_of f1).fault ≡ 0 → ⊥) → TornAt (message_of f) f
      unfolding length_of
      no_length n =
          let run : run_of f ≡ d ∷ [] = rw run1 (ap (λ (k : List ℕ). d ∷ k) (run-bad f1 n)) in
          let b : length_of f1 ≡ torn (number_of f1).fault 0 = rw (ne_eqb (number_of f1).fault 0 n) in
          let same : drop (start_of f 1) f ≡ f1 = ap (λ k. drop k f) start1 in
          let at : s0 + 0 ≡ start_of f 1 = omega (arith, start1) in
          let e : message_of f ≡ torn (number_of f1).fault (s0 + 0) =
          message1 ∙ (ap (later s0) b ∙ later-torn s0 (number_of f1).fault 0 n) in
          torn-end (message_of f) f 1 (rw run) (rw run (by_no_length _ _ _ _ x (omega arith)))
          (λ z. n (rw same at z))
          (rw (same, ← at) e)

      module _ (gl : (number_of f1).fault ≡ 0) where
        run2 : run_of f ≡ d ∷ l ∷ run_of f2
        run2 = rw run1 (ap (λ (k : List ℕ). d ∷ k) (run-good f1 gl))

        wrong-length : is_length l ≡ false → TornAt (message_of f) f
        unfolding length_of
        wrong-length y =
            let b : length_of f1 ≡ torn bad_length 0 = rw (eq-eqb (number_of f1).fault 0 gl, y) in
            let at : s0 + 0 ≡ start_of f 1 = omega (arith, start1) in
            let e : message_of f ≡ torn bad_length (s0 + 0) =
            message1 ∙ (ap (later s0) b ∙ later-torn s0 bad_length 0 (λ z. omega (arith, z))) in
            torn_in (message_of f) f bad_length 1 (λ z. omega (arith, z)) (rw run2 (by_length _ _ _ _ x (omega arith) y))
            (rw run2 (omega arith))
            (rw (← at) e)

        module _ (y : is_length l ≡ true) where
          message2 : message_of f ≡ later s0 (later s1 (dwords_of l f2))
          unfolding length_of
          message2 = message1 ∙ ap (later s0) (rw (eq-eqb (number_of f1).fault 0 gl, y))

          least : (1 ≤ l) × (l ≤ 256)
          least = length_bounds l y

          start2 : (k : ℕ) → start_of f (suc (suc k)) ≡ s0 + (s1 + start_of f2 k)
          start2 k = start_suc f (suc k) gd ∙ ap (λ m. s0 + m) (start_suc f1 k gl)

          behind2 : (m : ℕ) → drop (s0 + (s1 + m)) f ≡ drop m f2
          behind2 m = sym (drop-drop (s1 + m) s0 f) ∙ sym (drop-drop m s1 f1)

          no_header : ((number_of f2).fault ≡ 0 → ⊥) → TornAt (message_of f) f
          unfolding dwords_of
          no_header n =
              let run : run_of f ≡ d ∷ l ∷ [] = rw run2 (ap (λ (k : List ℕ). d ∷ l ∷ k) (run-bad f2 n)) in
              let b : dwords_of l f2 ≡ torn (number_of f2).fault 0 = rw (ne_eqb (number_of f2).fault 0 n) in
              let at : start_of f 2 ≡ s0 + (s1 + 0) = start2 0 ∙ ap (λ k. s0 + (s1 + k)) (start_zero f2) in
              let same : drop (start_of f 2) f ≡ f2 = ap (λ k. drop k f) at ∙ behind2 0 in
              let e : message_of f ≡ torn (number_of f2).fault (s0 + (s1 + 0)) =
              message2
              ∙ (ap (λ k. later s0 (later s1 k)) b
              ∙ (ap (later s0) (later-torn s1 (number_of f2).fault 0 n) ∙ later-torn s0 (number_of f2).fault (s1 + 0) n)) in
              torn-end (message_of f) f 2 (rw run) (rw run (by_no_header _ _ _ _ x (omega arith) y (omega arith)))
              (λ z. n (rw same at z))
              (rw (same, at) e)

          module _ (gh : (number_of f2).fault ≡ 0) where
            run3 : run_of f ≡ d ∷ l ∷ h ∷ run_of f3
            run3 = rw run2 (ap (λ (k : List ℕ). d ∷ l ∷ k) (run-good f2 gh))

            wrong-header : (total_length h ≡ l → ⊥) → TornAt (message_of f) f
            unfolding dwords_of
            wrong-header n =
                let b : dwords_of l f2 ≡ torn bad_header 0 = rw (eq-eqb (number_of f2).fault 0 gh, ne_eqb (total_length h) l n) in
                let at : start_of f 2 ≡ s0 + (s1 + 0) = start2 0 ∙ ap (λ k. s0 + (s1 + k)) (start_zero f2) in
                let e : message_of f ≡ torn bad_header (s0 + (s1 + 0)) =
                message2
                ∙ (ap (λ k. later s0 (later s1 k)) b
                ∙ (ap (later s0) (later-torn s1 bad_header 0 (λ z. omega (arith, z)))
                ∙ later-torn s0 bad_header (s1 + 0) (λ z. omega (arith, z)))) in
                torn_in (message_of f) f bad_header 2 (λ z. omega (arith, z))
                (rw run3 (by_header _ _ _ _ x (omega arith) y (omega arith) n)) (rw run3 (omega arith)) (rw at e)

            module _ (u : total_length h ≡ l) where
              start3 : (k : ℕ) → start_of f (suc (suc (suc k))) ≡ s0 + (s1 + (s2 + start_of f3 k))
              start3 k = start2 (suc k) ∙ ap (λ m. s0 + (s1 + m)) (start_suc f2 k gh)

              behind3 : (m : ℕ) → drop (s0 + (s1 + (s2 + m))) f ≡ drop m f3
              behind3 m = behind2 (s2 + m) ∙ sym (drop-drop m s2 f2)

              no_dword : ((numbers_of (l - 1) f3).fault ≡ 0 → ⊥) → TornAt (message_of f) f
              unfolding dwords_of
              no_dword n =
                  let body = numbers_of (l - 1) f3 in
                  let w = few (l - 1) f3 n in
                  let k = length (run_of f3) in
                  let b : dwords_of l f2 ≡ torn body.fault (s2 + body.size) =
                  rw (eq-eqb (number_of f2).fault 0 gh, eq-eqb (total_length h) l u, ne_eqb body.fault 0 n) in
                  let at : start_of f (suc (suc (suc k))) ≡ s0 + (s1 + (s2 + body.size)) =
                  start3 k ∙ ap (λ m. s0 + (s1 + (s2 + m))) (sym w.size) in
                  let same : (number_of (drop (start_of f (suc (suc (suc k)))) f)).fault ≡ body.fault =
                  ap (λ (g : List ℕ). (number_of g).fault) (ap (λ m. drop m f) (start3 k) ∙ behind3 (start_of f3 k)) ∙ sym w.fault in
                  let e : message_of f ≡ torn body.fault (s0 + (s1 + (s2 + body.size))) =
                  message2
                  ∙ (ap (λ m. later s0 (later s1 m)) b
                  ∙ (ap (later s0) (later-torn s1 body.fault (s2 + body.size) n)
                  ∙ later-torn s0 body.fault (s1 + (s2 + body.size)) n)) in
                  torn-end (message_of f) f (suc (suc (suc k))) (rw run3 refl)
                  (rw run3 (by_end _ _ _ _ x (omega arith) y (omega arith) u (omega (arith, w.short))))
                  (λ z. n (sym same ∙ z))
                  (rw (same, at) e)

              all_there : (numbers_of (l - 1) f3).fault ≡ 0 → WholeAt (message_of f) (message_in f) f
              unfolding dwords_of message_in
              all_there g =
                  let body = numbers_of (l - 1) f3 in
                  let w = enough (l - 1) f3 g in
                  let more : 2 + l ≡ suc (suc (suc (l - 1))) = omega (arith, least.0) in
                  let b : dwords_of l f2 ≡ found (2 + l) (s2 + body.size) =
                  rw (eq-eqb (number_of f2).fault 0 gh, eq-eqb (total_length h) l u, eq-eqb body.fault 0 g) in
                  let e : message_of f ≡ found (2 + l) (s0 + (s1 + (s2 + body.size))) =
                  message2
                  ∙ (ap (λ m. later s0 (later s1 m)) b
                  ∙ (ap (later s0) (later-found s1 (2 + l) (s2 + body.size))
                  ∙ later-found s0 (2 + l) (s1 + (s2 + body.size)))) in
                  record {
                    good = ap (λ m. m.fault) e;
                    is_whole =
                        rw (e, run3)
                        (by_whole _ _ _ _ x (omega arith) y (omega arith) u (omega (arith, w.there, least.0)));
                    dwords = rw (e, run3, more) (ap (λ (k : List ℕ). d ∷ l ∷ h ∷ k) w.dwords);
                    size = rw (e, more) (ap (λ m. s0 + (s1 + (s2 + m))) w.size ∙ sym (start3 (l - 1)));
                  }

  abbrev Either : Type 0
  Either = TornAt (message_of f) f ⊎ WholeAt (message_of f) (message_in f) f

  either : Either
  either =
      cases {X = Either} (eqb (number_of f).fault 0)
      (λ a.
      let gd = eqb-true (number_of f).fault 0 a in
      cases {X = Either} (ltb 1 d)
      (λ b. inl (wrong_direction gd (ltb-true 1 d b)))
      (λ b.
      let x = ltb-false 1 d b in
      cases {X = Either} (eqb (number_of f1).fault 0)
      (λ c.
      let gl = eqb-true (number_of f1).fault 0 c in
      cases {X = Either} (is_length l)
      (λ y.
      cases {X = Either} (eqb (number_of f2).fault 0)
      (λ e.
      let gh = eqb-true (number_of f2).fault 0 e in
      cases {X = Either} (eqb (total_length h) l)
      (λ g.
      let u = eqb-true (total_length h) l g in
      cases {X = Either} (eqb (numbers_of (l - 1) f3).fault 0)
      (λ k. inr (all_there gd x gl y gh u (eqb-true _ 0 k)))
      (λ k. inl (no_dword gd x gl y gh u (eqb-false _ 0 k))))
      (λ g. inl (wrong-header gd x gl y gh (eqb-false (total_length h) l g))))
      (λ e. inl (no_header gd x gl y (eqb-false (number_of f2).fault 0 e))))
      (λ y. inl (wrong-length gd x gl y)))
      (λ c. inl (no_length gd x (eqb-false (number_of f1).fault 0 c)))))
      (λ a. inl (no_direction (eqb-false (number_of f).fault 0 a)))

  -- what a message of a file is beside the run: the torn one ..
  pub message-torn : ((message_of f).fault ≡ 0 → ⊥) → TornAt (message_of f) f
  message-torn n = ⊎_elim (λ t. t) (λ w. absurd (n w.good)) either

  -- .. and the whole one
  pub message-whole : (message_of f).fault ≡ 0 → WholeAt (message_of f) (message_in f) f
  message-whole e = ⊎_elim (λ t. absurd (t.faulty e)) (λ w. w) either
