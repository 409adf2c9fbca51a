-- Messages agree with the tables: unpacking reads exactly the table's fields, and packing and unpacking undo each
-- other, for every type at once. Assumes nothing.
use Prim.Native.Nat.{ℕ, ◌+◌, ◌≤◌, ◌<◌, ◌^◌}
use mathlib.Core.Path.{◌≡◌, refl, ap, ◌∙◌, subst}
use mathlib.Core.Bool.{Bool, true, false, ◌&&◌, cond}
use mathlib.Core.List.{List, ◌∷◌}
use mathlib.Core.Option.{Option, none, some}
use native.Mathlib.Omega.{arith}
use native.Mathlib.Nat.{mod-eq_of_lt, zero-mul, zero-add}
use lib.ListN.{length, get_or}
use lib.Dec.{eqb, leb}
use borrow.Author.Tests.{eqb-true, eqb-false, leb-true, eq-eqb, le-leb}
use Rattle.message.specs.Fields.{fence, num_dwords, origin, type, request_data, request_action, field_of, FieldValue, fit, dword, holds}
use Rattle.message.specs.Types.{type_of, bodies_from, bodies, of_type, body_of, known}
use Rattle.message.specs.Header.{is_message}
use Rattle.message.specs.Packing.{origin_number, origin_of, decoded, unpack, header_fields, hxg_fields, pack, refusing}
use Rattle.message.specs.Agreement.{MendedRule, Agreement}
use Rattle.message.specs.declared.Origin.{Origin}
use Rattle.message.specs.declared.Origin.TheVariants.{Host, Guc}
use Rattle.message.specs.declared.Body.{Body}
use Rattle.message.specs.declared.Body.TheVariants.{FastRequest}
use Rattle.message.specs.declared.Message.{Message}
use Rattle.message.proofs.Tests.{and_l, and_r}
use Rattle.message.proofs.Tiling.{tiles, holds-first, holds-rest, holds-fit, dword_lt, dword-holds, dword_again}
use Rattle.message.proofs.Types.{type_4_unknown, others-known, known_body, body_known, body_holds, holds_body}
use Rattle.message.proofs.Formed.{WellFormed, well_formed_fact, well_formed-i, message-length, message_well, message-i}
use Rattle.message.proofs.PackLaws.{header_tiles, hxg_tiles, unpack_some, unpack-none}

-- the origin's bit, there and back
pub origin-back : (o : Origin) → origin_of (origin_number o) ≡ o
unfolding origin_of origin_number
origin-back Host = refl
origin-back Guc = refl

pub origin-there : (bit : ℕ) → bit < 2 → origin_number (origin_of bit) ≡ bit
unfolding origin_of origin_number
origin-there bit l = go (eqb bit 0) refl
  where
    go : (t : Bool) → eqb bit 0 ≡ t → origin_number (cond t Host Guc) ≡ bit
    go true e = omega (arith, eqb-true bit 0 e)
    go false e = omega (arith, eqb-false bit 0 e)

-- what an answer carries
pub answers : {A : Type 0} (n : ℕ) (x : Option A) → (refusing n x).value ≡ x
unfolding refusing
answers n none = refl
answers n (some a) = refl

eqb_self : (n : ℕ) → eqb n n ≡ true
eqb_self n = eq-eqb n n refl

-- the fields of a decoded message are where its two dwords have them
decoded-header : (h w : ℕ) (b : Body) → WellFormed h w → holds (header_fields (decoded h w b)) h ≡ true
unfolding holds header_fields decoded
decoded-header h w b f = simp (eqb_self, eq-eqb _ _ f.format_zero, eq-eqb _ _ f.reserved_zero)

decoded_hxg : (h w : ℕ) (b : Body) → body_of w ≡ some b → holds (hxg_fields (decoded h w b)) w ≡ true
unfolding holds hxg_fields decoded
decoded_hxg h w b e = simp (origin-there (field_of origin w) (omega arith), eqb_self, body_holds w b e)

-- what unpacks is whole, and is what its two dwords hold
pub record Unpacks (d : List ℕ) (m : Message) : Type 0 where
  pub is_message_fact : is_message d ≡ true
  pub header : holds (header_fields m) (get_or d 0 0) ≡ true
  pub hxg : holds (hxg_fields m) (get_or d 1 0) ≡ true

unpacks : (d : List ℕ) (m : Message) → unpack d ≡ some m → Unpacks d m
unpacks d m u = go (is_message d) refl
  where
    go : (t : Bool) → is_message d ≡ t → Unpacks d m
    go false e = let z : ◌≡◌ {A = ℕ} 0 1 = cc (unpack-none d e) in absurd (omega arith)
    go true e =
        let f = message_well d e in
        let k = known_body (get_or d 1 0) f.known-type in
        let h = get_or d 0 0 in
        let w = get_or d 1 0 in
        let same : decoded h w k.0 ≡ m = cc (unpack_some d k.0 e k.1) in
        record {
          is_message_fact = e;
          header = subst (λ (x : Message). holds (header_fields x) h ≡ true) same (decoded-header h w k.0 f);
          hxg = subst (λ (x : Message). holds (hxg_fields x) w ≡ true) same (decoded_hxg h w k.0 k.1);
        }

-- a message is what a header and an HXG dword 0 with its fields are decoded to
decoded_same :
    (h w : ℕ) (m : Message) → holds (header_fields m) h ≡ true → holds (hxg_fields m) w ≡ true
    → decoded h w m.body ≡ m
unfolding header_fields hxg_fields decoded
decoded_same h w m e f =
    let o : origin_of (field_of origin w) ≡ m.origin = ap origin_of (holds-first _ _ w f) ∙ origin-back m.origin in
    let x : field_of fence h ≡ m.fence = holds-first _ _ h e in
    let n : field_of num_dwords h ≡ m.num_dwords = holds-first _ _ h (holds-rest _ _ h (holds-rest _ _ h (holds-rest _ _ h e))) in
    λ i. record { origin = o i; fence = x i; num_dwords = n i; body = m.body }

unpacks-i : (d : List ℕ) (m : Message) → Unpacks d m → unpack d ≡ some m
unfolding hxg_fields
unpacks-i d m u =
    unpack_some d m.body u.is_message_fact (holds_body (get_or d 1 0) m.body (holds-rest _ _ (get_or d 1 0) u.hxg))
    ∙ ap some (decoded_same (get_or d 0 0) (get_or d 1 0) m u.header u.hxg)

-- what packs fits, and gives the dwords of its fields
pub record Packs (m : Message) (h w : ℕ) : Type 0 where
  pub low : 1 ≤ m.num_dwords
  pub header-fits : fit (header_fields m) ≡ true
  pub hxg_fits : fit (hxg_fields m) ≡ true
  pub header : dword (header_fields m) ≡ h
  pub hxg : dword (hxg_fields m) ≡ w

packs : (m : Message) (h w : ℕ) → pack m ≡ some (h, w) → Packs m h w
unfolding pack
packs m h w e = go (leb 1 m.num_dwords && fit (header_fields m) && fit (hxg_fields m)) refl e
  where
    go : (t : Bool) → (leb 1 m.num_dwords && fit (header_fields m) && fit (hxg_fields m)) ≡ t
        → cond {A = Option (ℕ × ℕ)} t (some (dword (header_fields m), dword (hxg_fields m))) none ≡ some (h, w) → Packs m h w
    go true q f =
        let both : ◌≡◌ {A = ℕ × ℕ} (dword (header_fields m), dword (hxg_fields m)) (h, w) = cc in
        record {
          low = leb-true 1 m.num_dwords (search (and_l, and_r));
          header-fits = search (and_l, and_r);
          hxg_fits = search (and_l, and_r);
          header = ap (λ (x : ℕ × ℕ). x.0) both;
          hxg = ap (λ (x : ℕ × ℕ). x.1) both;
        }
    go false q f = let z : ◌≡◌ {A = ℕ} 0 1 = cc in absurd (omega arith)

packs-i : (m : Message) → 1 ≤ m.num_dwords → fit (header_fields m) ≡ true → fit (hxg_fields m) ≡ true
    → pack m ≡ some (dword (header_fields m), dword (hxg_fields m))
unfolding pack
packs-i m l e f = simp (le-leb _ _ l, e, f)

-- a dword of fields that fit holds them
made_holds : (es : List FieldValue) (w : ℕ) → tiles 32 es ≡ true → fit es ≡ true → dword es ≡ w → holds es w ≡ true
made_holds es w t f e =
    subst (λ (x : ℕ). holds es x ≡ true) ((zero-add (dword es)) ∙ e) (rw (zero-mul (2 ^ 32)) at (dword-holds 32 0 es t f))

-- and one that holds its fields is made of them
made_again : (es : List FieldValue) (w : ℕ) → w < 2 ^ 32 → tiles 32 es ≡ true → holds es w ≡ true → dword es ≡ w
made_again es w l t h = dword_again 32 w es t h ∙ mod-eq_of_lt l

there :
    (m : Message) (h w : ℕ) (rest : List ℕ) → pack m ≡ some (h, w) → length rest + 1 ≡ m.num_dwords
    → unpack (h ∷ w ∷ rest) ≡ some m
unfolding header_fields hxg_fields
there m h w rest e n =
    let p = packs m h w e in
    let eh = made_holds (header_fields m) h (header_tiles m) p.header-fits p.header in
    let ew = made_holds (hxg_fields m) w (hxg_tiles m) p.hxg_fits p.hxg in
    let eh₁ = holds-rest _ _ h eh in
    let eh₂ = holds-rest _ _ h eh₁ in
    let num : field_of num_dwords h ≡ m.num_dwords = holds-first _ _ h (holds-rest _ _ h eh₂) in
    let k : known w ≡ true = body_known w m.body (holds_body w m.body (holds-rest _ _ w ew)) in
    let f : WellFormed h w = record {
      format_zero = holds-first _ _ h eh₁;
      reserved_zero = holds-first _ _ h eh₂;
      low = omega (arith, p.low);
      high = omega arith;
      known-type = k;
    } in
    unpacks-i (h ∷ w ∷ rest) m (record { is_message_fact = message-i (h ∷ w ∷ rest) (omega arith) f; header = eh; hxg = ew })

-- NUM_DWORDS of a message that unpacks is not 0
header-low : (d : List ℕ) (m : Message) → Unpacks d m → 1 ≤ m.num_dwords
unfolding header_fields
header-low d m u =
    let h = get_or d 0 0 in
    let e = holds-first _ _ h (holds-rest _ _ h (holds-rest _ _ h (holds-rest _ _ h u.header))) in
    omega (arith, (message_well d u.is_message_fact).low, e)

-- what unpacks fits its places, so that it packs
packs_again : (d : List ℕ) (m : Message) → Unpacks d m → pack m ≡ some (dword (header_fields m), dword (hxg_fields m))
packs_again d m u =
    packs-i m (header-low d m u) (holds-fit (header_fields m) (get_or d 0 0) u.header) (holds-fit (hxg_fields m) (get_or d 1 0) u.hxg)

back :
    (d : List ℕ) (m : Message) → get_or d 0 0 < 2 ^ 32 → get_or d 1 0 < 2 ^ 32 → unpack d ≡ some m
    → pack m ≡ some (get_or d 0 0, get_or d 1 0)
back d m lh lw e =
    let u = unpacks d m e in
    let eh = made_again (header_fields m) (get_or d 0 0) lh (header_tiles m) u.header in
    let ew = made_again (hxg_fields m) (get_or d 1 0) lw (hxg_tiles m) u.hxg in
    rw (packs_again d m u, eh, ew)

never : (d : List ℕ) (m : Message) → pack m ≡ none → unpack d ≡ some m → ⊥
never d m n e = let z : ◌≡◌ {A = ℕ} 0 1 = cc (packs_again d m (unpacks d m e)) in omega arith

packs-to :
    (m : Message) (h w : ℕ) → pack m ≡ some (h, w)
    → (1 ≤ m.num_dwords) × (holds (header_fields m) h ≡ true) × (holds (hxg_fields m) w ≡ true)
packs-to m h w e =
    let p = packs m h w e in
    let eh = made_holds (header_fields m) h (header_tiles m) p.header-fits p.header in
    let ew = made_holds (hxg_fields m) w (hxg_tiles m) p.hxg_fits p.hxg in
    (p.low, eh, ew)

packs-from :
    (m : Message) (h w : ℕ) → h < 2 ^ 32 → w < 2 ^ 32
    → (1 ≤ m.num_dwords) × (holds (header_fields m) h ≡ true) × (holds (hxg_fields m) w ≡ true) → pack m ≡ some (h, w)
packs-from m h w lh lw u =
    let eh = made_again (header_fields m) h lh (header_tiles m) u.1 in
    let ew = made_again (hxg_fields m) w lw (hxg_tiles m) u.2 in
    rw (packs-i m u.0 (holds-fit (header_fields m) h u.1) (holds-fit (hxg_fields m) w u.2), eh, ew)

-- a header and an HXG dword 0 are well formed by the paper's list exactly when they are by the test, type 4 being the
-- unknown one
rule_from : (h w : ℕ) → WellFormed h w → MendedRule h w
rule_from h w f = (f.format_zero, f.reserved_zero, f.low, f.high, type_4_unknown w f.known-type)

rule_to : (h w : ℕ) → MendedRule h w → WellFormed h w
rule_to h w f = record { format_zero = f.0; reserved_zero = f.1; low = f.2; high = f.3; known-type = others-known w f.4 }

fast_request : (w : ℕ) → field_of type w ≡ 2 → body_of w ≡ some (FastRequest (field_of request_data w) (field_of request_action w))
unfolding body_of bodies bodies_from of_type type_of
fast_request w e = simp e

pub agreement : Agreement
agreement =
    record {
      packing-answers = λ m. answers 14 (pack m);
      unpacking_answers = λ d. answers 4 (unpack d);
      only_4_unknown = λ w. (type_4_unknown w, others-known w);
      fast_request = fast_request;
      well_formed_fact = λ h w. (λ e. rule_from h w (well_formed_fact h w e), λ f. well_formed-i h w (rule_to h w f));
      is_message_fact =
          λ d. (
            λ e. (message-length d e, rule_from (get_or d 0 0) (get_or d 1 0) (message_well d e)),
            λ f. message-i d f.0 (rule_to (get_or d 0 0) (get_or d 1 0) f.1),
          );
      accepts =
          λ d e. let k = known_body (get_or d 1 0) (message_well d e).known-type in
          (decoded (get_or d 0 0) (get_or d 1 0) k.0, unpack_some d k.0 e k.1);
      refuses = unpack-none;
      unpacks =
          λ d m. (
            λ e. let u = unpacks d m e in (u.is_message_fact, u.header, u.hxg),
            λ u. unpacks-i d m (record { is_message_fact = u.0; header = u.1; hxg = u.2 }),
          );
      packs = λ m h w lh lw. (packs-to m h w, packs-from m h w lh lw);
      dwords =
          λ m h w e. let p = packs m h w e in (
            subst (λ (x : ℕ). x < 2 ^ 32) p.header (dword_lt 32 (header_fields m) (header_tiles m) p.header-fits),
            subst (λ (x : ℕ). x < 2 ^ 32) p.hxg (dword_lt 32 (hxg_fields m) (hxg_tiles m) p.hxg_fits),
          );
      there = there;
      back = back;
      never = never;
    }
