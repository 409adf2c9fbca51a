-- The reading of a manifest, by whether it is found. Assumes nothing.
use Prim.Native.Nat.{ℕ}
use mathlib.Core.Path.{◌≡◌, sym}
use mathlib.Core.List.{List}
use Rattle.std.specs.Prelude.{Err}
use Rattle.refusal.specs.declared.Refusal.{Refusal}
use Rattle.refusal.specs.Numbers.{number}
use Rattle.refusal.proofs.NotZero.{number-not-0}
use Rattle.firmware.specs.Cpd
use Rattle.firmware.specs.Inside.{manifest_name, manifest_number, part_named}
use Rattle.firmware.specs.Version.{Reading, of_manifest, manifest_reading, reading}
use Rattle.firmware.specs.Private.{manifest_in}

pub refused_reading : (b : List ℕ) (r : Refusal) → Cpd.number b manifest_name ≡ number r → of_manifest (Err r) ≡ manifest_reading b
unfolding manifest_reading manifest_number reading of_manifest
refused_reading b r e = simp (e, number-not-0)

pub found_reading :
    (b m : List ℕ) (x : Reading) → Cpd.number b manifest_name ≡ 0 → m ≡ part_named b manifest_name → x ≡ manifest_in m
    → x ≡ manifest_reading b
unfolding manifest_reading manifest_number manifest_in
found_reading b m x e p q = simp e (rw p at q)
