-- `version::css_version` meets its contract. Assumes nothing.
use Rattle.refusal.proofs.NotZero.{number-not-0}
use Rattle.std.proofs.lemmas.Result.{err_from_is_err_and}
use native.Mathlib.Omega.{arith}
use Rattle.firmware.specs.Version.{of_version, css_reading, reading}
use Rattle.firmware.proofs.Lies.{css-accepted, located-code}
use Rattle.firmware.proofs.version.css_version.Goals as goal

pub returns-in_err-css_located : goal.returns-in_err-css_located
unfolding of_version css_reading reading
returns-in_err-css_located c = let p = err_from_is_err_and c.from_residual.result c.from_residual.ensures.1 in
    rw (p.1, p.2) (simp (located-code _ _ _ c.in_err-css_located.ensures, number-not-0))

pub dword_at-v-requires : goal.dword_at-v-requires
dword_at-v-requires c = let a = css-accepted _ (located-code _ _ _ c.in_ok-css_located.ensures) in omega arith

pub returns : goal.returns
unfolding of_version css_reading reading
returns c = simp (located-code _ _ _ c.in_ok-css_located.ensures, ← c.dword_at-v.ensures.0)
