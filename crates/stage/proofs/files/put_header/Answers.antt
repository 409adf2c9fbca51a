-- `files::put_header` meets its contract: each dword at its place. Assumes nothing.
use Rattle.std.proofs.Common.{◌%◌, ◌^◌, ap, ◌∙◌}
use Rattle.stage.specs.Files.{dword, header}
use Rattle.stage.proofs.files.put_header.Goals as goal

pub returns : goal.returns
unfolding header
returns c =
    let version = c in
    let e = version in
    let m = e in
    let k = m in
    let s = k in
    let h = s in
    let z = h.args.z in
    version.put_dword.ensures ∙ ap (dword 64 0x460501)
    (e.put_size-5.ensures ∙ ap (dword 36 (z.e % 2 ^ 32))
    (m.put_size-4.ensures ∙ ap (dword 32 (z.m % 2 ^ 32))
    (k.put_size-3.ensures ∙ ap (dword 28 (z.k % 2 ^ 32))
    (s.put_size-2.ensures ∙ ap (dword 24 (z.s % 2 ^ 32)) h.put_size.ensures))))
