use Rattle.std.proofs.Common.{◌≡◌, ◌<◌, length, take, sym, ◌∙◌, arith}
use Rattle.std.proofs.lemmas.Bool.Decides.{Decides-eqb}
use Rattle.std.proofs.lemmas.Slice.Eq.{slice_eq-Decides}
use Rattle.cg_snap.proofs.Heads.{repeats_is}
use Rattle.cg_snap.proofs.entry.repeats.Goals as goal

pub returns : goal.returns
returns c = λ e.
    let x = c.args.present.now in
    let bytes = c.args.bytes.now in
    let size = c.len-size.result in
    let inside : size < length bytes = omega (arith, c.if-size-bytes.false) in
    let same : c.split_at.result.0.now ≡ c.as_slice.result.now = (slice_eq-Decides Decides-eqb _ _ _ c.eq.ensures).0 e in
    let path : take size bytes ≡ x.path.items = sym c.split_at.ensures.front ∙ (same ∙ c.as_slice.ensures.value) in
    repeats_is x bytes size c.args.max_lines inside c.if-bytes-size-ne0.false path c.if-present-max_lines.false
