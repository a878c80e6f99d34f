use Rattle.std.proofs.Common.{◌++◌, List, ℕ, [], append-nil, subst}
use Rattle.cg_value.specs.declared.profile.Profile.{Profile}
use Rattle.cg_snap.specs.GoingOn.{stream_limits}
use Rattle.cg_snap.specs.GoingOnDecoder.{IsGoingFault, IsGoneOn}
use Rattle.cg_snap.specs.GoingOnState.{form_of, going_stream}
use Rattle.cg_snap.specs.Pulled.{StandsFor}
use Rattle.cg_snap.specs.declared.limits.Limits.{Limits}
use Rattle.cg_snap.proofs.Piecewise.{begun_with}
use Rattle.cg_snap.proofs.decode.decode_snapshot_going_on.Goals as goal

pub returns-in-Some : goal.returns-in-Some
returns-in-Some c =
    let profile = c.args.profile in
    let limits = c.args.limits in
    let new = c.new-decoder.ensures in
    let d = c.new-decoder.result in
    let stands = subst (λ (f : Profile × Limits). StandsFor (going_stream f) d [] []) new.form new.stands in
    let first = begun_with going_stream form_of (profile, limits) (stream_limits limits) d c.new-found.result.items c.new-found.ensures.items stands new.stop new.form new.limits in
    subst (λ (t : List ℕ). IsGoingFault limits t c.in-Some.fault) (append-nil c.args.bytes.now) (c.in-Some.ensures (profile, limits) (stream_limits limits) first)

pub returns-in-Some-end_found : goal.returns-in-Some-end_found
returns-in-Some-end_found c =
    let profile = c.args.profile in
    let limits = c.args.limits in
    let new = c.new-decoder.ensures in
    let d = c.new-decoder.result in
    let stands = subst (λ (f : Profile × Limits). StandsFor (going_stream f) d [] []) new.form new.stands in
    let first = begun_with going_stream form_of (profile, limits) (stream_limits limits) d c.new-found.result.items c.new-found.ensures.items stands new.stop new.form new.limits in
    let all = c.in_default.ensures (profile, limits) (stream_limits limits) first in
    subst (λ (t : List ℕ). IsGoingFault limits t c.in-Some-end_found.fault) (append-nil c.args.bytes.now) (c.in-Some-end_found.ensures profile limits (c.args.bytes.now ++ []) all)

pub returns-in-None : goal.returns-in-None
returns-in-None c =
    let profile = c.args.profile in
    let limits = c.args.limits in
    let new = c.new-decoder.ensures in
    let d = c.new-decoder.result in
    let stands = subst (λ (f : Profile × Limits). StandsFor (going_stream f) d [] []) new.form new.stands in
    let first = begun_with going_stream form_of (profile, limits) (stream_limits limits) d c.new-found.result.items c.new-found.ensures.items stands new.stop new.form new.limits in
    let all = c.in_default.ensures (profile, limits) (stream_limits limits) first in
    subst (λ (t : List ℕ). IsGoneOn profile limits t c.end_found.new.found.items) (append-nil c.args.bytes.now) (c.in-None.ensures profile limits (c.args.bytes.now ++ []) all)
