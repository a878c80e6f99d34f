-- What holds of a decoder that took some bytes, whatever stream it is of.
use Rattle.std.proofs.Common.{◌≡◌, ℕ, ◌≤◌, List, length, subst, ap, arith}
use Rattle.cg_snap.specs.Course.{Stream}
use Rattle.cg_snap.specs.Pulled.{HasPulled}
use Rattle.cg_snap.specs.StreamStop.{IsStreamUnstopped}
use Rattle.cg_snap.specs.declared.decoder.Decoder.{Decoder}
use Rattle.cg_snap.specs.declared.limits.Limits.{Limits}

module _ {R Form Part : Type 0} {stream : Form → Stream R Part} {form_of : R → Form} (d : Decoder R) (form : Form) (limits : Limits) (p : List ℕ) (es : List Part)
    (h : HasPulled stream form_of d form limits p es) where
  pub taken_closed : (stream form).closes p es
  taken_closed = subst (λ (q : Form). (stream q).closes p es) h.form_is h.stands.closed

  pub taken_unstopped : IsStreamUnstopped (stream form).language (stream form).breaks (stream form).many limits p
  taken_unstopped =
      subst (λ (q : Form). IsStreamUnstopped (stream q).language (stream q).breaks (stream q).many limits p) h.form_is
      (subst (λ (l : Limits). let s = stream (form_of d.records) in IsStreamUnstopped s.language s.breaks s.many l p) h.limits_is h.stands.unstopped)

  pub taken_counted : (d.meter.offset ≡ length p) × (length p ≤ limits.max_stream)
  taken_counted = (h.stands.counted.offset, omega (arith, h.stands.counted.within, ap (λ (l : Limits). l.max_stream) h.limits_is))
