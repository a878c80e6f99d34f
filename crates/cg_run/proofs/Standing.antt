-- Where a reader stands behind a stop.
use Rattle.std.proofs.Common.{◌≡◌, ◌↔◌, ℕ, List, Bool, true, false, not, IsTrue, refl, sym, subst, true≢false}
use Rattle.std.specs.Prelude.{MatchBool}
use Rattle.cg_text.specs.Bytes.{HasByte}
use Rattle.cg_text.specs.Texts.{Next}
use Rattle.cg_snap.specs.Course.{Stream}
use Rattle.cg_snap.specs.Pulled.{WhatCame}
use Rattle.cg_snap.specs.declared.decoder.Decoder.{Decoder}
use Rattle.cg_snap.specs.declared.event.Event.{Event}
use Rattle.cg_snap.specs.declared.event.Event.TheVariants as events
use Rattle.cg_snap.specs.declared.limits.Limits.{Limits}
use Rattle.cg_run.specs.Stood.{HasStood}
use Rattle.cg_run.specs.Streaming.{HasNoWhole, HasWhole, IsAppended, StandsBehind}
use Rattle.cg_outcome.specs.declared.outcome.Outcome.{Outcome}

module _ {R Form Part : Type 0} (stream : Form → Stream R Part) (form_of : R → Form) (now : Decoder R) (form : Form) (limits : Limits) (same_form : form_of now.records ≡ form) (same_limits : now.meter.limits ≡ limits)
    (p : List ℕ) (es : List Part) (piece : List ℕ) (used : ℕ) where
  -- What a decoder came to, if it appends nothing.
  pub came_stood : (what : Event Part) (found : Event (Unit {0})) (part : Part → List ℕ) (old new : List ℕ) → WhatCame (stream (form_of now.records)) now p es piece used what → IsAppended part what old new found →
      StandsBehind (HasStood stream form_of now form limits) p piece used found
  came_stood what events.NeedMore part old new w e = tt
  came_stood what (events.Given u) part old new w e = tt
  came_stood what events.OutOfMemory part old new w e = tt
  came_stood events.NeedMore (events.Stopped s) part old new w e = absurd e
  came_stood (events.Given x) (events.Stopped s) part old new w e = absurd e
  came_stood events.OutOfMemory (events.Stopped s) part old new w e = absurd e
  came_stood (events.Stopped t) (events.Stopped s) part old new w e = (w.1, record { parts = es; stands = w.3; form_is = same_form; limits_is = same_limits })

-- What a decoder tells of its own form is so of the form that is the same.
module _ {Form : Type 0} (Language : Form → List ℕ → Type 0) {own form : Form} (same : own ≡ form) (p : List ℕ) where
  -- The bytes that may come.
  pub wanted_is : (set : List Bool) → ((byte : ℕ) → HasByte set byte ↔ Next (Language own) p byte) → (byte : ℕ) → HasByte set byte ↔ Next (Language form) p byte
  wanted_is set h = subst (λ (q : Form). (byte : ℕ) → HasByte set byte ↔ Next (Language q) p byte) same h

  -- Whether the bytes are a whole stream.
  pub cut_is : (Whole : List ℕ → List (List ℕ) → Outcome → Type 0) (can_finish : Bool) → (IsTrue can_finish ↔ Language own p) → (Language form p ↔ HasWhole Whole p) →
      MatchBool (not can_finish) (HasNoWhole Whole p) (HasWhole Whole p)
  cut_is Whole true f s = s.0 (subst (λ (q : Form). Language q p) same (f.0 refl))
  cut_is Whole false f s = λ all o x. true≢false (sym (f.1 (subst (λ (q : Form). Language q p) (sym same) (s.1 (all, o, x)))))
