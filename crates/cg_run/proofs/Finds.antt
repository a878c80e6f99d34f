-- What a call of a reader came to that gave no part, or the part of what its decoder gave.
use Rattle.std.proofs.Common.{◌≡◌, ℕ, List, [], ◌∷◌, ◌++◌, map, take, sym, ap, subst, ◌∙◌, append-nil, inl, inr}
use Rattle.cg_snap.specs.declared.event.Event.{Event}
use Rattle.cg_snap.specs.declared.event.Event.TheVariants as events
use Rattle.cg_snap.specs.declared.stop.Stop.{Stop}
use Rattle.cg_run.specs.Stream.{PartsOf}
use Rattle.cg_run.specs.Streaming.{FoundIs, IsAppended, LeadsTo}
use Rattle.cg_run.proofs.Parts.{push_part}
use Rattle.cg_run.proofs.Pulled.{PulledBy}
use Rattle.cg_run.proofs.Written.{joined_one}

module _ {Closes : List ℕ → List (List ℕ) → Type 0} {Unstopped : List ℕ → Type 0} {Took : List ℕ → List (List ℕ) → Type 0} {StopsBy : List ℕ → Stop → Type 0}
    {p : List ℕ} {parts : List (List ℕ)} {piece : List ℕ} {used : ℕ} {old new : List ℕ} {found : Event (Unit {0})} where
  pub no_more : new ≡ old → LeadsTo Closes Unstopped Took StopsBy p parts piece used found → FoundIs Closes Unstopped Took StopsBy p parts piece used old new found
  no_more e h = record {
    more = [];
    out_is = e ∙ sym (append-nil old);
    leads = subst (λ (all : List (List ℕ)). LeadsTo Closes Unstopped Took StopsBy p all piece used found) (sym (append-nil parts)) h;
  }

module _ {E : Type 0} (part : E → List ℕ) (Taken Closed : List ℕ → List E → Type 0) (Unstopped : List ℕ → Type 0) (StopOf : List ℕ → Stop → Type 0)
    (closed : (q : List ℕ) (es : List E) → Taken q es → Closed q es) (unstopped : (q : List ℕ) (es : List E) → Taken q es → Unstopped q)
    (p : List ℕ) (es : List E) (parts : List (List ℕ)) (parts_are : parts ≡ map part es) (piece : List ℕ) (used : ℕ) (old new : List ℕ) where
  abbrev Finds : Event (Unit {0}) → Type 0
  Finds found = FoundIs (PartsOf part Closed) Unstopped (PartsOf part Taken) StopOf p parts piece used old new found

  -- What a decoder gave was appended, if it gave something.
  pub appended_is : (what : Event E) (found : Event (Unit {0})) → PulledBy Taken Closed Unstopped StopOf p es piece used what → IsAppended part what old new found → Finds found
  appended_is events.NeedMore events.NeedMore w e = no_more e (es, w, parts_are)
  appended_is events.NeedMore (events.Given u) w e = absurd e
  appended_is events.NeedMore (events.Stopped s) w e = absurd e
  appended_is events.NeedMore events.OutOfMemory w e = absurd e
  appended_is (events.Given x) events.NeedMore w e = absurd e
  appended_is (events.Given x) (events.Given u) w e = record {
    more = part x ∷ [];
    out_is = e ∙ ap (λ t. old ++ t) (joined_one (part x));
    leads = (es ++ x ∷ [], w.1, push_part part es x parts parts_are);
  }
  appended_is (events.Given x) (events.Stopped s) w e = absurd e
  appended_is (events.Given x) events.OutOfMemory w e = no_more e (inr (
    part x ∷ [],
    (λ z. cc),
    unstopped (p ++ take used piece) (es ++ x ∷ []) w.1,
    (es ++ x ∷ [], closed (p ++ take used piece) (es ++ x ∷ []) w.1, push_part part es x parts parts_are),
  ))
  appended_is (events.Stopped stop) events.NeedMore w e = absurd e
  appended_is (events.Stopped stop) (events.Given u) w e = absurd e
  appended_is (events.Stopped stop) (events.Stopped s) w e =
      subst (λ (t : Stop). Finds (events.Stopped t)) (sym e.1) (no_more e.0 (w.0, w.1, w.2, (es, w.3, parts_are)))
  appended_is (events.Stopped stop) events.OutOfMemory w e = absurd e
  appended_is events.OutOfMemory events.NeedMore w e = absurd e
  appended_is events.OutOfMemory (events.Given u) w e = absurd e
  appended_is events.OutOfMemory (events.Stopped s) w e = absurd e
  appended_is events.OutOfMemory events.OutOfMemory w e = no_more e (inl (w.0, w.1, w.2, (es, w.3, parts_are)))
