-- Which bytes stop a stream, and which don't.
use Rattle.std.proofs.Common.{◌≡◌, ℕ, ◌+◌, ◌<◌, ◌≤◌, List, [], ◌∷◌, ◌++◌, take, drop, length, refl, sym, ap, subst, ◌∙◌, append_assoc, arith, inl, inr}
use Rattle.std.proofs.lemmas.Bool.{cases_lt}
use Rattle.std.proofs.lemmas.List.{append-nil, length-append, length_push, take-append-le, take-append-drop, take_all}
use Rattle.cg_text.specs.Texts.{Lacks, Viable, Next}
use Rattle.cg_snap.specs.Begun.{IsBegun, IsLongRecord}
use Rattle.cg_snap.specs.Course.{AreFew, BreaksAfter}
use Rattle.cg_snap.specs.Stop.{IsPassed, StopsAt, place_of}
use Rattle.cg_snap.specs.StreamStop.{IsFree, IsLastWhy, IsStreamUnstopped, StreamStopOf}
use Rattle.cg_snap.specs.declared.limits.Limits.{Limits}
use Rattle.cg_snap.specs.declared.stop.Stop.{Stop}
use Rattle.cg_snap.specs.declared.stop.Stop.TheVariants as stops
use Rattle.cg_snap.specs.declared.stop.Why.{Why}
use Rattle.cg_snap.proofs.Begins.{begun_push, begun_run, is_long, not_long}

module _ (L : List ℕ → Type 0) (Breaks : List ℕ → ℕ → Why → Type 0) (Many : ℕ → List ℕ → ℕ → Type 0) where
  viable_front : (text : List ℕ) (n : ℕ) → Viable L text → Viable L (take n text)
  viable_front text n h =
      let same : take n text ++ (drop n text ++ h.rest) ≡ text ++ h.rest = sym (append_assoc (take n text) (drop n text) h.rest) ∙ ap (λ t. t ++ h.rest) (take-append-drop n text) in
      record { rest = drop n text ++ h.rest; whole = subst L (sym same) h.whole }

  front_of : (s more : List ℕ) → take (length s) (s ++ more) ≡ s
  front_of s more = take-append-le {A = ℕ} (length s) s more (omega arith) ∙ take_all (length s) s (omega arith)

  pub all_of : (s : List ℕ) (b : ℕ) → take (length s + 1) (s ++ b ∷ []) ≡ s ++ b ∷ []
  all_of s b = take_all (length s + 1) (s ++ b ∷ []) (omega (arith, length-append s (b ∷ [])))

  module _ (limits : Limits) where
    abbrev Passed : List ℕ → ℕ → Type 0
    Passed text k = IsPassed L (IsLastWhy Breaks) (IsLongRecord limits.max_record) (Many limits.max_lines) limits.max_stream text k

    passed_at : (text other : List ℕ) (k : ℕ) → take (k + 1) other ≡ take (k + 1) text → Passed text k → Passed other k
    passed_at text other k e h = record {
      viable = rw e h.viable;
      short = rw e h.short;
      few = rw e h.few;
      before = h.before;
    }

    -- The first bytes of a stream that nothing stops.
    pub unstopped_front : (text more : List ℕ) → IsStreamUnstopped L Breaks Many limits (text ++ more) → IsStreamUnstopped L Breaks Many limits text
    unstopped_front text more u k within =
        passed_at (text ++ more) text k (sym (take-append-le {A = ℕ} (k + 1) text more (omega (arith, within)))) (u k (omega (arith, within, length-append text more)))

    -- The record of a byte that doesn't stop a stream had room for it.
    pub room_before : (p r : List ℕ) (b : ℕ) → IsBegun p r → IsStreamUnstopped L Breaks Many limits (p ++ b ∷ []) → length r < limits.max_record
    room_before p r b h u =
        elim (cases_lt (length r) limits.max_record) [
          | inl lt ↦ lt
          | inr ge ↦ absurd ((u (length p) (omega (arith, length_push p b))).short (rw (all_of p b) (is_long p r b limits.max_record (length p) h ge)))
        ]

    pub unstopped_push : (p : List ℕ) (b : ℕ) → IsStreamUnstopped L Breaks Many limits p → Next L p b → IsFree L Breaks Many limits p b → IsStreamUnstopped L Breaks Many limits (p ++ b ∷ [])
    unstopped_push p b u v f k within =
        elim (cases_lt k (length p)) [
          | inl lt ↦ passed_at p (p ++ b ∷ []) k (take-append-le {A = ℕ} (k + 1) p (b ∷ []) (omega (arith, lt))) (u k lt)
          | inr ge ↦
              let e : length p ≡ k = omega (arith, ge, within, length_push p b) in
              subst (λ (n : ℕ). Passed (p ++ b ∷ []) n) e (record { viable = rw (all_of p b) v; short = rw (all_of p b) f.short; few = rw (all_of p b) f.few; before = f.before })
        ]

    -- A run of bytes without a newline.
    pub unstopped_run : (p r q : List ℕ) → IsStreamUnstopped L Breaks Many limits p → Viable L (p ++ q) → IsBegun p r → Lacks 10 q → AreFew (Many limits.max_lines) p q → length r + length q ≤ limits.max_record →
        length p + length q ≤ limits.max_stream → IsStreamUnstopped L Breaks Many limits (p ++ q)
    unstopped_run p r [] u v h n few long far = rw (append-nil p) u
    unstopped_run p r (b ∷ q) u v h n few long far =
        let whole : (p ++ b ∷ []) ++ q ≡ p ++ b ∷ q = append_assoc p (b ∷ []) q in
        let front : take (length p + 1) (p ++ b ∷ q) ≡ p ++ b ∷ [] = ap (λ (t : List ℕ). take (length p + 1) t) (sym whole) ∙ ap (λ (m : ℕ). take m ((p ++ b ∷ []) ++ q)) (sym (length_push p b)) ∙ front_of (p ++ b ∷ []) q in
        let next : Next L p b = subst (Viable L) front (viable_front (p ++ b ∷ q) (length p + 1) v) in
        let free : IsFree L Breaks Many limits p b = record {
          short = not_long p r b limits.max_record (length p) h (omega (arith, long));
          few = few.0;
          before = λ e. absurd (omega (arith, far, e));
        } in
        subst (IsStreamUnstopped L Breaks Many limits) whole
        (unstopped_run (p ++ b ∷ []) (r ++ b ∷ []) q (unstopped_push p b u next free) (subst (Viable L) (sym whole) v) (begun_push p r b n.0 h) n.1 few.1
        (omega (arith, long, length_push r b)) (omega (arith, far, length_push p b)))

    few_front : (p line : List ℕ) (b : ℕ) → AreFew (Many limits.max_lines) p (line ++ b ∷ []) → AreFew (Many limits.max_lines) p line × (Many limits.max_lines ((p ++ line) ++ b ∷ []) (length (p ++ line)) → ⊥)
    few_front p [] b h = (tt, rw (append-nil p) h.0)
    few_front p (x ∷ line) b h =
        let more = few_front (p ++ x ∷ []) line b h.1 in
        let same : (p ++ x ∷ []) ++ line ≡ p ++ x ∷ line = append_assoc p (x ∷ []) line in
        ((h.0, more.0), rw same at more.1)

    -- What comes of a line, with its newline.
    pub unstopped_line : (p r line : List ℕ) → IsStreamUnstopped L Breaks Many limits p → Viable L (p ++ (line ++ 10 ∷ [])) → IsBegun p r → Lacks 10 line → AreFew (Many limits.max_lines) p (line ++ 10 ∷ []) →
        length r + (length line + 1) ≤ limits.max_record → length p + (length line + 1) ≤ limits.max_stream → IsStreamUnstopped L Breaks Many limits (p ++ (line ++ 10 ∷ []))
    unstopped_line p r line u v h n few long far =
        let same : (p ++ line) ++ 10 ∷ [] ≡ p ++ (line ++ 10 ∷ []) = append_assoc p line (10 ∷ []) in
        let next : Next L (p ++ line) 10 = subst (Viable L) (sym same) v in
        let front : Viable L (p ++ line) = subst (Viable L) (front_of (p ++ line) (10 ∷ [])) (viable_front ((p ++ line) ++ 10 ∷ []) (length (p ++ line)) next) in
        let f = few_front p line 10 few in
        let free : IsFree L Breaks Many limits (p ++ line) 10 = record {
          short = not_long (p ++ line) (r ++ line) 10 limits.max_record (length (p ++ line)) (begun_run p r line n h) (omega (arith, long, length-append r line));
          few = f.1;
          before = λ e. absurd (omega (arith, far, e, length-append p line));
        } in
        subst (IsStreamUnstopped L Breaks Many limits) same
        (unstopped_push (p ++ line) 10 (unstopped_run p r line u front h n f.0 (omega (arith, long)) (omega (arith, far))) next free)

    pub stop_at : (p : List ℕ) (b : ℕ) (stop : Stop) → IsStreamUnstopped L Breaks Many limits p →
        StopsAt L (IsLastWhy Breaks) (IsLongRecord limits.max_record) (Many limits.max_lines) limits.max_stream (p ++ b ∷ []) (length p) stop → StreamStopOf L Breaks Many limits (p ++ b ∷ []) stop
    stop_at p b stop u s = record { place = length p; within = omega (arith, length_push p b); unstopped = rw (front_of p (b ∷ [])) u; stops = s }

    pub stop_refused : (p : List ℕ) (b at : ℕ) (why : Why) → at ≡ length p → IsStreamUnstopped L Breaks Many limits p → (Next L p b → ⊥) → BreaksAfter Breaks p b why → StreamStopOf L Breaks Many limits (p ++ b ∷ []) (stops.Refused at why)
    stop_refused p b at why e u n w = stop_at p b (stops.Refused at why) u (e, rw (all_of p b) n, rw (all_of p b) (w.0, b, record { front = p; whole = refl; begins = w.1 }, w.2))

    pub stop_long : (p : List ℕ) (b at : ℕ) → at ≡ length p → IsStreamUnstopped L Breaks Many limits p →
        IsLongRecord limits.max_record (p ++ b ∷ []) (length p) → Next L p b →
        StreamStopOf L Breaks Many limits (p ++ b ∷ []) (stops.TooLong at)
    stop_long p b at e u l v = stop_at p b (stops.TooLong at) u (e, rw (all_of p b) v, rw (all_of p b) l)

    pub stop_many : (p : List ℕ) (b at : ℕ) → at ≡ length p → IsStreamUnstopped L Breaks Many limits p → (IsLongRecord limits.max_record (p ++ b ∷ []) (length p) → ⊥) → Many limits.max_lines (p ++ b ∷ []) (length p) → Next L p b →
        StreamStopOf L Breaks Many limits (p ++ b ∷ []) (stops.TooMany at)
    stop_many p b at e u s m v = stop_at p b (stops.TooMany at) u (e, rw (all_of p b) v, rw (all_of p b) s, rw (all_of p b) m)

    pub stop_much : (p : List ℕ) (b at : ℕ) → at ≡ length p → IsStreamUnstopped L Breaks Many limits p →
        (IsLongRecord limits.max_record (p ++ b ∷ []) (length p) → ⊥) →
        (Many limits.max_lines (p ++ b ∷ []) (length p) → ⊥) → length p ≡ limits.max_stream → Next L p b →
        StreamStopOf L Breaks Many limits (p ++ b ∷ []) (stops.TooMuch at)
    stop_much p b at e u s f m v = stop_at p b (stops.TooMuch at) u (e, rw (all_of p b) v, rw (all_of p b) s, rw (all_of p b) f, m)

    stops_along : (text more : List ℕ) (k : ℕ) (stop : Stop) → take (k + 1) (text ++ more) ≡ take (k + 1) text →
        StopsAt L (IsLastWhy Breaks) (IsLongRecord limits.max_record) (Many limits.max_lines) limits.max_stream text k stop →
        StopsAt L (IsLastWhy Breaks) (IsLongRecord limits.max_record) (Many limits.max_lines) limits.max_stream (text ++ more) k stop
    stops_along text more k (stops.Refused at why) e h = (h.0, rw e h.1, rw e h.2)
    stops_along text more k (stops.TooLong at) e h = (h.0, rw e h.1, rw e h.2)
    stops_along text more k (stops.TooMany at) e h = (h.0, rw e h.1, rw e h.2, rw e h.3)
    stops_along text more k (stops.TooMuch at) e h = (h.0, rw e h.1, rw e h.2, rw e h.3, h.4)
    stops_along text more k (stops.Cut at) e h = absurd h

    -- The bytes after a stop don't matter.
    pub stop_longer : (text more : List ℕ) (stop : Stop) → StreamStopOf L Breaks Many limits text stop → StreamStopOf L Breaks Many limits (text ++ more) stop
    stop_longer text more stop h =
        let within = h.within in
        let front : take h.place (text ++ more) ≡ take h.place text = take-append-le {A = ℕ} h.place text more (omega arith) in
        let next : take (h.place + 1) (text ++ more) ≡ take (h.place + 1) text = take-append-le {A = ℕ} (h.place + 1) text more (omega arith) in
        record {
          place = h.place;
          within = omega (arith, length-append text more);
          unstopped = rw front h.unstopped;
          stops = stops_along text more h.place stop next h.stops;
        }

    -- A byte that doesn't stop the stream is no place of a stop.
    not_passed : (text : List ℕ) (k : ℕ) (stop : Stop) → Passed text k →
        StopsAt L (IsLastWhy Breaks) (IsLongRecord limits.max_record) (Many limits.max_lines) limits.max_stream text k stop → ⊥
    not_passed text k (stops.Refused at why) p h = h.1 p.viable
    not_passed text k (stops.TooLong at) p h = p.short h.2
    not_passed text k (stops.TooMany at) p h = p.few h.3
    not_passed text k (stops.TooMuch at) p h = p.before h.4
    not_passed text k (stops.Cut at) p h = h

    pub told_place : (text : List ℕ) (k : ℕ) (stop : Stop) →
        StopsAt L (IsLastWhy Breaks) (IsLongRecord limits.max_record) (Many limits.max_lines) limits.max_stream text k stop → place_of stop ≡ k
    told_place text k (stops.Refused at why) h = h.0
    told_place text k (stops.TooLong at) h = h.0
    told_place text k (stops.TooMany at) h = h.0
    told_place text k (stops.TooMuch at) h = h.0
    told_place text k (stops.Cut at) h = absurd h

    -- The stop that comes with the byte after some that stop nothing has that byte's place.
    pub stop_place : (p : List ℕ) (b : ℕ) (stop : Stop) → IsStreamUnstopped L Breaks Many limits p → StreamStopOf L Breaks Many limits (p ++ b ∷ []) stop → place_of stop ≡ length p
    stop_place p b stop u h =
        elim (cases_lt h.place (length p)) [
          | inl lt ↦ absurd (not_passed (p ++ b ∷ []) h.place stop (passed_at p (p ++ b ∷ []) h.place (take-append-le {A = ℕ} (h.place + 1) p (b ∷ []) (omega (arith, lt))) (u h.place lt)) h.stops)
          | inr ge ↦ told_place (p ++ b ∷ []) h.place stop h.stops ∙ omega (arith, ge, h.within, length_push p b)
        ]
