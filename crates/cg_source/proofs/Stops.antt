-- Stops of one file.
use Rattle.std.proofs.Common.{◌≡◌, ℕ, suc, ◌+◌, ◌<◌, ◌≤◌, List, [], ◌∷◌, ◌++◌, take, drop, length, get_or, refl, sym, ap, ◌∙◌, append_assoc, arith, length-append, take-append-drop, drop-cons}
use Rattle.std.proofs.lemmas.List.{take_all, take-append-le}
use Rattle.cg_text.specs.Texts.{Viable, Next}
use Rattle.cg_snap.specs.Stop.{IsTextUnstopped, TextStopOf, StopsAt, is_line, never}
use Rattle.cg_snap.specs.declared.stop.Stop.{Stop}
use Rattle.cg_snap.specs.declared.stop.Stop.TheVariants.{Refused, TooLong, TooMany, TooMuch, Cut}
use Rattle.cg_snap.specs.declared.stop.Why.TheVariants.{Line}

module _ (L : List ℕ → Type 0) where
  -- Some text begins with the first bytes too.
  viable_front : (text : List ℕ) (n : ℕ) → Viable L text → Viable L (take n text)
  viable_front text n h =
      let same : take n text ++ (drop n text ++ h.rest) ≡ text ++ h.rest = sym (append_assoc (take n text) (drop n text) h.rest) ∙ ap (λ t. t ++ h.rest) (take-append-drop n text) in
      record { rest = drop n text ++ h.rest; whole = rw same h.whole }

  -- Bytes with which some text begins, of which there are few enough, don't stop.
  pub unstopped : (max : ℕ) (text : List ℕ) → Viable L text → length text ≤ max → IsTextUnstopped L max text
  unstopped max text h few k within = record {
    viable = viable_front text (k + 1) h;
    short = λ e. e;
    few = λ e. e;
    before = λ e. absurd (omega (arith, e));
  }

  front_of : (s more : List ℕ) → take (length s) (s ++ more) ≡ s
  front_of s more = take-append-le {A = ℕ} (length s) s more (omega arith) ∙ take_all (length s) s (omega arith)

  all_of : (s : List ℕ) (b : ℕ) → take (length s + 1) (s ++ b ∷ []) ≡ s ++ b ∷ []
  all_of s b = take_all (length s + 1) (s ++ b ∷ []) (omega (arith, length-append s (b ∷ [])))

  -- The next byte is refused.
  pub stop_refused : (max : ℕ) (s : List ℕ) (b : ℕ) → Viable L s → length s ≤ max → (Next L s b → ⊥) → TextStopOf L max (s ++ b ∷ []) (Refused (length s) Line)
  stop_refused max s b h few none = record {
    place = length s;
    within = omega (arith, length-append s (b ∷ []));
    unstopped = rw (front_of s (b ∷ [])) (unstopped max s h few);
    stops = (refl, (λ v. none (rw (all_of s b) at v)), refl);
  }

  -- The place of the next byte is the limit.
  pub stop_too_much : (s : List ℕ) (b : ℕ) → Viable L s → Next L s b → TextStopOf L (length s) (s ++ b ∷ []) (TooMuch (length s))
  stop_too_much s b h next = record {
    place = length s;
    within = omega (arith, length-append s (b ∷ []));
    unstopped = rw (front_of s (b ∷ [])) (unstopped (length s) s h (omega arith));
    stops = (refl, rw (all_of s b) next, (λ e. e), (λ e. e), refl);
  }

  stops_along : (max : ℕ) (text more : List ℕ) (k : ℕ) (stop : Stop) → take (k + 1) (text ++ more) ≡ take (k + 1) text →
      StopsAt L is_line never never max text k stop → StopsAt L is_line never never max (text ++ more) k stop
  stops_along max text more k (Refused at why) e h = (h.0, (λ v. h.1 (rw e at v)), h.2)
  stops_along max text more k (TooLong at) e h = absurd h.2
  stops_along max text more k (TooMany at) e h = absurd h.3
  stops_along max text more k (TooMuch at) e h = (h.0, rw e h.1, h.2, h.3, h.4)
  stops_along max text more k (Cut at) e h = absurd h

  -- The bytes after a stop don't matter.
  pub stop_longer : (max : ℕ) (text more : List ℕ) (stop : Stop) → TextStopOf L max text stop → TextStopOf L max (text ++ more) stop
  stop_longer max text more stop h =
      let within = h.within in
      let front : take h.place (text ++ more) ≡ take h.place text = take-append-le {A = ℕ} h.place text more (omega arith) in
      let next : take (h.place + 1) (text ++ more) ≡ take (h.place + 1) text = take-append-le {A = ℕ} (h.place + 1) text more (omega arith) in
      record {
        place = h.place;
        within = omega (arith, length-append text more);
        unstopped = rw front h.unstopped;
        stops = stops_along max text more h.place stop next h.stops;
      }

-- A piece is its first bytes, the next and the others.
pub piece_at : (taken piece : List ℕ) (i : ℕ) → i < length piece → ((taken ++ take i piece) ++ get_or piece i 0 ∷ []) ++ drop (i + 1) piece ≡ taken ++ piece
piece_at taken piece i h =
    let next : drop i piece ≡ get_or piece i 0 ∷ drop (suc i) piece = drop-cons piece i 0 h in
    let one : i + 1 ≡ suc i = omega arith in
    append_assoc (taken ++ take i piece) (get_or piece i 0 ∷ []) (drop (i + 1) piece) ∙ append_assoc taken (take i piece) (get_or piece i 0 ∷ drop (i + 1) piece)
    ∙ ap (λ t. taken ++ t) (ap (λ n. take i piece ++ get_or piece i 0 ∷ drop n piece) one ∙ ap (λ t. take i piece ++ t) (sym next) ∙ take-append-drop i piece)
