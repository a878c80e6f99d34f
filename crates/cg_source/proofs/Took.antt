-- How a piece is taken.
use Rattle.std.proofs.Common.{◌≡◌, ℕ, zero, suc, Bool, ◌+◌, ◌-◌, ◌<◌, ◌≤◌, List, [], ◌∷◌, ◌++◌, take, drop, length, get_or, Option, Some, None, refl, sym, ap, subst, ◌∙◌, append_assoc, append-nil, arith, length-append, length-drop, length-take}
use Rattle.std.proofs.Math.Seq.{take-add, take-append-add, take-append_seam}
use Rattle.std.proofs.lemmas.List.{get_or-append-add, get_or-drop, get_or-take, take_min}
use Rattle.std.specs.Io.KnownBytes.{Consumes, Keeps}
use Rattle.cg_text.specs.Texts.{Viable, Next}
use Rattle.cg_line.specs.declared.push.PushFault.{PushFault}
use Rattle.cg_line.specs.declared.push.PushFault.TheVariants as push
use Rattle.cg_line.specs.Runs.{StopsAt}
use Rattle.cg_snap.specs.Stop.{IsTextUnstopped, TextStopOf}
use Rattle.cg_snap.specs.declared.stop.Stop.{Stop}
use Rattle.cg_snap.specs.declared.stop.Stop.TheVariants.{Refused}
use Rattle.cg_snap.specs.declared.stop.Why.TheVariants.{Line}
use Rattle.cg_source.specs.Reading.{IsTextStarved}
use Rattle.cg_outcome.specs.Lines.{AreBehind}
use Rattle.cg_source.specs.Reading.{AreBehindEnding, ending_of, GoesOn, TookPiece, EndsBy}
use Rattle.cg_outcome.specs.declared.lines.Lines.{Lines}
use Rattle.cg_source.specs.declared.reading.Ending.{Ending}
use Rattle.cg_source.specs.declared.reading.Ending.TheVariants.{End, Stopped, ReadFault, OutOfMemory}
use Rattle.cg_outcome.specs.Wrote.{HasWritten}
use Rattle.cg_source.proofs.Stops.{unstopped, stop_refused, stop_longer, piece_at}

-- L is the set of the texts, and Took says of some bytes that the reader took them.
module _ (L Took : List ℕ → Type 0) (viable : (taken : List ℕ) → Took taken → Viable L taken) (max : ℕ) where
  pub goes_unstopped : (taken : List ℕ) → GoesOn Took max taken → IsTextUnstopped L max taken
  goes_unstopped taken h = unstopped L max taken (viable taken h.0) h.1

  -- A byte of the piece was refused.
  piece_refused : (taken piece : List ℕ) (i place : ℕ) → i < length piece → place ≡ length taken + i →
      GoesOn Took max (taken ++ take i piece) → (Next L (taken ++ take i piece) (get_or piece i 0) → ⊥) → TextStopOf L max (taken ++ piece) (Refused place Line)
  piece_refused taken piece i place within e h none =
      let at : place ≡ length (taken ++ take i piece) = omega (arith, e, within, length-append taken (take i piece), length-take i piece) in
      let here = stop_refused L max (taken ++ take i piece) (get_or piece i 0) (viable _ h.0) h.1 none in
      rw (at, ← piece_at taken piece i within) (stop_longer L max _ (drop (i + 1) piece) _ here)

-- Memory was refused for a byte of the piece.
piece_starved : (L : List ℕ → Type 0) (max : ℕ) (taken piece : List ℕ) (i : ℕ) → i < length piece → length taken + i < max → Next L (taken ++ take i piece) (get_or piece i 0) → IsTextStarved L max (taken ++ piece)
piece_starved L max taken piece i within room goes =
    let front = taken ++ take i piece in
    let whole = front ++ get_or piece i 0 ∷ [] in
    let long : length front ≡ length taken + i = omega (arith, within, length-append taken (take i piece), length-take i piece) in
    let more : length whole ≡ length front + 1 = length-append front (get_or piece i 0 ∷ []) in
    record {
      at = length front;
      within = omega (arith, long, within, length-append taken piece);
      unstopped = rw (← more, ← piece_at taken piece i within, take-append_seam whole (drop (i + 1) piece)) (unstopped L max whole goes (omega (arith, long, more, room)));
    }

module _ (Took : List ℕ → Type 0) (max : ℕ) (taken piece : List ℕ) where
  pub goes_first : GoesOn Took max taken → GoesOn Took max (taken ++ take 0 piece)
  goes_first h = rw (append-nil taken) h

pub place_is : (taken piece : List ℕ) (i : ℕ) → i < length piece → length (taken ++ take i piece) ≡ length taken + i
place_is taken piece i within = omega (arith, length-append taken (take i piece), length-take i piece)

-- ---- The bytes up to one of the piece

pub front_at : (taken piece : List ℕ) (n place : ℕ) → place ≡ length taken + n → take place (taken ++ piece) ≡ taken ++ take n piece
front_at taken piece n place e = ap (λ (k : ℕ). take k (taken ++ piece)) e ∙ take-append-add taken piece n

pub byte_at : (taken piece : List ℕ) (n place : ℕ) → place ≡ length taken + n → get_or (taken ++ piece) place 0 ≡ get_or piece n 0
byte_at taken piece n place e = ap (λ (k : ℕ). get_or (taken ++ piece) k 0) e ∙ get_or-append-add taken piece n 0

-- ---- A run of the piece's bytes: so many of those in front of what is left of it

take_less : (n m : ℕ) (xs : List ℕ) → n ≤ m → take n (take m xs) ≡ take n xs
take_less zero m xs less = refl
take_less (suc n) zero xs less = absurd (omega (arith, less))
take_less (suc n) (suc m) [] less = refl
take_less (suc n) (suc m) (x ∷ xs) less = ap (λ t. x ∷ t) (take_less n m xs (omega (arith, less)))

pub front_is : (room : ℕ) (rest : List ℕ) → take room rest ≡ take (length (take room rest)) rest
front_is room rest = rw (length-take room rest) (sym (take_min room rest))

module _ (piece rest front : List ℕ) (used n : ℕ) (rest_is : rest ≡ drop used piece) (same_front : front ≡ take (length front) rest) where
  run_front : n ≤ length front → take (used + n) piece ≡ take used piece ++ take n front
  run_front within =
      let here : take n front ≡ take n rest = ap (λ t. take n t) same_front ∙ take_less n (length front) rest within in
      take-add used n piece ∙ ap (λ t. take used piece ++ t) (sym (here ∙ ap (λ t. take n t) rest_is))

  front_byte : n < length front → get_or front n 0 ≡ get_or piece (used + n) 0
  front_byte within = ap (λ t. get_or t n 0) same_front ∙ get_or-take (length front) rest n 0 within ∙ ap (λ t. get_or t n 0) rest_is ∙ get_or-drop used piece n 0

  front_within : length front ≤ length piece - used
  front_within = omega (arith, ap length same_front, length-take (length front) rest, ap length rest_is, length-drop used piece)

  -- It was taken.
  pub goes_run : (Took : List ℕ → Type 0) (max : ℕ) (taken : List ℕ) → n ≤ length front → length taken + used + n ≤ max → Took ((taken ++ take used piece) ++ take n front) → GoesOn Took max (taken ++ take (used + n) piece)
  goes_run Took max taken within room h =
      let same : (taken ++ take used piece) ++ take n front ≡ taken ++ take (used + n) piece = append_assoc taken (take used piece) (take n front) ∙ ap (λ t. taken ++ t) (sym (run_front within)) in
      (rw same at h, omega (arith, room, length-append taken (take (used + n) piece), length-take (used + n) piece))

  -- The byte after it was not.
  pub run_stopped : (L Took : List ℕ → Type 0) → ((taken : List ℕ) → Took taken → Viable L taken) →
      (max at place : ℕ) (taken : List ℕ) (fault : PushFault) → at ≡ length taken → place ≡ at + used →
      used ≤ length piece → place + length front ≤ max → n ≤ length front →
      Took ((taken ++ take used piece) ++ take n front) → StopsAt L (taken ++ take used piece) front n (Some fault) → (byte : Option ℕ) → (used + n < length piece → byte ≡ Some (get_or piece (used + n) 0)) → TookPiece L Took max taken piece (Some (ending_of fault (place + n) byte))
  run_stopped L Took viable max at place taken push.Refused e f here room most h stops byte b =
      let same : (taken ++ take used piece) ++ take n front ≡ taken ++ take (used + n) piece = append_assoc taken (take used piece) (take n front) ∙ ap (λ t. taken ++ t) (sym (run_front most)) in
      let goes = goes_run Took max taken most (omega (arith, e, f, room, most)) h in
      let refused = piece_refused L Took viable max taken piece (used + n) (place + n) (omega (arith, stops.0, front_within, here)) (omega (arith, e, f)) goes (rw (same, front_byte stops.0) at stops.2) in
      let back : place + n ≡ length taken + (used + n) = omega (arith, e, f) in
      record {
        stops = refused;
        took = subst Took (sym (front_at taken piece (used + n) (place + n) back)) goes.0;
        within = omega (arith, room, most);
        byte_is = b (omega (arith, stops.0, front_within, here)) ∙ ap (λ (x : ℕ). Some x) (sym (byte_at taken piece (used + n) (place + n) back));
      }
  run_stopped L Took viable max at place taken push.OutOfMemory e f here room most h stops byte b =
      let same : (taken ++ take used piece) ++ take n front ≡ taken ++ take (used + n) piece = append_assoc taken (take used piece) (take n front) ∙ ap (λ t. taken ++ t) (sym (run_front most)) in
      piece_starved L max taken piece (used + n) (omega (arith, stops.0, front_within, here)) (omega (arith, e, f, room, stops.0)) (rw (same, front_byte stops.0) at stops.2)

-- The lines up to a byte that wasn't taken.
pub ended_behind : (taken piece : List ℕ) (n place : ℕ) (lines : Option Lines) (fault : PushFault) (byte : Option ℕ) → place ≡ length taken + n → AreBehind lines (taken ++ take n piece) →
    AreBehindEnding lines (taken ++ piece) (ending_of fault place byte)
ended_behind taken piece n place lines push.Refused byte e h = subst (AreBehind lines) (sym (front_at taken piece n place e)) h
ended_behind taken piece n place lines push.OutOfMemory byte e h = tt

-- The byte in front of what is behind so many.
pub byte_behind : (piece rest : List ℕ) (k : ℕ) (byte : Option ℕ) → rest ≡ drop k piece → (0 < length rest → byte ≡ Some (get_or rest 0 0)) → k < length piece → byte ≡ Some (get_or piece k 0)
byte_behind piece rest k byte e h within =
    let left : length rest ≡ length (drop k piece) = ap length e in
    let none : k + 0 ≡ k = omega arith in
    h (omega (arith, left, length-drop k piece, within)) ∙ ap (λ (x : ℕ). Some x) (ap (λ (t : List ℕ). get_or t 0 0) e ∙ get_or-drop k piece 0 0 ∙ ap (λ (n : ℕ). get_or piece n 0) none)

module _ (L : List ℕ → Type 0) (max : ℕ) (taken piece : List ℕ) where
  -- A stop at a byte of the piece.
  pub piece_stopped : (i place : ℕ) (stop : Stop) → i < length piece → place ≡ max →
      TextStopOf L place ((taken ++ take i piece) ++ get_or piece i 0 ∷ []) stop → TextStopOf L max (taken ++ piece) stop
  piece_stopped i place stop within e h = rw (← e, ← piece_at taken piece i within) (stop_longer L place _ (drop (i + 1) piece) stop h)

  -- Why a piece wasn't taken whole ends reading.
  pub ended_piece : (Took : List ℕ → Type 0) (left : Option (List ℕ)) (failed : Bool) (e : Ending) → TookPiece L Took max taken piece (Some e) → EndsBy L Took max (taken ++ piece) left failed e
  ended_piece Took left failed (End at) h = absurd h
  ended_piece Took left failed (Stopped stop byte) h = h
  ended_piece Took left failed ReadFault h = absurd h
  ended_piece Took left failed OutOfMemory h = h

-- What a sink took, of which nothing was written.
pub nothing_written : (first : Option (List ℕ)) → HasWritten first first [] 0
nothing_written None = (tt, refl)
nothing_written (Some x) = (sym (append-nil x), refl)

-- What a source gives.
pub Consumes-nil : (a : Option (List ℕ)) → Consumes a a []
Consumes-nil None = tt
Consumes-nil (Some x) = refl

pub Consumes-kept : (a b c : Option (List ℕ)) (bytes : List ℕ) → Consumes a b bytes → Keeps b c → Consumes a c bytes
Consumes-kept None b c bytes p q = tt
Consumes-kept (Some x) None c bytes p q = absurd p
Consumes-kept (Some x) (Some y) None bytes p q = absurd q
Consumes-kept (Some x) (Some y) (Some z) bytes p q = p ∙ ap (λ l. bytes ++ l) (sym q)

pub Consumes-trans : (a b c : Option (List ℕ)) (xs ys : List ℕ) → Consumes a b xs → Consumes b c ys → Consumes a c (xs ++ ys)
Consumes-trans None b c xs ys p q = tt
Consumes-trans (Some x) None c xs ys p q = absurd p
Consumes-trans (Some x) (Some y) None xs ys p q = absurd q
Consumes-trans (Some x) (Some y) (Some z) xs ys p q = p ∙ ap (λ l. xs ++ l) q ∙ sym (append_assoc xs ys z)
