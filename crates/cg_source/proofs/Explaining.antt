-- Why bytes are no text, from how they were taken.
use Rattle.std.proofs.Common.{◌≡◌, ◌↔◌, ◌<◌, ◌≤◌, ◌+◌, ℕ, List, true, inl, inr, None, Option, Result, Ok, Err, length, take, refl, sym, subst, length-take, arith}
use Rattle.std.proofs.lemmas.List.{take-take}
use Rattle.cg_text.specs.Texts.{FirstBad, Viable}
use Rattle.cg_text.specs.declared.memory.OutOfMemory.{OutOfMemory}
use Rattle.cg_line.specs.Decode.{IsStarved}
use Rattle.cg_snap.specs.Stop.{place_of}
use Rattle.cg_snap.specs.declared.stop.Stop.{Stop}
use Rattle.cg_snap.specs.declared.stop.Stop.TheVariants as stop
use Rattle.cg_outcome.specs.Explain.{AreNext, ExplainsNext, IsInText, TellsSpot}
use Rattle.cg_outcome.proofs.Spots as Spots
use Rattle.cg_source.specs.Explained.{IsExplained, IsExplanation, IsLine}
use Rattle.cg_source.specs.Reading.{IsStoppedAt, IsTextStarved}
use Rattle.cg_source.specs.declared.explained.Explained.{Explained}
use Rattle.cg_source.specs.declared.explained.Explained.TheVariants.{Line, Whole, NoForm}

module _ (L Took : List ℕ → Type 0) (viable : (taken : List ℕ) → Took taken → Viable L taken) (name bytes : List ℕ) where
  -- A byte stopped them.
  pub stopped : (max : ℕ) (s : Stop) (byte : Option ℕ) (line : List ℕ) → length bytes ≤ max → IsStoppedAt L Took max bytes s byte →
      TellsSpot (ExplainsNext L (IsInText name)) true (take (place_of s) bytes) byte s line → IsExplanation L name bytes line
  stopped max (stop.Refused at why) byte line few h t =
      let here : at ≡ h.stops.place = h.stops.stops.0 in
      let bad : FirstBad L bytes at = record {
        within = omega (arith, here, h.stops.within);
        before = viable (take at bytes) h.took;
        after = λ v. h.stops.stops.1 (subst (λ (k : ℕ). Viable L (take (k + 1) bytes)) here v);
      } in
      inl (at, bad, subst (λ (b : Option ℕ). ExplainsNext L (IsInText name) (take at bytes) b line) h.byte_is t)
  stopped max (stop.TooLong at) byte line few h t = absurd h.stops.stops.2
  stopped max (stop.TooMany at) byte line few h t = absurd h.stops.stops.3
  stopped max (stop.TooMuch at) byte line few h t = absurd (omega (arith, h.stops.within, h.stops.stops.4, few))
  stopped max (stop.Cut at) byte line few h t = absurd h.stops.stops

  -- They ended before a text did.
  pub ended : (at : ℕ) (line : List ℕ) → Took bytes → (L bytes → ⊥) → TellsSpot (ExplainsNext L (IsInText name)) true bytes None (stop.Cut at) line → IsExplanation L name bytes line
  ended at line took none t = inr (record { at_end = refl; viable = viable bytes took; not_whole = none }, t)

-- The line of why they are none, if there is memory for it.
pub line_told : (L : List ℕ → Type 0) (name bytes line : List ℕ) (r : Result Explained OutOfMemory) → IsExplanation L name bytes line → IsLine line r → IsExplained ⊥ L name bytes r
line_told L name bytes line (Ok (Line text)) h e = subst (IsExplanation L name bytes) (sym e) h
line_told L name bytes line (Ok Whole) h e = absurd e
line_told L name bytes line (Ok NoForm) h e = absurd e
line_told L name bytes line (Err o) h e = inr (line, h)

-- Memory was refused for one of them.
pub starved : (L : List ℕ → Type 0) (max : ℕ) (bytes : List ℕ) → IsTextStarved L max bytes → IsStarved L bytes
starved L max bytes h =
    let front = take (h.at + 1) bytes in
    let here : h.at < length front = omega (arith, h.within, length-take (h.at + 1) bytes) in
    record { at = h.at; within = h.within; goes = subst (Viable L) (take-take (h.at + 1) (h.at + 1) bytes (omega arith)) (h.unstopped h.at here).viable }

-- What is told of the texts of a set is told of those of an equal one.
module _ (L M : List ℕ → Type 0) (same : (text : List ℕ) → L text ↔ M text) (name bytes : List ℕ) where
  to : (front : List ℕ) → Viable L front → Viable M front
  to front h = record { rest = h.rest; whole = (same _).0 h.whole }

  from : (front : List ℕ) → Viable M front → Viable L front
  from front h = record { rest = h.rest; whole = (same _).1 h.whole }

  explains_as : (p : List ℕ) (what : Option ℕ) (line : List ℕ) → ExplainsNext L (IsInText name) p what line → ExplainsNext M (IsInText name) p what line
  explains_as p what line =
      Spots.explains_as (AreNext L) (AreNext M) (IsInText name) p what line
      (λ set h byte. (λ has. to _ ((h byte).0 has), λ next. (h byte).1 (from _ next)))

  explanation_as : (line : List ℕ) → IsExplanation L name bytes line → IsExplanation M name bytes line
  explanation_as line h = elim h [
    | inl bad ↦ inl (bad.0, record { within = bad.1.within; before = to _ bad.1.before; after = λ v. bad.1.after (from _ v) }, explains_as _ _ line bad.2)
    | inr cut ↦ inr (record { at_end = cut.0.at_end; viable = to _ cut.0.viable; not_whole = λ w. cut.0.not_whole ((same bytes).1 w) }, explains_as _ _ line cut.1)
  ]

  pub explained_as : (IsNone : Type 0) (r : Result Explained OutOfMemory) → IsExplained ⊥ L name bytes r → IsExplained IsNone M name bytes r
  explained_as IsNone (Ok (Line line)) h = explanation_as line.items h
  explained_as IsNone (Ok Whole) h = (same bytes).0 h
  explained_as IsNone (Ok NoForm) h = absurd h
  explained_as IsNone (Err e) h = elim h [
    | inl s ↦ inl (record { at = s.at; within = s.within; goes = to _ s.goes })
    | inr line ↦ inr (line.0, explanation_as line.0 line.1)
  ]
