-- Where a stop is.
use Rattle.std.proofs.Common.{◌≡◌, ℕ, ◌≤◌, Bool, true, false, not, List, [], ◌∷◌, ◌++◌, length, take, get_or, Option, Some, refl, sym, ap, subst, ◌∙◌, true≢false, arith, length-append}
use Rattle.cg_text.specs.Token.{saturated}
use Rattle.cg_snap.specs.Begun.{IsBegun}
use Rattle.cg_snap.specs.ClosedLaws.{begun_once}
use Rattle.cg_snap.specs.RecordPlace.{IsRecordPlace}
use Rattle.cg_snap.specs.Stop.{TextStopOf, place_of}
use Rattle.cg_snap.specs.declared.stop.Stop.{Stop}
use Rattle.cg_snap.specs.declared.stop.Stop.TheVariants as stop
use Rattle.cg_outcome.specs.Explain.{Explains, IsInRecord, IsInText, TellsSpot, TellsStop, newlines}
use Rattle.cg_outcome.specs.Lines.{AreCounted}
use Rattle.cg_outcome.specs.Spot.{before_in, is_explained, spot_words}
use Rattle.cg_outcome.specs.declared.lines.Lines.{Lines}
use Rattle.cg_outcome.specs.declared.spot.Spot.{Spot}
use Rattle.cg_outcome.proofs.Lined.{newlines_few}

exact : (n : ℕ) → n ≤ 18446744073709551615 → saturated n ≡ n
exact n few = omega (arith, few)

begun_few : (p r : List ℕ) → IsBegun p r → length r ≤ length p
begun_few p r h = omega (arith, ap length h.split, length-append h.front r)

module _ (lines : Lines) (p : List ℕ) (few : length p ≤ 18446744073709551615) (h : AreCounted lines p) where
  ended_is : lines.ended ≡ newlines p
  ended_is = h.ended_is ∙ exact (newlines p) (omega (arith, few, newlines_few p))

  begun_is : lines.begun ≡ length h.begun
  begun_is = h.begun_is ∙ exact (length h.begun) (omega (arith, few, begun_few p h.begun h.begins))

  -- In a record of a stream.
  pub in_record : (path : List ℕ) (in_line : Bool) → IsRecordPlace p path in_line → (begun : List ℕ) × IsBegun p begun × IsInRecord begun (not in_line) path (before_in in_line path lines.begun)
  in_record path true r =
      let same = begun_once p h.begun (path ++ 0 ∷ r.0) h.begins r.2 in
      (path ++ 0 ∷ r.0, r.2, (r.0, r.1, refl, omega (arith, begun_is, ap length same, length-append path (0 ∷ r.0))))
  in_record path false r =
      let same = begun_once p h.begun path h.begins r.1 in
      (path, r.1, (r.0, refl, begun_is ∙ ap length same))

  -- In the text of a file.
  pub in_text : (name : List ℕ) → (begun : List ℕ) × IsBegun p begun × IsInText name begun false name lines.begun
  in_text name = (h.begun, h.begins, (refl, refl, begun_is))

  module _ (Wanted : List ℕ → List Bool → Type 0) (IsIn : List ℕ → Bool → List ℕ → ℕ → Type 0) (spot : Spot) (same_lines : spot.ended ≡ lines.ended) (in_path : Bool) (path : List ℕ) (before : ℕ)
      (path_is : spot.path.now ≡ path) (in_path_is : spot.in_path ≡ in_path) (before_is : spot.before ≡ before)
      (place : (begun : List ℕ) × IsBegun p begun × IsIn begun in_path path before) (may : Wanted p spot.wanted) where
    pub spot_explains : Explains Wanted IsIn p spot.byte (spot_words spot)
    spot_explains = record {
      begun = place.0;
      begins = place.1;
      in_path = in_path;
      path = path;
      before = before;
      place = place.2;
      wanted = spot.wanted;
      may_come = may;
      text_is = rw (same_lines ∙ ended_is, path_is, in_path_is, before_is) refl;
    }

-- A line explains the same where the set is what may come in another way.
pub explains_as : (V W : List ℕ → List Bool → Type 0) (IsIn : List ℕ → Bool → List ℕ → ℕ → Type 0) (p : List ℕ) (what : Option ℕ) (text : List ℕ) → ((set : List Bool) → V p set → W p set) → Explains V IsIn p what text → Explains W IsIn p what text
explains_as V W IsIn p what text so h = record {
  begun = h.begun;
  begins = h.begins;
  in_path = h.in_path;
  path = h.path;
  before = h.before;
  place = h.place;
  wanted = h.wanted;
  may_come = so h.wanted h.may_come;
  text_is = h.text_is;
}

module _ (Line : List ℕ → Option ℕ → List ℕ → Type 0) (p : List ℕ) (what : Option ℕ) where
  -- The line of a stop that is explained.
  pub line_tells : (s : Stop) (text : List ℕ) → is_explained s ≡ true → Line p what text → TellsSpot Line true p what s text
  line_tells (stop.Refused at why) text e h = h
  line_tells (stop.Cut at) text e h = h
  line_tells (stop.TooLong at) text e h = absurd (true≢false (sym e))
  line_tells (stop.TooMany at) text e h = absurd (true≢false (sym e))
  line_tells (stop.TooMuch at) text e h = absurd (true≢false (sym e))

  -- A limit isn't explained.
  pub limit_tells : (explain : Bool) (s : Stop) → is_explained s ≡ false → TellsSpot Line explain p what s []
  limit_tells false s e = refl
  limit_tells true (stop.Refused at why) e = absurd (true≢false e)
  limit_tells true (stop.Cut at) e = absurd (true≢false e)
  limit_tells true (stop.TooLong at) e = refl
  limit_tells true (stop.TooMany at) e = refl
  limit_tells true (stop.TooMuch at) e = refl

-- What is told of a stop behind the bytes before it is told of it in all bytes.
module _ (L : List ℕ → Type 0) (Line : List ℕ → Option ℕ → List ℕ → Type 0) where
  long_told : (explain : Bool) (p : List ℕ) (what : Option ℕ) (at : ℕ) (more : List ℕ) → TellsSpot Line explain p what (stop.TooLong at) more → more ≡ []
  long_told true p what at more t = t
  long_told false p what at more t = t

  many_told : (explain : Bool) (p : List ℕ) (what : Option ℕ) (at : ℕ) (more : List ℕ) → TellsSpot Line explain p what (stop.TooMany at) more → more ≡ []
  many_told true p what at more t = t
  many_told false p what at more t = t

  much_told : (explain : Bool) (p : List ℕ) (what : Option ℕ) (at : ℕ) (more : List ℕ) → TellsSpot Line explain p what (stop.TooMuch at) more → more ≡ []
  much_told true p what at more t = t
  much_told false p what at more t = t

  pub text_tells : (explain : Bool) (read : List ℕ) (max : ℕ) (s : Stop) (byte : Option ℕ) (more : List ℕ) → TextStopOf L max read s → byte ≡ Some (get_or read (place_of s) 0) →
      TellsSpot Line explain (take (place_of s) read) byte s more → TellsStop Line explain read s more
  text_tells explain read max (stop.Refused at why) byte more h e t = subst (λ (b : Option ℕ). TellsSpot Line explain (take at read) b (stop.Refused at why) more) e t
  text_tells explain read max (stop.TooLong at) byte more h e t = long_told explain (take at read) byte at more t
  text_tells explain read max (stop.TooMany at) byte more h e t = many_told explain (take at read) byte at more t
  text_tells explain read max (stop.TooMuch at) byte more h e t = much_told explain (take at read) byte at more t
  text_tells explain read max (stop.Cut at) byte more h e t = absurd h.stops
