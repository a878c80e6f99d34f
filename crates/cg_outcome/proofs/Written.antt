-- What a writer took, and where it failed.
use Rattle.std.proofs.Common.{◌≡◌, ℕ, ◌+◌, ◌≤◌, Bool, true, List, [], ◌∷◌, ◌++◌, length, take, min, Option, sym, ap, subst, ◌∙◌, append_assoc, append-nil, arith, length-append}
use Rattle.std.proofs.Math.Seq.{take-append-add}
use Rattle.std.proofs.lemmas.List.{take-append-le}
use Rattle.std.specs.Io.KnownBytes.{Appends}
use Rattle.cg_print.proofs.Known.{Appends-trans}
use Rattle.cg_outcome.specs.Wrote.{FailsAfter, HasWritten, HasWrittenText, IsRealFault, Wrote, joined}
use Rattle.cg_outcome.specs.declared.outcome.Outcome.{Outcome}
use Rattle.cg_outcome.specs.declared.outcome.Outcome.TheVariants as out

pub joined_push : (parts : List (List ℕ)) (part : List ℕ) → joined (parts ++ part ∷ []) ≡ joined parts ++ part
joined_push [] part = append-nil part
joined_push (first ∷ parts) part = ap (λ t. first ++ t) (joined_push parts part) ∙ sym (append_assoc first (joined parts) part)

-- One more part was written.
pub part_written : (first a b : Option (List ℕ)) (parts : List (List ℕ)) (part : List ℕ) (written more : ℕ) →
    HasWritten first a parts written → Appends a b part → more ≡ min (written + length part) 18446744073709551615 →
    HasWritten first b (parts ++ part ∷ []) more
part_written first a b parts part written more h p e =
    (rw (joined_push parts part) (Appends-trans first a b (joined parts) part h.0 p), rw (joined_push parts part, length-append (joined parts) part) (omega (arith, e, h.1)))

-- One more text was written.
pub text_written : (first a b : Option (List ℕ)) (before text : List ℕ) (written more : ℕ) →
    HasWrittenText first a before written → Appends a b text → more ≡ min (written + length text) 18446744073709551615 →
    HasWrittenText first b (before ++ text) more
text_written first a b before text written more h p e =
    (Appends-trans first a b before text h.0 p, rw (length-append before text) (omega (arith, e, h.1)))

-- The writer failed in a text that came after another, and more of which was to come.
pub text_fault : (first a b : Option (List ℕ)) (before text rest : List ℕ) (written n all : ℕ)
    (failed : Bool) (wanted : Outcome) → HasWrittenText first a before written → n ≤ length text →
    Appends a b (take n text) → failed ≡ true →
    all ≡ min (written + n) 18446744073709551615 → Wrote first b failed ((before ++ text) ++ rest) wanted (out.WriteFault all)
text_fault first a b before text rest written n all failed wanted h le p f e =
    let here : take (length before + n) ((before ++ text) ++ rest) ≡ before ++ take n text =
    ap (λ (l : List ℕ). take (length before + n) l) (append_assoc before text rest) ∙ take-append-add before (text ++ rest) n ∙ ap (λ (l : List ℕ). before ++ l) (take-append-le n text rest le) in (
      length before + n,
      omega (arith, le, length-append before text, length-append (before ++ text) rest),
      rw here (Appends-trans first a b before (take n text) h.0 p),
      omega (arith, e, h.1),
      f,
    )

-- It failed before more was to come.
pub fails_before : (first b : Option (List ℕ)) (failed : Bool) (text more : List ℕ) (fault : Outcome) → FailsAfter first b failed text fault → FailsAfter first b failed (text ++ more) fault
fails_before first b failed text more fault h rest wanted = rw (append_assoc text more rest) (h (more ++ rest) wanted)

pub fails_whole : (first b : Option (List ℕ)) (failed : Bool) (text more whole : List ℕ) (fault : Outcome) → text ++ more ≡ whole →
    FailsAfter first b failed text fault → FailsAfter first b failed whole fault
fails_whole first b failed text more whole fault e h = subst (λ (t : List ℕ). FailsAfter first b failed t fault) e (fails_before first b failed text more fault h)

-- It failed in a part.
pub part_fault : (first a b : Option (List ℕ)) (parts : List (List ℕ)) (part rest : List ℕ) (written more all : ℕ)
    (failed : Bool) (wanted : Outcome) → HasWritten first a parts written → more ≤ length part →
    Appends a b (take more part) → failed ≡ true →
    all ≡ min (written + more) 18446744073709551615 → Wrote first b failed (joined (parts ++ part ∷ []) ++ rest) wanted (out.WriteFault all)
part_fault first a b parts part rest written more all failed wanted h le p f e = rw (joined_push parts part) (text_fault first a b (joined parts) part rest written more all failed wanted h le p f e)

-- It failed in the last line.
pub line_fault : (first a b : Option (List ℕ)) (parts : List (List ℕ)) (line : List ℕ) (written more all : ℕ) (failed : Bool) (wanted : Outcome) →
    HasWritten first a parts written → Wrote a b failed line wanted (out.WriteFault more) →
    all ≡ min (written + more) 18446744073709551615 → Wrote first b failed (joined parts ++ line) wanted (out.WriteFault all)
line_fault first a b parts line written more all failed wanted h w e =
    subst (λ (t : List ℕ). Wrote first b failed t wanted (out.WriteFault all)) (append-nil (joined parts ++ line))
    (text_fault first a b (joined parts) line [] written w.0 all failed wanted h w.1 w.2 w.4 (omega (arith, e, w.3, h.1)))

-- A fault of the writer that was told is real.
pub wrote_real : (taken now : Option (List ℕ)) (failed : Bool) (text : List ℕ) (wanted o : Outcome) → Wrote taken now failed text wanted o → IsRealFault o failed
wrote_real taken now failed text wanted out.Done h = tt
wrote_real taken now failed text wanted (out.Findings n) h = tt
wrote_real taken now failed text wanted (out.LeftOut n) h = tt
wrote_real taken now failed text wanted (out.Stopped s) h = tt
wrote_real taken now failed text wanted out.NotReadable h = tt
wrote_real taken now failed text wanted out.NotWritable h = tt
wrote_real taken now failed text wanted out.ReadFault h = tt
wrote_real taken now failed text wanted (out.WriteFault n) h = h.4
wrote_real taken now failed text wanted out.OutOfMemory h = tt
