-- What holds of runs of bytes.
use Rattle.std.proofs.Common.{◌≢◌, ℕ, ◌+◌, ◌<◌, List, [], ◌∷◌, ◌++◌, append_assoc, length, take, get_or, ap, inl, inr, Option, Some, None, Err, arith}
use Rattle.std.proofs.lemmas.Bool.Decides.{eqb_tells}
use Rattle.std.proofs.lemmas.List.{take_all, take_more}
use Rattle.cg_text.specs.Texts.{Lacks}
use Rattle.cg_text.specs.TextsLaws.{lacks_push}
use Rattle.cg_line.specs.Rests.{IsPiece, Leaves}
use Rattle.cg_line.specs.Runs.{LeavesRun, StopsAt}
use Rattle.cg_line.specs.declared.push.PushFault.{PushFault}
use Rattle.cg_line.specs.declared.push.PushFault.TheVariants.{Refused, OutOfMemory}

-- One more byte, which is no newline.
pub plain_more : (bytes : List ℕ) (i : ℕ) → i < length bytes → get_or bytes i 0 ≢ 10 → Lacks 10 (take i bytes) → Lacks 10 (take (i + 1) bytes)
plain_more bytes i within other plain = rw (take_more bytes i 0 within) (lacks_push 10 (take i bytes) (get_or bytes i 0) plain other)

-- One more byte was taken.
pub run_more : (R : List ℕ → Type 0) (taken bytes : List ℕ) (i : ℕ) → i < length bytes → R ((taken ++ take i bytes) ++ get_or bytes i 0 ∷ []) → R (taken ++ take (i + 1) bytes)
run_more R taken bytes i within h = rw (take_more bytes i 0 within, ← append_assoc taken (take i bytes) (get_or bytes i 0 ∷ [])) h

-- A byte that was not taken ends a run.
pub run_ended : (R L : List ℕ → Type 0) (bytes : List ℕ) (i : ℕ) (fault : PushFault) → i < length bytes → Lacks 10 (take i bytes) → Leaves R L (take i bytes) (get_or bytes i 0) (Err fault) →
    LeavesRun R L [] bytes (record { used = i; fault = Some fault })
run_ended R L bytes i Refused within plain h = record { reads = h.0; stops = (within, plain, h.1) }
run_ended R L bytes i OutOfMemory within plain h = record { reads = h.0; stops = (within, plain, h.1) }

-- A byte is a piece of its text, and so is a run.
pub byte_piece : (byte : ℕ) → IsPiece (byte ∷ [])
byte_piece byte = elim (eqb_tells byte 10) [ inl e ↦ inr ([], ap (λ n. n ∷ []) e.1, tt) | inr e ↦ inl (e.1, tt) ]

pub run_piece : (L : List ℕ → Type 0) (taken bytes : List ℕ) (used : ℕ) (fault : Option PushFault) → StopsAt L taken bytes used fault → IsPiece (take used bytes)
run_piece L taken bytes used None (inl h) = inl (rw (h.0, take_all (length bytes) bytes (omega arith)) h.1)
run_piece L taken bytes used None (inr line) = inr line
run_piece L taken bytes used (Some Refused) h = inl h.1
run_piece L taken bytes used (Some OutOfMemory) h = inl h.1
