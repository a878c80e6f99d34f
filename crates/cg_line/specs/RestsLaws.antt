-- What holds of the rests that complete a text.
use Rattle.std.proofs.Common.{◌≡◌, ℕ, ◌+◌, ◌≤◌, ◌↔◌, List, [], ◌∷◌, ◌++◌, length, take, get_or, append_assoc, append-nil, length-append, length-take, Option, Some, None, Bool, IsTrue, Result, Ok, Err, arith}
use Rattle.cg_text.specs.Scan.{FollowsRun}
use Rattle.cg_text.specs.Token.{Begins, Completes, Spells}
use Rattle.cg_text.specs.Texts.{Next, TextOf, Viable}
use Rattle.cg_line.specs.Rests.{IsAfter, IsRead, Leaves, SomeNext}
use Rattle.cg_line.specs.Runs.{LeavesRun, StopsAt}
use Rattle.cg_line.specs.declared.push.PushFault.{PushFault}
use Rattle.cg_line.specs.declared.push.PushFault.TheVariants.{Refused, OutOfMemory}
use Rattle.cg_line.specs.declared.reader.PushedRun.{PushedRun}

-- The bytes that were taken of a pushed one.
abbrev pub bytes_of : ℕ → Result (Unit {0}) PushFault → List ℕ
bytes_of byte (Ok u) = byte ∷ []
bytes_of byte (Err fault) = []

-- What is known of the texts of a set is known of those of another that begin with the bytes taken.
module _ (L M : List ℕ → Type 0) (taken : List ℕ) (same : (run : List ℕ) → Viable L run ↔ Viable M (taken ++ run)) (R S : List ℕ → Type 0) where
  pub leaves_as : (byte : ℕ) (result : Result (Unit {0}) PushFault) → (R (bytes_of byte result) → S (taken ++ bytes_of byte result)) → Leaves R L [] byte result → Leaves S M taken byte result
  leaves_as byte (Ok u) on h = on h
  leaves_as byte (Err Refused) on h = (rw append-nil at (on h.0), λ next. h.1 ((same (byte ∷ [])).1 next))
  leaves_as byte (Err OutOfMemory) on h = (rw append-nil at (on h.0), (same (byte ∷ [])).0 h.1)

  stops_as : (bytes : List ℕ) (used : ℕ) (fault : Option PushFault) → StopsAt L [] bytes used fault → StopsAt M taken bytes used fault
  stops_as bytes used None h = h
  stops_as bytes used (Some Refused) h = (h.0, h.1, λ next. h.2 ((same (take used bytes ++ get_or bytes used 0 ∷ [])).1 (rw (append_assoc taken (take used bytes) (get_or bytes used 0 ∷ [])) at next)))
  stops_as bytes used (Some OutOfMemory) h = (h.0, h.1, rw (append_assoc taken (take used bytes) (get_or bytes used 0 ∷ [])) ((same (take used bytes ++ get_or bytes used 0 ∷ [])).0 h.2))

  pub leaves_run_as : (bytes : List ℕ) (run : PushedRun) → (R (take run.used bytes) → S (taken ++ take run.used bytes)) → LeavesRun R L [] bytes run → LeavesRun S M taken bytes run
  leaves_run_as bytes run on h = record { reads = on h.reads; stops = stops_as bytes run.used run.fault h.stops }

module _ {V : Type 0} {Text : List ℕ → V → Type 0} {base : ℕ} {P : List ℕ → V → Type 0} {old : ℕ} {taken : List ℕ} (h : IsRead Text base P old taken) where
  -- With what a rest begins, with that a text goes on.
  pub goes_on : (run : List ℕ) → Viable (TextOf P) run ↔ Viable (TextOf Text) (taken ++ run)
  goes_on run = (
    λ w. record { rest = w.rest; whole = (w.whole.0, rw (append_assoc taken run w.rest) ((h.is (run ++ w.rest) w.whole.0).0 w.whole.1)) },
    λ w. record { rest = w.rest; whole = (w.whole.0, (h.is (run ++ w.rest) w.whole.0).1 (rw (append_assoc taken run w.rest) at w.whole.1)) },
  )

  -- With which byte.
  pub next_is : (A : ℕ → Type 0) → ((b : ℕ) → A b ↔ Next (TextOf P) [] b) → (b : ℕ) → A b ↔ Next (TextOf Text) taken b
  next_is A is b = let on = goes_on (b ∷ []) in (λ a. on.0 ((is b).0 a), λ next. (is b).1 (on.1 next))

  pub some_is : SomeNext (TextOf P) [] ↔ SomeNext (TextOf Text) taken
  some_is = (λ s. record { byte = s.byte; next = (goes_on (s.byte ∷ [])).0 s.next }, λ s. record { byte = s.byte; next = (goes_on (s.byte ∷ [])).1 s.next })

  -- More bytes were taken.
  pub read_on : (Q : List ℕ → V → Type 0) (new : ℕ) (run : List ℕ) → IsRead P old Q new run → IsRead Text base Q new (taken ++ run)
  read_on Q new run more = record {
    is = λ rest v. (
      λ q. rw (append_assoc taken run rest) ((h.is (run ++ rest) v).0 ((more.is rest v).0 q)),
      λ t. (more.is rest v).1 ((h.is (run ++ rest) v).1 (rw (append_assoc taken run rest) at t)),
    );
    viable = (goes_on run).0 more.viable;
    few = omega (arith, h.few, more.few, length-append taken run);
  }

  -- What a byte leaves, or a run of them.
  pub read_byte : (Q : List ℕ → V → Type 0) (new byte : ℕ) (result : Result (Unit {0}) PushFault) → Leaves (IsRead P old Q new) (TextOf P) [] byte result → Leaves (IsRead Text base Q new) (TextOf Text) taken byte result
  read_byte Q new byte result = leaves_as (TextOf P) (TextOf Text) taken goes_on (IsRead P old Q new) (IsRead Text base Q new) byte result (read_on Q new (bytes_of byte result))

  pub read_run : (Q : List ℕ → V → Type 0) (new : ℕ) (bytes : List ℕ) (run : PushedRun) → LeavesRun (IsRead P old Q new) (TextOf P) [] bytes run → LeavesRun (IsRead Text base Q new) (TextOf Text) taken bytes run
  read_run Q new bytes run = leaves_run_as (TextOf P) (TextOf Text) taken goes_on (IsRead P old Q new) (IsRead Text base Q new) bytes run (read_on Q new (take run.used bytes))

  -- The bytes are a text of the relation.
  pub value_is : (v : V) → P [] v ↔ Text taken v
  value_is v = (λ p. rw append-nil at ((h.is [] v).0 p), λ t. (h.is [] v).1 (rw append-nil t))

  -- Of a token that tells whether nothing need follow.
  pub whole_is : (ends told : Bool) → IsTrue ends ↔ TextOf P [] → told ≡ ends → IsTrue told ↔ TextOf Text taken
  whole_is ends told is e = rw e (
    λ t. (let p = is.0 t in (p.0, (value_is p.0).0 p.1)),
    λ w. is.1 (w.0, (value_is w.0).1 w.1),
  )

module _ {S V : Type 0} (means : S → List ℕ → V → Type 0) (size : S → ℕ) where
  -- Bytes were taken.
  pub after_run : (old new : S) (run : List ℕ) → FollowsRun means old run new → Completes means new → size new ≤ size old + length run → IsAfter means size old new run
  after_run old new run follows goes few =
      record { is = follows; viable = record { rest = goes.0; whole = (goes.1, (follows goes.0 goes.1).0 goes.2) }; few = few }

  -- So many bytes in front were.
  pub after_front : (old new : S) (bytes : List ℕ) (n : ℕ) → n ≤ length bytes → FollowsRun means old (take n bytes) new → Completes means new → size new ≤ size old + n → IsAfter means size old new (take n bytes)
  after_front old new bytes n within follows goes few = after_run old new (take n bytes) follows goes (omega (arith, length-take n bytes, within, few))

  -- None were.
  pub after_none : (s : S) → Completes means s → IsAfter means size s s []
  after_none s goes = after_run s s [] (λ rest v. (λ p. p, λ p. p)) goes (omega arith)

  -- A token over whole texts has taken nothing.
  pub new_read : (Text : List ℕ → V → Type 0) (s : S) → Spells means s Text → Completes means s → size s ≡ 0 → IsRead Text 0 (means s) (size s) []
  new_read Text s h goes none = record { is = h.is; viable = record { rest = goes.0; whole = (goes.1, (h.is goes.0 goes.1).0 goes.2) }; few = omega (arith, none) }

  -- The byte begins a rest.
  pub begins_next : (s : S) (byte : ℕ) → Begins means s byte ↔ Next (TextOf (means s)) [] byte
  begins_next s byte = (λ b. record { rest = b.0; whole = (b.1, b.2) }, λ w. (w.rest, w.whole.0, w.whole.1))
