-- What is told of the entry with which a stream begins.
use Rattle.std.proofs.Common.{◌≡◌, ◌<◌, ◌++◌, ℕ, Bool, List, Option, Some, Result, Ok, Err, inr, sym, subst, length, drop}
use Rattle.std.specs.Prelude.{IsSomeAnd}
use Rattle.cg_value.specs.Entry.{EntryData}
use Rattle.cg_value.specs.declared.profile.Profile.{Profile}
use Rattle.cg_snap.specs.declared.decode.StreamFault.{StreamFault}
use Rattle.cg_snap.specs.declared.decode.StreamFault.TheVariants.{Stopped, OutOfMemory}
use Rattle.cg_first.specs.First.{IsFirstEntry}
use Rattle.cg_c.specs.Answer.{HasNoRoom, IsPrinted, IsPut, IsTooLong, profile_of}
use Rattle.cg_c.specs.First.{IsAnswer, IsAtFront, IsEntryAnswer, printed}
use Rattle.cg_c.specs.declared.first.Answer.{Answer}
use Rattle.cg_c.specs.declared.first.Answer.TheVariants.{Text, More, End}

pub of_entry : (profile : Profile) (bytes : List ℕ) (is_end is_json : Bool) (e : EntryData) (taken : ℕ) → IsFirstEntry profile bytes is_end e taken →
    (r : Result Answer StreamFault) → IsEntryAnswer e taken is_json r → IsAnswer profile bytes is_end is_json r
of_entry profile bytes is_end is_json e taken first (Ok (Text text count path_len)) h =
    (e, (subst (λ (n : ℕ). IsFirstEntry profile bytes is_end e n) (sym h.0) first, h.1), h.2)
of_entry profile bytes is_end is_json e taken first (Ok More) h = absurd h
of_entry profile bytes is_end is_json e taken first (Ok End) h = absurd h
of_entry profile bytes is_end is_json e taken first (Err (Stopped stop)) h = absurd h
of_entry profile bytes is_end is_json e taken first (Err OutOfMemory) h = inr (e, taken, first)

module _ (number : ℕ) (profile : Profile) (is : Some profile ≡ profile_of number) where
  -- What holds in a profile holds in that of its number.
  pub in_profile : (Holds : Profile → Type 0) → Holds profile → IsSomeAnd (profile_of number) Holds
  in_profile Holds h = subst (λ (o : Option Profile). IsSomeAnd o Holds) is h

  module _ (bytes : List ℕ) (is_end is_json : Bool) (text : List ℕ) (taken path_len : ℕ) (told : (e : EntryData) × IsAtFront profile bytes is_end taken path_len e × (text ≡ printed is_json e)) where
    pub of_put : (old new : List ℕ) (count : ℕ) → count ≡ length text → new ≡ text ++ drop (length text) old →
        IsSomeAnd (profile_of number) (λ p. IsPrinted (IsAtFront p bytes is_end taken path_len) (printed is_json) old new count)
    of_put old new count is_count put = in_profile (λ p. IsPrinted (IsAtFront p bytes is_end taken path_len) (printed is_json) old new count)
        (told.0, told.1, subst (λ (t : List ℕ). IsPut t old new count) told.2 (record { count_is = is_count; put = put }))

    pub of_long : (old : List ℕ) (count : ℕ) → count ≡ length text → length old < length text →
        IsSomeAnd (profile_of number) (λ p. HasNoRoom (IsAtFront p bytes is_end taken path_len) (printed is_json) old count)
    of_long old count is_count long = in_profile (λ p. HasNoRoom (IsAtFront p bytes is_end taken path_len) (printed is_json) old count)
        (told.0, told.1, subst (λ (t : List ℕ). IsTooLong t old count) told.2 (record { count_is = is_count; long = subst (λ (n : ℕ). length old < n) (sym is_count) long }))
