-- What is told of the entry with which a stream begins.
use Rattle.std.specs.Prelude.{◌≡◌, ◌⊎◌, ℕ, Bool, List, length, Result, Ok, Err, if◌then◌else◌}
use Rattle.cg_value.specs.Entry.{EntryData}
use Rattle.cg_value.specs.Print.{print_of}
use Rattle.cg_value.specs.declared.profile.Profile.{Profile}
use Rattle.cg_json.specs.Entry.{line_of}
use Rattle.cg_snap.specs.declared.decode.StreamFault.{StreamFault}
use Rattle.cg_snap.specs.declared.decode.StreamFault.TheVariants as faults
use Rattle.cg_snap.specs.declared.limits.Limits.{Limits}
use Rattle.cg_snap.specs.declared.stop.Stop.{Stop}
use Rattle.cg_first.specs.First.{IsFirst, IsFirstEntry, IsFirstFault}
use Rattle.cg_first.specs.declared.first.First.TheVariants as firsts
use Rattle.cg_c.specs.declared.first.Answer.{Answer}
use Rattle.cg_c.specs.declared.first.Answer.TheVariants.{Text, More, End}

-- The limits within which a call reads.
abbrev pub limits : Limits
limits = record { max_record = 1048576; max_lines = 1000000; max_stream = 1073741824 }

-- The line of JSON of an entry, or the text of its file.
abbrev pub printed : Bool → EntryData → List ℕ
printed is_json e = if is_json then line_of e else print_of e.value

-- The entry has so many of the bytes, and its path so many of these.
abbrev pub IsAtFront : Profile → List ℕ → Bool → ℕ → ℕ → EntryData → Type 0
IsAtFront profile bytes is_end taken path_len e = IsFirstEntry profile bytes is_end e taken × (path_len ≡ length e.path)

-- Why the bytes stop.
abbrev pub IsStopped : Profile → List ℕ → Bool → Stop → Type 0
IsStopped profile bytes is_end stop = IsFirstFault profile limits bytes is_end (faults.Stopped stop)

-- No entry is closed yet, and nothing stops the bytes.
abbrev pub IsMore : Profile → List ℕ → Bool → Type 0
IsMore profile bytes is_end = IsFirst profile limits bytes is_end firsts.More

-- Memory was refused at a byte that nothing stops, or for the answer to an entry.
abbrev pub IsStarvedFirst : Profile → List ℕ → Bool → Type 0
IsStarvedFirst profile bytes is_end =
    IsFirstFault profile limits bytes is_end faults.OutOfMemory ⊎ ((e : EntryData) × (taken : ℕ) × IsFirstEntry profile bytes is_end e taken)

-- What is told of bytes: what is printed of the first entry, or that there is none, or why not.
abbrev pub IsAnswer : Profile → List ℕ → Bool → Bool → Result Answer StreamFault → Type 0
IsAnswer profile bytes is_end is_json (Ok (Text text taken path_len)) =
    (e : EntryData) × IsAtFront profile bytes is_end taken path_len e × (text.items ≡ printed is_json e)
IsAnswer profile bytes is_end is_json (Ok More) = IsMore profile bytes is_end
IsAnswer profile bytes is_end is_json (Ok End) = IsFirst profile limits bytes is_end firsts.End
IsAnswer profile bytes is_end is_json (Err (faults.Stopped stop)) = IsStopped profile bytes is_end stop
IsAnswer profile bytes is_end is_json (Err faults.OutOfMemory) = IsStarvedFirst profile bytes is_end

-- The same of one entry with so many bytes.
abbrev pub IsEntryAnswer : EntryData → ℕ → Bool → Result Answer StreamFault → Type 0
IsEntryAnswer e taken is_json (Ok (Text text count path_len)) = (count ≡ taken) × (path_len ≡ length e.path) × (text.items ≡ printed is_json e)
IsEntryAnswer e taken is_json (Ok More) = ⊥
IsEntryAnswer e taken is_json (Ok End) = ⊥
IsEntryAnswer e taken is_json (Err (faults.Stopped stop)) = ⊥
IsEntryAnswer e taken is_json (Err faults.OutOfMemory) = Unit {0}
