-- The stop of a plan: which rule a byte breaks, and which limits end a stream. A plan has no limit on the records of a path.
use Rattle.std.specs.Prelude.{◌≡◌, ℕ, List, ◌∷◌, ◌++◌, None}
use Rattle.cg_text.specs.Texts.{Lacks}
use Rattle.cg_value.specs.Entry.{WritesAt}
use Rattle.cg_value.specs.declared.profile.Profile.{Profile}
use Rattle.cg_snap.specs.Plan.{Plan}
use Rattle.cg_snap.specs.SnapStop.{IsNameless}
use Rattle.cg_snap.specs.StreamStop.{IsStreamUnstopped, StreamStopOf}
use Rattle.cg_snap.specs.declared.limits.Limits.{Limits}
use Rattle.cg_snap.specs.declared.stop.Stop.{Stop}
use Rattle.cg_snap.specs.declared.stop.Why.{Why}
use Rattle.cg_snap.specs.declared.stop.Why.TheVariants.{PathByte, NoName, NotReadable, NotWritable, NoMoreLines, Line}

-- What is wrong with a byte after what came of its record: a newline in a path; a NUL after a path without a name, or
-- after that of a file that can't be written; or a byte after the record's NUL.
abbrev pub IsItemWhy : Profile → List ℕ → ℕ → Why → Type 0
IsItemWhy profile begun byte PathByte = Lacks 0 begun × (byte ≡ 10)
IsItemWhy profile begun byte NoName = Lacks 0 begun × (byte ≡ 0) × IsNameless begun
IsItemWhy profile begun byte NotReadable = ⊥
IsItemWhy profile begun byte NotWritable = Lacks 0 begun × (byte ≡ 0) × (IsNameless begun → ⊥) × WritesAt profile begun None
IsItemWhy profile begun byte NoMoreLines = ⊥
IsItemWhy profile begun byte Line = (path : List ℕ) × (line : List ℕ) × (begun ≡ path ++ 0 ∷ line)

-- No record of a plan is one too many.
abbrev pub is_never_many : ℕ → List ℕ → ℕ → Type 0
is_never_many max text place = ⊥

-- No byte of the stream stops it; and the first that does stops it so.
abbrev pub IsPlanUnstopped : Profile → Limits → List ℕ → Type 0
IsPlanUnstopped profile limits text = IsStreamUnstopped (Plan profile) (IsItemWhy profile) is_never_many limits text

abbrev pub PlanStopOf : Profile → Limits → List ℕ → Stop → Type 0
PlanStopOf profile limits text stop = StreamStopOf (Plan profile) (IsItemWhy profile) is_never_many limits text stop
