-- Exit statuses, and the last line of a run.
use Rattle.std.specs.Prelude.{ℕ, Bool, true, false, List, [], ◌++◌, codes, decimal, nat_eq, if◌then◌else◌}
use Rattle.cg_snap.specs.declared.stop.Stop.{Stop}
use Rattle.cg_snap.specs.declared.stop.Stop.TheVariants as stop
use Rattle.cg_snap.specs.declared.stop.Why.{Why}
use Rattle.cg_snap.specs.declared.stop.Why.TheVariants as why
use Rattle.cg_outcome.specs.declared.outcome.Outcome.{Outcome}
use Rattle.cg_outcome.specs.declared.outcome.Outcome.TheVariants as out

-- The status depends on the outcome's variant alone.
abbrev pub status_of : Outcome → ℕ
status_of out.Done = 0
status_of (out.Findings n) = 1
status_of (out.LeftOut n) = 5
status_of (out.Stopped s) = 1
status_of out.NotReadable = 1
status_of out.NotWritable = 1
status_of out.ReadFault = 3
status_of (out.WriteFault n) = 3
status_of out.OutOfMemory = 4

-- What a refusal is called.
abbrev pub why_words : Why → List ℕ
why_words why.PathByte = codes "path byte"
why_words why.NoName = codes "no name"
why_words why.NotReadable = codes "not readable"
why_words why.NotWritable = codes "not writable"
why_words why.NoMoreLines = codes "no more lines"
why_words why.Line = codes "line"

abbrev pub stop_line : Stop → List ℕ
stop_line (stop.Refused at why) = codes "cgfile: refused at " ++ decimal at ++ (codes ": " ++ why_words why ++ codes "\n")
stop_line (stop.TooLong at) = codes "cgfile: record too long at " ++ decimal at ++ codes "\n"
stop_line (stop.TooMany at) = codes "cgfile: too many lines at " ++ decimal at ++ codes "\n"
stop_line (stop.TooMuch at) = codes "cgfile: stream too long at " ++ decimal at ++ codes "\n"
stop_line (stop.Cut at) = codes "cgfile: cut at " ++ decimal at ++ codes "\n"

-- The last line of a run, none where it ended well or a write failed.
abbrev pub last_line : Outcome → List ℕ
last_line out.Done = []
last_line (out.Findings n) = []
last_line (out.LeftOut n) = []
last_line (out.Stopped s) = stop_line s
last_line out.NotReadable = codes "cgfile: not readable\n"
last_line out.NotWritable = codes "cgfile: not writable\n"
last_line out.ReadFault = codes "cgfile: read fault\n"
last_line (out.WriteFault n) = []
last_line out.OutOfMemory = codes "cgfile: out of memory\n"

abbrev pub is_write_fault : Outcome → Bool
is_write_fault (out.WriteFault n) = true
is_write_fault o = false

-- How a run ends at the end of its input that left out so many blocks, and one that checks and tells so many findings.
abbrev pub gone_on : (left_out : ℕ) → Outcome
gone_on left_out = if nat_eq left_out 0 then out.Done else out.LeftOut left_out

abbrev pub checked : (findings left_out : ℕ) → Outcome
checked findings left_out = if nat_eq findings 0 then gone_on left_out else out.Findings findings
