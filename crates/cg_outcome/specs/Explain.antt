-- The line that explains a stop: where it is, what came there, and what may come.
use Rattle.std.specs.Prelude.{◌≡◌, ℕ, suc, ◌+◌, Bool, true, false, nat_eq, if◌then◌else◌, List, [], ◌∷◌, ◌++◌, length, take, codes, decimal, slice_index_or, Option, Some, None, ◌↔◌}
use Rattle.cg_text.specs.Bytes.{HasByte}
use Rattle.cg_text.specs.Texts.{Lacks, Next}
use Rattle.cg_snap.specs.Begun.{IsBegun}
use Rattle.cg_snap.specs.declared.stop.Stop.{Stop}
use Rattle.cg_snap.specs.declared.stop.Stop.TheVariants as stop
use Rattle.cg_outcome.specs.ByteNames.{byte_name, set_words}
use Rattle.cg_outcome.specs.Input.{Reading}
use Rattle.cg_outcome.specs.declared.outcome.Outcome.{Outcome}
use Rattle.cg_outcome.specs.declared.outcome.Outcome.TheVariants as out

-- How many lines have ended.
abbrev pub newlines : List ℕ → ℕ
newlines [] = 0
newlines (b ∷ bs) = if nat_eq b 10 then suc (newlines bs) else newlines bs

-- What came: a byte, or the end.
abbrev pub what_words : Option ℕ → List ℕ
what_words None = codes "the end"
what_words (Some byte) = byte_name byte

-- The line: which line of the input and which file, which byte of the line, or of the path where that is coming; what came; and
-- the bytes that may come.
abbrev pub path_joint : (in_path : Bool) → List ℕ
path_joint true = codes ", path "
path_joint false = codes ", "

abbrev pub explanation : (line : ℕ) (in_path : Bool) (path : List ℕ) (byte : ℕ) (what : Option ℕ) (wanted : List Bool) → List ℕ
explanation line in_path path byte what wanted =
    (codes "cgfile: line " ++ decimal line ++ path_joint in_path) ++ (path
    ++ ((codes ", byte " ++ decimal byte ++ (codes ": " ++ what_words what ++ codes " where ")) ++ (set_words wanted ++ codes " may come\n")))

-- Where the next byte stands in a record of which this is begun: so many bytes are before it, of its path, or of its line.
abbrev pub IsInRecord : (begun : List ℕ) (in_path : Bool) (path : List ℕ) (before : ℕ) → Type 0
IsInRecord begun true path before = Lacks 0 begun × (path ≡ begun) × (before ≡ length begun)
IsInRecord begun false path before = (line : List ℕ) × Lacks 0 path × (begun ≡ path ++ 0 ∷ line) × (before ≡ length line)

-- Where it stands in the text of the file of a name: in a line of which this is begun.
abbrev pub IsInText : (name : List ℕ) (begun : List ℕ) (in_path : Bool) (path : List ℕ) (before : ℕ) → Type 0
IsInText name begun in_path path before = (in_path ≡ false) × (path ≡ name) × (before ≡ length begun)

-- The set of the bytes with which some text of L goes on behind these.
abbrev pub AreNext : (L : List ℕ → Type 0) → List ℕ → List Bool → Type 0
AreNext L p set = (byte : ℕ) → HasByte set byte ↔ Next L p byte

-- Wanted says which set of bytes may come behind some bytes, and IsIn where the next byte stands behind what is begun of a line.
module _ (Wanted : List ℕ → List Bool → Type 0) (IsIn : List ℕ → Bool → List ℕ → ℕ → Type 0) where
  -- The line behind these bytes, where this came.
  pub record Explains (p : List ℕ) (what : Option ℕ) (text : List ℕ) : Type 0 where
    pub begun : List ℕ
    pub begins : IsBegun p begun
    pub in_path : Bool
    pub path : List ℕ
    pub before : ℕ
    pub place : IsIn begun in_path path before
    pub wanted : List Bool
    pub may_come : Wanted p wanted
    pub text_is : text ≡ explanation (newlines p + 1) in_path path (before + 1) what wanted

-- The same, where the bytes may come with which some text of L goes on.
abbrev pub ExplainsNext : (L : List ℕ → Type 0) (IsIn : List ℕ → Bool → List ℕ → ℕ → Type 0) → List ℕ → Option ℕ → List ℕ → Type 0
ExplainsNext L IsIn = Explains (AreNext L) IsIn

-- Line says which line explains what came behind some bytes.
module _ (Line : List ℕ → Option ℕ → List ℕ → Type 0) where
  -- What is written of a stop behind these bytes, where this came: with the option, the line that explains it, if the grammar
  -- refused a byte, or the input ended too early; a limit isn't explained.
  abbrev pub TellsSpot : (explain : Bool) → List ℕ → Option ℕ → Stop → List ℕ → Type 0
  TellsSpot false p what s text = text ≡ []
  TellsSpot true p what (stop.Refused at why) text = Line p what text
  TellsSpot true p what (stop.Cut at) text = Line p what text
  TellsSpot true p what (stop.TooLong at) text = text ≡ []
  TellsSpot true p what (stop.TooMany at) text = text ≡ []
  TellsSpot true p what (stop.TooMuch at) text = text ≡ []

  -- The same of a stop in the bytes that were read.
  abbrev pub TellsStop : (explain : Bool) → List ℕ → Stop → List ℕ → Type 0
  TellsStop explain bytes (stop.Refused at why) text = TellsSpot explain (take at bytes) (Some (slice_index_or bytes at 0)) (stop.Refused at why) text
  TellsStop explain bytes (stop.Cut at) text = TellsSpot explain (take at bytes) None (stop.Cut at) text
  TellsStop explain bytes (stop.TooLong at) text = text ≡ []
  TellsStop explain bytes (stop.TooMany at) text = text ≡ []
  TellsStop explain bytes (stop.TooMuch at) text = text ≡ []

  -- What is written behind the last line of a run.
  abbrev pub Tells : (explain : Bool) → Reading → Outcome → List ℕ → Type 0
  Tells explain r out.Done text = text ≡ []
  Tells explain r (out.Findings n) text = text ≡ []
  Tells explain r (out.LeftOut n) text = text ≡ []
  Tells explain r (out.Stopped s) text = TellsStop explain r.bytes s text
  Tells explain r out.NotReadable text = text ≡ []
  Tells explain r out.NotWritable text = text ≡ []
  Tells explain r out.ReadFault text = text ≡ []
  Tells explain r (out.WriteFault n) text = text ≡ []
  Tells explain r out.OutOfMemory text = text ≡ []
