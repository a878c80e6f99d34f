-- What becomes of the bytes of a file.
use Rattle.std.specs.Prelude.{◌≡◌, ℕ, ◌+◌, ◌<◌, List, length, take, None, Result, Ok, Err}
use Rattle.cg_text.specs.Texts.{FirstBad, TextOf, Viable}
use Rattle.cg_value.specs.Files.{FileText, File}
use Rattle.cg_value.specs.Table.{read_form_of}
use Rattle.cg_value.specs.declared.profile.Profile.{Profile}
use Rattle.cg_value.specs.declared.value.Value.{Value}
use Rattle.cg_line.specs.declared.decode.FileFault.{FileFault}
use Rattle.cg_line.specs.declared.decode.FileFault.TheVariants.{NotReadable, Refused, Cut, OutOfMemory}
use Rattle.cg_line.specs.declared.read_all.TextFault.{TextFault}
use Rattle.cg_line.specs.declared.read_all.TextFault.TheVariants as text

-- The bytes end before a text of the set does.
pub record IsCut (L : List ℕ → Type 0) (bytes : List ℕ) (at : ℕ) : Type 0 where
  pub at_end : at ≡ length bytes
  pub viable : Viable L bytes
  pub not_whole : L bytes → ⊥

-- Memory was refused at a byte with which a text of the set goes on.
pub record IsStarved (L : List ℕ → Type 0) (bytes : List ℕ) : Type 0 where
  pub at : ℕ
  pub within : at < length bytes
  pub goes : Viable L (take (at + 1) bytes)

-- The first bad byte of the bytes is told; or their end is; or memory was refused before either.
abbrev pub IsTextFault : (List ℕ → Type 0) → List ℕ → TextFault → Type 0
IsTextFault L bytes (text.Refused at) = FirstBad L bytes at
IsTextFault L bytes (text.Cut at) = IsCut L bytes at
IsTextFault L bytes text.OutOfMemory = IsStarved L bytes

-- The bytes are a text of the relation with the value; or it's told why they are none.
abbrev pub IsReadWhole : {V : Type 0} → (List ℕ → V → Type 0) → List ℕ → Result V TextFault → Type 0
IsReadWhole {V} Text bytes (Ok v) = Text bytes v
IsReadWhole {V} Text bytes (Err fault) = IsTextFault (TextOf Text) bytes fault

-- The bytes are a file of the name with the value; or it's told why they are none, or that none of the name can be read.
abbrev pub IsDecoded : Profile → List ℕ → List ℕ → Result Value FileFault → Type 0
IsDecoded profile name bytes (Ok v) = FileText profile name v bytes
IsDecoded profile name bytes (Err NotReadable) = read_form_of profile name ≡ None
IsDecoded profile name bytes (Err (Refused at)) = FirstBad (File profile name) bytes at
IsDecoded profile name bytes (Err (Cut at)) = IsCut (File profile name) bytes at
IsDecoded profile name bytes (Err OutOfMemory) = IsStarved (File profile name) bytes
