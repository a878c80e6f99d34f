-- The classes of requests (cgroup-v2.rst, "IO Priority").
use Rattle.std.specs.Prelude.{◌≡◌, List, ℕ, codes}
use Rattle.cg_text.specs.declared.values.IoClass.{IoClass}
use Rattle.cg_text.specs.declared.values.IoClass.TheVariants.{NoChange, PromoteToRt, RestrictToBe, Idle, NoneToRt}

abbrev pub class_text : IoClass → List ℕ
class_text NoChange = codes "no-change"
class_text PromoteToRt = codes "promote-to-rt"
class_text RestrictToBe = codes "restrict-to-be"
class_text Idle = codes "idle"
class_text NoneToRt = codes "none-to-rt"

-- The text is the word of the class.
abbrev pub IsClass : IoClass → List ℕ → Type 0
IsClass class text = text ≡ class_text class
