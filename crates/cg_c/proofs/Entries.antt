-- Why the value of a file makes no entry at a path of the file's name: the path is bad, or there is no line.
use Rattle.std.proofs.Common.{ℕ, List, Some, subst}
use Rattle.cg_value.specs.Entry.{ReadsAt}
use Rattle.cg_value.specs.EntryRefusal.{IsEntryFault}
use Rattle.cg_value.specs.Files.{FileText, ReadLines}
use Rattle.cg_value.specs.Path.{IsNameOf}
use Rattle.cg_value.specs.declared.entry.EntryFault.{EntryFault}
use Rattle.cg_value.specs.declared.entry.EntryFault.TheVariants.{BadPath, NotReadable, WrongKind, NoLines}
use Rattle.cg_value.specs.declared.profile.Profile.{Profile}
use Rattle.cg_value.specs.declared.value.Value.{Value}
use Rattle.cg_line.specs.MadeLaws.{one_form, reads_once}
use Rattle.cg_c.specs.Json.{IsLineOf, no_line}

module _ (profile : Profile) (path name text : List ℕ) (v : Value) (named : IsNameOf path name) (file : FileText profile name v text) where
  reads : ReadsAt profile path (Some file.kind)
  reads = record { name = name; name_is = named; form_is = file.kind_is }

  pub told_no_line : (why : EntryFault) → IsEntryFault profile path v why → IsLineOf profile path v (no_line why)
  told_no_line BadPath f = f
  told_no_line NotReadable f = absurd (reads_once profile path file.kind f.1 reads)
  told_no_line WrongKind f = absurd (f.3 (record {
    lines = file.spelled.lines;
    spelled = subst (λ k. ReadLines k v file.spelled.lines) (one_form profile path file.kind f.1 reads f.2) file.spelled.spelled;
  }))
  told_no_line NoLines f = f.4
