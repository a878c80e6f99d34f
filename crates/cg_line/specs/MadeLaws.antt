-- What makes an entry: a path with its one name, and a value with its lines.
use Rattle.std.proofs.Common.{◌≡◌, ◌≢◌, ℕ, List, [], ◌∷◌, inl, inr, Option, Some, None, sym, ap, subst, ◌∙◌}
use Rattle.std.proofs.Math.Logic.{∥∥₁_elim}
use Rattle.std.specs.List.{AllByRecursion}
use Rattle.cg_text.specs.Texts.{Lacks}
use Rattle.cg_value.specs.Entry.{EntryData, IsPath, ReadsAt}
use Rattle.cg_value.specs.EntryRefusal.{IsEntryFault}
use Rattle.cg_value.specs.Files.{ReadLines}
use Rattle.cg_value.specs.LineLaws.{plain_lines}
use Rattle.cg_value.specs.Path.{IsNameOf}
use Rattle.cg_value.specs.Print.{print_lines}
use Rattle.cg_value.specs.PrintLaws.{lines_fit, one_text}
use Rattle.cg_value.specs.Table.{read_form_of}
use Rattle.cg_value.specs.TableLaws.{read_form_ok}
use Rattle.cg_value.specs.declared.entry.EntryFault.{EntryFault}
use Rattle.cg_value.specs.declared.entry.EntryFault.TheVariants.{BadPath, NotReadable, WrongKind, NoLines}
use Rattle.cg_value.specs.declared.kind.ReadForm.{ReadForm}
use Rattle.cg_value.specs.declared.profile.Profile.{Profile}
use Rattle.cg_value.specs.declared.value.Value.{Value}
use Rattle.cg_line.specs.SplitLaws.{one_back}

-- ---- Paths and their names

-- A path has one name, and so it is read in one way.
pub one_name : (path n m : List ℕ) → IsNameOf path n → IsNameOf path m → n ≡ m
one_name path n m a b = one_back 47 a.directory b.directory n m a.ends b.ends a.plain b.plain (sym a.whole ∙ b.whole)

some_same : (k l : ReadForm) → Some k ≡ Some l → k ≡ l
some_same k l e = cc

pub one_form : (profile : Profile) (path : List ℕ) (k l : ReadForm) → ReadsAt profile path (Some k) → ReadsAt profile path (Some l) → k ≡ l
one_form profile path k l a b =
    some_same k l (sym a.form_is ∙ ap (λ name. read_form_of profile name) (one_name path a.name b.name a.name_is b.name_is) ∙ b.form_is)

none_some : (k : ReadForm) (a : Option ReadForm) → a ≡ None → a ≡ Some k → ⊥
none_some k a e f = cc

-- A path that is read in one way isn't read in no way.
pub reads_once : (profile : Profile) (path : List ℕ) (k : ReadForm) → ReadsAt profile path None → ReadsAt profile path (Some k) → ⊥
reads_once profile path k a b =
    none_some k (read_form_of profile b.name) (ap (λ name. read_form_of profile name) (one_name path b.name a.name b.name_is a.name_is) ∙ a.form_is) b.form_is

-- ---- Values and their lines

pub printed_some : (profile : Profile) (path : List ℕ) (kind : ReadForm) (v : Value) (lines : List (List ℕ)) → ReadsAt profile path (Some kind) → lines ≢ [] → ReadLines kind v lines → print_lines v ≢ []
printed_some profile path kind v lines r some s e = elim (one_text kind v lines (read_form_ok profile r.name kind r.form_is) s) [ inl same ↦ some (same ∙ e) | inr none ↦ some none.no_lines ]

-- What makes an entry isn't refused as one.
pub no_fault : (profile : Profile) (path : List ℕ) (kind : ReadForm) (v : Value) (lines : List (List ℕ)) (why : EntryFault) → IsPath path →
    ReadsAt profile path (Some kind) → lines ≢ [] → ReadLines kind v lines → IsEntryFault profile path v why → ⊥
no_fault profile path kind v lines BadPath g r some s f = f g
no_fault profile path kind v lines NotReadable g r some s f = reads_once profile path kind f.1 r
no_fault profile path kind v lines WrongKind g r some s f = f.3 (record { lines = lines; spelled = subst (λ k. ReadLines k v lines) (one_form profile path kind f.1 r f.2) s })
no_fault profile path kind v lines NoLines g r some s f = printed_some profile path kind v lines r some s f.4

-- ---- What every holder knows of an entry's lines

none_twice : IsProp ⊥
none_twice a b = absurd a

lacks_known : {A : Type 0} (text : List ℕ) → ∥ A ∥₁ → (A → Lacks 10 text) → Lacks 10 text
lacks_known [] known f = tt
lacks_known (c ∷ text) known f = (λ e. ∥∥₁_elim known none_twice (λ a. (f a).0 e), lacks_known text known (λ a. (f a).1))

plain_known : {A : Type 0} (lines : List (List ℕ)) → ∥ A ∥₁ → (A → AllByRecursion (Lacks 10) lines) → AllByRecursion (Lacks 10) lines
plain_known [] known f = tt
plain_known (line ∷ lines) known f = (lacks_known line known (λ a. (f a).0), plain_known lines known (λ a. (f a).1))

-- No line of an entry has a newline.
pub entry_plain : (e : EntryData) → AllByRecursion (Lacks 10) (print_lines e.value)
entry_plain e =
    plain_known (print_lines e.value) e.fits
    (λ f. (let m = f.1 in plain_lines m.kind e.value (print_lines e.value) (lines_fit m.kind e.value (read_form_ok f.0 m.reads.name m.kind m.reads.form_is) m.fits)))
