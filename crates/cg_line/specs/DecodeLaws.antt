-- What holds of reading whole texts.
use Rattle.std.proofs.Common.{◌≡◌, ℕ, ◌+◌, ◌<◌, ◌↔◌, List, ◌++◌, length, take, drop, get_or, Some, Result, Ok, Err, sym, ap, ◌∙◌, arith, length-drop}
use Rattle.std.proofs.Math.Seq.{take-add}
use Rattle.std.proofs.lemmas.List.{get_or-drop, take_more}
use Rattle.cg_file.specs.Kinds.{TextsOf}
use Rattle.cg_text.specs.Texts.{FirstBad, Next, TextOf, Viable}
use Rattle.cg_value.specs.Files.{File, FileText, KindFile}
use Rattle.cg_value.specs.Table.{read_form_of}
use Rattle.cg_value.specs.declared.profile.Profile.{Profile}
use Rattle.cg_value.specs.declared.kind.ReadForm.{ReadForm}
use Rattle.cg_value.specs.declared.value.Value.{Value}
use Rattle.cg_line.specs.Decode.{IsCut, IsReadWhole, IsStarved, IsTextFault}
use Rattle.cg_line.specs.declared.read_all.TextFault.{TextFault}
use Rattle.cg_line.specs.declared.read_all.TextFault.TheVariants as text

module _ (OpenReads : List ℕ → Type 0) (bytes : List ℕ) where
  -- A run of bytes more.
  pub run_on : (rest : List ℕ) (at used : ℕ) → rest ≡ drop at bytes → OpenReads (take at bytes ++ take used rest) → OpenReads (take (at + used) bytes)
  run_on rest at used e h = rw (take-add at used bytes, ← e) h

module _ (L : List ℕ → Type 0) (bytes : List ℕ) where
  -- A byte that is refused is the first bad one.
  first_bad : (i : ℕ) → i < length bytes → Viable L (take i bytes) → (Next L (take i bytes) (get_or bytes i 0) → ⊥) → FirstBad L bytes i
  first_bad i within before none = record {
    within = within;
    before = before;
    after = λ goes. none (rw (take_more bytes i 0 within) at goes);
  }

  -- A byte after a run that is refused.
  pub run_refused : (rest : List ℕ) (at used : ℕ) → rest ≡ drop at bytes → used < length rest → Viable L (take at bytes ++ take used rest) →
      (Next L (take at bytes ++ take used rest) (get_or rest used 0) → ⊥) → FirstBad L bytes (at + used)
  run_refused rest at used e within viable none =
      let same : get_or rest used 0 ≡ get_or bytes (at + used) 0 = ap (λ l. get_or l used 0) e ∙ get_or-drop at bytes used 0 in
      let text : take at bytes ++ take used rest ≡ take (at + used) bytes = ap (λ l. take at bytes ++ take used l) e ∙ sym (take-add at used bytes) in
      first_bad (at + used) (omega (arith, within, ap length e, length-drop at bytes)) (run_on (Viable L) bytes rest at used e viable) (rw (same, text) at none)

  -- A byte after a run for which memory was refused.
  pub run_starved : (rest : List ℕ) (at used : ℕ) → rest ≡ drop at bytes → used < length rest → Next L (take at bytes ++ take used rest) (get_or rest used 0) → IsStarved L bytes
  run_starved rest at used e within goes =
      let same : get_or rest used 0 ≡ get_or bytes (at + used) 0 = ap (λ l. get_or l used 0) e ∙ get_or-drop at bytes used 0 in
      let text : take at bytes ++ take used rest ≡ take (at + used) bytes = ap (λ l. take at bytes ++ take used l) e ∙ sym (take-add at used bytes) in
      let inside : at + used < length bytes = omega (arith, within, ap length e, length-drop at bytes) in
      record { at = at + used; within = inside; goes = rw (take_more bytes (at + used) 0 inside) (rw (same, text) at goes) }

-- What holds of the texts of a set holds of those of an equal one.
module _ (L M : List ℕ → Type 0) (same : (text : List ℕ) → L text ↔ M text) where
  viable_to : (front : List ℕ) → Viable L front → Viable M front
  viable_to front h = record { rest = h.rest; whole = (same (front ++ h.rest)).0 h.whole }

  viable_from : (front : List ℕ) → Viable M front → Viable L front
  viable_from front h = record { rest = h.rest; whole = (same (front ++ h.rest)).1 h.whole }

  pub first_bad_as : (bytes : List ℕ) (at : ℕ) → FirstBad L bytes at → FirstBad M bytes at
  first_bad_as bytes at h = record { within = h.within; before = viable_to _ h.before; after = λ v. h.after (viable_from _ v) }

  pub starved_as : (bytes : List ℕ) → IsStarved L bytes → IsStarved M bytes
  starved_as bytes h = record { at = h.at; within = h.within; goes = viable_to _ h.goes }

  cut_as : (bytes : List ℕ) (at : ℕ) → IsCut L bytes at → IsCut M bytes at
  cut_as bytes at h = record { at_end = h.at_end; viable = viable_to _ h.viable; not_whole = λ f. h.not_whole ((same bytes).1 f) }

  pub fault_as : (bytes : List ℕ) (fault : TextFault) → IsTextFault L bytes fault → IsTextFault M bytes fault
  fault_as bytes (text.Refused at) h = first_bad_as bytes at h
  fault_as bytes (text.Cut at) h = cut_as bytes at h
  fault_as bytes text.OutOfMemory h = starved_as bytes h

-- The texts of a relation have the values that an equal one gives them.
module _ {V : Type 0} (R Q : List ℕ → V → Type 0) (same : (text : List ℕ) (v : V) → R text v ↔ Q text v) where
  pub texts_as : (text : List ℕ) → TextOf R text ↔ TextOf Q text
  texts_as text = (λ w. (w.0, (same text w.0).0 w.1), λ w. (w.0, (same text w.0).1 w.1))

  pub read_as : (bytes : List ℕ) (r : Result V TextFault) → IsReadWhole R bytes r → IsReadWhole Q bytes r
  read_as bytes (Ok v) h = (same bytes v).0 h
  read_as bytes (Err fault) h = fault_as (TextOf R) (TextOf Q) texts_as bytes fault h

module _ (profile : Profile) (name : List ℕ) (kind : ReadForm) (is : read_form_of profile name ≡ Some kind) where
  same_kind : (k : ReadForm) → read_form_of profile name ≡ Some k → k ≡ kind
  same_kind k e = cc

  -- The files of the kind are those of the name.
  pub kind_texts : (text : List ℕ) (v : Value) → TextsOf kind text v ↔ FileText profile name v text
  kind_texts text v = (
    λ h. record { kind = kind; kind_is = is; spelled = h },
    λ h. (let e = same_kind h.kind h.kind_is in rw e at h.spelled),
  )

  pub kind_files : (text : List ℕ) → KindFile kind text ↔ File profile name text
  kind_files = texts_as (TextsOf kind) (λ (t : List ℕ) (v : Value). FileText profile name v t) kind_texts
