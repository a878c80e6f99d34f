-- What holds of two profiles of which one comes before the other: where a text is a snapshot of each, the entries are the same,
-- but for those whose lines are raw in the earlier one alone.
use Rattle.std.proofs.Common.{◌≡◌, ◌≢◌, ℕ, ◌≤◌, ◌↔◌, Bool, true, false, cond, List, [], ◌∷◌, ◌++◌, Option, Some, None, option_map, unwrap_or, Result, Ok, Err, codes, drop, inl, inr, ◌⊎◌, refl, sym, ap, subst, ◌∙◌, arith}
use Rattle.std.proofs.Math.Logic.{∥∥₁_elim}
use Rattle.std.proofs.Props.{props}
use Rattle.std.proofs.lemmas.Slice.Eq.{bytes_eq-Decides}
use Rattle.std.specs.List.{AllZip}
use Rattle.std.specs.Str.{bytes_eq}
use Rattle.cg_text.specs.Decimal.{IsDecimal}
use Rattle.cg_text.specs.List.{AreRangeTexts, IsRangeText}
use Rattle.cg_value.specs.Entry.{EntryData, IsEntry, ReadsAt}
use Rattle.cg_value.specs.EntryLaws.{entry_path, same_entry}
use Rattle.cg_value.specs.Files.{ReadLines}
use Rattle.cg_value.specs.Path.{IsNameOf}
use Rattle.cg_value.specs.ReadLine.{IsRaw}
use Rattle.cg_value.specs.RowName.{behind, behind_size, row_name, sized_name}
use Rattle.cg_value.specs.Table.{Row, is_kernel, list_end, more_rows, numa_stat, read_form_of, reads_by, reads_in, rows}
use Rattle.cg_value.specs.declared.kind.ReadForm.{ReadForm}
use Rattle.cg_value.specs.declared.kind.ReadForm.TheVariants as form
use Rattle.cg_value.specs.declared.profile.Profile.{Profile}
use Rattle.cg_value.specs.declared.profile.Profile.TheVariants.{One, Two, Kernel}
use Rattle.cg_value.specs.declared.value.Value.{Value}
use Rattle.cg_value.specs.declared.value.Value.TheVariants as value
use Rattle.cg_file.specs.OneValueLaws.{one_value}
use Rattle.cg_file.specs.WeightFileLaws.{not_empty}
use Rattle.cg_line.specs.MadeLaws.{one_name}
use Rattle.cg_line.specs.Upgrading.{AreToRead, IsBefore, IsUp, IsUpgraded}
use Rattle.cg_line.specs.UpgradingLaws.{read_up}
use Rattle.cg_line.specs.declared.upgrading.UpgradeFault.{UpgradeFault}
use Rattle.cg_line.specs.declared.upgrading.UpgradeFault.TheVariants.{Line, OutOfMemory}
use Rattle.cg_snap.specs.Closed.{Closed}
use Rattle.cg_snap.specs.ClosedLaws.{given_once}
use Rattle.cg_snap.specs.Snap.{AreEntryLines, SnapText}
use Rattle.cg_snap.specs.SnapLaws.{entry_starts, heads_lines, lines_plain, not_of}
use Rattle.cg_snap.specs.WiderLaws.{all_limits_wider, stats_wider, targets_wider, weights_wider}

-- ---- Lists of more numbers

decimal_wider : (most more n : ℕ) (text : List ℕ) → most ≤ more → IsDecimal 0 most n text → IsDecimal 0 more n text
decimal_wider most more n text h d = (d.0, omega (arith, h, d.1), d.2)

range_wider : (most more : ℕ) (r : ℕ × ℕ) (text : List ℕ) → most ≤ more → IsRangeText most r text → IsRangeText more r text
range_wider most more r text h (inl d) = inl (d.0, decimal_wider most more r.0 text h d.1)
range_wider most more r text h (inr d) = inr (d.0, d.1, d.2, d.3, decimal_wider most more r.0 d.1 h d.4, decimal_wider most more r.1 d.2 h d.5)

ranges_wider : (most more : ℕ) (rs : List (ℕ × ℕ)) (text : List ℕ) → most ≤ more → AreRangeTexts most rs text → AreRangeTexts more rs text
ranges_wider most more [] text h d = d
ranges_wider most more (r ∷ []) text h d = range_wider most more r text h d
ranges_wider most more (r ∷ q ∷ rs) text h d = (d.0, d.1, d.2, range_wider most more r d.0 h d.3, ranges_wider most more (q ∷ rs) d.1 h d.4)

set_wider : (most more : ℕ) (v : Value) (lines : List (List ℕ)) → most ≤ more → ReadLines (form.Set most) v lines → ReadLines (form.Set more) v lines
set_wider most more v lines b h = record { x = h.x; line = h.line; value = h.value; lines_are = h.lines_are; spelled = (h.spelled.0, ranges_wider most more h.x h.line b h.spelled.1) }

-- ---- Kinds

some_one : (k l : ReadForm) → Some k ≡ Some l → k ≡ l
some_one k l e = cc

-- The later kind has all lines of the earlier one, each of the same value, and neither is raw.
record IsWidened (o p : Option ReadForm) : Type 0 where
  first : ReadForm
  later : ReadForm
  first_is : o ≡ Some first
  later_is : p ≡ Some later
  first_typed : first ≢ form.Raw
  later_typed : later ≢ form.Raw
  wider : (v : Value) (lines : List (List ℕ)) → ReadLines first v lines → ReadLines later v lines

sets_widened : (most more : ℕ) → most ≤ more → IsWidened (Some (form.Set most)) (Some (form.Set more))
sets_widened most more b = record {
  first = form.Set most;
  later = form.Set more;
  first_is = refl;
  later_is = refl;
  first_typed = λ e. cc;
  later_typed = λ e. cc;
  wider = λ v lines. set_wider most more v lines b;
}

-- ---- The table

-- The names whose files may be typed in the profile, though they are raw in an earlier one.
abbrev IsNew : Profile → List ℕ → Type 0
IsNew One name = ⊥
IsNew Two name = name ≡ codes "memory.numa_stat"
IsNew Kernel name = Unit {0}

module _ (New : List ℕ → Type 0) where
  -- The later profile has the same form, or a wider one; or the earlier one has raw lines, of a new name.
  abbrev Differ : List ℕ → Option ReadForm → Option ReadForm → Type 0
  Differ name o p = (o ≡ p) ⊎ (IsWidened o p ⊎ ((o ≡ Some form.Raw) × New name))

  -- The rows have the same names, and the later profile may have more.
  abbrev RowsDiffer : List Row → List Row → Type 0
  RowsDiffer [] [] = Unit {0}
  RowsDiffer [] (q ∷ qs) = (name : List ℕ) → New name
  RowsDiffer (r ∷ rs) [] = ⊥
  RowsDiffer (r ∷ rs) (q ∷ qs) = (r.name ≡ q.name) × Differ r.name r.reads q.reads × RowsDiffer rs qs

  picked : (b : Bool) (name row : List ℕ) (o p u v : Option ReadForm) → (b ≡ true → row ≡ name) → Differ row o p → Differ name u v → Differ name (cond b o u) (cond b p v)
  picked true name row o p u v e d f = subst (λ n. Differ n o p) (e refl) d
  picked false name row o p u v e d f = f

  reads_differ : (rs qs : List Row) (name : List ℕ) → RowsDiffer rs qs → Differ name (reads_in rs name) (reads_in qs name)
  reads_differ [] [] name d = inl refl
  reads_differ [] (q ∷ qs) name d = inr (inr (refl, d name))
  reads_differ (r ∷ rs) [] name d = absurd d
  reads_differ (r ∷ rs) (q ∷ qs) name d =
      let same : bytes_eq q.name name ≡ bytes_eq r.name name = ap (λ n. bytes_eq n name) (sym d.0) in
      rw same (picked (bytes_eq r.name name) name r.name r.reads q.reads (reads_in rs name) (reads_in qs name) (bytes_eq-Decides r.name name).0 d.1 (reads_differ rs qs name d.2))

  same_rows : (rs : List Row) → RowsDiffer rs rs
  same_rows [] = tt
  same_rows (r ∷ rs) = (refl, inl refl, same_rows rs)

-- What the later profile has otherwise.
sets_differ : (from to : Profile) (name : List ℕ) → IsBefore from to → Differ (IsNew to) name (Some (form.Set (list_end from))) (Some (form.Set (list_end to)))
sets_differ One One name b = inl refl
sets_differ One Two name b = inr (inl (sets_widened 65535 1048575 (omega arith)))
sets_differ One Kernel name b = inr (inl (sets_widened 65535 1048575 (omega arith)))
sets_differ Two One name b = absurd b
sets_differ Two Two name b = inl refl
sets_differ Two Kernel name b = inl refl
sets_differ Kernel One name b = absurd b
sets_differ Kernel Two name b = absurd b
sets_differ Kernel Kernel name b = inl refl

-- A form that carries whether the profile is that of the kernel.
module _ (make : Bool → ReadForm) (typed : (kernel : Bool) → make kernel ≢ form.Raw) (wider : (v : Value) (lines : List (List ℕ)) → ReadLines (make false) v lines → ReadLines (make true) v lines) where
  devices_widened : IsWidened (Some (make false)) (Some (make true))
  devices_widened = record { first = make false; later = make true; first_is = refl; later_is = refl; first_typed = typed false; later_typed = typed true; wider = wider }

  devices_differ : (from to : Profile) (name : List ℕ) → IsBefore from to → Differ (IsNew to) name (Some (make (is_kernel from))) (Some (make (is_kernel to)))
  devices_differ One One name b = inl refl
  devices_differ One Two name b = inl refl
  devices_differ One Kernel name b = inr (inl devices_widened)
  devices_differ Two One name b = absurd b
  devices_differ Two Two name b = inl refl
  devices_differ Two Kernel name b = inr (inl devices_widened)
  devices_differ Kernel One name b = absurd b
  devices_differ Kernel Two name b = absurd b
  devices_differ Kernel Kernel name b = inl refl

stats_differ : (from to : Profile) (name : List ℕ) → IsBefore from to → Differ (IsNew to) name (Some (form.DeviceStats (is_kernel from))) (Some (form.DeviceStats (is_kernel to)))
stats_differ = devices_differ (λ kernel. form.DeviceStats kernel) (λ kernel e. cc) stats_wider

limits_differ : (from to : Profile) (name : List ℕ) → IsBefore from to → Differ (IsNew to) name (Some (form.DeviceLimits (is_kernel from))) (Some (form.DeviceLimits (is_kernel to)))
limits_differ = devices_differ (λ kernel. form.DeviceLimits kernel) (λ kernel e. cc) all_limits_wider

weights_differ : (from to : Profile) (name : List ℕ) → IsBefore from to → Differ (IsNew to) name (Some (form.DeviceWeights 10000 (is_kernel from))) (Some (form.DeviceWeights 10000 (is_kernel to)))
weights_differ = devices_differ (λ kernel. form.DeviceWeights 10000 kernel) (λ kernel e. cc) (weights_wider 10000)

targets_differ : (from to : Profile) (name : List ℕ) → IsBefore from to → Differ (IsNew to) name (Some (form.DeviceTargets (is_kernel from))) (Some (form.DeviceTargets (is_kernel to)))
targets_differ = devices_differ (λ kernel. form.DeviceTargets kernel) (λ kernel e. cc) targets_wider

numa_differs : (from to : Profile) → IsBefore from to → Differ (IsNew to) (codes "memory.numa_stat") (Some (numa_stat from)) (Some (numa_stat to))
numa_differs One One b = inl refl
numa_differs One Two b = inr (inr (refl, refl))
numa_differs One Kernel b = inr (inr (refl, tt))
numa_differs Two One b = absurd b
numa_differs Two Two b = inl refl
numa_differs Two Kernel b = inl refl
numa_differs Kernel One b = absurd b
numa_differs Kernel Two b = absurd b
numa_differs Kernel Kernel b = inl refl

more_differ : (from to : Profile) → IsBefore from to → RowsDiffer (IsNew to) (more_rows from) (more_rows to)
more_differ One One b = tt
more_differ One Two b = tt
more_differ One Kernel b = λ name. tt
more_differ Two One b = absurd b
more_differ Two Two b = tt
more_differ Two Kernel b = λ name. tt
more_differ Kernel One b = absurd b
more_differ Kernel Two b = absurd b
more_differ Kernel Kernel b = same_rows (IsNew Kernel) (more_rows Kernel)

rows_differ : (from to : Profile) → IsBefore from to → RowsDiffer (IsNew to) (rows from) (rows to)
rows_differ from to b =
    let s : (name : List ℕ) → Differ (IsNew to) name (Some (form.Set (list_end from))) (Some (form.Set (list_end to))) = λ name. sets_differ from to name b in
    let from_56 : RowsDiffer (IsNew to) (drop 56 (rows from)) (drop 56 (rows to)) = (refl, s (codes "cpuset.cpus.exclusive"), (refl, s (codes "cpuset.cpus.exclusive.effective"), (refl, s (codes "cpuset.cpus.isolated"), (refl, inl refl, more_differ from to b)))) in
    let from_52 : RowsDiffer (IsNew to) (drop 52 (rows from)) (drop 52 (rows to)) = (refl, s (codes "cpuset.cpus"), (refl, s (codes "cpuset.mems"), (refl, s (codes "cpuset.cpus.effective"), (refl, s (codes "cpuset.mems.effective"), from_56)))) in
    let from_40 : RowsDiffer (IsNew to) (drop 40 (rows from)) (drop 40 (rows to)) = (refl, numa_differs from to b, (refl, inl refl, (refl, stats_differ from to (codes "io.stat") b, (refl, limits_differ from to (codes "io.max") b, (refl, weights_differ from to (codes "io.weight") b, (refl, targets_differ from to (codes "io.latency") b, (refl, inl refl, (refl, inl refl, (refl, inl refl, (refl, inl refl, (refl, inl refl, (refl, inl refl, from_52)))))))))))) in
    let from_30 : RowsDiffer (IsNew to) (drop 30 (rows from)) (drop 30 (rows to)) = (refl, inl refl, (refl, inl refl, (refl, inl refl, (refl, inl refl, (refl, inl refl, (refl, inl refl, (refl, inl refl, (refl, inl refl, (refl, inl refl, (refl, inl refl, from_40)))))))))) in
    let from_20 : RowsDiffer (IsNew to) (drop 20 (rows from)) (drop 20 (rows to)) = (refl, inl refl, (refl, inl refl, (refl, inl refl, (refl, inl refl, (refl, inl refl, (refl, inl refl, (refl, inl refl, (refl, inl refl, (refl, inl refl, (refl, inl refl, from_30)))))))))) in
    let from_10 : RowsDiffer (IsNew to) (drop 10 (rows from)) (drop 10 (rows to)) = (refl, inl refl, (refl, inl refl, (refl, inl refl, (refl, inl refl, (refl, inl refl, (refl, inl refl, (refl, inl refl, (refl, inl refl, (refl, inl refl, (refl, inl refl, from_20)))))))))) in
    (refl, inl refl, (refl, inl refl, (refl, inl refl, (refl, inl refl, (refl, inl refl, (refl, inl refl, (refl, inl refl, (refl, inl refl, (refl, inl refl, (refl, inl refl, from_10))))))))))

-- ---- The name of a row

abbrev first_byte : List ℕ → ℕ
first_byte [] = 0
first_byte (c ∷ cs) = c

-- The row of memory.numa_stat has no other name.
numa_alone : (name : List ℕ) → row_name name ≡ Some (codes "memory.numa_stat") → name ≡ codes "memory.numa_stat"
numa_alone name e = alone (behind (codes "hugetlb.") name) e
  where
    no_size : (size : Option (List ℕ)) → option_map (λ rest. codes "hugetlb.*" ++ rest) size ≡ Some (codes "memory.numa_stat") → ⊥
    no_size None k = absurd (cc)
    no_size (Some rest) k =
        let sized : codes "hugetlb.*" ++ rest ≡ codes "memory.numa_stat" = ap (λ (o : Option (List ℕ)). unwrap_or o []) k in
        let firsts : 104 ≡ 109 = ap first_byte sized in absurd (omega (arith, firsts))

    alone : (front : Option (List ℕ)) → sized_name name front ≡ Some (codes "memory.numa_stat") → name ≡ codes "memory.numa_stat"
    alone None k = ap (λ (o : Option (List ℕ)). unwrap_or o []) k
    alone (Some text) k = absurd (no_size (behind_size text) k)

new_name : (to : Profile) (name row : List ℕ) → row_name name ≡ Some row → IsNew to row → IsNew to name
new_name One name row e h = h
new_name Two name row e h = numa_alone name (e ∙ ap Some h)
new_name Kernel name row e h = tt

renamed : (to : Profile) (name row : List ℕ) (o p : Option ReadForm) → row_name name ≡ Some row → Differ (IsNew to) row o p → Differ (IsNew to) name o p
renamed to name row o p e (inl d) = inl d
renamed to name row o p e (inr (inl d)) = inr (inl d)
renamed to name row o p e (inr (inr d)) = inr (inr (d.0, new_name to name row e d.1))

module _ (from to : Profile) (before : IsBefore from to) (name : List ℕ) where
  by_name : (named : Option (List ℕ)) → row_name name ≡ named → Differ (IsNew to) name (reads_by (rows from) named) (reads_by (rows to) named)
  by_name None e = inl refl
  by_name (Some row) e = renamed to name row _ _ e (reads_differ (IsNew to) (rows from) (rows to) row (rows_differ from to before))

  forms_differ : Differ (IsNew to) name (read_form_of from name) (read_form_of to name)
  unfolding read_form_of
  forms_differ = by_name (row_name name) refl

-- ---- Entries

raw_is : (xs lines : List (List ℕ)) → AllZip IsRaw xs lines → xs ≡ lines
raw_is [] [] h = refl
raw_is [] (line ∷ lines) h = absurd h
raw_is (x ∷ xs) [] h = absurd h
raw_is (x ∷ xs) (line ∷ lines) h = let first : line ≡ x = h.0.0 in let rest = raw_is xs lines h.1 in cc

raw_value : (v : Value) (lines : List (List ℕ)) → ReadLines form.Raw v lines → v ≡ value.Raw lines
raw_value v lines h = h.value ∙ ap (λ xs. value.Raw xs) (raw_is h.xs lines h.spelled)

-- A kind is raw, or raw lines are no value of it.
raw_or : (k : ReadForm) → (k ≡ form.Raw) ⊎ ((xs lines : List (List ℕ)) → ReadLines k (value.Raw xs) lines → ⊥)
raw_or (form.Number lo hi) = inr (λ xs lines h. (let e = h.value in cc))
raw_or (form.Signed lo hi) = inr (λ xs lines h. (let e = h.value in cc))
raw_or form.Limit = inr (λ xs lines h. (let e = h.value in cc))
raw_or form.Mode = inr (λ xs lines h. (let e = h.value in cc))
raw_or form.Class = inr (λ xs lines h. (let e = h.value in cc))
raw_or form.CpuMax = inr (λ xs lines h. (let e = h.value in cc))
raw_or form.Clamp = inr (λ xs lines h. (let e = h.value in cc))
raw_or (form.Numbers lo hi) = inr (λ xs lines h. (let e = h.value in cc))
raw_or form.Words = inr (λ xs lines h. (let e = h.value in cc))
raw_or form.Flat = inr (λ xs lines h. (let e = h.value in cc))
raw_or form.FlatLimits = inr (λ xs lines h. (let e = h.value in cc))
raw_or (form.DeviceStats kernel) = inr (λ xs lines h. (let e = h.value in cc))
raw_or (form.DeviceLimits kernel) = inr (λ xs lines h. (let e = h.value in cc))
raw_or (form.DeviceWeights most kernel) = inr (λ xs lines h. (let e = h.value in cc))
raw_or (form.DeviceTargets kernel) = inr (λ xs lines h. (let e = h.value in cc))
raw_or form.DeviceParams = inr (λ xs lines h. (let e = h.value in cc))
raw_or (form.Set most) = inr (λ xs lines h. (let e = h.value in cc))
raw_or form.Partition = inr (λ xs lines h. (let e = h.value in cc))
raw_or form.Pressure = inr (λ xs lines h. (let e = h.value in cc))
raw_or form.Nested = inr (λ xs lines h. (let e = h.value in cc))
raw_or form.NodeStats = inr (λ xs lines h. (let e = h.value in cc))
raw_or form.Raw = inl refl

raw_only : (k : ReadForm) (xs lines : List (List ℕ)) → ReadLines k (value.Raw xs) lines → k ≡ form.Raw
raw_only k xs lines h = elim (raw_or k) [ inl same ↦ same | inr none ↦ absurd (none xs lines h) ]

typed_kind : (k : ReadForm) → ((xs lines : List (List ℕ)) → ReadLines k (value.Raw xs) lines → ⊥) → k ≢ form.Raw
typed_kind k none e = none [] [] (subst (λ l. ReadLines l (value.Raw []) []) (sym e) (record { xs = []; value = refl; spelled = tt }))

module _ (from to : Profile) (before : IsBefore from to) (e f : EntryData) (lines : List (List ℕ)) (p : e.path ≡ f.path) (a : AreEntryLines from e lines) (b : AreEntryLines to f lines) where
  -- What the later profile reads at the path.
  abbrev reads : ReadsAt to e.path (Some b.kind)
  reads = record { name = b.reads.name; name_is = subst (λ path. IsNameOf path b.reads.name) (sym p) b.reads.name_is; form_is = b.reads.form_is }

  same_name : a.reads.name ≡ b.reads.name
  same_name = one_name e.path a.reads.name b.reads.name a.reads.name_is reads.name_is

  same_lines : (k : ReadForm) → ReadLines k e.value lines → ReadLines k f.value lines → f ≡ e
  same_lines k g h =
      same_entry f e (sym p) (one_value k _ f.value e.value (record { lines = lines; spelled = h; text_is = refl }) (record { lines = lines; spelled = g; text_is = refl }))

  -- Where the entry's lines aren't raw in the earlier profile, it is itself in the later one.
  up_same : f ≡ e → IsUp to e f
  up_same same = record {
    read = λ kind ls r. absurd (r.typed (some_one kind b.kind (sym r.reads.form_is ∙ ap (λ n. read_form_of to n) (one_name e.path r.reads.name reads.name r.reads.name_is reads.name_is) ∙ reads.form_is)
        ∙ raw_only b.kind ls lines (subst (λ v. ReadLines b.kind v lines) (ap (λ (x : EntryData). x.value) same ∙ r.raw) b.spelled)));
    same = λ none. same;
  }

  up_raw : a.kind ≡ form.Raw → IsUp to e f
  up_raw raw =
      let given : ReadLines form.Raw e.value lines = subst (λ k. ReadLines k e.value lines) raw a.spelled in
      let value_is = raw_value e.value lines given in
      elim (raw_or b.kind) [
        | inl same ↦ up_same (same_lines form.Raw given (subst (λ k. ReadLines k f.value lines) same b.spelled))
        | inr none ↦ read_up to e b.kind lines (record { reads = reads; typed = typed_kind b.kind none; raw = value_is }) f (sym p) b.spelled
      ]

  up_by : Differ (IsNew to) a.reads.name (Some a.kind) (Some b.kind) → IsUp to e f
  up_by (inl d) = up_same (same_lines b.kind (subst (λ x. ReadLines x e.value lines) (some_one a.kind b.kind d) a.spelled) b.spelled)
  up_by (inr (inl d)) =
      let k : a.kind ≡ d.first = some_one a.kind d.first d.first_is in
      let l : b.kind ≡ d.later = some_one b.kind d.later d.later_is in
      up_same (same_lines d.later (d.wider e.value lines (subst (λ x. ReadLines x e.value lines) k a.spelled)) (subst (λ x. ReadLines x f.value lines) l b.spelled))
  up_by (inr (inr d)) = up_raw (some_one a.kind form.Raw d.0)

  pub one_up : IsUp to e f
  one_up =
      let later : read_form_of to a.reads.name ≡ Some b.kind = ap (λ n. read_form_of to n) same_name ∙ b.reads.form_is in
      up_by (subst (λ o. Differ (IsNew to) a.reads.name o (Some b.kind)) a.reads.form_is (subst (λ o. Differ (IsNew to) a.reads.name (read_form_of from a.reads.name) o) later (forms_differ from to before a.reads.name)))

-- ---- What is answered

pub answers_up : (to : Profile) (e f : EntryData) (answer : Result EntryData UpgradeFault) → IsUp to e f → IsUpgraded to e answer → (answer ≡ Ok f) ⊎ (answer ≡ Err OutOfMemory)
answers_up to e f (Ok g) up a = inl (ap Ok (sym (a.1 f up)))
answers_up to e f (Err (Line line at)) up a = absurd (a.no_up f up)
answers_up to e f (Err OutOfMemory) up a = inr refl

-- ---- By way of a profile

-- An entry whose lines aren't raw isn't read anew.
not_read : (to : Profile) (f : EntryData) (k : ReadForm) (lines : List (List ℕ)) → k ≢ form.Raw → ReadLines k f.value lines → (kind : ReadForm) (ls : List (List ℕ)) → AreToRead to f kind ls → ⊥
not_read to f k lines typed spelled kind ls r = typed (raw_only k ls lines (subst (λ v. ReadLines k v lines) r.raw spelled))

module _ (by to : Profile) (before : IsBefore by to) (e f g : EntryData) (first : IsUp by e f) (second : IsUp to f g) where
  -- What the way's profile reads by a kind, the later one reads by this one or a wider one.
  way_read : (k kind : ReadForm) (ls : List (List ℕ)) → AreToRead by e k ls → ((v : Value) → ReadLines k v ls → ReadLines kind v ls) → (g.path ≡ e.path) × ReadLines kind g.value ls
  way_read k kind ls r wider =
      let up = first.read k ls r in
      let same : g ≡ f = second.same (not_read to f k ls r.typed up.1) in
      (ap (λ (x : EntryData). x.path) same ∙ up.0, subst (λ (x : EntryData). ReadLines kind x.value ls) (sym same) (wider f.value up.1))

  way_same : ((k : ReadForm) (ls : List (List ℕ)) → AreToRead by e k ls → ⊥) → IsUp to e g
  way_same none = subst (λ x. IsUp to x g) (first.same none) second

  by_way_read : (kind : ReadForm) (ls : List (List ℕ)) (r : AreToRead to e kind ls) → Differ (IsNew to) r.reads.name (read_form_of by r.reads.name) (Some kind) → (g.path ≡ e.path) × ReadLines kind g.value ls
  by_way_read kind ls r (inl d) = way_read kind kind ls (record { reads = record { name = r.reads.name; name_is = r.reads.name_is; form_is = d }; typed = r.typed; raw = r.raw }) (λ v h. h)
  by_way_read kind ls r (inr (inl d)) =
      let wide : kind ≡ d.later = some_one kind d.later d.later_is in
      way_read d.first kind ls (record { reads = record { name = r.reads.name; name_is = r.reads.name_is; form_is = d.first_is }; typed = d.first_typed; raw = r.raw })
      (λ v h. subst (λ k. ReadLines k v ls) (sym wide) (d.wider v ls h))
  by_way_read kind ls r (inr (inr d)) =
      let none : (k : ReadForm) (ms : List (List ℕ)) → AreToRead by e k ms → ⊥ = λ k ms q. q.typed (sym (some_one form.Raw k (sym d.0 ∙ ap (λ n. read_form_of by n) (one_name e.path r.reads.name q.reads.name r.reads.name_is q.reads.name_is) ∙ q.reads.form_is))) in
      (way_same none).read kind ls r

  none_by_way : ((kind : ReadForm) (ls : List (List ℕ)) → AreToRead to e kind ls → ⊥) → (k : ReadForm) (ls : List (List ℕ)) (q : AreToRead by e k ls) → Differ (IsNew to) q.reads.name (Some k) (read_form_of to q.reads.name) → ⊥
  none_by_way none k ls q (inl d) = none k ls (record { reads = record { name = q.reads.name; name_is = q.reads.name_is; form_is = sym d }; typed = q.typed; raw = q.raw })
  none_by_way none k ls q (inr (inl d)) = none d.later ls (record { reads = record { name = q.reads.name; name_is = q.reads.name_is; form_is = d.later_is }; typed = d.later_typed; raw = q.raw })
  none_by_way none k ls q (inr (inr d)) = q.typed (some_one k form.Raw d.0)

  way_up : IsUp to e g
  way_up = record {
    read = λ kind ls r. by_way_read kind ls r (subst (λ o. Differ (IsNew to) r.reads.name (read_form_of by r.reads.name) o) r.reads.form_is (forms_differ by to before r.reads.name));
    same = λ none. (way_same (λ k ls q. none_by_way none k ls q (subst (λ o. Differ (IsNew to) q.reads.name o (read_form_of to q.reads.name)) q.reads.form_is (forms_differ by to before q.reads.name)))).same none;
  }

pub by_the_way : (by to : Profile) → IsBefore by to → (e f g : EntryData) → IsUp by e f → IsUp to f g → IsUp to e g
by_the_way by to before e f g first second = way_up by to before e f g first second

-- ---- To the second profile

numa_nested : read_form_of Two (codes "memory.numa_stat") ≡ Some form.Nested
unfolding read_form_of
numa_nested = refl

-- A name that is raw in some profile, and typed in the second.
numa_name : (profile : Profile) (name : List ℕ) (kind : ReadForm) → read_form_of profile name ≡ Some form.Raw → read_form_of Two name ≡ Some kind → kind ≢ form.Raw → name ≡ codes "memory.numa_stat"
numa_name One name kind raw reads typed = new (subst (λ o. Differ (IsNew Two) name o (Some kind)) raw (subst (λ o. Differ (IsNew Two) name (read_form_of One name) o) reads (forms_differ One Two tt name)))
  where
    new : Differ (IsNew Two) name (Some form.Raw) (Some kind) → name ≡ codes "memory.numa_stat"
    new (inl d) = absurd (typed (sym (some_one form.Raw kind d)))
    new (inr (inl d)) = absurd (d.first_typed (sym (some_one form.Raw d.first d.first_is)))
    new (inr (inr d)) = d.1
numa_name Two name kind raw reads typed = absurd (typed (some_one kind form.Raw (sym reads ∙ raw)))
numa_name Kernel name kind raw reads typed = absurd (none (subst (λ o. Differ (IsNew Kernel) name (Some kind) o) raw (subst (λ o. Differ (IsNew Kernel) name o (read_form_of Kernel name)) reads (forms_differ Two Kernel tt name))))
  where
    none : Differ (IsNew Kernel) name (Some kind) (Some form.Raw) → ⊥
    none (inl d) = typed (some_one kind form.Raw d)
    none (inr (inl d)) = d.later_typed (sym (some_one form.Raw d.later d.later_is))
    none (inr (inr d)) = typed (some_one kind form.Raw d.0)

-- What the second profile reads anew are raw lines of memory.numa_stat, as nested.
module _ (e : EntryData) (kind : ReadForm) (lines : List (List ℕ)) where
  name_is_numa : (r : AreToRead Two e kind lines) → r.reads.name ≡ codes "memory.numa_stat"
  name_is_numa r = ∥∥₁_elim e.fits (hlevel props) (λ m. numa_name m.0 r.reads.name kind (raw_there m.0 m.1) r.reads.form_is r.typed)
    where
      raw_there : (profile : Profile) → IsEntry profile e.path e.value → read_form_of profile r.reads.name ≡ Some form.Raw
      raw_there profile m =
          let raw : m.kind ≡ form.Raw = raw_only m.kind lines m.fits.lines (subst (λ v. ReadLines m.kind v m.fits.lines) r.raw m.fits.spelled) in
          ap (λ n. read_form_of profile n) (one_name e.path r.reads.name m.reads.name r.reads.name_is m.reads.name_is) ∙ m.reads.form_is ∙ ap Some raw

  pub only_numa : AreToRead Two e kind lines ↔ (IsNameOf e.path (codes "memory.numa_stat") × (kind ≡ form.Nested) × (e.value ≡ value.Raw lines))
  only_numa = (
    λ r. (let n = name_is_numa r in (
      subst (IsNameOf e.path) n r.reads.name_is,
      some_one kind form.Nested (sym r.reads.form_is ∙ ap (λ n. read_form_of Two n) n ∙ numa_nested),
      r.raw,
    )),
    λ h. record { reads = record { name = codes "memory.numa_stat"; name_is = h.0; form_is = numa_nested ∙ ap Some (sym h.1) }; typed = λ t. (let k = h.1 in cc); raw = h.2 },
  )

-- ---- Snapshots

module _ (from to : Profile) (before : IsBefore from to) where
  up_lines : (e f : EntryData) (ls ms : List (List ℕ)) → e.path ≡ f.path → ls ≡ ms → AreEntryLines from e ls → AreEntryLines to f ms → IsUp to e f
  up_lines e f ls ms p l a b = one_up from to before e f ms p (subst (AreEntryLines from e) l a) b

  -- Where a text is a snapshot of two profiles, the entries of the later one are those of the earlier one, upgraded.
  pub two_profiles : (es fs : List EntryData) (text : List ℕ) → SnapText from es text → SnapText to fs text → AllZip (IsUp to) es fs
  two_profiles [] [] t h g = tt
  two_profiles [] (f ∷ fs) t h g = let r = entry_starts f.path g.0 g.1 g.2.some in absurd (not_empty f.path r.0 0 (sym r.1 ∙ (sym g.4 ∙ h)))
  two_profiles (e ∷ es) [] t h g = let r = entry_starts e.path h.0 h.1 h.2.some in absurd (not_empty e.path r.0 0 (sym r.1 ∙ (sym h.4 ∙ g)))
  two_profiles (e ∷ es) (f ∷ fs) t h g =
      let s = heads_lines e f h.0 g.0 h.1 g.1 (lines_plain from e h.0 h.2) (lines_plain to f g.0 g.2) h.2.some g.2.some
      (not_of from e.path es h.1 (entry_path e) h.3 h.5) (not_of to f.path fs g.1 (entry_path f) g.3 g.5) (sym h.4 ∙ g.4) in
      (up_lines e f h.0 g.0 s.0 s.1 h.2 g.2, two_profiles es fs g.1 (subst (SnapText from es) s.2 h.5) g.5)

  -- And so are the entries that bytes close.
  pub two_closed : (bytes : List ℕ) (es fs : List EntryData) → Closed from bytes es → Closed to bytes fs → AllZip (IsUp to) es fs
  two_closed bytes es fs c d = two_profiles es fs d.given (subst (SnapText from es) (given_once from to bytes es fs c d) c.entries) d.entries
