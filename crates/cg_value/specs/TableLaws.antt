-- What holds of the file table, whatever the profile.
use Rattle.std.proofs.Common.{◌≡◌, ℕ, zero, suc, ◌<◌, length, map, slice_index_or, ◌≤◌, List, [], ◌∷◌, Option, Some, None, Bool, true, false, cond, drop, take, refl, sym, ◌∙◌, ap, arith, inl, inr}
use Rattle.std.specs.Prelude.{◌&&◌, ◌||◌, is_none, is_some, get_or, if◌then◌else◌, IfSome, MatchOption}
use Rattle.std.specs.List.{list_any}
use Rattle.std.specs.Option.{option_map}
use Rattle.std.specs.Str.{bytes_eq}
use Rattle.std.proofs.lemmas.Bool.{cond-true, cond-false, false_from_ne_true, false≢true}
use Rattle.std.proofs.Math.Seq.{take-nil}
use Rattle.std.proofs.lemmas.Slice.Eq.{bytes_eq-Decides}
use Rattle.cg_value.specs.Kind.{IsListEnd, IsReadForm, IsWriteForm}
use Rattle.cg_value.specs.RowName.{row_name}
use Rattle.cg_value.specs.Table.{Row, row, rows, more_rows, list_end, numa_stat, reads_in, writes_in, reads_by, writes_by, is_named, has_row, read_form_of, write_form_of}
use Rattle.cg_value.specs.TableRows.{forms_of, found_by, found_in, longest, read_in, row_at, row_told, rows_in, stand_once, table_row, write_in, IsTable}
use Rattle.cg_value.specs.declared.profile.Profile.{Profile}
use Rattle.cg_value.specs.declared.profile.Profile.TheVariants.{One, Two, Kernel}
use Rattle.cg_value.specs.declared.kind.ReadForm.{ReadForm}
use Rattle.cg_value.specs.declared.kind.ReadForm.TheVariants as read
use Rattle.cg_value.specs.declared.kind.WriteForm.{WriteForm}
use Rattle.cg_value.specs.declared.kind.WriteForm.TheVariants as write
use Rattle.cg_value.specs.declared.table.Forms.{Forms}
use Rattle.cg_value.specs.declared.table.Row as code
use Rattle.cg_value.specs.declared.table.TableRow.{TableRow}

-- A name is at most as long as the longest.
longest_is : (rs : List Row) (k : ℕ) (d : Row) → k < length rs → length (slice_index_or rs k d).name ≤ longest rs
longest_is [] k d h = absurd (omega (arith, h))
longest_is (r ∷ rs) zero d h = omega arith
longest_is (r ∷ rs) (suc k) d h = omega (arith, longest_is rs k d (omega (arith, h)))

-- So is that of a row that was found in the table.
pub found_short : (found : Option TableRow) (profile : Profile) (place : ℕ) →
    MatchOption found (length (rows profile) ≤ place) (λ r. (place < length (rows profile)) × (row_told r ≡ row_at profile place)) → IfSome found (λ r. length r.name.now ≤ longest (rows profile))
found_short None profile place h = tt
found_short (Some r) profile place h = omega (arith, longest_is (rows profile) place (row [] None None) h.0, ap (λ (x : Row). length x.name) h.1)

-- The row of a name that stands once is the first one of the name.
two_true : (a b : Bool) → (a && b) ≡ true → (a ≡ true) × (b ≡ true)
two_true true b e = (refl, e)
two_true false b e = absurd (false≢true e)

none_of_some : (found : Option Forms) (f : Forms) → found ≡ Some f → is_none found ≡ true → ⊥
none_of_some found f e none = false≢true (sym (ap is_none e) ∙ none)

pub found_once : (rs : List code.Row) (name : List ℕ) (k : ℕ) (d : code.Row) → stand_once rs ≡ true → k < length rs → (get_or rs k d).name.now ≡ name →
    found_in rs name ≡ Some (forms_of (get_or rs k d))
found_once [] name k d once within is = absurd (omega (arith, within))
found_once (x ∷ xs) name zero d once within is = cond-true _ _ _ ((bytes_eq-Decides x.name.now name).1 is)
found_once (x ∷ xs) name (suc k) d once within is =
    let both = two_true (is_none (found_in xs x.name.now)) (stand_once xs) once in
    let later = found_once xs name k d both.1 (omega (arith, within)) is in
    let apart : bytes_eq x.name.now name ≡ true → ⊥ = λ e.
    none_of_some (found_in xs x.name.now) (forms_of (get_or xs k d)) (ap (found_in xs) ((bytes_eq-Decides x.name.now name).0 e) ∙ later) both.0 in
    cond-false _ _ _ (false_from_ne_true _ apart) ∙ later

-- So it is among the rows that a profile has.
still_none : (rs : List code.Row) (name : List ℕ) (n : ℕ) → is_none (found_in rs name) ≡ true → is_none (found_in (take n rs) name) ≡ true
still_none [] name n e = ap (λ ts. is_none (found_in ts name)) (take-nil n)
still_none (r ∷ rs) name zero e = refl
still_none (r ∷ rs) name (suc n) e = picked_none (bytes_eq r.name.now name) (forms_of r) (found_in rs name) (found_in (take n rs) name) e (still_none rs name n)
  where
    picked_none : (b : Bool) (f : Forms) (o p : Option Forms) → is_none (cond b (Some f) o) ≡ true → (is_none o ≡ true → is_none p ≡ true) → is_none (cond b (Some f) p) ≡ true
    picked_none true f o p e g = e
    picked_none false f o p e g = g e

still_once : (rs : List code.Row) (n : ℕ) → stand_once rs ≡ true → stand_once (take n rs) ≡ true
still_once [] n e = ap stand_once (take-nil n)
still_once (r ∷ rs) zero e = refl
still_once (r ∷ rs) (suc n) e =
    let both = two_true (is_none (found_in rs r.name.now)) (stand_once rs) e in
    rw (still_none rs r.name.now n both.0, still_once rs n both.1) refl

pub once_in : (profile : Profile) (rs : List code.Row) → stand_once rs ≡ true → stand_once (rows_in profile rs) ≡ true
once_in One rs e = still_once rs 60 e
once_in Two rs e = still_once rs 60 e
once_in Kernel rs e = e

-- ---- The rows of the code's table and those of the definition

-- What the first row of the name says both ways.
abbrev pub forms_in : List Row → List ℕ → Option Forms
forms_in [] name = None
forms_in (r ∷ rs) name = if bytes_eq r.name name then Some (record { reads = r.reads; writes = r.writes }) else forms_in rs name

abbrev forms_by : List Row → Option (List ℕ) → Option Forms
forms_by rs None = None
forms_by rs (Some name) = forms_in rs name

-- A row as the profile has it.
abbrev row_in : Profile → Row → Row
row_in profile r = record { name = r.name; reads = option_map (read_in profile) r.reads; writes = option_map (write_in profile) r.writes }

-- The rows that the profile has of the code's table.
abbrev rows_of : Profile → List code.Row → List Row
rows_of profile rs = map table_row (rows_in profile rs)

map_take : (n : ℕ) (rs : List code.Row) → map table_row (take n rs) ≡ take n (map table_row rs)
map_take n [] = ap (map table_row) (take-nil n) ∙ sym (take-nil n)
map_take zero (r ∷ rs) = refl
map_take (suc n) (r ∷ rs) = ap (λ ts. table_row r ∷ ts) (map_take n rs)

-- They are those of the definition, as the profile has them.
rows_are : (profile : Profile) (rs : List code.Row) → IsTable rs → map (row_in profile) (rows_of profile rs) ≡ rows profile
rows_are One rs e = ap (map (row_in One)) (map_take 60 rs ∙ ap (take 60) e)
rows_are Two rs e = ap (map (row_in Two)) (map_take 60 rs ∙ ap (take 60) e)
rows_are Kernel rs e = ap (map (row_in Kernel)) e

found_same : (rs : List code.Row) (name : List ℕ) → found_in rs name ≡ forms_in (map table_row rs) name
found_same [] name = refl
found_same (r ∷ rs) name = ap (λ o. cond (bytes_eq r.name.now name) (Some (forms_of r)) o) (found_same rs name)

found_by_same : (rs : List code.Row) (named : Option (List ℕ)) → found_by rs named ≡ forms_by (map table_row rs) named
found_by_same rs None = refl
found_by_same rs (Some name) = found_same rs name

-- The row at a place.
at_mapped : (profile : Profile) (rs : List code.Row) (k : ℕ) (d : code.Row) (e : Row) → k < length rs → row_in profile (table_row (get_or rs k d)) ≡ slice_index_or (map (row_in profile) (map table_row rs)) k e
at_mapped profile [] k d e h = absurd (omega (arith, h))
at_mapped profile (r ∷ rs) zero d e h = refl
at_mapped profile (r ∷ rs) (suc k) d e h = at_mapped profile rs k d e (omega (arith, h))

same_length : (profile : Profile) (rs : List code.Row) → length rs ≡ length (map (row_in profile) (map table_row rs))
same_length profile [] = refl
same_length profile (r ∷ rs) = ap suc (same_length profile rs)

module _ (profile : Profile) (rs : List code.Row) (table : IsTable rs) where
  pub rows_count : length (rows_in profile rs) ≡ length (rows profile)
  rows_count = same_length profile (rows_in profile rs) ∙ ap length (rows_are profile rs table)

  pub row_is : (k : ℕ) (d : code.Row) → k < length (rows_in profile rs) → row_in profile (table_row (get_or (rows_in profile rs) k d)) ≡ row_at profile k
  row_is k d h = at_mapped profile (rows_in profile rs) k d (row [] None None) h ∙ ap (λ (ts : List Row). slice_index_or ts k (row [] None None)) (rows_are profile rs table)

-- ---- What is found there

abbrev reads_of : Profile → Option Forms → Option ReadForm
reads_of profile None = Some read.Raw
reads_of profile (Some f) = option_map (read_in profile) f.reads

abbrev writes_of : Profile → Option Forms → Option WriteForm
writes_of profile None = Some write.Raw
writes_of profile (Some f) = option_map (write_in profile) f.writes

reads_same : (profile : Profile) (rs : List Row) (name : List ℕ) → reads_of profile (forms_in rs name) ≡ reads_in (map (row_in profile) rs) name
reads_same profile [] name = refl
reads_same profile (r ∷ rs) name =
    pick_reads profile r.reads r.writes (bytes_eq r.name name) (forms_in rs name) (reads_in (map (row_in profile) rs) name) (reads_same profile rs name)
  where
    pick_reads : (profile : Profile) (o : Option ReadForm) (p : Option WriteForm) (b : Bool) (y : Option Forms) (v : Option ReadForm) → reads_of profile y ≡ v →
        reads_of profile (cond b (Some (record { reads = o; writes = p })) y) ≡ cond b (option_map (read_in profile) o) v
    pick_reads profile o p true y v g = refl
    pick_reads profile o p false y v g = g

reads_by_same : (profile : Profile) (rs : List Row) (named : Option (List ℕ)) → reads_of profile (forms_by rs named) ≡ reads_by (map (row_in profile) rs) named
reads_by_same profile rs None = refl
reads_by_same profile rs (Some name) = reads_same profile rs name

writes_same : (profile : Profile) (rs : List Row) (name : List ℕ) → writes_of profile (forms_in rs name) ≡ writes_in (map (row_in profile) rs) name
writes_same profile [] name = refl
writes_same profile (r ∷ rs) name =
    pick_writes profile r.reads r.writes (bytes_eq r.name name) (forms_in rs name) (writes_in (map (row_in profile) rs) name) (writes_same profile rs name)
  where
    pick_writes : (profile : Profile) (o : Option ReadForm) (p : Option WriteForm) (b : Bool) (y : Option Forms) (v : Option WriteForm) → writes_of profile y ≡ v →
        writes_of profile (cond b (Some (record { reads = o; writes = p })) y) ≡ cond b (option_map (write_in profile) p) v
    pick_writes profile o p true y v g = refl
    pick_writes profile o p false y v g = g

writes_by_same : (profile : Profile) (rs : List Row) (named : Option (List ℕ)) → writes_of profile (forms_by rs named) ≡ writes_by (map (row_in profile) rs) named
writes_by_same profile rs None = refl
writes_by_same profile rs (Some name) = writes_same profile rs name

named_same : (profile : Profile) (rs : List Row) (name : List ℕ) → is_some (forms_in rs name) ≡ list_any (λ r. bytes_eq r.name name) (map (row_in profile) rs)
named_same profile [] name = refl
named_same profile (r ∷ rs) name = pick_some (bytes_eq r.name name) _ (forms_in rs name) _ (named_same profile rs name)
  where
    pick_some : (b : Bool) (f : Forms) (o : Option Forms) (v : Bool) → is_some o ≡ v → is_some (cond b (Some f) o) ≡ (b || v)
    pick_some true f o v g = refl
    pick_some false f o v g = g

named_by_same : (profile : Profile) (rs : List Row) (named : Option (List ℕ)) → is_some (forms_by rs named) ≡ is_named (map (row_in profile) rs) named
named_by_same profile rs None = refl
named_by_same profile rs (Some name) = named_same profile rs name

module _ (profile : Profile) (rs : List code.Row) (name : List ℕ) (table : IsTable rs) where
  reads_are : reads_of profile (found_by (rows_in profile rs) (row_name name)) ≡ reads_by (rows profile) (row_name name)
  reads_are = ap (reads_of profile) (found_by_same (rows_in profile rs) (row_name name)) ∙ reads_by_same profile (rows_of profile rs) (row_name name) ∙ ap (λ (ts : List Row). reads_by ts (row_name name)) (rows_are profile rs table)

  writes_are : writes_of profile (found_by (rows_in profile rs) (row_name name)) ≡ writes_by (rows profile) (row_name name)
  writes_are = ap (writes_of profile) (found_by_same (rows_in profile rs) (row_name name)) ∙ writes_by_same profile (rows_of profile rs) (row_name name) ∙ ap (λ (ts : List Row). writes_by ts (row_name name)) (rows_are profile rs table)

  -- What a row says of a name, and what its absence says.
  pub read_form_in : (f : Forms) (form : ReadForm) → Some f ≡ found_by (rows_in profile rs) (row_name name) → f.reads ≡ Some form → read_form_of profile name ≡ Some (read_in profile form)
  unfolding read_form_of
  read_form_in f form e h = sym reads_are ∙ ap (reads_of profile) (sym e) ∙ ap (option_map (read_in profile)) h

  pub read_form_none : (f : Forms) → Some f ≡ found_by (rows_in profile rs) (row_name name) → f.reads ≡ None → read_form_of profile name ≡ None
  unfolding read_form_of
  read_form_none f e h = sym reads_are ∙ ap (reads_of profile) (sym e) ∙ ap (option_map (read_in profile)) h

  pub read_form_raw : None ≡ found_by (rows_in profile rs) (row_name name) → read_form_of profile name ≡ Some read.Raw
  unfolding read_form_of
  read_form_raw e = sym reads_are ∙ ap (reads_of profile) (sym e)

  pub write_form_in : (f : Forms) (form : WriteForm) → Some f ≡ found_by (rows_in profile rs) (row_name name) → f.writes ≡ Some form → write_form_of profile name ≡ Some (write_in profile form)
  unfolding write_form_of
  write_form_in f form e h = sym writes_are ∙ ap (writes_of profile) (sym e) ∙ ap (option_map (write_in profile)) h

  pub write_form_none : (f : Forms) → Some f ≡ found_by (rows_in profile rs) (row_name name) → f.writes ≡ None → write_form_of profile name ≡ None
  unfolding write_form_of
  write_form_none f e h = sym writes_are ∙ ap (writes_of profile) (sym e) ∙ ap (option_map (write_in profile)) h

  pub write_form_raw : None ≡ found_by (rows_in profile rs) (row_name name) → write_form_of profile name ≡ Some write.Raw
  unfolding write_form_of
  write_form_raw e = sym writes_are ∙ ap (writes_of profile) (sym e)

  pub row_found : is_some (found_by (rows_in profile rs) (row_name name)) ≡ has_row profile name
  unfolding has_row
  row_found = ap is_some (found_by_same (rows_in profile rs) (row_name name)) ∙ named_by_same profile (rows_of profile rs) (row_name name) ∙ ap (λ (ts : List Row). is_named ts (row_name name)) (rows_are profile rs table)

-- The forms of the table are those of kinds.
abbrev ReadOk : Option ReadForm → Type 0
ReadOk form = IfSome form IsReadForm

abbrev WriteOk : Option WriteForm → Type 0
WriteOk form = IfSome form IsWriteForm

abbrev AllOk : List Row → Type 0
AllOk [] = Unit {0}
AllOk (r ∷ rs) = ReadOk r.reads × WriteOk r.writes × AllOk rs

picked : {X : Type 0} (P : Option X → Type 0) (b : Bool) (x y : Option X) → P x → P y → P (cond b x y)
picked P true x y p q = p
picked P false x y p q = q

reads_ok : (rs : List Row) (name : List ℕ) → AllOk rs → ReadOk (reads_in rs name)
reads_ok [] name a = tt
reads_ok (r ∷ rs) name a = picked ReadOk (bytes_eq r.name name) r.reads (reads_in rs name) a.0 (reads_ok rs name a.2)

writes_ok : (rs : List Row) (name : List ℕ) → AllOk rs → WriteOk (writes_in rs name)
writes_ok [] name a = tt
writes_ok (r ∷ rs) name a = picked WriteOk (bytes_eq r.name name) r.writes (writes_in rs name) a.1 (writes_ok rs name a.2)

reads_by_ok : (rs : List Row) (named : Option (List ℕ)) → AllOk rs → ReadOk (reads_by rs named)
reads_by_ok rs None a = tt
reads_by_ok rs (Some name) a = reads_ok rs name a

writes_by_ok : (rs : List Row) (named : Option (List ℕ)) → AllOk rs → WriteOk (writes_by rs named)
writes_by_ok rs None a = tt
writes_by_ok rs (Some name) a = writes_ok rs name a

list_end_ok : (profile : Profile) → IsListEnd (list_end profile)
list_end_ok One = inl refl
list_end_ok Two = inr refl
list_end_ok Kernel = inr refl

numa_ok : (profile : Profile) → IsReadForm (numa_stat profile)
numa_ok One = tt
numa_ok Two = tt
numa_ok Kernel = tt

more_ok : (profile : Profile) → AllOk (more_rows profile)
more_ok One = tt
more_ok Two = tt
more_ok Kernel =
    let from_10 : AllOk (drop 10 (more_rows Kernel)) = (tt, tt, (tt, tt, (tt, tt, (tt, tt, (tt, tt, (tt, tt, (tt, tt, (tt, tt, (tt, tt, (tt, tt, (tt, tt, (tt, tt, ((omega arith, omega arith), (omega arith, omega arith), (tt, tt, (tt, tt, (tt, tt, tt)))))))))))))))) in
    let from_5 : AllOk (drop 5 (more_rows Kernel)) = (tt, tt, (tt, tt, (tt, tt, (tt, tt, (tt, tt, from_10))))) in
    (tt, tt, (tt, tt, (tt, tt, ((omega arith, omega arith), tt, ((omega arith, omega arith), tt, from_5)))))

all_ok : (profile : Profile) → AllOk (rows profile)
all_ok profile =
    let l = list_end_ok profile in
    let from_52 : AllOk (drop 52 (rows profile)) = (l, l, (l, l, (l, tt, (l, tt, (l, l, (l, tt, (l, tt, (tt, tt, more_ok profile)))))))) in
    let from_45 : AllOk (drop 45 (rows profile)) = (tt, tt, (tt, tt, (tt, tt, (tt, (omega arith, omega arith), ((omega arith, omega arith), tt, ((omega arith, omega arith), tt, (tt, tt, from_52))))))) in
    let from_35 : AllOk (drop 35 (rows profile)) = (tt, tt, (tt, tt, (tt, tt, (tt, tt, (tt, tt, (numa_ok profile, tt, (tt, tt, (tt, tt, (tt, tt, ((omega arith, omega arith), (omega arith, omega arith), from_45)))))))))) in
    let from_31 : AllOk (drop 31 (rows profile)) = (tt, tt, (tt, tt, ((omega arith, omega arith), (omega arith, omega arith), ((omega arith, omega arith), (omega arith, omega arith), from_35)))) in
    let from_24 : AllOk (drop 24 (rows profile)) = ((omega arith, omega arith), tt, ((omega arith, omega arith), tt, (tt, tt, (tt, tt, (tt, tt, (tt, tt, (tt, tt, from_31))))))) in
    let from_18 : AllOk (drop 18 (rows profile)) = (tt, tt, (tt, tt, (tt, tt, ((omega arith, omega arith), tt, ((omega arith, omega arith), tt, ((omega arith, omega arith), tt, from_24)))))) in
    let from_15 : AllOk (drop 15 (rows profile)) = ((omega arith, omega arith), (omega arith, omega arith), (tt, tt, ((omega arith, omega arith), (omega arith, omega arith), from_18))) in
    let from_11 : AllOk (drop 11 (rows profile)) = (tt, (omega arith, omega arith), (tt, tt, ((omega arith, omega arith), (omega arith, omega arith), ((refl, refl), (refl, refl), from_15)))) in
    let from_9 : AllOk (drop 9 (rows profile)) = ((omega arith, omega arith), (omega arith, omega arith), ((omega arith, omega arith), (omega arith, omega arith), from_11)) in
    let from_3 : AllOk (drop 3 (rows profile)) = (tt, tt, (tt, tt, (tt, tt, (tt, tt, (tt, (omega arith, omega arith), (tt, (omega arith, omega arith), from_9)))))) in
    (tt, tt, ((omega arith, omega arith), (omega arith, omega arith), ((omega arith, omega arith), (omega arith, omega arith), from_3)))

-- What a file of the table holds has bounds that leave some value.
pub read_form_ok : (profile : Profile) (name : List ℕ) (form : ReadForm) → read_form_of profile name ≡ Some form → IsReadForm form
unfolding read_form_of
read_form_ok profile name form e = rw e at (reads_by_ok (rows profile) (row_name name) (all_ok profile))

pub write_form_ok : (profile : Profile) (name : List ℕ) (form : WriteForm) → write_form_of profile name ≡ Some form → IsWriteForm form
unfolding write_form_of
write_form_ok profile name form e = rw e at (writes_by_ok (rows profile) (row_name name) (all_ok profile))

-- So has what a row says.
ok_at : (rs : List Row) (k : ℕ) (d : Row) → AllOk rs → k < length rs → ReadOk (slice_index_or rs k d).reads × WriteOk (slice_index_or rs k d).writes
ok_at [] k d a h = absurd (omega (arith, h))
ok_at (r ∷ rs) zero d a h = (a.0, a.1)
ok_at (r ∷ rs) (suc k) d a h = ok_at rs k d a.2 (omega (arith, h))

pub row_ok : (profile : Profile) (k : ℕ) → k < length (rows profile) → IfSome (row_at profile k).reads IsReadForm × IfSome (row_at profile k).writes IsWriteForm
row_ok profile k h = ok_at (rows profile) k (row [] None None) (all_ok profile) h
