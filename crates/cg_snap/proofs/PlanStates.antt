-- What the state of a plan's records tells of plans.
use Rattle.std.proofs.Common.{◌≡◌, ◌≢◌, ℕ, ◌+◌, ◌<◌, ◌≤◌, List, [], ◌∷◌, ◌++◌, length, Option, Some, None, false, Result, Ok, Err, MatchResult, refl, sym, ap, subst, ◌∙◌, append_assoc, arith, inl, inr, ◌⊎◌}
use Rattle.std.specs.Result.{result_err}
use Rattle.std.specs.Option.{is_some}
use Rattle.std.proofs.lemmas.List.{append-nil, length-append}
use Rattle.cg_text.specs.ListFacts.{push_one}
use Rattle.cg_text.specs.Texts.{Lacks, Next, Viable}
use Rattle.cg_text.specs.TextsLaws.{lacks_both, lacks_inside}
use Rattle.cg_value.specs.Entry.{IsItem, IsPath, IsPathByte, ItemData, WritesAt}
use Rattle.cg_value.specs.EntryLaws.{item_path}
use Rattle.cg_value.specs.EntryRefusal.{IsItemFault}
use Rattle.cg_value.specs.PathLaws.{path_lacks_newline, path_lacks_nul}
use Rattle.cg_value.specs.Settings.{FitsWrite, KindWrite, WriteText}
use Rattle.cg_value.specs.Table.{write_form_of}
use Rattle.cg_value.specs.TableLaws.{write_form_ok}
use Rattle.cg_value.specs.declared.item.ItemFault.{ItemFault}
use Rattle.cg_value.specs.declared.item.ItemFault.TheVariants as fault
use Rattle.cg_value.specs.declared.kind.WriteForm.{WriteForm}
use Rattle.cg_value.specs.declared.kind.WriteForm.TheVariants as form
use Rattle.cg_value.specs.declared.profile.Profile.{Profile}
use Rattle.cg_value.specs.declared.profile.Profile.TheVariants.{One, Two, Kernel}
use Rattle.cg_value.specs.declared.setting.Setting.{Setting}
use Rattle.cg_file.specs.WeightFileLaws.{not_empty}
use Rattle.cg_line.specs.SettingReads.{SettingReads, setting_reads_viable}
use Rattle.cg_snap.specs.Begun.{IsBegun}
use Rattle.cg_snap.specs.Course.{AreFew, Leaves, RefusedBy}
use Rattle.cg_snap.specs.PathBytes.{ArePathBytes}
use Rattle.cg_snap.specs.Plan.{ClosedPlan, IsItemLine, Plan, PlanText}
use Rattle.cg_snap.specs.PlanLaws.{item_line_plain, one_write_form, plan_ends, written_plain}
use Rattle.cg_snap.specs.PlanState.{AtItemLine, AtItemPath, HasConsumedItems, HasTakenItems, IsOfWriteKind, IsWriteClass}
use Rattle.cg_snap.specs.PlanStop.{IsItemWhy, is_never_many}
use Rattle.cg_snap.specs.SnapLaws.{cut, one_name, record_then}
use Rattle.cg_snap.specs.SnapStop.{IsNameless}
use Rattle.cg_snap.specs.Streams.{plan_stream}
use Rattle.cg_snap.specs.declared.event.Event.{Event}
use Rattle.cg_snap.specs.declared.plan_records.PlanRecords.{PlanRecords}
use Rattle.cg_snap.specs.declared.plan.CurrentItem.{CurrentItem}
use Rattle.cg_snap.specs.declared.stop.Why.{Why}
use Rattle.cg_snap.specs.declared.stop.Why.TheVariants as whys
use Rattle.cg_snap.proofs.Courses.{leaves_as}
use Rattle.cg_snap.proofs.FirstWrite.{can_be_written}
use Rattle.cg_snap.proofs.Refusals.{byte_in, path_byte_in, path_nul_in}
use Rattle.cg_snap.proofs.States.{path_named, named_path}
use Rattle.cg_snap.proofs.Steps.{all_both, bytes_no_newline, bytes_no_nul, longer_good, longer_name}

-- ---- Items

-- A line that spells a setting at a path is that of an item.
pub record HasItem (profile : Profile) (path line : List ℕ) : Type 0 where
  pub item : ItemData
  pub path_is : item.path ≡ path
  pub spells : IsItemLine profile item line

pub has_item : (profile : Profile) (path : List ℕ) (kind : WriteForm) (s : Setting) (line : List ℕ) → IsPath path → WritesAt profile path (Some kind) → WriteText kind s (line ++ 10 ∷ []) → HasItem profile path line
has_item profile path kind s line good writes w =
    let same : line ≡ w.line = (push_one line w.line 10 10 w.text_is).0 in
    let fits : IsItem profile path s = record { good = good; kind = kind; writes = writes; fits = record { line = w.line; spelled = w.spelled } } in
    record {
      item = record { path = path; setting = s; fits = ∣ (profile, fits) ∣₁ };
      path_is = refl;
      spells = record { kind = kind; writes = writes; spelled = rw same w.spelled };
    }

-- The text of one write has one newline, at its end.
pub write_ends : (kind : WriteForm) (line rest : List ℕ) → Lacks 10 line → KindWrite kind ((line ++ 10 ∷ []) ++ rest) → KindWrite kind (line ++ 10 ∷ [])
write_ends kind line rest plain w =
    let c = cut 10 line w.1.line rest [] plain (written_plain kind w.0 w.1.line w.1.spelled) (sym (append_assoc line (10 ∷ []) rest) ∙ w.1.text_is) in
    subst (KindWrite kind) (ap (λ (t : List ℕ). (line ++ 10 ∷ []) ++ t) c.1 ∙ append-nil (line ++ 10 ∷ [])) w

-- ---- Plans one after another

pub plan_append : (profile : Profile) (xs ys : List ItemData) (s t : List ℕ) → PlanText profile xs s → PlanText profile ys t → PlanText profile (xs ++ ys) (s ++ t)
plan_append profile [] ys s t h g = subst (PlanText profile ys) (ap (λ (r : List ℕ). r ++ t) (sym h)) g
plan_append profile (x ∷ xs) ys s t h g = (h.0, h.1 ++ t, h.2, ap (λ (r : List ℕ). r ++ t) h.3 ∙ record_then x.path h.0 h.1 t, plan_append profile xs ys h.1 t h.4 g)

-- One record is the plan of one item.
pub plan_one : (profile : Profile) (path line : List ℕ) (i : HasItem profile path line) → PlanText profile (i.item ∷ []) (path ++ 0 ∷ (line ++ 10 ∷ []))
plan_one profile path line i = (line, [], i.spells, ap (λ (q : List ℕ). q ++ 0 ∷ (line ++ 10 ∷ [])) (sym i.path_is), refl)

pub plan_push : (profile : Profile) (xs : List ItemData) (s path line : List ℕ) (i : HasItem profile path line) → PlanText profile xs s → PlanText profile (xs ++ i.item ∷ []) (s ++ (path ++ 0 ∷ (line ++ 10 ∷ [])))
plan_push profile xs s path line i h = plan_append profile xs (i.item ∷ []) s (path ++ 0 ∷ (line ++ 10 ∷ [])) h (plan_one profile path line i)

-- What follows a plan in a plan is a plan.
pub plan_strip : (profile : Profile) (xs ys : List ItemData) (s t : List ℕ) → PlanText profile xs s → PlanText profile ys (s ++ t) → (zs : List ItemData) × PlanText profile zs t
plan_strip profile [] ys s t h g = (ys, subst (PlanText profile ys) (ap (λ (r : List ℕ). r ++ t) h) g)
plan_strip profile (x ∷ xs) [] s t h g = absurd (not_empty x.path ((h.0 ++ 10 ∷ h.1) ++ t) 0 (sym (append_assoc x.path (0 ∷ (h.0 ++ 10 ∷ h.1)) t) ∙ (ap (λ (r : List ℕ). r ++ t) (sym h.3) ∙ g)))
plan_strip profile (x ∷ xs) (y ∷ ys) s t h g =
    let whole : x.path ++ 0 ∷ (h.0 ++ 10 ∷ (h.1 ++ t)) ≡ y.path ++ 0 ∷ (g.0 ++ 10 ∷ g.1) = sym (record_then x.path h.0 h.1 t) ∙ (ap (λ (r : List ℕ). r ++ t) (sym h.3) ∙ g.3) in
    let c = cut 0 x.path y.path (h.0 ++ 10 ∷ (h.1 ++ t)) (g.0 ++ 10 ∷ g.1) (path_lacks_nul x.path (item_path x)) (path_lacks_nul y.path (item_path y)) whole in
    let d = cut 10 h.0 g.0 (h.1 ++ t) g.1 (item_line_plain profile x h.0 h.2) (item_line_plain profile y g.0 g.2) c.1 in
    plan_strip profile xs ys h.1 t h.4 (subst (PlanText profile ys) (sym d.1) g.4)

-- What some bytes of a plan begin with.
pub record ItemHead (profile : Profile) (text : List ℕ) : Type 0 where
  pub path : List ℕ
  pub line : List ℕ
  pub rest : List ℕ
  pub kind : WriteForm
  pub good : IsPath path
  pub writes_at : WritesAt profile path (Some kind)
  pub plain : Lacks 10 line
  pub write : KindWrite kind (line ++ 10 ∷ [])
  pub text_is : text ≡ path ++ 0 ∷ (line ++ 10 ∷ rest)

pub plan_head : (profile : Profile) (xs : List ItemData) (t : List ℕ) → PlanText profile xs t → t ≢ [] → ItemHead profile t
plan_head profile [] t h n = absurd (n h)
plan_head profile (x ∷ xs) t h n = record {
  path = x.path;
  line = h.0;
  rest = h.1;
  kind = h.2.kind;
  good = item_path x;
  writes_at = h.2.writes;
  plain = item_line_plain profile x h.0 h.2;
  write = (x.setting, record { line = h.0; spelled = h.2.spelled; text_is = refl });
  text_is = h.3;
}

-- ---- Paths that can be written

raw_120 : (profile : Profile) → write_form_of profile (120 ∷ []) ≡ Some form.Raw
unfolding write_form_of
raw_120 One = refl
raw_120 Two = refl
raw_120 Kernel = refl

none_some : (k : WriteForm) (a : Option WriteForm) → a ≡ None → a ≡ Some k → ⊥
none_some k a e f = cc

-- A path that is written in one way isn't written in no way.
pub writes_once : (profile : Profile) (path : List ℕ) (k : WriteForm) → WritesAt profile path None → WritesAt profile path (Some k) → ⊥
writes_once profile path k a b =
    none_some k (write_form_of profile b.name) (ap (λ name. write_form_of profile name) (one_name path b.name a.name b.name_is a.name_is) ∙ a.form_is) b.form_is

-- The record of a path and a line of its kind.
pub record_of : (profile : Profile) (path : List ℕ) (kind : WriteForm) (line rest : List ℕ) → IsPath path →
    WritesAt profile path (Some kind) → KindWrite kind (line ++ rest) →
    (l : List ℕ) × HasItem profile path l × (line ++ rest ≡ l ++ 10 ∷ [])
record_of profile path kind line rest good writes w =
    (w.1.line, has_item profile path kind w.0 w.1.line good writes (record { line = w.1.line; spelled = w.1.spelled; text_is = refl }), w.1.text_is)

module _ (profile : Profile) where
  -- ---- Each state can be gone on from

  line_text : (p g q l r m : List ℕ) → p ≡ g ++ (q ++ 0 ∷ l) → l ++ r ≡ m ++ 10 ∷ [] → g ++ (q ++ 0 ∷ (m ++ 10 ∷ [])) ≡ p ++ r
  line_text p g q l r m e f = rw (e, sym f) (simp append_assoc)

  -- Where the line goes on with some bytes, the plan does.
  pub line_rest_plan : (items : List ItemData) (given path line rest p : List ℕ) (kind : WriteForm) →
      PlanText profile items given → IsPath path → WritesAt profile path (Some kind) →
      p ≡ given ++ (path ++ 0 ∷ line) → KindWrite kind (line ++ rest) → Plan profile (p ++ rest)
  line_rest_plan items given path line rest p kind whole good writes e w =
      let i = record_of profile path kind line rest good writes w in
      (items ++ i.1.item ∷ [], subst (PlanText profile (items ++ i.1.item ∷ [])) (line_text p given path line rest i.0 e i.2) (plan_push profile items given path i.0 i.1 whole))

  pub item_line_viable : (begun : List ℕ) (x : CurrentItem) (p : List ℕ) (items : List ItemData) → AtItemLine profile begun x p items → Viable (Plan profile) p
  item_line_viable begun x p items h =
      let v = setting_reads_viable x.reader h.kind h.line h.takes in
      record { rest = v.rest; whole = line_rest_plan items h.given x.path.items h.line v.rest p h.kind h.whole h.good h.writes_at h.split v.whole }

  path_text : (p g b l : List ℕ) → p ≡ g ++ b → g ++ (((b ++ 47 ∷ []) ++ 120 ∷ []) ++ 0 ∷ l) ≡ p ++ (47 ∷ 120 ∷ 0 ∷ l)
  path_text p g b l e = rw e (simp append_assoc)

  pub item_path_viable : (begun p : List ℕ) (items : List ItemData) → AtItemPath profile begun p items → Viable (Plan profile) p
  item_path_viable begun p items h =
      let path = (begun ++ 47 ∷ []) ++ 120 ∷ [] in
      let good : IsPath path = longer_good begun 120 h.begun_path (omega arith, omega arith, (λ f. omega (arith, f))) (λ f. omega (arith, f)) in
      let writes : WritesAt profile path (Some form.Raw) = record { name = 120 ∷ []; name_is = longer_name begun 120 (λ f. omega (arith, f)); form_is = raw_120 profile } in
      let first = can_be_written form.Raw tt in
      let w = line_rest_plan items h.given path [] first.rest (h.given ++ (path ++ 0 ∷ [])) form.Raw h.whole good writes refl first.whole in
      record {
        rest = 47 ∷ 120 ∷ 0 ∷ first.rest;
        whole = subst (Plan profile) (append_assoc h.given
            (path ++ 0 ∷ []) first.rest ∙ (ap (λ (t : List ℕ). h.given ++ t) (append_assoc path (0 ∷ []) first.rest)
            ∙ path_text p h.given begun first.rest h.split)) w;
      }

  pub items_viable : (begun : List ℕ) (o : Option CurrentItem) (p : List ℕ) (items : List ItemData) → HasConsumedItems profile begun o p items → Viable (Plan profile) p
  items_viable begun None p items h = item_path_viable begun p items h
  items_viable begun (Some x) p items h = item_line_viable begun x p items h

  -- ---- What is closed, and what is begun

  abbrev pub items_closed_by : (begun : List ℕ) (o : Option CurrentItem) (p : List ℕ) (items : List ItemData) → HasConsumedItems profile begun o p items → ClosedPlan profile p items
  items_closed_by begun None p items h = record { given = h.given; begun = begun; split = h.split; whole = h.whole; plain = bytes_no_newline begun h.begun_path }
  items_closed_by begun (Some x) p items h = record {
    given = h.given;
    begun = x.path.items ++ 0 ∷ h.line;
    split = h.split;
    whole = h.whole;
    plain = lacks_both 10 x.path.items (0 ∷ h.line) (path_lacks_newline x.path.items h.good) ((λ e. omega (arith, e)), h.plain);
  }

  pub closed_begun : (p : List ℕ) (items : List ItemData) (c : ClosedPlan profile p items) → IsBegun p c.begun
  closed_begun p items c = record { front = c.given; split = c.split; ended = plan_ends profile items c.given c.whole; plain = c.plain }

  -- ---- What a continuation tells

  -- What goes on with a byte goes on from the bytes before it.
  go_on : (given back p : List ℕ) (items : List ItemData) (b : ℕ) → PlanText profile items given → p ≡ given ++ back → Next (Plan profile) p b → (rest : List ℕ) × ItemHead profile (back ++ b ∷ rest)
  go_on given back p items b whole e v =
      let text : (p ++ b ∷ []) ++ v.rest ≡ given ++ (back ++ b ∷ v.rest) = rw e (simp append_assoc) in
      let s = plan_strip profile items v.whole.0 given (back ++ b ∷ v.rest) whole (subst (PlanText profile v.whole.0) text v.whole.1) in
      (v.rest, plan_head profile s.0 (back ++ b ∷ v.rest) s.1 (not_empty back v.rest b))

  pub item_path_byte : (begun p : List ℕ) (items : List ItemData) (b : ℕ) → AtItemPath profile begun p items → Next (Plan profile) p b → (b ≡ 0) ⊎ IsPathByte b
  item_path_byte begun p items b h v =
      let g = go_on h.given begun p items b h.whole h.split v in
      path_byte_in g.1.path begun g.0 (g.1.line ++ 10 ∷ g.1.rest) b g.1.good h.begun_path g.1.text_is

  pub item_path_nul : (begun p : List ℕ) (items : List ItemData) → AtItemPath profile begun p items → Next (Plan profile) p 0 → IsPath begun × ((k : WriteForm) × WritesAt profile begun (Some k))
  item_path_nul begun p items h v =
      let g = go_on h.given begun p items 0 h.whole h.split v in
      let same : begun ≡ g.1.path = path_nul_in g.1.path begun g.0 (g.1.line ++ 10 ∷ g.1.rest) g.1.good h.begun_path g.1.text_is in
      (subst IsPath (sym same) g.1.good, (g.1.kind, subst (λ (q : List ℕ). WritesAt profile q (Some g.1.kind)) (sym same) g.1.writes_at))

  same_kind : (k l : WriteForm) (text : List ℕ) → k ≡ l → KindWrite k text → KindWrite l text
  same_kind k l text e w = subst (λ (kind : WriteForm). KindWrite kind text) e w

  pub item_line_next : (begun : List ℕ) (x : CurrentItem) (p : List ℕ) (items : List ItemData) (b : ℕ) (h : AtItemLine profile begun x p items) → Next (Plan profile) p b → Next (KindWrite h.kind) h.line b
  item_line_next begun x p items b h v =
      let g = go_on h.given (x.path.items ++ 0 ∷ h.line) p items b h.whole h.split v in
      let text : x.path.items ++ 0 ∷ (h.line ++ b ∷ g.0) ≡ g.1.path ++ 0 ∷ (g.1.line ++ 10 ∷ g.1.rest) = sym (append_assoc x.path.items (0 ∷ h.line) (b ∷ g.0)) ∙ g.1.text_is in
      let c = cut 0 x.path.items g.1.path (h.line ++ b ∷ g.0) (g.1.line ++ 10 ∷ g.1.rest) (path_lacks_nul x.path.items h.good) (path_lacks_nul g.1.path g.1.good) text in
      let k : g.1.kind ≡ h.kind = one_write_form profile x.path.items g.1.kind h.kind (subst (λ (q : List ℕ). WritesAt profile q (Some g.1.kind)) (sym c.0) g.1.writes_at) h.writes_at in
      byte_in (KindWrite h.kind) [] h.line g.1.line [] g.0 b g.1.rest h.plain g.1.plain (same_kind g.1.kind h.kind (g.1.line ++ 10 ∷ []) k g.1.write) c.1

  pub item_next_line : (begun : List ℕ) (x : CurrentItem) (p : List ℕ) (items : List ItemData) (b : ℕ) (h : AtItemLine profile begun x p items) → Next (KindWrite h.kind) h.line b → Next (Plan profile) p b
  item_next_line begun x p items b h v =
      let text : p ++ b ∷ [] ≡ h.given ++ (x.path.items ++ 0 ∷ (h.line ++ b ∷ [])) = rw h.split (simp append_assoc) in
      record { rest = v.rest; whole = line_rest_plan items h.given x.path.items (h.line ++ b ∷ []) v.rest (p ++ b ∷ []) h.kind h.whole h.good h.writes_at text v.whole }

  -- ---- Refusals

  item_begun : (begun p : List ℕ) (items : List ItemData) → AtItemPath profile begun p items → IsBegun p begun
  item_begun begun p items h = closed_begun p items (items_closed_by begun None p items h)

  item_no_name : (begun p : List ℕ) (items : List ItemData) → AtItemPath profile begun p items → IsNameless begun → RefusedBy (Plan profile) (IsItemWhy profile) p 0 (Some whys.NoName)
  item_no_name begun p items h c = (λ v. path_named begun (item_path_nul begun p items h v).0 c, (begun, item_begun begun p items h, (bytes_no_nul begun h.begun_path, refl, c)))

  item_not_writable : (begun p : List ℕ) (items : List ItemData) → AtItemPath profile begun p items → (IsNameless begun → ⊥) → WritesAt profile begun None → RefusedBy (Plan profile) (IsItemWhy profile) p 0 (Some whys.NotWritable)
  item_not_writable begun p items h c n =
      (λ v. let k = (item_path_nul begun p items h v).1 in writes_once profile begun k.0 n k.1, (begun, item_begun begun p items h, (bytes_no_nul begun h.begun_path, refl, c, n)))

  pub item_newline : (begun p : List ℕ) (items : List ItemData) (b : ℕ) → AtItemPath profile begun p items → b ≡ 10 → RefusedBy (Plan profile) (IsItemWhy profile) p b (Some whys.PathByte)
  item_newline begun p items b h z =
      (λ v. elim (item_path_byte begun p items b h v) [ inl e ↦ absurd (omega (arith, z, e)) | inr q ↦ q.2 z ], (begun, item_begun begun p items h, (bytes_no_nul begun h.begun_path, z)))

  pub item_line_refused : (begun : List ℕ) (x : CurrentItem) (p : List ℕ) (items : List ItemData) (b : ℕ)
      (h : AtItemLine profile begun x p items) → (Next (KindWrite h.kind) h.line b → ⊥) →
      RefusedBy (Plan profile) (IsItemWhy profile) p b (Some whys.Line)
  item_line_refused begun x p items b h n =
      (λ v. n (item_line_next begun x p items b h v), (x.path.items ++ 0 ∷ h.line, closed_begun p items (items_closed_by begun (Some x) p items h), (x.path.items, h.line, refl)))

  -- ---- Bytes that are taken

  pub item_path_taken : (begun begun' p : List ℕ) (items : List ItemData) (bs : List ℕ) → AtItemPath profile begun p items → ArePathBytes bs → begun' ≡ begun ++ bs → AtItemPath profile begun' (p ++ bs) items
  item_path_taken begun begun' p items bs h q e = record {
    given = h.given;
    split = rw (h.split, e) (append_assoc h.given begun bs);
    whole = h.whole;
    begun_path = rw e (all_both IsPathByte begun bs h.begun_path q);
  }

  pub item_path_next : (begun p : List ℕ) (items : List ItemData) (b : ℕ) → AtItemPath profile begun p items → (b ≡ 0 → ⊥) → (b ≡ 10 → ⊥) → b < 256 → Next (Plan profile) p b
  item_path_next begun p items b h z n lt = item_path_viable (begun ++ b ∷ []) (p ++ b ∷ []) items (item_path_taken begun (begun ++ b ∷ []) p items (b ∷ []) h ((omega arith, lt, n), tt) refl)

  -- The NUL of a path.
  pub item_nul : (begun begun' : List ℕ) (x : CurrentItem) (p : List ℕ) (items : List ItemData) (kind : WriteForm) →
      AtItemPath profile begun p items → IsOfWriteKind profile begun kind → x.path.items ≡ begun → begun' ≡ [] →
      SettingReads x.reader kind [] → AtItemLine profile begun' x (p ++ 0 ∷ []) items
  item_nul begun begun' x p items kind h c e n t = record {
    given = h.given;
    line = [];
    kind = kind;
    split = rw (h.split, e) (append_assoc h.given begun (0 ∷ []));
    whole = h.whole;
    good = subst IsPath (sym e) (named_path begun h.begun_path c.0);
    writes_at = subst (λ (q : List ℕ). WritesAt profile q (Some kind)) (sym e) c.1;
    plain = tt;
    takes = t;
    nothing_begun = n;
  }

  item_nul_next : (begun p : List ℕ) (items : List ItemData) (kind : WriteForm) → AtItemPath profile begun p items → IsOfWriteKind profile begun kind → Next (Plan profile) p 0
  item_nul_next begun p items kind h c =
      let first = can_be_written kind (write_form_ok profile c.1.name kind c.1.form_is) in
      let text : p ++ 0 ∷ [] ≡ h.given ++ (begun ++ 0 ∷ []) = rw h.split (append_assoc h.given begun (0 ∷ [])) in
      record { rest = first.rest; whole = line_rest_plan items h.given begun [] first.rest (p ++ 0 ∷ []) kind h.whole (named_path begun h.begun_path c.0) c.1 text first.whole }

  -- Why the NUL of a path can't come, none where it can.
  class_refused : (begun p : List ℕ) (items : List ItemData) (why : Why) → AtItemPath profile begun p items → IsWriteClass profile begun (Err why) → RefusedBy (Plan profile) (IsItemWhy profile) p 0 (Some why)
  class_refused begun p items whys.PathByte h c = absurd c
  class_refused begun p items whys.NoName h c = item_no_name begun p items h c
  class_refused begun p items whys.NotReadable h c = absurd c
  class_refused begun p items whys.NotWritable h c = item_not_writable begun p items h c.0 c.1
  class_refused begun p items whys.NoMoreLines h c = absurd c
  class_refused begun p items whys.Line h c = absurd c

  pub class_refusal : (begun p : List ℕ) (items : List ItemData) (r : Result WriteForm Why) → AtItemPath profile begun p items → IsWriteClass profile begun r → RefusedBy (Plan profile) (IsItemWhy profile) p 0 (result_err r)
  class_refusal begun p items (Ok kind) h c = item_nul_next begun p items kind h c
  class_refusal begun p items (Err why) h c = class_refused begun p items why h c

  pub class_after : (begun p : List ℕ) (items : List ItemData) (byte : ℕ) (r : Result WriteForm Why) → byte ≡ 0 → AtItemPath profile begun p items → IsWriteClass profile begun r →
      MatchResult r (λ kind. (byte ≡ 0) × IsOfWriteKind profile begun kind) (λ why. RefusedBy (Plan profile) (IsItemWhy profile) p byte (Some why))
  class_after begun p items byte (Ok kind) z h c = (z, c)
  class_after begun p items byte (Err why) z h c = rw z (class_refused begun p items why h c)

  -- Bytes of a line.
  abbrev pub item_line_taken : (begun : List ℕ) (x x' : CurrentItem) (p : List ℕ) (items : List ItemData) (bs : List ℕ)
      (h : AtItemLine profile begun x p items) → x'.path.items ≡ x.path.items → Lacks 10 bs →
      SettingReads x'.reader h.kind (h.line ++ bs) → AtItemLine profile begun x' (p ++ bs) items
  item_line_taken begun x x' p items bs h e n t = record {
    given = h.given;
    line = h.line ++ bs;
    kind = h.kind;
    split = rw (h.split, e) (simp append_assoc);
    whole = h.whole;
    good = subst IsPath (sym e) h.good;
    writes_at = subst (λ (q : List ℕ). WritesAt profile q (Some h.kind)) (sym e) h.writes_at;
    plain = lacks_both 10 h.line bs h.plain n;
    takes = t;
    nothing_begun = h.nothing_begun;
  }

  -- ---- The item of a whole line

  -- A reader that took a line and its newline took a write.
  pub whole_write : (x : CurrentItem) (kind : WriteForm) (line : List ℕ) → Lacks 10 line → SettingReads x.reader kind (line ++ 10 ∷ []) → KindWrite kind (line ++ 10 ∷ [])
  whole_write x kind line plain t = let v = setting_reads_viable x.reader kind (line ++ 10 ∷ []) t in write_ends kind line v.rest plain v.whole

  pub item_as : (item : ItemData) (path : List ℕ) (kind : WriteForm) (s : Setting) (line : List ℕ) →
      item.path ≡ path → item.setting ≡ s → WritesAt profile path (Some kind) → WriteText kind s (line ++ 10 ∷ []) →
      (item.path ≡ path) × IsItemLine profile item line
  item_as item path kind s line q w writes t =
      let same : line ≡ t.line = (push_one line t.line 10 10 t.text_is).0 in (
        q,
        record { kind = kind; writes = subst (λ (r : List ℕ). WritesAt profile r (Some kind)) (sym q) writes; spelled = rw (w, same) t.spelled },
      )

  pub no_item_fault : (path : List ℕ) (kind : WriteForm) (s : Setting) (line : List ℕ) (why : ItemFault) → IsPath path → WritesAt profile path (Some kind) → WriteText kind s (line ++ 10 ∷ []) → IsItemFault profile path s why → ⊥
  no_item_fault path kind s line fault.BadPath g w t f = f g
  no_item_fault path kind s line fault.NotWritable g w t f = writes_once profile path kind f.1 w
  no_item_fault path kind s line fault.WrongKind g w t f = f.3 (subst (λ (k : WriteForm). FitsWrite k s) (one_write_form profile path kind f.1 w f.2) (record { line = t.line; spelled = t.spelled }))

  -- ---- The end

  pub item_path_cut : (begun p : List ℕ) (items : List ItemData) → AtItemPath profile begun p items → begun ≢ [] → Plan profile p → ⊥
  item_path_cut begun p items h n w =
      let s = plan_strip profile items w.0 h.given begun h.whole (subst (PlanText profile w.0) h.split w.1) in
      let head = plan_head profile s.0 begun s.1 n in
      lacks_inside 0 head.path (head.line ++ 10 ∷ head.rest) (subst (Lacks 0) head.text_is (bytes_no_nul begun h.begun_path))

  pub item_line_cut : (begun : List ℕ) (x : CurrentItem) (p : List ℕ) (items : List ItemData) → AtItemLine profile begun x p items → Plan profile p → ⊥
  item_line_cut begun x p items h w =
      let s = plan_strip profile items w.0 h.given (x.path.items ++ 0 ∷ h.line) h.whole (subst (PlanText profile w.0) h.split w.1) in
      let head = plan_head profile s.0 (x.path.items ++ 0 ∷ h.line) s.1 (not_empty x.path.items h.line 0) in
      let c = cut 0 x.path.items head.path h.line (head.line ++ 10 ∷ head.rest) (path_lacks_nul x.path.items h.good) (path_lacks_nul head.path head.good) head.text_is in
      lacks_inside 10 head.line head.rest (subst (Lacks 10) c.1 h.plain)

  -- ---- Whether a line is begun

  pub items_back : (begun : List ℕ) (o : Option CurrentItem) (p : List ℕ) (items : List ItemData) → o ≡ None → AtItemPath profile begun p items → HasConsumedItems profile begun o p items
  items_back begun o p items e h = subst (λ (w : Option CurrentItem). HasConsumedItems profile begun w p items) (sym e) h

  pub items_path : (begun : List ℕ) (o : Option CurrentItem) (p : List ℕ) (items : List ItemData) → o ≡ None → HasConsumedItems profile begun o p items → AtItemPath profile begun p items
  items_path begun o p items e h = subst (λ (w : Option CurrentItem). HasConsumedItems profile begun w p items) e h

  pub items_line : (begun : List ℕ) (o : Option CurrentItem) (x : CurrentItem) (p : List ℕ) (items : List ItemData) → o ≡ Some x → HasConsumedItems profile begun o p items → AtItemLine profile begun x p items
  items_line begun o x p items e h = subst (λ (w : Option CurrentItem). HasConsumedItems profile begun w p items) e h

  -- ---- What is held

  pub item_line_held : (begun : List ℕ) (o : Option CurrentItem) (x : CurrentItem) (p : List ℕ) (items : List ItemData) (n m : ℕ) → o ≡ Some x → HasConsumedItems profile begun o p items → ((k : WriteForm) (t : List ℕ) → SettingReads x.reader k t → m ≤ length t) →
      n ≤ length begun + (length x.path.items + m) → (r : List ℕ) × IsBegun p r × (n ≤ length r)
  item_line_held begun o x p items n m e h most le =
      let l = items_line begun o x p items e h in
      let few = most l.kind l.line l.takes in (
        x.path.items ++ 0 ∷ l.line,
        closed_begun p items (items_closed_by begun (Some x) p items l),
        omega (arith, le, few, ap length l.nothing_begun, length-append x.path.items (0 ∷ l.line)),
      )

-- No line is begun.
pub no_line : (o : Option CurrentItem) → is_some o ≡ false → o ≡ None
no_line None e = refl
no_line (Some x) e = absurd (cc)

-- No record of a plan is one too many.
pub never_few : (max : ℕ) (p run : List ℕ) → AreFew (is_never_many max) p run
never_few max p [] = tt
never_few max p (byte ∷ run) = ((λ many. many), never_few max (p ++ byte ∷ []) run)

-- ---- What the records took

pub taken_items : (s : PlanRecords) (profile : Profile) (p : List ℕ) (items : List ItemData) → s.profile ≡ profile → HasConsumedItems profile s.begun.items s.present p items → HasTakenItems s profile p items
taken_items s profile p items e h = record { profile_is = e; at = h; closed = items_closed_by profile s.begun.items s.present p items h; goes_on = items_viable profile s.begun.items s.present p items h }

-- What bytes leave.
pub items_leave : (s : PlanRecords) (profile : Profile) (max : ℕ) (p : List ℕ) (items : List ItemData) (bytes : List ℕ) (used : ℕ) (what : Event ItemData) → s.profile ≡ profile →
    Leaves (plan_stream profile) (HasConsumedItems profile s.begun.items s.present) max p items bytes used what → Leaves (plan_stream profile) (HasTakenItems s profile) max p items bytes used what
items_leave s profile max p items bytes used what e h =
    leaves_as (plan_stream profile) (HasConsumedItems profile s.begun.items s.present) (HasTakenItems s profile) (λ q fs a. taken_items s profile q fs e a) max p items bytes used what h
