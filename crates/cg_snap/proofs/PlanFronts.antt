-- The item whose line comes whole.
use Rattle.std.proofs.Common.{◌≡◌, ℕ, ◌+◌, ◌-◌, ◌<◌, ◌≤◌, List, [], ◌∷◌, ◌++◌, take, drop, length, get_or, Option, None, sym, ap, subst, ◌∙◌, append_assoc, arith}
use Rattle.std.proofs.lemmas.List.{append-nil, length-append, length-take-le, take-append-le, take_all, take_more, take-take}
use Rattle.cg_text.specs.Texts.{Lacks}
use Rattle.cg_text.specs.TextsLaws.{lacks_both}
use Rattle.cg_value.specs.Entry.{ItemData}
use Rattle.cg_value.specs.Settings.{KindWrite}
use Rattle.cg_value.specs.declared.kind.WriteForm.{WriteForm}
use Rattle.cg_value.specs.declared.profile.Profile.{Profile}
use Rattle.cg_line.specs.SettingReads.{IsRunPushed, SettingReads}
use Rattle.cg_line.specs.declared.reader.PushedRun.{PushedRun}
use Rattle.cg_line.specs.declared.setting_reader.SettingReader.{SettingReader}
use Rattle.cg_snap.specs.Plan.{ClosedPlan, IsItemLine, PlanText}
use Rattle.cg_snap.specs.PlanLaws.{item_line_plain}
use Rattle.cg_snap.specs.PlanState.{HasConsumedItems}
use Rattle.cg_snap.specs.declared.plan.CurrentItem.{CurrentItem}
use Rattle.cg_snap.proofs.Courses.{text_on}
use Rattle.cg_snap.proofs.PlanStates.{items_back, plan_push}
use Rattle.cg_snap.proofs.Runs.{cut_ended, run_cut}

-- The bytes before the newline.
before_newline : (bytes back : List ℕ) (used : ℕ) → used ≤ length bytes → take used bytes ≡ back ++ 10 ∷ [] → (0 < used) × (take (used - 1) bytes ≡ back)
before_newline bytes back used within e =
    let size : used ≡ length back + 1 = sym (length-take-le used bytes within) ∙ (ap length e ∙ length-append back (10 ∷ [])) in
    let fewer : used - 1 ≡ length back = omega (arith, size) in (
      omega (arith, size),
      ap (λ (n : ℕ). take n bytes) fewer ∙ (sym (take-take (length back) used bytes (omega (arith, size)))
          ∙ (ap (λ (t : List ℕ). take (length back) t) e ∙ (take-append-le {A = ℕ} (length back) back (10 ∷ []) (omega arith) ∙ take_all (length back) back (omega arith)))),
    )

-- A reader took the rest of a line, and its newline.
pub line_ended : (r : SettingReader) (kind : WriteForm) (line bytes : List ℕ) (run : PushedRun) → Lacks 10 line → run.used ≤ length bytes → IsRunPushed r kind line bytes run → (0 < run.used) × (get_or bytes (run.used - 1) 0 ≡ 10) →
    (back : List ℕ) × (take run.used bytes ≡ back ++ 10 ∷ []) × Lacks 10 (line ++ back) × SettingReads r kind ((line ++ back) ++ 10 ∷ [])
line_ended r kind line bytes run plain within pushed last =
    let f = cut_ended bytes run.used within (run_cut (KindWrite kind) line bytes run.used run.fault pushed.stops) last in
    let whole : line ++ take run.used bytes ≡ (line ++ f.0) ++ 10 ∷ [] = ap (λ (t : List ℕ). line ++ t) f.1 ∙ sym (append_assoc line f.0 (10 ∷ [])) in
    (f.0, f.1, lacks_both 10 line f.0 plain f.2, subst (SettingReads r kind) whole pushed.takes)

-- With the bytes the line of an item came, and no record is begun.
pub item_came : (profile : Profile) (p given path line : List ℕ) (items : List ItemData) (item : ItemData) (bytes back : List ℕ) (used : ℕ) (now : List ℕ) (o : Option CurrentItem) →
    PlanText profile items given → Lacks 10 path → item.path ≡ path → IsItemLine profile item line →
    used ≤ length bytes → take used bytes ≡ back ++ 10 ∷ [] → p ++ back ≡ given ++ (path ++ 0 ∷ line) → now ≡ [] → o ≡ None →
    (0 < used) × ClosedPlan profile (p ++ take (used - 1) bytes) items × HasConsumedItems profile now o (p ++ take used bytes) (items ++ item ∷ [])
item_came profile p given path line items item bytes back used now o whole plain q s within e text none n =
    let before = before_newline bytes back used within e in
    let record_is : p ++ take used bytes ≡ given ++ (path ++ 0 ∷ (line ++ 10 ∷ [])) =
    ap (λ (t : List ℕ). p ++ t) e ∙ (sym (append_assoc p back (10 ∷ [])) ∙ (ap (λ (t : List ℕ). t ++ 10 ∷ []) text ∙ simp append_assoc)) in (
      before.0,
      record {
        given = given;
        begun = path ++ 0 ∷ line;
        split = ap (λ (t : List ℕ). p ++ t) before.1 ∙ text;
        whole = whole;
        plain = lacks_both 10 path (0 ∷ line) plain ((λ z. omega (arith, z)), item_line_plain profile item line s);
      },
      items_back profile now o (p ++ take used bytes) (items ++ item ∷ []) n (record {
        given = given ++ (path ++ 0 ∷ (line ++ 10 ∷ []));
        split = rw none (record_is ∙ sym (append-nil (given ++ (path ++ 0 ∷ (line ++ 10 ∷ [])))));
        whole = plan_push profile items given path line (record { item = item; path_is = q; spells = s }) whole;
        begun_path = rw none tt;
      }),
    )

-- What comes of a path, its NUL, and behind that a line and its newline.
pub record_front : (bytes rest line : List ℕ) (used n : ℕ) → used < length bytes → get_or bytes used 0 ≡ 0 → rest ≡ drop (used + 1) bytes → take n rest ≡ line ++ 10 ∷ [] →
    take (used + 1 + n) bytes ≡ (take used bytes ++ 0 ∷ line) ++ 10 ∷ []
record_front bytes rest line used n lt z back e =
    let path : take (used + 1) bytes ≡ take used bytes ++ 0 ∷ [] = take_more bytes used 0 lt ∙ ap (λ (b : ℕ). take used bytes ++ b ∷ []) z in
    sym (text_on [] bytes rest (used + 1) n back) ∙ rw (path, e) (simp append_assoc)
