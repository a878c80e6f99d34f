-- What holds of plans: a text has one list of items, and items printed are a plan.
use Rattle.std.proofs.Common.{◌≡◌, ℕ, List, [], ◌∷◌, ◌++◌, Some, inl, inr, refl, sym, ap, subst, ◌∙◌, append_assoc}
use Rattle.std.proofs.Math.Logic.{∥∥₁_prop}
use Rattle.std.proofs.lemmas.List.{append_cancel_right}
use Rattle.cg_text.specs.Raw.{IsRawLine}
use Rattle.cg_text.specs.Texts.{Lacks}
use Rattle.cg_value.specs.Entry.{IsSomeItem, ItemData, WritesAt}
use Rattle.cg_value.specs.EntryLaws.{item_path}
use Rattle.cg_value.specs.PathLaws.{path_lacks_nul}
use Rattle.cg_value.specs.PlainWriteLaws.{written_raw}
use Rattle.cg_value.specs.Print.{print_setting_of}
use Rattle.cg_value.specs.PrintSettingLaws.{setting_text_prints}
use Rattle.cg_value.specs.Settings.{WriteText}
use Rattle.cg_value.specs.Table.{write_form_of}
use Rattle.cg_value.specs.TableLaws.{write_form_ok}
use Rattle.cg_value.specs.WriteLine.{WriteLine}
use Rattle.cg_value.specs.declared.kind.WriteForm.{WriteForm}
use Rattle.cg_value.specs.declared.profile.Profile.{Profile}
use Rattle.cg_value.specs.declared.setting.Setting.{Setting}
use Rattle.cg_file.specs.WeightFileLaws.{not_empty}
use Rattle.cg_write.specs.OneSettingLaws.{one_setting}
use Rattle.cg_snap.specs.Laws.{AreItemsOf, print_items}
use Rattle.cg_snap.specs.Plan.{ClosedPlan, IsItemLine, PlanText}
use Rattle.cg_snap.specs.SnapLaws.{EndsBy, cut, one_back, one_name, record_then}

abbrev made : (path : List ℕ) (s : Setting) → IsSomeItem path s → ItemData
made path s fits = record { path = path; setting = s; fits = fits }

one_fact : (path : List ℕ) (s : Setting) (a b : IsSomeItem path s) → made path s a ≡ made path s b
one_fact path s a b = ap (λ t. made path s t) (∥∥₁_prop a b)

same_path : (p q : List ℕ) → p ≡ q → (s : Setting) (a : IsSomeItem p s) (b : IsSomeItem q s) → made p s a ≡ made q s b
same_path p q e s = subst (λ z. (a : IsSomeItem p s) (b : IsSomeItem z s) → made p s a ≡ made z s b) e (one_fact p s)

-- Items of the same path and setting are the same.
pub same_item : (x y : ItemData) → x.path ≡ y.path → x.setting ≡ y.setting → x ≡ y
same_item x y e g =
    subst (λ w. (b : IsSomeItem y.path w) → x ≡ made y.path w b) g (same_path x.path y.path e x.setting x.fits) y.fits

-- ---- Paths and lines

some_same : (k l : WriteForm) → Some k ≡ Some l → k ≡ l
some_same k l e = cc

-- A path is written in one way.
pub one_write_form : (profile : Profile) (path : List ℕ) (k l : WriteForm) → WritesAt profile path (Some k) → WritesAt profile path (Some l) → k ≡ l
one_write_form profile path k l a b =
    some_same k l (sym a.form_is ∙ ap (λ name. write_form_of profile name) (one_name path a.name b.name a.name_is b.name_is) ∙ b.form_is)

line_plain : (line : List ℕ) → IsRawLine line → Lacks 10 line
line_plain [] h = tt
line_plain (c ∷ line) h = (h.2, line_plain line h.3)

-- The line of a write has no newline.
pub written_plain : (kind : WriteForm) (s : Setting) (line : List ℕ) → WriteLine kind s line → Lacks 10 line
written_plain kind s line h = line_plain line (written_raw kind s line h)

pub item_line_plain : (profile : Profile) (item : ItemData) (line : List ℕ) → IsItemLine profile item line → Lacks 10 line
item_line_plain profile item line h = written_plain h.kind item.setting line h.spelled

-- One path and one line are those of one item.
one_item : (profile : Profile) (x y : ItemData) (l m : List ℕ) → IsItemLine profile x l → IsItemLine profile y m → x.path ≡ y.path → l ≡ m → x ≡ y
one_item profile x y l m a b p e =
    let k : a.kind ≡ b.kind = one_write_form profile y.path a.kind b.kind (subst (λ path. WritesAt profile path (Some a.kind)) p a.writes) b.writes in
    let spelled : WriteLine b.kind x.setting m = subst (λ (z : WriteForm × List ℕ). WriteLine z.0 x.setting z.1) (let h : (a.kind, l) ≡ (b.kind, m) = cc in h) a.spelled in
    same_item x y p (one_setting b.kind (m ++ 10 ∷ []) x.setting y.setting (record { line = m; spelled = spelled; text_is = refl }) (record { line = m; spelled = b.spelled; text_is = refl }))

both_same : (x y : ItemData) (xs ys : List ItemData) → x ≡ y → xs ≡ ys → x ∷ xs ≡ y ∷ ys
both_same x y xs ys p q = cc

-- No text has two lists of items.
pub one_plan : (profile : Profile) (xs ys : List ItemData) (text : List ℕ) → PlanText profile xs text → PlanText profile ys text → xs ≡ ys
one_plan profile [] [] t h g = refl
one_plan profile [] (y ∷ ys) t h g = absurd (not_empty y.path (g.0 ++ 10 ∷ g.1) 0 (sym g.3 ∙ h))
one_plan profile (x ∷ xs) [] t h g = absurd (not_empty x.path (h.0 ++ 10 ∷ h.1) 0 (sym h.3 ∙ g))
one_plan profile (x ∷ xs) (y ∷ ys) t h g =
    let c = cut 0 x.path y.path (h.0 ++ 10 ∷ h.1) (g.0 ++ 10 ∷ g.1) (path_lacks_nul x.path (item_path x)) (path_lacks_nul y.path (item_path y)) (sym h.3 ∙ g.3) in
    let d = cut 10 h.0 g.0 h.1 g.1 (item_line_plain profile x h.0 h.2) (item_line_plain profile y g.0 g.2) c.1 in
    both_same x y xs ys (one_item profile x y h.0 g.0 h.2 g.2 c.0 d.0) (one_plan profile xs ys g.1 (subst (PlanText profile xs) d.1 h.4) g.4)

-- Items of one profile, printed, are a plan of these items.
pub items_printed : (profile : Profile) (items : List ItemData) → AreItemsOf profile items → PlanText profile items (print_items items)
items_printed profile [] all = refl
items_printed profile (x ∷ items) all =
    let fit = all.0 in
    let w : WriteText fit.kind x.setting (print_setting_of x.setting) = setting_text_prints fit.kind x.setting (write_form_ok profile fit.writes.name fit.kind fit.writes.form_is) fit.fits in (
      w.line,
      print_items items,
      record { kind = fit.kind; writes = fit.writes; spelled = w.spelled },
      ap (λ (t : List ℕ). x.path ++ 0 ∷ t) (ap (λ (t : List ℕ). t ++ print_items items) w.text_is ∙ append_assoc w.line (10 ∷ []) (print_items items)),
      items_printed profile items all.1,
    )

-- ---- What bytes close

record_ends : (path line rest : List ℕ) → EndsBy 10 rest → EndsBy 10 (path ++ 0 ∷ (line ++ 10 ∷ rest))
record_ends path line rest (inl e) = inr (path ++ 0 ∷ line, ap (λ (t : List ℕ). path ++ 0 ∷ (line ++ 10 ∷ t)) e ∙ sym (append_assoc path (0 ∷ line) (10 ∷ [])))
record_ends path line rest (inr h) =
    inr (path ++ 0 ∷ (line ++ 10 ∷ h.0), ap (λ (t : List ℕ). path ++ 0 ∷ (line ++ 10 ∷ t)) h.1 ∙ sym (record_then path line h.0 (10 ∷ [])))

pub plan_ends : (profile : Profile) (items : List ItemData) (text : List ℕ) → PlanText profile items text → EndsBy 10 text
plan_ends profile [] text h = inl h
plan_ends profile (x ∷ items) text h = subst (EndsBy 10) (sym h.3) (record_ends x.path h.0 h.1 (plan_ends profile items h.1 h.4))

-- The bytes close one list of items.
pub closed_plan_once : (profile : Profile) (bytes : List ℕ) (xs ys : List ItemData) → ClosedPlan profile bytes xs → ClosedPlan profile bytes ys → xs ≡ ys
closed_plan_once profile bytes xs ys c d =
    let whole : c.given ++ c.begun ≡ d.given ++ d.begun = sym c.split ∙ d.split in
    let begun : c.begun ≡ d.begun = one_back 10 c.given d.given c.begun d.begun (plan_ends profile xs c.given c.whole) (plan_ends profile ys d.given d.whole) c.plain d.plain whole in
    let given : c.given ≡ d.given = append_cancel_right c.given d.given d.begun (subst (λ t. c.given ++ t ≡ d.given ++ d.begun) begun whole) in
    one_plan profile xs ys d.given (subst (PlanText profile xs) given c.whole) d.whole
