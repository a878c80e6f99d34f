-- Where the record stands that comes, and which bytes are a whole stream.
use Rattle.std.proofs.Common.{◌≡◌, ℕ, Bool, true, false, List, [], ◌∷◌, ◌++◌, Option, Some, None, refl, sym, ap, subst, ◌∙◌, ◌↔◌, IsTrue, not, true≢false}
use Rattle.std.specs.Bool.{MatchBool}
use Rattle.std.proofs.lemmas.List.{append-nil}
use Rattle.cg_value.specs.Entry.{EntryData, ItemData}
use Rattle.cg_value.specs.PathLaws.{path_lacks_nul}
use Rattle.cg_value.specs.declared.profile.Profile.{Profile}
use Rattle.cg_snap.specs.DecoderState.{HasConsumed, HasConsumedAPath}
use Rattle.cg_snap.specs.Plan.{Plan, PlanText}
use Rattle.cg_snap.specs.PlanState.{HasConsumedItems}
use Rattle.cg_snap.specs.RecordPlace.{IsRecordPlace}
use Rattle.cg_snap.specs.Snap.{Snap}
use Rattle.cg_snap.specs.declared.plan.CurrentItem.{CurrentItem}
use Rattle.cg_snap.specs.declared.present.CurrentEntry.{CurrentEntry}
use Rattle.cg_snap.proofs.Closes.{line_begun, path_begun, start_begun}
use Rattle.cg_snap.proofs.Finishes.{between_path, last_entry}
use Rattle.cg_snap.proofs.PlanStates.{closed_begun, items_closed_by, items_line, items_path}
use Rattle.cg_snap.proofs.States.{line_state}
use Rattle.cg_snap.proofs.Steps.{bytes_no_nul, present_entry}

module _ (profile : Profile) (begun : List ℕ) (o : Option CurrentEntry) (p : List ℕ) (es : List EntryData) (h : HasConsumed profile begun o p es) where
  pub line_place : (x : CurrentEntry) → o ≡ Some x → x.in_line ≡ true → IsRecordPlace p x.path.items true
  line_place x e t =
      let l = line_state profile begun x p es t (subst (λ (q : Option CurrentEntry). HasConsumed profile begun q p es) e h) in
      (l.line, path_lacks_nul x.path.items l.good, line_begun profile begun x p es l)

  pub path_place : (x : CurrentEntry) → o ≡ Some x → x.in_line ≡ false → IsRecordPlace p begun false
  path_place x e t = let a = between_path profile begun o x p es e t h in (bytes_no_nul begun a.begun_path, path_begun profile begun x p es a)

  start_state : o ≡ None → HasConsumedAPath begun p es
  start_state e = subst (λ (q : Option CurrentEntry). HasConsumed profile begun q p es) e h

  pub start_place : o ≡ None → IsRecordPlace p begun false
  start_place e = let a = start_state e in (bytes_no_nul begun a.begun_path, start_begun begun p es a)

  -- Nothing came.
  pub start_whole : o ≡ None → begun ≡ [] → Snap profile p
  start_whole e n = ([], (start_state e).bytes ∙ n)

  -- The present entry is the last.
  pub entry_whole : (x : CurrentEntry) → o ≡ Some x → x.in_line ≡ false → begun ≡ [] → Snap profile p
  entry_whole x e t n =
      let a = between_path profile begun o x p es e t h in
      let last = present_entry profile begun x p es a in
      (es ++ last.0 ∷ [], last_entry profile begun x p es (last.0) a n (last.1) (last.2))

module _ (profile : Profile) (begun : List ℕ) (o : Option CurrentItem) (p : List ℕ) (items : List ItemData) (h : HasConsumedItems profile begun o p items) where
  pub item_line_place : (x : CurrentItem) → o ≡ Some x → IsRecordPlace p x.path.items true
  item_line_place x e =
      let l = items_line profile begun o x p items e h in
      (l.line, path_lacks_nul x.path.items l.good, closed_begun profile p items (items_closed_by profile begun (Some x) p items l))

  pub item_path_place : o ≡ None → IsRecordPlace p begun false
  item_path_place e =
      let a = items_path profile begun o p items e h in
      (bytes_no_nul begun a.begun_path, closed_begun profile p items (items_closed_by profile begun None p items a))

  -- All items were given.
  pub items_whole : o ≡ None → begun ≡ [] → Plan profile p
  items_whole e n =
      let a = items_path profile begun o p items e h in
      let same : p ≡ a.given = a.split ∙ ap (λ (t : List ℕ). a.given ++ t) n ∙ append-nil a.given in
      (items, subst (PlanText profile items) (sym same) a.whole)

-- ---- Tests

pub yes_decides : (b : Bool) (P : Type 0) → (b ≡ true → P) → (b ≡ false → P → ⊥) → IsTrue b ↔ P
yes_decides true P y n = (λ t. y refl, λ x. refl)
yes_decides false P y n = (λ t. absurd (true≢false (sym t)), λ x. absurd (n refl x))

pub no_decides : (b : Bool) (P : Type 0) → (b ≡ false → P) → (b ≡ true → P → ⊥) → IsTrue (not b) ↔ P
no_decides true P y n = (λ t. absurd (true≢false (sym t)), λ x. absurd (n refl x))
no_decides false P y n = (λ t. y refl, λ x. refl)

pub decided : (b : Bool) (S P Q : Type 0) → IsTrue b ↔ S → (S → P) → ((S → ⊥) → Q) → MatchBool b P Q
decided true S P Q e p q = p (e.0 refl)
decided false S P Q e p q = q (λ s. true≢false (sym (e.1 s)))

pub never_decides : (P : Type 0) → (P → ⊥) → IsTrue false ↔ P
never_decides P n = (λ t. absurd (true≢false (sym t)), λ x. absurd (n x))
