-- What holds of the token over the file of a partition.
use Rattle.std.proofs.Common.{◌≡◌, ℕ, ◌+◌, ◌≤◌, ◌↔◌, Bool, true, false, List, [], ◌∷◌, ◌++◌, length, Option, Some, None, refl, sym, ◌∙◌, ap, append_assoc, arith, codes}
use Rattle.std.proofs.lemmas.List.{append-nil}
use Rattle.cg_text.specs.Keyword.{text_of}
use Rattle.cg_text.specs.Raw.{IsReason}
use Rattle.cg_text.specs.declared.keyword.Keyword.TheVariants as word
use Rattle.cg_join.specs.BeginsLaws.{concat_begins, either_begins, fixed_begins, fixed_begins_other}
use Rattle.cg_join.specs.Choice.{either_size}
use Rattle.cg_join.specs.CutLaws.{alone_is, followed_is, label_is, parts_is}
use Rattle.cg_join.specs.FilledLaws.{either_filled, first_filled, fixed_filled}
use Rattle.cg_join.specs.LackingLaws.{concat_lacking, either_lacking, keyword_lacking, maybe_lacking, reason_lacking}
use Rattle.cg_join.specs.Maybe.{IsMaybe, maybe_size}
use Rattle.cg_join.specs.Spelling.{IsMappedText}
use Rattle.cg_join.specs.TextBytes.{Filled, IsFixed, Lacking}
use Rattle.cg_join.specs.declared.choice.Either.TheVariants.{Left, Right}
use Rattle.cg_value.specs.Held.{held_of_reason}
use Rattle.cg_value.specs.ReadLine.{CanBeInvalid, IsPartition, role_text}
use Rattle.cg_value.specs.declared.value.Role.{Role}
use Rattle.cg_value.specs.declared.value.Role.TheVariants.{Member, Root, Isolated}
use Rattle.cg_file.specs.Kinds.{held_of_whole}
use Rattle.cg_file.specs.OneOrBoth.{Differ}
use Rattle.cg_file.specs.PartitionMapped.{RootValue, InvalidValue, PartitionValue, ReasonValue, IsRootWord, IsReasonText, IsInvalidText, IsRootText, IsPartitionText, root_role, root_parts}
use Rattle.cg_file.specs.PartitionMapped.{partition_parts, partition_value, reason_of}

-- ---- Texts

-- Of the parts of a partition.
abbrev IsPartitionLine : Role × Bool × Option (List ℕ) → List ℕ → Type 0
IsPartitionLine x text = IsPartition (x.0) (x.1) (x.2) text

word_is : (text : List ℕ) (r : RootValue) → IsRootWord text r ↔ (text ≡ role_text (root_role r))
word_is text (Left u) = (λ h. h, λ h. h)
word_is text (Right u) = (λ h. h, λ h. h)

can_be : (r : RootValue) → CanBeInvalid (root_role r)
can_be (Left u) = tt
can_be (Right u) = tt

reason_joined : (front a b reason end : List ℕ) → front ++ a ++ (b ++ (reason ++ end)) ≡ front ++ (a ++ b) ++ reason ++ end
reason_joined front a b reason end = simp append_assoc refl

-- What follows the role, where it is invalid.
invalid_to : (text : List ℕ) (r : RootValue) (reason : Option ReasonValue) → IsRootText text (r, Some (tt, reason)) → IsPartitionLine (root_role r, false, reason_of reason) text
invalid_to text r None h =
    let k = (parts_is (text_of word.Invalid) (IsMaybe IsReasonText) IsRootWord text (r, (tt, None))).0 ((followed_is IsRootWord IsInvalidText text r (tt, None)).0 h) in
    let front : k.0 ≡ role_text (root_role r) = (word_is k.0 r).0 k.3 in
    let whole : text ≡ k.0 ++ codes " invalid" = k.2 ∙ ap (λ t. k.0 ++ codes " invalid" ++ t) k.4 ∙ append-nil (k.0 ++ codes " invalid") in
    (can_be r, rw front at whole)
invalid_to text r (Some v) h =
    let k = (parts_is (text_of word.Invalid) (IsMaybe IsReasonText) IsRootWord text (r, (tt, Some v))).0 ((followed_is IsRootWord IsInvalidText text r (tt, Some v)).0 h) in
    let front : k.0 ≡ role_text (root_role r) = (word_is k.0 r).0 k.3 in
    let last = (label_is (text_of word.Opening) (λ t reason. IsReason reason t) k.1 v).0 k.4 in
    let whole : text ≡ k.0 ++ codes " invalid" ++ (codes " (" ++ (v.1 ++ 41 ∷ [])) = k.2 ∙ ap (λ t. k.0 ++ codes " invalid" ++ t) (last.1 ∙ ap (λ t. codes " (" ++ t) last.2.0) in
    (can_be r, (let joined = whole ∙ reason_joined k.0 (codes " invalid") (codes " (") v.1 (41 ∷ []) in rw front at joined), last.2.1)

invalid_from : (text : List ℕ) (r : RootValue) (reason : Option ReasonValue) → IsPartitionLine (root_role r, false, reason_of reason) text → IsRootText text (r, Some (tt, reason))
invalid_from text r None h =
    (followed_is IsRootWord IsInvalidText text r (tt, None)).1 ((parts_is (text_of word.Invalid) (IsMaybe IsReasonText) IsRootWord text (r, (tt, None))).1
    (role_text (root_role r), [], h.1 ∙ sym (append-nil (role_text (root_role r) ++ codes " invalid")), (word_is (role_text (root_role r)) r).1 refl, refl))
invalid_from text r (Some v) h =
    let role = role_text (root_role r) in
    (followed_is IsRootWord IsInvalidText text r (tt, Some v)).1 ((parts_is (text_of word.Invalid) (IsMaybe IsReasonText) IsRootWord text (r, (tt, Some v))).1 (
      role,
      codes " (" ++ (v.1 ++ 41 ∷ []),
      h.1 ∙ sym (reason_joined role (codes " invalid") (codes " (") v.1 (41 ∷ [])),
      (word_is role r).1 refl,
      (label_is (text_of word.Opening) (λ t reason. IsReason reason t) (codes " (" ++ (v.1 ++ 41 ∷ [])) v).1 (v.1 ++ 41 ∷ [], refl, (refl, h.2)),
    ))

root_to : (text : List ℕ) (r : RootValue) (v : Option InvalidValue) → IsRootText text (r, v) → IsPartitionLine (root_parts (root_role r) v) text
root_to text r None h = (word_is text r).0 ((alone_is IsRootWord IsInvalidText text r).0 h)
root_to text r (Some v) h = invalid_to text r v.1 h

valid_from : (text : List ℕ) (r : RootValue) → text ≡ role_text (root_role r) → IsRootText text (r, None)
valid_from text r h = (alone_is IsRootWord IsInvalidText text r).1 ((word_is text r).1 h)

partition_to : (text : List ℕ) (v : PartitionValue) → IsPartitionText text v → IsPartitionLine (partition_parts v) text
partition_to text (Left u) h = h
partition_to text (Right v) h = root_to text v.0 v.1 h

partition_from : (text : List ℕ) (role : Role) (valid : Bool) (reason : Option (List ℕ)) → IsPartition role valid reason text → IsMappedText IsPartitionText partition_parts text (role, valid, reason)
partition_from text role true (Some reason) h = absurd h
partition_from text Member true None h = (Left tt, h, refl)
partition_from text Root true None h = (Right (Left tt, None), valid_from text (Left tt) h, refl)
partition_from text Isolated true None h = (Right (Right tt, None), valid_from text (Right tt) h, refl)
partition_from text Member false None h = absurd h.0
partition_from text Member false (Some reason) h = absurd h.0
partition_from text Root false None h = (Right (Left tt, Some (tt, None)), invalid_from text (Left tt) None h, refl)
partition_from text Isolated false None h = (Right (Right tt, Some (tt, None)), invalid_from text (Right tt) None h, refl)
partition_from text Root false (Some reason) h = (Right (Left tt, Some (tt, Some (tt, reason))), invalid_from text (Left tt) (Some (tt, reason)) h, refl)
partition_from text Isolated false (Some reason) h = (Right (Right tt, Some (tt, Some (tt, reason))), invalid_from text (Right tt) (Some (tt, reason)) h, refl)

-- The text of a partition, turned into its parts.
pub partition_is : (text : List ℕ) (x : Role × Bool × Option (List ℕ)) → IsMappedText IsPartitionText partition_parts text x ↔ IsPartition (x.0) (x.1) (x.2) text
partition_is text x = (
  λ h. (let k = partition_to text h.0 h.1 in rw h.2 at k),
  λ h. partition_from text (x.0) (x.1) (x.2) h,
)

-- ---- The side conditions

pub word_filled : Filled IsRootWord
word_filled = either_filled (fixed_filled 114 _) (fixed_filled 105 _)

pub root_filled : Filled IsRootText
root_filled = first_filled word_filled

pub member_differs : Differ (IsFixed (text_of word.Member)) IsRootText
member_differs = (
  (fixed_filled 109 _).is,
  λ b more back v w h k. (concat_begins word_filled (either_begins (fixed_begins_other 109 114 _ (λ e. omega (arith, e))) (fixed_begins_other 109 105 _ (λ e. omega (arith, e))))).is b back w k ((fixed_begins 109 _).is b more v h),
)

pub partition_lacking : Lacking IsPartitionText 10
partition_lacking =
    either_lacking (keyword_lacking word.Member)
    (concat_lacking (either_lacking (keyword_lacking word.Root) (keyword_lacking word.Isolated)) (maybe_lacking (concat_lacking (keyword_lacking word.Invalid) (maybe_lacking (concat_lacking (keyword_lacking word.Opening) reason_lacking)))))

-- ---- How much is held

-- Of a token's value, where a word of a role has a size of its own and a reason one.
abbrev Held : (RootValue → ℕ) → (List ℕ → ℕ) → PartitionValue → ℕ
Held f g v = either_size (λ _. 0) (λ w. f w.0 + maybe_size (λ x. maybe_size (λ y. g y.1) x.1) w.1) v

reason_held : (v : Option ReasonValue) → 0 + maybe_size (λ y. length y.1 + 1) v + 0 ≤ 1 + held_of_reason (reason_of v)
reason_held None = omega arith
reason_held (Some y) = omega arith

root_held : (role : Role) (v : Option InvalidValue) → 0 + maybe_size (λ x. maybe_size (λ y. length y.1 + 1) x.1) v + 0 ≤ 1 + held_of_reason ((root_parts role v).2)
root_held role None = omega arith
root_held role (Some x) = reason_held x.1

value_held : (v : PartitionValue) → Held (λ _. 0) (λ reason. length reason + 1) v + 0 ≤ 1 + held_of_reason ((partition_parts v).2)
value_held (Left u) = omega arith
value_held (Right w) = root_held (root_role w.0) w.1

-- The reason's parenthesis is held where its line may end, and is no more than the line.
pub partition_held : (v : PartitionValue × Unit {0}) → Held (λ _. 0) (λ reason. length reason + 1) v.0 + 0 ≤ held_of_whole (partition_value v)
partition_held v = value_held v.0
