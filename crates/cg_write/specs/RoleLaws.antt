-- What holds of the lines of roles.
use Rattle.std.proofs.Common.{ℕ, ◌↔◌, List, refl}
use Rattle.cg_text.specs.Keyword.{text_of}
use Rattle.cg_text.specs.declared.keyword.Keyword.TheVariants as word
use Rattle.cg_join.specs.DisjointLaws.{either_disjoint, fixed_disjoint}
use Rattle.cg_join.specs.LackingLaws.{either_lacking, keyword_lacking}
use Rattle.cg_join.specs.Spelling.{Disjoint, IsMappedText}
use Rattle.cg_join.specs.TextBytes.{IsFixed, Lacking}
use Rattle.cg_join.specs.declared.choice.Either.TheVariants.{Left, Right}
use Rattle.cg_value.specs.WriteLine.{IsRole}
use Rattle.cg_value.specs.declared.value.Role.{Role}
use Rattle.cg_value.specs.declared.value.Role.TheVariants.{Member, Root, Isolated}
use Rattle.cg_write.specs.Texts.{IsRoleWord, IsRootWord, OneOfThree}
use Rattle.cg_write.specs.Mapped.{role_of}

role_from : (text : List ℕ) (v : OneOfThree) → IsRoleWord text v → IsRole (role_of v) text
role_from text (Left u) h = h
role_from text (Right (Left u)) h = h
role_from text (Right (Right u)) h = h

role_to : (text : List ℕ) (role : Role) → IsRole role text → IsMappedText IsRoleWord role_of text role
role_to text Member h = (Left tt, h, refl)
role_to text Root h = (Right (Left tt), h, refl)
role_to text Isolated h = (Right (Right tt), h, refl)

-- The words, turned into roles.
pub role_is : (text : List ℕ) (role : Role) → IsMappedText IsRoleWord role_of text role ↔ IsRole role text
role_is text role = (λ h. (let k = role_from text h.0 h.1 in rw h.2 at k), λ h. role_to text role h)

pub root_not_isolated : Disjoint (IsFixed (text_of word.Root)) (IsFixed (text_of word.Isolated))
root_not_isolated = fixed_disjoint (text_of word.Root) (text_of word.Isolated) refl

pub member_no_root : Disjoint (IsFixed (text_of word.Member)) IsRootWord
member_no_root = either_disjoint (IsFixed (text_of word.Root)) (IsFixed (text_of word.Isolated)) (IsFixed (text_of word.Member))
    (fixed_disjoint (text_of word.Member) (text_of word.Root) refl) (fixed_disjoint (text_of word.Member) (text_of word.Isolated) refl)

pub role_lacking : Lacking IsRoleWord 10
role_lacking = either_lacking (keyword_lacking word.Member) (either_lacking (keyword_lacking word.Root) (keyword_lacking word.Isolated))
