-- What holds of the lines of quotas.
use Rattle.std.proofs.Common.{ℕ, ◌↔◌, List, Option, codes}
use Rattle.cg_text.specs.Decimal.{IsDecimal}
use Rattle.cg_text.specs.Limit.{IsLimit}
use Rattle.cg_text.specs.declared.values.Limit.{Limit}
use Rattle.cg_join.specs.Composites.{IsWrittenQuota}
use Rattle.cg_join.specs.Spelling.{IsMappedText}
use Rattle.cg_value.specs.Kind.{any_u64}
use Rattle.cg_value.specs.WriteLine.{IsQuota}
use Rattle.cg_write.specs.Mapped.{perhaps_both}
use Rattle.cg_write.specs.FollowedLaws.{perhaps_is}

pub written_quota_is : (text : List ℕ) (x : Limit × Option ℕ) → IsMappedText IsWrittenQuota perhaps_both text x ↔ IsQuota (x.0) (x.1) text
written_quota_is text x = perhaps_is (IsLimit 1000 any_u64) (codes " ") (IsDecimal 1000 1000000) IsQuota (λ v t. (λ h. h, λ h. h)) (λ v w t. (λ h. h, λ h. h)) text x
