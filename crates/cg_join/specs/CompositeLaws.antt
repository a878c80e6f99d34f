-- What holds of texts of several values.
use Rattle.std.proofs.Common.{◌≡◌, ℕ, ◌↔◌, List, [], ◌∷◌, ◌++◌, refl, codes, arith}
use Rattle.cg_text.specs.declared.hundredths.Spelling.TheVariants.{Read}
use Rattle.cg_text.specs.declared.keyword.Keyword.TheVariants as keyword
use Rattle.cg_text.specs.declared.values.Limit.{Limit}
use Rattle.cg_join.specs.Composites.{IsAnyLimit, IsAnyNumber, IsAverage, IsQuotaAndPeriod, IsWrittenQuota, IsDeviceTarget, AreAverages}
use Rattle.cg_join.specs.CutLaws.{HasFour, parts_is, four_is}
use Rattle.cg_join.specs.LackingLaws.{concat_lacking, maybe_lacking, keyword_lacking, fixed_lacking, limit_lacking, decimal_lacking, device_lacking, hundredths_lacking}
use Rattle.cg_join.specs.TextBytes.{Lacking}

any_limit_lacking : Lacking IsAnyLimit 10
any_limit_lacking = limit_lacking 10 0 18446744073709551615 (omega arith)

any_number_lacking : Lacking IsAnyNumber 10
any_number_lacking = decimal_lacking 10 0 18446744073709551615 (omega arith)

average_lacking : Lacking IsAverage 10
average_lacking = hundredths_lacking 10 Read 99999 (omega arith)

-- None has a newline.
pub quota_lacking : Lacking IsQuotaAndPeriod 10
quota_lacking = concat_lacking any_limit_lacking (concat_lacking (fixed_lacking 10 (32 ∷ []) refl) any_number_lacking)

pub written_quota_lacking : Lacking IsWrittenQuota 10
written_quota_lacking = concat_lacking (limit_lacking 10 1000 18446744073709551615 (omega arith)) (maybe_lacking (concat_lacking (fixed_lacking 10 (32 ∷ []) refl) (decimal_lacking 10 1000 1000000 (omega arith))))

pub device_target_lacking : Lacking IsDeviceTarget 10
device_target_lacking = concat_lacking (device_lacking 10 (omega arith)) (concat_lacking (keyword_lacking keyword.Target) any_number_lacking)

pub averages_lacking : Lacking AreAverages 10
averages_lacking = concat_lacking (concat_lacking (keyword_lacking keyword.Avg10) average_lacking) (concat_lacking (concat_lacking (keyword_lacking keyword.Avg60) average_lacking)
    (concat_lacking (concat_lacking (keyword_lacking keyword.Avg300) average_lacking) (concat_lacking (keyword_lacking keyword.Total) any_number_lacking)))

-- The parts of a quota and a period.
pub quota_is : (text : List ℕ) (v : Limit × (Unit {0} × ℕ)) → IsQuotaAndPeriod text v ↔ ((front : List ℕ) × (back : List ℕ) × (text ≡ front ++ codes " " ++ back) × IsAnyLimit front v.0 × IsAnyNumber back v.1.1)
quota_is text v = parts_is (codes " ") IsAnyNumber IsAnyLimit text v

-- The parts of averages.
pub averages_are : (text : List ℕ) (v : _) → AreAverages text v ↔
    HasFour IsAverage IsAverage IsAverage IsAnyNumber (codes " avg10=") (codes " avg60=") (codes " avg300=") (codes " total=") v.0.1 v.1.0.1 v.1.1.0.1 v.1.1.1.1 text
averages_are text v = four_is IsAverage IsAverage IsAverage IsAnyNumber (codes " avg10=") (codes " avg60=") (codes " avg300=") (codes " total=") text v
