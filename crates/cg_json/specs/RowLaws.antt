-- The examples of JSON lines hold: each is computed.
use Rattle.std.proofs.Common.{◌≡◌, ℕ, List, [], ◌∷◌, ◌++◌, refl, ap, ◌∙◌}
use Rattle.std.specs.Fmt.{digits}
use Rattle.std.specs.Str.{is_utf8, chars}
use Rattle.serde_json.proofs.OnLiterals.{serde_json_on_literals}
use Rattle.serde_json.specs.Written.{compact_text}
use Rattle.cg_value.specs.declared.value.Value.{Value}
use Rattle.cg_json.specs.Entry.{tree_of}
use Rattle.cg_json.specs.Rows.{IsWritten, NoQuota, SomeAlone, NoText, TwoDevices, QuoteInKey, TwoRanges, PairsOfAKey, LimitsInByteOrder, WhyInvalid, BelowZero}
use Rattle.cg_json.specs.Rows.{no_quota_line, some_alone_line, no_text_line, two_devices_line, quote_in_key_line, two_ranges_line, pairs_of_a_key_line, limits_in_byte_order_line, why_invalid_line, below_zero_line}

written : (path : List ℕ) (v : Value) (text : List ℕ) → compact_text (tree_of path v) ++ 10 ∷ [] ≡ text → IsWritten path v text
written path v text same e p q = ap (λ w. compact_text (tree_of e.path w) ++ 10 ∷ []) q ∙ ap (λ t. compact_text (tree_of t v) ++ 10 ∷ []) p ∙ same

pub no_quota : NoQuota
unfolding serde_json_on_literals is_utf8 chars digits
no_quota = written _ _ no_quota_line refl

pub some_alone : SomeAlone
unfolding serde_json_on_literals is_utf8 chars digits
some_alone = written _ _ some_alone_line refl

pub no_text : NoText
unfolding serde_json_on_literals is_utf8 chars digits
no_text = written _ _ no_text_line refl

pub two_devices : TwoDevices
unfolding serde_json_on_literals is_utf8 chars digits
two_devices = written _ _ two_devices_line refl

pub quote_in_key : QuoteInKey
unfolding serde_json_on_literals is_utf8 chars digits
quote_in_key = written _ _ quote_in_key_line refl

pub two_ranges : TwoRanges
unfolding serde_json_on_literals is_utf8 chars digits
two_ranges = written _ _ two_ranges_line refl

pub pairs_of_a_key : PairsOfAKey
unfolding serde_json_on_literals is_utf8 chars digits
pairs_of_a_key = written _ _ pairs_of_a_key_line refl

pub limits_in_byte_order : LimitsInByteOrder
unfolding serde_json_on_literals is_utf8 chars digits
limits_in_byte_order = written _ _ limits_in_byte_order_line refl

pub why_invalid : WhyInvalid
unfolding serde_json_on_literals is_utf8 chars digits
why_invalid = written _ _ why_invalid_line refl

pub below_zero : BelowZero
unfolding serde_json_on_literals is_utf8 chars digits
below_zero = written _ _ below_zero_line refl
