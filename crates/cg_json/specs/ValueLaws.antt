-- A value that fits a kind is shown with the kind's word.
use Rattle.std.proofs.Common.{◌≡◌, ap}
use Rattle.cg_value.specs.Files.{Fits}
use Rattle.cg_value.specs.Kind.{read_word}
use Rattle.cg_value.specs.declared.kind.ReadForm.{ReadForm}
use Rattle.cg_value.specs.declared.kind.ReadForm.TheVariants as form
use Rattle.cg_value.specs.declared.value.Value.{Value}
use Rattle.cg_json.specs.Value.{kind_word}

pub word_is : (kind : ReadForm) (v : Value) → Fits kind v → kind_word v ≡ read_word kind
word_is (form.Number lo hi) v f = ap kind_word f.spelled.value
word_is (form.Signed lo hi) v f = ap kind_word f.spelled.value
word_is form.Limit v f = ap kind_word f.spelled.value
word_is form.Mode v f = ap kind_word f.spelled.value
word_is form.Class v f = ap kind_word f.spelled.value
word_is form.CpuMax v f = ap kind_word f.spelled.value
word_is form.Clamp v f = ap kind_word f.spelled.value
word_is (form.Numbers lo hi) v f = ap kind_word f.spelled.value
word_is form.Words v f = ap kind_word f.spelled.value
word_is form.Flat v f = ap kind_word f.spelled.value
word_is form.FlatLimits v f = ap kind_word f.spelled.value
word_is (form.DeviceStats kernel) v f = ap kind_word f.spelled.value
word_is (form.DeviceLimits kernel) v f = ap kind_word f.spelled.value
word_is (form.DeviceWeights most kernel) v f = ap kind_word f.spelled.value
word_is (form.DeviceTargets kernel) v f = ap kind_word f.spelled.value
word_is form.DeviceParams v f = ap kind_word f.spelled.value
word_is (form.Set most) v f = ap kind_word f.spelled.value
word_is form.Partition v f = ap kind_word f.spelled.value
word_is form.Pressure v f = ap kind_word f.spelled.value
word_is form.Nested v f = ap kind_word f.spelled.value
word_is form.NodeStats v f = ap kind_word f.spelled.value
word_is form.Raw v f = ap kind_word f.spelled.value
